-- What is promised of a next write, over all that it asks for, written out.
use Rattle.std.proofs.Common.{◌≡◌, refl, sym, List, ◌∷◌, ◌++◌, ℕ, ◌*◌, ◌^◌, ◌<◌, length, Some, Ok, ◌⊎◌, true, false, []}
use Rattle.codec.specs.Bytes.{AllBytes}
use Rattle.judge.specs.Frames.{verdict_width}
use Rattle.cut.specs.Store.{store_mark, Pair, accepts, slot_at, frames, Sound}
use Rattle.cut.specs.Cut.{Tear, Ascending, Sectors, size, left, Possible, AccidentBy, Survives}
use Rattle.plan.specs.declared.write.Plan.{Plan}
use Rattle.plan.specs.Next.{next_write as next_by}
use Rattle.plan.specs.Promise.{write_of, NextWriteSurvived}
use Rattle.plan.proofs.CorrectLaws.{survives_cuts, any_planned_for}

pub next_write_survived : NextWriteSurvived
next_write_survived =
    record {
      ascending = λ before p behind owner compat payload buffer written plan crc k verdicts sound either owner_fits compat_fits bytes accepted_it is point none room.
          promised before p behind owner compat payload buffer written plan crc sound either owner_fits compat_fits bytes accepted_it is (Ascending k) verdicts point none room;
      sectors = λ before p behind owner compat payload buffer written plan crc reached verdicts sound either owner_fits compat_fits bytes accepted_it is none room.
          promised before p behind owner compat payload buffer written plan crc sound either owner_fits compat_fits bytes accepted_it is (Sectors reached) verdicts tt none room;
    }
  where
    promised : (before : List Pair) (p : Pair) (behind : List Pair) (owner compat : ℕ) (payload buffer written : List ℕ) (plan : Plan) (crc : ℕ)
        → Sound (before ++ p ∷ behind) → (store_mark (before ++ p ∷ behind) ≡ false) ⊎ (before ≡ [])
        → owner < 2 ^ 64 → compat < 2 ^ 32 → AllBytes payload → accepts p.decoder payload ≡ true
        → next_by (frames (before ++ p ∷ behind)) (length before) p.a.expect p.b.expect owner compat payload buffer ≡ (written, Ok (Some (plan, crc)))
        → (tear : Tear) (verdicts : List ℕ)
        → Possible tear (size (write_of before p behind plan owner compat payload buffer tear))
        → (AccidentBy tear (left (write_of before p behind plan owner compat payload buffer tear)) (slot_at plan.index p).bytes written payload → ⊥)
        → length verdicts ≡ length (before ++ p ∷ behind) * verdict_width
        → Survives (write_of before p behind plan owner compat payload buffer tear) verdicts
    promised before p behind owner compat payload buffer written plan crc sound either owner_fits compat_fits bytes accepted_it is tear verdicts possible none room =
        (survives_cuts (frames (before ++ p ∷ behind)) (length before) p.a.expect p.b.expect owner compat payload buffer written (Ok (Some (plan, crc)))
        owner_fits compat_fits bytes (sym is) before p behind plan tear verdicts
        (any_planned_for (frames (before ++ p ∷ behind)) (length before) p.a.expect p.b.expect payload (Ok (Some (plan, crc))) before p behind plan crc
        sound either refl refl refl refl refl accepted_it)
        possible none room).1
