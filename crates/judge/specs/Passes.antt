-- The passes as the code makes them (docs/FORMAT.md, "The store verdict"), a pair at a time: the first verdicts by the two highest numbers
-- of the pair's operator, the tally so far, and the slot to heal found so far. That they give the same as the definition is a law
-- (proofs/PassLaws.antt).
use Rattle.std.specs.Prelude.{Bool, false, not, ◌&&◌, ◌||◌, List, [], ◌∷◌, ℕ, ◌+◌, if◌then◌else◌, map, Option}
use Rattle.std.specs.Option.{option_or}
use Rattle.slot.specs.declared.slot.SlotIndex.{SlotIndex}
use Rattle.judge.specs.declared.pairs.Pair.{Pair}
use Rattle.judge.specs.declared.pairs.PairCase.{PairCase}
use Rattle.judge.specs.declared.numbers.OperatorMaxima.{OperatorMaxima}
use Rattle.judge.specs.Pairs.{pair_case, has_candidate}
use Rattle.judge.specs.Maxima.{maxima_of, by_maxima}
use Rattle.judge.specs.declared.verdict.PairVerdict.{PairVerdict}
use Rattle.judge.specs.declared.verdict.Tally.{Tally}
use Rattle.judge.specs.Verdict.{pair_verdict, in_flight, is_confirmed, is_refused}
use Rattle.judge.specs.Judge.{pair_heal}

abbrev pub verdict_by : OperatorMaxima → Pair → PairVerdict
verdict_by c p = pair_verdict (by_maxima (maxima_of c p.operator)) (pair_case p)

abbrev pub verdicts_by : OperatorMaxima → List Pair → List PairVerdict
verdicts_by c ps = map (verdict_by c) ps

abbrev pub no_tally : Tally
no_tally = record { candidates = 0; page_had_candidate = false; troubled = false; refused = false }

-- The tally with one more pair; `volume`: it is the volume record.
abbrev pub tallied : Tally → Bool → PairCase → PairVerdict → Tally
tallied t volume case v =
    record {
      candidates = if in_flight v then t.candidates + 1 else t.candidates;
      page_had_candidate = t.page_had_candidate || (not volume && has_candidate case);
      troubled = t.troubled || not (is_confirmed v.standing);
      refused = t.refused || is_refused v.standing;
    }

-- The tally with the pairs of a row; `volume`: its first pair is the volume record.
abbrev pub tallies : OperatorMaxima → Bool → Tally → List Pair → Tally
tallies c volume t [] = t
tallies c volume t (p ∷ ps) = tallies c false (tallied t volume (pair_case p) (verdict_by c p)) ps

-- The slot found with the pairs from the ith on, after what was found before.
abbrev pub heals : ℕ → Option (ℕ × SlotIndex) → List PairVerdict → Option (ℕ × SlotIndex)
heals i before [] = before
heals i before (v ∷ vs) = heals (i + 1) (option_or (pair_heal i v) before) vs
