-- What `decide` says of the parts of a frame is what it says of the slots that the frame is of, as far as the parts hold it.
use Rattle.std.proofs.Common.{◌≡◌, refl, sym, ◌∙◌, Bool, true, false, cond, ◌||◌, nat_eq, nat_lt, ℕ, Option, Some, None, option_map, arith}
use Rattle.std.proofs.lemmas.Option.{some_pair_parts}
use Rattle.slot.specs.Status.{info}
use Rattle.slot.specs.declared.slot.SlotIndex.{SlotIndex}
use Rattle.slot.specs.declared.slot.SlotInfo.{SlotInfo}
use Rattle.slot.specs.declared.slot.SlotStatus.{SlotStatus}
use Rattle.slot.specs.declared.slot.HeaderFacts.{HeaderFacts}
use Rattle.pair.specs.Pair.{refused, explains_survivor, plain, ordered, two_valid, none_valid, by_info, decide, status, named, info_by, winner_info}
use Rattle.pair.specs.declared.pair.PairReport.{PairReport}
use Rattle.pair.specs.declared.pair.Winner.{Winner}
use Rattle.judge.specs.Part.{version_of_info, info_of, part_of}
use Rattle.judge.specs.Same.{filled}
use Rattle.judge.specs.declared.pairs.Version.{Version}
use Rattle.plan.specs.Pairs.{status_or_unread}
use Rattle.plan.specs.Plan.{followed}

-- What a part holds of a Valid slot's facts, of a status and of a report.
abbrev held_info : SlotInfo → SlotInfo
held_info i = info_of (version_of_info i)

abbrev pub held : SlotStatus → SlotStatus
held (SlotStatus.Valid i) = SlotStatus.Valid (held_info i)
held (SlotStatus.UnsupportedVersion major) = SlotStatus.UnsupportedVersion 0
held (SlotStatus.Incompatible flags) = SlotStatus.Incompatible 0
held status = status

abbrev pub held_report : PairReport → PairReport
held_report r =
    record { a = held r.a; b = held r.b; winner = r.winner; generation_gap = r.generation_gap; chain_break = r.chain_break }

pub part_holds : (rest : Version) (st : SlotStatus) (f : Option HeaderFacts) → status_or_unread (filled rest (part_of st f)) ≡ held st
unfolding filled
part_holds rest SlotStatus.ReadError f = refl
part_holds rest SlotStatus.BadLength f = refl
part_holds rest SlotStatus.Blank f = refl
part_holds rest SlotStatus.BadMagic f = refl
part_holds rest SlotStatus.BadHeaderCrc f = refl
part_holds rest (SlotStatus.UnsupportedVersion major) f = refl
part_holds rest (SlotStatus.Incompatible flags) f = refl
part_holds rest SlotStatus.Malformed f = refl
part_holds rest SlotStatus.Foreign f = refl
part_holds rest SlotStatus.WrongObject f = refl
part_holds rest SlotStatus.Misplaced f = refl
part_holds rest SlotStatus.BadPayloadCrc f = refl
part_holds rest (SlotStatus.Valid i) f = refl

-- ---- what `decide` looks at

record Alike (s : SlotStatus) : Type 0 where
  pub refused_is : refused (held s) ≡ refused s
  pub explains_is : explains_survivor (held s) ≡ explains_survivor s
  pub info_is : info (held s) ≡ option_map held_info (info s)

alike : (s : SlotStatus) → Alike s
alike SlotStatus.ReadError = record { refused_is = refl; explains_is = refl; info_is = refl }
alike SlotStatus.BadLength = record { refused_is = refl; explains_is = refl; info_is = refl }
alike SlotStatus.Blank = record { refused_is = refl; explains_is = refl; info_is = refl }
alike SlotStatus.BadMagic = record { refused_is = refl; explains_is = refl; info_is = refl }
alike SlotStatus.BadHeaderCrc = record { refused_is = refl; explains_is = refl; info_is = refl }
alike (SlotStatus.UnsupportedVersion major) = record { refused_is = refl; explains_is = refl; info_is = refl }
alike (SlotStatus.Incompatible flags) = record { refused_is = refl; explains_is = refl; info_is = refl }
alike SlotStatus.Malformed = record { refused_is = refl; explains_is = refl; info_is = refl }
alike SlotStatus.Foreign = record { refused_is = refl; explains_is = refl; info_is = refl }
alike SlotStatus.WrongObject = record { refused_is = refl; explains_is = refl; info_is = refl }
alike SlotStatus.Misplaced = record { refused_is = refl; explains_is = refl; info_is = refl }
alike SlotStatus.BadPayloadCrc = record { refused_is = refl; explains_is = refl; info_is = refl }
alike (SlotStatus.Valid i) = record { refused_is = refl; explains_is = refl; info_is = refl }

abbrev is_blank : SlotStatus → Bool
is_blank SlotStatus.Blank = true
is_blank _ = false

blank_held : (s : SlotStatus) → is_blank (held s) ≡ is_blank s
blank_held SlotStatus.ReadError = refl
blank_held SlotStatus.BadLength = refl
blank_held SlotStatus.Blank = refl
blank_held SlotStatus.BadMagic = refl
blank_held SlotStatus.BadHeaderCrc = refl
blank_held (SlotStatus.UnsupportedVersion major) = refl
blank_held (SlotStatus.Incompatible flags) = refl
blank_held SlotStatus.Malformed = refl
blank_held SlotStatus.Foreign = refl
blank_held SlotStatus.WrongObject = refl
blank_held SlotStatus.Misplaced = refl
blank_held SlotStatus.BadPayloadCrc = refl
blank_held (SlotStatus.Valid i) = refl

blank_valid : (a b : SlotStatus) → none_valid a b ≡ cond (is_blank a) (cond (is_blank b) Winner.Empty Winner.Lost) Winner.Lost
blank_valid a b = grind arith

none_held : (a b : SlotStatus) → none_valid (held a) (held b) ≡ none_valid a b
none_held a b = blank_valid (held a) (held b) ∙ rw (blank_held a, blank_held b) (sym (blank_valid a b))

module _ (a b : SlotStatus) where
  two_held : (ia ib : SlotInfo) → two_valid (held a) (held b) (held_info ia) (held_info ib) ≡ held_report (two_valid a b ia ib)
  two_held ia ib = go (nat_eq ia.generation ib.generation) (nat_lt ib.generation ia.generation)
    where
      go : (same above : Bool)
          → cond same (plain (held a) (held b) Winner.Fork)
          (cond above (ordered (held a) (held b) SlotIndex.A (held_info ia) (held_info ib)) (ordered (held a) (held b) SlotIndex.B (held_info ib) (held_info ia)))
          ≡ held_report (cond same (plain a b Winner.Fork) (cond above (ordered a b SlotIndex.A ia ib) (ordered a b SlotIndex.B ib ia)))
      go true above = refl
      go false true = refl
      go false false = refl

  info_held : (ia ib : Option SlotInfo)
      → by_info (held a) (held b) (option_map held_info ia) (option_map held_info ib) ≡ held_report (by_info a b ia ib)
  info_held (Some ia) (Some ib) = two_held ia ib
  info_held (Some ia) None = rw ((alike b).explains_is) refl
  info_held None (Some ib) = rw ((alike a).explains_is) refl
  info_held None None = rw (none_held a b) refl

  pub decide_held : decide (held a) (held b) ≡ held_report (decide a b)
  unfolding decide
  decide_held =
      rw ((alike a).refused_is, (alike b).refused_is, (alike a).info_is, (alike b).info_is) (go (refused a || refused b))
    where
      go : (r : Bool)
          → cond r (plain (held a) (held b) Winner.Refused) (by_info (held a) (held b) (option_map held_info (info a)) (option_map held_info (info b)))
          ≡ held_report (cond r (plain a b Winner.Refused) (by_info a b (info a) (info b)))
      go true = refl
      go false = info_held (info a) (info b)

-- ---- the winner

pub winner_held : (r : PairReport) (index : SlotIndex) (i : SlotInfo) → winner_info r ≡ Some (index, i)
    → winner_info (held_report r) ≡ Some (index, held_info i)
winner_held r index i is = go r.winner is
  where
    known : (w : SlotIndex) → status (held_report r) w ≡ held (status r w)
    known SlotIndex.A = refl
    known SlotIndex.B = refl

    at : (w : SlotIndex) (k : Option SlotInfo) → named w k ≡ Some (index, i) → named w (option_map held_info k) ≡ Some (index, held_info i)
    at w None is = absurd cc
    at w (Some j) is = let same = some_pair_parts w index j i is in rw (same.0, same.1) refl

    slot : (w : SlotIndex) → named w (info (status r w)) ≡ Some (index, i) → named w (info (status (held_report r) w)) ≡ Some (index, held_info i)
    slot w is = rw (known w, (alike (status r w)).info_is) (at w (info (status r w)) is)

    go : (w : Winner) → info_by r w ≡ Some (index, i) → info_by (held_report r) w ≡ Some (index, held_info i)
    go Winner.Empty is = absurd cc
    go (Winner.Confirmed w) is = slot w is
    go (Winner.Unconfirmed w) is = slot w is
    go Winner.Fork is = absurd cc
    go Winner.Refused is = absurd cc
    go Winner.Lost is = absurd cc

pub followed_held : (r : PairReport) (index : SlotIndex) (i : SlotInfo) → winner_info r ≡ Some (index, i)
    → ◌≡◌ {A = ℕ × ℕ} (followed (held_report r)) (i.generation, i.header_crc32c)
followed_held r index i is = rw (winner_held r index i is) refl
