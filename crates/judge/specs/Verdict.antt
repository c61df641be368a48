-- The verdict on one pair after the first pass (docs/FORMAT.md, "The store verdict").
use Rattle.std.specs.Prelude.{Bool, true, false, ◌||◌, ℕ, if◌then◌else◌, Option, Some, None}
use Rattle.slot.specs.declared.slot.SlotIndex.{SlotIndex}
use Rattle.slot.specs.Status.{other}
use Rattle.judge.specs.declared.pairs.Opposite.{Opposite}
use Rattle.judge.specs.declared.pairs.PairCase.{PairCase}
use Rattle.judge.specs.declared.verdict.SlotVerdict.{SlotVerdict}
use Rattle.judge.specs.declared.verdict.Standing.{Standing}
use Rattle.judge.specs.declared.verdict.PairVerdict.{PairVerdict}

-- x for A, y for B.
abbrev pub by_index : {T : Type 0} → SlotIndex → T → T → T
by_index SlotIndex.A x y = x
by_index SlotIndex.B x y = y

-- The slot opposite the winner, where `qualifies` says which numbers qualify.
-- A candidate that does not qualify is not the last write of the store, so no power cut explains it.
abbrev pub slot_verdict : (Option ℕ → Bool) → Opposite → SlotVerdict
slot_verdict qualifies Opposite.Nothing = SlotVerdict.Nothing
slot_verdict qualifies Opposite.OlderDamaged = SlotVerdict.OlderDamaged
slot_verdict qualifies (Opposite.Candidate seq) = if qualifies seq then SlotVerdict.InFlight else SlotVerdict.Damage
slot_verdict qualifies Opposite.Damage = SlotVerdict.Damage

-- The winner's standing beside a slot of this verdict.
-- Beside damage the winner is Unconfirmed: a newer record may have been destroyed.
abbrev pub standing_beside : SlotVerdict → Standing
standing_beside SlotVerdict.Damage = Standing.Unconfirmed
standing_beside _ = Standing.Confirmed

-- The winner at the index beside a slot of this verdict.
abbrev pub winner_beside : SlotIndex → SlotVerdict → PairVerdict
winner_beside index v =
    record {
      standing = standing_beside v;
      winner = Some index;
      a = by_index index SlotVerdict.Winner v;
      b = by_index index v SlotVerdict.Winner;
    }

abbrev pub no_winner : Standing → PairVerdict
no_winner s = record { standing = s; winner = None; a = SlotVerdict.Damage; b = SlotVerdict.Damage }

-- `qualifies` says which numbers qualify in which slot.
abbrev pub pair_verdict : (SlotIndex → Option ℕ → Bool) → PairCase → PairVerdict
pair_verdict qualifies PairCase.Refused = no_winner Standing.Refused
pair_verdict qualifies PairCase.Lost = no_winner Standing.Lost
pair_verdict qualifies (PairCase.Won index o) = winner_beside index (slot_verdict (qualifies (other index)) o)

-- ---- questions to a verdict

abbrev pub is_in_flight : SlotVerdict → Bool
is_in_flight SlotVerdict.InFlight = true
is_in_flight _ = false

-- A slot of the pair is in flight.
abbrev pub in_flight : PairVerdict → Bool
in_flight v = is_in_flight v.a || is_in_flight v.b

abbrev pub is_confirmed : Standing → Bool
is_confirmed Standing.Confirmed = true
is_confirmed _ = false

abbrev pub is_refused : Standing → Bool
is_refused Standing.Refused = true
is_refused _ = false

abbrev pub is_unconfirmed : Standing → Bool
is_unconfirmed Standing.Unconfirmed = true
is_unconfirmed _ = false

-- Lost or Refused.
abbrev pub is_without_winner : Standing → Bool
is_without_winner Standing.Lost = true
is_without_winner Standing.Refused = true
is_without_winner _ = false
