-- The numbers of standings, winners, slot verdicts, heals and errors, both ways (docs/FORMAT.md, "The store verdict" and "Refusals").
use Rattle.std.specs.Prelude.{◌≡◌, ℕ, ◌==◌, if◌then◌else◌, Option, Some, None}
use Rattle.std.specs.Option.{option_map}
use Rattle.slot.specs.declared.slot.SlotIndex.{SlotIndex}
use Rattle.slot.specs.Status.{slot_number}
use Rattle.slot.specs.Numbers.{choice_number}
use Rattle.judge.specs.declared.verdict.SlotVerdict.{SlotVerdict}
use Rattle.judge.specs.declared.verdict.Standing.{Standing}
use Rattle.judge.specs.declared.verdict.JudgeError.{JudgeError}

-- 0 Confirmed, 1 Unconfirmed, 2 Lost, 3 Refused.
abbrev pub standing_number : Standing → ℕ
standing_number Standing.Confirmed = 0
standing_number Standing.Unconfirmed = 1
standing_number Standing.Lost = 2
standing_number Standing.Refused = 3

-- 0 Winner, 1 Nothing, 2 OlderDamaged, 3 InFlight, 4 Damage.
abbrev pub slot_verdict_number : SlotVerdict → ℕ
slot_verdict_number SlotVerdict.Winner = 0
slot_verdict_number SlotVerdict.Nothing = 1
slot_verdict_number SlotVerdict.OlderDamaged = 2
slot_verdict_number SlotVerdict.InFlight = 3
slot_verdict_number SlotVerdict.Damage = 4

-- The slot to heal, and its pair, 0 without a heal.
abbrev pub heal_slot : Option (ℕ × SlotIndex) → ℕ
heal_slot None = 0
heal_slot (Some heal) = slot_number heal.1

abbrev pub heal_pair : Option (ℕ × SlotIndex) → ℕ
heal_pair None = 0
heal_pair (Some heal) = heal.0

-- 8 no pair, 9 another number of verdicts, 10 no whole frames or a value out of range, 45 more pairs than are judged.
abbrev pub error_number : JudgeError → ℕ
error_number JudgeError.Empty = 8
error_number JudgeError.OutputLength = 9
error_number JudgeError.OutOfRange = 10
error_number JudgeError.TooManyPairs = 45

-- ---- and back; any higher number is read as the last one

abbrev pub standing_from : ℕ → Standing
standing_from n =
    if n == 0 then Standing.Confirmed else if n == 1 then Standing.Unconfirmed else if n == 2 then Standing.Lost else Standing.Refused

-- A choice of slots, as `choice_number` of the slots numbers it: 0 none, 1 A, 2 B.
abbrev pub choice_from : ℕ → Option SlotIndex
choice_from n = if n == 0 then None else if n == 1 then Some SlotIndex.A else Some SlotIndex.B

abbrev pub slot_verdict_from : ℕ → SlotVerdict
slot_verdict_from n =
    if n == 0 then SlotVerdict.Winner
    else if n == 1 then SlotVerdict.Nothing
    else if n == 2 then SlotVerdict.OlderDamaged
    else if n == 3 then SlotVerdict.InFlight
    else SlotVerdict.Damage

abbrev pub heal_from : ℕ → ℕ → Option (ℕ × SlotIndex)
heal_from slot pair = option_map (λ index. (pair, index)) (choice_from slot)

-- A number stands for what it is of.
pub record NumbersBack : Type 0 where
  pub standing : (s : Standing) → standing_from (standing_number s) ≡ s
  pub choice : (o : Option SlotIndex) → choice_from (choice_number o) ≡ o
  pub slot : (v : SlotVerdict) → slot_verdict_from (slot_verdict_number v) ≡ v
  pub heal : (h : Option (ℕ × SlotIndex)) → heal_from (heal_slot h) (heal_pair h) ≡ h
