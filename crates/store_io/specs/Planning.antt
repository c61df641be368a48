-- What a C host finds after a plan (docs/FORMAT.md, "The C interface").
use Rattle.std.specs.Prelude.{◌≡◌, List, ◌∷◌, [], ℕ, replicate, map, Option, Some, None, Result, Ok, Err}
use Rattle.slot.specs.Status.{slot_number}
use Rattle.slot.specs.declared.slot.EncodeError.{EncodeError}
use Rattle.slot.specs.declared.slot.Expect.{Expect}
use Rattle.slot.specs.declared.slot.SlotIndex.{SlotIndex}
use Rattle.judge.specs.declared.verdict.JudgeError.{JudgeError}
use Rattle.plan.specs.Error.{error_number}
use Rattle.plan.specs.declared.error.PlanError.{PlanError}
use Rattle.plan.specs.declared.write.Plan.{Plan}
use Rattle.store_io.specs.Arguments.{expect_of}

-- The slot (1 A, 2 B), its generation, the previous checksum and the number; zeros where nothing is planned.
abbrev pub plan_values : Option Plan → List ℕ
plan_values None = replicate 4 0
plan_values (Some p) = slot_number p.index ∷ p.generation ∷ p.prev_header_crc32c ∷ p.meta_seq ∷ []

-- The pair before them; zeros where nothing is healed.
abbrev pub heal_values : Option (ℕ × Plan) → List ℕ
heal_values None = replicate 5 0
heal_values (Some heal) = heal.0 ∷ plan_values (Some heal.1)

-- A slot that is read as numbered in format 2.
abbrev pub numbered_slot : ℕ → ℕ → ℕ → ℕ → ℕ → ℕ → Expect
numbered_slot volume0 volume1 object offset index log2 = expect_of volume0 volume1 object offset index log2 2 1

-- The refusal, the plan and the header's checksum: both kept at a refusal, the checksum also where nothing is planned.
abbrev pub next_found : List ℕ → ℕ → Result (Option (Plan × ℕ)) PlanError → ℕ × List ℕ × ℕ
next_found plan crc (Err error) = (error_number error, plan, crc)
next_found plan crc (Ok None) = (0, plan_values None, crc)
next_found plan crc (Ok (Some next)) = (0, plan_values (Some next.0), next.1)

-- Beside them the slot's bytes.
abbrev pub next_answer : List ℕ → ℕ → List ℕ × Result (Option (Plan × ℕ)) PlanError → ℕ × List ℕ × ℕ × List ℕ
next_answer plan crc w = let found = next_found plan crc w.1 in (found.0, found.1, found.2, w.0)

-- ---- their places and numbers, spelled

abbrev pub some_plan : SlotIndex → Plan
some_plan index = record { index = index; generation = 3; prev_header_crc32c = 4; meta_seq = 5 }

abbrev pub PlanPlaces : Type 0
PlanPlaces =
    (plan_values (Some (some_plan SlotIndex.A)) ≡ 1 ∷ 3 ∷ 4 ∷ 5 ∷ [])
    × (plan_values (Some (some_plan SlotIndex.B)) ≡ 2 ∷ 3 ∷ 4 ∷ 5 ∷ [])
    × (plan_values None ≡ 0 ∷ 0 ∷ 0 ∷ 0 ∷ [])
    × (heal_values (Some (6, some_plan SlotIndex.B)) ≡ 6 ∷ 2 ∷ 3 ∷ 4 ∷ 5 ∷ [])
    × (heal_values None ≡ 0 ∷ 0 ∷ 0 ∷ 0 ∷ 0 ∷ [])
    × (numbered_slot 1 2 3 4 1 6 ≡ expect_of 1 2 3 4 1 6 2 1)
    × (map error_number
    (PlanError.Frames JudgeError.Empty ∷ PlanError.Frames JudgeError.TooManyPairs ∷ PlanError.Frames JudgeError.OutOfRange ∷ PlanError.NoPair
    ∷ PlanError.UsedUp ∷ [])
    ≡ 8 ∷ 45 ∷ 10 ∷ 8 ∷ 48 ∷ [])
    × (map error_number
    (PlanError.Encode EncodeError.SlotSize ∷ PlanError.Encode EncodeError.BufferLength ∷ PlanError.Encode EncodeError.PayloadTooLarge ∷ [])
    ≡ 1 ∷ 2 ∷ 3 ∷ [])
