-- What `next_write` promises of cuts is not empty (docs/FORMAT.md, "What a correct write is"): over the frames of a store of
-- crates/cut_examples it plans and encodes two of the writes there, and cuts of them meet what the promise asks for.
use Rattle.std.specs.Prelude.{◌≡◌, List, [], ◌∷◌, ℕ, length, Some, Ok}
use Rattle.slot.specs.declared.slot.SlotIndex.{SlotIndex}
use Rattle.cut.specs.Store.{Every, frames}
use Rattle.cut.specs.Cut.{Write, store, new, Survives}
use Rattle.plan.specs.declared.write.Plan.{Plan}
use Rattle.plan.specs.Next.{next_write}
use Rattle.plan.specs.Promise.{write_of, PlannedFor}
use Rattle.cut_examples.specs.Writes.{page_write, second_write}

-- With owner generation 1 and no compatible flag.
pub record NextWriteIs (w : Write) (plan : Plan) (crc : ℕ) : Type 0 where
  -- `next_write` gives this plan and this checksum of the header, and writes the bytes of w into its buffer.
  pub encoded : next_write (frames (store w)) (length w.before) w.pair.a.expect w.pair.b.expect 1 0 w.payload w.buffer ≡ (new w, Ok (Some (plan, crc)))
  -- The write by this plan is w.
  pub same : write_of w.before w.pair w.behind plan 1 0 w.payload w.buffer w.tear ≡ w
  -- What its promise asks for is met,
  pub asked : PlannedFor (frames (store w)) (length w.before) w.pair.a.expect w.pair.b.expect w.payload (Ok (Some (plan, crc))) w.before w.pair w.behind plan
  -- and what it promises follows.
  pub survives : (out : List ℕ) → length out ≡ 12 → Survives w out

-- The page of pair 1: to slot A, which is not the winner, generation 3 after B's 2 with its checksum, and number 5 after operator 0's highest, 4.
abbrev pub page_plan : Plan
page_plan = record { index = SlotIndex.A; generation = 3; prev_header_crc32c = 0xe83c_e718; meta_seq = 5 }

abbrev pub PagePlanned : Type 0
PagePlanned = Every (λ (k : ℕ). NextWriteIs (page_write k) page_plan 0xd61e_00d0) (0 ∷ 8 ∷ 11 ∷ 64 ∷ 127 ∷ 128 ∷ 133 ∷ 134 ∷ 512 ∷ [])

-- That of pair 2: to the Blank slot B, generation 2 after A's 1 with its checksum, and number 4 after operator 1's highest, 3.
abbrev pub second_plan : Plan
second_plan = record { index = SlotIndex.B; generation = 2; prev_header_crc32c = 0x2c8c_2a3c; meta_seq = 4 }

abbrev pub SecondPlanned : Type 0
SecondPlanned = NextWriteIs (second_write 140) second_plan 0x1916_772d
