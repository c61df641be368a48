-- What a C host finds after a call (docs/FORMAT.md, "The C interface"): the number of a refusal, 0 for none, and behind it what stands in
-- the lent places. A refusal leaves each as it was.
use Rattle.std.specs.Prelude.{List, ℕ, Option, option_map, Result, Ok, Err}
use Rattle.std.specs.Option.{option_map_or}
use Rattle.codec.specs.Cursor.{Written, run, read_refusal, write_refusal}
use Rattle.codec.specs.declared.codec.Reader.{Reader}
use Rattle.codec.specs.declared.codec.Writer.{Writer}

-- After a read of the cursor: the refusal, the position and the value.
abbrev pub after_read : {A : Type 0} → ℕ → A → Option (A × Reader) → ℕ × ℕ × A
after_read position old read = (read_refusal read, option_map_or (λ x. x.1.pos) read position, option_map_or (λ x. x.0) read old)

-- Where a run of bytes starts that is read: at the cursor.
abbrev pub run_start : ℕ → List ℕ → ℕ → Option (ℕ × Reader)
run_start count s position = option_map (λ (x : List ℕ × Reader). (position, x.1)) (run count s (record { pos = position }))

-- After a write of the cursor: the refusal, the position and the bytes.
abbrev pub after_write : ℕ → Written → ℕ × ℕ × List ℕ
after_write position w = (write_refusal w.1, option_map_or (λ (next : Writer). next.pos) w.1 position, w.0)

-- After a reader or a check: the refusal, and what is made of its value.
abbrev pub answer : {A B E : Type 0} → (E → ℕ) → (A → B) → B → Result A E → ℕ × B
answer number made old (Ok x) = (0, made x)
answer number made old (Err e) = (number e, old)

-- After a writer: the refusal, the number that it answers, and the bytes.
abbrev pub encoded : {E : Type 0} → (E → ℕ) → ℕ → List ℕ × Result ℕ E → ℕ × ℕ × List ℕ
encoded number old w = let found = answer number (λ (n : ℕ). n) old w.1 in (found.0, found.1, w.0)

-- After a check that answers no more than whether it passed.
abbrev pub refusal : {A E : Type 0} → (E → ℕ) → Result A E → ℕ
refusal number (Ok x) = 0
refusal number (Err e) = number e
