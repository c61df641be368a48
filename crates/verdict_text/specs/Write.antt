-- The lines that program `verdicts` prints (docs/FORMAT.md, "The program verdicts"): a line a pair, then one line for the store; or R
-- and a number. Bytes are two lower-case hexadecimal digits each, and a newline ends every line.
use Rattle.std.specs.Prelude.{if◌then◌else◌, List, [], ◌∷◌, ◌++◌, ℕ, ◌+◌, ◌*◌, ◌/◌, ◌%◌, nat_le, length, take, drop, Option, Some, None}
use Rattle.std.specs.Int.{w64, to_le_bytes, from_bool}
use Rattle.std.specs.List.{flat_map}
use Rattle.std.specs.Simd.{first_chunks}
use Rattle.hex.specs.Hex.{encode_lower}
use Rattle.judge.specs.declared.verdict.Judgement.{Judgement}
use Rattle.judge.specs.Frames.{verdict_width}
use Rattle.judge.specs.Values.{heal_slot, heal_pair}
use Rattle.verdict_text.specs.Read.{newline}

-- The bytes' digits and a newline.
abbrev pub line : List ℕ → List ℕ
line bytes = encode_lower bytes ++ newline ∷ []

-- The widths of a verdict's line, of a judgement and of its line, the last one.
abbrev pub verdict_line : ℕ
verdict_line = 2 * verdict_width + 1

abbrev pub judgement_width : ℕ
judgement_width = 9

abbrev pub last_line : ℕ
last_line = 2 * judgement_width + 1

-- R and two decimal digits.
abbrev pub refusal_line : ℕ → List ℕ
refusal_line number = 0x52 ∷ (0x30 + number / 10) ∷ (0x30 + number % 10) ∷ newline ∷ []

-- Heal slot, heal pair in four bytes, writable, clean, refused, whether owners differ.
abbrev pub judgement_bytes : Judgement → List ℕ
judgement_bytes j =
    heal_slot j.heal
    ∷ (take 4 (to_le_bytes w64 (heal_pair j.heal))
    ++ from_bool j.writable ∷ from_bool j.clean ∷ from_bool j.refused ∷ from_bool j.owners_differ ∷ [])

-- A line a verdict, then the last one.
abbrev pub judgement_text : List ℕ → Judgement → List ℕ
judgement_text verdicts j = flat_map line (first_chunks verdict_width (length verdicts / verdict_width) verdicts) ++ line (judgement_bytes j)

-- The bytes in the place of as many at the start of a buffer.
abbrev pub over : List ℕ → List ℕ → List ℕ
over bytes buffer = bytes ++ drop (length bytes) buffer

-- A text is written to the start of a buffer that has room for all of it, and nothing to another: how many bytes are written, and the buffer
-- after that.
abbrev pub written : List ℕ → List ℕ → Option ℕ
written text buffer = if nat_le (length text) (length buffer) then Some (length text) else None

abbrev pub written_over : List ℕ → List ℕ → List ℕ
written_over text buffer = if nat_le (length text) (length buffer) then over text buffer else buffer
