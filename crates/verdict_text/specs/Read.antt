-- The lines that program `verdicts` reads (docs/FORMAT.md, "The program verdicts"): lines of lower-case hexadecimal, each ended by a
-- newline, the clean mark, 00 or 01, then one frame a line.
use Rattle.std.specs.Prelude.{Bool, true, false, not, if◌then◌else◌, ◌==◌, ◌&&◌, ◌||◌, nat_le, List, [], ◌∷◌, ◌++◌, ℕ, Option, Some, None}
use Rattle.std.specs.List.{list_all}
use Rattle.std.specs.Option.{option_map, option_and_then}
use Rattle.std.specs.Result.{result_ok}
use Rattle.hex.specs.Hex.{decode_sized}
use Rattle.judge.specs.Operators.{operator_in_range}
use Rattle.judge.specs.Frames.{frame_width, operator_in, parts_in_range}

abbrev pub newline : ℕ
newline = 0x0a

-- One of 0 to 9 and a to f.
abbrev pub is_digit : ℕ → Bool
is_digit c = (nat_le 0x30 c && nat_le c 0x39) || (nat_le 0x61 c && nat_le c 0x66)

-- A character before a line that is cut off.
abbrev pub before : ℕ → Option (List ℕ × List ℕ) → Option (List ℕ × List ℕ)
before x None = None
before x (Some parts) = Some (x ∷ parts.0, parts.1)

-- A text up to the first c, and after it.
abbrev pub cut : ℕ → List ℕ → Option (List ℕ × List ℕ)
cut c [] = None
cut c (x ∷ text) = if x == c then Some ([], text) else before x (cut c text)

-- 00 or 01.
abbrev pub mark_of : List ℕ → Option Bool
mark_of (a ∷ b ∷ []) = if not (a == 0x30) then None else if b == 0x30 then Some false else if b == 0x31 then Some true else None
mark_of _ = None

-- A frame whose codes, facts and operator are in range; `volume`: of the volume record.
abbrev pub ranged : Bool → Option (List ℕ) → Option (List ℕ)
ranged volume None = None
ranged volume (Some frame) = if parts_in_range frame && operator_in_range volume (operator_in frame) then Some frame else None

-- The frame of a line: two digits a byte, all of them in range.
abbrev pub frame_of : Bool → List ℕ → Option (List ℕ)
frame_of volume line = if list_all is_digit line then ranged volume (result_ok (decode_sized line frame_width)) else None

abbrev pub joined : Option (List ℕ) → Option (List ℕ) → Option (List ℕ)
joined None others = None
joined (Some frame) None = None
joined (Some frame) (Some others) = Some (frame ++ others)

-- The frames of lines, one after the other; `volume`: the first is the volume record's.
abbrev pub frames_of : Bool → List (List ℕ) → Option (List ℕ)
frames_of volume [] = Some []
frames_of volume (line ∷ others) = joined (frame_of volume line) (frames_of false others)

-- A character before the others of the first line; `None` where no newline ends that line.
abbrev pub with_char : ℕ → Option (List (List ℕ)) → Option (List (List ℕ))
with_char c None = None
with_char c (Some []) = None
with_char c (Some (line ∷ others)) = Some ((c ∷ line) ∷ others)

-- The lines of a text: a line is what stands up to a newline. `None` where no newline ends the last one.
abbrev pub lines : List ℕ → Option (List (List ℕ))
lines [] = Some []
lines (c ∷ text) =
    if c == newline then option_map (λ (others : List (List ℕ)). [] ∷ others) (lines text) else with_char c (lines text)

-- The clean mark of the first line, and the frames of the others.
abbrev pub store_of : List (List ℕ) → Option (Bool × List ℕ)
store_of [] = None
store_of (mark ∷ others) =
    option_and_then (λ (clean : Bool). option_map (λ (frames : List ℕ). (clean, frames)) (frames_of true others)) (mark_of mark)

-- The frames of a text of such lines, and the mark and the frames of a whole text.
abbrev pub frames_in : Bool → List ℕ → Option (List ℕ)
frames_in volume text = option_and_then (frames_of volume) (lines text)

abbrev pub store_in : List ℕ → Option (Bool × List ℕ)
store_in text = option_and_then store_of (lines text)
