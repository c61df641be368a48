-- What stands in a line of a list of cases, as crates/cases/src/lib.rt has it.
--
-- The fields of a line: the name up to the first space, the input up to the second, and after it what is expected.
use Rattle.std.specs.Prelude.{if◌then◌else◌, ◌==◌, List, [], ◌∷◌, ℕ, Option, Some, None}
use Rattle.std.specs.List.{list_all}
use Rattle.std.specs.Option.{option_map, option_and_then}
use Rattle.std.specs.Result.{result_ok}
use Rattle.std.specs.declared.vec.Vec.{Vec}
use Rattle.std.specs.declared.alloc.Global.{Global}
use Rattle.hex.specs.Hex.{decode_of}
use Rattle.verdict_text.specs.Read.{is_digit, cut}

abbrev pub rest_fields : List ℕ × List ℕ → Option (List ℕ × List ℕ × List ℕ)
rest_fields parts = option_map (λ (others : List ℕ × List ℕ). (parts.0, others.0, others.1)) (cut 0x20 parts.1)

abbrev pub fields : List ℕ → Option (List ℕ × List ℕ × List ℕ)
fields line = option_and_then rest_fields (cut 0x20 line)

-- The bytes of a field, two lower-case digits each: "-" stands for no bytes, and no field is empty.
abbrev pub field_bytes : List ℕ → Option (List ℕ)
field_bytes [] = None
field_bytes (c ∷ []) = if c == 0x2d then Some [] else None
field_bytes (high ∷ low ∷ rest) = if list_all is_digit (high ∷ low ∷ rest) then result_ok (decode_of (high ∷ low ∷ rest)) else None

abbrev pub items_of : Option (Vec ℕ Global) → Option (List ℕ)
items_of bytes = option_map (λ (v : Vec ℕ Global). v.items) bytes
