-- What a C host finds of a slot (docs/FORMAT.md, "The C interface"): a number, and the values behind it.
use Rattle.std.specs.Prelude.{List, [], ◌∷◌, ℕ, Option}
use Rattle.slot.specs.Numbers.{status_values}
use Rattle.slot.specs.Read.{validate, header_facts}
use Rattle.slot.specs.Status.{code}
use Rattle.slot.specs.declared.slot.Expect.{Expect}
use Rattle.slot.specs.declared.slot.HeaderFacts.{HeaderFacts}
use Rattle.slot.specs.declared.slot.SlotStatus.{SlotStatus}
use Rattle.judge.specs.Part.{facts_number, version_of_facts, part_of, part_bytes}

-- The status and its values.
abbrev pub status_answer : SlotStatus → ℕ × List ℕ
status_answer s = (code s, status_values s)

-- Stored checksum, generation, number, previous checksum; zeros for those not shown.
abbrev pub facts_values : Option HeaderFacts → List ℕ
facts_values f =
    let v = version_of_facts f in
    v.header_crc32c ∷ v.generation ∷ v.meta_seq ∷ v.prev_header_crc32c ∷ []

-- The number of facts and their values.
abbrev pub facts_answer : Option HeaderFacts → ℕ × List ℕ
facts_answer f = (facts_number f, facts_values f)

-- The status, and the slot's part of a frame.
abbrev pub part_answer : List ℕ → Expect → ℕ × List ℕ
part_answer s e = (code (validate s e), part_bytes (part_of (validate s e) (header_facts s e)))
