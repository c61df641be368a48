-- A choice of slots and a status as numbers, this one both ways (docs/FORMAT.md, "Slot status" and "The C interface").
use Rattle.std.specs.Prelude.{◌≡◌, List, [], ◌∷◌, ℕ, ◌==◌, if◌then◌else◌, map, replicate, Option, Some, None, option_map}
use Rattle.slot.specs.Status.{code, slot_number}
use Rattle.slot.specs.declared.slot.SlotIndex.{SlotIndex}
use Rattle.slot.specs.declared.slot.SlotInfo.{SlotInfo}
use Rattle.slot.specs.declared.slot.SlotStatus.{SlotStatus}

-- A slot or none: 0 none, 1 A, 2 B.
abbrev pub choice_number : Option SlotIndex → ℕ
choice_number None = 0
choice_number (Some index) = slot_number index

-- What is known of a valid slot, in nine numbers.
abbrev pub info_values : SlotInfo → List ℕ
info_values i =
    i.generation
    ∷ i.owner_generation
    ∷ i.header_crc32c
    ∷ i.prev_header_crc32c
    ∷ i.ro_compat_flags
    ∷ i.compat_flags
    ∷ i.meta_seq
    ∷ i.payload_start
    ∷ i.payload_len
    ∷ []

-- The values that go with a status, zeros after them: the format of UnsupportedVersion, the flags of Incompatible.
abbrev pub status_values : SlotStatus → List ℕ
status_values (SlotStatus.UnsupportedVersion major) = major ∷ replicate 8 0
status_values (SlotStatus.Incompatible flags) = flags ∷ replicate 8 0
status_values (SlotStatus.Valid i) = info_values i
status_values _ = replicate 9 0

-- The number of a status and its values.
abbrev pub status_numbers : SlotStatus → List ℕ
status_numbers s = code s ∷ status_values s

-- The status with a number from 0 to 12; of a valid slot these facts.
abbrev pub status_of : ℕ → SlotInfo → Option SlotStatus
status_of c i =
    if c == 0 then Some SlotStatus.ReadError
    else if c == 1 then Some SlotStatus.BadLength
    else if c == 2 then Some SlotStatus.Blank
    else if c == 3 then Some SlotStatus.BadMagic
    else if c == 4 then Some SlotStatus.BadHeaderCrc
    else if c == 5 then Some (SlotStatus.UnsupportedVersion 0)
    else if c == 6 then Some (SlotStatus.Incompatible 0)
    else if c == 7 then Some SlotStatus.Malformed
    else if c == 8 then Some SlotStatus.Foreign
    else if c == 9 then Some SlotStatus.WrongObject
    else if c == 10 then Some SlotStatus.Misplaced
    else if c == 11 then Some SlotStatus.BadPayloadCrc
    else if c == 12 then Some (SlotStatus.Valid i)
    else None

-- The status of a number has this number; 13 is none's.
abbrev pub StatusNumbers : Type 0
StatusNumbers =
    (i : SlotInfo)
    → map (λ c. option_map code (status_of c i)) (0 ∷ 1 ∷ 2 ∷ 3 ∷ 4 ∷ 5 ∷ 6 ∷ 7 ∷ 8 ∷ 9 ∷ 10 ∷ 11 ∷ 12 ∷ 13 ∷ [])
    ≡ Some 0 ∷ Some 1 ∷ Some 2 ∷ Some 3 ∷ Some 4 ∷ Some 5 ∷ Some 6 ∷ Some 7 ∷ Some 8 ∷ Some 9 ∷ Some 10 ∷ Some 11 ∷ Some 12 ∷ None ∷ []
