-- The numbers of the slot's enums (docs/FORMAT.md, "Slot status" and "Writing a slot").
use Rattle.std.specs.Prelude.{Bool, true, false, ℕ, Option, Some, None}
use Rattle.slot.specs.declared.slot.SlotIndex.{SlotIndex}
use Rattle.slot.specs.declared.slot.SlotInfo.{SlotInfo}
use Rattle.slot.specs.declared.slot.SlotStatus.{SlotStatus}
use Rattle.slot.specs.declared.slot.EncodeError.{EncodeError}

-- Index: 0 A, 1 B.
abbrev pub index_number : SlotIndex → ℕ
index_number SlotIndex.A = 0
index_number SlotIndex.B = 1

-- Where 0 stands for no slot: 1 A, 2 B.
abbrev pub slot_number : SlotIndex → ℕ
slot_number SlotIndex.A = 1
slot_number SlotIndex.B = 2

abbrev pub other : SlotIndex → SlotIndex
other SlotIndex.A = SlotIndex.B
other SlotIndex.B = SlotIndex.A

-- Slot status codes.
-- 0 is set by the host alone, for a slot that it could not read. 4 and 11 are what a write leaves that was cut in its header or in its
-- payload.
abbrev pub code : SlotStatus → ℕ
code SlotStatus.ReadError = 0
code SlotStatus.BadLength = 1
code SlotStatus.Blank = 2
code SlotStatus.BadMagic = 3
code SlotStatus.BadHeaderCrc = 4
code (SlotStatus.UnsupportedVersion major) = 5
code (SlotStatus.Incompatible flags) = 6
code SlotStatus.Malformed = 7
code SlotStatus.Foreign = 8
code SlotStatus.WrongObject = 9
code SlotStatus.Misplaced = 10
code SlotStatus.BadPayloadCrc = 11
code (SlotStatus.Valid known) = 12

-- What is known of a valid slot.
abbrev pub info : SlotStatus → Option SlotInfo
info (SlotStatus.Valid known) = Some known
info _ = None

abbrev pub is_valid : SlotStatus → Bool
is_valid (SlotStatus.Valid known) = true
is_valid _ = false

-- Refusals to encode: 1 log2; 2 buffer length; 3 payload; 4 generation 0; 5 format, or number in format 1.
abbrev pub error_number : EncodeError → ℕ
error_number EncodeError.SlotSize = 1
error_number EncodeError.BufferLength = 2
error_number EncodeError.PayloadTooLarge = 3
error_number EncodeError.ZeroGeneration = 4
error_number EncodeError.Format = 5
