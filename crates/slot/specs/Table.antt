-- The layout of the header and the numbers of its enums (docs/FORMAT.md, "The slot" and "Slot status"), spelled out: bytes that count up
-- show each field's place and width.
use Rattle.std.specs.Prelude.{◌≡◌, ℕ, zero, suc, ◌+◌, List, [], ◌∷◌, ◌++◌, map, replicate}
use Rattle.slot.specs.Status.{index_number, slot_number, code, error_number}
use Rattle.slot.specs.Header.{header}
use Rattle.slot.specs.Write.{header_bytes}
use Rattle.slot.specs.declared.slot.SlotIndex.{SlotIndex}
use Rattle.slot.specs.declared.slot.SlotInfo.{SlotInfo}
use Rattle.slot.specs.declared.slot.SlotFields.{SlotFields}
use Rattle.slot.specs.declared.slot.SlotStatus.{SlotStatus}
use Rattle.slot.specs.declared.slot.EncodeError.{EncodeError}
use Rattle.slot.specs.declared.header.Header.{Header}

-- n numbers from k on, each one up.
abbrev pub count : ℕ → ℕ → List ℕ
count zero k = []
count (suc n) k = k ∷ count n (k + 1)

-- A header of which each byte is its own offset.
abbrev pub counted : Header
counted =
    record {
      magic = 0 ∷ 1 ∷ 2 ∷ 3 ∷ 4 ∷ 5 ∷ 6 ∷ 7 ∷ [];
      header_crc32c = 0x0B0A_0908;
      header_len = 0x0D0C;
      format_major = 0x0F0E;
      incompat_flags = 0x1312_1110;
      ro_compat_flags = 0x1716_1514;
      compat_flags = 0x1B1A_1918;
      payload_crc32c = 0x1F1E_1D1C;
      volume_uuid = 32 ∷ 33 ∷ 34 ∷ 35 ∷ 36 ∷ 37 ∷ 38 ∷ 39 ∷ 40 ∷ 41 ∷ 42 ∷ 43 ∷ 44 ∷ 45 ∷ 46 ∷ 47 ∷ [];
      object_id = 0x3736_3534_3332_3130;
      generation = 0x3F3E_3D3C_3B3A_3938;
      slot_offset = 0x4746_4544_4342_4140;
      payload_len = 0x4B4A_4948;
      slot_index = 76;
      slot_count = 77;
      log2_slot_size = 78;
      reserved0 = 79;
      prev_header_crc32c = 0x5352_5150;
      reserved1 = 0x5756_5554;
      owner_generation = 0x5F5E_5D5C_5B5A_5958;
      meta_seq = 0x6766_6564_6362_6160;
      reserved2 = count 24 104;
    }

-- Fields of which each byte is the offset that it is written at.
abbrev pub counted_fields : SlotFields
counted_fields =
    record {
      volume_uuid = counted.volume_uuid;
      object_id = counted.object_id;
      generation = counted.generation;
      owner_generation = counted.owner_generation;
      slot_offset = counted.slot_offset;
      slot_index = SlotIndex.B;
      log2_slot_size = counted.log2_slot_size;
      prev_header_crc32c = counted.prev_header_crc32c;
      format_major = counted.format_major;
      meta_seq = counted.meta_seq;
      compat_flags = counted.compat_flags;
    }

-- `SIOSLOT`, a zero, the header's length 128, B as 1, two slots, and zeros at 16 to 24, 79, 84 to 88 and from 104 on.
abbrev pub counted_bytes : List ℕ
counted_bytes =
    (83 ∷ 73 ∷ 79 ∷ 83 ∷ 76 ∷ 79 ∷ 84 ∷ 0 ∷ [])
    ++ count 4 8 ++ (128 ∷ 0 ∷ []) ++ count 2 14 ++ replicate 8 0 ++ count 52 24 ++ (1 ∷ 2 ∷ 78 ∷ 0 ∷ [])
    ++ count 4 80 ++ replicate 4 0 ++ count 16 88 ++ replicate 24 0

abbrev pub statuses : SlotInfo → List SlotStatus
statuses known =
    SlotStatus.ReadError ∷ SlotStatus.BadLength ∷ SlotStatus.Blank ∷ SlotStatus.BadMagic ∷ SlotStatus.BadHeaderCrc
    ∷ SlotStatus.UnsupportedVersion 3 ∷ SlotStatus.Incompatible 1 ∷ SlotStatus.Malformed ∷ SlotStatus.Foreign ∷ SlotStatus.WrongObject
    ∷ SlotStatus.Misplaced ∷ SlotStatus.BadPayloadCrc ∷ SlotStatus.Valid known ∷ []

abbrev pub errors : List EncodeError
errors = EncodeError.SlotSize ∷ EncodeError.BufferLength ∷ EncodeError.PayloadTooLarge ∷ EncodeError.ZeroGeneration ∷ EncodeError.Format ∷ []

pub record Table : Type 0 where
  pub fields_read : header (count 128 0) ≡ counted
  pub fields_written : header_bytes counted.header_crc32c counted_fields counted.payload_len counted.payload_crc32c ≡ counted_bytes
  pub statuses_numbered : (known : SlotInfo) → map code (statuses known) ≡ 0 ∷ 1 ∷ 2 ∷ 3 ∷ 4 ∷ 5 ∷ 6 ∷ 7 ∷ 8 ∷ 9 ∷ 10 ∷ 11 ∷ 12 ∷ []
  pub errors_numbered : map error_number errors ≡ 1 ∷ 2 ∷ 3 ∷ 4 ∷ 5 ∷ []
  pub indexes_stored : map index_number (SlotIndex.A ∷ SlotIndex.B ∷ []) ≡ 0 ∷ 1 ∷ []
  pub indexes_numbered : map slot_number (SlotIndex.A ∷ SlotIndex.B ∷ []) ≡ 1 ∷ 2 ∷ []
