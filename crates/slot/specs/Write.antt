-- What `encode` leaves in the buffer and answers (docs/FORMAT.md, "Writing a slot"): the same layout, as bytes one after the other.
use Rattle.std.specs.Prelude.{Bool, not, ◌&&◌, ◌||◌, ℕ, ◌-◌, ◌^◌, ◌==◌, nat_le, nat_lt, if◌then◌else◌, List, [], ◌∷◌, ◌++◌, length, replicate, Result, Ok, Err}
use Rattle.std.specs.List.{concat}
use Rattle.std.specs.Int.{w8, w16, w32, w64, to_le_bytes}
use Rattle.codec.specs.Crc32c.{crc32c}
use Rattle.slot.specs.Status.{index_number}
use Rattle.slot.specs.Header.{magic}
use Rattle.slot.specs.declared.slot.SlotFields.{SlotFields}
use Rattle.slot.specs.declared.slot.EncodeError.{EncodeError}

-- The header's fields with the checksum crc, for a payload of some length and checksum.
-- No incompatible and no read-only flag is defined; a winner with a read-only flag is never rewritten. Compatible flags are the winner's,
-- so that a write by an earlier release keeps those of a later one. Offset and index find a write that went elsewhere. The previous
-- header's checksum ties a record to the one that it replaces, the number orders the writes of the whole store.
abbrev pub header_row : ℕ → SlotFields → ℕ → ℕ → List (List ℕ)
header_row crc f len payload_crc =
    magic
    ∷ to_le_bytes w32 crc
    ∷ to_le_bytes w16 128
    ∷ to_le_bytes w16 f.format_major
    ∷ to_le_bytes w32 0
    ∷ to_le_bytes w32 0
    ∷ to_le_bytes w32 f.compat_flags
    ∷ to_le_bytes w32 payload_crc
    ∷ f.volume_uuid
    ∷ to_le_bytes w64 f.object_id
    ∷ to_le_bytes w64 f.generation
    ∷ to_le_bytes w64 f.slot_offset
    ∷ to_le_bytes w32 len
    ∷ to_le_bytes w8 (index_number f.slot_index)
    ∷ to_le_bytes w8 2
    ∷ to_le_bytes w8 f.log2_slot_size
    ∷ to_le_bytes w8 0
    ∷ to_le_bytes w32 f.prev_header_crc32c
    ∷ to_le_bytes w32 0
    ∷ to_le_bytes w64 f.owner_generation
    ∷ to_le_bytes w64 f.meta_seq
    ∷ replicate 24 0
    ∷ []

unfoldable pub header_bytes : ℕ → SlotFields → ℕ → ℕ → List ℕ
header_bytes crc f len payload_crc = concat (header_row crc f len payload_crc)

-- The header's checksum counts its own four bytes as zero.
-- A field cannot hold the checksum of itself.
unfoldable pub header_crc : SlotFields → List ℕ → ℕ
header_crc f payload = crc32c (header_bytes 0 f (length payload) (crc32c payload))

-- The written header.
unfoldable pub written_header : SlotFields → List ℕ → List ℕ
written_header f payload = header_bytes (header_crc f payload) f (length payload) (crc32c payload)

-- The whole slot: the payload follows the header, and the rest is zero.
unfoldable pub slot_bytes : SlotFields → List ℕ → List ℕ
slot_bytes f payload = written_header f payload ++ (payload ++ replicate (2 ^ f.log2_slot_size - 128 - length payload) 0)

-- Format 2, or format 1 with no number.
abbrev pub format_ok : SlotFields → Bool
format_ok f = (f.format_major == 2) || ((f.format_major == 1) && (f.meta_seq == 0))

-- What is refused, of a payload and a buffer of some length, in this order.
unfoldable pub encode_check : SlotFields → List ℕ → ℕ → Result (Unit {0}) EncodeError
encode_check f payload room =
    if not (nat_le 9 f.log2_slot_size && nat_le f.log2_slot_size 16) then Err EncodeError.SlotSize
    else if not (room == 2 ^ f.log2_slot_size) then Err EncodeError.BufferLength
    else if nat_lt (room - 128) (length payload) then Err EncodeError.PayloadTooLarge
    else if f.generation == 0 then Err EncodeError.ZeroGeneration
    else if not (format_ok f) then Err EncodeError.Format
    else Ok tt

-- The buffer afterwards, kept at a refusal, and the header's checksum.
abbrev pub encoded : SlotFields → List ℕ → List ℕ → Result (Unit {0}) EncodeError → List ℕ × Result ℕ EncodeError
encoded f payload out (Err error) = (out, Err error)
encoded f payload out (Ok passed) = (slot_bytes f payload, Ok (header_crc f payload))

unfoldable pub encode : SlotFields → List ℕ → List ℕ → List ℕ × Result ℕ EncodeError
encode f payload out = encoded f payload out (encode_check f payload (length out))
