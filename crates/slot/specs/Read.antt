-- What `validate` and `header_facts` answer for any bytes (docs/FORMAT.md, "Slot status" and "Header facts"): the checks in their order,
-- each with the status that it fails with.
use Rattle.std.specs.Prelude.{Bool, not, ◌&&◌, ◌||◌, List, ◌++◌, ℕ, ◌-◌, ◌^◌, ◌==◌, nat_eq, nat_lt, nat_le, if◌then◌else◌, length, take, drop, replicate, Option, Some, None, Result, Ok, Err, is_ok}
use Rattle.std.specs.List.{list_all}
use lib.Pointwise.{pointwise}
use Rattle.codec.specs.Crc32c.{crc32c}
use Rattle.slot.specs.Status.{index_number}
use Rattle.slot.specs.Payload.{payload}
use Rattle.slot.specs.Header.{magic, header_read}
use Rattle.slot.specs.declared.header.Header.{Header}
use Rattle.slot.specs.declared.slot.Expect.{Expect}
use Rattle.slot.specs.declared.slot.SlotInfo.{SlotInfo}
use Rattle.slot.specs.declared.slot.SlotStatus.{SlotStatus}
use Rattle.slot.specs.declared.slot.HeaderFacts.{HeaderFacts}

-- A slot has 2^log2 bytes, log2 from 9 to 16.
unfoldable pub is_slot_length : ℕ → ℕ → Bool
is_slot_length len log2 = (nat_le 9 log2 && nat_le log2 16) && (len == 2 ^ log2)

-- The header was never written: its 128 bytes are zero.
abbrev pub is_blank : List ℕ → Bool
is_blank s = list_all (λ b. b == 0) (take 128 s)

-- The checksum over the first n bytes, its own four counted as zero.
unfoldable pub header_sum : List ℕ → ℕ → ℕ
header_sum s n = crc32c (take 8 s ++ replicate 4 0 ++ take (n - 12) (drop 12 s))

-- The header's length is 128 at least and within the slot, and its checksum is the stored one.
-- Until the checksum has passed no field can be relied on.
unfoldable pub passes_checksum : List ℕ → Header → Bool
passes_checksum s h = (nat_le 128 h.header_len && nat_le h.header_len (length s)) && (header_sum s h.header_len == h.header_crc32c)

-- The number is at least 1 in format 2 read as numbered, else 0.
-- The volume record and the table pages are numbered, other objects are not.
abbrev pub number_ok : ℕ → Bool → ℕ → Bool
number_ok format numbered number = if (format == 2) && numbered then nat_le 1 number else number == 0

-- Generation 0, count, index, zero fields, number, or format 2 with another header length than 128.
-- The checksum has passed, so these values were written so: no power cut leaves them.
unfoldable pub is_malformed : Header → Bool → Bool
is_malformed h numbered =
    (h.generation == 0) || not (h.slot_count == 2) || nat_lt 1 h.slot_index || not (h.reserved0 == 0) || not (h.reserved1 == 0)
    || not (pointwise nat_eq h.reserved2 (replicate 24 0)) || not (number_ok h.format_major numbered h.meta_seq)
    || ((h.format_major == 2) && not (h.header_len == 128))

-- Another offset, index or size than the slot was read with.
abbrev pub is_misplaced : Header → Expect → Bool
is_misplaced h e =
    not (h.slot_offset == e.slot_offset) || not (h.slot_index == index_number e.slot_index) || not (h.log2_slot_size == e.log2_slot_size)

-- All but the payload's checksum: magic 3; header length or checksum 4; format 5; an incompatible flag 6; shape 7; volume 8; object 9;
-- place 10; payload too long for the slot 7.
-- In another format, or with a flag that is not known, the later fields may mean something else: such a slot is neither read nor
-- overwritten. The payload's length comes after identity and size: a header of a larger slot is Misplaced and not Malformed, and only of
-- this slot does its length say anything.
unfoldable pub check : List ℕ → Header → Expect → Result (Unit {0}) SlotStatus
check s h e =
    if not (pointwise nat_eq h.magic magic) then Err SlotStatus.BadMagic
    else if not (passes_checksum s h) then Err SlotStatus.BadHeaderCrc
    else if not (h.format_major == e.format_major) || not ((h.format_major == 1) || (h.format_major == 2)) then Err (SlotStatus.UnsupportedVersion h.format_major)
    else if not (h.incompat_flags == 0) then Err (SlotStatus.Incompatible h.incompat_flags)
    else if is_malformed h e.numbered then Err SlotStatus.Malformed
    else if not (pointwise nat_eq h.volume_uuid e.volume_uuid) then Err SlotStatus.Foreign
    else if not (h.object_id == e.object_id) then Err SlotStatus.WrongObject
    else if is_misplaced h e then Err SlotStatus.Misplaced
    else if nat_lt (length s - h.header_len) h.payload_len then Err SlotStatus.Malformed
    else Ok tt

-- What a valid slot shows of its header.
abbrev pub header_info : Header → SlotInfo
header_info h =
    record {
      generation = h.generation;
      owner_generation = h.owner_generation;
      header_crc32c = h.header_crc32c;
      prev_header_crc32c = h.prev_header_crc32c;
      ro_compat_flags = h.ro_compat_flags;
      compat_flags = h.compat_flags;
      meta_seq = h.meta_seq;
      payload_start = h.header_len;
      payload_len = h.payload_len;
    }

-- The payload has the checksum that the header says.
unfoldable pub passes_payload : List ℕ → Header → Bool
passes_payload s h = crc32c (payload (header_info h) s) == h.payload_crc32c

-- The status of a header that was checked.
abbrev pub status : List ℕ → Header → Result (Unit {0}) SlotStatus → SlotStatus
status s h (Err failure) = failure
status s h (Ok passed) = if passes_payload s h then SlotStatus.Valid (header_info h) else SlotStatus.BadPayloadCrc

-- A header that is not whole cannot be met in a slot of the right length.
abbrev pub header_status : List ℕ → Expect → Option Header → SlotStatus
header_status s e (Some h) = status s h (check s h e)
header_status s e None = SlotStatus.BadLength

-- Expected log2 outside 9..16 or another length 1; first 128 bytes zero 2; the header's checks; payload checksum 11; Valid 12.
-- A wrong length is a mistake of the caller, and a header of zeros was never written.
unfoldable pub validate : List ℕ → Expect → SlotStatus
validate s e =
    if not (is_slot_length (length s) e.log2_slot_size) then SlotStatus.BadLength
    else if is_blank s then SlotStatus.Blank
    else header_status s e (header_read s)

-- The stored checksum wherever the magic stands; generation, number and previous checksum where the header passed its checks.
-- The stored checksum, right or not, tells whether a damaged slot is the one that the winner replaced. The others may be a mixture of
-- two writes unless the header passes.
abbrev pub facts : Header → Bool → Option HeaderFacts
facts h passed =
    if not (pointwise nat_eq h.magic magic) then None
    else
    Some (record {
      stored_header_crc32c = h.header_crc32c;
      numbered =
          if passed then Some (record { generation = h.generation; meta_seq = h.meta_seq; prev_header_crc32c = h.prev_header_crc32c })
          else None;
    })

abbrev pub facts_read : List ℕ → Expect → Option Header → Option HeaderFacts
facts_read s e (Some h) = facts h (is_ok (check s h e))
facts_read s e None = None

-- Nothing of another length or a header of zeros.
unfoldable pub header_facts : List ℕ → Expect → Option HeaderFacts
header_facts s e =
    if not (is_slot_length (length s) e.log2_slot_size) then None
    else if is_blank s then None
    else facts_read s e (header_read s)
