-- The laws of a slot (docs/FORMAT.md, "Slot status", "Header facts" and "Writing a slot"): which bytes its status and its header's facts
-- depend on, the statuses that there are, and what is read back of a slot that was written.
use Rattle.std.specs.Prelude.{◌≡◌, ◌≤◌, ◌<◌, ◌+◌, ◌^◌, Bool, true, List, ◌++◌, ℕ, length, take, replicate, Ok}
use Rattle.codec.specs.Bytes.{le16}
use Rattle.codec.specs.Crc32c.{crc32c}
use Rattle.slot.specs.Status.{index_number, code}
use Rattle.slot.specs.Payload.{payload as payload_of}
use Rattle.slot.specs.Header.{magic, header}
use Rattle.slot.specs.Read.{number_ok, header_info, check, validate, header_facts}
use Rattle.slot.specs.Write.{header_crc, written_header, encode_check, encode}
use Rattle.slot.specs.declared.header.Header.{Header}
use Rattle.slot.specs.declared.slot.Expect.{Expect}
use Rattle.slot.specs.declared.slot.SlotInfo.{SlotInfo}
use Rattle.slot.specs.declared.slot.SlotFields.{SlotFields}
use Rattle.slot.specs.declared.slot.SlotStatus.{SlotStatus}

-- Two slots of one length that agree in their first m bytes, at least 128 and at least as many as their header says it has.
pub record SameHeader (m : ℕ) (s t : List ℕ) : Type 0 where
  pub same : take m s ≡ take m t
  pub least : 128 ≤ m
  pub whole : le16 s 12 ≤ m
  pub sizes : length s ≡ length t

-- Such slots show the same, and have the same status where they have the same payload: the bytes after the payload do not count.
pub record PaddingLaw : Type 0 where
  pub facts_same : (m : ℕ) (s t : List ℕ) → SameHeader m s t → (e : Expect) → header_facts s e ≡ header_facts t e
  pub status_same : (m : ℕ) (s t : List ℕ) → SameHeader m s t → (e : Expect)
      → (check s (header s) e ≡ Ok tt → payload_of (header_info (header s)) s ≡ payload_of (header_info (header s)) t)
      → validate s e ≡ validate t e

-- A slot's status is 1 to 12: ReadError is set by the host alone.
abbrev pub StatusRange : Type 0
StatusRange = (s : List ℕ) (e : Expect) → (1 ≤ code (validate s e)) × (code (validate s e) ≤ 12)

-- What the fields' types say of them.
pub record Fits (f : SlotFields) : Type 0 where
  pub volume : length f.volume_uuid ≡ 16
  pub object : f.object_id < 2 ^ 64
  pub generation : f.generation < 2 ^ 64
  pub owner : f.owner_generation < 2 ^ 64
  pub offset : f.slot_offset < 2 ^ 64
  pub log2 : f.log2_slot_size < 2 ^ 8
  pub prev : f.prev_header_crc32c < 2 ^ 32
  pub format : f.format_major < 2 ^ 16
  pub number : f.meta_seq < 2 ^ 64
  pub compat : f.compat_flags < 2 ^ 32

-- The header as it is stored.
abbrev pub stored_header : ℕ → SlotFields → ℕ → ℕ → Header
stored_header crc f n payload_crc =
    record {
      magic = magic;
      header_crc32c = crc;
      header_len = 128;
      format_major = f.format_major;
      incompat_flags = 0;
      ro_compat_flags = 0;
      compat_flags = f.compat_flags;
      payload_crc32c = payload_crc;
      volume_uuid = f.volume_uuid;
      object_id = f.object_id;
      generation = f.generation;
      slot_offset = f.slot_offset;
      payload_len = n;
      slot_index = index_number f.slot_index;
      slot_count = 2;
      log2_slot_size = f.log2_slot_size;
      reserved0 = 0;
      prev_header_crc32c = f.prev_header_crc32c;
      reserved1 = 0;
      owner_generation = f.owner_generation;
      meta_seq = f.meta_seq;
      reserved2 = replicate 24 0;
    }

-- What a reader expects of a slot with these fields.
abbrev pub expect_of : SlotFields → Bool → Expect
expect_of f numbered =
    record {
      volume_uuid = f.volume_uuid;
      object_id = f.object_id;
      slot_offset = f.slot_offset;
      slot_index = f.slot_index;
      log2_slot_size = f.log2_slot_size;
      format_major = f.format_major;
      numbered = numbered;
    }

-- What is known of it once it is valid.
abbrev pub info_of : SlotFields → List ℕ → SlotInfo
info_of f payload = header_info (stored_header (header_crc f payload) f (length payload) (crc32c payload))

-- A slot is Valid with these fields and this payload.
pub record IsReadBack (s : List ℕ) (f : SlotFields) (payload : List ℕ) (numbered : Bool) : Type 0 where
  pub valid : validate s (expect_of f numbered) ≡ SlotStatus.Valid (info_of f payload)
  pub payload_same : payload_of (info_of f payload) s ≡ payload

-- What `encode` does not refuse is read back by a reader that expects it: of the buffer that it wrote, and whatever stands after the
-- payload.
pub record RoundTrip : Type 0 where
  pub written : (f : SlotFields) (payload buffer : List ℕ) (numbered : Bool) → Fits f → encode_check f payload (length buffer) ≡ Ok tt
      → number_ok f.format_major numbered f.meta_seq ≡ true → IsReadBack (encode f payload buffer).0 f payload numbered
  pub whatever_behind : (f : SlotFields) (payload behind : List ℕ) (numbered : Bool) → Fits f
      → encode_check f payload (128 + length payload + length behind) ≡ Ok tt
      → number_ok f.format_major numbered f.meta_seq ≡ true → IsReadBack (written_header f payload ++ (payload ++ behind)) f payload numbered
