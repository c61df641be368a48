-- The layout of the header, 128 bytes (docs/FORMAT.md, "The slot"): by its offsets, and read step by step.
use Rattle.std.specs.Prelude.{◌≡◌, ℕ, List, [], ◌∷◌, length, take, drop, Option, Some, None, nat_lt, if◌then◌else◌}
use Rattle.std.specs.Int.{w8, w16, w32, w64}
use Rattle.codec.specs.Bytes.{le}
use Rattle.codec.specs.Cursor.{◌>>=◌, run, number}
use Rattle.slot.specs.declared.header.Header.{Header}

-- `SIOSLOT` and a zero byte.
abbrev pub magic : List ℕ
magic = 83 ∷ 73 ∷ 79 ∷ 83 ∷ 76 ∷ 79 ∷ 84 ∷ 0 ∷ []

abbrev pub header : List ℕ → Header
header s =
    record {
      magic = take 8 s;
      header_crc32c = le w32 s 8;
      header_len = le w16 s 12;
      format_major = le w16 s 14;
      incompat_flags = le w32 s 16;
      ro_compat_flags = le w32 s 20;
      compat_flags = le w32 s 24;
      payload_crc32c = le w32 s 28;
      volume_uuid = take 16 (drop 32 s);
      object_id = le w64 s 48;
      generation = le w64 s 56;
      slot_offset = le w64 s 64;
      payload_len = le w32 s 72;
      slot_index = le w8 s 76;
      slot_count = le w8 s 77;
      log2_slot_size = le w8 s 78;
      reserved0 = le w8 s 79;
      prev_header_crc32c = le w32 s 80;
      reserved1 = le w32 s 84;
      owner_generation = le w64 s 88;
      meta_seq = le w64 s 96;
      reserved2 = take 24 (drop 104 s);
    }

-- One field after the other, until one is not there.
unfoldable pub header_read : List ℕ → Option Header
header_read s = do
  magic ← run 8 s (record { pos = 0 })
  crc ← number w32 s magic.1
  len ← number w16 s crc.1
  format ← number w16 s len.1
  incompat ← number w32 s format.1
  ro_compat ← number w32 s incompat.1
  compat ← number w32 s ro_compat.1
  payload_crc ← number w32 s compat.1
  volume ← run 16 s payload_crc.1
  object ← number w64 s volume.1
  generation ← number w64 s object.1
  offset ← number w64 s generation.1
  payload_len ← number w32 s offset.1
  index ← number w8 s payload_len.1
  count ← number w8 s index.1
  log2 ← number w8 s count.1
  reserved0 ← number w8 s log2.1
  prev ← number w32 s reserved0.1
  reserved1 ← number w32 s prev.1
  owner ← number w64 s reserved1.1
  seq ← number w64 s owner.1
  reserved2 ← run 24 s seq.1
  Some (record {
    magic = magic.0;
    header_crc32c = crc.0;
    header_len = len.0;
    format_major = format.0;
    incompat_flags = incompat.0;
    ro_compat_flags = ro_compat.0;
    compat_flags = compat.0;
    payload_crc32c = payload_crc.0;
    volume_uuid = volume.0;
    object_id = object.0;
    generation = generation.0;
    slot_offset = offset.0;
    payload_len = payload_len.0;
    slot_index = index.0;
    slot_count = count.0;
    log2_slot_size = log2.0;
    reserved0 = reserved0.0;
    prev_header_crc32c = prev.0;
    reserved1 = reserved1.0;
    owner_generation = owner.0;
    meta_seq = seq.0;
    reserved2 = reserved2.0;
  })

-- The header read step by step is the header by its offsets, and no header is read of fewer than 128 bytes.
abbrev pub HeaderLayout : Type 0
HeaderLayout = (s : List ℕ) → header_read s ≡ (if nat_lt (length s) 128 then None else Some (header s))
