-- The rules of a slot by rows, spelled on both sides of each bound (docs/FORMAT.md, "The slot", "Slot status", "Header facts" and
-- "Writing a slot"). The checksums that are spelled were computed by `crc32c.rs`.
use Rattle.std.specs.Prelude.{◌≡◌, Bool, true, false, List, [], ◌∷◌, ◌++◌, ℕ, ◌+◌, ◌-◌, map, take, drop, replicate, Option, Some, None, Result, Ok, Err}
use Rattle.std.specs.List.{concat}
use Rattle.std.specs.Int.{w8, w16, w32, w64, to_le_bytes}
use Rattle.codec.specs.Crc32c.{crc32c}
use Rattle.slot.specs.Status.{other, code, info, is_valid, error_number}
use Rattle.slot.specs.Payload.{payload_start, payload_length, payload}
use Rattle.slot.specs.Header.{header_read}
use Rattle.slot.specs.Read.{validate, header_facts}
use Rattle.slot.specs.Write.{encode}
use Rattle.slot.specs.Table.{count, counted}
use Rattle.slot.specs.Numbers.{choice_number, status_numbers, status_of}
use Rattle.slot.specs.declared.header.Header.{Header}
use Rattle.slot.specs.declared.slot.Expect.{Expect}
use Rattle.slot.specs.declared.slot.SlotInfo.{SlotInfo}
use Rattle.slot.specs.declared.slot.HeaderFacts.{HeaderFacts}
use Rattle.slot.specs.declared.slot.SlotFields.{SlotFields}
use Rattle.slot.specs.declared.slot.SlotIndex.{SlotIndex}
use Rattle.slot.specs.declared.slot.SlotStatus.{SlotStatus}
use Rattle.slot.specs.declared.slot.EncodeError.{EncodeError}

-- ---- slots

abbrev pub highest_32 : ℕ
highest_32 = 0xFFFF_FFFF

abbrev pub highest_64 : ℕ
highest_64 = 0xFFFF_FFFF_FFFF_FFFF

abbrev pub payload_bytes : List ℕ
payload_bytes = 1 ∷ 2 ∷ 3 ∷ []

-- A header that passes, of a slot of 512 bytes.
abbrev pub good : Header
good =
    record {
      magic = 83 ∷ 73 ∷ 79 ∷ 83 ∷ 76 ∷ 79 ∷ 84 ∷ 0 ∷ [];
      header_crc32c = 0;
      header_len = 128;
      format_major = 2;
      incompat_flags = 0;
      ro_compat_flags = 5;
      compat_flags = 6;
      payload_crc32c = 0xF130_F21E;
      volume_uuid = count 16 100;
      object_id = 8;
      generation = 11;
      slot_offset = 4096;
      payload_len = 3;
      slot_index = 0;
      slot_count = 2;
      log2_slot_size = 9;
      reserved0 = 0;
      prev_header_crc32c = 13;
      reserved1 = 0;
      owner_generation = 10;
      meta_seq = 12;
      reserved2 = replicate 24 0;
    }

-- What a reader of it expects.
abbrev pub expected : Expect
expected =
    record {
      volume_uuid = count 16 100;
      object_id = 8;
      slot_offset = 4096;
      slot_index = SlotIndex.A;
      log2_slot_size = 9;
      format_major = 2;
      numbered = true;
    }

-- The header's 128 bytes, with a stored checksum.
abbrev pub header_of : Header → ℕ → List ℕ
header_of h sum =
    concat (h.magic ∷ to_le_bytes w32 sum ∷ to_le_bytes w16 h.header_len ∷ to_le_bytes w16 h.format_major ∷ to_le_bytes w32 h.incompat_flags
    ∷ to_le_bytes w32 h.ro_compat_flags ∷ to_le_bytes w32 h.compat_flags ∷ to_le_bytes w32 h.payload_crc32c ∷ h.volume_uuid
    ∷ to_le_bytes w64 h.object_id ∷ to_le_bytes w64 h.generation ∷ to_le_bytes w64 h.slot_offset ∷ to_le_bytes w32 h.payload_len
    ∷ to_le_bytes w8 h.slot_index ∷ to_le_bytes w8 h.slot_count ∷ to_le_bytes w8 h.log2_slot_size ∷ to_le_bytes w8 h.reserved0
    ∷ to_le_bytes w32 h.prev_header_crc32c ∷ to_le_bytes w32 h.reserved1 ∷ to_le_bytes w64 h.owner_generation ∷ to_le_bytes w64 h.meta_seq
    ∷ h.reserved2 ∷ [])

-- What follows it in a slot of some size: bytes of 9 where the header is longer, the payload, and zeros.
abbrev pub body : ℕ → Header → List ℕ
body size h = take (size - 128) (replicate (h.header_len - 128) 9 ++ (payload_bytes ++ replicate (size - 128) 0))

-- The right checksum of the header: over as many bytes as it says it has, its own four as zero.
abbrev pub sum_in : ℕ → Header → ℕ
sum_in size h = crc32c (take h.header_len (header_of h 0 ++ body size h))

-- The slot, its stored checksum the right one with so much added.
abbrev pub slot_in : (size more : ℕ) → Header → List ℕ
slot_in size more h = header_of h (sum_in size h + more) ++ body size h

abbrev pub slot_of : Header → List ℕ
slot_of = slot_in 512 0

abbrev pub sum : Header → ℕ
sum = sum_in 512

abbrev pub status : Header → ℕ
status h = code (validate (slot_of h) expected)

-- The same header in format 1, read so.
abbrev pub status_1 : Header → ℕ
status_1 h = code (validate (slot_of (record h { format_major = 1; meta_seq = 0 })) (record expected { format_major = 1 }))

-- In a slot of 1,024 bytes, read so.
abbrev pub status_1024 : Header → ℕ
status_1024 h = code (validate (slot_in 1024 0 h) (record expected { log2_slot_size = 10 }))

-- ---- sizes

-- The status of n zero bytes read as a slot of 2^log2.
abbrev pub sized : (log2 n : ℕ) → ℕ
sized log2 n = code (validate (replicate n 0) (record expected { log2_slot_size = log2 }))

pub record SizeRows : Type 0 where
  pub lengths : map (sized 9) (0 ∷ 128 ∷ 511 ∷ 512 ∷ 513 ∷ 1024 ∷ []) ≡ 1 ∷ 1 ∷ 1 ∷ 2 ∷ 1 ∷ 1 ∷ []
  pub lengths_10 : map (sized 10) (512 ∷ 1023 ∷ 1024 ∷ 1025 ∷ []) ≡ 1 ∷ 1 ∷ 2 ∷ 1 ∷ []
  pub log2s : sized 0 1 ∷ sized 8 256 ∷ sized 9 512 ∷ sized 16 65536 ∷ sized 17 131072 ∷ [] ≡ 1 ∷ 1 ∷ 2 ∷ 2 ∷ 1 ∷ []
  pub header_127 : header_read (count 127 0) ≡ None
  pub header_128 : header_read (count 128 0) ≡ Some counted
  pub header_129 : header_read (count 129 0) ≡ Some counted

-- ---- each field

-- Each field of the header, in the order of its bytes: the statuses by its values, its lowest and its highest byte changed.
pub record FieldRows : Type 0 where
  pub magic :
      map (λ m. status (record good { magic = m })) ((84 ∷ 73 ∷ 79 ∷ 83 ∷ 76 ∷ 79 ∷ 84 ∷ 0 ∷ []) ∷ (83 ∷ 73 ∷ 79 ∷ 83 ∷ 76 ∷ 79 ∷ 84 ∷ 1 ∷ []) ∷ [])
      ≡ 3 ∷ 3 ∷ []
  pub checksum : map (λ more. code (validate (slot_in 512 more good) expected)) (0 ∷ 1 ∷ 0x0100_0000 ∷ []) ≡ 12 ∷ 4 ∷ 4 ∷ []
  pub header_length :
      map (λ n. status (record good { header_len = n })) (0 ∷ 127 ∷ 128 ∷ 129 ∷ 512 ∷ 513 ∷ 65535 ∷ []) ≡ 4 ∷ 4 ∷ 12 ∷ 7 ∷ 7 ∷ 4 ∷ 4 ∷ []
  pub format : map (λ f. status (record good { format_major = f })) (0 ∷ 1 ∷ 2 ∷ 3 ∷ 0x0102 ∷ []) ≡ 5 ∷ 5 ∷ 12 ∷ 5 ∷ 5 ∷ []
  pub incompatible : map (λ f. status (record good { incompat_flags = f })) (0 ∷ 1 ∷ 0x8000_0000 ∷ []) ≡ 12 ∷ 6 ∷ 6 ∷ []
  pub read_only : map (λ f. status (record good { ro_compat_flags = f })) (0 ∷ 1 ∷ highest_32 ∷ []) ≡ 12 ∷ 12 ∷ 12 ∷ []
  pub compatible : map (λ f. status (record good { compat_flags = f })) (0 ∷ 1 ∷ highest_32 ∷ []) ≡ 12 ∷ 12 ∷ 12 ∷ []
  pub payload_checksum :
      map (λ s. status (record good { payload_crc32c = s })) (0xF130_F21E ∷ 0xF130_F21F ∷ 0xF230_F21E ∷ []) ≡ 12 ∷ 11 ∷ 11 ∷ []
  pub volume : map (λ v. status (record good { volume_uuid = v })) ((101 ∷ count 15 101) ∷ (count 15 100 ++ 116 ∷ []) ∷ []) ≡ 8 ∷ 8 ∷ []
  pub object : map (λ o. status (record good { object_id = o })) (8 ∷ 9 ∷ 4096 ∷ 0x0100_0000_0000_0008 ∷ []) ≡ 12 ∷ 9 ∷ 9 ∷ 9 ∷ []
  pub generation : map (λ g. status (record good { generation = g })) (0 ∷ 1 ∷ highest_64 ∷ []) ≡ 7 ∷ 12 ∷ 12 ∷ []
  pub offset : map (λ o. status (record good { slot_offset = o })) (8 ∷ 4096 ∷ 4097 ∷ 0x0100_0000_0000_1000 ∷ []) ≡ 10 ∷ 12 ∷ 10 ∷ 10 ∷ []
  pub payload_length :
      map (λ n. status (record good { payload_len = n; payload_crc32c = crc32c (take n (body 512 good)) })) (0 ∷ 4 ∷ 384 ∷ 385 ∷ highest_32 ∷ [])
      ≡ 12 ∷ 12 ∷ 12 ∷ 7 ∷ 7 ∷ []
  pub index : map (λ i. status (record good { slot_index = i })) (0 ∷ 1 ∷ 2 ∷ 255 ∷ []) ≡ 12 ∷ 10 ∷ 7 ∷ 7 ∷ []
  pub slots : map (λ c. status (record good { slot_count = c })) (0 ∷ 1 ∷ 2 ∷ 3 ∷ []) ≡ 7 ∷ 7 ∷ 12 ∷ 7 ∷ []
  pub log2 : map (λ l. status (record good { log2_slot_size = l })) (8 ∷ 9 ∷ 10 ∷ []) ≡ 10 ∷ 12 ∷ 10 ∷ []
  pub zero_79 : map (λ z. status (record good { reserved0 = z })) (0 ∷ 1 ∷ 128 ∷ []) ≡ 12 ∷ 7 ∷ 7 ∷ []
  pub previous : map (λ s. status (record good { prev_header_crc32c = s })) (0 ∷ highest_32 ∷ []) ≡ 12 ∷ 12 ∷ []
  pub zeros_84 : map (λ z. status (record good { reserved1 = z })) (0 ∷ 1 ∷ 0x8000_0000 ∷ []) ≡ 12 ∷ 7 ∷ 7 ∷ []
  pub owner : map (λ g. status (record good { owner_generation = g })) (0 ∷ highest_64 ∷ []) ≡ 12 ∷ 12 ∷ []
  pub number : map (λ n. status (record good { meta_seq = n })) (0 ∷ 1 ∷ highest_64 ∷ []) ≡ 7 ∷ 12 ∷ 12 ∷ []
  pub zeros_104 : map (λ z. status (record good { reserved2 = z })) ((1 ∷ replicate 23 0) ∷ (replicate 23 0 ++ 1 ∷ []) ∷ []) ≡ 7 ∷ 7 ∷ []

-- ---- status

-- Read in one format, stored in another.
abbrev pub read_as : (expected_format format : ℕ) → ℕ
read_as e f =
    code (validate (slot_of (record good { format_major = f; meta_seq = 0 })) (record expected { format_major = e; numbered = false }))

-- The number in a format, read as numbered or not.
abbrev pub numbered_as : ℕ → Bool → ℕ → ℕ
numbered_as f numbered n =
    code (validate (slot_of (record good { format_major = f; meta_seq = n })) (record expected { format_major = f; numbered = numbered }))

abbrev pub three_numbers : List ℕ
three_numbers = 0 ∷ 1 ∷ highest_64 ∷ []

pub record StatusRows : Type 0 where
  -- Blank: 128 zero bytes, whatever follows.
  pub blank : code (validate (replicate 128 0 ++ replicate 384 1) expected) ≡ 2
  pub not_blank :
      code (validate (1 ∷ replicate 511 0) expected) ∷ code (validate (replicate 127 0 ++ 1 ∷ replicate 384 0) expected) ∷ [] ≡ 3 ∷ 3 ∷ []
  -- The values of a status.
  pub format_found : validate (slot_of (record good { format_major = 0xFF02 })) expected ≡ SlotStatus.UnsupportedVersion 0xFF02
  pub flags_found : validate (slot_of (record good { incompat_flags = 0x8000_0001 })) expected ≡ SlotStatus.Incompatible 0x8000_0001
  pub known :
      validate (slot_of good) expected
      ≡ SlotStatus.Valid (record {
        generation = 11;
        owner_generation = 10;
        header_crc32c = 0xBECF_2A8C;
        prev_header_crc32c = 13;
        ro_compat_flags = 5;
        compat_flags = 6;
        meta_seq = 12;
        payload_start = 128;
        payload_len = 3;
      })
  pub known_1 :
      validate (slot_of (record good { format_major = 1; header_len = 130; meta_seq = 0 })) (record expected { format_major = 1 })
      ≡ SlotStatus.Valid (record {
        generation = 11;
        owner_generation = 10;
        header_crc32c = 0xDDB6_AADD;
        prev_header_crc32c = 13;
        ro_compat_flags = 5;
        compat_flags = 6;
        meta_seq = 0;
        payload_start = 130;
        payload_len = 3;
      })
  -- Formats 0 to 3, read as each.
  pub as_0 : map (read_as 0) (0 ∷ 1 ∷ 2 ∷ 3 ∷ []) ≡ 5 ∷ 5 ∷ 5 ∷ 5 ∷ []
  pub as_1 : map (read_as 1) (0 ∷ 1 ∷ 2 ∷ 3 ∷ []) ≡ 5 ∷ 12 ∷ 5 ∷ 5 ∷ []
  pub as_2 : map (read_as 2) (0 ∷ 1 ∷ 2 ∷ 3 ∷ []) ≡ 5 ∷ 5 ∷ 12 ∷ 5 ∷ []
  pub as_3 : map (read_as 3) (0 ∷ 1 ∷ 2 ∷ 3 ∷ []) ≡ 5 ∷ 5 ∷ 5 ∷ 5 ∷ []
  -- The number that fits.
  pub numbered_2 : map (numbered_as 2 true) three_numbers ≡ 7 ∷ 12 ∷ 12 ∷ []
  pub not_numbered_2 : map (numbered_as 2 false) three_numbers ≡ 12 ∷ 7 ∷ 7 ∷ []
  pub numbered_1 : map (numbered_as 1 true) three_numbers ≡ 12 ∷ 7 ∷ 7 ∷ []
  pub not_numbered_1 : map (numbered_as 1 false) three_numbers ≡ 12 ∷ 7 ∷ 7 ∷ []
  -- A longer header: in format 1 read, its checksum over all of it; in format 2 refused after the checksum.
  pub lengths_1 : map (λ n. status_1 (record good { header_len = n })) (0 ∷ 127 ∷ 128 ∷ 129 ∷ 509 ∷ 510 ∷ []) ≡ 4 ∷ 4 ∷ 12 ∷ 12 ∷ 12 ∷ 7 ∷ []
  pub longest_1 :
      map (λ n. status_1 (record good { header_len = n; payload_len = 0; payload_crc32c = 0 })) (511 ∷ 512 ∷ 513 ∷ 65535 ∷ []) ≡ 12 ∷ 12 ∷ 4 ∷ 4 ∷ []
  pub over_128 :
      (let h = record good { format_major = 1; header_len = 200; meta_seq = 0 } in
      code (validate (header_of h (crc32c (header_of h 0)) ++ body 512 h) (record expected { format_major = 1 })))
      ≡ 4
  pub over_128_in_2 :
      (let h = record good { header_len = 200 } in code (validate (header_of h (crc32c (header_of h 0)) ++ body 512 h) expected)) ≡ 4
  pub over_200_in_2 : status (record good { header_len = 200 }) ≡ 7
  -- The payload's length where the header is longer, and in a larger slot.
  pub payload_length_1 :
      map (λ n. status_1 (record good { header_len = 130; payload_len = n; payload_crc32c = crc32c (payload_bytes ++ replicate (n - 3) 0) }))
      (382 ∷ 383 ∷ [])
      ≡ 12 ∷ 7 ∷ []
  pub payload_length_1024 :
      map
      (λ n. status_1024 (record good { log2_slot_size = 10; payload_len = n; payload_crc32c = crc32c (payload_bytes ++ replicate (n - 3) 0) }))
      (385 ∷ 896 ∷ 897 ∷ [])
      ≡ 12 ∷ 12 ∷ 7 ∷ []
  -- A header of a larger slot, and of a smaller one.
  pub larger : status (record good { log2_slot_size = 10; payload_len = 896 }) ≡ 10
  pub smaller : status_1024 good ≡ 10
  -- Slot B.
  pub index_b :
      map (λ i. code (validate (slot_of (record good { slot_index = i })) (record expected { slot_index = SlotIndex.B }))) (0 ∷ 1 ∷ 2 ∷ [])
      ≡ 10 ∷ 12 ∷ 7 ∷ []
  -- What follows the payload is not looked at.
  pub behind : code (validate (take 131 (slot_of good) ++ replicate 381 1) expected) ≡ 12

-- Where two tests are met, the first one's status.
pub record OrderRows : Type 0 where
  pub size_first : sized 9 511 ≡ 1
  pub blank_first : sized 9 512 ≡ 2
  pub magic_first : code (validate (slot_in 512 1 (record good { magic = replicate 8 1 })) expected) ≡ 3
  pub checksum_first : code (validate (slot_in 512 1 (record good { format_major = 3 })) expected) ≡ 4
  pub format_first : status (record good { format_major = 3; incompat_flags = 1 }) ≡ 5
  pub flags_first : status (record good { incompat_flags = 1; generation = 0 }) ≡ 6
  pub shape_first : status (record good { generation = 0; volume_uuid = replicate 16 1 }) ≡ 7
  pub volume_first : status (record good { volume_uuid = replicate 16 1; object_id = 9 }) ≡ 8
  pub object_first : status (record good { object_id = 9; slot_offset = 8 }) ≡ 9
  pub place_first : status (record good { slot_offset = 8; payload_len = 385 }) ≡ 10
  pub length_first : status (record good { payload_len = 385; payload_crc32c = 1 }) ≡ 7

-- ---- facts

-- What a header shows: its checksum as stored alone, and more.
abbrev pub ShowsSum : Header → Type 0
ShowsSum h = header_facts (slot_of h) expected ≡ Some (record { stored_header_crc32c = sum h; numbered = None })

abbrev pub shows : (sum generation number previous : ℕ) → Option HeaderFacts
shows s g n p =
    Some (record { stored_header_crc32c = s; numbered = Some (record { generation = g; meta_seq = n; prev_header_crc32c = p }) })

abbrev pub ShowsAll : Header → Type 0
ShowsAll h = header_facts (slot_of h) expected ≡ shows (sum h) h.generation h.meta_seq h.prev_header_crc32c

pub record FactRows : Type 0 where
  -- Status 1, 2 and 3: nothing.
  pub size : map (λ n. header_facts (take n (slot_in 1024 0 good)) expected) (0 ∷ 128 ∷ 511 ∷ 513 ∷ 1024 ∷ []) ≡ replicate 5 None
  pub log2 : header_facts (slot_in 256 0 good) (record expected { log2_slot_size = 8 }) ≡ None
  pub blank : header_facts (replicate 512 0) expected ≡ None
  pub magic : header_facts (slot_of (record good { magic = replicate 8 1 })) expected ≡ None
  -- 4 to the second 7: the stored checksum, right or not.
  pub checksum : header_facts (slot_in 512 1 good) expected ≡ Some (record { stored_header_crc32c = 0xBECF_2A8D; numbered = None })
  pub header_length : ShowsSum (record good { header_len = 127 })
  pub format : ShowsSum (record good { format_major = 3 })
  pub incompatible : ShowsSum (record good { incompat_flags = 1 })
  pub shape : ShowsSum (record good { generation = 0 })
  pub volume : ShowsSum (record good { volume_uuid = replicate 16 1 })
  pub object : ShowsSum (record good { object_id = 9 })
  pub place : ShowsSum (record good { slot_offset = 8 })
  pub payload_length : ShowsSum (record good { payload_len = 385 })
  -- 11 and 12: generation, number and previous checksum too.
  pub whole : header_facts (slot_of good) expected ≡ shows 0xBECF_2A8C 11 12 13
  pub whole_1 :
      header_facts (slot_of (record good { format_major = 1; header_len = 130; meta_seq = 0 })) (record expected { format_major = 1 })
      ≡ shows 0xDDB6_AADD 11 0 13
  pub no_payload : ShowsAll (record good { payload_crc32c = 1 })
  pub lowest : ShowsAll (record good { generation = 1; meta_seq = 1; prev_header_crc32c = 0 })
  pub highest : ShowsAll (record good { generation = highest_64; meta_seq = highest_64; prev_header_crc32c = highest_32 })

-- ---- writing

-- Fields of which each byte is the offset that it is written at, as far as the rules let it.
abbrev pub fields : SlotFields
fields =
    record {
      volume_uuid = count 16 32;
      object_id = 0x3736_3534_3332_3130;
      generation = 0x3F3E_3D3C_3B3A_3938;
      owner_generation = 0x5F5E_5D5C_5B5A_5958;
      slot_offset = 0x4746_4544_4342_4140;
      slot_index = SlotIndex.B;
      log2_slot_size = 9;
      prev_header_crc32c = 0x5352_5150;
      format_major = 2;
      meta_seq = 0x6766_6564_6362_6160;
      compat_flags = 0x1B1A_1918;
    }

-- The fewest: format 1, no payload, zeros.
abbrev pub fields_1 : SlotFields
fields_1 =
    record {
      volume_uuid = replicate 16 0;
      object_id = 0;
      generation = 1;
      owner_generation = 0;
      slot_offset = 0;
      slot_index = SlotIndex.A;
      log2_slot_size = 10;
      prev_header_crc32c = 0;
      format_major = 1;
      meta_seq = 0;
      compat_flags = 0;
    }

abbrev pub buffer : ℕ → List ℕ
buffer n = replicate n 255

-- The refusal's number, 0 for none, of a payload of n bytes and a buffer of some length.
abbrev pub refusal : Result ℕ EncodeError → ℕ
refusal (Ok checksum) = 0
refusal (Err error) = error_number error

abbrev pub refused : SlotFields → (n room : ℕ) → ℕ
refused f n room = refusal (encode f (replicate n 0) (buffer room)).1

abbrev pub in_format : (number format : ℕ) → ℕ
in_format n f = refused (record fields { format_major = f; meta_seq = n }) 0 512

-- A refusal, with the buffer kept.
abbrev pub Refuses : SlotFields → ℕ → ℕ → EncodeError → Type 0
Refuses f n room error = encode f (replicate n 0) (buffer room) ≡ (buffer room, Err error)

pub record WriteRows : Type 0 where
  pub log2s :
      map (λ (sizes : ℕ × ℕ). refused (record fields { log2_slot_size = sizes.0 }) 0 sizes.1)
      ((0, 1) ∷ (8, 256) ∷ (9, 512) ∷ (10, 1024) ∷ (16, 65536) ∷ (17, 131072) ∷ [])
      ≡ 1 ∷ 1 ∷ 0 ∷ 0 ∷ 0 ∷ 1 ∷ []
  pub room : map (refused fields 0) (0 ∷ 128 ∷ 511 ∷ 512 ∷ 513 ∷ 1024 ∷ []) ≡ 2 ∷ 2 ∷ 2 ∷ 0 ∷ 2 ∷ 2 ∷ []
  pub payload_length : map (λ n. refused fields n 512) (0 ∷ 384 ∷ 385 ∷ 512 ∷ []) ≡ 0 ∷ 0 ∷ 3 ∷ 3 ∷ []
  pub payload_length_1024 : map (λ n. refused (record fields { log2_slot_size = 10 }) n 1024) (896 ∷ 897 ∷ []) ≡ 0 ∷ 3 ∷ []
  pub generation : map (λ g. refused (record fields { generation = g }) 0 512) (0 ∷ 1 ∷ highest_64 ∷ []) ≡ 4 ∷ 0 ∷ 0 ∷ []
  pub number_0 : map (in_format 0) (0 ∷ 1 ∷ 2 ∷ 3 ∷ 0x0102 ∷ []) ≡ 5 ∷ 0 ∷ 0 ∷ 5 ∷ 5 ∷ []
  pub number_1 : map (in_format 1) (0 ∷ 1 ∷ 2 ∷ 3 ∷ []) ≡ 5 ∷ 5 ∷ 0 ∷ 5 ∷ []
  pub number_most : map (in_format highest_64) (1 ∷ 2 ∷ []) ≡ 5 ∷ 0 ∷ []
  -- Each refusal keeps the buffer; where two are met it is the first one.
  pub log2_first : Refuses (record fields { log2_slot_size = 8 }) 385 511 EncodeError.SlotSize
  pub room_first : Refuses fields 385 511 EncodeError.BufferLength
  pub payload_first : Refuses (record fields { generation = 0 }) 385 512 EncodeError.PayloadTooLarge
  pub generation_first : Refuses (record fields { generation = 0; format_major = 3 }) 384 512 EncodeError.ZeroGeneration
  pub format_last : Refuses (record fields { format_major = 3 }) 384 512 EncodeError.Format
  -- What is written and answered.
  pub written :
      encode fields payload_bytes (buffer 512)
      ≡ (
        concat ((83 ∷ 73 ∷ 79 ∷ 83 ∷ 76 ∷ 79 ∷ 84 ∷ 0 ∷ []) ∷ (0x9F ∷ 0xD7 ∷ 0xB9 ∷ 0xC6 ∷ []) ∷ (128 ∷ 0 ∷ 2 ∷ 0 ∷ []) ∷ replicate 8 0 ∷ count 4 24
            ∷ (0x1E ∷ 0xF2 ∷ 0x30 ∷ 0xF1 ∷ []) ∷ count 40 32 ∷ (3 ∷ 0 ∷ 0 ∷ 0 ∷ []) ∷ (1 ∷ 2 ∷ 9 ∷ 0 ∷ []) ∷ count 4 80 ∷ replicate 4 0 ∷ count 16 88
            ∷ replicate 24 0 ∷ (1 ∷ 2 ∷ 3 ∷ []) ∷ replicate 381 0 ∷ []),
        Ok 0xC6B9_D79F,
      )
  pub written_1 :
      encode fields_1 [] (buffer 1024)
      ≡ (
        concat ((83 ∷ 73 ∷ 79 ∷ 83 ∷ 76 ∷ 79 ∷ 84 ∷ 0 ∷ []) ∷ (0x4E ∷ 0x21 ∷ 0x71 ∷ 0x0E ∷ []) ∷ (128 ∷ 0 ∷ 1 ∷ 0 ∷ []) ∷ replicate 40 0
            ∷ (1 ∷ replicate 7 0) ∷ replicate 12 0 ∷ (0 ∷ 2 ∷ 10 ∷ 0 ∷ []) ∷ replicate 48 0 ∷ replicate 896 0 ∷ []),
        Ok 0x0E71_214E,
      )
  -- As long as the slot lets it be.
  pub longest : drop 128 (encode fields (replicate 384 7) (buffer 512)).0 ≡ replicate 384 7

-- ---- the payload's place

abbrev pub place : (start len : ℕ) → SlotInfo
place start len =
    record {
      generation = 1;
      owner_generation = 0;
      header_crc32c = 0;
      prev_header_crc32c = 0;
      ro_compat_flags = 0;
      compat_flags = 0;
      meta_seq = 1;
      payload_start = start;
      payload_len = len;
    }

-- Start and length in a buffer of n bytes.
abbrev pub placed : (start len n : ℕ) → List ℕ
placed start len n = payload_start (place start len) n ∷ payload_length (place start len) n ∷ []

pub record PlaceRows : Type 0 where
  pub room : map (placed 128 3) (0 ∷ 128 ∷ 130 ∷ 131 ∷ 132 ∷ []) ≡ (0 ∷ 0 ∷ []) ∷ (0 ∷ 0 ∷ []) ∷ (0 ∷ 0 ∷ []) ∷ (128 ∷ 3 ∷ []) ∷ (128 ∷ 3 ∷ []) ∷ []
  pub no_bytes : map (placed 128 0) (127 ∷ 128 ∷ []) ≡ (0 ∷ 0 ∷ []) ∷ (128 ∷ 0 ∷ []) ∷ []
  pub highest : map (placed 65535 highest_32) (0 ∷ 65534 ∷ 0x1_0000_FFFE ∷ []) ≡ (0 ∷ 0 ∷ []) ∷ (0 ∷ 0 ∷ []) ∷ (65535 ∷ highest_32 ∷ []) ∷ []
  pub bytes : payload (place 4 3) (count 8 0) ≡ 4 ∷ 5 ∷ 6 ∷ []
  pub to_the_end : payload (place 4 3) (count 7 0) ≡ 4 ∷ 5 ∷ 6 ∷ []
  pub short : payload (place 4 3) (count 6 0) ≡ []

-- ---- numbers

abbrev pub known : SlotInfo
known =
    record {
      generation = 1;
      owner_generation = 2;
      header_crc32c = 3;
      prev_header_crc32c = 4;
      ro_compat_flags = 5;
      compat_flags = 6;
      meta_seq = 7;
      payload_start = 8;
      payload_len = 9;
    }

-- The statuses in their order, with a format, flags and what is known.
abbrev pub statuses : (format flags : ℕ) → List SlotStatus
statuses format flags =
    SlotStatus.ReadError ∷ SlotStatus.BadLength ∷ SlotStatus.Blank ∷ SlotStatus.BadMagic ∷ SlotStatus.BadHeaderCrc
    ∷ SlotStatus.UnsupportedVersion format ∷ SlotStatus.Incompatible flags ∷ SlotStatus.Malformed ∷ SlotStatus.Foreign
    ∷ SlotStatus.WrongObject ∷ SlotStatus.Misplaced ∷ SlotStatus.BadPayloadCrc ∷ SlotStatus.Valid known ∷ []

-- The ten numbers of a status with a value or none.
abbrev pub with_value : (code value : ℕ) → List ℕ
with_value c v = c ∷ v ∷ replicate 8 0

pub record NumberRows : Type 0 where
  pub numbers :
      map status_numbers (statuses 65535 highest_32)
      ≡ with_value 0 0 ∷ with_value 1 0 ∷ with_value 2 0 ∷ with_value 3 0 ∷ with_value 4 0 ∷ with_value 5 65535 ∷ with_value 6 highest_32
      ∷ with_value 7 0 ∷ with_value 8 0 ∷ with_value 9 0 ∷ with_value 10 0 ∷ with_value 11 0
      ∷ (12 ∷ 1 ∷ 2 ∷ 3 ∷ 4 ∷ 5 ∷ 6 ∷ 7 ∷ 8 ∷ 9 ∷ []) ∷ []
  pub of_numbers : map (λ c. status_of c known) (count 13 0) ≡ map Some (statuses 0 0)
  pub of_none : map (λ c. status_of c known) (13 ∷ 255 ∷ 256 ∷ highest_32 ∷ []) ≡ replicate 4 None
  pub choices : map choice_number (None ∷ Some SlotIndex.A ∷ Some SlotIndex.B ∷ []) ≡ 0 ∷ 1 ∷ 2 ∷ []
  pub others : map other (SlotIndex.A ∷ SlotIndex.B ∷ []) ≡ SlotIndex.B ∷ SlotIndex.A ∷ []
  pub infos : map info (statuses 3 1) ≡ replicate 12 None ++ Some known ∷ []
  pub valid : map is_valid (statuses 3 1) ≡ replicate 12 false ++ true ∷ []
