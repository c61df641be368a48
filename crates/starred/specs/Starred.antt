-- Examples at the edges of slots and pages, said of the definitions that the contracts cite (docs/FORMAT.md has their rules); and the
-- capacities of a page.
use Rattle.std.specs.Prelude.{◌≡◌, true, false, List, [], ◌∷◌, ℕ, replicate, Option, Some, None, Result, Ok, Err}
use Rattle.codec.specs.Crc32c.{crc32c}
use Rattle.slot.specs.Status.{error_number}
use Rattle.slot.specs.Write.{encode_check}
use Rattle.slot.specs.declared.slot.SlotIndex.{SlotIndex}
use Rattle.slot.specs.declared.slot.SlotFields.{SlotFields}
use Rattle.judge.specs.Part.{part_shown}
use Rattle.judge.specs.Pairs.{opposite}
use Rattle.judge.specs.Numbers.{numbers, qualifies}
use Rattle.judge.specs.Verdict.{winner_beside}
use Rattle.judge.specs.Judge.{verdicts, judgement}
use Rattle.judge.specs.declared.pairs.Version.{Version}
use Rattle.judge.specs.declared.pairs.Shown.{Shown}
use Rattle.judge.specs.declared.pairs.Pair.{Pair}
use Rattle.judge.specs.declared.pairs.Opposite.{Opposite}
use Rattle.judge.specs.declared.verdict.SlotVerdict.{SlotVerdict}
use Rattle.judge.specs.declared.verdict.PairVerdict.{PairVerdict}
use Rattle.meta.specs.Error.{number}
use Rattle.meta.specs.Block.{entries_per_page}
use Rattle.meta.specs.Name.{named, name_in}
use Rattle.meta.specs.Volume.{table_end, check_file_len}
use Rattle.meta.specs.Entry.{entry_bytes, name_and_kind, reserved_span}
use Rattle.meta.specs.Check.{check_entry}
use Rattle.meta.specs.Page.{decode_page, page_bytes}
use Rattle.meta.specs.declared.meta2.VolumeMeta2.{VolumeMeta2}
use Rattle.meta.specs.declared.meta2.EntryLimits.{EntryLimits}
use Rattle.meta.specs.declared.meta2.PageHeader.{PageHeader}
use Rattle.meta.specs.declared.meta2.RawEntry.{RawEntry}

-- ---- what the examples speak of

-- A slot of 2^log2 bytes to be written, in a format, with a generation and a number.
abbrev pub fields : ℕ → ℕ → ℕ → ℕ → SlotFields
fields log2 format generation number =
    record {
      volume_uuid = replicate 16 0;
      object_id = 0;
      generation = generation;
      owner_generation = 0;
      slot_offset = 0;
      slot_index = SlotIndex.A;
      log2_slot_size = log2;
      prev_header_crc32c = 0;
      format_major = format;
      meta_seq = number;
      compat_flags = 0;
    }

-- The number of a refusal, 0 where nothing is refused.
abbrev pub refusal : {A E : Type 0} → (E → ℕ) → Result A E → ℕ
refusal number (Ok value) = 0
refusal number (Err error) = number error

abbrev pub version : ℕ → ℕ → Version
version generation number =
    record { generation = generation; meta_seq = number; header_crc32c = 7; prev_header_crc32c = 0; owner_generation = 0 }

-- What the judge is told of slots, by the codes of their statuses.
abbrev pub valid : ℕ → ℕ → Shown
valid generation number = part_shown (record { code = 12; facts = 0; version = version generation number })

abbrev pub blank_slot : Shown
blank_slot =
    part_shown
    (record {
      code = 2;
      facts = 0;
      version = record { generation = 0; meta_seq = 0; header_crc32c = 0; prev_header_crc32c = 0; owner_generation = 0 };
    })

-- A write after a valid slot of generation 1, its payload torn.
abbrev pub torn : ℕ → Shown
torn number =
    part_shown
    (record {
      code = 11;
      facts = 2;
      version = record { generation = 2; meta_seq = number; header_crc32c = 8; prev_header_crc32c = 7; owner_generation = 0 };
    })

abbrev pub pair : Shown → Shown → Pair
pair a b = record { a = a; b = b; operator = 0 }

-- A volume record with a number, and a page beside a torn write with another one.
abbrev pub numbered_row : ℕ → ℕ → List Pair
numbered_row highest candidate = pair (valid 1 highest) blank_slot ∷ pair (valid 1 1) (torn candidate) ∷ []

-- What the judge answers over a row without a clean mark: the verdicts, and the slot to heal.
abbrev pub judged : List Pair → List PairVerdict × Option (ℕ × SlotIndex)
judged row = (verdicts row false, (judgement row false).heal)

-- Both log2 12, one page.
abbrev pub volume : VolumeMeta2
volume =
    record {
      base =
          record {
            log2_block_size = 12;
            log2_table_slot_size = 12;
            device_index = 0;
            owner_generation = 0;
            table_offset = 8192;
            created_unix_s = 0;
            features = 0;
          };
      table_pages = 1;
      entries_per_page = 41;
      clean_close = false;
      flags = 0;
    }

-- The entry of a slot region with a name of one byte, its headers in the two blocks after the table of that volume; and a page of it alone.
abbrev pub entry_named : ℕ → RawEntry
entry_named b =
    record {
      seq = 0;
      kind = 3;
      state = 1;
      flags = 0;
      compat_flags = 0;
      name = b ∷ replicate 23 0;
      tag = 0;
      extent_count = 0;
      reserved = 0;
      header_a = 16384;
      header_b = 20480;
      data_size = 0;
      capacity = 0;
      span_start = 16384;
      span_end = 24576;
      footprint_seq = 1;
    }

abbrev pub limits : EntryLimits
limits = record { log2_block = 12; table_end = 16384; file_len = 24576; page_meta_seq = 1 }

abbrev pub one_entry : PageHeader
one_entry = record { page_index = 0; next_seq = 1; count = 1 }

abbrev pub page_named : ℕ → List ℕ
page_named b = page_bytes one_entry (entry_bytes (entry_named b) ∷ [])

-- ---- the examples

pub record Starred : Type 0 where
  -- No bytes: checksum 0.
  pub no_bytes : crc32c [] ≡ 0
  -- Page capacity at log2 11 is 41, at 17 is 681.
  pub capacity_at_11 : entries_per_page 11 ≡ 41
  pub capacity_at_17 : entries_per_page 17 ≡ 681
  -- Slot of 512: payload 384 fits, 385 gives 3.
  pub payload_384 : refusal error_number (encode_check (fields 9 2 1 1) (replicate 384 0) 512) ≡ 0
  pub payload_385 : refusal error_number (encode_check (fields 9 2 1 1) (replicate 385 0) 512) ≡ 3
  -- Log2 8 with generation 0: 1.
  pub log2_8 : refusal error_number (encode_check (fields 8 2 0 1) [] 256) ≡ 1
  -- Format 1 with number 1: 5.
  pub format_1 : refusal error_number (encode_check (fields 9 1 1 1) [] 512) ≡ 5
  -- A generation 1, B Blank: Nothing. B generation 1, A Blank: Damage. A generation 2, B Blank: Damage.
  pub a_first : opposite SlotIndex.A (version 1 1) blank_slot ≡ Opposite.Nothing
  pub b_first : opposite SlotIndex.B (version 1 1) blank_slot ≡ Opposite.Damage
  pub a_second : opposite SlotIndex.A (version 2 1) blank_slot ≡ Opposite.Damage
  pub a_first_judged : judged (pair (valid 1 1) blank_slot ∷ []) ≡ (winner_beside SlotIndex.A SlotVerdict.Nothing ∷ [], None)
  pub b_first_judged : judged (pair blank_slot (valid 1 1) ∷ []) ≡ (winner_beside SlotIndex.B SlotVerdict.Damage ∷ [], None)
  pub a_second_judged : judged (pair (valid 2 1) blank_slot ∷ []) ≡ (winner_beside SlotIndex.A SlotVerdict.Damage ∷ [], None)
  -- Numbers 4 and candidate 5: qualifies; 5 and 5, or 4 and 6: not.
  pub candidate : opposite SlotIndex.A (version 1 4) (torn 5) ≡ Opposite.Candidate (Some 5)
  pub numbers_4_5 : qualifies (numbers 0 (pair (valid 1 4) (torn 5) ∷ [])) 1 (Some 5) ≡ true
  pub numbers_5_5 : qualifies (numbers 0 (pair (valid 1 5) (torn 5) ∷ [])) 1 (Some 5) ≡ false
  pub numbers_4_6 : qualifies (numbers 0 (pair (valid 1 4) (torn 6) ∷ [])) 1 (Some 6) ≡ false
  pub judged_4_5 : judged (numbered_row 4 5)
      ≡ (winner_beside SlotIndex.A SlotVerdict.Nothing ∷ winner_beside SlotIndex.A SlotVerdict.InFlight ∷ [], Some (1, SlotIndex.B))
  pub judged_5_5 : judged (numbered_row 5 5)
      ≡ (winner_beside SlotIndex.A SlotVerdict.Nothing ∷ winner_beside SlotIndex.A SlotVerdict.Damage ∷ [], None)
  pub judged_4_6 : judged (numbered_row 4 6)
      ≡ (winner_beside SlotIndex.A SlotVerdict.Nothing ∷ winner_beside SlotIndex.A SlotVerdict.Damage ∷ [], None)
  -- 24 zero bytes as page 0: accepted.
  pub empty_page : decode_page (replicate 24 0) 0 41 ≡ Ok (record { page_index = 0; next_seq = 0; count = 0 })
  -- Name of 24 letters: accepted; C0 80 (hexadecimal): 35.
  pub letters_24 : named (replicate 24 0x61) ≡ Ok (record { bytes = replicate 24 0x61; len = 24 })
  pub c0_80 : refusal number (named (0xC0 ∷ 0x80 ∷ [])) ≡ 35
  -- Names of one byte: 20 and 7E (hexadecimal) are accepted, 1F and 7F are 35. C2 80, the control character 80, is accepted.
  pub name_20 : refusal number (named (0x20 ∷ [])) ≡ 0
  pub name_7e : refusal number (named (0x7E ∷ [])) ≡ 0
  pub name_1f : refusal number (named (0x1F ∷ [])) ≡ 35
  pub name_7f : refusal number (named (0x7F ∷ [])) ≡ 35
  pub c2_80 : refusal number (named (0xC2 ∷ 0x80 ∷ [])) ≡ 0
  -- A page whose entry has the name 1F is read. The entry is 35, where with the name 20 it is accepted; it has no name and no kind, and keeps
  -- its bytes reserved.
  pub page_1f : decode_page (page_named 0x1F) 0 41 ≡ Ok one_entry
  pub entry_20 : refusal number (check_entry (entry_named 0x20) limits) ≡ 0
  pub entry_1f : refusal number (check_entry (entry_named 0x1F) limits) ≡ 35
  pub no_name_1f : name_in (entry_named 0x1F).name ≡ None
  pub no_kind_1f : name_and_kind (entry_named 0x1F) ≡ None
  pub span_1f : reserved_span (entry_named 0x1F) limits ≡ Some (16384, 24576)
  -- Both log2 12, one page: end 16,384; file of 16,383: 26.
  pub end_16384 : table_end volume ≡ Ok 16384
  pub file_16383 : refusal number (check_file_len volume 16383) ≡ 26

-- Entries per page for log2 12 to 16 (docs/FORMAT.md, "The volume record").
abbrev pub Capacities : Type 0
Capacities =
    (entries_per_page 12 ≡ 41) × (entries_per_page 13 ≡ 83) × (entries_per_page 14 ≡ 169) × (entries_per_page 15 ≡ 339)
    × (entries_per_page 16 ≡ 681)
