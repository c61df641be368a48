-- The rules of names, the volume record, pages and entries by rows (docs/FORMAT.md, "Names", "The volume record", "Pages", "Entries" and
-- "Refusals"): what is given on both sides of each bound, and which refusal comes first where several are met. Refusals are told by their
-- numbers, 0 for none.
use Rattle.std.specs.Prelude.{◌≡◌, Bool, true, false, List, [], ◌∷◌, ◌++◌, ℕ, zero, suc, length, take, drop, map, replicate, Option, Some, None, Ok, Err}
use Rattle.std.specs.Int.{w16, w32, w64, to_le_bytes}
use Rattle.std.specs.List.{concat}
use Rattle.codec.specs.Bytes.{put}
use Rattle.meta.specs.declared.meta.Field.{Field}
use Rattle.meta.specs.declared.meta.MetaError.{MetaError}
use Rattle.meta.specs.declared.meta.RegionKind.{RegionKind}
use Rattle.meta.specs.declared.meta.RegionState.{RegionState}
use Rattle.meta.specs.declared.meta.VolumeMeta.{VolumeMeta}
use Rattle.meta.specs.declared.meta2.VolumeMeta2.{VolumeMeta2}
use Rattle.meta.specs.declared.meta2.RawEntry.{RawEntry}
use Rattle.meta.specs.declared.meta2.Entry2.{Entry2}
use Rattle.meta.specs.declared.meta2.EntryLimits.{EntryLimits}
use Rattle.meta.specs.declared.meta2.PageHeader.{PageHeader}
use Rattle.meta.specs.Kind.{kind_at, kind_number, state_at, state_number}
use Rattle.meta.specs.Name.{named, padded, name_in, name_text}
use Rattle.meta.specs.Scalar.{encode, encode_all}
use Rattle.meta.specs.Block.{block_size, entries_per_page}
use Rattle.meta.specs.Base.{decode_base, encode_base}
use Rattle.meta.specs.Volume.{decode_volume, encode_volume, table_end, check_file_len}
use Rattle.meta.specs.Entry.{read_entry, write_entry, name_and_kind, reserved_span, to_raw}
use Rattle.meta.specs.Check.{check_entry}
use Rattle.meta.specs.Page.{parts, decode_page, encode_page, encode_entries}
use Rattle.meta.specs.Table.{answer, field, base, volume, base_with, volume_with, entry, entry_record, limits}

-- ---- bytes

-- n numbers from k on.
abbrev pub up : (k n : ℕ) → List ℕ
up k zero = []
up k (suc n) = k ∷ up (suc k) n

-- Bytes with others put at places.
abbrev pub changed : List ℕ → List (ℕ × List ℕ) → List ℕ
changed s [] = s
changed s (change ∷ changes) = changed (put s change.0 change.1) changes

-- ---- names

-- The answers for names that are spelled with each of these bytes.
abbrev pub each : (ℕ → List ℕ) → List ℕ → List ℕ
each spell bs = map (λ b. answer (named (spell b))) bs

pub record NameRows : Type 0 where
  -- The length, in bytes: letters alone, and a character of two bytes at the end.
  pub lengths : map (λ n. answer (named (replicate n 0x61))) (0 ∷ 1 ∷ 23 ∷ 24 ∷ 25 ∷ 257 ∷ []) ≡ 35 ∷ 0 ∷ 0 ∷ 0 ∷ 35 ∷ 35 ∷ []
  pub lengths_in_bytes : map (λ n. answer (named (replicate n 0x61 ++ 0xC3 ∷ 0xA9 ∷ []))) (22 ∷ 23 ∷ []) ≡ 0 ∷ 35 ∷ []
  -- Which bytes are printable: alone, in front, between, at the end, and as the last of 24.
  pub alone : each (λ b. b ∷ []) (0 ∷ 9 ∷ 0x1F ∷ 0x20 ∷ 0x2F ∷ 0x7E ∷ 0x7F ∷ []) ≡ 35 ∷ 35 ∷ 35 ∷ 0 ∷ 0 ∷ 0 ∷ 35 ∷ []
  pub front : each (λ b. b ∷ 0x61 ∷ 0x61 ∷ []) (0 ∷ 0x1F ∷ 0x20 ∷ 0x7E ∷ 0x7F ∷ []) ≡ 35 ∷ 35 ∷ 0 ∷ 0 ∷ 35 ∷ []
  pub between : each (λ b. 0x61 ∷ b ∷ 0x61 ∷ []) (0 ∷ 0x1F ∷ 0x20 ∷ 0x7E ∷ 0x7F ∷ []) ≡ 35 ∷ 35 ∷ 0 ∷ 0 ∷ 35 ∷ []
  pub end : each (λ b. 0x61 ∷ 0x61 ∷ b ∷ []) (0 ∷ 0x1F ∷ 0x20 ∷ 0x7E ∷ 0x7F ∷ []) ≡ 35 ∷ 35 ∷ 0 ∷ 0 ∷ 35 ∷ []
  pub last : each (λ b. replicate 23 0x61 ++ b ∷ []) (0 ∷ 0x1F ∷ 0x20 ∷ 0x7E ∷ 0x7F ∷ []) ≡ 35 ∷ 35 ∷ 0 ∷ 0 ∷ 35 ∷ []
  -- A name that is made of bytes.
  pub made : named (0x61 ∷ 0x62 ∷ []) ≡ Ok (record { bytes = 0x61 ∷ 0x62 ∷ replicate 22 0; len = 2 })
  pub made_of_three : named (0xE2 ∷ 0x82 ∷ 0xAC ∷ []) ≡ Ok (record { bytes = 0xE2 ∷ 0x82 ∷ 0xAC ∷ replicate 21 0; len = 3 })
  pub made_longest : named (replicate 24 0x7E) ≡ Ok (record { bytes = replicate 24 0x7E; len = 24 })
  -- A name that is stored: it ends at the first zero, and all after that is zero.
  pub stored : padded (0x61 ∷ 0x62 ∷ replicate 22 0) ≡ Ok (record { bytes = 0x61 ∷ 0x62 ∷ replicate 22 0; len = 2 })
  pub stored_23 : padded (replicate 23 0x61 ++ 0 ∷ []) ≡ Ok (record { bytes = replicate 23 0x61 ++ 0 ∷ []; len = 23 })
  pub stored_longest : padded (replicate 24 0x61) ≡ Ok (record { bytes = replicate 24 0x61; len = 24 })
  pub stored_behind : map (λ raw. answer (padded raw)) ((0x61 ∷ 0 ∷ 0x61 ∷ replicate 21 0) ∷ (0x61 ∷ replicate 22 0 ++ 1 ∷ [])
      ∷ (replicate 22 0x61 ++ 0 ∷ 1 ∷ []) ∷ [])
      ≡ 35 ∷ 35 ∷ 35 ∷ []
  pub stored_none : map (λ raw. answer (padded raw)) (replicate 24 0 ∷ (0 ∷ replicate 23 0x61) ∷ []) ≡ 35 ∷ 35 ∷ []
  pub stored_wrong : map (λ raw. answer (padded raw)) ((0x1F ∷ replicate 23 0) ∷ (0xC2 ∷ replicate 23 0) ∷ (replicate 23 0x61 ++ 0xC2 ∷ []) ∷ [])
      ≡ 35 ∷ 35 ∷ 35 ∷ []
  -- A name that an entry is asked for.
  pub asked : name_in (0x61 ∷ replicate 23 0) ≡ Some (record { bytes = 0x61 ∷ replicate 23 0; len = 1 })
  pub asked_none : map name_in (replicate 24 0 ∷ (0x1F ∷ replicate 23 0) ∷ (0x61 ∷ 0 ∷ 0x61 ∷ replicate 21 0) ∷ []) ≡ None ∷ None ∷ None ∷ []
  -- A name as text, by its length: none in the middle of a character, and above 24.
  pub texts : map (λ n. name_text (record { bytes = 0x61 ∷ 0xC3 ∷ 0xA9 ∷ 0x1F ∷ replicate 19 0 ++ 0x7E ∷ []; len = n })) (0 ∷ 1 ∷ 2 ∷ 3 ∷ 4 ∷ 23 ∷ 24
      ∷ 25 ∷ 255 ∷ [])
      ≡ [] ∷ (0x61 ∷ []) ∷ [] ∷ (0x61 ∷ 0xC3 ∷ 0xA9 ∷ []) ∷ (0x61 ∷ 0xC3 ∷ 0xA9 ∷ 0x1F ∷ []) ∷ (0x61 ∷ 0xC3 ∷ 0xA9 ∷ 0x1F ∷ replicate 19 0)
      ∷ (0x61 ∷ 0xC3 ∷ 0xA9 ∷ 0x1F ∷ replicate 19 0 ++ 0x7E ∷ []) ∷ [] ∷ [] ∷ []
  pub texts_of_one : map (λ b. name_text (record { bytes = b ∷ replicate 23 0; len = 1 })) (0 ∷ 0x7F ∷ 0x80 ∷ 0xC2 ∷ 0xFF ∷ [])
      ≡ (0 ∷ []) ∷ (0x7F ∷ []) ∷ [] ∷ [] ∷ [] ∷ []

-- UTF-8 by the grammar of RFC 3629: each of its alternatives at both ends.
pub record Utf8Rows : Type 0 where
  -- The first byte, with none, one, two and three bytes after it. E0 and ED, F0 and F4 are told apart by the second one.
  pub first_of_one : each (λ b. b ∷ []) (0x7E ∷ 0x80 ∷ 0xBF ∷ 0xC0 ∷ 0xC2 ∷ 0xE1 ∷ 0xF1 ∷ 0xFE ∷ 0xFF ∷ [])
      ≡ 0 ∷ 35 ∷ 35 ∷ 35 ∷ 35 ∷ 35 ∷ 35 ∷ 35 ∷ 35 ∷ []
  pub first_of_two : each (λ b. b ∷ 0x80 ∷ []) (0x7E ∷ 0x80 ∷ 0xC0 ∷ 0xC1 ∷ 0xC2 ∷ 0xDF ∷ 0xE0 ∷ 0xE1 ∷ 0xFF ∷ [])
      ≡ 35 ∷ 35 ∷ 35 ∷ 35 ∷ 0 ∷ 0 ∷ 35 ∷ 35 ∷ 35 ∷ []
  pub first_of_three : each (λ b. b ∷ 0x80 ∷ 0x80 ∷ []) (0xC2 ∷ 0xDF ∷ 0xE0 ∷ 0xE1 ∷ 0xEC ∷ 0xED ∷ 0xEE ∷ 0xEF ∷ 0xF0 ∷ [])
      ≡ 35 ∷ 35 ∷ 35 ∷ 0 ∷ 0 ∷ 0 ∷ 0 ∷ 0 ∷ 35 ∷ []
  pub first_of_three_high : each (λ b. b ∷ 0xBF ∷ 0xBF ∷ []) (0xC2 ∷ 0xDF ∷ 0xE0 ∷ 0xE1 ∷ 0xEC ∷ 0xED ∷ 0xEE ∷ 0xEF ∷ 0xF0 ∷ [])
      ≡ 35 ∷ 35 ∷ 0 ∷ 0 ∷ 0 ∷ 35 ∷ 0 ∷ 0 ∷ 35 ∷ []
  pub first_of_four : each (λ b. b ∷ 0x80 ∷ 0x80 ∷ 0x80 ∷ []) (0xEF ∷ 0xF0 ∷ 0xF1 ∷ 0xF3 ∷ 0xF4 ∷ 0xF5 ∷ 0xF8 ∷ [])
      ≡ 35 ∷ 35 ∷ 0 ∷ 0 ∷ 0 ∷ 35 ∷ 35 ∷ []
  pub first_of_four_high : each (λ b. b ∷ 0xBF ∷ 0xBF ∷ 0xBF ∷ []) (0xEF ∷ 0xF0 ∷ 0xF1 ∷ 0xF3 ∷ 0xF4 ∷ 0xF5 ∷ 0xF7 ∷ [])
      ≡ 35 ∷ 0 ∷ 0 ∷ 0 ∷ 35 ∷ 35 ∷ 35 ∷ []
  -- The second byte.
  pub second_c2 : each (λ b. 0xC2 ∷ b ∷ []) (0x7E ∷ 0x80 ∷ 0xBF ∷ 0xC0 ∷ []) ≡ 35 ∷ 0 ∷ 0 ∷ 35 ∷ []
  pub second_df : each (λ b. 0xDF ∷ b ∷ []) (0x7E ∷ 0x80 ∷ 0xBF ∷ 0xC0 ∷ []) ≡ 35 ∷ 0 ∷ 0 ∷ 35 ∷ []
  pub second_e0 : each (λ b. 0xE0 ∷ b ∷ 0x80 ∷ []) (0x7E ∷ 0x80 ∷ 0x9F ∷ 0xA0 ∷ 0xBF ∷ 0xC0 ∷ []) ≡ 35 ∷ 35 ∷ 35 ∷ 0 ∷ 0 ∷ 35 ∷ []
  pub second_e1 : each (λ b. 0xE1 ∷ b ∷ 0x80 ∷ []) (0x7E ∷ 0x80 ∷ 0xBF ∷ 0xC0 ∷ []) ≡ 35 ∷ 0 ∷ 0 ∷ 35 ∷ []
  pub second_ec : each (λ b. 0xEC ∷ b ∷ 0x80 ∷ []) (0x7E ∷ 0x80 ∷ 0xBF ∷ 0xC0 ∷ []) ≡ 35 ∷ 0 ∷ 0 ∷ 35 ∷ []
  pub second_ed : each (λ b. 0xED ∷ b ∷ 0x80 ∷ []) (0x7E ∷ 0x80 ∷ 0x9F ∷ 0xA0 ∷ 0xBF ∷ 0xC0 ∷ []) ≡ 35 ∷ 0 ∷ 0 ∷ 35 ∷ 35 ∷ 35 ∷ []
  pub second_ee : each (λ b. 0xEE ∷ b ∷ 0x80 ∷ []) (0x7E ∷ 0x80 ∷ 0xBF ∷ 0xC0 ∷ []) ≡ 35 ∷ 0 ∷ 0 ∷ 35 ∷ []
  pub second_ef : each (λ b. 0xEF ∷ b ∷ 0x80 ∷ []) (0x7E ∷ 0x80 ∷ 0xBF ∷ 0xC0 ∷ []) ≡ 35 ∷ 0 ∷ 0 ∷ 35 ∷ []
  pub second_f0 : each (λ b. 0xF0 ∷ b ∷ 0x80 ∷ 0x80 ∷ []) (0x7E ∷ 0x80 ∷ 0x8F ∷ 0x90 ∷ 0xBF ∷ 0xC0 ∷ []) ≡ 35 ∷ 35 ∷ 35 ∷ 0 ∷ 0 ∷ 35 ∷ []
  pub second_f1 : each (λ b. 0xF1 ∷ b ∷ 0x80 ∷ 0x80 ∷ []) (0x7E ∷ 0x80 ∷ 0xBF ∷ 0xC0 ∷ []) ≡ 35 ∷ 0 ∷ 0 ∷ 35 ∷ []
  pub second_f3 : each (λ b. 0xF3 ∷ b ∷ 0x80 ∷ 0x80 ∷ []) (0x7E ∷ 0x80 ∷ 0xBF ∷ 0xC0 ∷ []) ≡ 35 ∷ 0 ∷ 0 ∷ 35 ∷ []
  pub second_f4 : each (λ b. 0xF4 ∷ b ∷ 0x80 ∷ 0x80 ∷ []) (0x7E ∷ 0x80 ∷ 0x8F ∷ 0x90 ∷ 0xBF ∷ 0xC0 ∷ []) ≡ 35 ∷ 0 ∷ 0 ∷ 35 ∷ 35 ∷ 35 ∷ []
  -- The third and the fourth byte.
  pub third_e0 : each (λ b. 0xE0 ∷ 0xA0 ∷ b ∷ []) (0x7E ∷ 0x80 ∷ 0xBF ∷ 0xC0 ∷ []) ≡ 35 ∷ 0 ∷ 0 ∷ 35 ∷ []
  pub third_e1 : each (λ b. 0xE1 ∷ 0x80 ∷ b ∷ []) (0x7E ∷ 0x80 ∷ 0xBF ∷ 0xC0 ∷ []) ≡ 35 ∷ 0 ∷ 0 ∷ 35 ∷ []
  pub third_ed : each (λ b. 0xED ∷ 0x80 ∷ b ∷ []) (0x7E ∷ 0x80 ∷ 0xBF ∷ 0xC0 ∷ []) ≡ 35 ∷ 0 ∷ 0 ∷ 35 ∷ []
  pub third_ee : each (λ b. 0xEE ∷ 0x80 ∷ b ∷ []) (0x7E ∷ 0x80 ∷ 0xBF ∷ 0xC0 ∷ []) ≡ 35 ∷ 0 ∷ 0 ∷ 35 ∷ []
  pub third_f0 : each (λ b. 0xF0 ∷ 0x90 ∷ b ∷ 0x80 ∷ []) (0x7E ∷ 0x80 ∷ 0xBF ∷ 0xC0 ∷ []) ≡ 35 ∷ 0 ∷ 0 ∷ 35 ∷ []
  pub third_f1 : each (λ b. 0xF1 ∷ 0x80 ∷ b ∷ 0x80 ∷ []) (0x7E ∷ 0x80 ∷ 0xBF ∷ 0xC0 ∷ []) ≡ 35 ∷ 0 ∷ 0 ∷ 35 ∷ []
  pub third_f4 : each (λ b. 0xF4 ∷ 0x80 ∷ b ∷ 0x80 ∷ []) (0x7E ∷ 0x80 ∷ 0xBF ∷ 0xC0 ∷ []) ≡ 35 ∷ 0 ∷ 0 ∷ 35 ∷ []
  pub fourth_f0 : each (λ b. 0xF0 ∷ 0x90 ∷ 0x80 ∷ b ∷ []) (0x7E ∷ 0x80 ∷ 0xBF ∷ 0xC0 ∷ []) ≡ 35 ∷ 0 ∷ 0 ∷ 35 ∷ []
  pub fourth_f1 : each (λ b. 0xF1 ∷ 0x80 ∷ 0x80 ∷ b ∷ []) (0x7E ∷ 0x80 ∷ 0xBF ∷ 0xC0 ∷ []) ≡ 35 ∷ 0 ∷ 0 ∷ 35 ∷ []
  pub fourth_f4 : each (λ b. 0xF4 ∷ 0x80 ∷ 0x80 ∷ b ∷ []) (0x7E ∷ 0x80 ∷ 0xBF ∷ 0xC0 ∷ []) ≡ 35 ∷ 0 ∷ 0 ∷ 35 ∷ []
  -- Characters that end too early: at the end, and before a letter. A byte that continues none.
  pub short_at_end : map (λ s. answer (named s)) ((0x61 ∷ 0xC2 ∷ []) ∷ (0xE1 ∷ 0x80 ∷ []) ∷ (0xF1 ∷ 0x80 ∷ []) ∷ (0xF1 ∷ 0x80 ∷ 0x80 ∷ []) ∷ [])
      ≡ 35 ∷ 35 ∷ 35 ∷ 35 ∷ []
  pub short_between : map (λ s. answer (named s)) ((0xC2 ∷ 0x61 ∷ []) ∷ (0xE1 ∷ 0x80 ∷ 0x61 ∷ []) ∷ (0xF1 ∷ 0x80 ∷ 0x61 ∷ [])
      ∷ (0xF1 ∷ 0x80 ∷ 0x80 ∷ 0x61 ∷ []) ∷ [])
      ≡ 35 ∷ 35 ∷ 35 ∷ 35 ∷ []
  pub stray : map (λ s. answer (named s)) ((0x61 ∷ 0x80 ∷ []) ∷ (0xBF ∷ 0x61 ∷ []) ∷ (0xC2 ∷ 0x80 ∷ 0x80 ∷ [])
      ∷ (0xF1 ∷ 0x80 ∷ 0x80 ∷ 0x80 ∷ 0x80 ∷ []) ∷ [])
      ≡ 35 ∷ 35 ∷ 35 ∷ 35 ∷ []
  -- Overlong forms of the characters 0, 2F, 7F, 7FF and FFFF, the first and the last surrogate and a pair of them, and 110000.
  pub overlong : map (λ s. answer (named s)) ((0xC0 ∷ 0x80 ∷ []) ∷ (0xE0 ∷ 0x80 ∷ 0xAF ∷ []) ∷ (0xC1 ∷ 0xBF ∷ []) ∷ (0xE0 ∷ 0x9F ∷ 0xBF ∷ [])
      ∷ (0xF0 ∷ 0x8F ∷ 0xBF ∷ 0xBF ∷ []) ∷ [])
      ≡ 35 ∷ 35 ∷ 35 ∷ 35 ∷ 35 ∷ []
  pub surrogates : map (λ s. answer (named s)) ((0xED ∷ 0xA0 ∷ 0x80 ∷ []) ∷ (0xED ∷ 0xBF ∷ 0xBF ∷ []) ∷ (0xED ∷ 0xA1 ∷ 0x8C ∷ 0xED ∷ 0xBE ∷ 0xB4 ∷ [])
      ∷ [])
      ≡ 35 ∷ 35 ∷ 35 ∷ []
  pub too_high : map (λ s. answer (named s)) ((0xF4 ∷ 0x90 ∷ 0x80 ∷ 0x80 ∷ []) ∷ (0xF8 ∷ 0x88 ∷ 0x80 ∷ 0x80 ∷ 0x80 ∷ []) ∷ []) ≡ 35 ∷ 35 ∷ []
  -- Several characters, of each length, of 24 bytes of four, and with a wrong one at the end.
  pub several : answer (named (0x61 ∷ 0xC2 ∷ 0xA2 ∷ 0xE2 ∷ 0x82 ∷ 0xAC ∷ 0xF0 ∷ 0x90 ∷ 0x8D ∷ 0x88 ∷ 0x61 ∷ [])) ≡ 0
  pub six_of_four : answer (named (concat (replicate 6 (0xF4 ∷ 0x8F ∷ 0xBF ∷ 0xBF ∷ [])))) ≡ 0
  pub wrong_at_end : answer (named (0xC2 ∷ 0xA2 ∷ 0xE2 ∷ 0x82 ∷ 0xAC ∷ 0xED ∷ 0xA0 ∷ 0x80 ∷ [])) ≡ 35
  -- The encodings at both ends of each length, and the examples of RFC 3629, section 7.
  pub encodings : map encode (0 ∷ 0x7F ∷ 0x80 ∷ 0x7FF ∷ 0x800 ∷ 0xFFFF ∷ 0x1_0000 ∷ 0x10_FFFF ∷ [])
      ≡ (0 ∷ []) ∷ (0x7F ∷ []) ∷ (0xC2 ∷ 0x80 ∷ []) ∷ (0xDF ∷ 0xBF ∷ []) ∷ (0xE0 ∷ 0xA0 ∷ 0x80 ∷ []) ∷ (0xEF ∷ 0xBF ∷ 0xBF ∷ [])
      ∷ (0xF0 ∷ 0x90 ∷ 0x80 ∷ 0x80 ∷ []) ∷ (0xF4 ∷ 0x8F ∷ 0xBF ∷ 0xBF ∷ []) ∷ []
  pub not_identical : encode_all (0x41 ∷ 0x2262 ∷ 0x391 ∷ 0x2E ∷ []) ≡ 0x41 ∷ 0xE2 ∷ 0x89 ∷ 0xA2 ∷ 0xCE ∷ 0x91 ∷ 0x2E ∷ []
  pub hangul : encode_all (0xD55C ∷ 0xAD6D ∷ 0xC5B4 ∷ []) ≡ 0xED ∷ 0x95 ∷ 0x9C ∷ 0xEA ∷ 0xB5 ∷ 0xAD ∷ 0xEC ∷ 0x96 ∷ 0xB4 ∷ []
  pub above_ffff : encode_all (0xFEFF ∷ 0x2_33B4 ∷ []) ≡ 0xEF ∷ 0xBB ∷ 0xBF ∷ 0xF0 ∷ 0xA3 ∷ 0x8E ∷ 0xB4 ∷ []

-- ---- sizes, and the base of the volume record

pub record SizeRows : Type 0 where
  pub blocks : map block_size (0 ∷ 11 ∷ 12 ∷ 13 ∷ 14 ∷ 15 ∷ 16 ∷ 17 ∷ 255 ∷ [])
      ≡ 4096 ∷ 4096 ∷ 4096 ∷ 8192 ∷ 16384 ∷ 32768 ∷ 65536 ∷ 65536 ∷ 65536 ∷ []
  pub entries : map entries_per_page (0 ∷ 11 ∷ 12 ∷ 13 ∷ 14 ∷ 15 ∷ 16 ∷ 17 ∷ 255 ∷ []) ≡ 41 ∷ 41 ∷ 41 ∷ 83 ∷ 169 ∷ 339 ∷ 681 ∷ 681 ∷ 681 ∷ []

-- Bytes that are their own offsets, where the layout leaves them free to be so.
abbrev pub counted_base : List ℕ
counted_base = 12 ∷ 16 ∷ 2 ∷ 3 ∷ 0 ∷ 0 ∷ 0 ∷ 0 ∷ up 8 8 ++ 0 ∷ 16 ∷ up 18 14 ++ replicate 16 0

abbrev pub counted_base_record : VolumeMeta
counted_base_record =
    record {
      log2_block_size = 12;
      log2_table_slot_size = 16;
      device_index = 0x302;
      owner_generation = 0x0F0E_0D0C_0B0A_0908;
      table_offset = 0x1716_1514_1312_1000;
      created_unix_s = 0x1F1E_1D1C_1B1A_1918;
      features = 0;
    }

-- A base that is not to be decoded.
abbrev pub free_base : VolumeMeta
free_base =
    record counted_base_record {
      log2_block_size = 0;
      log2_table_slot_size = 1;
      table_offset = 0x1716_1514_1312_1110;
      features = 0x2726_2524_2322_2120;
    }

-- The answer for a base with these values.
abbrev pub base_of : (block table offset : ℕ) → ℕ
base_of block table offset = answer (decode_base (changed base ((0, block ∷ table ∷ []) ∷ (16, to_le_bytes w64 offset) ∷ [])))

-- A fault for each check of the base.
abbrev pub base_faults : List (ℕ × List ℕ)
base_faults = (32, 1 ∷ []) ∷ (4, 1 ∷ []) ∷ (0, 11 ∷ []) ∷ (1, 17 ∷ []) ∷ (16, 1 ∷ []) ∷ []

pub record BaseRows : Type 0 where
  pub read : decode_base counted_base ≡ Ok counted_base_record
  pub read_on : decode_base (counted_base ++ up 48 3) ≡ Ok counted_base_record
  pub written : encode_base counted_base_record (replicate 48 1) ≡ (counted_base, Ok 48)
  pub written_any : encode_base free_base (replicate 48 1) ≡ (0 ∷ 1 ∷ 2 ∷ 3 ∷ 0 ∷ 0 ∷ 0 ∷ 0 ∷ up 8 32 ++ replicate 8 0, Ok 48)
  pub written_on : encode_base counted_base_record (replicate 50 1) ≡ (counted_base ++ 1 ∷ 1 ∷ [], Ok 48)
  pub kept : encode_base counted_base_record (replicate 47 1) ≡ (replicate 47 1, Err MetaError.Length)
  pub kept_empty : encode_base counted_base_record [] ≡ ([], Err MetaError.Length)
  pub lengths : map (λ n. answer (decode_base (take n (base ++ 0 ∷ [])))) (0 ∷ 1 ∷ 47 ∷ 48 ∷ 49 ∷ []) ≡ 11 ∷ 11 ∷ 11 ∷ 0 ∷ 0 ∷ []
  -- Each byte of the features, and each zero.
  pub features : map (λ i. base_with i 1) (up 32 8) ≡ replicate 8 20
  pub zeros : map (λ i. base_with i 1) (up 4 4 ++ up 40 8) ≡ replicate 12 22
  pub zeros_high : map (λ i. base_with i 0x80) (4 ∷ 7 ∷ 40 ∷ 47 ∷ []) ≡ 22 ∷ 22 ∷ 22 ∷ 22 ∷ []
  -- The two log2.
  pub blocks : map (λ n. base_of n 16 0) (0 ∷ 11 ∷ 12 ∷ 13 ∷ 16 ∷ 17 ∷ 255 ∷ []) ≡ 23 ∷ 23 ∷ 0 ∷ 0 ∷ 0 ∷ 23 ∷ 23 ∷ []
  pub tables_12 : map (λ n. base_of 12 n 0) (0 ∷ 11 ∷ 12 ∷ 16 ∷ 17 ∷ 255 ∷ []) ≡ 24 ∷ 24 ∷ 0 ∷ 0 ∷ 24 ∷ 24 ∷ []
  pub tables_14 : map (λ n. base_of 14 n 0) (12 ∷ 13 ∷ 14 ∷ 15 ∷ 16 ∷ 17 ∷ []) ≡ 24 ∷ 24 ∷ 0 ∷ 0 ∷ 0 ∷ 24 ∷ []
  pub tables_16 : map (λ n. base_of 16 n 0) (15 ∷ 16 ∷ 17 ∷ []) ≡ 24 ∷ 0 ∷ 24 ∷ []
  -- The table's offset in whole blocks.
  pub offsets_12 : map (base_of 12 16) (0 ∷ 1 ∷ 0x800 ∷ 0xFFF ∷ 0x1000 ∷ 0x1001 ∷ 0x3000 ∷ []) ≡ 0 ∷ 13 ∷ 13 ∷ 13 ∷ 0 ∷ 13 ∷ 0 ∷ []
  pub offsets_13 : map (base_of 13 16) (0x1000 ∷ 0x2000 ∷ 0x3000 ∷ []) ≡ 13 ∷ 0 ∷ 13 ∷ []
  pub offsets_16 : map (base_of 16 16) (0x8000 ∷ 0x1_0000 ∷ 0x1_8000 ∷ []) ≡ 13 ∷ 0 ∷ 13 ∷ []
  pub offsets_high : map (base_of 12 16) (0x1_0000_0000 ∷ 0x1_0000_0001 ∷ 0xFFFF_FFFF_FFFF_F000 ∷ 0xFFFF_FFFF_FFFF_FFFF ∷ []) ≡ 0 ∷ 13 ∷ 0 ∷ 13 ∷ []
  -- Every fault at once, then without the first, the first two and so on; a buffer that is too short before all of them.
  pub order : map (λ k. answer (decode_base (changed base (drop k base_faults)))) (0 ∷ 1 ∷ 2 ∷ 3 ∷ 4 ∷ 5 ∷ []) ≡ 20 ∷ 22 ∷ 23 ∷ 24 ∷ 13 ∷ 0 ∷ []
  pub order_tail : answer (decode_base (changed base ((40, 1 ∷ []) ∷ (0, 11 ∷ []) ∷ []))) ≡ 22
  pub length_first : answer (decode_base (take 47 (changed base base_faults))) ≡ 11

-- ---- the volume record, the table's end and the file's length

abbrev pub counted_volume : List ℕ
counted_volume =
    16 ∷ 16 ∷ 2 ∷ 3 ∷ 0 ∷ 0 ∷ 0 ∷ 0 ∷ up 8 8 ++ 0 ∷ 0 ∷ 2 ∷ replicate 5 0 ++ up 24 8 ++ replicate 16 0
    ++ up 48 4 ++ 0xA9 ∷ 2 ∷ 1 ∷ replicate 9 0

abbrev pub counted_volume_record : VolumeMeta2
counted_volume_record =
    record {
      base = record counted_base_record { log2_block_size = 16; table_offset = 0x2_0000 };
      table_pages = 0x3332_3130;
      entries_per_page = 681;
      clean_close = true;
      flags = 0;
    }

abbrev pub free_volume : Bool → VolumeMeta2
free_volume clean =
    record { base = free_base; table_pages = 0x3332_3130; entries_per_page = 0x3534; clean_close = clean; flags = 0x3B3A_3938 }

-- The answer for a record with these values.
abbrev pub volume_of : (block table offset pages entries : ℕ) → ℕ
volume_of block table offset pages entries =
    answer (decode_volume (changed volume (
    (0, block ∷ table ∷ []) ∷ (16, to_le_bytes w64 offset) ∷ (48, to_le_bytes w32 pages) ∷ (52, to_le_bytes w16 entries) ∷ []
    )))

-- A fault for each check of the record. The table's offset has two: below whole blocks, and whole blocks but not two.
abbrev pub volume_faults : List (ℕ × List ℕ)
volume_faults =
    (32, 1 ∷ []) ∷ (56, 1 ∷ []) ∷ (4, 1 ∷ []) ∷ (0, 11 ∷ []) ∷ (1, 17 ∷ []) ∷ (16, 1 ∷ []) ∷ (55, 1 ∷ []) ∷ (17, 0x30 ∷ [])
    ∷ (48, 0 ∷ 0 ∷ 0 ∷ 0 ∷ []) ∷ (52, 0 ∷ []) ∷ (54, 2 ∷ []) ∷ []

pub record VolumeRows : Type 0 where
  pub read : decode_volume counted_volume ≡ Ok counted_volume_record
  pub read_open : decode_volume (put counted_volume 54 (0 ∷ [])) ≡ Ok (record counted_volume_record { clean_close = false })
  pub written : encode_volume counted_volume_record (replicate 64 1) ≡ (counted_volume, Ok 64)
  pub written_any : encode_volume (free_volume true) (replicate 64 1)
      ≡ (0 ∷ 1 ∷ 2 ∷ 3 ∷ 0 ∷ 0 ∷ 0 ∷ 0 ∷ up 8 32 ++ replicate 8 0 ++ up 48 6 ++ 1 ∷ 0 ∷ up 56 4 ++ replicate 4 0, Ok 64)
  pub written_open : encode_volume (free_volume false) (replicate 64 1)
      ≡ (0 ∷ 1 ∷ 2 ∷ 3 ∷ 0 ∷ 0 ∷ 0 ∷ 0 ∷ up 8 32 ++ replicate 8 0 ++ up 48 6 ++ 0 ∷ 0 ∷ up 56 4 ++ replicate 4 0, Ok 64)
  pub written_on : encode_volume counted_volume_record (replicate 66 1) ≡ (counted_volume ++ 1 ∷ 1 ∷ [], Ok 64)
  pub kept : encode_volume counted_volume_record (replicate 63 1) ≡ (replicate 63 1, Err MetaError.Length)
  pub kept_base : encode_volume counted_volume_record (replicate 48 1) ≡ (replicate 48 1, Err MetaError.Length)
  pub lengths : map (λ n. answer (decode_volume (take n (volume ++ replicate 64 0)))) (0 ∷ 47 ∷ 48 ∷ 63 ∷ 64 ∷ 65 ∷ 128 ∷ [])
      ≡ 11 ∷ 11 ∷ 11 ∷ 11 ∷ 0 ∷ 11 ∷ 11 ∷ []
  -- Each byte of the features and of the flags, and each zero.
  pub features : map (λ i. volume_with i 1) (up 32 8) ≡ replicate 8 20
  pub flags : map (λ i. volume_with i 1) (up 56 4) ≡ replicate 4 21
  pub zeros : map (λ i. volume_with i 1) (up 4 4 ++ up 40 8 ++ 55 ∷ up 60 4) ≡ replicate 17 22
  pub zeros_high : map (λ i. volume_with i 0x80) (4 ∷ 47 ∷ 55 ∷ 60 ∷ 63 ∷ []) ≡ 22 ∷ 22 ∷ 22 ∷ 22 ∷ 22 ∷ []
  -- The two log2, the first of them with its offset.
  pub blocks : map (λ (p : ℕ × ℕ). volume_of p.0 16 p.1 1 681) ((11, 0x1000) ∷ (12, 0x2000) ∷ (13, 0x4000) ∷ (14, 0x8000) ∷ (15, 0x1_0000)
      ∷ (16, 0x2_0000) ∷ (17, 0x4_0000) ∷ [])
      ≡ 23 ∷ 0 ∷ 0 ∷ 0 ∷ 0 ∷ 0 ∷ 23 ∷ []
  pub tables : map (λ (p : ℕ × ℕ). volume_of 13 p.0 0x4000 1 p.1) ((12, 41) ∷ (13, 83) ∷ (16, 681) ∷ (17, 681) ∷ []) ≡ 24 ∷ 0 ∷ 0 ∷ 24 ∷ []
  -- The table's offset, two blocks and no other.
  pub offsets : map (λ n. volume_of 12 12 n 1 41) (0 ∷ 0x1000 ∷ 0x1FFF ∷ 0x2000 ∷ 0x2001 ∷ 0x3000 ∷ 0x4000 ∷ 0x1_0000_2000 ∷ [])
      ≡ 25 ∷ 25 ∷ 13 ∷ 0 ∷ 13 ∷ 25 ∷ 25 ∷ 25 ∷ []
  pub offsets_16 : map (λ n. volume_of 16 16 n 1 681) (0x1_0000 ∷ 0x2_0000 ∷ 0x3_0000 ∷ 0x2_1000 ∷ []) ≡ 25 ∷ 0 ∷ 25 ∷ 13 ∷ []
  -- Table pages, 1 to 2^30 - 1.
  pub pages : map (λ n. volume_of 12 12 0x2000 n 41) (0 ∷ 1 ∷ 0x100 ∷ 0x1_0000 ∷ 0x100_0000 ∷ 0x3FFF_FFFF ∷ 0x4000_0000 ∷ 0xFFFF_FFFF ∷ [])
      ≡ 26 ∷ 0 ∷ 0 ∷ 0 ∷ 0 ∷ 0 ∷ 26 ∷ 26 ∷ []
  -- Entries per page, of the table's log2.
  pub entries_12 : map (volume_of 12 12 0x2000 1) (0 ∷ 40 ∷ 41 ∷ 42 ∷ 83 ∷ 0x129 ∷ []) ≡ 27 ∷ 27 ∷ 0 ∷ 27 ∷ 27 ∷ 27 ∷ []
  pub entries_13 : map (volume_of 12 13 0x2000 1) (41 ∷ 82 ∷ 83 ∷ 84 ∷ []) ≡ 27 ∷ 27 ∷ 0 ∷ 27 ∷ []
  pub entries_14 : map (volume_of 12 14 0x2000 1) (168 ∷ 169 ∷ 170 ∷ []) ≡ 27 ∷ 0 ∷ 27 ∷ []
  pub entries_15 : map (volume_of 12 15 0x2000 1) (338 ∷ 339 ∷ 340 ∷ []) ≡ 27 ∷ 0 ∷ 27 ∷ []
  pub entries_16 : map (volume_of 12 16 0x2000 1) (0xA9 ∷ 680 ∷ 681 ∷ 682 ∷ []) ≡ 27 ∷ 27 ∷ 0 ∷ 27 ∷ []
  -- The clean mark.
  pub marks : map (volume_with 54) (0 ∷ 1 ∷ 2 ∷ 0x80 ∷ 0xFF ∷ []) ≡ 0 ∷ 0 ∷ 28 ∷ 28 ∷ 28 ∷ []
  -- Every fault at once, then without the first, the first two and so on; another length before all of them.
  pub order : map (λ k. answer (decode_volume (changed volume (drop k volume_faults)))) (up 0 12)
      ≡ 20 ∷ 21 ∷ 22 ∷ 23 ∷ 24 ∷ 13 ∷ 22 ∷ 25 ∷ 26 ∷ 27 ∷ 28 ∷ 0 ∷ []
  pub order_tail : map (λ i. answer (decode_volume (changed volume ((i, 1 ∷ []) ∷ (17, 0x30 ∷ []) ∷ [])))) (55 ∷ 60 ∷ []) ≡ 22 ∷ 22 ∷ []
  pub length_first : map (λ s. answer (decode_volume s)) (take 63 (changed volume volume_faults) ∷ (changed volume volume_faults ++ 0 ∷ []) ∷ [])
      ≡ 11 ∷ 11 ∷ []

-- A record whose table has this place and size; nothing else of it counts.
abbrev pub table_of : (block table pages : ℕ) → VolumeMeta2
table_of block table pages =
    record {
      base = record free_base { log2_block_size = block; log2_table_slot_size = table };
      table_pages = pages;
      entries_per_page = 0;
      clean_close = false;
      flags = 1;
    }

abbrev pub end_of : (block table pages : ℕ) → ℕ
end_of block table pages = answer (table_end (table_of block table pages))

-- The answers for a table of one page, both log2 12, and for the largest one, in files of these lengths.
abbrev pub small_in : List ℕ → List ℕ
small_in = map (λ len. answer (check_file_len (table_of 12 12 1) len))

abbrev pub large_in : List ℕ → List ℕ
large_in = map (λ len. answer (check_file_len (table_of 16 16 0xFFFF_FFFF) len))

pub record TableRows : Type 0 where
  -- The table's end: two blocks, and two slots a page.
  pub pages : map (λ n. table_end (table_of 12 12 n)) (0 ∷ 1 ∷ 2 ∷ 3 ∷ []) ≡ Ok 0x2000 ∷ Ok 0x4000 ∷ Ok 0x6000 ∷ Ok 0x8000 ∷ []
  pub blocks : map (λ n. table_end (table_of n 16 1)) (12 ∷ 13 ∷ 16 ∷ []) ≡ Ok 0x2_2000 ∷ Ok 0x2_4000 ∷ Ok 0x4_0000 ∷ []
  pub slots : map (λ n. table_end (table_of 12 n 3)) (12 ∷ 13 ∷ 16 ∷ []) ≡ Ok 0x8000 ∷ Ok 0xE000 ∷ Ok 0x6_2000 ∷ []
  pub most : table_end (table_of 16 16 0x3FFF_FFFF) ≡ Ok 0x8000_0000_0000
  pub any : table_end (table_of 16 16 0xFFFF_FFFF) ≡ Ok 0x2_0000_0000_0000
  pub blocks_refused : map (λ n. end_of n 16 1) (0 ∷ 11 ∷ 12 ∷ 16 ∷ 17 ∷ 255 ∷ []) ≡ 23 ∷ 23 ∷ 0 ∷ 0 ∷ 23 ∷ 23 ∷ []
  pub slots_refused : map (λ n. end_of 13 n 1) (0 ∷ 12 ∷ 13 ∷ 16 ∷ 17 ∷ 255 ∷ []) ≡ 24 ∷ 24 ∷ 0 ∷ 0 ∷ 24 ∷ 24 ∷ []
  pub block_first : map (λ n. end_of n 10 1) (11 ∷ 12 ∷ 17 ∷ []) ≡ 23 ∷ 24 ∷ 23 ∷ []
  -- The file's length.
  pub files : small_in (0 ∷ 0x3FFF ∷ 0x4000 ∷ 0x4001 ∷ 0x1_0000_0000 ∷ 0xFFFF_FFFF_FFFF_FFFF ∷ []) ≡ 26 ∷ 26 ∷ 0 ∷ 0 ∷ 0 ∷ 0 ∷ []
  pub files_of_most : large_in (0 ∷ 0x1_FFFF_FFFF_FFFF ∷ 0x2_0000_0000_0000 ∷ 0xFFFF_FFFF_FFFF_FFFF ∷ []) ≡ 26 ∷ 26 ∷ 0 ∷ 0 ∷ []
  pub ends_first : map (λ v. answer (check_file_len v 0)) (table_of 11 16 1 ∷ table_of 13 12 1 ∷ []) ≡ 23 ∷ 24 ∷ []

-- ---- pages

-- An entry with a sequence number; and a page of entries, its index and its next number in bytes that are their own offsets.
abbrev pub numbered : ℕ → List ℕ
numbered n = put entry 0 (to_le_bytes w32 n)

abbrev pub page_of : (next : ℕ) → List (List ℕ) → List ℕ
page_of next es = up 0 4 ++ to_le_bytes w32 next ++ to_le_bytes w16 (length es) ++ replicate 14 0 ++ concat es

abbrev pub header_of : (next count : ℕ) → PageHeader
header_of next count = record { page_index = 0x302_0100; next_seq = next; count = count }

-- The answer for bytes that are read as this page of at most 41 entries, and for such a page.
abbrev pub read_as : List ℕ → ℕ
read_as s = answer (decode_page s 0x302_0100 41)

abbrev pub page_answer : (next : ℕ) → List (List ℕ) → ℕ
page_answer next es = read_as (page_of next es)

-- A page of one entry, and of two.
abbrev pub one_page : List ℕ
one_page = page_of 9 (numbered 1 ∷ [])

abbrev pub two_page : List ℕ
two_page = page_of 9 (numbered 1 ∷ numbered 2 ∷ [])

-- The answers for pages of entries with these numbers.
abbrev pub issued : (next : ℕ) → List (List ℕ) → List ℕ
issued next pages = map (λ ns. page_answer next (map numbered ns)) pages

-- The answer for a page of entries with these numbers, read as one of at most so many.
abbrev pub counted_page : (next most : ℕ) → List ℕ → ℕ
counted_page next most ns = answer (decode_page (page_of next (map numbered ns)) 0x302_0100 most)

pub record PageRows : Type 0 where
  -- The header, each of its bytes its own offset, over no entry and over two.
  pub read : decode_page (up 0 8 ++ replicate 16 0) 0x302_0100 41 ≡ Ok (record { page_index = 0x302_0100; next_seq = 0x706_0504; count = 0 })
  pub read_two : decode_page (page_of 0x706_0504 (numbered 0 ∷ numbered 1 ∷ [])) 0x302_0100 2
      ≡ Ok (record { page_index = 0x302_0100; next_seq = 0x706_0504; count = 2 })
  pub read_zeros : decode_page (replicate 24 0) 0 0 ≡ Ok (record { page_index = 0; next_seq = 0; count = 0 })
  -- Both bytes of the count, 0x109, against the most entries, the next number and the length.
  pub count_by_most : map (λ most. answer (decode_page (up 0 8 ++ 9 ∷ 1 ∷ replicate 14 0) 0x302_0100 most)) (9 ∷ 0x108 ∷ 0x109 ∷ 0x10A ∷ [])
      ≡ 30 ∷ 30 ∷ 11 ∷ 11 ∷ []
  pub count_by_next : map (λ next. answer (decode_page (up 0 4 ++ to_le_bytes w32 next ++ 9 ∷ 1 ∷ replicate 14 0) 0x302_0100 0xFFFF)) (9 ∷ 0x108
      ∷ 0x109 ∷ 0x1_0000 ∷ [])
      ≡ 30 ∷ 30 ∷ 11 ∷ 11 ∷ []
  -- Each byte of the index, and each zero.
  pub index : map (λ i. read_as (put (page_of 9 []) i (9 ∷ []))) (up 0 4) ≡ 29 ∷ 29 ∷ 29 ∷ 29 ∷ []
  pub index_asked : map (λ n. answer (decode_page (page_of 9 []) n 41)) (0x302_00FF ∷ 0x302_0100 ∷ 0x302_0101 ∷ 0 ∷ []) ≡ 29 ∷ 0 ∷ 29 ∷ 29 ∷ []
  pub zeros : map (λ i. read_as (put (page_of 9 []) i (1 ∷ []))) (up 10 14) ≡ replicate 14 22
  -- The count: none, at the most and one above; at the next number and one above.
  pub counts : counted_page 9 0 [] ∷ counted_page 9 0 (0 ∷ []) ∷ counted_page 9 1 (0 ∷ []) ∷ counted_page 9 1 (0 ∷ 1 ∷ [])
      ∷ counted_page 9 2 (0 ∷ 1 ∷ []) ∷ counted_page 9 3 (0 ∷ 1 ∷ []) ∷ []
      ≡ 0 ∷ 30 ∷ 0 ∷ 30 ∷ 0 ∷ 0 ∷ []
  pub counts_of_next : counted_page 0 41 [] ∷ counted_page 0 41 (0 ∷ []) ∷ counted_page 1 41 (0 ∷ []) ∷ counted_page 1 41 (0 ∷ 1 ∷ [])
      ∷ counted_page 2 41 (0 ∷ 1 ∷ []) ∷ []
      ≡ 0 ∷ 30 ∷ 0 ∷ 30 ∷ 0 ∷ []
  -- The length that the count gives, and the bytes on both sides.
  pub lengths_0 : map read_as ([] ∷ take 23 (page_of 9 []) ∷ page_of 9 [] ∷ (page_of 9 [] ++ 0 ∷ []) ∷ []) ≡ 11 ∷ 11 ∷ 0 ∷ 11 ∷ []
  pub lengths_1 : map read_as (take 24 one_page ∷ take 119 one_page ∷ one_page ∷ (one_page ++ 0 ∷ []) ∷ []) ≡ 11 ∷ 11 ∷ 0 ∷ 11 ∷ []
  pub lengths_2 : map read_as (take 120 two_page ∷ take 215 two_page ∷ two_page ∷ (two_page ++ 0 ∷ []) ∷ []) ≡ 11 ∷ 11 ∷ 0 ∷ 11 ∷ []
  -- Several faults: those of the header before the length.
  pub header_first : map (λ s. answer (decode_page s 0x302_0100 0)) (changed (page_of 1 (numbered 1 ∷ []) ++ 0 ∷ []) ((10, 1 ∷ []) ∷ (0, 1 ∷ []) ∷ [])
      ∷ changed (page_of 1 (numbered 1 ∷ []) ++ 0 ∷ []) ((0, 1 ∷ []) ∷ []) ∷ (page_of 1 (numbered 1 ∷ []) ++ 0 ∷ []) ∷ [])
      ≡ 22 ∷ 29 ∷ 30 ∷ []
  pub short_first : answer (decode_page (take 23 (put (page_of 0 []) 10 (1 ∷ []))) 1 0) ≡ 11

pub record PageEntryRows : Type 0 where
  -- Sequence numbers: below the next one, in any order, once, by all four bytes, in each place.
  pub below : issued 9 ((0 ∷ []) ∷ (8 ∷ []) ∷ (9 ∷ []) ∷ (10 ∷ []) ∷ (0x1_0000 ∷ []) ∷ (0x100_0001 ∷ []) ∷ []) ≡ 0 ∷ 0 ∷ 31 ∷ 31 ∷ 31 ∷ 31 ∷ []
  pub below_high : issued 0xFFFF_FFFF ((0x7FFF_FFFF ∷ []) ∷ (0xFFFF_FFFE ∷ []) ∷ (0xFFFF_FFFF ∷ []) ∷ []) ≡ 0 ∷ 0 ∷ 31 ∷ []
  pub below_each : issued 9 ((8 ∷ 7 ∷ 6 ∷ []) ∷ (9 ∷ 7 ∷ 6 ∷ []) ∷ (8 ∷ 9 ∷ 6 ∷ []) ∷ (8 ∷ 7 ∷ 9 ∷ []) ∷ []) ≡ 0 ∷ 31 ∷ 31 ∷ 31 ∷ []
  pub twice : issued 9 ((1 ∷ 1 ∷ []) ∷ (1 ∷ 1 ∷ 2 ∷ []) ∷ (1 ∷ 2 ∷ 1 ∷ []) ∷ (2 ∷ 1 ∷ 1 ∷ []) ∷ (0 ∷ 0 ∷ []) ∷ []) ≡ 12 ∷ 12 ∷ 12 ∷ 12 ∷ 12 ∷ []
  pub twice_far : issued 20 ((up 1 10 ++ 1 ∷ []) ∷ (up 1 10 ++ 10 ∷ []) ∷ (up 1 10 ++ 11 ∷ []) ∷ []) ≡ 12 ∷ 12 ∷ 0 ∷ []
  pub once : issued 0xFFFF_FFFF ((1 ∷ 0x101 ∷ []) ∷ (1 ∷ 0x1_0001 ∷ []) ∷ (1 ∷ 0x100_0001 ∷ []) ∷ (0x101 ∷ 0x201 ∷ []) ∷ []) ≡ 0 ∷ 0 ∷ 0 ∷ 0 ∷ []
  -- The zeros at 38 of each entry. Nothing else of an entry counts.
  pub zeros_at_38 : map (λ i. page_answer 9 (put (numbered 1) i (1 ∷ []) ∷ [])) (37 ∷ 38 ∷ 39 ∷ 40 ∷ []) ≡ 0 ∷ 22 ∷ 22 ∷ 0 ∷ []
  pub zeros_of_the_second : map (λ i. page_answer 9 (numbered 1 ∷ put (numbered 2) i (0x80 ∷ []) ∷ [])) (37 ∷ 38 ∷ 39 ∷ 40 ∷ [])
      ≡ 0 ∷ 22 ∷ 22 ∷ 0 ∷ []
  pub any_entry : page_answer 9 (changed (replicate 96 0xFF) ((0, 1 ∷ 0 ∷ 0 ∷ 0 ∷ []) ∷ (38, 0 ∷ 0 ∷ []) ∷ []) ∷ []) ≡ 0
  -- Several faults: the length before the entries, and each entry's before the next one's.
  pub length_before_entries : read_as (page_of 1 (numbered 1 ∷ []) ++ 0 ∷ []) ∷ page_answer 1 (numbered 1 ∷ []) ∷ [] ≡ 11 ∷ 31 ∷ []
  pub own_first : page_answer 9 (put (numbered 9) 38 (1 ∷ []) ∷ []) ∷ page_answer 9 (put (numbered 1) 38 (1 ∷ []) ∷ numbered 1 ∷ [])
      ∷ page_answer 9 (numbered 9 ∷ numbered 9 ∷ []) ∷ []
      ≡ 31 ∷ 22 ∷ 31 ∷ []
  pub by_entry : page_answer 9 (put (numbered 1) 38 (1 ∷ []) ∷ numbered 9 ∷ []) ∷ page_answer 9 (numbered 9 ∷ put (numbered 1) 38 (1 ∷ []) ∷ [])
      ∷ page_answer 9 (numbered 1 ∷ numbered 1 ∷ numbered 9 ∷ []) ∷ page_answer 9 (numbered 1 ∷ numbered 9 ∷ numbered 1 ∷ [])
      ∷ page_answer 9 (numbered 1 ∷ numbered 9 ∷ numbered 9 ∷ []) ∷ []
      ≡ 22 ∷ 31 ∷ 12 ∷ 12 ∷ 31 ∷ []
  -- The entries of a page that was read.
  pub entries : map parts ([] ∷ replicate 95 1 ∷ (replicate 96 1 ++ replicate 95 2) ∷ (replicate 96 1 ++ replicate 96 2) ∷ [])
      ≡ [] ∷ [] ∷ (replicate 96 1 ∷ []) ∷ (replicate 96 1 ∷ replicate 96 2 ∷ []) ∷ []

pub record PageWriteRows : Type 0 where
  pub written : encode_page (header_of 0x706_0504 0) [] (replicate 24 1) ≡ (up 0 8 ++ replicate 16 0, Ok 24)
  pub written_on : encode_page (header_of 0x706_0504 0) [] (replicate 26 1) ≡ (up 0 8 ++ replicate 16 0 ++ 1 ∷ 1 ∷ [], Ok 24)
  -- Entries as they are but for the zeros at 38, and none is checked.
  pub written_one : encode_page (header_of 0 1) (up 0 96 ∷ []) (replicate 122 1)
      ≡ (up 0 4 ++ 0 ∷ 0 ∷ 0 ∷ 0 ∷ 1 ∷ replicate 15 0 ++ up 0 38 ++ 0 ∷ 0 ∷ up 40 56 ++ 1 ∷ 1 ∷ [], Ok 120)
  pub written_two : encode_page (header_of 0 2) (replicate 96 7 ∷ replicate 96 7 ∷ []) (replicate 216 1)
      ≡ (up 0 4 ++ 0 ∷ 0 ∷ 0 ∷ 0 ∷ 2 ∷ replicate 15 0 ++ replicate 38 7 ++ 0 ∷ 0 ∷ replicate 94 7 ++ 0 ∷ 0 ∷ replicate 56 7, Ok 216)
  -- Refused: a buffer that is too short, a count that is not the number of entries; the count before the buffer. The buffer is kept.
  pub short : encode_page (header_of 9 0) [] (replicate 23 1) ≡ (replicate 23 1, Err MetaError.Length)
  pub short_one : encode_page (header_of 9 1) (up 0 96 ∷ []) (replicate 119 1) ≡ (replicate 119 1, Err MetaError.Length)
  pub short_two : encode_page (header_of 9 2) (up 0 96 ∷ up 0 96 ∷ []) (replicate 215 1) ≡ (replicate 215 1, Err MetaError.Length)
  pub count_below : encode_page (header_of 9 0) (up 0 96 ∷ []) (replicate 120 1) ≡ (replicate 120 1, Err (field Field.Count))
  pub count_above : encode_page (header_of 9 2) (up 0 96 ∷ []) (replicate 216 1) ≡ (replicate 216 1, Err (field Field.Count))
  pub count_by_16_bits : encode_page (header_of 9 0x101) (up 0 96 ∷ []) (replicate 120 1) ≡ (replicate 120 1, Err (field Field.Count))
  pub count_first : encode_page (header_of 9 1) [] (replicate 23 1) ≡ (replicate 23 1, Err (field Field.Count))
  -- 65,535 entries are not too many: of another count they are 30. One more are, before the count is looked at.
  pub most : (es : List (List ℕ)) → length es ≡ 65535 → (encode_page (header_of 9 65534) es []).1 ≡ Err (field Field.Count)
  pub too_many : (es : List (List ℕ)) → length es ≡ 65536 → (encode_page (header_of 9 65535) es []).1 ≡ Err MetaError.Length
  -- Entries as bytes: a rest of 1 to 95 of them is refused, before the count and the buffer. The buffer is kept.
  pub bytes : encode_entries (header_of 0 2) (up 0 96 ++ replicate 96 7) (replicate 217 1)
      ≡ (up 0 4 ++ 0 ∷ 0 ∷ 0 ∷ 0 ∷ 2 ∷ replicate 15 0 ++ up 0 38 ++ 0 ∷ 0 ∷ up 40 56 ++ replicate 38 7 ++ 0 ∷ 0 ∷ replicate 56 7 ++ 1 ∷ [], Ok 216)
  pub no_bytes : encode_entries (header_of 9 0) [] (replicate 24 1) ≡ encode_page (header_of 9 0) [] (replicate 24 1)
  pub rests : map (λ n. answer (encode_entries (header_of 9 1) (replicate n 7) (replicate 120 1)).1) (0 ∷ 1 ∷ 95 ∷ 96 ∷ 97 ∷ 191 ∷ 192 ∷ 193 ∷ [])
      ≡ 30 ∷ 11 ∷ 11 ∷ 0 ∷ 11 ∷ 11 ∷ 30 ∷ 11 ∷ []
  pub rest_first : encode_entries (header_of 9 2) (replicate 97 7) (replicate 23 1) ≡ (replicate 23 1, Err MetaError.Length)

-- ---- entries

abbrev pub counted_entry : RawEntry
counted_entry =
    record {
      seq = 0x302_0100;
      kind = 4;
      state = 5;
      flags = 6;
      compat_flags = 7;
      name = up 8 24;
      tag = 0x2322_2120;
      extent_count = 0x2524;
      reserved = 0x2726;
      header_a = 0x2F2E_2D2C_2B2A_2928;
      header_b = 0x3736_3534_3332_3130;
      data_size = 0x3F3E_3D3C_3B3A_3938;
      capacity = 0x4746_4544_4342_4140;
      span_start = 0x4F4E_4D4C_4B4A_4948;
      span_end = 0x5756_5554_5352_5150;
      footprint_seq = 0x5F5E_5D5C_5B5A_5958;
    }

-- An entry as it is accepted.
abbrev pub accepted_entry : Entry2
accepted_entry =
    record {
      seq = 1;
      kind = RegionKind.Page;
      flags = 3;
      compat_flags = 0x77;
      name = record { bytes = 0x61 ∷ 0x62 ∷ 0x63 ∷ replicate 21 0; len = 3 };
      tag = 0x100_0004;
      extent_count = 0x206;
      header_a = 0x6000;
      header_b = 0x8000;
      data_size = 0x1000;
      capacity = 0x3000;
      span_start = 0x5000;
      span_end = 0x1_0000;
      footprint_seq = 7;
    }

-- The same entry as a slot region's and as an append region's.
abbrev pub slot_entry : RawEntry
slot_entry = record entry_record { kind = 3; extent_count = 0; data_size = 0; capacity = 0 }

abbrev pub append_entry : RawEntry
append_entry = record entry_record { kind = 1 }

pub record EntryRows : Type 0 where
  -- Read and written, each byte its own offset.
  pub read : read_entry (up 0 96) ≡ Ok counted_entry
  pub read_on : read_entry (up 0 98) ≡ Ok counted_entry
  pub lengths : map (λ n. answer (read_entry (up 0 n))) (0 ∷ 1 ∷ 95 ∷ 96 ∷ 97 ∷ []) ≡ 11 ∷ 11 ∷ 11 ∷ 0 ∷ 0 ∷ []
  pub written : write_entry counted_entry (replicate 96 1) ≡ (up 0 38 ++ 0 ∷ 0 ∷ up 40 56, Ok 96)
  pub written_on : write_entry counted_entry (replicate 98 1) ≡ (up 0 38 ++ 0 ∷ 0 ∷ up 40 56 ++ 1 ∷ 1 ∷ [], Ok 96)
  pub kept : write_entry counted_entry (replicate 95 1) ≡ (replicate 95 1, Err MetaError.Length)
  pub kept_empty : write_entry counted_entry [] ≡ ([], Err MetaError.Length)
  -- Kinds and states, and their numbers.
  pub kinds : map kind_at (0 ∷ 1 ∷ 2 ∷ 3 ∷ 4 ∷ 0xFF ∷ [])
      ≡ Err (field Field.Kind) ∷ Ok RegionKind.Append ∷ Ok RegionKind.Page ∷ Ok RegionKind.Slot ∷ Err (field Field.Kind) ∷ Err (field Field.Kind) ∷ []
  pub kind_numbers : map kind_number (RegionKind.Append ∷ RegionKind.Page ∷ RegionKind.Slot ∷ []) ≡ 1 ∷ 2 ∷ 3 ∷ []
  pub states : map state_at (0 ∷ 1 ∷ 2 ∷ 3 ∷ 0xFF ∷ [])
      ≡ Err (field Field.State) ∷ Ok RegionState.Ready ∷ Ok RegionState.Released ∷ Err (field Field.State) ∷ Err (field Field.State) ∷ []
  pub state_numbers : map state_number (RegionState.Ready ∷ RegionState.Released ∷ []) ≡ 1 ∷ 2 ∷ []
  -- Accepted, and stored as it was.
  pub accepted : check_entry entry_record limits ≡ Ok accepted_entry
  pub accepted_slot : check_entry slot_entry limits
      ≡ Ok (record accepted_entry { kind = RegionKind.Slot; extent_count = 0; data_size = 0; capacity = 0 })
  pub accepted_append : check_entry append_entry limits ≡ Ok (record accepted_entry { kind = RegionKind.Append })
  pub stored_again : to_raw accepted_entry ≡ entry_record
  pub stored_kinds : map (λ kind. (to_raw (record accepted_entry { kind = kind })).kind) (RegionKind.Append ∷ RegionKind.Page ∷ RegionKind.Slot ∷ [])
      ≡ 1 ∷ 2 ∷ 3 ∷ []
  -- Its name and kind: both or none.
  pub names_and_kinds : map (λ kind. name_and_kind (record entry_record { kind = kind })) (0 ∷ 1 ∷ 2 ∷ 3 ∷ 4 ∷ [])
      ≡ None ∷ Some (accepted_entry.name, RegionKind.Append) ∷ Some (accepted_entry.name, RegionKind.Page)
      ∷ Some (accepted_entry.name, RegionKind.Slot) ∷ None ∷ []
  pub no_names : map (λ b. name_and_kind (record entry_record { name = b ∷ replicate 23 0 })) (0 ∷ 0x1F ∷ 0x7F ∷ 0x80 ∷ [])
      ≡ None ∷ None ∷ None ∷ None ∷ []

-- ---- the checks of an entry

-- The answers for the entry with each of these numbers, and for these limits.
abbrev pub over : (ℕ → RawEntry) → List ℕ → List ℕ
over change = map (λ n. answer (check_entry (change n) limits))

abbrev pub under : RawEntry → (ℕ → EntryLimits) → List ℕ → List ℕ
under e limit = map (λ n. answer (check_entry e (limit n)))

-- An entry of whole blocks of any size, and limits of this size.
abbrev pub whole_entry : RawEntry
whole_entry =
    record entry_record {
      header_a = 0x1_0000;
      header_b = 0x3_0000;
      data_size = 0;
      capacity = 0x2_0000;
      span_start = 0x1_0000;
      span_end = 0x4_0000;
    }

-- An entry by its headers and its span's start.
abbrev pub far_entry : (a b start : ℕ) → RawEntry
far_entry a b start = record entry_record { header_a = a; header_b = b; data_size = 0; capacity = 0x1000; span_start = start; span_end = 0x2_0000 }

abbrev pub whole_limits : (log2 : ℕ) → EntryLimits
whole_limits log2 = record { log2_block = log2; table_end = 0; file_len = 0x4_0000; page_meta_seq = 7 }

-- The answers for whole_entry changed, for blocks of log2 12 to 16.
abbrev pub by_block : RawEntry → List ℕ
by_block e = under e whole_limits (up 12 5)

-- An entry at the highest places.
abbrev pub high_entry : RawEntry
high_entry =
    record entry_record {
      header_a = 0xFFFF_FFFF_FFFF_D000;
      header_b = 0xFFFF_FFFF_FFFF_E000;
      span_start = 0xFFFF_FFFF_0000_0000;
      span_end = 0xFFFF_FFFF_FFFF_F000;
    }

abbrev pub high_limits : EntryLimits
high_limits = record { log2_block = 12; table_end = 0xFFFF_FFFF_0000_0000; file_len = 0xFFFF_FFFF_FFFF_FFFF; page_meta_seq = 0xFFFF_FFFF_FFFF_FFFF }

abbrev pub high : (ℕ → RawEntry) → List ℕ → List ℕ
high change = map (λ n. answer (check_entry (change n) high_limits))

pub record CheckRows : Type 0 where
  -- Flags, the block's log2, kind, state, name.
  pub flags : over (λ n. record entry_record { flags = n }) (0 ∷ 1 ∷ 2 ∷ 3 ∷ 4 ∷ 0xFF ∷ []) ≡ 0 ∷ 0 ∷ 0 ∷ 0 ∷ 21 ∷ 21 ∷ []
  pub compat_flags : over (λ n. record entry_record { compat_flags = n }) (0 ∷ 4 ∷ 0xFF ∷ []) ≡ 0 ∷ 0 ∷ 0 ∷ []
  pub blocks : under whole_entry whole_limits (0 ∷ 11 ∷ 12 ∷ 13 ∷ 14 ∷ 15 ∷ 16 ∷ 17 ∷ 255 ∷ []) ≡ 32 ∷ 32 ∷ 0 ∷ 0 ∷ 0 ∷ 0 ∷ 0 ∷ 32 ∷ 32 ∷ []
  pub kinds : over (λ n. record entry_record { kind = n }) (0 ∷ 1 ∷ 2 ∷ 4 ∷ 0xFF ∷ []) ≡ 33 ∷ 0 ∷ 0 ∷ 33 ∷ 33 ∷ []
  pub states : over (λ n. record entry_record { state = n }) (0 ∷ 1 ∷ 2 ∷ 3 ∷ 0xFF ∷ []) ≡ 34 ∷ 0 ∷ 34 ∷ 34 ∷ 34 ∷ []
  pub names : over (λ n. record entry_record { name = n ∷ replicate 23 0 }) (0 ∷ 0x1F ∷ 0x20 ∷ 0x7E ∷ 0x7F ∷ 0x80 ∷ [])
      ≡ 35 ∷ 35 ∷ 0 ∷ 0 ∷ 35 ∷ 35 ∷ []
  pub names_behind : over (λ n. record entry_record { name = 0x61 ∷ 0 ∷ replicate 21 0 ++ n ∷ [] }) (0 ∷ 1 ∷ []) ≡ 0 ∷ 35 ∷ []
  -- Data and capacity, capacity and span.
  pub data_sizes : over (λ n. record entry_record { data_size = n }) (0 ∷ 0x2000 ∷ 0x3000 ∷ 0x3001 ∷ 0x4000 ∷ 0x1_0000_1000 ∷ [])
      ≡ 0 ∷ 0 ∷ 0 ∷ 36 ∷ 36 ∷ 36 ∷ []
  pub capacities : over (λ n. record entry_record { capacity = n }) (0x1000 ∷ 0xA000 ∷ 0xB000 ∷ 0xB001 ∷ 0xC000 ∷ 0x1_0000_1000 ∷ [])
      ≡ 0 ∷ 0 ∷ 0 ∷ 38 ∷ 38 ∷ 38 ∷ []
  -- The span: empty, reversed, up to the file's end and past it, whole blocks at both ends.
  pub ends : over (λ n. record entry_record { span_end = n }) (0 ∷ 0x4000 ∷ 0x5000 ∷ 0x5001 ∷ 0x9000 ∷ 0xF000 ∷ 0x2_0000 ∷ 0x2_0001 ∷ 0x2_1000
      ∷ 0x1_0001_0000 ∷ [])
      ≡ 37 ∷ 37 ∷ 37 ∷ 38 ∷ 0 ∷ 0 ∷ 0 ∷ 37 ∷ 37 ∷ 37 ∷ []
  pub starts : over (λ n. record entry_record { span_start = n }) (0 ∷ 0x1000 ∷ 0x5000 ∷ 0x6000 ∷ 0x7000 ∷ 0xF000 ∷ 0x1_0000 ∷ 0x1_1000 ∷ [])
      ≡ 0 ∷ 0 ∷ 0 ∷ 0 ∷ 39 ∷ 38 ∷ 37 ∷ 37 ∷ []
  pub files : under entry_record (λ n. record limits { file_len = n }) (0 ∷ 0xFFFF ∷ 0x1_0000 ∷ 0x1_0001 ∷ 0xFFFF_FFFF_FFFF_FFFF ∷ [])
      ≡ 37 ∷ 37 ∷ 0 ∷ 0 ∷ 0 ∷ []
  pub starts_whole : over (λ n. record entry_record { span_start = n }) (0x4FFF ∷ 0x5001 ∷ 0x5800 ∷ 0x5FFF ∷ []) ≡ 13 ∷ 13 ∷ 13 ∷ 13 ∷ []
  pub ends_whole : over (λ n. record entry_record { span_end = n }) (0xFFFF ∷ 0x1_0001 ∷ 0x1_0800 ∷ 0x1_FFFF ∷ []) ≡ 13 ∷ 13 ∷ 13 ∷ 13 ∷ []
  pub starts_by_block : by_block (record whole_entry { span_start = 0xC000 }) ∷ by_block (record whole_entry { span_start = 0x8000 })
      ∷ by_block (record whole_entry { span_start = 0xF000 }) ∷ []
      ≡ (0 ∷ 0 ∷ 0 ∷ 13 ∷ 13 ∷ []) ∷ (0 ∷ 0 ∷ 0 ∷ 0 ∷ 13 ∷ []) ∷ (0 ∷ 13 ∷ 13 ∷ 13 ∷ 13 ∷ []) ∷ []
  pub ends_by_block : by_block (record whole_entry { header_b = 0x2_0000; span_end = 0x3_8000 })
      ∷ by_block (record whole_entry { header_b = 0x2_0000; span_end = 0x3_2000 }) ∷ []
      ≡ (0 ∷ 0 ∷ 0 ∷ 0 ∷ 13 ∷ []) ∷ (0 ∷ 0 ∷ 13 ∷ 13 ∷ 13 ∷ []) ∷ []
  -- Header A: whole blocks, from the table's end and the span's start on, its block up to the span's end. Header B in the same way.
  pub headers_a : over (λ n. record entry_record { header_a = n }) (0x4000 ∷ 0x4FFF ∷ 0x5000 ∷ 0x5001 ∷ 0x5800 ∷ 0xF000 ∷ 0xF001 ∷ 0x1_0000 ∷ 0x2_0000
      ∷ 0x1_0000_6000 ∷ [])
      ≡ 39 ∷ 13 ∷ 0 ∷ 13 ∷ 13 ∷ 0 ∷ 13 ∷ 39 ∷ 39 ∷ 39 ∷ []
  pub headers_b : over (λ n. record entry_record { header_b = n }) (0x4000 ∷ 0x4FFF ∷ 0x5000 ∷ 0x5001 ∷ 0x5800 ∷ 0xF000 ∷ 0xF001 ∷ 0x1_0000 ∷ 0x2_0000
      ∷ 0x1_0000_8000 ∷ [])
      ≡ 39 ∷ 13 ∷ 0 ∷ 13 ∷ 13 ∷ 0 ∷ 13 ∷ 39 ∷ 39 ∷ 39 ∷ []
  pub tables_a : under entry_record (λ n. record limits { table_end = n }) (0 ∷ 0x5FFF ∷ 0x6000 ∷ 0x6001 ∷ 0x7000 ∷ 0xFFFF_FFFF_FFFF_FFFF ∷ [])
      ≡ 0 ∷ 0 ∷ 0 ∷ 39 ∷ 39 ∷ 39 ∷ []
  pub tables_b : under (record entry_record { header_a = 0x9000 }) (λ n. record limits { table_end = n }) (0x7FFF ∷ 0x8000 ∷ 0x8001 ∷ [])
      ≡ 0 ∷ 0 ∷ 39 ∷ []
  pub spans_a : over (far_entry 0x6000 0x8000) (0x5000 ∷ 0x6000 ∷ 0x7000 ∷ []) ≡ 0 ∷ 0 ∷ 39 ∷ []
  pub spans_b : over (far_entry 0x8000 0x6000) (0x5000 ∷ 0x6000 ∷ 0x7000 ∷ []) ≡ 0 ∷ 0 ∷ 39 ∷ []
  pub ends_a : over (λ n. record entry_record { header_a = 0x9000; span_end = n }) (0x9000 ∷ 0xA000 ∷ 0xB000 ∷ []) ≡ 39 ∷ 0 ∷ 0 ∷ []
  pub ends_b : over (λ n. record entry_record { header_b = 0x9000; span_end = n }) (0x9000 ∷ 0xA000 ∷ 0xB000 ∷ []) ≡ 39 ∷ 0 ∷ 0 ∷ []
  pub headers_a_by_block : by_block (record whole_entry { header_a = 0x2_8000 }) ∷ by_block (record whole_entry { header_a = 0x2_2000 }) ∷ []
      ≡ (0 ∷ 0 ∷ 0 ∷ 0 ∷ 13 ∷ []) ∷ (0 ∷ 0 ∷ 13 ∷ 13 ∷ 13 ∷ []) ∷ []
  pub headers_b_by_block : by_block (record whole_entry { header_b = 0x3_8000 }) ∷ by_block (record whole_entry { header_b = 0x3_F000 })
      ∷ by_block (record whole_entry { header_b = 0x4_0000 }) ∷ []
      ≡ (0 ∷ 0 ∷ 0 ∷ 0 ∷ 13 ∷ []) ∷ (0 ∷ 13 ∷ 13 ∷ 13 ∷ 13 ∷ []) ∷ (39 ∷ 39 ∷ 39 ∷ 39 ∷ 39 ∷ []) ∷ []
  -- Both in one place.
  pub headers_equal : over (λ n. record entry_record { header_b = n }) (0x5000 ∷ 0x6000 ∷ 0x7000 ∷ []) ≡ 0 ∷ 39 ∷ 0 ∷ []
  pub headers_apart : under (record entry_record { header_b = 0x1_0000_6000; span_end = 0x2_0000_0000 }) (λ n. record limits { file_len = n })
      (0x2_0000_0000 ∷ [])
      ≡ 0 ∷ []
  -- The footprint's number.
  pub footprints : over (λ n. record entry_record { footprint_seq = n }) (0 ∷ 1 ∷ 8 ∷ 9 ∷ 10 ∷ 0x1_0000_0001 ∷ []) ≡ 40 ∷ 0 ∷ 0 ∷ 0 ∷ 40 ∷ 40 ∷ []
  pub footprint_limits : under entry_record (λ n. record limits { page_meta_seq = n }) (0 ∷ 6 ∷ 7 ∷ 8 ∷ 0x1_0000_0000 ∷ []) ≡ 40 ∷ 40 ∷ 0 ∷ 0 ∷ 0 ∷ []
  -- A slot region has no extent and no capacity, every other one has both.
  pub slot_extents : over (λ n. record slot_entry { extent_count = n }) (0 ∷ 1 ∷ 0x100 ∷ 0xFFFF ∷ []) ≡ 0 ∷ 41 ∷ 41 ∷ 41 ∷ []
  pub slot_capacities : over (λ n. record slot_entry { capacity = n }) (0 ∷ 1 ∷ 0x1000 ∷ []) ≡ 0 ∷ 41 ∷ 41 ∷ []
  pub slot_data : over (λ n. record slot_entry { data_size = n; capacity = 0x1000 }) (0 ∷ 0x1000 ∷ []) ≡ 41 ∷ 41 ∷ []
  pub page_extents : over (λ n. record entry_record { extent_count = n }) (0 ∷ 1 ∷ 0x100 ∷ 0xFFFF ∷ []) ≡ 42 ∷ 0 ∷ 0 ∷ 0 ∷ []
  pub append_extents : over (λ n. record append_entry { extent_count = n }) (0 ∷ 1 ∷ 0x100 ∷ 0xFFFF ∷ []) ≡ 42 ∷ 0 ∷ 0 ∷ 0 ∷ []
  pub page_capacities : over (λ n. record entry_record { data_size = 0; capacity = n }) (0 ∷ 1 ∷ 0x1000 ∷ []) ≡ 38 ∷ 13 ∷ 0 ∷ []
  pub append_capacities : over (λ n. record append_entry { data_size = 0; capacity = n }) (0 ∷ 1 ∷ 0x1000 ∷ []) ≡ 38 ∷ 13 ∷ 0 ∷ []
  -- Whole blocks; of an append region's data whole 512 bytes.
  pub page_capacity_whole : over (λ n. record entry_record { data_size = 0; capacity = n }) (0xFFF ∷ 0x1001 ∷ 0x1200 ∷ 0x1800 ∷ 0x2000 ∷ [])
      ≡ 13 ∷ 13 ∷ 13 ∷ 13 ∷ 0 ∷ []
  pub append_capacity_whole : over (λ n. record append_entry { data_size = 0; capacity = n }) (0xFFF ∷ 0x1001 ∷ 0x1200 ∷ 0x1800 ∷ 0x2000 ∷ [])
      ≡ 13 ∷ 13 ∷ 13 ∷ 13 ∷ 0 ∷ []
  pub page_data_whole : over (λ n. record entry_record { data_size = n }) (1 ∷ 0x200 ∷ 0x800 ∷ 0xFFF ∷ 0x1000 ∷ 0x1001 ∷ 0x1200 ∷ [])
      ≡ 13 ∷ 13 ∷ 13 ∷ 13 ∷ 0 ∷ 13 ∷ 13 ∷ []
  pub append_data_whole : over (λ n. record append_entry { data_size = n }) (1 ∷ 0x100 ∷ 0x1FF ∷ 0x200 ∷ 0x201 ∷ 0x400 ∷ 0x1000 ∷ 0x1001 ∷ 0x1200
      ∷ [])
      ≡ 13 ∷ 13 ∷ 13 ∷ 0 ∷ 13 ∷ 0 ∷ 0 ∷ 13 ∷ 0 ∷ []
  pub capacity_by_block : by_block (record whole_entry { capacity = 0x1_8000 }) ∷ by_block (record whole_entry { kind = 1; capacity = 0x1_2000 }) ∷ []
      ≡ (0 ∷ 0 ∷ 0 ∷ 0 ∷ 13 ∷ []) ∷ (0 ∷ 0 ∷ 13 ∷ 13 ∷ 13 ∷ []) ∷ []
  pub data_by_block : by_block (record whole_entry { data_size = 0x1_8000 }) ∷ by_block (record whole_entry { data_size = 0x1_2000 })
      ∷ by_block (record whole_entry { kind = 1; data_size = 0x1_2200 }) ∷ []
      ≡ (0 ∷ 0 ∷ 0 ∷ 0 ∷ 13 ∷ []) ∷ (0 ∷ 0 ∷ 13 ∷ 13 ∷ 13 ∷ []) ∷ (0 ∷ 0 ∷ 0 ∷ 0 ∷ 0 ∷ []) ∷ []
  -- Up to 2^64 - 1: nothing wraps.
  pub high_headers_a : high (λ n. record high_entry { header_a = n }) (0xFFFF_FFFE_FFFF_F000 ∷ 0xFFFF_FFFF_0000_0000 ∷ 0xFFFF_FFFF_FFFF_D000
      ∷ 0xFFFF_FFFF_FFFF_F000 ∷ 0xFFFF_FFFF_FFFF_FFFF ∷ [])
      ≡ 39 ∷ 0 ∷ 0 ∷ 39 ∷ 13 ∷ []
  pub high_headers_b : high (λ n. record high_entry { header_b = n }) (0xFFFF_FFFF_FFFF_C000 ∷ 0xFFFF_FFFF_FFFF_E000 ∷ 0xFFFF_FFFF_FFFF_F000 ∷ [])
      ≡ 0 ∷ 0 ∷ 39 ∷ []
  pub high_capacities : high (λ n. record high_entry { capacity = n; data_size = n }) (0xFFFF_F000 ∷ 0x1_0000_0000 ∷ 0xFFFF_FFFF_FFFF_F000 ∷ [])
      ≡ 0 ∷ 38 ∷ 38 ∷ []
  pub high_data : high (λ n. record high_entry { data_size = n }) (0x3000 ∷ 0x1_0000_0000 ∷ 0xFFFF_FFFF_FFFF_FFFF ∷ []) ≡ 0 ∷ 36 ∷ 36 ∷ []
  pub high_footprints : high (λ n. record high_entry { footprint_seq = n }) (0 ∷ 0x1_0000_0000 ∷ 0xFFFF_FFFF_FFFF_FFFF ∷ []) ≡ 40 ∷ 0 ∷ 0 ∷ []

-- ---- the order of an entry's checks: each of these has the faults of one above it, and one more that is met before them

abbrev pub with_size : RawEntry
with_size = record entry_record { data_size = 0x201 }

abbrev pub with_extents : RawEntry
with_extents = record with_size { extent_count = 0 }

abbrev pub with_footprint : RawEntry
with_footprint = record with_extents { footprint_seq = 0 }

abbrev pub with_one_place : RawEntry
with_one_place = record with_footprint { header_b = 0x6000 }

abbrev pub with_b_outside : RawEntry
with_b_outside = record with_footprint { header_b = 0x1_0000 }

abbrev pub with_b_not_whole : RawEntry
with_b_not_whole = record with_footprint { header_b = 0x1_0001 }

abbrev pub with_a_outside : RawEntry
with_a_outside = record with_b_not_whole { header_a = 0x4000 }

abbrev pub with_a_not_whole : RawEntry
with_a_not_whole = record with_b_outside { header_a = 0x4001 }

abbrev pub with_end : RawEntry
with_end = record with_a_outside { span_end = 0x1_0001 }

abbrev pub with_capacity : RawEntry
with_capacity = record with_end { capacity = 0xB002 }

abbrev pub with_span : RawEntry
with_span = record with_capacity { span_start = 0x1_0001 }

abbrev pub with_data : RawEntry
with_data = record with_span { data_size = 0xB003 }

abbrev pub with_name : RawEntry
with_name = record with_data { name = replicate 24 0 }

abbrev pub with_state : RawEntry
with_state = record with_name { state = 2 }

abbrev pub with_kind : RawEntry
with_kind = record with_state { kind = 4 }

abbrev pub with_flags : RawEntry
with_flags = record with_kind { flags = 4 }

abbrev pub met : List RawEntry → List ℕ
met = map (λ e. answer (check_entry e limits))

pub record OrderRows : Type 0 where
  pub content : met (with_size ∷ with_extents ∷ with_footprint ∷ []) ≡ 13 ∷ 42 ∷ 40 ∷ []
  pub headers : met (with_one_place ∷ with_b_outside ∷ with_b_not_whole ∷ with_a_outside ∷ with_a_not_whole ∷ []) ≡ 39 ∷ 39 ∷ 13 ∷ 39 ∷ 13 ∷ []
  pub span : met (with_end ∷ with_capacity ∷ with_span ∷ with_data ∷ []) ≡ 13 ∷ 38 ∷ 37 ∷ 36 ∷ []
  pub known : met (with_name ∷ with_state ∷ with_kind ∷ with_flags ∷ []) ≡ 35 ∷ 34 ∷ 33 ∷ 21 ∷ []
  pub block : map (λ e. answer (check_entry e (record limits { log2_block = 17 }))) (with_kind ∷ with_flags ∷ []) ≡ 32 ∷ 21 ∷ []
  pub area : met (record with_size { extent_count = 0; capacity = 0; data_size = 0 }
      ∷ record append_entry { extent_count = 0; capacity = 0; data_size = 0 } ∷ [])
      ≡ 42 ∷ 42 ∷ []
  pub slot : met (record slot_entry { extent_count = 1; capacity = 1 } ∷ record slot_entry { extent_count = 1; footprint_seq = 0 }
      ∷ record slot_entry { data_size = 1 } ∷ [])
      ≡ 41 ∷ 40 ∷ 36 ∷ []

-- ---- what an entry keeps reserved

abbrev pub kept_span : EntryLimits → (start end : ℕ) → Option (ℕ × ℕ)
kept_span l start end = reserved_span (record entry_record { span_start = start; span_end = end }) l

pub record SpanRows : Type 0 where
  -- Widened to whole blocks.
  pub starts : map (λ n. kept_span limits n 0x9000) (0x6000 ∷ 0x6001 ∷ 0x6FFF ∷ 0x7000 ∷ [])
      ≡ Some (0x6000, 0x9000) ∷ Some (0x6000, 0x9000) ∷ Some (0x6000, 0x9000) ∷ Some (0x7000, 0x9000) ∷ []
  pub ends : map (kept_span limits 0x6000) (0x8000 ∷ 0x8001 ∷ 0x8FFF ∷ 0x9000 ∷ [])
      ≡ Some (0x6000, 0x8000) ∷ Some (0x6000, 0x9000) ∷ Some (0x6000, 0x9000) ∷ Some (0x6000, 0x9000) ∷ []
  pub empty : map (λ n. kept_span limits n n) (0x6000 ∷ 0x6001 ∷ []) ≡ None ∷ Some (0x6000, 0x7000) ∷ []
  pub reversed : kept_span limits 0x6800 0x6400 ∷ kept_span limits 0x7000 0x6001 ∷ kept_span limits 0x8000 0x6000 ∷ []
      ≡ Some (0x6000, 0x7000) ∷ None ∷ None ∷ []
  -- Clamped to the table's end and to the file's.
  pub tables : map (λ n. kept_span (record limits { table_end = n }) 0x6000 0x8000) (0 ∷ 0x5FFF ∷ 0x6000 ∷ 0x6001 ∷ 0x7FFF ∷ 0x8000 ∷ 0x8001 ∷ [])
      ≡ Some (0x6000, 0x8000) ∷ Some (0x6000, 0x8000) ∷ Some (0x6000, 0x8000) ∷ Some (0x6001, 0x8000) ∷ Some (0x7FFF, 0x8000) ∷ None ∷ None ∷ []
  pub files : map (λ n. kept_span (record limits { file_len = n }) 0x6000 0x8000) (0 ∷ 0x5FFF ∷ 0x6000 ∷ 0x6001 ∷ 0x7FFF ∷ 0x8000 ∷ 0x8001 ∷ [])
      ≡ None ∷ None ∷ None ∷ Some (0x6000, 0x6001) ∷ Some (0x6000, 0x7FFF) ∷ Some (0x6000, 0x8000) ∷ Some (0x6000, 0x8000) ∷ []
  pub between : map (λ n. kept_span (record limits { table_end = n; file_len = 0x7000 }) 0 0x1_0000) (0x6FFF ∷ 0x7000 ∷ 0x7001 ∷ [])
      ≡ Some (0x6FFF, 0x7000) ∷ None ∷ None ∷ []
  -- By the block's log2; outside 12 to 16 the nearer end.
  pub blocks_small : map (λ log2. kept_span (record limits { log2_block = log2; table_end = 0 }) 0xF001 0x1_0001) (0 ∷ 11 ∷ 12 ∷ 13 ∷ [])
      ≡ Some (0xF000, 0x1_1000) ∷ Some (0xF000, 0x1_1000) ∷ Some (0xF000, 0x1_1000) ∷ Some (0xE000, 0x1_2000) ∷ []
  pub blocks_large : map (λ log2. kept_span (record limits { log2_block = log2; table_end = 0 }) 0xF001 0x1_0001) (14 ∷ 15 ∷ 16 ∷ 17 ∷ 255 ∷ [])
      ≡ Some (0xC000, 0x1_4000) ∷ Some (0x8000, 0x1_8000) ∷ Some (0, 0x2_0000) ∷ Some (0, 0x2_0000) ∷ Some (0, 0x2_0000) ∷ []
  -- Up to 2^64 - 1.
  pub high_ends : map (kept_span high_limits 0xFFFF_FFFF_FFFF_0000) (0xFFFF_FFFF_FFFF_EFFF ∷ 0xFFFF_FFFF_FFFF_F000 ∷ 0xFFFF_FFFF_FFFF_F001
      ∷ 0xFFFF_FFFF_FFFF_FFFF ∷ [])
      ≡ Some (0xFFFF_FFFF_FFFF_0000, 0xFFFF_FFFF_FFFF_F000) ∷ Some (0xFFFF_FFFF_FFFF_0000, 0xFFFF_FFFF_FFFF_F000)
      ∷ Some (0xFFFF_FFFF_FFFF_0000, 0xFFFF_FFFF_FFFF_FFFF) ∷ Some (0xFFFF_FFFF_FFFF_0000, 0xFFFF_FFFF_FFFF_FFFF) ∷ []
  pub high_starts : map (λ n. kept_span high_limits n 0xFFFF_FFFF_FFFF_FFFF) (0xFFFF_FFFF_FFFF_EFFF ∷ 0xFFFF_FFFF_FFFF_F000 ∷ 0xFFFF_FFFF_FFFF_FFFF
      ∷ [])
      ≡ Some (0xFFFF_FFFF_FFFF_E000, 0xFFFF_FFFF_FFFF_FFFF) ∷ Some (0xFFFF_FFFF_FFFF_F000, 0xFFFF_FFFF_FFFF_FFFF)
      ∷ Some (0xFFFF_FFFF_FFFF_F000, 0xFFFF_FFFF_FFFF_FFFF) ∷ []
  -- Whatever else the entry holds.
  pub of_any : map (λ e. reserved_span e limits) (record entry_record { kind = 0; state = 0; flags = 0xFF; name = replicate 24 0xFF }
      ∷ record entry_record { header_a = 0; capacity = 0 } ∷ [])
      ≡ Some (0x5000, 0x1_0000) ∷ Some (0x5000, 0x1_0000) ∷ []
