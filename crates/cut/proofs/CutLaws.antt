-- The slot that a cut write left, by its header: the new one, the old one, or one whose magic stands and which fails its checksum. That
-- is the only place where it counts how the write was cut.
use Rattle.std.proofs.Common.{◌≡◌, refl, sym, ap, ap₂, ◌∙◌, ◌⊎◌, inl, inr, Bool, true, false, cond, ◌==◌, nat_eq, nat_le, List, [], ◌∷◌, ◌++◌, ℕ, zero, suc, ◌+◌, ◌≤◌, ◌<◌, arith, get_or, eqb-true, leb-true, leb-false, length, take, drop, length-append, length-take, length-drop, take-take, take-append-drop, take_at, drop_at, take-add, length-take-le}
use Rattle.std.proofs.Math.Seq.{take-append-le}
use lib.Pointwise.{pointwise, bytes_decides}
use Rattle.codec.specs.Bytes.{AllBytes, le16, le32}
use Rattle.slot.specs.Header.{magic}
use Rattle.slot.specs.Read.{header_sum}
use Rattle.slot.proofs.Tests.{both}
use Rattle.cut.specs.Cut.{Tear, Ascending, Sectors, cut, torn, CutPoint, Possible, Anywhere, stands_whole, header_passes, payload_in, Accident, SectorAccident, AccidentBy}
use Rattle.cut.specs.Laws.{FailedSum, FailedPayload, OlderAtMost}
use Rattle.cut.proofs.StatusLaws.{false_true}
use Rattle.cut.proofs.SectorLaws.{sector_byte, length_sectors, within_sector}

pub not_same : (s t : List ℕ) → (s ≡ t → ⊥) → pointwise nat_eq s t ≡ false
not_same s t differ = go (pointwise nat_eq s t) refl
  where
    go : (test : Bool) → pointwise nat_eq s t ≡ test → pointwise nat_eq s t ≡ false
    go true is = absurd (differ ((bytes_decides s t).0 is))
    go false is = is

pub differ : (s t : List ℕ) → pointwise nat_eq s t ≡ false → s ≡ t → ⊥
differ s t not_equal is = false_true {A = ⊥} not_equal ((bytes_decides s t).1 is)

-- ---- header and payload

payload_front : (s payload : List ℕ) → 128 ≤ length s → payload_in s payload ≡ drop 128 (take (128 + length payload) s)
payload_front s payload long =
    sym
    (ap (drop 128) (take-add 128 (length payload) s) ∙ drop_at (take 128 s) (payload_in s payload) 128 (length-take-le 128 s long))

-- Two slots that begin alike have the same header and the same payload,
pub front_parts : (s t payload : List ℕ) → 128 ≤ length s → 128 ≤ length t → take (128 + length payload) s ≡ take (128 + length payload) t
    → (take 128 s ≡ take 128 t) × (payload_in s payload ≡ payload_in t payload)
front_parts s t payload long_s long_t same = (
  sym (take-take 128 (128 + length payload) s (omega arith)) ∙ ap (take 128) same ∙ take-take 128 (128 + length payload) t (omega arith),
  payload_front s payload long_s ∙ ap (drop 128) same ∙ sym (payload_front t payload long_t),
)

-- and where both are the new ones the new record stands whole.
pub whole_by : (s new payload : List ℕ) → take 128 s ≡ take 128 new → payload_in s payload ≡ payload_in new payload
    → stands_whole s new payload ≡ true
unfolding stands_whole
whole_by s new payload same_header same_payload =
    (bytes_decides (take (128 + length payload) s) (take (128 + length payload) new)).1
    (take-add 128 (length payload) s ∙ ap₂ ◌++◌ same_header same_payload ∙ sym (take-add 128 (length payload) new))

-- ---- the bytes of a cut in ascending order

cut_byte : (k j : ℕ) (new old : List ℕ) → length old ≡ length new
    → (get_or (take k new ++ drop k old) j 0 ≡ get_or old j 0) ⊎ (get_or (take k new ++ drop k old) j 0 ≡ get_or new j 0)
cut_byte zero j new old sizes = inl refl
cut_byte (suc k) j [] [] sizes = inl refl
cut_byte (suc k) j [] (y ∷ old) sizes = absurd (omega arith)
cut_byte (suc k) j (x ∷ new) [] sizes = absurd (omega arith)
cut_byte (suc k) zero (x ∷ new) (y ∷ old) sizes = inr refl
cut_byte (suc k) (suc j) (x ∷ new) (y ∷ old) sizes = cut_byte k j new old (omega arith)

point_within : (k size : ℕ) → CutPoint k size → k ≤ size
point_within k size (inl none) = omega arith
point_within k size (inr some) = some.1

-- A cut that is possible is one anywhere.
pub anywhere : (size : ℕ) (tear : Tear) → Possible tear size → Anywhere tear size
anywhere size (Ascending k) point = point_within k size point
anywhere size (Sectors reached) any = any

module _ (k : ℕ) (new old : List ℕ) (sizes : length old ≡ length new) (point : CutPoint k (length new)) where
  within : k ≤ length new
  within = point_within k (length new) point

  -- No byte arrived, or the magic did.
  old_or_magic : take 8 new ≡ magic → (cut k new old ≡ old) ⊎ (take 8 (cut k new old) ≡ magic)
  unfolding cut
  old_or_magic stands = go point
    where
      go : CutPoint k (length new) → (take k new ++ drop k old ≡ old) ⊎ (take 8 (take k new ++ drop k old) ≡ magic)
      go (inl none) = inl (ap (λ (n : ℕ). take n new ++ drop n old) none)
      go (inr some) =
          inr
          (take-append-le 8 (take k new) (drop k old) (omega (arith, some.0, length-take-le k new some.1))
          ∙ take-take 8 k new some.0
          ∙ stands)

  -- The old header is left of no byte of another one: then the slot is the old one.
  pub kept_by_header : (take 128 new ≡ take 128 old → ⊥) → take 128 (cut k new old) ≡ take 128 old → cut k new old ≡ old
  unfolding cut
  kept_by_header not_same is = go (nat_le 128 k) refl
    where
      go : (past : Bool) → nat_le 128 k ≡ past → take k new ++ drop k old ≡ old
      go true long =
          let past : 128 ≤ k = leb-true 128 k long in
          absurd
          (not_same
          (sym
          (take-append-le 128 (take k new) (drop k old) (omega (arith, length-take-le k new within))
          ∙ take-take 128 k new past)
          ∙ is))
      go false short =
          let below : k ≤ 128 = let not_past = leb-false 128 k short in omega arith in
          let front : take k new ≡ take k old =
          sym (take-take k 128 (take k new ++ drop k old) below ∙ take_at (take k new) (drop k old) k (length-take-le k new within))
          ∙ ap (take k) is
          ∙ take-take k 128 old below in
          ap (λ (s : List ℕ). s ++ drop k old) front ∙ take-append-drop k old

-- ---- the slot by its header

pub data Header (s old new : List ℕ) : Type 0 where
  is_new : take 128 s ≡ take 128 new → Header s old new
  is_old : (take 128 s ≡ take 128 new → ⊥) → take 128 s ≡ take 128 old → Header s old new
  fails : (take 128 s ≡ take 128 new → ⊥) → take 8 s ≡ magic → header_passes s ≡ false → Header s old new
  neither : (take 128 s ≡ take 128 new → ⊥) → (take 128 s ≡ take 128 old → ⊥) → header_passes s ≡ true → Header s old new

header_of : (s old new : List ℕ) → (s ≡ old) ⊎ (take 8 s ≡ magic) → Header s old new
header_of s old new = go (pointwise nat_eq (take 128 s) (take 128 new)) refl
  where
    by_old : (test : Bool) → pointwise nat_eq (take 128 s) (take 128 old) ≡ test → (take 128 s ≡ take 128 new → ⊥) → header_passes s ≡ true → Header s old new
    by_old true is not_new sum = is_old not_new ((bytes_decides (take 128 s) (take 128 old)).0 is)
    by_old false is not_new sum = neither not_new (differ (take 128 s) (take 128 old) is) sum

    by_sum : (test : Bool) → header_passes s ≡ test → (take 128 s ≡ take 128 new → ⊥) → take 8 s ≡ magic → Header s old new
    by_sum true is not_new stands = by_old (pointwise nat_eq (take 128 s) (take 128 old)) refl not_new is
    by_sum false is not_new stands = fails not_new stands is

    go : (test : Bool) → pointwise nat_eq (take 128 s) (take 128 new) ≡ test → (s ≡ old) ⊎ (take 8 s ≡ magic) → Header s old new
    go true is either = is_new ((bytes_decides (take 128 s) (take 128 new)).0 is)
    go false is (inl kept) = is_old (differ (take 128 s) (take 128 new) is) (ap (take 128) kept)
    go false is (inr stands) = by_sum (header_passes s) refl (differ (take 128 s) (take 128 new) is) stands

-- The header lies in the first sector.
sector_header : (reached : ℕ → Bool) (new old : List ℕ) → length old ≡ length new → Header (torn (Sectors reached) new old) old new
sector_header reached new old sizes =
    go (torn (Sectors reached) new old) (reached 0) (within_sector reached 0 _ 128 new old sizes (omega arith) (omega arith))
  where
    go : (s : List ℕ) (first : Bool) → take 128 s ≡ cond first (take 128 new) (take 128 old) → Header s old new
    go s true header_is = Header.is_new header_is
    go s false header_is = by_test (pointwise nat_eq (take 128 s) (take 128 new)) refl
      where
        by_test : (same : Bool) → pointwise nat_eq (take 128 s) (take 128 new) ≡ same → Header s old new
        by_test true is = Header.is_new ((bytes_decides (take 128 s) (take 128 new)).0 is)
        by_test false is = Header.is_old (differ (take 128 s) (take 128 new) is) header_is

-- ---- either kind of cut

module _ (new old : List ℕ) (sizes : length old ≡ length new) where
  -- Each byte is the old or the new one.
  pub torn_byte : (tear : Tear) (j : ℕ) → (get_or (torn tear new old) j 0 ≡ get_or old j 0) ⊎ (get_or (torn tear new old) j 0 ≡ get_or new j 0)
  unfolding cut
  torn_byte (Ascending k) j = cut_byte k j new old sizes
  torn_byte (Sectors reached) j = sector_byte reached 0 j new old sizes

  pub torn_bytes : (tear : Tear) → AllBytes new → AllBytes old → AllBytes (torn tear new old)
  torn_bytes tear new_all old_all j = go (torn_byte tear j)
    where
      go : (get_or (torn tear new old) j 0 ≡ get_or old j 0) ⊎ (get_or (torn tear new old) j 0 ≡ get_or new j 0) → get_or (torn tear new old) j 0 < 256
      go (inl is) = let small = old_all j in omega arith
      go (inr is) = let small = new_all j in omega arith

  pub length_torn : (tear : Tear) → Anywhere tear (length new) → length (torn tear new old) ≡ length new
  unfolding cut
  length_torn (Ascending k) within = simp (length-append, length-take, length-drop) (omega (arith, within))
  length_torn (Sectors reached) within = length_sectors reached _ new old sizes

  pub torn_header : (tear : Tear) → Possible tear (length new) → take 8 new ≡ magic → Header (torn tear new old) old new
  torn_header (Ascending k) possible stands = header_of (cut k new old) old new (old_or_magic k new old sizes possible stands)
  torn_header (Sectors reached) possible stands = sector_header reached new old sizes

-- ---- the accidents

-- Where the kind of cut has no accident, there is none of those that count for either.
pub none_of_either : (tear : Tear) {s old new payload : List ℕ} → (AccidentBy tear s old new payload → ⊥) → Accident s old new payload → ⊥
none_of_either (Ascending k) none accident = none accident
none_of_either (Sectors reached) none accident = none (SectorAccident.either accident)

pub older_at_most : OlderAtMost
older_at_most s old new payload none kept (SectorAccident.either accident) = none accident
older_at_most s old new payload none kept (SectorAccident.older passes old_header other sum) = other (kept passes old_header sum)

-- There is no accident where the sum of a header other than the new one is not the one that it stores.
pub failed_sum : FailedSum
unfolding header_passes
failed_sum s old new payload not_new not_stored (Accident.header passes not_old other) =
    not_stored (eqb-true _ _ (both _ (header_sum s (le16 s 12) == le32 s 8) passes).1)
failed_sum s old new payload not_new not_stored (Accident.payload same_header other passes) = not_new same_header

-- Nor is there one where the payload's checksum is not the stored one under the new header.
pub failed_payload : FailedPayload
failed_payload s old new payload same_header not_stored (Accident.header passes not_old not_new) = not_new same_header
failed_payload s old new payload same_header not_stored (Accident.payload new_header other passes) = not_stored passes

-- Under another header the new record does not stand whole.
pub not_whole : (s new payload : List ℕ) → (take 128 s ≡ take 128 new → ⊥) → stands_whole s new payload ≡ false
unfolding stands_whole
not_whole s new payload not_new =
    not_same (take (128 + length payload) s) (take (128 + length payload) new)
    (λ is.
    not_new
    (sym (take-take 128 (128 + length payload) s (omega arith))
    ∙ ap (take 128) is
    ∙ take-take 128 (128 + length payload) new (omega arith)))
