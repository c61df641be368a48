-- A slot's part of a frame shows what the slot as read shows, whatever stands in the fields that are not given, and is read back from its
-- bytes.
use Rattle.std.proofs.Common.{◌≡◌, refl, Bool, true, cond, List, [], ◌∷◌, ◌++◌, ℕ, ◌+◌, ◌<◌, arith, ne_eqb, leb, length, get_or, drop-cons, Option, Some, None, is_some}
use Rattle.codec.proofs.ReadLaws.{Rest, onward, value_u32, value_u64}
use Rattle.std.specs.Int.{w32, w64, to_le_bytes}
use Rattle.slot.specs.declared.slot.SlotStatus.{SlotStatus}
use Rattle.slot.specs.declared.slot.HeaderFacts.{HeaderFacts}
use Rattle.judge.specs.declared.pairs.Version.{Version}
use Rattle.judge.specs.declared.part.SlotPart.{SlotPart}
use Rattle.judge.specs.Part.{part_width, part_of, part_bytes, part_at, part_status, part_shown, shown_of, is_in_range, facts_number}
use Rattle.judge.specs.Same.{filled, NothingGiven, ChecksumGiven, NumbersGiven, VersionFits}

-- ---- what it shows, and its range

facts-small : (f : Option HeaderFacts) → leb (facts_number f) 2 ≡ true
facts-small f = grind arith

abbrev Shows : Version → SlotStatus → Option HeaderFacts → Type 0
Shows rest st f = (part_shown (filled rest (part_of st f)) ≡ shown_of st f) × (is_some (part_status (filled rest (part_of st f))) ≡ true)

shows : (rest : Version) (st : SlotStatus) (f : Option HeaderFacts) → Shows rest st f
unfolding filled
shows rest SlotStatus.BadHeaderCrc None = (refl, refl)
shows rest SlotStatus.BadHeaderCrc (Some f) = (grind arith, refl)
shows rest SlotStatus.BadPayloadCrc None = (refl, refl)
shows rest SlotStatus.BadPayloadCrc (Some f) = (grind arith, refl)
shows rest _ f = (refl, refl)

pub part-shows : (rest : Version) (st : SlotStatus) (f : Option HeaderFacts) → part_shown (filled rest (part_of st f)) ≡ shown_of st f
part-shows rest st f = (shows rest st f).0

pub part-in-range : (rest : Version) (st : SlotStatus) (f : Option HeaderFacts) → is_in_range (filled rest (part_of st f)) ≡ true
unfolding filled
part-in-range rest st f = simp ((shows rest st f).1, facts-small f)

-- The library has none.
either-below : (given : Bool) (x y n : ℕ) → x < n → y < n → cond given x y < n
either-below given x y n below other = grind (arith, below, other)

pub filled-fits : (rest : Version) (p : SlotPart) → VersionFits p.version → VersionFits rest → VersionFits (filled rest p).version
unfolding filled
filled-fits rest p own other =
    record {
      generation = either-below _ _ _ _ own.generation other.generation;
      number = either-below _ _ _ _ own.number other.number;
      own = either-below _ _ _ _ own.own other.own;
      prev = either-below _ _ _ _ own.prev other.prev;
      owner = either-below _ _ _ _ own.owner other.owner;
    }

pub nothing_given : NothingGiven
unfolding filled
nothing_given rest c not_valid = simp (ne_eqb _ _ not_valid)

pub checksum_alone : ChecksumGiven
unfolding filled
checksum_alone rest c own not_valid = simp (ne_eqb _ _ not_valid)

pub numbers_alone : NumbersGiven
unfolding filled
numbers_alone rest c own n not_valid = simp (ne_eqb _ _ not_valid)

-- ---- its bytes

pub length_part : (p : SlotPart) → length (part_bytes p) ≡ part_width
unfolding part_bytes
length_part p = refl

pub byte-read : (s t : List ℕ) (p x : ℕ) → Rest s p (x ∷ t) → get_or s p 0 ≡ x
byte-read s t p x r = let here = drop-cons s p 0 (omega (arith, r.size)) in let is = r.is in cc

pub part-read : (s t : List ℕ) (at : ℕ) (p : SlotPart) → VersionFits p.version → Rest s at (part_bytes p ++ t) → part_at s at ≡ p
unfolding part_bytes
part-read s t at p fits r =
    let v = p.version in
    let owner : List ℕ = to_le_bytes w64 v.owner_generation ++ t in
    let prev : List ℕ = to_le_bytes w32 v.prev_header_crc32c ++ owner in
    let own : List ℕ = to_le_bytes w32 v.header_crc32c ++ prev in
    let seq : List ℕ = to_le_bytes w64 v.meta_seq ++ own in
    let all : List ℕ = to_le_bytes w64 v.generation ++ seq in
    let head : List ℕ = p.code ∷ p.facts ∷ to_le_bytes w64 v.generation in
    simp (
      byte-read s (p.facts ∷ all) at p.code r,
      byte-read s all (at + 1) p.facts (onward 1 (p.code ∷ []) (p.facts ∷ all) refl r),
      value_u64 v.generation seq fits.generation (onward 2 (p.code ∷ p.facts ∷ []) all refl r),
      value_u64 v.meta_seq own fits.number (onward 10 head seq refl r),
      value_u32 v.header_crc32c prev fits.own (onward 18 (head ++ to_le_bytes w64 v.meta_seq) own refl r),
      value_u32 v.prev_header_crc32c owner fits.prev (onward 22 (head ++ to_le_bytes w64 v.meta_seq ++ to_le_bytes w32 v.header_crc32c) prev refl r),
      value_u64 v.owner_generation t fits.owner
          (onward 26 (head ++ to_le_bytes w64 v.meta_seq ++ to_le_bytes w32 v.header_crc32c ++ to_le_bytes w32 v.prev_header_crc32c) owner refl r),
    )
