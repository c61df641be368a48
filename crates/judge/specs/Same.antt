-- Frames filled from pairs as they were read (docs/FORMAT.md, "Frames"): the judge over them answers as the judge over those pairs,
-- whatever stands in the fields that are not given.
use Rattle.std.specs.Prelude.{◌≡◌, Bool, true, false, ◌||◌, List, [], ◌∷◌, ◌++◌, ℕ, ◌*◌, ◌^◌, ◌<◌, ◌==◌, nat_le, if◌then◌else◌, map, flat_map, Option, Some, None, ⊤}
use Rattle.slot.specs.declared.slot.HeaderFacts.{HeaderFacts}
use Rattle.slot.specs.declared.slot.NumberedHeader.{NumberedHeader}
use Rattle.judge.specs.declared.pairs.Version.{Version}
use Rattle.judge.specs.declared.part.SlotPart.{SlotPart}
use Rattle.judge.specs.declared.verdict.PairVerdict.{PairVerdict}
use Rattle.judge.specs.declared.records.SlotRead.{SlotRead}
use Rattle.judge.specs.declared.records.PairRead.{PairRead}
use Rattle.judge.specs.Part.{version_of_header, version_of_facts, facts_number, part_of, part_bytes}
use Rattle.judge.specs.Records.{judge_records, records_left}
use Rattle.judge.specs.Frames.{verdict_width, row_bytes, judge_frames, frames_left}

-- Status 12 gives all fields, facts 2 all but the owner generation, facts 1 the own checksum.
abbrev pub numbers_given : SlotPart → Bool
numbers_given p = (p.code == 12) || (p.facts == 2)

abbrev pub checksum_given : SlotPart → Bool
checksum_given p = (p.code == 12) || nat_le 1 p.facts

-- The fields that are given, and the rest in the others.
unfoldable pub filled : Version → SlotPart → SlotPart
filled rest p =
    record {
      code = p.code;
      facts = p.facts;
      version =
          record {
            generation = if numbers_given p then p.version.generation else rest.generation;
            meta_seq = if numbers_given p then p.version.meta_seq else rest.meta_seq;
            header_crc32c = if checksum_given p then p.version.header_crc32c else rest.header_crc32c;
            prev_header_crc32c = if numbers_given p then p.version.prev_header_crc32c else rest.prev_header_crc32c;
            owner_generation = if p.code == 12 then p.version.owner_generation else rest.owner_generation;
          };
    }

-- The part under the code of a status that is not Valid.
abbrev pub failed_part : ℕ → Option HeaderFacts → SlotPart
failed_part c f = record { code = c; facts = facts_number f; version = version_of_facts f }

-- Where nothing is given, a part holds what the host left in it,
abbrev pub NothingGiven : Type 0
NothingGiven = (rest : Version) (c : ℕ) → (c ≡ 12 → ⊥) → filled rest (failed_part c None) ≡ record { code = c; facts = 0; version = rest }

-- and so it does in the other fields where only the own checksum is given.
abbrev pub ChecksumGiven : Type 0
ChecksumGiven =
    (rest : Version) (c own : ℕ) → (c ≡ 12 → ⊥)
    → filled rest (failed_part c (Some (record { stored_header_crc32c = own; numbered = None })))
    ≡ record { code = c; facts = 1; version = record rest { header_crc32c = own } }

-- Where a header's numbers are given too, it does so in the owner generation alone.
abbrev pub NumbersGiven : Type 0
NumbersGiven =
    (rest : Version) (c own : ℕ) (n : NumberedHeader) → (c ≡ 12 → ⊥)
    → filled rest (failed_part c (Some (record { stored_header_crc32c = own; numbered = Some n })))
    ≡ record { code = c; facts = 2; version = record (version_of_header own (Some n)) { owner_generation = rest.owner_generation } }

-- A pair as it was read, and what stands in the fields that are not given, of A and of B.
pub record Framed : Type 0 where
  pub pair : PairRead
  pub rest_a : Version
  pub rest_b : Version

abbrev pub part_read : SlotRead → SlotPart
part_read s = part_of s.status s.facts

abbrev pub frame_of : Framed → List ℕ
frame_of f = part_bytes (filled f.rest_a (part_read f.pair.a)) ++ (part_bytes (filled f.rest_b (part_read f.pair.b)) ++ f.pair.operator ∷ [])

abbrev pub frames_of : List Framed → List ℕ
frames_of fs = flat_map frame_of fs

abbrev pub pairs_of : List Framed → List PairRead
pairs_of fs = map (λ f. f.pair) fs

-- Each number fits its field, as a value of its type does.
pub record VersionFits (v : Version) : Type 0 where
  pub generation : v.generation < 2 ^ 64
  pub number : v.meta_seq < 2 ^ 64
  pub own : v.header_crc32c < 2 ^ 32
  pub prev : v.prev_header_crc32c < 2 ^ 32
  pub owner : v.owner_generation < 2 ^ 64

pub record Fits (f : Framed) : Type 0 where
  pub a : VersionFits (part_read f.pair.a).version
  pub b : VersionFits (part_read f.pair.b).version
  pub rest_a : VersionFits f.rest_a
  pub rest_b : VersionFits f.rest_b

abbrev pub AllFit : List Framed → Type 0
AllFit [] = ⊤
AllFit (f ∷ fs) = Fits f × AllFit fs

-- The mark as a byte.
abbrev pub mark : Bool → ℕ
mark true = 1
mark false = 0

-- Both judges answer the same, where so many verdicts are lent, and leave the same verdicts.
pub record SameJudge : Type 0 where
  pub answer : (fs : List Framed) → AllFit fs → (clean : Bool) (room : ℕ)
      → judge_frames (frames_of fs) (mark clean) (room * verdict_width) ≡ judge_records (pairs_of fs) clean room
  pub verdicts : (fs : List Framed) → AllFit fs → (clean : Bool) (out : List PairVerdict)
      → frames_left (frames_of fs) (mark clean) (row_bytes out) ≡ row_bytes (records_left (pairs_of fs) clean out)

-- Fields that are not given are ignored: frames of the same pairs are judged alike, for any mark and any lent bytes.
pub record IgnoredFields : Type 0 where
  pub answer : (fs gs : List Framed) → AllFit fs → AllFit gs → pairs_of fs ≡ pairs_of gs → (clean room : ℕ)
      → judge_frames (frames_of fs) clean room ≡ judge_frames (frames_of gs) clean room
  pub verdicts : (fs gs : List Framed) → AllFit fs → AllFit gs → pairs_of fs ≡ pairs_of gs → (clean : ℕ) (out : List ℕ)
      → frames_left (frames_of fs) clean out ≡ frames_left (frames_of gs) clean out
