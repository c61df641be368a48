-- A slot's part of a frame (docs/FORMAT.md, "Frames"): what it is filled with, its bytes, what bytes stand for, and what it shows the
-- judge.
use Rattle.std.specs.Prelude.{Bool, ◌&&◌, List, ◌∷◌, ◌++◌, ℕ, ◌+◌, ◌==◌, nat_le, if◌then◌else◌, get_or, Option, Some, None, is_some, unwrap_or, option_map}
use Rattle.std.specs.Int.{w32, w64, to_le_bytes}
use Rattle.codec.specs.Bytes.{le32, le64}
use Rattle.slot.specs.Status.{code, info}
use Rattle.slot.specs.Numbers.{status_of}
use Rattle.slot.specs.declared.slot.SlotInfo.{SlotInfo}
use Rattle.slot.specs.declared.slot.SlotStatus.{SlotStatus}
use Rattle.slot.specs.declared.slot.NumberedHeader.{NumberedHeader}
use Rattle.slot.specs.declared.slot.HeaderFacts.{HeaderFacts}
use Rattle.judge.specs.declared.pairs.Version.{Version}
use Rattle.judge.specs.declared.pairs.Shown.{Shown}
use Rattle.judge.specs.declared.part.SlotPart.{SlotPart}

-- The width of a slot's part.
abbrev pub part_width : ℕ
part_width = 34

-- ---- what it is filled with: under Valid from the slot's info, else from the facts

abbrev pub version_of_info : SlotInfo → Version
version_of_info i =
    record {
      generation = i.generation;
      meta_seq = i.meta_seq;
      header_crc32c = i.header_crc32c;
      prev_header_crc32c = i.prev_header_crc32c;
      owner_generation = i.owner_generation;
    }

-- And back; what a version does not hold is zero.
abbrev pub info_of : Version → SlotInfo
info_of v =
    record {
      generation = v.generation;
      owner_generation = v.owner_generation;
      header_crc32c = v.header_crc32c;
      prev_header_crc32c = v.prev_header_crc32c;
      ro_compat_flags = 0;
      compat_flags = 0;
      meta_seq = v.meta_seq;
      payload_start = 0;
      payload_len = 0;
    }

-- As much of it as a header shows without its payload.
abbrev pub numbered_of : Version → NumberedHeader
numbered_of v = record { generation = v.generation; meta_seq = v.meta_seq; prev_header_crc32c = v.prev_header_crc32c }

abbrev pub version_of_header : ℕ → Option NumberedHeader → Version
version_of_header stored None =
    record { generation = 0; meta_seq = 0; header_crc32c = stored; prev_header_crc32c = 0; owner_generation = 0 }
version_of_header stored (Some n) =
    record {
      generation = n.generation;
      meta_seq = n.meta_seq;
      header_crc32c = stored;
      prev_header_crc32c = n.prev_header_crc32c;
      owner_generation = 0;
    }

abbrev pub version_of_facts : Option HeaderFacts → Version
version_of_facts None = version_of_header 0 None
version_of_facts (Some f) = version_of_header f.stored_header_crc32c f.numbered

abbrev pub version_by : Option SlotInfo → Option HeaderFacts → Version
version_by (Some i) f = version_of_info i
version_by None f = version_of_facts f

-- Facts: 0 none, 1 stored checksum, 2 numbered as well.
abbrev pub header_number : Option NumberedHeader → ℕ
header_number None = 1
header_number (Some n) = 2

abbrev pub facts_number : Option HeaderFacts → ℕ
facts_number None = 0
facts_number (Some f) = header_number f.numbered

abbrev pub part_of : SlotStatus → Option HeaderFacts → SlotPart
part_of status f = record { code = code status; facts = facts_number f; version = version_by (info status) f }

-- ---- its bytes, and what bytes stand for

unfoldable pub part_bytes : SlotPart → List ℕ
part_bytes p =
    p.code
    ∷ p.facts
    ∷ to_le_bytes w64 p.version.generation
    ++ to_le_bytes w64 p.version.meta_seq
    ++ to_le_bytes w32 p.version.header_crc32c
    ++ to_le_bytes w32 p.version.prev_header_crc32c
    ++ to_le_bytes w64 p.version.owner_generation

abbrev pub part_at : List ℕ → ℕ → SlotPart
part_at s at =
    record {
      code = get_or s at 0;
      facts = get_or s (at + 1) 0;
      version =
          record {
            generation = le64 s (at + 2);
            meta_seq = le64 s (at + 10);
            header_crc32c = le32 s (at + 18);
            prev_header_crc32c = le32 s (at + 22);
            owner_generation = le64 s (at + 26);
          };
    }

-- ---- what it shows the judge

-- The status that it has the number of; of a number that is no status's, none.
abbrev pub part_status : SlotPart → Option SlotStatus
part_status p = status_of p.code (info_of p.version)

-- Its status's number is one, and the facts are at most 2.
abbrev pub is_in_range : SlotPart → Bool
is_in_range p = is_some (part_status p) && nat_le p.facts 2

-- The facts that its number and its fields stand for.
abbrev pub facts_of : SlotPart → Option HeaderFacts
facts_of p =
    if p.facts == 0 then None
    else
    Some
    (record { stored_header_crc32c = p.version.header_crc32c; numbered = if p.facts == 2 then Some (numbered_of p.version) else None })

abbrev pub payload_shown : Option NumberedHeader → Shown
payload_shown None = Shown.Other
payload_shown (Some n) = Shown.BadPayload n

-- What a slot shows of this status beside these facts.
abbrev pub shown_of : SlotStatus → Option HeaderFacts → Shown
shown_of (SlotStatus.Valid i) f = Shown.Valid (version_of_info i)
shown_of SlotStatus.BadPayloadCrc (Some f) = payload_shown f.numbered
shown_of SlotStatus.BadHeaderCrc (Some f) = Shown.BadHeader f.stored_header_crc32c
shown_of SlotStatus.Blank f = Shown.Blank
shown_of (SlotStatus.UnsupportedVersion major) f = Shown.Unsupported
shown_of (SlotStatus.Incompatible flags) f = Shown.Unsupported
shown_of _ _ = Shown.Other

abbrev pub part_shown : SlotPart → Shown
part_shown p = unwrap_or (option_map (λ status. shown_of status (facts_of p)) (part_status p)) Shown.Other
