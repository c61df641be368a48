-- The rows are what the definitions compute, each by a line of its own: a refusal names the row.
use Rattle.std.proofs.Common.{◌≡◌, refl, subst, List, ℕ, length}
use Rattle.std.specs.Borrow.{Bor}
use Rattle.codec.specs.Bytes.{le}
use Rattle.codec.specs.Place.{Part}
use Rattle.codec.specs.Crc32c.{remainder, final_remainder, reversed, digest, crc32c}
use Rattle.slot.specs.Payload.{payload_start, payload_length, payload}
use Rattle.slot.specs.Header.{header_read}
use Rattle.slot.specs.Read.{is_slot_length, header_sum, passes_checksum, is_malformed, check, passes_payload, validate}
use Rattle.slot.specs.Rules.{good, slot_of}
use Rattle.slot.specs.declared.slot.SlotInfo.{SlotInfo}
use Rattle.pair.specs.Pair.{decide}
use Rattle.pair.specs.Numbers.{report_numbers}
use Rattle.pair.specs.Winner.{read_pair, PayloadPart}
use Rattle.pair.specs.Rules.{later, known_a, known_b, StatusRows, GenerationRows, LinkRows, ReportRows, InfoRows, PayloadRows}

pub status_rows : StatusRows
unfolding decide report_numbers
status_rows =
    record {
      each_two = refl;
      explained = refl;
    }

pub generation_rows : GenerationRows
unfolding decide report_numbers
generation_rows =
    record {
      equal = refl;
      next_a = refl;
      next_b = refl;
      gap_a = refl;
      gap_b = refl;
      by_64_bits = refl;
    }

pub link_rows : LinkRows
unfolding decide report_numbers
link_rows =
    record {
      whole_a = refl;
      whole_b = refl;
      broken_a = refl;
      broken_b = refl;
      own = refl;
      previous = refl;
      beside_gap = refl;
    }

pub report_rows : ReportRows
unfolding decide report_numbers
report_rows =
    record {
      empty = (refl, refl);
      lost = (refl, refl);
      refused = (refl, refl);
      refused_a = (refl, refl);
      refused_b = (refl, refl);
      fork = (refl, refl);
      alone_a = (refl, refl);
      alone_b = (refl, refl);
      doubted_a = (refl, refl);
      doubted_b = (refl, refl);
      in_order = (refl, refl);
      gap = (refl, refl);
      chain_broken = (refl, refl);
    }

pub info_rows : InfoRows
unfolding decide report_numbers
info_rows =
    record {
      of_a = refl;
      of_b = refl;
      of_doubted = refl;
      by_winner = refl;
      not_valid = refl;
      statuses = refl;
      one_of_two = refl;
    }

-- A part of a slot with these bytes.
placed : (i : SlotInfo) (s : List ℕ) (x r : Bor (List ℕ)) → x.now ≡ s → PayloadPart i x r
    → Part x (payload_start i (length s)) (payload_length i (length s)) r
placed i s x r is part = subst (λ (t : List ℕ). Part x (payload_start i (length t)) (payload_length i (length t)) r) is part

pub payload_rows : PayloadRows
unfolding le remainder final_remainder reversed digest crc32c payload header_read is_slot_length header_sum passes_checksum is_malformed check passes_payload validate decide report_numbers read_pair
payload_rows =
    record {
      in_order = refl;
      second_in_a = refl;
      exchanged = refl;
      both_as_a = refl;
      both_as_b = refl;
      torn_b = refl;
      blanks = refl;
      winner_b = refl;
      winner_a = refl;
      winner_none = refl;
      part_b = λ a b r is part. placed known_b (slot_of later) b r is part;
      part_a = λ a b r is part. placed known_a (slot_of good) a r is part;
      part_none = λ a b r part. part;
    }
