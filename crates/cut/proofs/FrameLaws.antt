-- The numbers of a store's frames fit their fields, since they are read from bytes. So the judge over the frames answers as the judge over
-- the row of pairs.
use Rattle.std.proofs.Common.{◌≡◌, refl, ◌∙◌, Bool, true, false, cond, not, List, [], ◌∷◌, ℕ, ◌*◌, ◌≤◌, arith, ne_eqb, eq-eqb, le-ltb, nat_lt, nat_le, ◌==◌, length, Some, None, Ok, is_ok, lit<}
use Rattle.std.proofs.lemmas.List.{length-map}
use Rattle.codec.specs.Bytes.{AllBytes}
use Rattle.slot.specs.Status.{info}
use Rattle.slot.specs.Header.{header}
use Rattle.slot.specs.Read.{is_slot_length, is_blank, check, facts_read, validate, header_facts}
use Rattle.slot.specs.declared.slot.Expect.{Expect}
use Rattle.slot.specs.declared.slot.SlotStatus.{SlotStatus}
use Rattle.slot.proofs.HeaderLaws.{header_layout}
use Rattle.judge.specs.Part.{version_of_facts, version_by}
use Rattle.judge.specs.Operators.{operators_in_range}
use Rattle.judge.specs.Judge.{most_pairs, verdicts, judgement}
use Rattle.judge.specs.Frames.{verdict_width, pair_count, row_bytes, judge_frames, frames_left}
use Rattle.judge.specs.Records.{judge_records, records_left}
use Rattle.judge.specs.Same.{VersionFits, AllFit, mark}
use Rattle.judge.specs.declared.verdict.PairVerdict.{PairVerdict}
use Rattle.judge.proofs.SameLaws.{count-is, framed_error, answer-is, verdicts-are}
use Rattle.cut.specs.Store.{Every, Pair, framed_pair, framed, reads, shown, frames, Typed}
use Rattle.cut.proofs.ByteLaws.{le32_lt, le64_lt}
use Rattle.cut.proofs.StatusLaws.{valid_is}

-- ---- what is read from bytes fits

zeros_fit : VersionFits (version_of_facts None)
zeros_fit = record { generation = lit< tt; number = lit< tt; own = lit< tt; prev = lit< tt; owner = lit< tt }

module _ (s : List ℕ) (e : Expect) (all : AllBytes s) where
  facts_fit : VersionFits (version_of_facts (header_facts s e))
  unfolding header_facts
  facts_fit = rw (header_layout s) (go (is_slot_length (length s) e.log2_slot_size) (is_blank s) (nat_lt (length s) 128))
    where
      stored_fits : (stands passed : Bool) → VersionFits (version_of_facts
          (cond (not stands) None
          (Some (record {
            stored_header_crc32c = (header s).header_crc32c;
            numbered =
                cond passed
                (Some (record { generation = (header s).generation; meta_seq = (header s).meta_seq; prev_header_crc32c = (header s).prev_header_crc32c }))
                None;
          }))))
      stored_fits false passed = zeros_fit
      stored_fits true false = record { generation = lit< tt; number = lit< tt; own = le32_lt s all 8; prev = lit< tt; owner = lit< tt }
      stored_fits true true =
          record { generation = le64_lt s all 56; number = le64_lt s all 96; own = le32_lt s all 8; prev = le32_lt s all 80; owner = lit< tt }

      go : (long zeros past : Bool) → VersionFits (version_of_facts
          (cond (not long) None (cond zeros None (facts_read s e (cond past None (Some (header s)))))))
      go false zeros past = zeros_fit
      go true true past = zeros_fit
      go true false true = zeros_fit
      go true false false = stored_fits _ (is_ok (check s (header s) e))

  slot_fits : VersionFits (version_by (info (validate s e)) (header_facts s e))
  slot_fits = go (validate s e) refl
    where
      go : (status : SlotStatus) → validate s e ≡ status → VersionFits (version_by (info status) (header_facts s e))
      go (SlotStatus.Valid i) is =
          rw (valid_is s e i is).info_is
          (record {
            generation = le64_lt s all 56;
            number = le64_lt s all 96;
            own = le32_lt s all 8;
            prev = le32_lt s all 80;
            owner = le64_lt s all 88;
          })
      go _ is = facts_fit

pub record PairTyped (p : Pair) : Type 0 where
  pub a : Typed p.a
  pub b : Typed p.b

pub row_fits : {ps : List Pair} → Every PairTyped ps → AllFit (framed ps)
row_fits Every.none = tt
row_fits (Every.more {x = p} typed rest) = (
  record {
    a = slot_fits p.a.bytes p.a.expect typed.a.bytes;
    b = slot_fits p.b.bytes p.b.expect typed.b.bytes;
    rest_a = typed.a.rest;
    rest_b = typed.b.rest;
  },
  row_fits rest,
)

-- ---- nothing is refused

pub count_frames : (ps : List Pair) → pair_count (frames ps) ≡ length ps
count_frames ps = count-is (framed ps) ∙ length-map ps framed_pair

length_reads : (ps : List Pair) → length (reads ps) ≡ length ps
length_reads [] = refl
length_reads (p ∷ ps) = simp (length_reads ps)

module _ (ps : List Pair) (some : 1 ≤ length ps) (few : length ps ≤ most_pairs) (range : operators_in_range true (shown ps) ≡ true) (clean : Bool) where
  full : (length ps ≡ 0 → ⊥)
  full = omega arith

  -- The mark as a byte is the mark.
  mark_back : (clean : Bool) → (nat_le (mark clean) 1 ≡ true) × ((mark clean == 1) ≡ clean)
  mark_back true = (refl, refl)
  mark_back false = (refl, refl)

  pub row_judged : judge_records (reads ps) clean (length ps) ≡ Ok (judgement (shown ps) clean)
  unfolding judge_records
  row_judged = simp (length_reads ps, ne_eqb (length ps) 0 full, le-ltb most_pairs (length ps) few, eq-eqb (length ps) (length ps) refl, range)

  pub row_written : (rows : List PairVerdict) → length rows ≡ length ps → records_left (reads ps) clean rows ≡ verdicts (shown ps) clean
  unfolding records_left
  row_written rows room =
      simp (length_reads ps, room, ne_eqb (length ps) 0 full, le-ltb most_pairs (length ps) few, eq-eqb (length ps) (length ps) refl, range)

  module _ (typed : Every PairTyped ps) (out : List ℕ) (room : length out ≡ length ps * verdict_width) where
    nothing_refused : framed_error (reads ps) (mark clean) (length out) ≡ None
    nothing_refused =
        simp (
          room,
          length_reads ps,
          ne_eqb (length ps) 0 full,
          le-ltb most_pairs (length ps) few,
          eq-eqb (length ps * verdict_width) (length ps * verdict_width) refl,
          (mark_back clean).0,
          range,
        )

    pub judged_row : judge_frames (frames ps) (mark clean) (length out) ≡ Ok (judgement (shown ps) clean)
    judged_row = answer-is (framed ps) (row_fits typed) (mark clean) (length out) ∙ simp (nothing_refused, (mark_back clean).1)

    pub judged_bytes : frames_left (frames ps) (mark clean) out ≡ row_bytes (verdicts (shown ps) clean)
    judged_bytes = verdicts-are (framed ps) (row_fits typed) (mark clean) out ∙ simp (nothing_refused, (mark_back clean).1)
