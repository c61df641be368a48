-- The rows are what the definitions compute.
use Rattle.std.proofs.Common.{◌≡◌, refl, inl, inr, ap, arith, ℕ, zero, suc, ◌+◌, ◌-◌, ◌^◌, ◌<◌, Ok, List, [], ◌∷◌, length, get_or, take, drop, replicate, codes, Some, length-drop, length-take-le}
use Rattle.std.proofs.lemmas.List.{length-replicate}
use Rattle.codec.specs.Bytes.{le}
use Rattle.hex.specs.Hex.{encode_with, decode_pairs}
use Rattle.judge.specs.Judge.{first_verdicts, first_tally, row_rules, verdicts, judgement}
use Rattle.judge.specs.Frames.{frames_error}
use Rattle.verdict_text.specs.Answer.{judged}
use Rattle.std.specs.declared.io.Error.{Error}
use Rattle.verdict_text.specs.declared.stream.Calls.{Calls}
use Rattle.verdict_text.specs.Calls.{is_interrupted, no_calls, noted, AllInterrupted}
use Rattle.verdict_text.specs.Rules.{after_seven, so_many, MarkRows, LineRows, RangeRows, OrderRows, LengthRows, PrintedRows, PlaceRows, CallRows, OutcomeRows}

pub mark_rows : MarkRows
unfolding le encode_with decode_pairs first_verdicts first_tally row_rules verdicts judgement frames_error judged
mark_rows =
    record {
      mark_0 = refl;
      mark_1 = refl;
      values = refl;
      characters = refl;
      lengths = refl;
      around = refl;
      twice = refl;
      none = refl;
    }

pub line_rows : LineRows
unfolding le encode_with decode_pairs first_verdicts first_tally row_rules verdicts judgement frames_error judged
line_rows =
    record {
      digits = refl;
      capitals = refl;
      others = refl;
      first_digits = refl;
      short = refl;
      long = refl;
      by_a_byte = refl;
      whole = refl;
      empty = refl;
      joined = refl;
      halves = refl;
      around = refl;
      carriage_returns = refl;
      before = refl;
      between = refl;
      open_line = refl;
      open_after_others = refl;
      open_mark = refl;
      ended_alone = refl;
      no_text = refl;
      high_digit_first = refl;
    }

pub range_rows : RangeRows
unfolding le encode_with decode_pairs first_verdicts first_tally row_rules verdicts judgement frames_error judged
range_rows =
    record {
      statuses_a = refl;
      statuses_b = refl;
      valid_a = refl;
      valid_b = refl;
      above_a = refl;
      above_b = refl;
      facts_a = refl;
      facts_b = refl;
      facts_of_valid = refl;
      operators = refl;
      volume_operators = refl;
      third_pair = refl;
      third_bad = refl;
      volume_bad = refl;
    }

pub order_rows : OrderRows
unfolding le encode_with decode_pairs first_verdicts first_tally row_rules verdicts judgement frames_error judged
order_rows =
    record {
      no_frame = refl;
      wrong_mark_alone = refl;
      one_pair = refl;
      most = refl;
      too_many = refl;
      more_too_many = refl;
      too_many_and_bad = refl;
      too_many_and_no_operator = refl;
      too_many_and_last_operator = refl;
      too_many_and_open = refl;
      too_many_and_empty = refl;
      too_many_and_later_bad = refl;
      too_many_and_first_bad = refl;
      too_many_and_wrong_mark = refl;
      bad_before_the_judge = refl;
    }

pub length_rows : LengthRows
unfolding le encode_with decode_pairs first_verdicts first_tally row_rules verdicts judgement frames_error judged
length_rows =
    record {
      longest = refl;
      longer = refl;
      longer_lines = refl;
      longest_lines = refl;
      more = refl;
      longer_and_more = refl;
    }

pub printed_rows : PrintedRows
unfolding le encode_with decode_pairs first_verdicts first_tally row_rules verdicts judgement frames_error judged
printed_rows =
    record {
      store = refl;
      heal_b = refl;
      heal_a = refl;
      heal_volume = refl;
      heal_volume_a = refl;
      heal_pair_10 = refl;
      heal_pair_111 = refl;
      header_torn = refl;
      newer_a = refl;
      newer_b = refl;
      older_damaged = refl;
      damage = refl;
      lost = refl;
      no_volume = refl;
      later_version = refl;
      later_version_closed = refl;
      closed = refl;
      two_owners = refl;
      one_owner = refl;
      two_owners_refused = refl;
      two_operators = refl;
      one_operator = refl;
    }

pub place_rows : PlaceRows
unfolding le encode_with decode_pairs first_verdicts first_tally row_rules verdicts judgement frames_error judged
place_rows =
    record {
      rest_kept = refl;
      nothing_over = refl;
      all_over = refl;
      room = refl;
      more_room = refl;
      no_room = refl;
      longest = refl;
      no_room_for_longest = refl;
      refusals = refl;
      rest_of_refusal = refl;
      no_refusal = refl;
      judgement = refl;
      rest_of_judgement = refl;
      no_judgement = refl;
      part_of_a_verdict = refl;
    }

-- Fewer calls were interrupted than are made.
few : (calls : Calls) (e : Error) → calls.interrupted < 2 ^ 64 - 1 → AllInterrupted calls e → ⊥
few calls e less all = omega (arith, all.as_many, less)

pub call_rows : CallRows
call_rows =
    record {
      given = refl;
      nothing_given = refl;
      interrupted_first = λ e is. simp is;
      interrupted_again = λ e is. simp is;
      interrupted_last = λ e is. simp is;
      interrupted_more = λ e is. simp is;
      timed_out = λ e is. simp is;
      would_block = λ e is. simp is;
      nothing_before_a_call = λ e. elim [ inl (inl f) ↦ cc | inl (inr t) ↦ few no_calls e (omega arith) t | inr t ↦ cc ];
      nothing_after_a_read = λ n e. elim [ inl f ↦ cc | inr t ↦ few (noted (Ok n) after_seven) e (omega arith) t ];
      nothing_after_a_write =
          λ n e. elim [
            | inl (inl f) ↦ cc
            | inl (inr t) ↦ few (noted (Ok (n + 1)) after_seven) e (omega arith) t
            | inr t ↦ (let none : n + 1 ≡ 0 = cc in absurd (omega arith))
          ];
      no_other_error = λ e f. elim [ inl failed ↦ cc | inr t ↦ absurd (few (so_many 0 f) e (omega arith) t) ];
      no_interruption = λ n e f is. elim [ inl failed ↦ (let kind = ap is_interrupted is in cc) | inr t ↦ cc ];
      not_before_the_last =
          λ e f is. elim [
            | inl failed ↦ (let kind = ap is_interrupted is in cc)
            | inr t ↦ few (so_many (2 ^ 64 - 2) e) f (omega arith) t
          ];
      no_write_error_for_nothing =
          λ e is. elim [ inl (inl f) ↦ cc | inl (inr t) ↦ few (noted (Ok 0) after_seven) e (omega arith) t | inr t ↦ cc ];
      failed_read = λ e is. inl (record { last = refl; kind = ap is_interrupted is });
      failed_write = λ e is. inl (inl (record { last = refl; kind = ap is_interrupted is }));
      interrupted_each_time = λ e f is. inr (record { as_many = omega arith; kind = is });
      no_other_kind = λ e f is other. elim [ inl failed ↦ cc | inr t ↦ cc ];
      write_of_nothing = λ e is. inr (record { last = refl; kind = is });
    }

-- So many bytes were lost where two are left.
lost : (n k d : ℕ) → Some (replicate 2 d) ≡ Some (drop k (replicate n d)) → k + 2 ≡ n
lost n k d same =
    let lists : replicate 2 d ≡ drop k (replicate n d) = cc in
    omega (arith, ap (λ l. length l) lists, length-drop k (replicate n d), length-replicate n d)

-- What is a front and not the whole is shorter, and begins alike.
shorter : (n : ℕ) (bytes taken : List ℕ) → n < length bytes → taken ≡ take n bytes → length taken < length bytes
shorter n bytes taken less same = omega (arith, ap (λ l. length l) same, length-take-le n bytes (omega arith))

no_front : (n : ℕ) (bytes : List ℕ) → 0x53 ∷ [] ≡ take n (0x52 ∷ bytes) → ⊥
no_front zero bytes same = cc
no_front (suc n) bytes same = let heads : 0x53 ≡ 0x52 = ap (λ l. get_or l 0 0) same in absurd (omega (arith, heads))

pub outcome_rows : OutcomeRows
unfolding le encode_with decode_pairs first_verdicts first_tally row_rules verdicts judgement frames_error judged
outcome_rows =
    record {
      read_whole = refl;
      read_one_more = refl;
      read_no_more = λ same. cc;
      not_read = λ same. cc;
      read_before_a_write = λ e. refl;
      not_read_before_a_write = λ e same. cc;
      read_in_part = λ e. (65536, omega arith, refl);
      read_in_full = λ e k. let all = lost 65539 k.0 0x30 k.2 in absurd (omega (arith, all, k.1));
      written = refl;
      written_longer = refl;
      byte_missing = λ same. cc;
      byte_more = λ same. cc;
      other_answer = λ same. cc;
      nothing_written = λ same. cc;
      output_lost = λ same. cc;
      kept = λ e. refl;
      not_kept = λ e same. cc;
      front = λ e. (3, omega arith, refl);
      no_byte = λ e. (0, omega arith, refl);
      whole_answer = λ e n. let less : 4 < 4 = shorter n.0 (codes "R08\n") (codes "R08\n") n.1 n.2 in absurd (omega arith);
      other_front = λ e n. no_front n.0 (codes "08\n") n.2;
      no_read_failed = λ e. elim [ inl f ↦ cc | inr t ↦ few no_calls e (omega arith) t ];
      no_write_failed = λ e. elim [ inl (inl f) ↦ cc | inl (inr t) ↦ few no_calls e (omega arith) t | inr t ↦ cc ];
      a_write_not_a_read = λ e f. elim [ inl failed ↦ cc | inr t ↦ few no_calls e (omega arith) t ];
      a_read_not_a_write = λ e f. elim [ inl (inl failed) ↦ cc | inl (inr t) ↦ few no_calls e (omega arith) t | inr t ↦ cc ];
      its_error = λ e f. elim [ inl failed ↦ cc | inr t ↦ absurd (few (so_many 0 f) e (omega arith) t) ];
    }
