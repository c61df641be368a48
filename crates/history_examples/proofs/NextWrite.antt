-- `next_write` over the frames of the first store: the plan is computed from how its slots are read.
use Rattle.std.proofs.Common.{◌≡◌, refl, sym, ap, subst, ◌∙◌, inl, false, List, [], ◌∷◌, ℕ, ◌*◌, ◌^◌, lit<, length, Option, Some, Result, Ok}
use Rattle.std.proofs.Math.ListN.{length-replicate}
use Rattle.codec.specs.Bytes.{AllBytes, le}
use Rattle.slot.specs.Write.{header_crc, encode_check, encoded as encode_by, encode}
use Rattle.slot.specs.declared.slot.SlotFields.{SlotFields}
use Rattle.slot.specs.declared.slot.EncodeError.{EncodeError}
use Rattle.pair.specs.Pair.{decide}
use Rattle.judge.specs.Part.{part_bytes}
use Rattle.judge.specs.Verdict.{by_index}
use Rattle.judge.specs.Frames.{verdict_width, frames_error}
use Rattle.judge.specs.Same.{Framed, filled, frames_of}
use Rattle.judge.specs.declared.records.PairRead.{PairRead}
use Rattle.cut.specs.Store.{store_mark, framed, frames}
use Rattle.cut.specs.Cut.{Write, store, size, old, new, left, Possible, AccidentBy, Survives}
use Rattle.cut.proofs.EveryLaws.{every_map}
use Rattle.plan.specs.declared.error.PlanError.{PlanError}
use Rattle.plan.specs.declared.write.Plan.{Plan}
use Rattle.plan.specs.Plan.{plan_write}
use Rattle.plan.specs.Next.{fields_of, planned, encoded, write_by, next_write}
use Rattle.plan.specs.Promise.{write_of, PlannedFor}
use Rattle.plan.proofs.CorrectLaws.{survives_cuts, any_planned_for}
use Rattle.cut_examples.specs.Stores.{page_record, zeros_for, first_page, new_fields, first_store}
use Rattle.cut_examples.specs.Writes.{IsMet, page_write, next_fields, second_write}
use Rattle.cut_examples.specs.Computed.{blank_read}
use Rattle.cut_examples.specs.Cuts.{volume_read, older_read}
use Rattle.cut_examples.proofs.Writes.{page_bytes, unmarked_with, new_sums, new_refusal, next_sums, next_refusal, page_cuts, second_cut}
use Rattle.cut_examples.proofs.SlotsRead.{more, none, framed_row, row_framed}
use Rattle.cut_examples.proofs.Computed.{newer_read, second_read, volume_pair_read, first_page_read, second_page_read}
use Rattle.history_examples.specs.NextWrite.{NextWriteIs, page_plan, PagePlanned, second_plan, SecondPlanned}

-- ---- the plans

abbrev row : List PairRead
row =
    record { a = volume_read; b = blank_read; operator = 0 }
    ∷ record { a = older_read; b = newer_read; operator = 0 }
    ∷ record { a = second_read; b = blank_read; operator = 1 }
    ∷ []

framed_is : framed first_store ≡ framed_row row
framed_is = row_framed (more volume_pair_read (more first_page_read (more second_page_read none)))

plans : (plan_write (frames_of (framed_row row)) 1 ≡ Ok (Some page_plan)) × (plan_write (frames_of (framed_row row)) 2 ≡ Ok (Some second_plan))
unfolding le plan_write frames_error filled part_bytes decide
plans = (refl, refl)

planned_at : (i : ℕ) {plan : Plan} → plan_write (frames_of (framed_row row)) i ≡ Ok (Some plan) → plan_write (frames first_store) i ≡ Ok (Some plan)
planned_at i is = ap (λ (fs : List Framed). plan_write (frames_of fs) i) framed_is ∙ is

-- ---- the bytes

summed : (f : SlotFields) (payload : List ℕ) (crc : ℕ) → encode_check f payload (2 ^ f.log2_slot_size) ≡ Ok tt → header_crc f payload ≡ crc
    → (encode f payload (zeros_for f)).1 ≡ Ok crc
unfolding encode
summed f payload crc passes sum =
    ap (λ (answer : Result (Unit {0}) EncodeError). (encode_by f payload (zeros_for f) answer).1)
    (ap (encode_check f payload) (length-replicate (2 ^ f.log2_slot_size) 0) ∙ passes)
    ∙ ap Ok sum

abbrev After : Type 0
After = List ℕ × Result (Option (Plan × ℕ)) PlanError

-- A write to the first store by a plan, with this checksum of its header.
module _ (w : Write) (plan : Plan) (crc : ℕ) (plan_is : plan_write (frames (store w)) (length w.before) ≡ Ok (Some plan))
    (sum : (encode w.fields w.payload w.buffer).1 ≡ Ok crc)
    (fields_are : fields_of plan (by_index plan.index w.pair.a.expect w.pair.b.expect) 1 0 ≡ w.fields)
    (same : write_of w.before w.pair w.behind plan 1 0 w.payload w.buffer w.tear ≡ w) where
  made : ◌≡◌ {A = After} (next_write (frames (store w)) (length w.before) w.pair.a.expect w.pair.b.expect 1 0 w.payload w.buffer) (new w, Ok (Some (plan, crc)))
  unfolding next_write
  made =
      ap (λ (r : Result (Option Plan) PlanError). write_by r w.pair.a.expect w.pair.b.expect 1 0 w.payload w.buffer) plan_is
      ∙ ap (λ (f : SlotFields). encoded plan (encode f w.payload w.buffer)) fields_are
      ∙ ap (λ (answer : Result ℕ EncodeError). (new w, planned plan answer)) sum

  module _ (met : IsMet w) (unmarked : store_mark (store w) ≡ false) (bytes : AllBytes w.payload) (three : length (store w) ≡ 3) where
    asked : PlannedFor (frames (store w)) (length w.before) w.pair.a.expect w.pair.b.expect w.payload (Ok (Some (plan, crc))) w.before w.pair w.behind plan
    asked =
        any_planned_for (frames (store w)) (length w.before) w.pair.a.expect w.pair.b.expect w.payload (Ok (Some (plan, crc))) w.before w.pair w.behind plan crc
        met.sound (inl unmarked) refl refl refl refl refl met.correct.written.accepted

    next_is : NextWriteIs w plan crc
    next_is =
        record {
          encoded = made;
          same = same;
          asked = asked;
          survives = λ out room.
              subst (λ (x : Write). Survives x out) same
              (survives_cuts (frames (store w)) (length w.before) w.pair.a.expect w.pair.b.expect 1 0 w.payload w.buffer (new w) (Ok (Some (plan, crc)))
              (lit< tt) (lit< tt) bytes (sym made) w.before w.pair w.behind plan w.tear out asked
              (subst (λ (x : Write). Possible x.tear (size x)) (sym same) met.possible)
              (subst (λ (x : Write). AccidentBy x.tear (left x) (old x) (new w) x.payload → ⊥) (sym same) met.none)
              (room ∙ sym (ap (λ (n : ℕ). n * verdict_width) three))).1;
        }

pub page_planned : PagePlanned
page_planned =
    every_map (λ k met. next_is (page_write k) page_plan 0xd61e_00d0 (planned_at 1 plans.0) (summed new_fields (page_record 0 0x304) 0xd61e_00d0 new_refusal new_sums.0)
    refl refl met (unmarked_with first_page) (page_bytes 0 0x304) refl) page_cuts

pub second_planned : SecondPlanned
second_planned =
    next_is (second_write 140) second_plan 0x1916_772d (planned_at 2 plans.1) (summed next_fields (page_record 1 1) 0x1916_772d next_refusal next_sums.0)
    refl refl second_cut (unmarked_with first_page) (page_bytes 1 1) refl
