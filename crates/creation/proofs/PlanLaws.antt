-- The functions that plan a write give the first writes of a store, and what they give to a new pair is one.
use Rattle.std.proofs.Common.{◌≡◌, sym, ap, ap₂, subst, ◌∙◌, false, List, ◌∷◌, ◌++◌, ℕ, ◌+◌, ◌-◌, ◌^◌, ◌≤◌, ◌<◌, arith, lt-ltb, length, length-append, Option, Some, Ok}
use Rattle.std.proofs.lemmas.Option.{same_Some}
use Rattle.slot.specs.declared.slot.SlotIndex.{SlotIndex}
use Rattle.slot.specs.declared.slot.SlotStatus.{SlotStatus}
use Rattle.pair.specs.Pair.{decide, next_write}
use Rattle.pair.specs.Winner.{read_pair}
use Rattle.judge.specs.Numbers.{numbers, highest}
use Rattle.judge.specs.Judge.{most_pairs}
use Rattle.judge.specs.Frames.{operator_in, row}
use Rattle.judge.specs.Same.{frame_of}
use Rattle.judge.specs.declared.pairs.Pair.{Pair as ShownPair}
use Rattle.judge.specs.declared.verdict.JudgeError.{JudgeError}
use Rattle.judge.proofs.SameLaws.{operator-read, row-is}
use Rattle.cut.specs.Store.{Every, Pair, report, framed_pair, framed, shown, frames}
use Rattle.cut.proofs.FrameLaws.{row_fits}
use Rattle.cut.proofs.Theorem.{row_range}
use Rattle.plan.specs.Error.{unless_refused}
use Rattle.plan.specs.Pairs.{frame_report}
use Rattle.plan.specs.Plan.{followed, plan_at, some_plan, plan_next, plan_for, plan_write}
use Rattle.plan.specs.Promise.{NumberedPair}
use Rattle.plan.specs.declared.write.Plan.{Plan}
use Rattle.plan.proofs.PlanLaws.{Has, plan_has, planned_frame}
use Rattle.plan.proofs.ReportLaws.{held_report}
use Rattle.plan.proofs.FrameLaws.{frame_reports, frame_at, fits_at}
use Rattle.plan.proofs.CorrectLaws.{all_typed, given_written}
use Rattle.history.proofs.PlanLaws.{not_refused}
use Rattle.creation.specs.Creation.{NewPair, Creating}
use Rattle.creation.specs.Laws.{FirstIsPlanned, PlanIsFirst}
use Rattle.creation.proofs.RowLaws.{row_of, stage_of, stage_numbered}

module _ (before : List Pair) (p : Pair) (behind : List Pair) (creating : Creating (before ++ p ∷ behind)) (new : NewPair p) where
  abbrev ps : List Pair
  ps = before ++ p ∷ behind

  abbrev f : List ℕ
  f = frame_of (framed_pair p)

  typed : Every NumberedPair ps
  typed = stage_numbered (stage_of creating)

  report_is : report p ≡ decide SlotStatus.Blank SlotStatus.Blank
  unfolding read_pair
  report_is = ap₂ decide (new.blank SlotIndex.A) (new.blank SlotIndex.B)

  reports : frame_report f ≡ held_report (decide SlotStatus.Blank SlotStatus.Blank)
  reports = frame_reports p (fits_at before p behind (row_fits (all_typed typed))) ∙ ap held_report report_is

  next_is : next_write (frame_report f) ≡ Some SlotIndex.A
  unfolding decide
  next_is = ap next_write reports

  follows : ◌≡◌ {A = ℕ × ℕ} (followed (frame_report f)) (0, 0)
  unfolding decide
  follows = ap followed reports

  operator_is : operator_in f ≡ p.operator
  operator_is = operator-read (framed_pair p) (fits_at before p behind (row_fits (all_typed typed)))

  shows : row (frames ps) ≡ shown ps
  shows = row-is (framed ps) (row_fits (all_typed typed))

  some : 1 ≤ length ps
  some = let all = length-append before (p ∷ behind) in omega arith

  abbrev most : ℕ
  most = highest (numbers p.operator (shown ps))

  plan_is : length ps ≤ most_pairs → most + 1 < 2 ^ 64
      → plan_write (frames ps) (length before)
      ≡ Ok (Some (record { index = SlotIndex.A; generation = 1; prev_header_crc32c = 0; meta_seq = most + 1 }))
  unfolding plan_write
  plan_is few fits =
      ap₂ (λ (e : Option JudgeError) (at : Option (List ℕ)). unless_refused e (plan_for at (row (frames ps))))
      (not_refused ps (all_typed typed) some few (row_range (row_of creating)) false) (frame_at before p behind)
      ∙ ap (plan_for (Some f)) shows
      ∙ ap₂ (λ (next : Option SlotIndex) (own : ℕ). plan_next next (followed (frame_report f)) (highest (numbers own (shown ps)))) next_is operator_is
      ∙ ap (λ (r : ℕ × ℕ). some_plan (plan_at SlotIndex.A r most)) follows
      ∙ simp (lt-ltb most (2 ^ 64 - 1) (omega (arith, fits)))

  has_first : (plan : Plan) → plan_write (frames ps) (length before) ≡ Ok (Some plan) → Has (Some SlotIndex.A) (0, 0) most plan
  has_first plan is =
      let has = plan_has (next_write (frame_report f)) (followed (frame_report f)) (highest (numbers (operator_in f) (row (frames ps)))) plan
      (planned_frame (frames ps) f (length before) plan is (frame_at before p behind)) in
      subst (λ (next : Option SlotIndex). Has next (0, 0) most plan) next_is
      (subst (λ (r : ℕ × ℕ). Has (next_write (frame_report f)) r most plan) follows
      (subst (λ (n : ℕ). Has (next_write (frame_report f)) (followed (frame_report f)) n plan)
      (ap₂ (λ (own : ℕ) (shown_row : List ShownPair). highest (numbers own shown_row)) operator_is shows) has))

plan_same : {index index' : SlotIndex} {g g' c c' n n' : ℕ} → index ≡ index' → g ≡ g' → c ≡ c' → n ≡ n'
    → ◌≡◌ {A = Plan}
    (record { index = index; generation = g; prev_header_crc32c = c; meta_seq = n })
    (record { index = index'; generation = g'; prev_header_crc32c = c'; meta_seq = n' })
plan_same a b c d = cc

pub first_is_planned : FirstIsPlanned
first_is_planned w creating first few =
    let is = first.written in
    plan_is w.before w.pair w.behind creating first.new_pair few (omega (arith, is.number_is, is.number_fits))
    ∙ ap (λ (plan : Plan). Ok (Some plan)) (sym (plan_same first.slot_a is.generation_is is.prev_is is.number_is))

pub plan_is_first : PlanIsFirst
plan_is_first before p behind plan owner compat payload buffer tear creating new last is given =
    let has = has_first before p behind creating new plan is in
    record {
      new_pair = new;
      slot_a = sym (same_Some SlotIndex.A plan.index has.next_is);
      written =
          given_written before p behind plan owner compat payload buffer tear (Some SlotIndex.A) (0, 0) (highest (numbers p.operator (shown (before ++ p ∷ behind))))
          has given;
      volume_last = last;
    }
