-- The functions that plan a write give the writes of a history, and answer their numbers.
use Rattle.std.proofs.Common.{◌≡◌, refl, sym, ap, ap₂, subst, ◌∙◌, Bool, true, false, ◌==◌, List, [], ◌∷◌, ◌++◌, ℕ, ◌+◌, ◌*◌, ◌-◌, ◌^◌, ◌≤◌, arith, lt-ltb, length, replicate, length-append, slice_get, Option, Some, None, Ok}
use Rattle.std.proofs.Math.ListN.{length-replicate}
use Rattle.std.proofs.lemmas.Option.{some_pair_parts, same_Some}
use Rattle.slot.specs.Status.{other}
use Rattle.slot.specs.declared.slot.SlotIndex.{SlotIndex}
use Rattle.slot.specs.declared.slot.SlotInfo.{SlotInfo}
use Rattle.pair.specs.Pair.{winner_info, next_write}
use Rattle.judge.specs.Numbers.{numbers, place, highest, highest_other}
use Rattle.judge.specs.Operators.{operators_in_range}
use Rattle.judge.specs.Judge.{most_pairs, judgement, unless}
use Rattle.judge.specs.Frames.{verdict_width, operator_in, pair_count, frames as frames_in, row, frames_error, judge_frames, refusal}
use Rattle.judge.specs.Same.{frame_of, Fits, mark}
use Rattle.judge.specs.declared.pairs.Pair.{Pair as ShownPair}
use Rattle.judge.specs.declared.verdict.JudgeError.{JudgeError}
use Rattle.judge.proofs.RowLaws.{answered}
use Rattle.judge.proofs.SameLaws.{operator-read, row-is}
use Rattle.cut.specs.Store.{Every, Pair, report, framed_pair, framed, shown, frames}
use Rattle.cut.specs.Cut.{Tear, Write, store, next_number as next_number_of, CorrectWith, is_empty}
use Rattle.cut.proofs.EveryLaws.{every_split}
use Rattle.cut.proofs.FrameLaws.{PairTyped, row_fits, count_frames, judged_row}
use Rattle.cut.proofs.PairLaws.{other_other}
use Rattle.cut.proofs.RowLaws.{rested_stands}
use Rattle.plan.specs.Error.{unless_refused}
use Rattle.plan.specs.Numbers.{after, of_operator, highest_winner, next_number, heal_number}
use Rattle.plan.specs.Pairs.{frame_report}
use Rattle.plan.specs.Plan.{followed, plan_at, some_plan, plan_next, plan_for, plan_write}
use Rattle.plan.specs.Heal.{with_pair, heal_in, heal_for, plan_heal}
use Rattle.plan.specs.Promise.{NumberedPair, write_of, IsGiven}
use Rattle.plan.specs.declared.write.Plan.{Plan}
use Rattle.plan.proofs.PlanLaws.{Has, next_of_winner}
use Rattle.plan.proofs.HealLaws.{planned}
use Rattle.plan.proofs.ReportLaws.{held_report, winner_held, followed_held}
use Rattle.plan.proofs.FrameLaws.{frame_reports, frame_at, fits_at}
use Rattle.plan.proofs.CorrectLaws.{all_typed, given_correct, planned_is_correct}
use Rattle.history.specs.History.{Tracked, HarmfulAccident, Reached, pairs, read_mark, named, heal_number as heal_number_of, Turn, Allowed, Put, write_to}
use Rattle.history.specs.Laws.{NumbersAnswered, NumbersReached, NumbersMeet, NumbersOfHistory, plan_of, AllowedIsPlanned, FreePlanIsAllowed, HealPlanIsAllowed}
use Rattle.history.proofs.RowLaws.{rested_highest, others_are}
use Rattle.history.proofs.States.{Rests, rested, all_rested, pairs_row, length_pairs, State, flies_stand, flies_number, flown_named, all_named, none_named, one_named}
use Rattle.history.proofs.Theorem.{reached_state, reached_few, reached_range}

-- ---- nothing is refused

-- The mark as a byte is the mark.
mark_is : (clean : Bool) → (mark clean == 1) ≡ clean
mark_is true = refl
mark_is false = refl

module _ (ps : List Pair) (typed : Every PairTyped ps) where
  abbrev out : List ℕ
  out = replicate (pair_count (frames ps) * verdict_width) 0

  pub not_refused : 1 ≤ length ps → length ps ≤ most_pairs → operators_in_range true (shown ps) ≡ true → (clean : Bool)
      → refusal (frames ps) (mark clean) ≡ None
  unfolding judge_frames
  not_refused some few range clean =
      (answered (refusal (frames ps) (mark clean)) (judgement (row (frames ps)) (mark clean == 1)) (judgement (shown ps) clean)
      (sym (subst (λ (n : ℕ). unless (frames_error (frames ps) (mark clean) n) (judgement (row (frames ps)) (mark clean == 1)) ≡ Ok (judgement (shown ps) clean)) size
      (judged_row ps some few range clean typed out (size ∙ ap (λ (n : ℕ). n * verdict_width) (count_frames ps)))))).0
    where
      size : length out ≡ pair_count (frames ps) * verdict_width
      size = length-replicate (pair_count (frames ps) * verdict_width) 0

  row_shown : row (frames ps) ≡ shown ps
  row_shown = row-is (framed ps) (row_fits typed)

pub numbers_answered : NumbersAnswered
unfolding next_number heal_number
numbers_answered =
    record {
      next = λ ps o some few range numbered.
          ap₂ (λ (e : Option JudgeError) (row : List ShownPair). unless_refused e (of_operator o (after (highest (numbers o row)))))
          (not_refused ps (all_typed numbered) some few range false) (row_shown ps (all_typed numbered));
      heal = λ ps o some few range numbered.
          ap₂ (λ (e : Option JudgeError) (row : List ShownPair). unless_refused e (of_operator o (after (highest_winner o row))))
          (not_refused ps (all_typed numbered) some few range false) (row_shown ps (all_typed numbered));
    }

-- ---- the numbers of a history

there : (before : List Pair) (p : Pair) (behind : List Pair) → slice_get (before ++ p ∷ behind) (length before) ≡ Some p
there [] p behind = refl
there (q ∷ before) p behind = there before p behind

meet : (ts : List Tracked) → State ts → NumbersMeet (pairs ts)
meet ts (State.all_rest some all) =
    record {
      free = λ none o. rested_highest o (all_rested all);
      healing = λ k index p is at.
          let never : ◌≡◌ {A = Option (ℕ × SlotIndex)} None (Some (k, index)) = sym (all_named some all) ∙ is in absurd cc;
    }
meet ts (State.one_flies before t behind split rest_before fly rest_behind unset) =
    subst NumbersMeet (sym (ap pairs split ∙ pairs_row before t behind))
    (record { free = free; healing = healing })
  where
    ps : List Pair
    ps = pairs before ++ t.pair ∷ pairs behind

    flown : named ps ≡ Some (length (pairs before), other fly.x)
    flown = flown_named rest_before fly rest_behind unset

    free : named ps ≡ None → (o : ℕ) → highest (numbers o (shown ps)) ≡ highest_winner o (shown ps)
    free none o = let never : ◌≡◌ {A = Option (ℕ × SlotIndex)} None (Some (length (pairs before), other fly.x)) = sym none ∙ flown in absurd cc

    healing : (k : ℕ) (index : SlotIndex) (p : Pair) → named ps ≡ Some (k, index) → slice_get ps k ≡ Some p
        → highest_other (place k index) (numbers p.operator (shown ps)) ≡ highest_winner p.operator (shown ps)
    healing k index p is at =
        let both : ◌≡◌ {A = Option (ℕ × SlotIndex)} (Some (length (pairs before), other fly.x)) (Some (k, index)) = sym flown ∙ is in
        let parts = some_pair_parts _ _ _ _ both in
        let same : t.pair ≡ p =
        same_Some _ _ (sym (there (pairs before) t.pair (pairs behind)) ∙ ap (slice_get ps) parts.0 ∙ at) in
        subst (λ (q : Pair). highest_other (place k index) (numbers q.operator (shown ps)) ≡ highest_winner q.operator (shown ps)) same
        (subst (λ (at : ℕ × SlotIndex). highest_other (place at.0 at.1) (numbers t.pair.operator (shown ps)) ≡ highest_winner t.pair.operator (shown ps))
        (ap₂ (λ (n : ℕ) (x : SlotIndex). (n, x)) parts.0 parts.1)
        (others_are (all_rested rest_before) (all_rested rest_behind) t.pair fly.x fly.i fly.led.leads (flies_number fly) t.pair.operator refl))

pub numbers_of_history : NumbersOfHistory
numbers_of_history ts reached = meet ts (reached_state reached)

-- ---- the pairs are numbered

rests_numbered : {ts : List Tracked} → Every Rests ts → Every NumberedPair (pairs ts)
rests_numbered Every.none = Every.none
rests_numbered (Every.more rests rest) = Every.more rests.led.leads.slots (rests_numbered rest)

row_numbered : (t : Tracked) {before : List Tracked} {behind : List Tracked} → Every Rests before → NumberedPair t.pair → Every Rests behind
    → Every NumberedPair (pairs (before ++ t ∷ behind))
row_numbered t Every.none here rest = Every.more here (rests_numbered rest)
row_numbered t (Every.more rests before) here rest = Every.more rests.led.leads.slots (row_numbered t before here rest)

state_numbered : {ts : List Tracked} → State ts → Every NumberedPair (pairs ts)
state_numbered (State.all_rest some all) = rests_numbered all
state_numbered (State.one_flies before t behind split rest_before fly rest_behind unset) =
    subst (λ (us : List Tracked). Every NumberedPair (pairs us)) (sym split) (row_numbered t rest_before fly.led.leads.slots rest_behind)

state_some : {ts : List Tracked} → State ts → 1 ≤ length (pairs ts)
state_some {ts} (State.all_rest some all) = let same = length_pairs ts in omega arith
state_some {ts} (State.one_flies before t behind split rest_before fly rest_behind unset) =
    let all = ap length (ap pairs split ∙ pairs_row before t behind) in
    let parts = length-append (pairs before) (t.pair ∷ pairs behind) in
    omega arith

reached_pairs : {ts : List Tracked} → Reached HarmfulAccident ts → length (pairs ts) ≤ most_pairs
reached_pairs {ts} reached = subst (λ (n : ℕ). n ≤ most_pairs) (sym (length_pairs ts)) (reached_few reached)

pub numbers_reached : NumbersReached
numbers_reached =
    record {
      next = λ ts reached o.
          let state = reached_state reached in
          numbers_answered.next (pairs ts) o (state_some state) (reached_pairs reached) (reached_range reached) (state_numbered state);
      heal = λ ts reached o.
          let state = reached_state reached in
          numbers_answered.heal (pairs ts) o (state_some state) (reached_pairs reached) (reached_range reached) (state_numbered state);
    }

-- ---- the frame of a pair of the store

module _ (before : List Tracked) (t : Tracked) (behind : List Tracked) (state : State (before ++ t ∷ behind)) where
  abbrev ps : List Pair
  ps = pairs before ++ t.pair ∷ pairs behind

  abbrev f : List ℕ
  f = frame_of (framed_pair t.pair)

  numbered : Every NumberedPair ps
  numbered = subst (Every NumberedPair) (pairs_row before t behind) (state_numbered state)

  some : 1 ≤ length ps
  some = let all = length-append (pairs before) (t.pair ∷ pairs behind) in omega arith

  none_refused : length (before ++ t ∷ behind) ≤ most_pairs → operators_in_range true (shown (pairs (before ++ t ∷ behind))) ≡ true
      → (clean : Bool) → refusal (frames ps) (mark clean) ≡ None
  none_refused few range clean =
      not_refused ps (all_typed numbered) some
      (subst (λ (n : ℕ). n ≤ most_pairs) (sym (length_pairs (before ++ t ∷ behind)) ∙ ap length (pairs_row before t behind)) few)
      (subst (λ (row : List Pair). operators_in_range true (shown row) ≡ true) (pairs_row before t behind) range) clean

  shows : row (frames ps) ≡ shown ps
  shows = row_shown ps (all_typed numbered)

  at : slice_get (frames_in (frames ps)) (length (pairs before)) ≡ Some f
  at = frame_at (pairs before) t.pair (pairs behind)

  fits : Fits (framed_pair t.pair)
  fits = fits_at (pairs before) t.pair (pairs behind) (row_fits (all_typed numbered))

  reports : frame_report f ≡ held_report (report t.pair)
  reports = frame_reports t.pair fits

  operator_is : operator_in f ≡ t.pair.operator
  operator_is = operator-read (framed_pair t.pair) fits

  module _ (x : SlotIndex) (i : SlotInfo) (won : winner_info (report t.pair) ≡ Some (x, i)) where
    follows : ◌≡◌ {A = ℕ × ℕ} (followed (frame_report f)) (i.generation, i.header_crc32c)
    follows = ap followed reports ∙ followed_held (report t.pair) x i won

    next_is : next_write (frame_report f) ≡ Some (other x)
    next_is = ap next_write reports ∙ next_of_winner (held_report (report t.pair)) x _ (winner_held (report t.pair) x i won)

-- ---- every write of a history is planned

free_number : {w : Write} {n : ℕ} → Turn w n → named (store w) ≡ None → n ≡ highest (numbers w.pair.operator (shown (store w))) + 1
free_number (Turn.free none first) is = refl
free_number {w} (Turn.healing there) is =
    let never : ◌≡◌ {A = Option (ℕ × SlotIndex)} None (Some (length w.before, w.index)) = sym is ∙ there in absurd cc

healing_number : {w : Write} {n : ℕ} → Turn w n → named (store w) ≡ Some (length w.before, w.index)
    → n ≡ highest_winner w.pair.operator (shown (store w)) + 1
healing_number (Turn.healing there) is = refl
healing_number {w} (Turn.free none first) is =
    let never : ◌≡◌ {A = Option (ℕ × SlotIndex)} None (Some (length w.before, w.index)) = sym none ∙ is in absurd cc

module _ (before : List Tracked) (t : Tracked) (behind : List Tracked) (q : Put) (state : State (before ++ t ∷ behind))
    (few : length (before ++ t ∷ behind) ≤ most_pairs) (range : operators_in_range true (shown (pairs (before ++ t ∷ behind))) ≡ true)
    (allowed : Allowed (write_to before t behind q)) where
  abbrev w : Write
  w = write_to before t behind q

  abbrev i : SlotInfo
  i = allowed.correct.winner

  follows_winner : ◌≡◌ {A = ℕ × ℕ} (followed (frame_report (f before t behind state))) (i.generation, i.header_crc32c)
  follows_winner = follows before t behind state (other q.index) i allowed.correct.won

  plan_is : (most : ℕ) → allowed.number ≡ most + 1
      → plan_at q.index (followed (frame_report (f before t behind state))) most ≡ Ok (plan_of w)
  plan_is most is =
      let generation = allowed.correct.written.generation_is in
      let number : q.fields.meta_seq ≡ most + 1 = allowed.correct.written.number_is ∙ is in
      let prev = allowed.correct.written.prev_is in
      ap (λ (r : ℕ × ℕ). plan_at q.index r most) follows_winner
      ∙ simp (
        lt-ltb i.generation (2 ^ 64 - 1) (omega (arith, generation, allowed.correct.written.generation_fits)),
        lt-ltb most (2 ^ 64 - 1) (omega (arith, number, allowed.correct.written.number_fits)),
      )
      (ap₂ (λ (g : ℕ) (r : ℕ × ℕ). Ok (record { index = q.index; generation = g; prev_header_crc32c = r.0; meta_seq = r.1 })) (sym generation)
      (ap₂ (λ (a b : ℕ). (a, b)) (sym prev) (sym number)))

  numbers_meet : NumbersMeet (store w)
  numbers_meet = subst NumbersMeet (pairs_row before t behind) (meet (before ++ t ∷ behind) state)

  abbrev o : ℕ
  o = t.pair.operator

  planned_free : named (store w) ≡ None → plan_write (frames (store w)) (length w.before) ≡ Ok (Some (plan_of w))
  unfolding plan_write
  planned_free none =
      ap₂ (λ (e : Option JudgeError) (at : Option (List ℕ)). unless_refused e (plan_for at (row (frames (store w)))))
      (none_refused before t behind state few range false) (at before t behind state)
      ∙ ap (plan_for (Some (f before t behind state))) (shows before t behind state)
      ∙ ap₂ (λ (next : Option SlotIndex) (own : ℕ). plan_next next (followed (frame_report (f before t behind state))) (highest (numbers own (shown (store w)))))
      (next_is before t behind state (other q.index) i allowed.correct.won ∙ ap Some (other_other q.index)) (operator_is before t behind state)
      ∙ ap some_plan (plan_is (highest (numbers o (shown (store w)))) (free_number allowed.turn none))

  planned_healing : named (store w) ≡ Some (length w.before, w.index)
      → plan_heal (frames (store w)) (mark (read_mark (store w))) ≡ Ok (Some (length w.before, plan_of w))
  unfolding plan_heal
  planned_healing is =
      let m = read_mark (store w) in
      ap (λ (e : Option JudgeError). unless_refused e (heal_for (frames (store w)) (judgement (row (frames (store w))) (mark m == 1)).heal))
      (none_refused before t behind state few range m)
      ∙ ap (heal_for (frames (store w)))
      (ap₂ (λ (row : List ShownPair) (clean : Bool). (judgement row clean).heal) (shows before t behind state) (mark_is m) ∙ is)
      ∙ ap₂ (λ (at : Option (List ℕ)) (row : List ShownPair). heal_in at (length (pairs before)) q.index row)
      (at before t behind state) (shows before t behind state)
      ∙ ap (with_pair (length (pairs before)))
      (ap (λ (own : ℕ). plan_at q.index (followed (frame_report (f before t behind state))) (highest_other (place (length (pairs before)) q.index) (numbers own (shown (store w)))))
      (operator_is before t behind state)
      ∙ plan_is (highest_other (place (length (pairs before)) q.index) (numbers o (shown (store w))))
      (healing_number allowed.turn is
      ∙ ap (λ (n : ℕ). n + 1) (sym (numbers_meet.healing (length (pairs before)) q.index t.pair is (there (pairs before) t.pair (pairs behind))))))

pub allowed_is_planned : AllowedIsPlanned
allowed_is_planned before t behind q reached allowed =
    record {
      free = planned_free before t behind q (reached_state reached) (reached_few reached) (reached_range reached) allowed;
      healing = planned_healing before t behind q (reached_state reached) (reached_few reached) (reached_range reached) allowed;
    }

-- ---- what is planned is a write of a history

module _ (before : List Tracked) (t : Tracked) (behind : List Tracked) (plan : Plan) (owner compat : ℕ) (payload buffer : List ℕ) (tear : Tear)
    (state : State (before ++ t ∷ behind))
    (given : IsGiven (write_of (pairs before) t.pair (pairs behind) plan owner compat payload buffer tear)) where
  abbrev written : Write
  written = write_of (pairs before) t.pair (pairs behind) plan owner compat payload buffer tear

  free_allowed : named (pairs (before ++ t ∷ behind)) ≡ None
      → (read_mark (pairs (before ++ t ∷ behind)) ≡ true → is_empty (pairs before) ≡ true)
      → plan_write (frames (pairs (before ++ t ∷ behind))) (length before) ≡ Ok (Some plan)
      → Allowed (write_of (pairs before) t.pair (pairs behind) plan owner compat payload buffer tear)
  free_allowed none first is =
      let rests = (every_split before t behind (none_named state none)).1 in
      record {
        number = next_number_of (store written) t.pair;
        turn =
            Turn.free (ap named (sym (pairs_row before t behind)) ∙ none)
            (λ set. first (ap read_mark (pairs_row before t behind) ∙ set));
        correct =
            planned_is_correct (pairs before) t.pair (pairs behind) (rests.x, rests.i) plan owner compat payload buffer tear
            (numbered before t behind state)
            (rested_stands (rested rests) (λ index number. true)).won
            (ap₂ (λ (row : List Pair) (k : ℕ). plan_write (frames row) k) (sym (pairs_row before t behind)) (length_pairs before) ∙ is)
            given;
      }

  healing_allowed : plan_heal (frames (pairs (before ++ t ∷ behind))) (mark (read_mark (pairs (before ++ t ∷ behind)))) ≡ Ok (Some (length before, plan))
      → Allowed (write_of (pairs before) t.pair (pairs behind) plan owner compat payload buffer tear)
  healing_allowed is =
      let m = read_mark (store written) in
      let known =
      planned (frames (store written)) (mark m) (length (pairs before)) plan
      (ap (λ (row : List Pair). plan_heal (frames row) (mark (read_mark row))) (sym (pairs_row before t behind))
      ∙ is
      ∙ ap (λ (k : ℕ). Ok (Some (k, plan))) (sym (length_pairs before))) in
      let is_named : named (store written) ≡ Some (length (pairs before), plan.index) =
      ap₂ (λ (row : List ShownPair) (clean : Bool). (judgement row clean).heal) (sym (shows before t behind state)) (sym (mark_is m)) ∙ known.0 in
      let here = one_named before t behind plan.index state is_named in
      let won = (flies_stand here.fly (λ index number. true) refl refl).won in
      let frame_is : known.1.0 ≡ f before t behind state = same_Some _ _ (sym known.1.1.0 ∙ at before t behind state) in
      let most : ℕ = highest_other (place (length (pairs before)) plan.index) (numbers t.pair.operator (shown (store written))) in
      let has : Has (Some plan.index) (here.fly.i.generation, here.fly.i.header_crc32c) most plan =
      subst (λ (r : ℕ × ℕ). Has (Some plan.index) r most plan)
      (ap (λ (g : List ℕ). followed (frame_report g)) frame_is ∙ follows before t behind state here.fly.x here.fly.i won)
      (subst (λ (n : ℕ). Has (Some plan.index) (followed (frame_report known.1.0)) n plan)
      (ap₂ (λ (own : ℕ) (row : List ShownPair). highest_other (place (length (pairs before)) plan.index) (numbers own row))
      (ap operator_in frame_is ∙ operator_is before t behind state) (shows before t behind state)) known.1.1.1) in
      let meets = subst NumbersMeet (pairs_row before t behind) (meet (before ++ t ∷ behind) state) in
      record {
        number = heal_number_of (store written) t.pair;
        turn = Turn.healing is_named;
        correct =
            subst (λ (n : ℕ). CorrectWith (n + 1) written) (meets.healing (length (pairs before)) plan.index t.pair is_named (there (pairs before) t.pair (pairs behind)))
            (given_correct (pairs before) t.pair (pairs behind) (here.fly.x, here.fly.i) plan owner compat payload buffer tear (Some plan.index) most won
            (sym here.beside) has given);
      }

pub free_plan_is_allowed : FreePlanIsAllowed
free_plan_is_allowed before t behind plan owner compat payload buffer tear reached given =
    free_allowed before t behind plan owner compat payload buffer tear (reached_state reached) given

pub heal_plan_is_allowed : HealPlanIsAllowed
heal_plan_is_allowed before t behind plan owner compat payload buffer tear reached given =
    healing_allowed before t behind plan owner compat payload buffer tear (reached_state reached) given
