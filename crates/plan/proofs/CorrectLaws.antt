-- A planned write is a correct write, and so the cut theorem is about it.
use Rattle.std.proofs.Common.{◌≡◌, refl, sym, ap, ap₂, subst, ◌∙◌, List, ◌∷◌, ◌++◌, ℕ, ◌+◌, ◌^◌, ◌≤◌, ◌<◌, arith, length, Option, Some, None, Result, Ok, Err}
use Rattle.std.proofs.lemmas.Option.{some_pair_parts, same_Some}
use Rattle.codec.specs.Bytes.{AllBytes}
use Rattle.slot.specs.Status.{other}
use Rattle.slot.specs.Write.{encode_check, encoded as encode_by, encode}
use Rattle.slot.specs.declared.slot.SlotIndex.{SlotIndex}
use Rattle.slot.specs.declared.slot.SlotInfo.{SlotInfo}
use Rattle.slot.specs.declared.slot.SlotFields.{SlotFields}
use Rattle.slot.specs.declared.slot.EncodeError.{EncodeError}
use Rattle.slot.specs.declared.slot.Expect.{Expect}
use Rattle.slot.proofs.Room.{power_room}
use Rattle.slot.proofs.RoundTripLaws.{accepted}
use Rattle.pair.specs.Pair.{winner_info, next_write}
use Rattle.judge.specs.Numbers.{numbers, highest}
use Rattle.judge.specs.Verdict.{by_index}
use Rattle.judge.specs.Judge.{most_pairs}
use Rattle.judge.specs.Frames.{operator_in, row}
use Rattle.judge.specs.Same.{AllFit, frame_of}
use Rattle.judge.proofs.SameLaws.{operator-read, row-is}
use Rattle.judge.specs.declared.pairs.Pair.{Pair as ShownPair}
use Rattle.cut.specs.Store.{Every, Pair, slot_at, report, framed_pair, framed, shown, frames, SoundPair}
use Rattle.cut.specs.Cut.{Tear, Ascending, Sectors, old, new, left, Written, CorrectWith, AccidentBy}
use Rattle.cut.proofs.FrameLaws.{PairTyped, row_fits, count_frames}
use Rattle.cut.proofs.EveryLaws.{every_split}
use Rattle.cut.proofs.PairLaws.{other_other}
use Rattle.cut.proofs.StateLaws.{sound_won}
use Rattle.cut.proofs.Theorem.{cut_theorem, mark_asked}
use Rattle.plan.specs.declared.error.PlanError.{PlanError}
use Rattle.plan.specs.declared.write.Plan.{Plan}
use Rattle.plan.specs.Pairs.{frame_report}
use Rattle.plan.specs.Plan.{followed, plan_write}
use Rattle.plan.specs.Next.{fields_of, encoded, write_by, next_write as next_by}
use Rattle.plan.specs.Promise.{AnyGiven, AnyPlannedFor, NumberedPair, write_of, IsGiven, PlannedIsCorrect, Answer, SurvivesCuts, BothKindsSurvived}
use Rattle.plan.proofs.PlanLaws.{Has, plan_has, planned_frame, planned_few, next_of_winner}
use Rattle.plan.proofs.ReportLaws.{held_report, winner_held, followed_held}
use Rattle.plan.proofs.FrameLaws.{frame_reports, frame_at, fits_at}

pub all_typed : {ps : List Pair} → Every NumberedPair ps → Every PairTyped ps
all_typed Every.none = Every.none
all_typed (Every.more first rest) = Every.more (record { a = (first SlotIndex.A).typed; b = (first SlotIndex.B).typed }) (all_typed rest)

-- What is written by a plan that follows this generation and checksum, and the number `most`.
pub given_written : (before : List Pair) (p : Pair) (behind : List Pair) (plan : Plan) (owner compat : ℕ) (payload buffer : List ℕ) (tear : Tear)
    (next : Option SlotIndex) (record_before : ℕ × ℕ) (most : ℕ)
    → Has next record_before most plan
    → IsGiven (write_of before p behind plan owner compat payload buffer tear)
    → Written (record_before.0 + 1) record_before.1 (most + 1) (write_of before p behind plan owner compat payload buffer tear)
given_written before p behind plan owner compat payload buffer tear next record_before most has given =
    record {
      format = refl;
      volume = refl;
      object = refl;
      offset = refl;
      index = refl;
      log2 = refl;
      generation_is = has.generation;
      generation_fits = has.generation_fits;
      prev_is = has.prev;
      number_is = has.number;
      number_fits = has.number_fits;
      owner = given.owner;
      compat = given.compat;
      bytes = given.bytes;
      accepted = given.accepted;
      fits = given.fits;
      room = given.room;
    }

-- For the slot beside the winner, after the winner's record, it is of a correct write with the next number.
pub given_correct : (before : List Pair) (p : Pair) (behind : List Pair) (won : SlotIndex × SlotInfo) (plan : Plan) (owner compat : ℕ) (payload buffer : List ℕ)
    (tear : Tear) (next : Option SlotIndex) (most : ℕ)
    → winner_info (report p) ≡ Some won
    → plan.index ≡ other won.0
    → Has next (won.1.generation, won.1.header_crc32c) most plan
    → IsGiven (write_of before p behind plan owner compat payload buffer tear)
    → CorrectWith (most + 1) (write_of before p behind plan owner compat payload buffer tear)
given_correct before p behind won plan owner compat payload buffer tear next most won_is index_is has given =
    let beside : won.0 ≡ other plan.index = sym (other_other won.0) ∙ ap other (sym index_is) in
    record {
      winner = won.1;
      won = won_is ∙ ap (λ (x : SlotIndex). Some (x, won.1)) beside;
      written = given_written before p behind plan owner compat payload buffer tear next (won.1.generation, won.1.header_crc32c) most has given;
    }

pub planned_is_correct : PlannedIsCorrect
planned_is_correct before p behind won plan owner compat payload buffer tear numbered won_is is given =
    let ps : List Pair = before ++ p ∷ behind in
    let all_fit : AllFit (framed ps) = row_fits (all_typed numbered) in
    let f : List ℕ = frame_of (framed_pair p) in
    let has = plan_has (next_write (frame_report f)) (followed (frame_report f)) (highest (numbers (operator_in f) (row (frames ps)))) plan
    (planned_frame (frames ps) f (length before) plan is (frame_at before p behind)) in
    let reports = frame_reports p (fits_at before p behind all_fit) in
    let follows : ◌≡◌ {A = ℕ × ℕ} (followed (frame_report f)) (won.1.generation, won.1.header_crc32c) =
    ap followed reports ∙ followed_held (report p) won.0 won.1 won_is in
    let next : Some plan.index ≡ Some (other won.0) =
    sym has.next_is ∙ ap next_write reports ∙ next_of_winner (held_report (report p)) won.0 _ (winner_held (report p) won.0 won.1 won_is) in
    let tops : highest (numbers (operator_in f) (row (frames ps))) ≡ highest (numbers p.operator (shown ps)) =
    ap₂ (λ (o : ℕ) (row : List ShownPair). highest (numbers o row)) (operator-read (framed_pair p) (fits_at before p behind all_fit)) (row-is (framed ps) all_fit) in
    given_correct before p behind won plan owner compat payload buffer tear (next_write (frame_report f)) (highest (numbers p.operator (shown ps))) won_is
    (same_Some plan.index (other won.0) next)
    (subst (λ (r : ℕ × ℕ). Has (next_write (frame_report f)) r (highest (numbers p.operator (shown ps))) plan) follows
    (subst (λ (most : ℕ). Has (next_write (frame_report f)) (followed (frame_report f)) most plan) tops has))
    given

-- ---- where a plan is answered, its bytes were written

record Answered (given : List ℕ) (i : ℕ) (a b : Expect) (owner compat : ℕ) (payload buffer written : List ℕ) (plan : Plan) : Type 0 where
  pub is : plan_write given i ≡ Ok (Some plan)
  pub bytes : written ≡ (encode (fields_of plan (by_index plan.index a b) owner compat) payload buffer).0
  pub none : encode_check (fields_of plan (by_index plan.index a b) owner compat) payload (length buffer) ≡ Ok tt

abbrev After : Type 0
After = List ℕ × Answer

not_refused : (f : SlotFields) (payload buffer : List ℕ) (crc : ℕ) → (encode f payload buffer).1 ≡ Ok crc
    → encode_check f payload (length buffer) ≡ Ok tt
unfolding encode
not_refused f payload buffer crc is = go (encode_check f payload (length buffer)) is
  where
    go : (r : Result (Unit {0}) EncodeError) → (encode_by f payload buffer r).1 ≡ Ok crc → r ≡ Ok tt
    go (Ok passed) is = refl
    go (Err error) is = absurd cc

same_plan : (q plan : Plan) (c crc : ℕ) → ◌≡◌ {A = Answer} (Ok (Some (q, c))) (Ok (Some (plan, crc))) → q ≡ plan
same_plan q plan c crc is = let inner : Some (q, c) ≡ Some (plan, crc) = cc in (some_pair_parts q plan c crc inner).0

module _ (given : List ℕ) (i : ℕ) (a b : Expect) (owner compat : ℕ) (payload buffer written : List ℕ) (answer : Answer) (plan : Plan) (crc : ℕ)
    (planned_it : answer ≡ Ok (Some (plan, crc))) where
  abbrev f : Plan → SlotFields
  f q = fields_of q (by_index q.index a b) owner compat

  by_encode : (q : Plan) (w : List ℕ × Result ℕ EncodeError) → encode (f q) payload buffer ≡ w → plan_write given i ≡ Ok (Some q)
      → ◌≡◌ {A = After} (written, answer) (encoded q w)
      → Answered given i a b owner compat payload buffer written plan
  by_encode q (bytes, Err error) w_is is both = let same : answer ≡ Err (PlanError.Encode error) = ap (λ (x : After). x.1) both in absurd cc
  by_encode q (bytes, Ok c) w_is is both =
      let second : answer ≡ Ok (Some (q, c)) = ap (λ (x : After). x.1) both in
      let first : written ≡ bytes = ap (λ (x : After). x.0) both in
      let same = same_plan q plan c crc (sym second ∙ planned_it) in
      subst (λ (x : Plan). Answered given i a b owner compat payload buffer written x) same
      (record {
        is = is;
        bytes = first ∙ ap (λ (w : List ℕ × Result ℕ EncodeError). w.0) (sym w_is);
        none = not_refused (f q) payload buffer c (ap (λ (w : List ℕ × Result ℕ EncodeError). w.1) w_is);
      })

  by_plan : (r : Result (Option Plan) PlanError) → plan_write given i ≡ r
      → ◌≡◌ {A = After} (written, answer) (write_by r a b owner compat payload buffer)
      → Answered given i a b owner compat payload buffer written plan
  by_plan (Err error) r_is both = let same : answer ≡ Err error = ap (λ (x : After). x.1) both in absurd cc
  by_plan (Ok None) r_is both = let same : answer ≡ Ok None = ap (λ (x : After). x.1) both in absurd cc
  by_plan (Ok (Some q)) r_is both = by_encode q (encode (f q) payload buffer) refl r_is both

  answered : ◌≡◌ {A = After} (written, answer) (next_by given i a b owner compat payload buffer)
      → Answered given i a b owner compat payload buffer written plan
  unfolding next_by
  answered both = by_plan (plan_write given i) refl both

-- ---- and the store survives its cuts

numbered_pairs : {ps : List Pair} → Every SoundPair ps → Every NumberedPair ps
numbered_pairs Every.none = Every.none
numbered_pairs (Every.more first rest) = Every.more first.slots (numbered_pairs rest)

pub survives_cuts : (given : List ℕ) (i : ℕ) (a b : Expect) (owner compat : ℕ) (payload buffer written : List ℕ) (answer : Answer)
    → owner < 2 ^ 64 → compat < 2 ^ 32 → AllBytes payload
    → ◌≡◌ {A = After} (written, answer) (next_by given i a b owner compat payload buffer)
    → SurvivesCuts given i a b owner compat payload buffer written answer
survives_cuts given i a b owner compat payload buffer written answer owner_fits compat_fits bytes both before p behind plan tear verdicts
    asked possible no_accident verdicts_room =
    let known = answered given i a b owner compat payload buffer written answer plan asked.crc asked.planned both in
    let w = write_of before p behind plan owner compat payload buffer tear in
    let same_expect = expect_is plan.index in
    let none : encode_check w.fields payload (length buffer) ≡ Ok tt =
    ap (λ (e : Expect). encode_check (fields_of plan e owner compat) payload (length buffer)) same_expect ∙ known.none in
    let taken = accepted w.fields payload (length buffer) none in
    let large = power_room (length buffer) w.fields.log2_slot_size taken.size taken.log2-low taken.log2-high in
    let fits : 128 + length payload ≤ 2 ^ (slot_at plan.index p).expect.log2_slot_size = omega (arith, large.0, taken.payload-fits, taken.size) in
    let here : plan_write (frames (before ++ p ∷ behind)) (length before) ≡ Ok (Some plan) =
    ap₂ plan_write (sym asked.frames_are) (sym asked.place) ∙ known.is in
    let few : length (before ++ p ∷ behind) ≤ most_pairs =
    subst (λ (n : ℕ). n ≤ most_pairs) (count_frames (before ++ p ∷ behind)) (planned_few _ _ plan here) in
    let all = asked.sound.pairs in
    let pair_sound : SoundPair p = (every_split before p behind all).1 in
    let correct =
    planned_is_correct before p behind (pair_sound.newer, pair_sound.info) plan owner compat payload buffer tear (numbered_pairs all)
    (sound_won p pair_sound)
    here
    (record { owner = owner_fits; compat = compat_fits; bytes = bytes; accepted = asked.accepted; fits = fits; room = taken.size }) in
    let same : new w ≡ written =
    ap (λ (e : Expect). (encode (fields_of plan e owner compat) payload buffer).0) same_expect ∙ sym known.bytes in (
      same,
      cut_theorem w asked.sound few asked.volume_if_marked correct possible
          (λ accident. no_accident (subst (λ (bytes : List ℕ). AccidentBy tear (left w) (old w) bytes payload) same accident))
          verdicts verdicts_room,
    )
  where
    expect_is : (index : SlotIndex) → (slot_at index p).expect ≡ by_index index a b
    expect_is SlotIndex.A = asked.read_a
    expect_is SlotIndex.B = asked.read_b

pub both_kinds_survived : BothKindsSurvived
both_kinds_survived given i a b owner compat payload buffer written answer before p behind plan verdicts survives asked verdicts_room =
    record {
      ascending = λ k point none. (survives before p behind plan (Ascending k) verdicts asked point none verdicts_room).1;
      sectors = λ reached none. (survives before p behind plan (Sectors reached) verdicts asked tt none verdicts_room).1;
    }

-- ---- what is asked

pub any_given : AnyGiven
any_given w owner compat bytes accepted fits room =
    record { owner = owner; compat = compat; bytes = bytes; accepted = accepted; fits = fits; room = room }

pub any_planned_for : AnyPlannedFor
any_planned_for given i a b payload answer before p behind plan crc sound either frames_are place read_a read_b planned accepted =
    record {
      crc = crc;
      sound = sound;
      volume_if_marked = mark_asked before p behind either;
      frames_are = frames_are;
      place = place;
      read_a = read_a;
      read_b = read_b;
      planned = planned;
      accepted = accepted;
    }
