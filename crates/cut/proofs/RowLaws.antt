-- A row of pairs that rest, and such a row with one other pair: what the judge makes of it, and the numbers of its slots.
use Rattle.std.proofs.Common.{◌≡◌, refl, ap, ap₂, ◌∙◌, Bool, true, false, ◌&&◌, List, [], ◌∷◌, ◌++◌, ℕ, suc, ◌+◌, ◌*◌, ◌≤◌, arith, length, length-append, Option}
use Rattle.slot.specs.Payload.{payload as payload_of}
use Rattle.slot.specs.declared.slot.SlotIndex.{SlotIndex}
use Rattle.slot.specs.declared.slot.SlotInfo.{SlotInfo}
use Rattle.judge.specs.Pairs.{pair_case}
use Rattle.judge.specs.Numbers.{numbers, place, qualifies}
use Rattle.judge.specs.Operators.{operator_in_range, operators_in_range}
use Rattle.judge.specs.Verdict.{winner_beside, pair_verdict, is_in_flight}
use Rattle.judge.specs.Judge.{verdicts_from, first_verdicts, volume_verdict, mark_counts, pair_heal, verdicts, judgement, most_pairs}
use Rattle.judge.specs.Frames.{verdict_width, row_bytes}
use Rattle.judge.specs.declared.pairs.Pair.{Pair as ShownPair}
use Rattle.judge.specs.declared.verdict.SlotVerdict.{SlotVerdict}
use Rattle.judge.specs.declared.verdict.PairVerdict.{PairVerdict}
use Rattle.cut.specs.Store.{Every, Pair, slot_at, shown, last_record, last_records, SoundPair}
use Rattle.cut.specs.Cut.{ReadBack, AllReadBack, Confirmed}
use Rattle.cut.proofs.JudgeLaws.{Settled, Explained, explained_standing, row_confirmed, row_verdicts, row_writable, row_heal_is}
use Rattle.cut.proofs.FrameLaws.{PairTyped, row_judged, row_written, judged_row, judged_bytes}
use Rattle.cut.proofs.PairLaws.{shown_pair, Stands, last_is}
use Rattle.cut.proofs.StateLaws.{Leads, Resting, Rests, rests, sound_leads, sound_rests}

-- ---- a pair that rests

pub record Rested (p : Pair) : Type 0 where
  pub winner : SlotIndex
  pub info : SlotInfo
  pub leads : Leads p winner info
  pub resting : Resting p winner info

-- The record in its winner.
abbrev pub read_of : {p : Pair} → Rested p → List ℕ
read_of {p} rested = payload_of rested.info (slot_at rested.winner p).bytes

abbrev pub quiet_of : {p : Pair} (rested : Rested p) → Rests p rested.winner rested.info rested.leads
quiet_of {p} rested = rests p rested.winner rested.info rested.leads rested.resting

-- Whatever qualifies.
pub rested_stands : {p : Pair} (rested : Rested p) (rule : SlotIndex → Option ℕ → Bool)
    → Stands p rule rested.winner rested.info (quiet_of rested).verdict (read_of rested)
rested_stands rested rule = (quiet_of rested).stands rule

abbrev pub rested_verdicts : {ps : List Pair} → Every Rested ps → List PairVerdict
rested_verdicts Every.none = []
rested_verdicts (Every.more rested rest) = winner_beside rested.winner (quiet_of rested).verdict ∷ rested_verdicts rest

rested_settled : {ps : List Pair} (all : Every Rested ps) → Settled (rested_verdicts all)
rested_settled Every.none = Settled.none
rested_settled (Every.more rested rest) = Settled.more rested.winner (quiet_of rested).quiet (rested_settled rest)

pub length_verdicts : {ps : List Pair} (all : Every Rested ps) → length (rested_verdicts all) ≡ length ps
length_verdicts Every.none = refl
length_verdicts (Every.more rested rest) = ap suc (length_verdicts rest)

pub leads_typed : {p : Pair} {x : SlotIndex} {i : SlotInfo} → Leads p x i → PairTyped p
leads_typed leads = record { a = (leads.slots SlotIndex.A).typed; b = (leads.slots SlotIndex.B).typed }

-- ---- read back

-- What is read back of a pair whose winner stands.
pub stands_back : {p : Pair} {rule : SlotIndex → Option ℕ → Bool} {x : SlotIndex} {i : SlotInfo} {v : SlotVerdict} {r : List ℕ}
    → Stands p rule x i v r
    → ReadBack p (winner_beside x v) r
stands_back {x = x} {i = i} stands =
    record { index = x; info = i; named = refl; won = stands.won; part = stands.part; accepted = stands.accepted }

pub rested_back : {p : Pair} (rested : Rested p) → ReadBack p (winner_beside rested.winner (quiet_of rested).verdict) (read_of rested)
rested_back rested = stands_back (rested_stands rested (λ index number. true))

-- ---- the first pass

-- The rule for the slots of the ith pair, by its operator.
abbrev pub rule_at : ℕ → List ShownPair → ℕ → SlotIndex → Option ℕ → Bool
rule_at o all i index = qualifies (numbers o all) (place i index)

rested_first : (all : List ShownPair) (i : ℕ) {ps : List Pair} (rest : Every Rested ps) → verdicts_from all i (shown ps) ≡ rested_verdicts rest
rested_first all i Every.none = refl
rested_first all i (Every.more {x = p} rested rest) =
    ap₂ (λ (v : PairVerdict) (vs : List PairVerdict). v ∷ vs) (rested_stands rested (rule_at p.operator all i)).verdict (rested_first all (suc i) rest)

module _ (all : List ShownPair) (p : Pair) {behind : List Pair} (rest_behind : Every Rested behind) where
  row_first : (i n : ℕ) {before : List Pair} (rest_before : Every Rested before) → n ≡ i + length before
      → verdicts_from all i (shown (before ++ p ∷ behind))
      ≡ rested_verdicts rest_before ++ pair_verdict (rule_at p.operator all n) (pair_case (shown_pair p)) ∷ rested_verdicts rest_behind
  row_first i n Every.none is =
      let here : n ≡ i = omega arith in
      rw (here, rested_first all (suc i) rest_behind)
  row_first i n (Every.more {x = q} rested rest) is =
      ap₂ (λ (v : PairVerdict) (vs : List PairVerdict). v ∷ vs) (rested_stands rested (rule_at q.operator all i)).verdict
      (row_first (suc i) n rest (omega arith))

-- ---- the operators

-- With another pair of the same operator in a pair's place they are in range as before.
pub range_kept : (volume : Bool) (before : List Pair) (p q : Pair) (behind : List Pair) → q.operator ≡ p.operator
    → operators_in_range volume (shown (before ++ q ∷ behind)) ≡ operators_in_range volume (shown (before ++ p ∷ behind))
range_kept volume [] p q behind same = ap (λ (o : ℕ). operator_in_range volume o && operators_in_range false (shown behind)) same
range_kept volume (r ∷ before) p q behind same =
    ap (λ (rest : Bool). operator_in_range volume r.operator && rest) (range_kept false before p q behind same)

-- ---- judged

all_typed : {ps : List Pair} → Every Rested ps → Every PairTyped ps
all_typed Every.none = Every.none
all_typed (Every.more rested rest) = Every.more (leads_typed rested.leads) (all_typed rest)

row_typed : {before : List Pair} {p : Pair} {behind : List Pair} → Every Rested before → PairTyped p → Every Rested behind
    → Every PairTyped (before ++ p ∷ behind)
row_typed Every.none typed rest = Every.more typed (all_typed rest)
row_typed (Every.more rested before) typed rest = Every.more (leads_typed rested.leads) (row_typed before typed rest)

-- One pair p among those that rest. The clean mark must not count where its write is in flight.
module _ {before behind : List Pair} (rest_before : Every Rested before) (rest_behind : Every Rested behind) (p : Pair)
    {x : SlotIndex} {i : SlotInfo} {v : SlotVerdict} {r : List ℕ} (explained : Explained v)
    (stands : Stands p (rule_at p.operator (shown (before ++ p ∷ behind)) (length before)) x i v r) (clean : Bool)
    (unmarked : is_in_flight v ≡ true
    → mark_counts clean (volume_verdict (rested_verdicts rest_before ++ winner_beside x v ∷ rested_verdicts rest_behind)) ≡ false) where
  abbrev row : List Pair
  row = before ++ p ∷ behind

  abbrev vs : List PairVerdict
  vs = rested_verdicts rest_before ++ winner_beside x v ∷ rested_verdicts rest_behind

  first : first_verdicts (shown row) ≡ vs
  unfolding first_verdicts
  first =
      row_first (shown row) p rest_behind 0 (length before) rest_before (omega arith)
      ∙ ap (λ (w : PairVerdict). rested_verdicts rest_before ++ w ∷ rested_verdicts rest_behind) stands.verdict

  verdicts_are : verdicts (shown row) clean ≡ vs
  verdicts_are = row_verdicts (rested_settled rest_before) (rested_settled rest_behind) x explained clean unmarked (shown row) first

  pub heal_is : (judgement (shown (before ++ p ∷ behind)) clean).heal ≡ pair_heal (length before) (winner_beside x v)
  heal_is =
      row_heal_is (rested_settled rest_before) (rested_settled rest_behind) x explained clean unmarked (shown row) first
      ∙ ap (λ (k : ℕ). pair_heal k (winner_beside x v)) (length_verdicts rest_before)

  some : 1 ≤ length row
  some = let all = length-append before (p ∷ behind) in omega arith

  pub row_stands : PairTyped p → operators_in_range true (shown (before ++ p ∷ behind)) ≡ true → length (before ++ p ∷ behind) ≤ most_pairs → (out : List ℕ) → length out ≡ length (before ++ p ∷ behind) * verdict_width
      → Confirmed (before ++ p ∷ behind) clean out (rested_verdicts rest_before ++ winner_beside x v ∷ rested_verdicts rest_behind)
      (judgement (shown (before ++ p ∷ behind)) clean)
  row_stands typed range few out room =
      let all = row_typed rest_before typed rest_behind in
      record {
        answer = judged_row row some few range clean all out room;
        written = judged_bytes row some few range clean all out room ∙ ap row_bytes verdicts_are;
        row_answer = row_judged row some few range clean;
        row_written = λ rows rows_room. row_written row some few range clean rows rows_room ∙ verdicts_are;
        confirmed =
            row_confirmed (winner_beside x v) (rested_verdicts rest_behind) (rested_settled rest_behind) (explained_standing explained)
            (rested_settled rest_before);
        writable =
            row_writable (rested_settled rest_before) (rested_settled rest_behind) x explained clean unmarked (shown row) first;
      }

-- ---- sound pairs rest

abbrev pub sound_rested : {p : Pair} → SoundPair p → Rested p
sound_rested {p} sound =
    record { winner = sound.newer; info = sound.info; leads = sound_leads p sound; resting = sound_rests p sound }

abbrev pub all_rested : {ps : List Pair} → Every SoundPair ps → Every Rested ps
all_rested Every.none = Every.none
all_rested (Every.more sound rest) = Every.more (sound_rested sound) (all_rested rest)

sound_back : {p : Pair} (sound : SoundPair p)
    → ReadBack p (winner_beside sound.newer (quiet_of (sound_rested sound)).verdict) (last_record p)
sound_back {p} sound = rw (last_is p sound) (rested_back (sound_rested sound))

all_back : {ps : List Pair} (all : Every SoundPair ps) → AllReadBack ps (rested_verdicts (all_rested all)) (last_records ps)
all_back Every.none = AllReadBack.none
all_back (Every.more sound rest) = AllReadBack.more (sound_back sound) (all_back rest)

pub row_back : {before : List Pair} {p : Pair} {behind : List Pair} {v : PairVerdict} {r : List ℕ} (all : Every SoundPair before)
    → ReadBack p v r → (rest : Every SoundPair behind)
    → AllReadBack (before ++ p ∷ behind) (rested_verdicts (all_rested all) ++ v ∷ rested_verdicts (all_rested rest))
    (last_records before ++ r ∷ last_records behind)
row_back Every.none back rest = AllReadBack.more back (all_back rest)
row_back (Every.more sound all) back rest = AllReadBack.more (sound_back sound) (row_back all back rest)
