-- The cut theorem: every pair but the written one is as it was and rests, the written one's winner stands beside a slot that a crash
-- explains, and so the judge's second pass changes nothing.
use Rattle.std.proofs.Common.{◌≡◌, refl, sym, ap, subst, ◌∙◌, ◌⊎◌, inl, inr, Bool, true, false, ◌&&◌, cond, List, [], ◌∷◌, ◌++◌, ℕ, ◌+◌, ◌*◌, ◌≤◌, ◌<◌, arith, length, take, Option, Some, None}
use mathlib.Core.Bool.{and-false}
use Rattle.slot.specs.Status.{other}
use Rattle.slot.specs.Payload.{payload as payload_of}
use Rattle.slot.specs.declared.slot.SlotIndex.{SlotIndex}
use Rattle.slot.specs.declared.slot.SlotInfo.{SlotInfo}
use Rattle.judge.specs.Pairs.{numbered}
use Rattle.judge.specs.Numbers.{number, numbers, highest}
use Rattle.judge.specs.Operators.{operators_in_range}
use Rattle.judge.specs.Verdict.{winner_beside, is_in_flight}
use Rattle.judge.specs.Judge.{volume_verdict, mark_counts, judgement, most_pairs}
use Rattle.judge.specs.Frames.{verdict_width}
use Rattle.judge.specs.declared.verdict.SlotVerdict.{SlotVerdict}
use Rattle.judge.specs.declared.verdict.PairVerdict.{PairVerdict}
use Rattle.cut.specs.Store.{Every, Slot, Pair, slot_at, shown, last_record, store_mark, SoundPair, IsRow}
use Rattle.cut.specs.Cut.{Write, store, size, old, new, left, with_slot, after, next_number, Possible, CorrectWrite, whole, Accident, is_empty, handed, VolumeIfMarked, Survives, CutTheorem}
use Rattle.cut.specs.Laws.{OlderSurvived}
use Rattle.cut.proofs.EveryLaws.{every_split, same_length}
use Rattle.cut.proofs.StatusLaws.{false_true}
use Rattle.cut.proofs.JudgeLaws.{Quiet, quiet_explained, Explained, Healed, healed}
use Rattle.cut.proofs.FrameLaws.{PairTyped}
use Rattle.cut.proofs.PairLaws.{other_other, shown_slot, number_at, Stands}
use Rattle.cut.proofs.NumberLaws.{in_highest, write_qualifies}
use Rattle.cut.proofs.CutLaws.{none_of_either}
use Rattle.cut.proofs.StateLaws.{Leads, Resting, rests, winner_number, resting_number, flies}
use Rattle.cut.proofs.NextLaws.{put_operator, Read, Next, kept_slot}
use Rattle.cut.proofs.WriteLaws.{BesideWinner, sound_beside, sound_resting, last_before, old_is}
use Rattle.cut.proofs.LeftLaws.{left_resting}
use Rattle.cut.proofs.RowLaws.{range_kept, Rested, rested_verdicts, leads_typed, stands_back, rule_at, heal_is, row_stands, all_rested, row_back}

-- ---- the mark that is handed over counts for nothing where a write is in flight

flight_unmarked : (mark : Bool) (index : SlotIndex) {v : SlotVerdict} → Explained v → is_in_flight v ≡ true
    → mark_counts mark (winner_beside index v) ≡ false
flight_unmarked mark SlotIndex.A Explained.torn flight = and-false (mark && true)
flight_unmarked mark SlotIndex.B Explained.torn flight = and-false (mark && true)
flight_unmarked mark index Explained.nothing flight = false_true refl flight
flight_unmarked mark index Explained.older flight = false_true refl flight

row_unmarked : {before : List Pair} (rest : Every Rested before) (mark old : Bool) (index : SlotIndex) {v : SlotVerdict} (vs : List PairVerdict)
    → Explained v → is_in_flight v ≡ true → (old ≡ true → is_empty before ≡ true)
    → mark_counts (cond (is_empty before) mark old) (volume_verdict (rested_verdicts rest ++ winner_beside index v ∷ vs)) ≡ false
row_unmarked Every.none mark old index vs explained flight first = flight_unmarked mark index explained flight
row_unmarked (Every.more rested rest) mark true index vs explained flight first = false_true refl (first refl)
row_unmarked (Every.more rested rest) mark false index vs explained flight first = refl

-- ---- the pairs of the store

pub row_range : {ps : List Pair} → IsRow ps → operators_in_range true (shown ps) ≡ true
row_range (IsRow.row volume pages range) = range

-- ---- the written pair

-- Its winner, the verdict on the slot beside it, and the record r.
record PairAfter (p : Pair) (rule : SlotIndex → Option ℕ → Bool) (index : SlotIndex) (r : List ℕ) : Type 0 where
  pub winner : SlotIndex
  pub info : SlotInfo
  pub verdict : SlotVerdict
  pub typed : PairTyped p
  pub explained : Explained verdict
  pub stands : Stands p rule winner info verdict r
  pub flight : verdict ≡ SlotVerdict.InFlight → other winner ≡ index

quiet_flight : {v : SlotVerdict} {A : Type 0} → Quiet v → v ≡ SlotVerdict.InFlight → A
quiet_flight Quiet.intact is = absurd cc
quiet_flight Quiet.damaged is = absurd cc

-- Where nothing was begun before, the record is the new one if it stands whole, else the one before.
module _ (p : Pair) (index : SlotIndex) (i : SlotInfo) (n : ℕ) (whole : Bool) (r before : List ℕ)
    (before_is : payload_of i (slot_at (other index) p).bytes ≡ before) (rule : SlotIndex → Option ℕ → Bool)
    (unread : (at : SlotIndex) → rule at None ≡ true) (qualified : rule index (Some n) ≡ true) where
  kept : {v : SlotVerdict} → whole ≡ false → Leads p (other index) i → Explained v
      → Stands p rule (other index) i v (payload_of i (slot_at (other index) p).bytes) → PairAfter p rule index (cond whole r before)
  kept {v} torn leads explained stands =
      record {
        winner = other index;
        info = i;
        verdict = v;
        typed = leads_typed leads;
        explained = explained;
        stands =
            subst (λ (q : List ℕ). Stands p rule (other index) i v q) (before_is ∙ sym (ap (λ (b : Bool). cond b r before) torn)) stands;
        flight = λ is. other_other index;
      }

  written : (j : SlotInfo) → Leads p index j → Resting p index j → payload_of j (slot_at index p).bytes ≡ r → whole ≡ true
      → PairAfter p rule index (cond whole r before)
  written j leads resting record_is stands =
      let known = rests p index j leads resting in
      record {
        winner = index;
        info = j;
        verdict = known.verdict;
        typed = leads_typed leads;
        explained = quiet_explained known.quiet;
        stands =
            subst (λ (q : List ℕ). Stands p rule index j known.verdict q) (record_is ∙ sym (ap (λ (b : Bool). cond b r before) stands))
            (known.stands rule);
        flight = λ is. quiet_flight known.quiet is;
      }

  pair_after : {m : List ℕ} → Next p index i r m [] n whole → PairAfter p rule index (cond whole r before)
  pair_after (Next.rested torn leads resting) =
      let known = rests p (other index) i leads resting in
      kept torn leads (quiet_explained known.quiet) (known.stands rule)
  pair_after (Next.flown torn leads flying) =
      kept torn leads Explained.torn
      (flies p (other index) i leads flying rule (unread (other (other index)))
      (ap (λ (at : SlotIndex). rule at (Some n)) (other_other index) ∙ qualified))
  pair_after (Next.won j leads resting number_is read) = by_read refl read
    where
      by_read : {q : List ℕ} → payload_of j (slot_at index p).bytes ≡ q → Read whole r [] q → PairAfter p rule index (cond whole r before)
      by_read record_is (Read.fresh stands) = written j leads resting record_is stands
      by_read record_is (Read.earlier torn among) = let none = among.1.0 in absurd (omega arith)

-- ---- the store after the cut

module _ (w : Write) (sound_before : Every SoundPair w.before) (sound : SoundPair w.pair) (sound_behind : Every SoundPair w.behind)
    (correct : CorrectWrite w) (possible : Possible w.tear (size w)) (none : Accident (left w) (old w) (new w) w.payload → ⊥)
    (few : length (store w) ≤ most_pairs) (range : operators_in_range true (shown (store w)) ≡ true) (first : VolumeIfMarked w.before w.pair w.behind) (out : List ℕ) (room : length out ≡ length (store w) * verdict_width) where
  abbrev p : Pair
  p = with_slot w.index (left w) w.pair

  abbrev rule : SlotIndex → Option ℕ → Bool
  rule = rule_at p.operator (shown (after w)) (length w.before)

  abbrev i : SlotInfo
  i = correct.winner

  abbrev made : BesideWinner (next_number (store w) w.pair) w
  made = sound_beside w sound correct

  resting : Resting w.pair (other w.index) i
  resting = sound_resting w sound correct

  not_higher : number_at w.index w.pair ≤ number_at (other w.index) w.pair
  not_higher =
      subst (λ (index : SlotIndex). number_at index w.pair ≤ number_at (other w.index) w.pair) (other_other w.index)
      (resting_number w.pair (other w.index) i made.leads resting)

  same_operator : w.pair.operator ≡ p.operator
  same_operator = sym (put_operator w.pair (left w) w.index)

  qualified : rule w.index (Some (next_number (store w) w.pair)) ≡ true
  qualified =
      let kept : number_at (other w.index) p ≡ number_at (other w.index) w.pair =
      ap (λ (s : Slot). number (numbered (shown_slot s))) (kept_slot w.pair (left w) w.index) in
      write_qualifies p.operator w.before w.pair p w.behind w.index same_operator refl kept not_higher (next_number (store w) w.pair)
      (ap (λ (o : ℕ). highest (numbers o (shown (store w))) + 1) same_operator)

  below : i.meta_seq < next_number (store w) w.pair
  below =
      let among = in_highest w.pair.operator w.before w.pair w.behind refl (other w.index) in
      let own = winner_number w.pair (other w.index) i made.leads in
      omega arith

  next : Next p w.index i w.payload w.payload [] (next_number (store w) w.pair) (whole w)
  next =
      left_resting w made below possible [] w.payload (λ same. refl) (λ same other sum. none (Accident.payload same other sum))
      (λ not_new not_old passes. absurd (none (Accident.header passes (λ same. not_old (same ∙ ap (take 128) (sym (old_is w made)))) not_new)))
      resting

  answer : PairAfter p rule w.index (cond (whole w) w.payload (last_record w.pair))
  answer =
      pair_after p w.index i (next_number (store w) w.pair) (whole w) w.payload (last_record w.pair)
      (ap (λ (s : Slot). payload_of i s.bytes) (kept_slot w.pair (left w) w.index) ∙ sym (last_before w sound correct))
      rule (λ at. refl) qualified next

  abbrev rest_before : Every Rested w.before
  rest_before = all_rested sound_before

  abbrev rest_behind : Every Rested w.behind
  rest_behind = all_rested sound_behind

  unmarked : is_in_flight answer.verdict ≡ true
      → mark_counts (handed w) (volume_verdict (rested_verdicts rest_before ++ winner_beside answer.winner answer.verdict ∷ rested_verdicts rest_behind)) ≡ false
  unfolding handed
  unmarked flight = row_unmarked rest_before _ (store_mark (store w)) answer.winner (rested_verdicts rest_behind) answer.explained flight first

  healed_is : (h : Option (ℕ × SlotIndex)) → Healed (length w.before) answer.winner answer.verdict h
      → (h ≡ None) ⊎ (h ≡ Some ((length w.before), w.index))
  healed_is _ Healed.none = inl refl
  healed_is _ (Healed.slot flight) = inr (ap (λ (index : SlotIndex). Some (length w.before, index)) (answer.flight flight))

  as_many : length (store w) ≡ length (after w)
  as_many = same_length w.before w.pair p w.behind

  survives : Survives w out
  survives =
      record {
        verdict = rested_verdicts rest_before ++ winner_beside answer.winner answer.verdict ∷ rested_verdicts rest_behind;
        judgement = judgement (shown (after w)) (handed w);
        judged = row_stands rest_before rest_behind p answer.explained answer.stands (handed w) unmarked answer.typed
            (range_kept true w.before w.pair p w.behind (sym same_operator) ∙ range)
            (subst (λ (n : ℕ). n ≤ most_pairs) as_many few) out (room ∙ ap (λ (n : ℕ). n * verdict_width) as_many);
        heal =
            healed_is (judgement (shown (after w)) (handed w)).heal
            (rw (heal_is rest_before rest_behind p answer.explained answer.stands (handed w) unmarked)
            (healed (length w.before) answer.winner answer.explained));
        back = row_back sound_before (stands_back answer.stands) sound_behind;
      }

-- Where the written slot is in flight the mark does not count: it is not set, or the slot is pair 0's.
pub older_survived : OlderSurvived
older_survived w sound few first correct possible none out room =
    let all = every_split w.before w.pair w.behind (sound.pairs) in
    survives w all.0 all.1 all.2 correct possible none few (row_range sound.row) first out room

-- Nor does what sectors add to the accidents.
pub cut_theorem : CutTheorem
cut_theorem w sound few first correct possible none out room =
    older_survived w sound (omega (arith, few)) first correct possible (none_of_either w.tear none) out room

-- ---- over what is asked, written out

pub mark_asked : (before : List Pair) (p : Pair) (behind : List Pair) → (store_mark (before ++ p ∷ behind) ≡ false) ⊎ (before ≡ [])
    → VolumeIfMarked before p behind
mark_asked before p behind (inl unset) = λ set. false_true unset set
mark_asked before p behind (inr first) = λ set. ap is_empty first
