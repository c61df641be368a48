-- No verdict is by an owner generation: a pair's case is not, and neither is a slot's number. Of the judgement, only whether the winners'
-- differ is.
use Rattle.std.proofs.Common.{◌≡◌, refl, sym, ap, ap₂, ◌∙◌, Bool, true, false, ◌&&◌, List, [], ◌∷◌, ℕ, zero, suc, eqb, length, map, arith, Option, Some, None, Ok}
use Rattle.std.specs.List.{list_all}
use Rattle.slot.specs.declared.slot.SlotIndex.{SlotIndex}
use Rattle.judge.specs.declared.pairs.Shown.{Shown}
use Rattle.judge.specs.declared.pairs.Pair.{Pair}
use Rattle.judge.specs.declared.part.SlotPart.{SlotPart}
use Rattle.judge.specs.declared.verdict.PairVerdict.{PairVerdict}
use Rattle.judge.specs.declared.verdict.Judgement.{Judgement}
use Rattle.judge.specs.declared.verdict.JudgeError.{JudgeError}
use Rattle.judge.specs.Pairs.{numbered, pair_case}
use Rattle.judge.specs.Numbers.{numbers}
use Rattle.judge.specs.Operators.{operators_in_range}
use Rattle.judge.specs.Owners.{owner, owners, any_two_differ}
use Rattle.judge.specs.Judge.{verdicts_from, first_verdicts, any_candidate, page_candidate, first_tally, row_rules, verdicts, judgement, unless}
use Rattle.judge.specs.Part.{part_width, part_at, part_shown, is_in_range}
use Rattle.judge.specs.Frames.{pair_from, parts_in_range, frames, row, frames_error, judge_frames, frames_left}
use Rattle.judge.specs.Alike.{with_owner, without_owners, without_differ, OwnersAside, with_owner_in, with_owner_at, winner_at, LosersUnread, part_without_owner, parts_without_owners, answer_without_differ, FramesAside}

-- ---- a pair

numbered-same : (o : ℕ) (s : Shown) → numbered (with_owner o s) ≡ numbered s
numbered-same o s = grind arith

case-same : (p : Pair) → pair_case (without_owners p) ≡ pair_case p
case-same p = go p.a p.b p.operator
  where
    go : (a b : Shown) (o : ℕ) → pair_case (without_owners (record { a = a; b = b; operator = o })) ≡ pair_case (record { a = a; b = b; operator = o })
    go a b o = grind arith

-- ---- a row

numbers-same : (o : ℕ) (ps : List Pair) → numbers o (map without_owners ps) ≡ numbers o ps
numbers-same o [] = refl
numbers-same o (p ∷ ps) = rw (numbered-same 0 p.a, numbered-same 0 p.b, numbers-same o ps)

verdicts-from : (all : List Pair) (i : ℕ) (ps : List Pair) → verdicts_from (map without_owners all) i (map without_owners ps) ≡ verdicts_from all i ps
verdicts-from all i [] = refl
verdicts-from all i (p ∷ ps) = rw (case-same p, numbers-same p.operator all, verdicts-from all (suc i) ps)

first-same : (ps : List Pair) → first_verdicts (map without_owners ps) ≡ first_verdicts ps
unfolding first_verdicts
first-same ps = verdicts-from ps 0 ps

operators-same : (volume : Bool) (ps : List Pair) → operators_in_range volume (map without_owners ps) ≡ operators_in_range volume ps
operators-same volume [] = refl
operators-same volume (p ∷ ps) = rw (operators-same false ps)

candidate-same : (ps : List Pair) → any_candidate (map without_owners ps) ≡ any_candidate ps
candidate-same [] = refl
candidate-same (p ∷ ps) = rw (case-same p, candidate-same ps)

page-same : (ps : List Pair) → page_candidate (map without_owners ps) ≡ page_candidate ps
page-same [] = refl
page-same (p ∷ ps) = candidate-same ps

rules-same : (ps : List Pair) (clean : Bool) → row_rules (map without_owners ps) clean ≡ row_rules ps clean
unfolding row_rules first_tally
rules-same ps clean = rw (first-same ps)

verdicts-aside : (ps : List Pair) (clean : Bool) → verdicts (map without_owners ps) clean ≡ verdicts ps clean
unfolding verdicts
verdicts-aside ps clean = rw (rules-same ps clean, first-same ps)

judgement-aside : (ps : List Pair) (clean : Bool) → without_differ (judgement (map without_owners ps) clean) ≡ without_differ (judgement ps clean)
unfolding judgement
judgement-aside ps clean = rw (verdicts-aside ps clean, first-same ps, page-same ps, rules-same ps clean)

pub owners_aside : OwnersAside
owners_aside =
    record {
      verdicts = λ ps qs clean same. sym (verdicts-aside ps clean) ∙ ap (λ (rs : List Pair). verdicts rs clean) same ∙ verdicts-aside qs clean;
      judgement = λ ps qs clean same.
          sym (judgement-aside ps clean) ∙ ap (λ (rs : List Pair). without_differ (judgement rs clean)) same ∙ judgement-aside qs clean;
    }

-- ---- a slot that is no winner

twice : (o : ℕ) (s : Shown) → with_owner 0 (with_owner o s) ≡ with_owner 0 s
twice o s = grind arith

pair-aside : (index : SlotIndex) (o : ℕ) (p : Pair) → without_owners (with_owner_in index o p) ≡ without_owners p
pair-aside SlotIndex.A o p = rw (twice o p.a)
pair-aside SlotIndex.B o p = rw (twice o p.b)

row-aside : (k : ℕ) (index : SlotIndex) (o : ℕ) (ps : List Pair) → map without_owners (with_owner_at k index o ps) ≡ map without_owners ps
row-aside k index o [] = refl
row-aside zero index o (p ∷ ps) = rw (pair-aside index o p)
row-aside (suc k) index o (p ∷ ps) = rw (row-aside k index o ps)

owner-kept : (index : SlotIndex) (o : ℕ) (p : Pair) (winner : Option SlotIndex) → (winner ≡ Some index → ⊥)
    → owner (with_owner_in index o p) winner ≡ owner p winner
owner-kept index o p None other = refl
owner-kept SlotIndex.A o p (Some SlotIndex.A) other = absurd (other refl)
owner-kept SlotIndex.A o p (Some SlotIndex.B) other = refl
owner-kept SlotIndex.B o p (Some SlotIndex.A) other = refl
owner-kept SlotIndex.B o p (Some SlotIndex.B) other = absurd (other refl)

owners-of-others : (k : ℕ) (index : SlotIndex) (o : ℕ) (ps : List Pair) (vs : List PairVerdict) → (winner_at vs k ≡ Some index → ⊥)
    → owners (with_owner_at k index o ps) vs ≡ owners ps vs
owners-of-others k index o [] vs other = refl
owners-of-others zero index o (p ∷ ps) [] other = refl
owners-of-others (suc k) index o (p ∷ ps) [] other = refl
owners-of-others zero index o (p ∷ ps) (v ∷ vs) other = rw (owner-kept index o p v.winner other)
owners-of-others (suc k) index o (p ∷ ps) (v ∷ vs) other = rw (owners-of-others k index o ps vs other)

same_judgement : (j k : Judgement) → without_differ j ≡ without_differ k → j.owners_differ ≡ k.owners_differ → j ≡ k
same_judgement j k same differ = ap₂ (λ (i : Judgement) (d : Bool). record i { owners_differ = d }) same differ

pub losers_unread : LosersUnread
losers_unread ps clean k index o other =
    let same = row-aside k index o ps in
    let rows = owners_aside.verdicts (with_owner_at k index o ps) ps clean same in
    same_judgement (judgement (with_owner_at k index o ps) clean) (judgement ps clean)
    (owners_aside.judgement (with_owner_at k index o ps) ps clean same)
    (owners_are (with_owner_at k index o ps) clean ∙ ap any_two_differ (ap (owners (with_owner_at k index o ps)) rows ∙ owners-of-others k index o ps (verdicts ps clean) other) ∙ sym (owners_are ps clean))
  where
    owners_are : (ps : List Pair) (clean : Bool) → (judgement ps clean).owners_differ ≡ any_two_differ (owners ps (verdicts ps clean))
    owners_are ps clean = unfold judgement in refl

-- ---- frames

abbrev Parts : Type 0
Parts = SlotPart × SlotPart × ℕ

shown-aside : (p : SlotPart) → with_owner 0 (part_shown p) ≡ part_shown (part_without_owner p)
shown-aside p = grind arith

range-aside : (p : SlotPart) → is_in_range p ≡ is_in_range (part_without_owner p)
range-aside p = grind arith

abbrev pair_by : Parts → Pair
pair_by parts = record { a = part_shown parts.0; b = part_shown parts.1; operator = parts.2 }

abbrev range_by : Parts → Bool
range_by parts = is_in_range parts.0 && is_in_range parts.1

rows-by : (fs : List (List ℕ)) → map without_owners (map pair_from fs) ≡ map pair_by (map parts_without_owners fs)
rows-by [] = refl
rows-by (f ∷ fs) = rw (shown-aside (part_at f 0), shown-aside (part_at f part_width), rows-by fs)

ranges-by : (fs : List (List ℕ)) → list_all parts_in_range fs ≡ list_all range_by (map parts_without_owners fs)
ranges-by [] = refl
ranges-by (f ∷ fs) = rw (range-aside (part_at f 0), range-aside (part_at f part_width), ranges-by fs)

module _ (s t : List ℕ) (long : length s ≡ length t) (same : map parts_without_owners (frames s) ≡ map parts_without_owners (frames t)) where
  row-same : map without_owners (row s) ≡ map without_owners (row t)
  row-same = rows-by (frames s) ∙ ap (map pair_by) same ∙ sym (rows-by (frames t))

  error-same : (clean room : ℕ) → frames_error s clean room ≡ frames_error t clean room
  unfolding frames_error
  error-same clean room =
      let within = ranges-by (frames s) ∙ ap (list_all range_by) same ∙ sym (ranges-by (frames t)) in
      let operators = sym (operators-same true (row s)) ∙ ap (operators_in_range true) row-same ∙ operators-same true (row t) in
      rw (within, operators, long)

aside-unless : (e : Option JudgeError) (j k : Judgement) → without_differ j ≡ without_differ k
    → answer_without_differ (unless e j) ≡ answer_without_differ (unless e k)
aside-unless None j k same = ap Ok same
aside-unless (Some e) j k same = refl

pub frames_aside : FramesAside
unfolding judge_frames frames_left
frames_aside =
    record {
      answer = λ s t clean room long same.
          rw (error-same s t long same clean room)
          (aside-unless (frames_error t clean room) _ _ (owners_aside.judgement (row s) (row t) (eqb clean 1) (row-same s t long same)));
      verdicts = λ s t clean out long same.
          rw (error-same s t long same clean (length out), owners_aside.verdicts (row s) (row t) (eqb clean 1) (row-same s t long same));
    }
