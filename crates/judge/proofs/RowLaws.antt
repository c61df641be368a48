-- What the passes leave of a row is its judgement, whatever the verdicts are kept in.
use Rattle.std.proofs.Common.{◌≡◌, refl, ap, ◌∙◌, Bool, true, List, [], ◌∷◌, ◌++◌, ℕ, zero, suc, ◌+◌, ◌<◌, length, map, set, take, drop, arith, add-one, false, eqb, leb, slice_get, Option, Some, None, Result, Ok, OnOk, OnErr, subst}
use Rattle.std.specs.Option.{option_or}
use Rattle.std.specs.List.{list_all}
use Rattle.std.proofs.lemmas.List.{drop-set-lt, take_more_set}
use Rattle.slot.specs.declared.slot.SlotIndex.{SlotIndex}
use Rattle.judge.specs.declared.pairs.Pair.{Pair}
use Rattle.judge.specs.declared.numbers.OperatorMaxima.{OperatorMaxima}
use Rattle.judge.specs.declared.verdict.PairVerdict.{PairVerdict}
use Rattle.judge.specs.declared.verdict.Tally.{Tally}
use Rattle.judge.specs.declared.verdict.StoreRules.{StoreRules}
use Rattle.judge.specs.declared.verdict.Judgement.{Judgement}
use Rattle.judge.specs.declared.verdict.JudgeError.{JudgeError}
use Rattle.judge.specs.Operators.{operators_in_range}
use Rattle.judge.specs.Maxima.{no_operator_maxima, note_two, note_pairs}
use Rattle.judge.specs.Verdict.{in_flight}
use Rattle.judge.specs.Judge.{demoted, pair_heal, first_verdicts, first_tally, volume_verdict, store_rules, last_verdicts, writable, row_rules, verdicts, judgement, unless, left}
use Rattle.judge.specs.Owners.{owners, any_two_differ}
use Rattle.judge.specs.Passes.{verdicts_by, no_tally, tallies, heals}
use Rattle.judge.specs.Same.{mark}
use Rattle.judge.proofs.PassLaws.{verdicts-same, tally-same, heals-same}

-- There is an answer where there is no error.
pub answered : {A : Type 0} (e : Option JudgeError) (x m : A) → Ok m ≡ unless e x → (e ≡ None) × (m ≡ x)
answered None x m is = (refl, cc)
answered (Some e) x m is = (cc, cc)

pub answer : {A : Type 0} (e : Option JudgeError) (x y : A) → ◌≡◌ {A = Result (Unit {0}) JudgeError} (Ok tt) (unless e tt) → x ≡ y → Ok x ≡ unless e y
answer None x y none same = ap Ok same
answer (Some e) x y none same = cc

head-is : (vs : List PairVerdict) (v : PairVerdict) → slice_get vs 0 ≡ Some v → v ≡ volume_verdict vs
head-is [] v is = cc
head-is (x ∷ vs) v is = cc

-- One verdict less is left,
pub left-step : {C : Type 0} (read : C → PairVerdict) (cs : List C) (i : ℕ) (v : PairVerdict) → slice_get (map read cs) i ≡ Some v
    → map read (drop i cs) ≡ v ∷ map read (drop (suc i) cs)
left-step read [] i v is = cc
left-step read (c ∷ cs) zero v is = cc
left-step read (c ∷ cs) (suc i) v is = left-step read cs i v is

-- and one more is settled.
module _ {C : Type 0} (cell : PairVerdict → C) (read : C → PairVerdict) where
  pub settled : (cs new : List C) (i : ℕ) (v w : PairVerdict) → i < length cs → slice_get (map read cs) i ≡ Some v → new ≡ set cs i (cell w)
      → (map read (drop i cs) ≡ v ∷ map read (drop (i + 1) new)) × (take (i + 1) new ≡ take i cs ++ cell w ∷ [])
  settled cs new i v w within is new-is = (
    left-step read cs i v is ∙ rw (new-is, drop-set-lt (i + 1) cs i (cell w) (omega arith), add-one),
    rw (new-is, take_more_set cs i (cell w) within),
  )

module _ {C : Type 0} (cell : PairVerdict → C) (read : C → PairVerdict) (back : (v : PairVerdict) → read (cell v) ≡ v) where
  read-all : (vs : List PairVerdict) → map read (map cell vs) ≡ vs
  read-all [] = refl
  read-all (v ∷ vs) = rw (back v, read-all vs)

-- Nothing is in flight: the verdict stays.
pub idle : (demote : Bool) (v : PairVerdict) → in_flight v ≡ false → demoted demote v ≡ v
idle true v none = rw none
idle false v none = refl

pub idle-heal : (i : ℕ) (before : Option (ℕ × SlotIndex)) (v : PairVerdict) → in_flight v ≡ false → option_or (pair_heal i v) before ≡ before
idle-heal i before v none = grind (arith, none)

-- Cells that each hold a verdict.
module _ {C : Type 0} (cell : PairVerdict → C) (read : C → PairVerdict) where
  abbrev pub AllHold : List C → Type 0
  AllHold cs = map cell (map read cs) ≡ cs

  keeps : (cs : List C) (i : ℕ) (v : PairVerdict) → AllHold cs → slice_get (map read cs) i ≡ Some v → take (suc i) cs ≡ take i cs ++ cell v ∷ []
  keeps [] i v hold is = cc
  keeps (c ∷ cs) zero v hold is = cc
  keeps (c ∷ cs) (suc i) v hold is = let rest : AllHold cs = cc in ap (λ (more : List C). c ∷ more) (keeps cs i v rest is)

  -- One verdict more stays, and one less is left.
  pub stayed : (cs : List C) (i : ℕ) (v : PairVerdict) → AllHold cs → slice_get (map read cs) i ≡ Some v
      → (map read (drop i cs) ≡ v ∷ map read (drop (i + 1) cs)) × (take (i + 1) cs ≡ take i cs ++ cell v ∷ [])
  stayed cs i v hold is = (left-step read cs i v is ∙ rw add-one, rw add-one (keeps cs i v hold is))

  pub put-holds : ((v : PairVerdict) → read (cell v) ≡ v) → (cs : List C) (i : ℕ) (w : PairVerdict) → AllHold cs → AllHold (set cs i (cell w))
  put-holds back [] i w hold = refl
  put-holds back (c ∷ cs) zero w hold = let rest : AllHold cs = cc in rw (back w, rest)
  put-holds back (c ∷ cs) (suc i) w hold =
      let first : cell (read c) ≡ c = cc in
      let rest : AllHold cs = cc in
      rw (first, put-holds back cs i w rest)

  pub written-hold : ((v : PairVerdict) → read (cell v) ≡ v) → (cs : List C) (vs : List PairVerdict) → cs ≡ map cell vs → AllHold cs
  written-hold back cs vs is = rw (is, read-all cell read back vs)

-- The passes by the two highest numbers of each operator are the definition's.
module _ (ps : List Pair) (clean : Bool) {m : OperatorMaxima} {t : Tally} {volume : PairVerdict} {rules : StoreRules}
    (range : operators_in_range true ps ≡ true)
    (m-is : m ≡ note_pairs note_two no_operator_maxima ps)
    (t-is : t ≡ tallies m true no_tally ps)
    (volume-is : volume ≡ volume_verdict (verdicts_by m ps))
    (rules-is : rules ≡ store_rules clean t volume) where
  by_definition : verdicts_by m ps ≡ first_verdicts ps
  by_definition = ap (λ (c : OperatorMaxima). verdicts_by c ps) m-is ∙ verdicts-same ps range

  tally : t ≡ first_tally ps (first_verdicts ps)
  tally = t-is ∙ tally-same m ps ∙ ap (first_tally ps) by_definition

  volume-first : volume ≡ volume_verdict (first_verdicts ps)
  volume-first = volume-is ∙ ap volume_verdict by_definition

  row-rules : rules ≡ row_rules ps clean
  unfolding row_rules
  row-rules = rules-is ∙ rw (tally, volume-first)

  last-verdicts : last_verdicts rules.volume_demote rules.page_demote (verdicts_by m ps) ≡ verdicts ps clean
  unfolding verdicts
  last-verdicts = rw (by_definition, row-rules)

module _ {C : Type 0} (cell : PairVerdict → C) (read : C → PairVerdict) (back : (v : PairVerdict) → read (cell v) ≡ v) where
  module _ (ps : List Pair) (clean : Bool) {m : OperatorMaxima} {t : Tally} {firsts lasts : List C} {volume : PairVerdict} {rules : StoreRules}
      (range : operators_in_range true ps ≡ true)
      (m-is : m ≡ note_pairs note_two no_operator_maxima ps)
      (t-is : t ≡ tallies m true no_tally ps)
      (firsts-are : firsts ≡ map cell (verdicts_by m ps))
      (volume-at : slice_get (map read firsts) 0 ≡ Some volume)
      (rules-is : rules ≡ store_rules clean t volume)
      (lasts-are : lasts ≡ map cell (last_verdicts rules.volume_demote rules.page_demote (map read firsts))) where
    first : map read firsts ≡ verdicts_by m ps
    first = ap (map read) firsts-are ∙ read-all cell read back (verdicts_by m ps)

    volume-is : volume ≡ volume_verdict (verdicts_by m ps)
    volume-is = head-is (map read firsts) volume volume-at ∙ ap volume_verdict first

    pub cells-judged : lasts ≡ map cell (verdicts ps clean)
    cells-judged = lasts-are ∙ rw (first, last-verdicts ps clean range m-is t-is volume-is rules-is)

    pub row-judged : {h : Option (ℕ × SlotIndex)} {w differ : Bool} {last : PairVerdict}
        → h ≡ heals 0 None (last_verdicts rules.volume_demote rules.page_demote (map read firsts))
        → slice_get (map read lasts) 0 ≡ Some last
        → w ≡ writable t.refused t.page_had_candidate volume.standing last.standing
        → differ ≡ any_two_differ (owners ps (map read lasts))
        → ◌≡◌ {A = Judgement} (record { heal = h; writable = w; clean = rules.clean; refused = t.refused; owners_differ = differ })
        (judgement ps clean)
    unfolding judgement first_tally
    row-judged {last = last} h-is last-is w-is differ-is =
        let judged : map read lasts ≡ verdicts ps clean = ap (map read) cells-judged ∙ read-all cell read back (verdicts ps clean) in
        let last-one = head-is (map read lasts) last last-is ∙ ap volume_verdict judged in
        rw (
          w-is,
          differ-is,
          judged,
          h-is,
          heals-same,
          first,
          last-verdicts ps clean range m-is t-is volume-is rules-is,
          last-one,
          volume-first ps clean range m-is t-is volume-is rules-is,
          row-rules ps clean range m-is t-is volume-is rules-is,
          tally ps clean range m-is t-is volume-is rules-is,
        )

-- What is left of what was lent: what was done, or what was there where there is an error.
pub left-after : {T D K : Type 0} (new done old : T) (e : Option JudgeError) (j : Judgement) (r : Result Judgement JudgeError)
    → r ≡ unless e j → OnOk r D → (e ≡ None → D → new ≡ done) → OnErr r K → (K → new ≡ old) → new ≡ left e done old
left-after {D = D} new done old None j r is ok whole err same = let d : D = subst (λ q. OnOk q D) is ok in whole refl d
left-after {K = K} new done old (Some e) j r is ok whole err same = let k : K = subst (λ q. OnErr q K) is err in same k

-- ---- pairs that are all in range, and verdicts that are kept as they are

pub all-true : {A : Type 0} (xs : List A) → list_all (λ (x : A). true) xs ≡ true
all-true [] = refl
all-true (x ∷ xs) = all-true xs

-- A flag is in range and read back.
pub flag-back : (set : Bool) → (leb (mark set) 1 ≡ true) × (eqb (mark set) 1 ≡ set)
flag-back true = (refl, refl)
flag-back false = (refl, refl)
