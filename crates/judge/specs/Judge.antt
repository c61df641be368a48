-- The verdict on the whole store (docs/FORMAT.md, "The store verdict"; judge.rs): two passes over the row of its pairs. Pair 0 is the
-- volume record, the others are table pages.
use Rattle.std.specs.Prelude.{◌≡◌, Bool, true, false, not, ◌&&◌, ◌||◌, List, [], ◌∷◌, ℕ, zero, suc, ◌+◌, ◌-◌, ◌==◌, nat_lt, map, if◌then◌else◌, Option, Some, None, Result, Ok, Err}
use Rattle.std.specs.Int.{from_bool}
use Rattle.std.specs.List.{list_all}
use Rattle.std.specs.Option.{option_or}
use Rattle.slot.specs.declared.slot.SlotIndex.{SlotIndex}
use Rattle.judge.specs.declared.pairs.Pair.{Pair}
use Rattle.judge.specs.Pairs.{pair_case, has_candidate}
use Rattle.judge.specs.Numbers.{numbers, place, qualifies}
use Rattle.judge.specs.declared.verdict.SlotVerdict.{SlotVerdict}
use Rattle.judge.specs.declared.verdict.Standing.{Standing}
use Rattle.judge.specs.declared.verdict.PairVerdict.{PairVerdict}
use Rattle.judge.specs.declared.verdict.Tally.{Tally}
use Rattle.judge.specs.declared.verdict.StoreRules.{StoreRules}
use Rattle.judge.specs.declared.verdict.Judgement.{Judgement}
use Rattle.judge.specs.declared.verdict.JudgeError.{JudgeError}
use Rattle.judge.specs.Operators.{operators_in_range}
use Rattle.judge.specs.Owners.{owners, any_two_differ}
use Rattle.judge.specs.Verdict.{by_index, no_winner, pair_verdict, is_in_flight, in_flight, is_confirmed, is_refused, is_unconfirmed, is_without_winner}

-- ---- the first pass

-- The pairs from the ith on, among all pairs of the store.
abbrev pub verdicts_from : List Pair → ℕ → List Pair → List PairVerdict
verdicts_from all i [] = []
verdicts_from all i (p ∷ ps) =
    pair_verdict (λ index. qualifies (numbers p.operator all) (place i index)) (pair_case p) ∷ verdicts_from all (suc i) ps

unfoldable pub first_verdicts : List Pair → List PairVerdict
first_verdicts ps = verdicts_from ps 0 ps

-- The volume record's verdict.
abbrev pub volume_verdict : List PairVerdict → PairVerdict
volume_verdict [] = no_winner Standing.Lost
volume_verdict (v ∷ vs) = v

-- How many candidates qualify: these are the slots in flight, at most one in a pair.
abbrev pub candidates : List PairVerdict → ℕ
candidates [] = 0
candidates (v ∷ vs) = if in_flight v then candidates vs + 1 else candidates vs

abbrev pub any_candidate : List Pair → Bool
any_candidate [] = false
any_candidate (p ∷ ps) = has_candidate (pair_case p) || any_candidate ps

-- Some page had a candidate, qualifying or not.
abbrev pub page_candidate : List Pair → Bool
page_candidate [] = false
page_candidate (p ∷ ps) = any_candidate ps

-- Some pair is not Confirmed.
abbrev pub any_trouble : List PairVerdict → Bool
any_trouble [] = false
any_trouble (v ∷ vs) = not (is_confirmed v.standing) || any_trouble vs

abbrev pub any_refused : List PairVerdict → Bool
any_refused [] = false
any_refused (v ∷ vs) = is_refused v.standing || any_refused vs

unfoldable pub first_tally : List Pair → List PairVerdict → Tally
first_tally ps vs =
    record { candidates = candidates vs; page_had_candidate = page_candidate ps; troubled = any_trouble vs; refused = any_refused vs }

-- ---- the second pass

-- The clean mark counts if the volume record is Confirmed with no candidate of its own.
-- Under it the last writer closed the store, so no write was in flight. A volume record that is itself being written may carry an old
-- mark.
abbrev pub mark_counts : Bool → PairVerdict → Bool
mark_counts clean volume = clean && is_confirmed volume.standing && not (in_flight volume)

-- Which writes in flight are demoted to damage, from the first pass.
-- A power cut tears one write: of two candidates at least one is damage. Damage elsewhere may hide the true highest number, and then
-- to heal a page could undo a record that was durable. The volume record is healed in a troubled store as well: what its writes change is
-- the clean mark and the owner generation, and each opening for writing writes it again, so nothing is undone.
abbrev pub store_rules : Bool → Tally → PairVerdict → StoreRules
store_rules clean t volume =
    record {
      clean = mark_counts clean volume;
      volume_demote = not (t.candidates == 1) || t.refused;
      page_demote = mark_counts clean volume || not (t.candidates == 1) || t.troubled;
    }

abbrev pub demotes : StoreRules → Bool → Bool
demotes rules volume = if volume then rules.volume_demote else rules.page_demote

abbrev pub demoted_slot : SlotVerdict → SlotVerdict
demoted_slot SlotVerdict.InFlight = SlotVerdict.Damage
demoted_slot v = v

abbrev pub demoted : Bool → PairVerdict → PairVerdict
demoted demote v =
    if demote && in_flight v then record { standing = Standing.Unconfirmed; winner = v.winner; a = demoted_slot v.a; b = demoted_slot v.b }
    else v

-- The first verdict by the volume record's rule, the others by the pages'.
abbrev pub last_verdicts : Bool → Bool → List PairVerdict → List PairVerdict
last_verdicts volume page [] = []
last_verdicts volume page (v ∷ vs) = demoted volume v ∷ last_verdicts page page vs

-- The slot of the ith pair that is in flight.
abbrev pub pair_heal : ℕ → PairVerdict → Option (ℕ × SlotIndex)
pair_heal i v = if is_in_flight v.b then Some (i, SlotIndex.B) else if is_in_flight v.a then Some (i, SlotIndex.A) else None

-- The slot in flight among the pairs from the ith on, which is healed; of several the last. The second pass leaves at most one.
abbrev pub heal : ℕ → List PairVerdict → Option (ℕ × SlotIndex)
heal i [] = None
heal i (v ∷ vs) = option_or (heal (i + 1) vs) (pair_heal i v)

-- From the volume record's standing after the first pass and after the second.
-- A write of the volume record would remove the evidence by which a page's candidate was judged.
abbrev pub writable : Bool → Bool → Standing → Standing → Bool
writable any_refused page_candidate first last =
    not any_refused && not (is_without_winner first) && (not (is_unconfirmed last) || not page_candidate)

-- ---- the store

unfoldable pub row_rules : List Pair → Bool → StoreRules
row_rules ps clean = store_rules clean (first_tally ps (first_verdicts ps)) (volume_verdict (first_verdicts ps))

-- The verdicts on a row of pairs.
unfoldable pub verdicts : List Pair → Bool → List PairVerdict
verdicts ps clean = last_verdicts (row_rules ps clean).volume_demote (row_rules ps clean).page_demote (first_verdicts ps)

-- The judgement on a row of pairs.
unfoldable pub judgement : List Pair → Bool → Judgement
judgement ps clean =
    record {
      heal = heal 0 (verdicts ps clean);
      writable =
          writable (any_refused (first_verdicts ps)) (page_candidate ps) (volume_verdict (first_verdicts ps)).standing
          (volume_verdict (verdicts ps clean)).standing;
      clean = (row_rules ps clean).clean;
      refused = any_refused (first_verdicts ps);
      owners_differ = any_two_differ (owners ps (verdicts ps clean));
    }

-- ---- what is lent for it

-- The most pairs of a judgement.
abbrev pub most_pairs : ℕ
most_pairs = 112

-- What the refusals ask of what is lent.
pub record Lent : Type 0 where
  -- There is no pair.
  pub empty : Bool
  -- There are more pairs than are judged.
  pub over : Bool
  -- All pairs are whole.
  pub whole : Bool
  -- There are as many verdicts as pairs.
  pub fits : Bool
  -- The mark and the pairs' values are in range.
  pub within : Bool

-- What is answered with an error, in this order.
abbrev pub error : Lent → Option JudgeError
error lent =
    if lent.empty then Some JudgeError.Empty
    else if lent.over then Some JudgeError.TooManyPairs
    else if not lent.whole then Some JudgeError.OutOfRange
    else if not lent.fits then Some JudgeError.OutputLength
    else if not lent.within then Some JudgeError.OutOfRange
    else None

-- The same of a row of whole pairs.
pub record RowLent : Type 0 where
  pub pairs : ℕ
  -- A part of a pair follows them, which the limit counts as a pair.
  pub rest : Bool
  pub fits : Bool
  pub within : Bool

abbrev pub row_error : RowLent → Option JudgeError
row_error row =
    error
    (record {
      empty = not row.rest && (row.pairs == 0);
      over = nat_lt (most_pairs - from_bool row.rest) row.pairs;
      whole = not row.rest;
      fits = row.fits;
      within = row.within;
    })

-- The values of a row are in range: those of each pair's slots, by what it is read from, and the operators.
abbrev pub row_in_range : {P : Type 0} → (P → Bool) → (P → Pair) → List P → Bool
row_in_range within shown ps = list_all within ps && operators_in_range true (map shown ps)

-- The answer,
abbrev pub unless : {A : Type 0} → Option JudgeError → A → Result A JudgeError
unless None answer = Ok answer
unless (Some e) answer = Err e

-- and what is left in what was lent: it is unchanged where there is an error.
abbrev pub left : {T : Type 0} → Option JudgeError → T → T → T
left None done before = done
left (Some e) done before = before

-- ---- the slot to heal

-- The verdict on a slot of the kth pair; Damage where there is no such pair.
abbrev pub slot_at : List PairVerdict → ℕ → SlotIndex → SlotVerdict
slot_at [] k index = SlotVerdict.Damage
slot_at (v ∷ vs) zero index = by_index index v.a v.b
slot_at (v ∷ vs) (suc k) index = slot_at vs k index

-- A slot is named for healing if and only if its last verdict is InFlight.
abbrev pub HealNames : Type 0
HealNames =
    (ps : List Pair) (clean : Bool) (k : ℕ) (index : SlotIndex)
    → ((judgement ps clean).heal ≡ Some (k, index) → slot_at (verdicts ps clean) k index ≡ SlotVerdict.InFlight)
    × (slot_at (verdicts ps clean) k index ≡ SlotVerdict.InFlight → (judgement ps clean).heal ≡ Some (k, index))
