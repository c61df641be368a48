-- The judge over a row in which every pair but one is settled, and that one's winner stands beside a slot that a crash explains: the
-- second pass changes nothing, the store is writable, and only that slot can be healed.
use Rattle.std.proofs.Common.{◌≡◌, refl, ap, ap₂, ◌∙◌, Bool, true, false, cond, ◌||◌, List, [], ◌∷◌, ◌++◌, ℕ, ◌+◌, arith, length, Option, Some, None}
use Rattle.slot.specs.Status.{other}
use Rattle.slot.specs.declared.slot.SlotIndex.{SlotIndex}
use Rattle.judge.specs.Verdict.{standing_beside, winner_beside, is_in_flight, in_flight}
use Rattle.judge.specs.Judge.{first_verdicts, volume_verdict, candidates, any_trouble, any_refused, first_tally, mark_counts, demoted, last_verdicts, pair_heal, heal, row_rules, verdicts, judgement}
use Rattle.judge.specs.declared.pairs.Pair.{Pair as ShownPair}
use Rattle.judge.specs.declared.verdict.SlotVerdict.{SlotVerdict}
use Rattle.judge.specs.declared.verdict.Standing.{Standing}
use Rattle.judge.specs.declared.verdict.PairVerdict.{PairVerdict}
use Rattle.judge.proofs.PassLaws.{or-last}
use Rattle.cut.specs.Store.{Every}
use Rattle.cut.proofs.StatusLaws.{false_true}

-- The verdict of a slot that is left as it is.
pub data Quiet : SlotVerdict → Type 0 where
  intact : Quiet SlotVerdict.Nothing
  damaged : Quiet SlotVerdict.OlderDamaged

-- Each pair is settled: its winner stands beside a slot that is left as it is.
pub data Settled : List PairVerdict → Type 0 where
  none : Settled []
  more : {v : SlotVerdict} {vs : List PairVerdict} → (index : SlotIndex) → Quiet v → Settled vs → Settled (winner_beside index v ∷ vs)

-- The verdict of a slot that a crash explains.
pub data Explained : SlotVerdict → Type 0 where
  nothing : Explained SlotVerdict.Nothing
  older : Explained SlotVerdict.OlderDamaged
  torn : Explained SlotVerdict.InFlight

pub explained_standing : {v : SlotVerdict} → Explained v → standing_beside v ≡ Standing.Confirmed
explained_standing nothing = refl
explained_standing older = refl
explained_standing torn = refl

explained_flight : (index : SlotIndex) {v : SlotVerdict} → Explained v → in_flight (winner_beside index v) ≡ is_in_flight v
explained_flight SlotIndex.A nothing = refl
explained_flight SlotIndex.A older = refl
explained_flight SlotIndex.A torn = refl
explained_flight SlotIndex.B nothing = refl
explained_flight SlotIndex.B older = refl
explained_flight SlotIndex.B torn = refl

-- ---- pairs without a write in flight

abbrev pub Idle : PairVerdict → Type 0
Idle v = in_flight v ≡ false

idle_none : (v : PairVerdict) → in_flight v ≡ false → (i : ℕ) → pair_heal i v ≡ None
idle_none v idle i = go (is_in_flight v.a) (is_in_flight v.b) idle
  where
    go : (a b : Bool) → (a || b) ≡ false → cond {A = Option (ℕ × SlotIndex)} b (Some (i, SlotIndex.B)) (cond {A = Option (ℕ × SlotIndex)} a (Some (i, SlotIndex.A)) None) ≡ None
    go false false is = refl
    go true b is = false_true is refl
    go false true is = false_true is refl

pub idle_heal : {vs : List PairVerdict} → Every Idle vs → (i : ℕ) → heal i vs ≡ None
idle_heal Every.none i = refl
idle_heal (Every.more {x = v} idle rest) i = simp (idle_heal rest (i + 1), idle_none v idle i)

-- Nothing in flight: the verdict stays.
pub demoted_none : (demote : Bool) (v : PairVerdict) → in_flight v ≡ false → demoted demote v ≡ v
demoted_none true v idle = simp idle
demoted_none false v idle = refl

idle_last : {vs : List PairVerdict} → Every Idle vs → (volume page : Bool) → last_verdicts volume page vs ≡ vs
idle_last Every.none volume page = refl
idle_last (Every.more {x = v} idle rest) volume page =
    ap₂ (λ (x : PairVerdict) (xs : List PairVerdict). x ∷ xs) (demoted_none volume v idle) (idle_last rest page page)

-- ---- settled pairs

pub quiet_explained : {v : SlotVerdict} → Quiet v → Explained v
quiet_explained intact = nothing
quiet_explained damaged = older

settled_standing : {v : SlotVerdict} → Quiet v → standing_beside v ≡ Standing.Confirmed
settled_standing quiet = explained_standing (quiet_explained quiet)

settled_flight : (index : SlotIndex) {v : SlotVerdict} → Quiet v → in_flight (winner_beside index v) ≡ false
settled_flight SlotIndex.A intact = refl
settled_flight SlotIndex.A damaged = refl
settled_flight SlotIndex.B intact = refl
settled_flight SlotIndex.B damaged = refl

settled_idle : {vs : List PairVerdict} → Settled vs → Every Idle vs
settled_idle none = Every.none
settled_idle (more index quiet rest) = Every.more (settled_flight index quiet) (settled_idle rest)

pub settled_none : (index : SlotIndex) {v : SlotVerdict} → Quiet v → (i : ℕ) → pair_heal i (winner_beside index v) ≡ None
settled_none index {v} quiet i = idle_none (winner_beside index v) (settled_flight index quiet) i

settled_candidates : {vs : List PairVerdict} → Settled vs → candidates vs ≡ 0
settled_candidates none = refl
settled_candidates (more index quiet rest) = simp (settled_flight index quiet, settled_candidates rest)

settled_trouble : {vs : List PairVerdict} → Settled vs → any_trouble vs ≡ false
settled_trouble none = refl
settled_trouble (more index quiet rest) = simp (settled_standing quiet) (settled_trouble rest)

settled_refused : {vs : List PairVerdict} → Settled vs → any_refused vs ≡ false
settled_refused none = refl
settled_refused (more index quiet rest) = simp (settled_standing quiet) (settled_refused rest)

demoted_kept : (v : PairVerdict) → demoted false v ≡ v
demoted_kept v = refl

last_kept : (vs : List PairVerdict) → last_verdicts false false vs ≡ vs
last_kept [] = refl
last_kept (v ∷ vs) = ap₂ (λ (x : PairVerdict) (xs : List PairVerdict). x ∷ xs) (demoted_kept v) (last_kept vs)

-- ---- one pair among settled ones

module _ (v : PairVerdict) (behind : List PairVerdict) (settled_behind : Settled behind) where
  row_candidates : {before : List PairVerdict} → Settled before → candidates (before ++ v ∷ behind) ≡ cond (in_flight v) 1 0
  row_candidates none = rw (settled_candidates settled_behind)
  row_candidates (more index quiet rest) = simp (settled_flight index quiet) (row_candidates rest)

  row_trouble : v.standing ≡ Standing.Confirmed → {before : List PairVerdict} → Settled before → any_trouble (before ++ v ∷ behind) ≡ false
  row_trouble confirmed none = simp (confirmed, settled_trouble settled_behind)
  row_trouble confirmed (more index quiet rest) = simp (settled_standing quiet) (row_trouble confirmed rest)

  row_refused : v.standing ≡ Standing.Confirmed → {before : List PairVerdict} → Settled before → any_refused (before ++ v ∷ behind) ≡ false
  row_refused confirmed none = simp (confirmed, settled_refused settled_behind)
  row_refused confirmed (more index quiet rest) = simp (settled_standing quiet) (row_refused confirmed rest)

  row_heal_at : {before : List PairVerdict} → Settled before → (i : ℕ) → heal i (before ++ v ∷ behind) ≡ pair_heal (i + length before) v
  row_heal_at none i = rw (idle_heal (settled_idle settled_behind) (i + 1)) (ap (λ (k : ℕ). pair_heal k v) (omega arith))
  row_heal_at (more index quiet rest) i =
      rw (settled_none index quiet i) (or-last _ ∙ row_heal_at rest (i + 1) ∙ ap (λ (k : ℕ). pair_heal k v) (omega arith))

  row_none_in_flight : in_flight v ≡ false → {before : List PairVerdict} → Settled before → (volume page : Bool)
      → last_verdicts volume page (before ++ v ∷ behind) ≡ before ++ v ∷ behind
  row_none_in_flight idle none volume page =
      ap₂ (λ (x : PairVerdict) (xs : List PairVerdict). x ∷ xs) (demoted_none volume v idle) (idle_last (settled_idle settled_behind) page page)
  row_none_in_flight idle (more {v = u} index quiet rest) volume page =
      ap₂ (λ (x : PairVerdict) (xs : List PairVerdict). x ∷ xs) (demoted_none volume (winner_beside index u) (settled_flight index quiet))
      (row_none_in_flight idle rest page page)

  row_volume : v.standing ≡ Standing.Confirmed → {before : List PairVerdict} → Settled before
      → (volume_verdict (before ++ v ∷ behind)).standing ≡ Standing.Confirmed
  row_volume confirmed none = confirmed
  row_volume confirmed (more index quiet rest) = settled_standing quiet

  pub row_confirmed : v.standing ≡ Standing.Confirmed → {before : List PairVerdict} → Settled before
      → Every (λ (x : PairVerdict). x.standing ≡ Standing.Confirmed) (before ++ v ∷ behind)
  row_confirmed confirmed none = Every.more confirmed (settled_confirmed settled_behind)
    where
      settled_confirmed : {vs : List PairVerdict} → Settled vs → Every (λ (x : PairVerdict). x.standing ≡ Standing.Confirmed) vs
      settled_confirmed none = Every.none
      settled_confirmed (more index quiet rest) = Every.more (settled_standing quiet) (settled_confirmed rest)
  row_confirmed confirmed (more index quiet rest) = Every.more (settled_standing quiet) (row_confirmed confirmed rest)

-- ---- the judgement

-- Of the slots beside the winner, only one in flight is healed.
pub data Healed (at : ℕ) (index : SlotIndex) (v : SlotVerdict) : Option (ℕ × SlotIndex) → Type 0 where
  none : Healed at index v None
  slot : v ≡ SlotVerdict.InFlight → Healed at index v (Some (at, (other index)))

pub healed : (at : ℕ) (index : SlotIndex) {v : SlotVerdict} → Explained v → Healed at index v (pair_heal at (winner_beside index v))
healed at SlotIndex.A nothing = none
healed at SlotIndex.A older = none
healed at SlotIndex.A torn = slot refl
healed at SlotIndex.B nothing = none
healed at SlotIndex.B older = none
healed at SlotIndex.B torn = slot refl

-- The clean mark must not count where a write is in flight.
module _ {before behind : List PairVerdict} (settled_before : Settled before) (settled_behind : Settled behind)
    (index : SlotIndex) {v : SlotVerdict} (explained : Explained v) (clean : Bool)
    (unmarked : is_in_flight v ≡ true → mark_counts clean (volume_verdict (before ++ winner_beside index v ∷ behind)) ≡ false)
    (ps : List ShownPair) (first : first_verdicts ps ≡ before ++ winner_beside index v ∷ behind) where
  abbrev vs : List PairVerdict
  vs = before ++ winner_beside index v ∷ behind

  confirmed : (winner_beside index v).standing ≡ Standing.Confirmed
  confirmed = explained_standing explained

  none_refused : any_refused vs ≡ false
  none_refused = row_refused (winner_beside index v) behind settled_behind confirmed settled_before

  -- One write in flight, and no other trouble: nothing is demoted.
  module _ (flight : is_in_flight v ≡ true) where
    one_candidate : candidates vs ≡ 1
    one_candidate =
        row_candidates (winner_beside index v) behind settled_behind settled_before
        ∙ ap (λ (b : Bool). cond b 1 0) (explained_flight index explained ∙ flight)

    volume_stays : (row_rules ps clean).volume_demote ≡ false
    unfolding row_rules first_tally
    volume_stays = simp (first, one_candidate, none_refused)

    pages_stay : (row_rules ps clean).page_demote ≡ false
    unfolding row_rules first_tally
    pages_stay =
        simp (first, unmarked flight, one_candidate, row_trouble (winner_beside index v) behind settled_behind confirmed settled_before)

  pub row_verdicts : verdicts ps clean ≡ before ++ winner_beside index v ∷ behind
  unfolding verdicts
  row_verdicts = ap (last_verdicts (row_rules ps clean).volume_demote (row_rules ps clean).page_demote) first ∙ go (is_in_flight v) refl
    where
      go : (flight : Bool) → is_in_flight v ≡ flight
          → last_verdicts (row_rules ps clean).volume_demote (row_rules ps clean).page_demote vs ≡ vs
      go false idle =
          row_none_in_flight (winner_beside index v) behind settled_behind (explained_flight index explained ∙ idle) settled_before
          (row_rules ps clean).volume_demote (row_rules ps clean).page_demote
      go true flight = ap₂ (λ (volume page : Bool). last_verdicts volume page vs) (volume_stays flight) (pages_stay flight) ∙ last_kept vs

  pub row_writable : (judgement ps clean).writable ≡ true
  unfolding judgement
  row_writable =
      simp (
        row_verdicts,
        first,
        none_refused,
        row_volume (winner_beside index v) behind settled_behind confirmed settled_before,
      )

  pub row_heal_is : (judgement ps clean).heal ≡ pair_heal (length before) (winner_beside index v)
  unfolding judgement
  row_heal_is =
      ap (heal 0) row_verdicts
      ∙ row_heal_at (winner_beside index v) behind settled_behind settled_before 0
      ∙ ap (λ (k : ℕ). pair_heal k (winner_beside index v)) (omega arith)
