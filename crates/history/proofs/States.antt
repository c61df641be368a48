-- A store through a history: every pair rests, or one is in flight among those that rest. What that gives: the store is judged as promised,
-- and what is read is known.
use Rattle.std.proofs.Common.{◌≡◌, refl, sym, ap, subst, ◌∙◌, Bool, true, false, List, [], ◌∷◌, ◌++◌, ℕ, suc, ◌+◌, ◌*◌, ◌≤◌, arith, length, Option, Some, None}
use Rattle.std.specs.List.{IsAmong}
use Rattle.std.proofs.lemmas.List.{map-append, length-map}
use Rattle.std.proofs.lemmas.Option.{some_pair_parts}
use Rattle.slot.specs.Status.{other}
use Rattle.slot.specs.Payload.{payload as payload_of}
use Rattle.slot.specs.declared.slot.SlotIndex.{SlotIndex}
use Rattle.slot.specs.declared.slot.SlotInfo.{SlotInfo}
use Rattle.slot.specs.declared.slot.Expect.{Expect}
use Rattle.judge.specs.Operators.{operators_in_range}
use Rattle.judge.specs.Verdict.{winner_beside}
use Rattle.judge.specs.Judge.{judgement, most_pairs}
use Rattle.judge.specs.Frames.{verdict_width}
use Rattle.judge.specs.declared.verdict.SlotVerdict.{SlotVerdict}
use Rattle.judge.specs.declared.verdict.PairVerdict.{PairVerdict}
use Rattle.cut.specs.Store.{Every, Pair, clean_mark, slot_at, shown}
use Rattle.cut.specs.Cut.{header_passes, is_empty, Confirmed}
use Rattle.cut.proofs.StatusLaws.{false_true}
use Rattle.cut.proofs.StatementLaws.{one_payload}
use Rattle.cut.proofs.JudgeLaws.{quiet_explained, Explained}
use Rattle.cut.proofs.PairLaws.{shown_pair, Stands}
use Rattle.cut.proofs.StateLaws.{beside, asked, Leads, Older, Resting, Flying, flies}
use Rattle.cut.proofs.RowLaws.{Rested, quiet_of, rested_stands, rested_verdicts, leads_typed, stands_back, rule_at, row_stands}
use Rattle.plan.specs.Numbers.{winner_number, highest_winner}
use Rattle.history.specs.History.{Tracked, past, pairs, record_in, read_mark, named, ReadKnown, AllReadKnown, MarkIs, Promised}
use Rattle.history.proofs.RowLaws.{stands_number, flight_qualifies, quiet_idle, rest_named, rest_counts, flown_unmarked, fly_named}

-- ---- a tracked pair

-- The slot's last Valid version v is older than the winner of info i, or its header fails; it has the slot's length.
pub record OlderVersion (v : List ℕ) (e : Expect) (i : SlotInfo) (size : ℕ) : Type 0 where
  pub sizes : length v ≡ size
  pub older : header_passes v ≡ true → Older v e i

-- Its winner x of info i, whose record is known, and what is remembered of both slots.
pub record Led (t : Tracked) (x : SlotIndex) (i : SlotInfo) : Type 0 where
  pub leads : Leads t.pair x i
  pub known : IsAmong t.known (payload_of i (slot_at x t.pair).bytes)
  pub winner : (past x t).valid ≡ (slot_at x t.pair).bytes
  pub loser : OlderVersion (past (other x) t).valid (asked x t.pair) i (length (beside x t.pair))

-- The slot beside the winner rests,
pub record Rests (t : Tracked) : Type 0 where
  pub x : SlotIndex
  pub i : SlotInfo
  pub led : Led t x i
  pub resting : Resting t.pair x i

-- or is the write in flight, with the number n.
pub record Flies (t : Tracked) (n : ℕ) : Type 0 where
  pub x : SlotIndex
  pub i : SlotInfo
  pub led : Led t x i
  pub flying : Flying t.pair x i (past (other x) t).under t.known n

abbrev pub rested : {t : Tracked} → Rests t → Rested t.pair
rested rests = record { winner = rests.x; info = rests.i; leads = rests.led.leads; resting = rests.resting }

abbrev pub all_rested : {ts : List Tracked} → Every Rests ts → Every Rested (pairs ts)
all_rested Every.none = Every.none
all_rested (Every.more rests rest) = Every.more (rested rests) (all_rested rest)

-- ---- the row

pub pairs_row : (before : List Tracked) (t : Tracked) (behind : List Tracked)
    → pairs (before ++ t ∷ behind) ≡ pairs before ++ t.pair ∷ pairs behind
pairs_row before t behind = map-append (λ (t : Tracked). t.pair) before (t ∷ behind)

pub length_pairs : (ts : List Tracked) → length (pairs ts) ≡ length ts
length_pairs ts = length-map ts (λ (t : Tracked). t.pair)

-- The number of a write that heals, of the pair t between these.
abbrev pub top : List Tracked → Pair → List Tracked → ℕ
top before p behind = highest_winner p.operator (shown (pairs before ++ p ∷ pairs behind)) + 1

-- Of a page among these: the mark is not set.
abbrev pub PagesUnset : List Tracked → Pair → List Tracked → Type 0
PagesUnset before p behind = is_empty (pairs before) ≡ false → read_mark (pairs before ++ p ∷ pairs behind) ≡ false

pub data State (ts : List Tracked) : Type 0 where
  all_rest : 1 ≤ length ts → Every Rests ts → State ts
  one_flies : (before : List Tracked) (t : Tracked) (behind : List Tracked) → ts ≡ before ++ t ∷ behind
      → Every Rests before → Flies t (top before t.pair behind) → Every Rests behind → PagesUnset before t.pair behind → State ts

-- ---- what is read is known

known_back : {t : Tracked} {rule : SlotIndex → Option ℕ → Bool} {x : SlotIndex} {i : SlotInfo} {v : SlotVerdict} {r : List ℕ}
    → Stands t.pair rule x i v r
    → IsAmong t.known r → ReadKnown t (winner_beside x v)
known_back {r = r} stands known = record { payload = r; back = stands_back stands; known = known }

rests_back : {t : Tracked} (rests : Rests t) → ReadKnown t (winner_beside rests.x (quiet_of (rested rests)).verdict)
rests_back rests = known_back (rested_stands (rested rests) (λ index number. true)) rests.led.known

all_known : {ts : List Tracked} (all : Every Rests ts) → AllReadKnown ts (rested_verdicts (all_rested all))
all_known Every.none = AllReadKnown.none
all_known (Every.more rests rest) = AllReadKnown.more (rests_back rests) (all_known rest)

row_known : {before : List Tracked} {t : Tracked} {behind : List Tracked} {v : PairVerdict} (all : Every Rests before) → ReadKnown t v
    → (rest : Every Rests behind)
    → AllReadKnown (before ++ t ∷ behind) (rested_verdicts (all_rested all) ++ v ∷ rested_verdicts (all_rested rest))
row_known Every.none known rest = AllReadKnown.more known (all_known rest)
row_known (Every.more rests all) known rest = AllReadKnown.more (rests_back rests) (row_known all known rest)

-- ---- what a state gives

-- Of the row ps of a store's pairs, where the lent verdicts were `out`.
pub record View (ts : List Tracked) (ps : List Pair) (out : List ℕ) : Type 0 where
  pub verdict : List PairVerdict
  pub judged : Confirmed ps (read_mark ps) out verdict (judgement (shown ps) (read_mark ps))
  pub back : AllReadKnown ts verdict

module _ {t : Tracked} {ts : List Tracked} (rests : Rests t) (rest : Every Rests ts) (few : length (t.pair ∷ pairs ts) ≤ most_pairs)
    (range : operators_in_range true (shown (t.pair ∷ pairs ts)) ≡ true)
    (out : List ℕ) (room : length out ≡ length (t.pair ∷ pairs ts) * verdict_width) where
  rest_view : View (t ∷ ts) (t.pair ∷ pairs ts) out
  rest_view =
      record {
        verdict = rested_verdicts (all_rested (Every.more rests rest));
        judged =
            row_stands Every.none (all_rested rest) t.pair (quiet_explained (quiet_of (rested rests)).quiet)
            (rested_stands (rested rests) (rule_at t.pair.operator (shown (t.pair ∷ pairs ts)) 0)) (read_mark (t.pair ∷ pairs ts))
            (λ flight. false_true (quiet_idle (quiet_of (rested rests)).quiet) flight)
            (leads_typed rests.led.leads) range few out room;
        back = all_known (Every.more rests rest);
      }

-- In flight, a write stands by every rule by which a header that fails and its number qualify.
pub flies_stand : {t : Tracked} {n : ℕ} (fly : Flies t n) (rule : SlotIndex → Option ℕ → Bool) → rule (other fly.x) None ≡ true
    → rule (other fly.x) (Some n) ≡ true
    → Stands t.pair rule fly.x fly.i SlotVerdict.InFlight (payload_of fly.i (slot_at fly.x t.pair).bytes)
flies_stand {t} fly rule none qualified = flies t.pair fly.x fly.i fly.led.leads fly.flying rule none qualified

pub flies_number : {t : Tracked} {n : ℕ} (fly : Flies t n) → winner_number (shown_pair t.pair) ≡ fly.i.meta_seq
flies_number fly = stands_number (flies_stand fly (λ index number. true) refl refl) fly.led.leads

module _ {before : List Tracked} {t : Tracked} {behind : List Tracked} (rest_before : Every Rests before)
    (fly : Flies t (top before t.pair behind)) (rest_behind : Every Rests behind) (unset : PagesUnset before t.pair behind) where
  abbrev row : List Pair
  row = pairs before ++ t.pair ∷ pairs behind

  flown_stands : Stands t.pair (rule_at t.pair.operator (shown row) (length (pairs before))) fly.x fly.i SlotVerdict.InFlight
      (payload_of fly.i (slot_at fly.x t.pair).bytes)
  flown_stands =
      flies_stand fly (rule_at t.pair.operator (shown row) (length (pairs before))) refl
      (flight_qualifies (all_rested rest_before) (all_rested rest_behind) t.pair fly.x fly.i fly.led.leads (flies_number fly) t.pair.operator refl)

  fly_view : length row ≤ most_pairs → operators_in_range true (shown row) ≡ true → (out : List ℕ) → length out ≡ length row * verdict_width → View (before ++ t ∷ behind) row out
  fly_view few range out room =
      record {
        verdict = rested_verdicts (all_rested rest_before) ++ winner_beside fly.x SlotVerdict.InFlight ∷ rested_verdicts (all_rested rest_behind);
        judged =
            row_stands (all_rested rest_before) (all_rested rest_behind) t.pair Explained.torn flown_stands (read_mark row)
            (λ flight. flown_unmarked (all_rested rest_before) (read_mark row) fly.x (rested_verdicts (all_rested rest_behind)) unset)
            (leads_typed fly.led.leads) range few out room;
        back = row_known rest_before (known_back flown_stands fly.led.known) rest_behind;
      }

  pub flown_named : named (pairs before ++ t.pair ∷ pairs behind) ≡ Some (length (pairs before), other fly.x)
  flown_named = fly_named (all_rested rest_before) (all_rested rest_behind) t.pair flown_stands unset

pub all_named : {ts : List Tracked} → 1 ≤ length ts → Every Rests ts → named (pairs ts) ≡ None
all_named some Every.none = absurd (omega arith)
all_named some (Every.more rests rest) = rest_named (all_rested (Every.more rests rest))

-- ---- whose turn it is

-- Where no slot is named, every pair rests,
pub none_named : {ts : List Tracked} → State ts → named (pairs ts) ≡ None → Every Rests ts
none_named (all_rest some all) is = all
none_named (one_flies before t behind split rest_before fly rest_behind unset) is =
    let there : named (pairs (before ++ t ∷ behind)) ≡ Some (length (pairs before), other fly.x) =
    ap named (pairs_row before t behind) ∙ flown_named rest_before fly rest_behind unset in
    let never : ◌≡◌ {A = Option (ℕ × SlotIndex)} None (Some (length (pairs before), other fly.x)) =
    sym is ∙ ap (λ (us : List Tracked). named (pairs us)) split ∙ there in
    absurd cc

same_split : (before : List Tracked) (t : Tracked) (behind before₁ : List Tracked) (t₁ : Tracked) (behind₁ : List Tracked)
    → before ++ t ∷ behind ≡ before₁ ++ t₁ ∷ behind₁ → length before ≡ length before₁
    → (before₁ ≡ before) × (t₁ ≡ t) × (behind₁ ≡ behind)
same_split [] t behind [] t₁ behind₁ is lengths = (refl, cc, cc)
same_split [] t behind (q ∷ before₁) t₁ behind₁ is lengths = absurd (omega arith)
same_split (q ∷ before) t behind [] t₁ behind₁ is lengths = absurd (omega arith)
same_split (q ∷ before) t behind (q₁ ∷ before₁) t₁ behind₁ is lengths =
    let first : q₁ ≡ q = cc in
    let rest : before ++ t ∷ behind ≡ before₁ ++ t₁ ∷ behind₁ = cc in
    let all = same_split before t behind before₁ t₁ behind₁ rest (omega arith) in
    (cc (first, all.0), all.1, all.2)

-- and where the slot at this index of the pair t is, it is the one in flight.
pub record Named (before : List Tracked) (t : Tracked) (behind : List Tracked) (index : SlotIndex) : Type 0 where
  pub first : Every Rests before
  pub fly : Flies t (top before t.pair behind)
  pub rest : Every Rests behind
  pub beside : other fly.x ≡ index
  pub unset : PagesUnset before t.pair behind

pub one_named : (before : List Tracked) (t : Tracked) (behind : List Tracked) (index : SlotIndex) → State (before ++ t ∷ behind)
    → named (pairs before ++ t.pair ∷ pairs behind) ≡ Some (length (pairs before), index) → Named before t behind index
one_named before t behind index (all_rest some all) is =
    let never : ◌≡◌ {A = Option (ℕ × SlotIndex)} None (Some (length (pairs before), index)) =
    sym (all_named some all) ∙ ap named (pairs_row before t behind) ∙ is in
    absurd cc
one_named before t behind index (one_flies before₁ t₁ behind₁ split rest_before fly rest_behind unset) is =
    let there : ◌≡◌ {A = Option (ℕ × SlotIndex)} (Some (length (pairs before), index)) (Some (length (pairs before₁), other fly.x)) =
    sym is
    ∙ ap named (sym (pairs_row before t behind))
    ∙ ap (λ (us : List Tracked). named (pairs us)) split
    ∙ ap named (pairs_row before₁ t₁ behind₁)
    ∙ flown_named rest_before fly rest_behind unset in
    let parts = some_pair_parts _ _ _ _ there in
    let same = same_split before t behind before₁ t₁ behind₁ split (sym (length_pairs before) ∙ parts.0 ∙ length_pairs before₁) in
    let here : Named before₁ t₁ behind₁ index = record { first = rest_before; fly = fly; rest = rest_behind; beside = sym parts.1; unset = unset } in
    subst (λ (us : List Tracked). Named us t behind index) same.0
    (subst (λ (u : Tracked). Named before₁ u behind index) same.1 (subst (λ (us : List Tracked). Named before₁ t₁ us index) same.2 here))

-- ---- the mark

-- It is that of the record that is read from pair 0.
first_mark : (t : Tracked) (ts : List Tracked) {rule : SlotIndex → Option ℕ → Bool} {x : SlotIndex} {i : SlotInfo} {v : SlotVerdict}
    → Stands t.pair rule x i v (payload_of i (slot_at x t.pair).bytes) → MarkIs (read_mark (pairs (t ∷ ts))) (pairs (t ∷ ts))
first_mark t ts {x = x} {i = i} stands r part =
    ap clean_mark (one_payload t.pair r (payload_of i (slot_at x t.pair).bytes) part stands.part)
    ∙ ap (λ (won : Option (SlotIndex × SlotInfo)). clean_mark (record_in won t.pair)) (sym stands.won)

rests_mark : (t : Tracked) (ts : List Tracked) → Rests t → MarkIs (read_mark (pairs (t ∷ ts))) (pairs (t ∷ ts))
rests_mark t ts rests = first_mark t ts (rested_stands (rested rests) (λ index number. true))

pub mark_read : (ts : List Tracked) → State ts → MarkIs (read_mark (pairs ts)) (pairs ts)
mark_read [] state = tt
mark_read (t ∷ ts) (all_rest some (Every.more rests rest)) = rests_mark t ts rests
mark_read ts (one_flies [] t behind is Every.none fly rest_behind unset) =
    subst (λ (us : List Tracked). MarkIs (read_mark (pairs us)) (pairs us)) (sym is) (first_mark t behind (flies_stand fly (λ index number. true) refl refl))
mark_read ts (one_flies (u ∷ before) t behind is (Every.more rests rest_before) fly rest_behind unset) =
    subst (λ (us : List Tracked). MarkIs (read_mark (pairs us)) (pairs us)) (sym is) (rests_mark u (before ++ t ∷ behind) rests)

-- Where no slot is named it counts as it is,
pub mark_counted : (ts : List Tracked) → State ts → named (pairs ts) ≡ None → (judgement (shown (pairs ts)) (read_mark (pairs ts))).clean ≡ read_mark (pairs ts)
mark_counted [] (all_rest some all) none = absurd (omega arith)
mark_counted [] (one_flies [] t behind split rest_before fly rest_behind unset) none = absurd cc
mark_counted [] (one_flies (u ∷ before) t behind split rest_before fly rest_behind unset) none = absurd cc
mark_counted (t ∷ ts) state none = rest_counts (all_rested (none_named state none)) (read_mark (pairs (t ∷ ts)))

-- and where a page is, it is not set.
page_unset : (ts : List Tracked) → State ts → (k : ℕ) (index : SlotIndex) → named (pairs ts) ≡ Some (suc k, index) → read_mark (pairs ts) ≡ false
page_unset ts (all_rest some all) k index is =
    let never : ◌≡◌ {A = Option (ℕ × SlotIndex)} None (Some (suc k, index)) = sym (all_named some all) ∙ is in absurd cc
page_unset ts (one_flies [] t behind split rest_before fly rest_behind unset) k index is =
    let never : ◌≡◌ {A = Option (ℕ × SlotIndex)} (Some (0, other fly.x)) (Some (suc k, index)) =
    sym (flown_named rest_before fly rest_behind unset) ∙ ap (λ (us : List Tracked). named (pairs us)) (sym split) ∙ is in
    let first : 0 ≡ suc k = (some_pair_parts _ _ _ _ never).0 in
    absurd cc
page_unset ts (one_flies (u ∷ before) t behind split rest_before fly rest_behind unset) k index is =
    ap (λ (us : List Tracked). read_mark (pairs us)) split ∙ ap read_mark (pairs_row (u ∷ before) t behind) ∙ unset refl

-- ---- the promise

view : (ts : List Tracked) → State ts → length (pairs ts) ≤ most_pairs → operators_in_range true (shown (pairs ts)) ≡ true
    → (out : List ℕ) → length out ≡ length (pairs ts) * verdict_width → View ts (pairs ts) out
view [] (all_rest some Every.none) few range out room = absurd (omega arith)
view (t ∷ ts) (all_rest some (Every.more rests rest)) few range out room = rest_view rests rest few range out room
view ts (one_flies before t behind is rest_before fly rest_behind unset) few range out room =
    subst
    (λ (us : List Tracked).
    length (pairs us) ≤ most_pairs → operators_in_range true (shown (pairs us)) ≡ true → length out ≡ length (pairs us) * verdict_width
    → View us (pairs us) out)
    (sym is)
    (λ row_few row_range row_room.
    let row = pairs_row before t behind in
    subst (λ (ps : List Pair). View (before ++ t ∷ behind) ps out) (sym row)
    (fly_view rest_before fly rest_behind unset (subst (λ (ps : List Pair). length ps ≤ most_pairs) row row_few)
    (subst (λ (ps : List Pair). operators_in_range true (shown ps) ≡ true) row row_range) out
    (row_room ∙ ap (λ (ps : List Pair). length ps * verdict_width) row)))
    few range room

pub promised : (ts : List Tracked) → State ts → length ts ≤ most_pairs → operators_in_range true (shown (pairs ts)) ≡ true
    → (out : List ℕ) → length out ≡ length ts * verdict_width → Promised (read_mark (pairs ts)) ts out
promised ts state few range out room =
    let seen =
    view ts state (subst (λ (n : ℕ). n ≤ most_pairs) (sym (length_pairs ts)) few) range out
    (room ∙ ap (λ (n : ℕ). n * verdict_width) (sym (length_pairs ts))) in
    record {
      verdict = seen.verdict;
      judgement = judgement (shown (pairs ts)) (read_mark (pairs ts));
      judged = seen.judged;
      heal = refl;
      back = seen.back;
      mark = mark_read ts state;
      counts = mark_counted ts state;
      page = page_unset ts state;
    }
