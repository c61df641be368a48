-- Each write of a history, finished or cut, leads from one state to the next.
use Rattle.std.proofs.Common.{◌≡◌, refl, sym, ap, ap₂, subst, ◌∙◌, ◌⊎◌, inl, inr, Bool, true, false, cond, nat_eq, List, [], ◌∷◌, ◌++◌, ℕ, ◌+◌, ◌≤◌, ◌<◌, arith, length, take, length-append, Some, None}
use Rattle.std.specs.List.{IsAmong}
use Rattle.std.proofs.lemmas.Option.{some_pair_parts}
use lib.Pointwise.{pointwise, bytes_decides}
use Rattle.codec.specs.Bytes.{le32}
use Rattle.codec.specs.Crc32c.{crc32c}
use Rattle.slot.specs.Status.{other}
use Rattle.slot.specs.Payload.{payload as payload_of}
use Rattle.slot.specs.Read.{validate}
use Rattle.slot.specs.Laws.{info_of}
use Rattle.slot.specs.declared.slot.SlotIndex.{SlotIndex}
use Rattle.slot.specs.declared.slot.SlotInfo.{SlotInfo}
use Rattle.slot.specs.declared.slot.SlotStatus.{SlotStatus}
use Rattle.slot.specs.declared.slot.Expect.{Expect}
use Rattle.judge.specs.Numbers.{numbers, highest}
use Rattle.pair.specs.Pair.{winner_info}
use Rattle.cut.specs.Store.{Every, Slot, Pair, slot_at, status, report, shown, last_record, SoundPair}
use Rattle.cut.specs.Cut.{Write, store, size, expect, old, new, left, with_bytes, with_slot, Possible, whole, header_passes, payload_in}
use Rattle.cut.proofs.EveryLaws.{every_split, every_join}
use Rattle.cut.proofs.StatusLaws.{false_true, passed_is}
use Rattle.cut.proofs.PairLaws.{other_other, shown_pair, last_is}
use Rattle.cut.proofs.CutLaws.{differ, not_same, not_whole}
use Rattle.cut.proofs.StateLaws.{Short, beside, asked, Leads, Older, Resting, Flying, failing_status, passing_status, under_check, under_payload, sound_leads, sound_rests}
use Rattle.cut.proofs.NextLaws.{among_first, among_later, kept_slot, put_slot, back_slot, front_passes, Read, Next, on_older}
use Rattle.cut.proofs.WrittenLaws.{new_header}
use Rattle.cut.proofs.WriteLaws.{BesideWinner, old_is, writes, fitting}
use Rattle.cut.proofs.LeftLaws.{blank_fails, resting_short, flying_short, finished_wins, left_size, left_short, left_bytes, left_resting, left_flying}
use Rattle.cut.proofs.RowLaws.{rested_stands}
use Rattle.plan.specs.Numbers.{winner_number, highest_winner}
use Rattle.history.specs.History.{Past, Tracked, pairs, past, standing, past_of, started, read_mark, named, Turn, Allowed, same_header, under_after, valid_after, past_after, HarmfulAccident, tracked, Put, write_to, finished, torn_by}
use Rattle.history.proofs.RowLaws.{stands_number, rested_highest, winners_are}
use Rattle.history.proofs.States.{OlderVersion, Led, Rests, Flies, rested, all_rested, pairs_row, top, PagesUnset, State, flies_stand, flies_number, flown_named, all_named, length_pairs, none_named, one_named}

some_row : (before : List Tracked) (t : Tracked) (behind : List Tracked) → 1 ≤ length (before ++ t ∷ behind)
some_row before t behind = let all = length-append before (t ∷ behind) in omega arith

-- ---- what is remembered of the slot beside a winner

resting_version : (p : Pair) (x : SlotIndex) (i : SlotInfo) → Resting p x i → OlderVersion (beside x p) (asked x p) i (length (beside x p))
resting_version p x i resting = record { sizes = refl; older = go resting }
  where
    go : Resting p x i → header_passes (beside x p) ≡ true → Older (beside x p) (asked x p) i
    go (Resting.zeroed is_a first zeros) passes = false_true (blank_fails (beside x p) zeros) passes
    go (Resting.past older) passes = older
    go (Resting.lapsed stands fails short same_sum) passes = false_true fails passes

version_after : {s v : List ℕ} {e : Expect} {i : SlotInfo} {n : ℕ} (st : SlotStatus) → OlderVersion s e i n → OlderVersion v e i n
    → OlderVersion (valid_after st s v) e i n
version_after (SlotStatus.Valid j) fresh kept = fresh
version_after _ fresh kept = kept

flying_not_valid : (p : Pair) (x : SlotIndex) (i : SlotInfo) (leads : Leads p x i) {m : List ℕ} {known : List (List ℕ)} {n : ℕ}
    → Flying p x i m known n → (s v : List ℕ)
    → valid_after (status (slot_at (other x) p)) s v ≡ v
flying_not_valid p x i leads (Flying.unread stands fails short other_sum) s v =
    ap (λ (st : SlotStatus). valid_after st s v) (failing_status p x i leads stands fails)
flying_not_valid p x i leads (Flying.begun f fit head bad among) s v =
    ap (λ (st : SlotStatus). valid_after st s v)
    (passing_status p x i leads (under_check p x i leads fit (beside x p) refl head) false bad)

-- ---- what the header that was left was written with

module _ (w : Write) (before : Past) where
  pub under_whole : take 128 (left w) ≡ take 128 (new w) → under_after w before ≡ w.payload
  under_whole is =
      ap (λ (same : Bool). cond same w.payload (cond (same_header (left w) (old w)) before.under (standing before.valid)))
      ((bytes_decides (take 128 (left w)) (take 128 (new w))).1 is)

  pub under_kept : (take 128 (left w) ≡ take 128 (new w) → ⊥) → take 128 (left w) ≡ take 128 (old w) → under_after w before ≡ before.under
  under_kept not_new is =
      ap₂ (λ (fresh same : Bool). cond fresh w.payload (cond same before.under (standing before.valid)))
      (not_same (take 128 (left w)) (take 128 (new w)) not_new)
      ((bytes_decides (take 128 (left w)) (take 128 (old w))).1 is)

-- ---- the start

past_started : (index : SlotIndex) (p : Pair) → past index (started p) ≡ past_of (slot_at index p)
past_started SlotIndex.A p = refl
past_started SlotIndex.B p = refl

start_rests : (p : Pair) → SoundPair p → Rests (started p)
start_rests p sound =
    record {
      x = sound.newer;
      i = sound.info;
      led =
          record {
            leads = sound_leads p sound;
            known = subst (λ (r : List ℕ). IsAmong (last_record p ∷ []) r) (last_is p sound) (among_first (last_record p) []);
            winner = ap (λ (q : Past). q.valid) (past_started sound.newer p);
            loser =
                subst (λ (v : List ℕ). OlderVersion v (asked sound.newer p) sound.info (length (beside sound.newer p)))
                (ap (λ (q : Past). q.valid) (sym (past_started (other sound.newer) p)))
                (resting_version p sound.newer sound.info (sound_rests p sound));
          };
      resting = sound_rests p sound;
    }

pub start_all : {ps : List Pair} → Every SoundPair ps → Every Rests (mathlib.Core.List.map started ps)
start_all Every.none = Every.none
start_all (Every.more {x = p} sound rest) = Every.more (start_rests p sound) (start_all rest)

-- ---- whose turn it is

module _ (before : List Tracked) (t : Tracked) (behind : List Tracked) (q : Put) where
  abbrev w : Write
  w = write_to before t behind q

  -- Every other pair rests, and the number is one above the winners of the pair's operator.
  pub record Placed (n : ℕ) : Type 0 where
    pub first : Every Rests before
    pub here : Rests t ⊎ Flies t (top before t.pair behind)
    pub rest : Every Rests behind
    pub number : n ≡ top before t.pair behind
    pub unset : PagesUnset before t.pair behind

  pub turn : State (before ++ t ∷ behind) → (n : ℕ) → Turn w n → Placed n
  turn state n (Turn.free none first) =
      let all = none_named state (ap named (pairs_row before t behind) ∙ none) in
      let split = every_split before t behind all in
      let o = t.pair.operator in
      let tops = subst (λ (ps : List Pair). highest (numbers o (shown ps)) ≡ highest_winner o (shown ps)) (pairs_row before t behind)
      (rested_highest o (all_rested all)) in
      record { first = split.0; here = inl split.1; rest = split.2; number = ap (λ (k : ℕ). k + 1) tops; unset = unset }
    where
      unset : PagesUnset before t.pair behind
      unset behind_it = not_set (read_mark (store w)) refl
        where
          not_set : (m : Bool) → read_mark (store w) ≡ m → read_mark (store w) ≡ false
          not_set true is = false_true behind_it (first is)
          not_set false is = is
  turn state n (Turn.healing is) =
      let there = one_named before t behind q.index state is in
      record { first = there.first; here = inr there.fly; rest = there.rest; number = refl; unset = there.unset }

-- A write of a page leaves the mark as it is.
unset_kept : (before : List Tracked) (p : Pair) (behind : List Tracked) → PagesUnset before p behind → (q : Pair) → PagesUnset before q behind
unset_kept [] p behind unset q behind_it = absurd cc
unset_kept (u ∷ before) p behind unset q behind_it = unset refl

-- ---- the pair after the write

-- With other bytes in its slot, the pair is led by the winner before,
led_kept : (index : SlotIndex) (c : List ℕ) (after : Past) (known : List (List ℕ)) (t : Tracked) (i : SlotInfo)
    → Leads (with_slot index c t.pair) (other index) i
    → IsAmong known (payload_of i (slot_at (other index) (with_slot index c t.pair)).bytes)
    → (past (other index) t).valid ≡ (slot_at (other index) (with_slot index c t.pair)).bytes
    → OlderVersion after.valid (asked (other index) (with_slot index c t.pair)) i (length (beside (other index) (with_slot index c t.pair)))
    → Led (tracked index c after known t) (other index) i
led_kept SlotIndex.A c after known t i leads among winner loser = record { leads = leads; known = among; winner = winner; loser = loser }
led_kept SlotIndex.B c after known t i leads among winner loser = record { leads = leads; known = among; winner = winner; loser = loser }

-- or by the write that has won.
led_won : (index : SlotIndex) (c : List ℕ) (after : Past) (known : List (List ℕ)) (t : Tracked) (i : SlotInfo)
    → Leads (with_slot index c t.pair) index i → IsAmong known (payload_of i (slot_at index (with_slot index c t.pair)).bytes)
    → after.valid ≡ (slot_at index (with_slot index c t.pair)).bytes
    → OlderVersion (past (other index) t).valid (asked index (with_slot index c t.pair)) i (length (beside index (with_slot index c t.pair)))
    → Led (tracked index c after known t) index i
led_won SlotIndex.A c after known t i leads among winner loser = record { leads = leads; known = among; winner = winner; loser = loser }
led_won SlotIndex.B c after known t i leads among winner loser = record { leads = leads; known = among; winner = winner; loser = loser }

tracked_pair : (index : SlotIndex) (c : List ℕ) (after : Past) (known : List (List ℕ)) (t : Tracked)
    → with_slot index c t.pair ≡ (tracked index c after known t).pair
tracked_pair SlotIndex.A c after known t = refl
tracked_pair SlotIndex.B c after known t = refl

pub tracked_operator : (index : SlotIndex) (c : List ℕ) (after : Past) (known : List (List ℕ)) (t : Tracked)
    → (tracked index c after known t).pair.operator ≡ t.pair.operator
tracked_operator SlotIndex.A c after known t = refl
tracked_operator SlotIndex.B c after known t = refl

pub tracked_known : (index : SlotIndex) (c : List ℕ) (after : Past) (known : List (List ℕ)) (t : Tracked)
    → (tracked index c after known t).known ≡ known
tracked_known SlotIndex.A c after known t = refl
tracked_known SlotIndex.B c after known t = refl

flying_kept : (index : SlotIndex) (c : List ℕ) (after : Past) (known : List (List ℕ)) (t : Tracked) (i : SlotInfo) (n : ℕ)
    → Flying (with_slot index c t.pair) (other index) i after.under known n
    → Flying (tracked index c after known t).pair (other index) i (past (other (other index)) (tracked index c after known t)).under
    (tracked index c after known t).known n
flying_kept SlotIndex.A c after known t i n flying = flying
flying_kept SlotIndex.B c after known t i n flying = flying

past_back : (index : SlotIndex) (t : Tracked) → past (other (other index)) t ≡ past index t
past_back index t = ap (λ (x : SlotIndex). past x t) (other_other index)

read_known : {whole : Bool} (r : List ℕ) (known : List (List ℕ)) {q : List ℕ} → Read whole r known q → IsAmong (r ∷ known) q
read_known r known (Read.fresh stands) = among_first r known
read_known r known (Read.earlier torn among) = among_later r known among

-- By the winner that a write is made beside.
record Aligned (t : Tracked) (x : SlotIndex) (i : SlotInfo) (n : ℕ) : Type 0 where
  pub led : Led t x i
  pub place : Resting t.pair x i ⊎ Flying t.pair x i (past (other x) t).under t.known n
  pub number : winner_number (shown_pair t.pair) ≡ i.meta_seq

module _ {t : Tracked} {x : SlotIndex} {i : SlotInfo} {n : ℕ} (won : winner_info (report t.pair) ≡ Some (x, i)) where
  to_aligned : (y : SlotIndex) (j : SlotInfo) → winner_info (report t.pair) ≡ Some (y, j) → Aligned t y j n → Aligned t x i n
  to_aligned y j there aligned =
      let same = some_pair_parts y x j i (sym there ∙ won) in
      subst (λ (k : SlotInfo). Aligned t x k n) same.1 (subst (λ (z : SlotIndex). Aligned t z j n) same.0 aligned)

  aligned : Rests t ⊎ Flies t n → Aligned t x i n
  aligned (inl rests) =
      let stands = rested_stands (rested rests) (λ index number. true) in
      to_aligned rests.x rests.i stands.won (record { led = rests.led; place = inl rests.resting; number = stands_number stands rests.led.leads })
  aligned (inr fly) =
      let stands = flies_stand fly (λ index number. true) refl refl in
      to_aligned fly.x fly.i stands.won (record { led = fly.led; place = inr fly.flying; number = stands_number stands fly.led.leads })

-- ---- the step

module _ (before : List Tracked) (t : Tracked) (behind : List Tracked) (q : Put) (state : State (before ++ t ∷ behind))
    (allowed : Allowed (write_to before t behind q)) where
  abbrev wr : Write
  wr = write_to before t behind q

  abbrev index : SlotIndex
  index = q.index

  abbrev x : SlotIndex
  x = other q.index

  abbrev i : SlotInfo
  i = allowed.correct.winner

  abbrev n : ℕ
  n = allowed.number

  placed : Placed before t behind q n
  placed = turn before t behind q state n allowed.turn

  here : Rests t ⊎ Flies t n
  here = subst (λ (k : ℕ). Rests t ⊎ Flies t k) (sym placed.number) placed.here

  al : Aligned t x i n
  al = aligned allowed.correct.won here

  abbrev made : BesideWinner n wr
  made = record { correct = allowed.correct; leads = al.led.leads; some = let is = placed.number in omega arith }

  below : i.meta_seq < n
  below =
      let winners = winners_are (all_rested placed.first) (all_rested placed.rest) t.pair x i al.led.leads al.number t.pair.operator refl in
      let is = placed.number in
      omega arith

  -- The record before is in the winner still.
  record_kept : (c : List ℕ) → payload_of i (slot_at x (with_slot index c t.pair)).bytes ≡ payload_of i (slot_at x t.pair).bytes
  record_kept c = ap (λ (s : Slot). payload_of i s.bytes) (kept_slot t.pair c index)

  winner_kept : (c : List ℕ) → (past x t).valid ≡ (slot_at x (with_slot index c t.pair)).bytes
  winner_kept c = al.led.winner ∙ ap (λ (s : Slot). s.bytes) (sym (kept_slot t.pair c index))

  -- The winner before is the last Valid version of its slot.
  loser_before : (c : List ℕ) (j : SlotInfo) → Resting (with_slot index c t.pair) index j
      → OlderVersion (past x t).valid (asked index (with_slot index c t.pair)) j (length (beside index (with_slot index c t.pair)))
  loser_before c j resting =
      subst (λ (v : List ℕ). OlderVersion v (asked index (with_slot index c t.pair)) j (length (beside index (with_slot index c t.pair))))
      (sym (winner_kept c))
      (resting_version (with_slot index c t.pair) index j resting)

  won_rests : (c : List ℕ) (after : Past) (known : List (List ℕ)) (j : SlotInfo) → Leads (with_slot index c t.pair) index j
      → Resting (with_slot index c t.pair) index j
      → after.valid ≡ (slot_at index (with_slot index c t.pair)).bytes
      → IsAmong known (payload_of j (slot_at index (with_slot index c t.pair)).bytes)
      → Rests (tracked index c after known t)
  won_rests c after known j leads resting valid among =
      record {
        x = index;
        i = j;
        led = led_won index c after known t j leads among valid (loser_before c j resting);
        resting = subst (λ (p : Pair). Resting p index j) (tracked_pair index c after known t) resting;
      }

  -- The pair u after the write rests, or its written slot is in flight.
  data Outcome (u : Tracked) : Type 0 where
    rests : Rests u → Outcome u
    flies : (fly : Flies u (top before u.pair behind)) → other fly.x ≡ q.index → Outcome u

  outcome_state : {u : Tracked} → Outcome u → State (before ++ u ∷ behind)
  outcome_state {u} (rests known) = State.all_rest (some_row before u behind) (every_join placed.first known placed.rest)
  outcome_state {u} (flies fly beside_is) = State.one_flies before u behind refl placed.first fly placed.rest (unset_kept before t.pair behind placed.unset u.pair)

  -- So no other slot is named, and none where it rests.
  rests_named : {u : Tracked} → Rests u → named (pairs (before ++ u ∷ behind)) ≡ None
  rests_named {u} known = all_named (some_row before u behind) (every_join placed.first known placed.rest)

  outcome_named : {u : Tracked} → Outcome u
      → (named (pairs (before ++ u ∷ behind)) ≡ None) ⊎ (named (pairs (before ++ u ∷ behind)) ≡ Some (length before, q.index))
  outcome_named (rests known) = inl (rests_named known)
  outcome_named {u} (flies fly beside_is) =
      inr
      (ap named (pairs_row before u behind)
      ∙ flown_named placed.first fly placed.rest (unset_kept before t.pair behind placed.unset u.pair)
      ∙ ap₂ (λ (k : ℕ) (at : SlotIndex). Some (k, at)) (length_pairs before) beside_is)

  -- A write that is finished.
  finish_rests : Rests (finished wr t)
  finish_rests =
      let wins = finished_wins wr made below in
      won_rests (new wr) (record { under = q.payload; valid = new wr }) (q.payload ∷ []) (info_of q.fields q.payload) wins.0 wins.1
      (ap (λ (s : Slot). s.bytes) (sym (put_slot t.pair (new wr) index)))
      (subst (IsAmong (q.payload ∷ [])) (sym wins.2) (among_first q.payload []))

  pub finish_state : State (before ++ finished (write_to before t behind q) t ∷ behind)
  finish_state = outcome_state (Outcome.rests finish_rests)

  pub finish_named : named (pairs (before ++ finished (write_to before t behind q) t ∷ behind)) ≡ None
  finish_named = rests_named finish_rests

  -- A write that is cut.
  module _ (possible : Possible q.tear (size (write_to before t behind q)))
      (none : HarmfulAccident (write_to before t behind q) (past q.index t) allowed.correct.winner → ⊥) where
    abbrev c : List ℕ
    c = left wr

    abbrev p' : Pair
    p' = with_slot index c t.pair

    abbrev after : Past
    after = past_after wr (past index t)

    abbrev known : List (List ℕ)
    known = q.payload ∷ t.known

    under_new : take 128 c ≡ take 128 (new wr) → after.under ≡ q.payload
    under_new is = under_whole wr (past index t) is

    under_old : (take 128 c ≡ take 128 (new wr) → ⊥) → take 128 c ≡ take 128 (beside x t.pair) → after.under ≡ (past (other x) t).under
    under_old not_new is =
        under_kept wr (past index t) not_new (is ∙ ap (take 128) (old_is wr made)) ∙ ap (λ (p : Past). p.under) (sym (past_back index t))

    none_new : take 128 c ≡ take 128 (new wr) → (payload_in c q.payload ≡ q.payload → ⊥) → crc32c (payload_in c q.payload) ≡ le32 c 28 → ⊥
    none_new is other_payload sum =
        none
        (HarmfulAccident.payload
        (record {
          passes =
              (passed_is c _ (under_check t.pair x i al.led.leads (fitting wr made) c (left_size wr made below possible) (is ∙ new_header wr (writes wr made)))).sum_is;
          other = λ it. other_payload (sym in_place ∙ it ∙ under_new is);
          sum = ap crc32c in_place ∙ sum;
        }))
      where
        in_place : standing c ≡ payload_in c q.payload
        in_place = under_payload t.pair x i al.led.leads (fitting wr made) c (left_size wr made below possible) (is ∙ new_header wr (writes wr made))

    abbrev After : Type 0
    After = Next p' index i q.payload after.under t.known n (whole wr)

    on_neither : Short (beside x t.pair) → (take 128 c ≡ take 128 (new wr) → ⊥) → (take 128 c ≡ take 128 (beside x t.pair) → ⊥)
        → header_passes c ≡ true → After
    on_neither short not_new not_old passes = by_version (same_header c (past index t).valid) refl
      where
        known_version : OlderVersion (past index t).valid (asked x t.pair) i (length (beside x t.pair))
        known_version = subst (λ (p : Past). OlderVersion p.valid (asked x t.pair) i (length (beside x t.pair))) (past_back index t) al.led.loser

        by_version : (same : Bool) → pointwise nat_eq (take 128 c) (take 128 (past index t).valid) ≡ same → After
        by_version true is =
            let front = (bytes_decides (take 128 c) (take 128 (past index t).valid)).0 is in
            let sizes = known_version.sizes ∙ sym (left_size wr made below possible) in
            on_older t.pair index i al.led.leads c (left_size wr made below possible) (left_bytes wr made below possible) n below
            (past index t).valid sizes
            (known_version.older (front_passes c (past index t).valid front (sym sizes) (left_short wr made below possible short) passes)) front
            q.payload after.under t.known (whole wr) (not_whole c (new wr) q.payload not_new)
        by_version false is =
            absurd
            (none
            (HarmfulAccident.header
            (record { passes = passes; not_old = λ same. not_old (same ∙ ap (take 128) (sym (old_is wr made))); not_new = not_new })
            (differ (take 128 c) (take 128 (past index t).valid) is)))

    next : Resting t.pair x i ⊎ Flying t.pair x i (past (other x) t).under t.known n → After
    next (inl resting) =
        left_resting wr made below possible t.known after.under under_new none_new
        (on_neither (resting_short t.pair x i al.led.leads resting)) resting
    next (inr flying) =
        left_flying wr made below possible t.known after.under under_new none_new
        (on_neither (flying_short t.pair x i al.led.leads flying)) flying under_old
        (λ not_new passes front other_payload sum.
        none (HarmfulAccident.payload (record { passes = passes; other = λ it. other_payload (it ∙ under_old not_new front); sum = sum })))

    slot_is : slot_at (other x) p' ≡ with_bytes c (slot_at index t.pair)
    slot_is = back_slot p' index ∙ put_slot t.pair c index

    among : IsAmong known (payload_of i (slot_at x p').bytes)
    among = subst (IsAmong known) (sym (record_kept c)) (among_later q.payload t.known al.led.known)

    -- The slot's last Valid version before the write, beside the same winner.
    version_kept : OlderVersion (past index t).valid (asked x p') i (length (beside x p'))
    version_kept =
        subst (λ (p : Past). OlderVersion p.valid (asked x p') i (length (beside x p'))) (past_back index t)
        (subst (λ (e : Expect). OlderVersion (past (other x) t).valid e i (length (beside x p')))
        (ap (λ (s : Slot). s.expect) (back_slot t.pair index) ∙ ap (λ (s : Slot). s.expect) (sym slot_is))
        (subst (OlderVersion (past (other x) t).valid (asked x t.pair) i)
        (sym (left_size wr made below possible) ∙ ap (λ (s : Slot). length s.bytes) (sym slot_is)) al.led.loser))

    rests_on : Leads p' x i → Resting p' x i → Rests (torn_by wr t)
    rests_on leads resting =
        record {
          x = x;
          i = i;
          led =
              led_kept index c after known t i leads among (winner_kept c)
              (version_after (validate c (expect wr))
              (subst (λ (s : List ℕ). OlderVersion s (asked x p') i (length (beside x p'))) (ap (λ (s : Slot). s.bytes) slot_is)
              (resting_version p' x i resting))
              version_kept);
          resting = subst (λ (p : Pair). Resting p x i) (tracked_pair index c after known t) resting;
        }

    top_kept : Leads (torn_by wr t).pair x i → winner_number (shown_pair (torn_by wr t).pair) ≡ i.meta_seq
        → n ≡ top before (torn_by wr t).pair behind
    top_kept leads number_is =
        let o = t.pair.operator in
        let same : (torn_by wr t).pair.operator ≡ o = tracked_operator index c after known t in
        let was = winners_are (all_rested placed.first) (all_rested placed.rest) t.pair x i al.led.leads al.number o refl in
        let is = winners_are (all_rested placed.first) (all_rested placed.rest) (torn_by wr t).pair x i leads number_is o same in
        let before_is = placed.number in
        rw same (omega arith)

    flies_on : Leads p' x i → Flying p' x i after.under known n → Outcome (torn_by wr t)
    flies_on leads flying =
        let fly : Flies (torn_by wr t) n = record { x = x; i = i; led = led; flying = flying_kept index c after known t i n flying } in
        Outcome.flies
        (record {
          x = x;
          i = i;
          led = led;
          flying =
              subst (λ (k : ℕ). Flying (torn_by wr t).pair x i (past (other x) (torn_by wr t)).under (torn_by wr t).known k)
              (top_kept led.leads (flies_number fly)) fly.flying;
        })
        (other_other index)
      where
        valid_is : after.valid ≡ (past index t).valid
        valid_is =
            ap (λ (st : SlotStatus). valid_after st c (past index t).valid) (sym (ap status slot_is))
            ∙ flying_not_valid p' x i leads flying c (past index t).valid

        led : Led (torn_by wr t) x i
        led =
            led_kept index c after known t i leads among (winner_kept c)
            (subst (λ (v : List ℕ). OlderVersion v (asked x p') i (length (beside x p'))) (sym valid_is) version_kept)

    outcome : After → Outcome (torn_by wr t)
    outcome (Next.rested torn leads resting) = Outcome.rests (rests_on leads resting)
    outcome (Next.flown torn leads flying) = flies_on leads flying
    outcome (Next.won j leads resting number_is read) =
        Outcome.rests
        (won_rests c after known j leads resting
        (ap (λ (st : SlotStatus). valid_after st c (past index t).valid) (sym (ap status (put_slot t.pair c index)) ∙ leads.valid)
        ∙ ap (λ (s : Slot). s.bytes) (sym (put_slot t.pair c index)))
        (read_known q.payload t.known read))

    pub cut_state : State (before ++ torn_by (write_to before t behind q) t ∷ behind)
    cut_state = outcome_state (outcome (next al.place))

    pub cut_named : (named (pairs (before ++ torn_by (write_to before t behind q) t ∷ behind)) ≡ None)
        ⊎ (named (pairs (before ++ torn_by (write_to before t behind q) t ∷ behind)) ≡ Some (length before, q.index))
    cut_named = outcome_named (outcome (next al.place))
