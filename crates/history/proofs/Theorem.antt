-- The theorem over histories: each step leads from a state to the next; and where no write sets the volume record's mark, it stays false.
use Rattle.std.proofs.Common.{◌≡◌, refl, sym, ap, subst, ◌∙◌, ◌⊎◌, inl, inr, Bool, true, false, List, [], ◌∷◌, ◌++◌, ℕ, zero, suc, ◌≤◌, arith, length, take, map, Option, Some}
use Rattle.std.specs.List.{IsAmong}
use Rattle.std.proofs.lemmas.List.{length-map}
use Rattle.codec.specs.Bytes.{le32}
use Rattle.codec.specs.Crc32c.{crc32c}
use Rattle.slot.specs.Payload.{payload as payload_of}
use Rattle.slot.specs.Write.{header_crc}
use Rattle.slot.specs.declared.slot.SlotIndex.{SlotIndex}
use Rattle.slot.specs.declared.slot.SlotInfo.{SlotInfo}
use Rattle.pair.specs.Pair.{winner_info}
use Rattle.judge.specs.Operators.{operators_in_range}
use Rattle.judge.specs.Judge.{most_pairs, judgement}
use Rattle.cut.specs.Store.{Every, Pair, clean_mark, slot_at, report, shown, store_mark, SoundPair, IsRow}
use Rattle.cut.specs.Cut.{Tear, Write, size, old, new, left, Possible, is_empty}
use Rattle.cut.proofs.EveryLaws.{same_length}
use Rattle.cut.proofs.StatusLaws.{false_true}
use Rattle.cut.proofs.StatementLaws.{one_payload}
use Rattle.cut.proofs.PairLaws.{last_is}
use Rattle.cut.proofs.StateLaws.{sound_won}
use Rattle.cut.proofs.Theorem.{row_range}
use Rattle.cut.proofs.RowLaws.{range_kept, rested_stands}
use Rattle.history.specs.History.{Past, Tracked, past, past_after, pairs, standing, started, record_in, read_mark, Turn, HistoryAccident, HarmfulAccident, write_to, finished, torn_by, Reached, Promised, HistoryTheorem}
use Rattle.history.specs.Laws.{AnyStoreBegins, AnyWriteAllowed, AnyVolumeWriteAllowed, AnyHealAllowed, AnyCutGoesOn, KnownRecords, ReadIsKnown, Unmarked, TheoremWithoutMark, UnmarkedBegins, UnmarkedFinish, UnmarkedCut, StartMark, FinishedMark, AsWritten, LinkAtMost, AnyAsWritten, FailedPayload, OnlyTheWritten, HarmfulAlone, HarmfulIsAccident}
use Rattle.history.proofs.States.{Led, Rests, rested, State, pairs_row, flies_stand, all_named, none_named, mark_counted, promised}
use Rattle.history.proofs.Steps.{start_all, tracked_operator, tracked_known, under_whole, under_kept, finish_state, finish_named, cut_state, cut_named}

-- ---- the states that are reached

row_some : {ps : List Pair} → IsRow ps → 1 ≤ length (map started ps)
row_some (IsRow.row volume pages range) = omega arith

pub reached_state : {ts : List Tracked} → Reached HarmfulAccident ts → State ts
reached_state (Reached.start sound few) = State.all_rest (row_some sound.row) (start_all sound.pairs)
reached_state (Reached.finish before t behind reached q allowed) = finish_state before t behind q (reached_state reached) allowed
reached_state (Reached.cut before t behind reached q allowed possible none) =
    cut_state before t behind q (reached_state reached) allowed possible none

-- ---- and the number of their pairs stays

pub reached_few : {ts : List Tracked} → Reached HarmfulAccident ts → length ts ≤ most_pairs
reached_few (Reached.start {ps} sound few) = omega (arith, length-map ps started, few)
reached_few (Reached.finish before t behind reached q allowed) =
    subst (λ (n : ℕ). n ≤ most_pairs) (same_length before t (finished (write_to before t behind q) t) behind) (reached_few reached)
reached_few (Reached.cut before t behind reached q allowed possible none) =
    subst (λ (n : ℕ). n ≤ most_pairs) (same_length before t (torn_by (write_to before t behind q) t) behind) (reached_few reached)

-- ---- and so do their operators

started_pairs : (ps : List Pair) → pairs (map started ps) ≡ ps
started_pairs [] = refl
started_pairs (p ∷ ps) = ap (λ (qs : List Pair). p ∷ qs) (started_pairs ps)

step_range : (before : List Tracked) (t u : Tracked) (behind : List Tracked) → u.pair.operator ≡ t.pair.operator
    → operators_in_range true (shown (pairs (before ++ t ∷ behind))) ≡ true → operators_in_range true (shown (pairs (before ++ u ∷ behind))) ≡ true
step_range before t u behind same range =
    ap (λ (ps : List Pair). operators_in_range true (shown ps)) (pairs_row before u behind)
    ∙ range_kept true (pairs before) t.pair u.pair (pairs behind) same
    ∙ ap (λ (ps : List Pair). operators_in_range true (shown ps)) (sym (pairs_row before t behind))
    ∙ range

pub reached_range : {ts : List Tracked} → Reached HarmfulAccident ts → operators_in_range true (shown (pairs ts)) ≡ true
reached_range (Reached.start {ps} sound few) =
    ap (λ (qs : List Pair). operators_in_range true (shown qs)) (started_pairs ps) ∙ row_range sound.row
reached_range (Reached.finish before t behind reached q allowed) =
    step_range before t (finished (write_to before t behind q) t) behind (tracked_operator q.index _ _ (q.payload ∷ []) t) (reached_range reached)
reached_range (Reached.cut before t behind reached q allowed possible none) =
    step_range before t (torn_by (write_to before t behind q) t) behind (tracked_operator q.index _ _ (q.payload ∷ t.known) t) (reached_range reached)

-- ---- in a history without the mark it stays false

abbrev AllUnmarked : List (List ℕ) → Type 0
AllUnmarked known = Every (λ (r : List ℕ). clean_mark r ≡ false) known

abbrev Marks : List Tracked → Type 0
Marks [] = Unit {0}
Marks (t ∷ ts) = AllUnmarked t.known

among_unmarked : (known : List (List ℕ)) {r : List ℕ} → IsAmong known r → AllUnmarked known → clean_mark r ≡ false
among_unmarked [] among Every.none = let none = among.1.0 in absurd (omega arith)
among_unmarked (q ∷ known) (zero, place) (Every.more here rest) = ap clean_mark place.1 ∙ here
among_unmarked (q ∷ known) (suc k, place) (Every.more here rest) = among_unmarked known (k, (let within = place.0 in omega arith, place.1)) rest

start_marks : (ps : List Pair) → store_mark ps ≡ false → Marks (map started ps)
start_marks [] unmarked = tt
start_marks (p ∷ ps) unmarked = Every.more unmarked Every.none

step_marks : (before : List Tracked) (t u : Tracked) (behind : List Tracked) → Marks (before ++ t ∷ behind)
    → (is_empty (pairs before) ≡ true → AllUnmarked t.known → AllUnmarked u.known) → Marks (before ++ u ∷ behind)
step_marks [] t u behind marks step = step refl marks
step_marks (q ∷ before) t u behind marks step = marks

unmarked_marks : {ts : List Tracked} {reached : Reached HarmfulAccident ts} → Unmarked ts reached → Marks ts
unmarked_marks (Unmarked.start {ps} unmarked) = start_marks ps unmarked
unmarked_marks (Unmarked.finish {before} {t} {behind} {q = q} before_it unmarked) =
    let w = write_to before t behind q in
    step_marks before t (finished w t) behind (unmarked_marks before_it)
    (λ first marks. subst AllUnmarked (sym (tracked_known q.index _ _ (q.payload ∷ []) t)) (Every.more (unmarked first) Every.none))
unmarked_marks (Unmarked.cut {before} {t} {behind} {q = q} before_it unmarked) =
    let w = write_to before t behind q in
    step_marks before t (torn_by w t) behind (unmarked_marks before_it)
    (λ first marks. subst AllUnmarked (sym (tracked_known q.index _ _ (q.payload ∷ t.known) t)) (Every.more (unmarked first) marks))

-- The record in pair 0's winner is known.
first_unmarked : {t : Tracked} {x : SlotIndex} {i : SlotInfo} → Led t x i → winner_info (report t.pair) ≡ Some (x, i) → AllUnmarked t.known
    → clean_mark (record_in (winner_info (report t.pair)) t.pair) ≡ false
first_unmarked {t} led won unmarked =
    ap (λ (found : Option (SlotIndex × SlotInfo)). clean_mark (record_in found t.pair)) won ∙ among_unmarked t.known led.known unmarked

state_unmarked : (ts : List Tracked) → State ts → Marks ts → read_mark (pairs ts) ≡ false
state_unmarked [] state marks = refl
state_unmarked (t ∷ ts) (State.all_rest some (Every.more rests rest)) marks = first_unmarked rests.led (rested_stands (rested rests) (λ index number. true)).won marks
state_unmarked ts (State.one_flies [] t behind is Every.none fly rest_behind unset) marks =
    subst (λ (us : List Tracked). Marks us → read_mark (pairs us) ≡ false) (sym is)
    (λ first. first_unmarked fly.led (flies_stand fly (λ index number. true) refl refl).won first) marks
state_unmarked ts (State.one_flies (u ∷ before) t behind is (Every.more rests rest_before) fly rest_behind unset) marks =
    subst (λ (us : List Tracked). Marks us → read_mark (pairs us) ≡ false) (sym is)
    (λ first. first_unmarked rests.led (rested_stands (rested rests) (λ index number. true)).won first) marks

unmarked_read : (ts : List Tracked) (reached : Reached HarmfulAccident ts) → Unmarked ts reached → read_mark (pairs ts) ≡ false
unmarked_read ts reached unmarked = state_unmarked ts (reached_state reached) (unmarked_marks unmarked)

first_mark : (p : Pair) (ps : List Pair) → Every SoundPair (p ∷ ps) → read_mark (pairs (map started (p ∷ ps))) ≡ store_mark (p ∷ ps)
first_mark p ps (Every.more sound rest) =
    ap (λ (won : Option (SlotIndex × SlotInfo)). clean_mark (record_in won p)) (sound_won p sound) ∙ ap clean_mark (sym (last_is p sound))

pub start_mark : StartMark
start_mark [] sound = refl
start_mark (p ∷ ps) sound = first_mark p ps sound.pairs

-- ---- after a write of pair 0 that is finished

among_one : {r q : List ℕ} → IsAmong (q ∷ []) r → r ≡ q
among_one (zero, place) = place.1
among_one (suc k, place) = let within = place.0 in absurd (omega arith)

one_read : (t : Tracked) (ts : List Tracked) (q : List ℕ) → Rests t → t.known ≡ q ∷ [] → read_mark (pairs (t ∷ ts)) ≡ clean_mark q
one_read t ts q rests known =
    ap (λ (found : Option (SlotIndex × SlotInfo)). clean_mark (record_in found t.pair)) (rested_stands (rested rests) (λ index number. true)).won
    ∙ ap clean_mark (among_one (subst (λ (all : List (List ℕ)). IsAmong all (payload_of rests.i (slot_at rests.x t.pair).bytes)) known rests.led.known))

first_rests : {t : Tracked} {ts : List Tracked} → Every Rests (t ∷ ts) → Rests t
first_rests (Every.more rests rest) = rests

pub finished_mark : FinishedMark
finished_mark t behind q reached allowed =
    let u = finished (write_to [] t behind q) t in
    let state = finish_state [] t behind q (reached_state reached) allowed in
    let none = finish_named [] t behind q (reached_state reached) allowed in
    let read = one_read u behind q.payload (first_rests (none_named state none)) (tracked_known q.index _ _ (q.payload ∷ []) t) in
    record {
      read = read;
      answered =
          subst (λ (m : Bool). (judgement (shown (pairs (u ∷ behind))) m).clean ≡ m) read (mark_counted (u ∷ behind) state none);
    }

-- ---- what is known

pub known_records : KnownRecords
known_records =
    record {
      start = λ p. refl;
      finish = λ w t. tracked_known w.index (new w) (record { under = w.payload; valid = new w }) (w.payload ∷ []) t;
      cut = λ w t. tracked_known w.index (left w) (past_after w (past w.index t)) (w.payload ∷ t.known) t;
    }

pub read_is_known : ReadIsKnown
read_is_known t v r known part = subst (IsAmong t.known) (one_payload t.pair known.payload r known.back.part part) known.known

-- ---- what is no accident

module _ (w : Write) (before : Past) where
  link_at_most_of : (winner : SlotInfo) → AsWritten w before → HistoryAccident w before winner
      → header_crc w.fields w.payload ≡ winner.prev_header_crc32c
  link_at_most_of winner as_written (HistoryAccident.link is) = is
  link_at_most_of winner (AsWritten.fails fails) (HistoryAccident.header other) = false_true fails other.passes
  link_at_most_of winner (AsWritten.fails fails) (HistoryAccident.payload other) = false_true fails other.passes
  link_at_most_of winner (AsWritten.kept not_new is stands) (HistoryAccident.header other) = absurd (other.not_old is)
  link_at_most_of winner (AsWritten.kept not_new is stands) (HistoryAccident.payload other) =
      absurd (other.other (stands ∙ sym (under_kept w before not_new is)))
  link_at_most_of winner (AsWritten.whole is stands) (HistoryAccident.header other) = absurd (other.not_new is)
  link_at_most_of winner (AsWritten.whole is stands) (HistoryAccident.payload other) = absurd (other.other (stands ∙ sym (under_whole w before is)))

pub link_at_most : LinkAtMost
link_at_most w before winner = link_at_most_of w before winner

pub any_as_written : AnyAsWritten
any_as_written =
    record {
      fails = λ w before fails. AsWritten.fails fails;
      kept = λ w before not_new is stands. AsWritten.kept not_new is stands;
      whole = λ w before is stands. AsWritten.whole is stands;
    }

pub failed_payload : FailedPayload
failed_payload = record { stated = stated; harmful = harmful }
  where
    stated : (w : Write) (before : Past) (winner : SlotInfo)
        → (take 128 (left w) ≡ take 128 (old w)) ⊎ (take 128 (left w) ≡ take 128 (new w))
        → (crc32c (standing (left w)) ≡ le32 (left w) 28 → ⊥)
        → HistoryAccident w before winner → header_crc w.fields w.payload ≡ winner.prev_header_crc32c
    stated w before winner (inl is) fails (HistoryAccident.header other) = absurd (other.not_old is)
    stated w before winner (inr is) fails (HistoryAccident.header other) = absurd (other.not_new is)
    stated w before winner either fails (HistoryAccident.payload other) = absurd (fails other.sum)
    stated w before winner either fails (HistoryAccident.link is) = is

    harmful : (w : Write) (before : Past) (winner : SlotInfo)
        → (take 128 (left w) ≡ take 128 (old w)) ⊎ ((take 128 (left w) ≡ take 128 (new w)) ⊎ (take 128 (left w) ≡ take 128 before.valid))
        → (crc32c (standing (left w)) ≡ le32 (left w) 28 → ⊥)
        → HarmfulAccident w before winner → ⊥
    harmful w before winner (inl is) fails (HarmfulAccident.header other not_valid) = other.not_old is
    harmful w before winner (inr (inl is)) fails (HarmfulAccident.header other not_valid) = other.not_new is
    harmful w before winner (inr (inr is)) fails (HarmfulAccident.header other not_valid) = not_valid is
    harmful w before winner either fails (HarmfulAccident.payload other) = fails other.sum

-- ---- the slot that is named

pub only_the_written : OnlyTheWritten
only_the_written =
    record {
      start = λ ps sound. all_named (row_some sound.row) (start_all sound.pairs);
      finish = λ before t behind reached q allowed. finish_named before t behind q (reached_state reached) allowed;
      cut = λ before t behind reached q allowed possible none. cut_named before t behind q (reached_state reached) allowed possible none;
    }

-- ---- the theorem

pub harmful_alone : HarmfulAlone
harmful_alone ts reached out room =
    promised ts (reached_state reached) (reached_few reached) (reached_range reached) out room

pub harmful_is_accident : HarmfulIsAccident
harmful_is_accident w before winner (HarmfulAccident.header header not_valid) = HistoryAccident.header header
harmful_is_accident w before winner (HarmfulAccident.payload payload) = HistoryAccident.payload payload

unfoldable fewer : {ts : List Tracked} → Reached HistoryAccident ts → Reached HarmfulAccident ts
fewer (Reached.start sound few) = Reached.start sound few
fewer (Reached.finish before t behind reached q allowed) = Reached.finish before t behind (fewer reached) q allowed
fewer (Reached.cut before t behind reached q allowed possible none) =
    Reached.cut before t behind (fewer reached) q allowed possible
    (λ accident. none (harmful_is_accident (write_to before t behind q) (past q.index t) allowed.correct.winner accident))

fewer_unmarked : {ts : List Tracked} {reached : Reached HistoryAccident ts} → Unmarked ts reached → Unmarked ts (fewer reached)
unfolding fewer
fewer_unmarked (Unmarked.start {ps} {sound} {few} unmarked) = Unmarked.start {ps = ps} {sound = sound} {few = few} unmarked
fewer_unmarked (Unmarked.finish before_it unmarked) = Unmarked.finish (fewer_unmarked before_it) unmarked
fewer_unmarked (Unmarked.cut before_it unmarked) = Unmarked.cut (fewer_unmarked before_it) unmarked

pub history_theorem : HistoryTheorem
history_theorem ts reached = harmful_alone ts (fewer reached)

pub theorem_without_mark : TheoremWithoutMark
theorem_without_mark ts reached unmarked out room =
    let unset = unmarked_read ts (fewer reached) (fewer_unmarked unmarked) in
    record {
      read = unset;
      turn = ap (λ (clean : Bool). (judgement (shown (pairs ts)) clean).heal) unset;
      promised = subst (λ (clean : Bool). Promised clean ts out) unset (history_theorem ts reached out room);
    }

pub unmarked_begins : UnmarkedBegins
unmarked_begins ps sound few unset = Unmarked.start {ps = ps} {sound = sound} {few = few} unset

pub unmarked_finish : UnmarkedFinish
unmarked_finish before t behind reached q allowed unmarked unset = Unmarked.finish unmarked unset

pub unmarked_cut : UnmarkedCut
unmarked_cut before t behind reached q allowed possible none unmarked unset = Unmarked.cut unmarked unset

-- ---- what it asks for

pub any_store_begins : AnyStoreBegins
any_store_begins ps sound few = Reached.start sound few

pub any_write_allowed : AnyWriteAllowed
any_write_allowed w none unset correct = record { number = _; turn = Turn.free none (λ set. false_true unset set); correct = correct }

pub any_volume_write_allowed : AnyVolumeWriteAllowed
any_volume_write_allowed w none volume correct = record { number = _; turn = Turn.free none (λ set. ap is_empty volume); correct = correct }

pub any_heal_allowed : AnyHealAllowed
any_heal_allowed w named_it correct = record { number = _; turn = Turn.healing named_it; correct = correct }

pub any_cut_goes_on : AnyCutGoesOn
any_cut_goes_on before t behind q so_far allowed =
    record {
      finished_write = Reached.finish before t behind so_far q allowed;
      torn_write = λ none k is point. Reached.cut before t behind so_far q allowed (subst (λ (tear : Tear). Possible tear (size (write_to before t behind q))) (sym is) point) none;
      torn_sectors = λ none reached is. Reached.cut before t behind so_far q allowed (subst (λ (tear : Tear). Possible tear (size (write_to before t behind q))) (sym is) tt) none;
    }
