-- What a step of a history of the store needs, from how its pairs are read: what is computed of a state, the number of a write, that it is
-- allowed or refused, and that a cut is no accident.
use Rattle.std.proofs.Common.{◌≡◌, refl, sym, ap, ap₂, ◌∙◌, ◌⊎◌, inl, inr, Bool, true, false, cond, ◌==◌, eq-eqb, List, [], ◌∷◌, ◌++◌, ℕ, ◌+◌, ◌^◌, ◌≤◌, length, map, take, replicate, Option, Some, None, Ok}
use Rattle.std.proofs.lemmas.Option.{some_pair_parts}
use Rattle.codec.specs.Bytes.{AllBytes, le32}
use Rattle.codec.specs.Crc32c.{crc32c}
use Rattle.slot.specs.Status.{other}
use Rattle.slot.specs.Payload.{payload as payload_of}
use Rattle.slot.specs.Write.{header_crc}
use Rattle.slot.specs.Laws.{Fits}
use Rattle.slot.specs.declared.slot.SlotIndex.{SlotIndex}
use Rattle.slot.specs.declared.slot.SlotInfo.{SlotInfo}
use Rattle.slot.specs.declared.slot.SlotFields.{SlotFields}
use Rattle.pair.specs.Pair.{decide, winner_info}
use Rattle.pair.specs.Winner.{read_pair}
use Rattle.judge.specs.Verdict.{by_index}
use Rattle.judge.specs.Numbers.{numbers, highest}
use Rattle.judge.specs.Judge.{judgement}
use Rattle.judge.specs.Records.{pair_read}
use Rattle.judge.specs.Frames.{judge_frames, frames_left}
use Rattle.judge.specs.Same.{Framed, frames_of, pairs_of, mark}
use Rattle.judge.specs.declared.pairs.Pair.{Pair as ShownPair}
use Rattle.judge.specs.declared.records.PairRead.{PairRead}
use Rattle.cut.specs.Store.{Pair, accepts, clean_mark, slot_at, report, slot_read, framed_pair, shown}
use Rattle.cut.specs.Cut.{Tear, Write, store, new, left, next_number, header_passes, is_empty}
use Rattle.cut.proofs.StatusLaws.{false_true}
use Rattle.cut.proofs.PairLaws.{won_payload}
use Rattle.cut.proofs.StatementLaws.{one_payload}
use Rattle.plan.specs.Numbers.{highest_winner}
use Rattle.cut_examples.specs.Stores.{volume_record, page_record, volume_pair, second_page, read_with}
use Rattle.cut_examples.specs.Computed.{writable_store, blank_read}
use Rattle.cut_examples.specs.Cuts.{volume_read}
use Rattle.cut_examples.proofs.Writes.{clean_marks, write_correct}
use Rattle.cut_examples.proofs.SlotsRead.{framed_read, framed_row, PairRecord, RowRecords, more, none, row_framed, judged_row}
use Rattle.cut_examples.proofs.Computed.{second_read, volume_pair_read, second_page_read}
use Rattle.history.specs.History.{Past, Tracked, pairs, started, record_in, read_mark, standing, named, heal_number, Turn, Allowed, HistoryAccident, write_to}
use Rattle.history.proofs.States.{pairs_row}
use Rattle.history_examples.specs.States.{put, StoreIs, NumbersIn}

-- ---- what is written

-- In format 2, with the identity and size that its slot of the pair is read with, an acceptable payload that fits.
pub record Fitting (p : Pair) (f : SlotFields) (payload : List ℕ) : Type 0 where
  pub fits : Fits f
  pub format : f.format_major ≡ 2
  pub asked : read_with f ≡ (slot_at f.slot_index p).expect
  pub bytes : AllBytes payload
  pub accepted : accepts p.decoder payload ≡ true
  pub room : 128 + length payload ≤ 2 ^ f.log2_slot_size

-- ---- how a store is read

-- A pair t with others before and behind it is read as x, all of them as xs; these records are read back, and this mark.
pub record ReadAs (before : List Tracked) (t : Tracked) (behind : List Tracked) (x : PairRead) (xs : List PairRead) (rs : List (List ℕ))
    (set : Bool) : Type 0 where
  pub row : RowRecords (pairs before ++ t.pair ∷ pairs behind) xs rs
  pub pair : framed_pair t.pair ≡ framed_read x
  pub mark_is : read_mark (pairs before ++ t.pair ∷ pairs behind) ≡ set

report_by : (p : Pair) {x : PairRead} → framed_pair p ≡ framed_read x → report p ≡ decide x.a.status x.b.status
unfolding read_pair
report_by p read = ap (λ (f : Framed). decide f.pair.a.status f.pair.b.status) read

-- The mark that is read is that of pair 0's record.
pub mark_by : {p : Pair} (ps : List Pair) {x : PairRead} {r : List ℕ} {index : SlotIndex} {i : SlotInfo} {set : Bool} → PairRecord p x r
    → winner_info (decide x.a.status x.b.status) ≡ Some (index, i) → clean_mark r ≡ set → read_mark (p ∷ ps) ≡ set
mark_by {p} ps {x} {r} {index} {i} pair won is =
    let won_is = ap winner_info (report_by p pair.read) ∙ won in
    ap (λ (won : Option (SlotIndex × SlotInfo)). clean_mark (record_in won p)) won_is
    ∙ ap clean_mark (one_payload p (payload_of i (slot_at index p).bytes) r (won_payload p index i won_is) pair.back)
    ∙ is

-- Where pair 1 is written.
pub page_in : (t : Tracked) {x : PairRead} {r : List ℕ} → PairRecord t.pair x r
    → ReadAs (started volume_pair ∷ []) t (started second_page ∷ []) x
    (record { a = volume_read; b = blank_read; operator = 0 } ∷ x ∷ record { a = second_read; b = blank_read; operator = 1 } ∷ [])
    (volume_record false ∷ r ∷ page_record 1 0 ∷ []) false
unfolding decide
page_in t pair =
    record {
      row = more volume_pair_read (more pair (more second_page_read none));
      pair = pair.read;
      mark_is = mark_by (t.pair ∷ second_page ∷ []) volume_pair_read refl clean_marks.0;
    }

-- What the judge is shown.
abbrev pub shown_row : List PairRead → List ShownPair
shown_row xs = map pair_read (pairs_of (framed_row xs))

-- Where the mark is set, pair 0 is first.
first_by : (set first : Bool) → cond set first true ≡ true → set ≡ true → first ≡ true
first_by true first test is = test
first_by false first test is = false_true refl is

module _ {before : List Tracked} {t : Tracked} {behind : List Tracked} {x : PairRead} {xs : List PairRead} {rs : List (List ℕ)} {set : Bool}
    (here : ReadAs before t behind x xs rs set) where
  abbrev ps : List Pair
  ps = pairs before ++ t.pair ∷ pairs behind

  shown_is : shown ps ≡ shown_row xs
  shown_is = ap (λ (fs : List Framed). map pair_read (pairs_of fs)) (row_framed here.row)

  operator_is : t.pair.operator ≡ x.operator
  operator_is = ap (λ (f : Framed). f.pair.operator) here.pair

  slot_is : (index : SlotIndex) → slot_read (slot_at index t.pair) ≡ by_index index x.a x.b
  slot_is SlotIndex.A = ap (λ (f : Framed). f.pair.a) here.pair
  slot_is SlotIndex.B = ap (λ (f : Framed). f.pair.b) here.pair

  -- The slot that is named and the numbers, from what the judge is shown.
  pub named_is : named ps ≡ (judgement (shown_row xs) set).heal
  named_is = ap₂ (λ (qs : List ShownPair) (m : Bool). (judgement qs m).heal) shown_is here.mark_is

  next_shown : next_number ps t.pair ≡ highest (numbers x.operator (shown_row xs)) + 1
  next_shown = ap₂ (λ (o : ℕ) (qs : List ShownPair). highest (numbers o qs) + 1) operator_is shown_is

  heal_shown : heal_number ps t.pair ≡ highest_winner x.operator (shown_row xs) + 1
  heal_shown = ap₂ (λ (o : ℕ) (qs : List ShownPair). highest_winner o qs + 1) operator_is shown_is

  pub numbers_by : {n m : ℕ} → highest (numbers x.operator (shown_row xs)) + 1 ≡ n → highest_winner x.operator (shown_row xs) + 1 ≡ m
      → NumbersIn (before ++ t ∷ behind) t n m
  numbers_by next heal =
      record { next_is = rw (pairs_row before t behind) (next_shown ∙ next); heal_is = rw (pairs_row before t behind) (heal_shown ∙ heal) }

  pub state_by : (index : SlotIndex) {heal : Option (ℕ × SlotIndex)} {clean : Bool} {verdict : List ℕ} {known : List (List ℕ)}
      → judge_frames (frames_of (framed_row xs)) (mark set) 12 ≡ Ok (writable_store heal clean)
      → frames_left (frames_of (framed_row xs)) (mark set) (replicate 12 0) ≡ verdict
      → t.known ≡ known
      → StoreIs (before ++ t ∷ behind) t index (by_index index x.a x.b) set heal clean verdict rs known
  state_by index answer written known =
      record {
        mark_is = rw (pairs_row before t behind) here.mark_is;
        judged = rw (pairs_row before t behind) (judged_row (slot_at index t.pair) (slot_is index) here.row answer written);
        known_is = known;
      }

  -- ---- a write

  module _ {f : SlotFields} {payload : List ℕ} (fitting : Fitting t.pair f payload) (tear : Tear) where
    abbrev w : Write
    w = write_to before t behind (put f payload tear)

    allowed_by : {n : ℕ} → Turn w n → f.meta_seq ≡ n → {i : SlotInfo}
        → winner_info (decide x.a.status x.b.status) ≡ Some (other f.slot_index, i)
        → f.generation ≡ i.generation + 1 → f.prev_header_crc32c ≡ i.header_crc32c → Allowed w
    allowed_by {n} turn number {i} won generation prev =
        record {
          number = n;
          turn = turn;
          correct =
              write_correct (pairs before) t.pair (pairs behind) f fitting.fits fitting.format fitting.asked number i
              (ap winner_info (report_by t.pair here.pair) ∙ won) generation prev payload fitting.bytes fitting.accepted fitting.room tear;
        }

    -- It is its turn where no slot is named, of pair 0 where the mark is set,
    pub free : (judgement (shown_row xs) set).heal ≡ None → cond set (is_empty (pairs before)) true ≡ true
        → f.meta_seq ≡ highest (numbers x.operator (shown_row xs)) + 1 → {i : SlotInfo}
        → winner_info (decide x.a.status x.b.status) ≡ Some (other f.slot_index, i) → f.generation ≡ i.generation + 1
        → f.prev_header_crc32c ≡ i.header_crc32c
        → Allowed w
    free heal first number =
        allowed_by (Turn.free (named_is ∙ heal) (λ is. first_by set (is_empty (pairs before)) first (sym here.mark_is ∙ is)))
        (number ∙ sym next_shown)

    -- and where its own is.
    pub healing : (judgement (shown_row xs) set).heal ≡ Some (length (pairs before), f.slot_index)
        → f.meta_seq ≡ highest_winner x.operator (shown_row xs) + 1
        → {i : SlotInfo}
        → winner_info (decide x.a.status x.b.status) ≡ Some (other f.slot_index, i) → f.generation ≡ i.generation + 1
        → f.prev_header_crc32c ≡ i.header_crc32c
        → Allowed w
    healing heal number = allowed_by (Turn.healing (named_is ∙ heal)) (number ∙ sym heal_shown)

    -- The winner that it is made beside is that of the pair.
    pub winner_is : (allowed : Allowed w) → {i : SlotInfo} → winner_info (decide x.a.status x.b.status) ≡ Some (other f.slot_index, i)
        → allowed.correct.winner ≡ i
    winner_is allowed won = sym (some_pair_parts _ _ _ _ (sym (ap winner_info (report_by t.pair here.pair) ∙ won) ∙ allowed.correct.won)).1

-- ---- a write that is refused

-- While the mark is set and no slot is named, it is no page's turn.
pub page_refused : (w : Write) → is_empty w.before ≡ false → read_mark (store w) ≡ true → named (store w) ≡ None → Allowed w → ⊥
page_refused w page set none_named allowed = go allowed.turn
  where
    go : {n : ℕ} → Turn w n → ⊥
    go (Turn.free is first) = false_true page (first set)
    go (Turn.healing is) =
        let never : ◌≡◌ {A = Option (ℕ × SlotIndex)} None (Some (length w.before, w.index)) = sym none_named ∙ is in absurd cc

-- ---- no accident

-- The header that was left fails, or it is the new one and the payload fails; and the new header has another checksum than the winner's
-- previous one.
pub no_accident : (w : Write) (before : Past) {winner i : SlotInfo} {own : ℕ} → winner ≡ i → header_crc w.fields w.payload ≡ own
    → (own == i.prev_header_crc32c) ≡ false
    → (header_passes (left w) ≡ false) ⊎ ((take 128 (left w) ≡ take 128 (new w)) × ((crc32c (standing (left w)) == le32 (left w) 28) ≡ false))
    → HistoryAccident w before winner → ⊥
no_accident w before won_is own_is unlinked (inl fails) (HistoryAccident.header other) = false_true fails other.passes
no_accident w before won_is own_is unlinked (inl fails) (HistoryAccident.payload other) = false_true fails other.passes
no_accident w before won_is own_is unlinked (inr torn) (HistoryAccident.header other) = other.not_new torn.0
no_accident w before won_is own_is unlinked (inr torn) (HistoryAccident.payload other) = false_true torn.1 (eq-eqb _ _ other.sum)
no_accident w before won_is own_is unlinked torn (HistoryAccident.link linked) =
    false_true unlinked (eq-eqb _ _ (sym own_is ∙ linked ∙ ap (λ (i : SlotInfo). i.prev_header_crc32c) won_is))
