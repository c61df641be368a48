-- What is judged and read back after a cut follows from what `validate` and `header_facts` answer for each slot.
use Rattle.std.proofs.Common.{◌≡◌, refl, ap₂, subst, ◌∙◌, Bool, true, false, cond, not, List, [], ◌∷◌, ℕ, length, map, replicate, nat_lt, Option, Some, None, Result, Ok, is_ok}
use Rattle.slot.specs.Payload.{payload}
use Rattle.slot.specs.Header.{header}
use Rattle.slot.specs.Read.{is_slot_length, is_blank, check, status as status_by, header_status, validate, facts, facts_read, header_facts}
use Rattle.slot.specs.declared.slot.SlotIndex.{SlotIndex}
use Rattle.slot.specs.declared.slot.SlotInfo.{SlotInfo}
use Rattle.slot.specs.declared.slot.Expect.{Expect}
use Rattle.slot.specs.declared.slot.SlotStatus.{SlotStatus}
use Rattle.slot.proofs.HeaderLaws.{header_layout}
use Rattle.pair.specs.Pair.{decide, winner_info}
use Rattle.pair.specs.Winner.{read_pair}
use Rattle.judge.specs.Verdict.{by_index}
use Rattle.judge.specs.Frames.{judge_frames, frames_left}
use Rattle.judge.specs.Same.{Framed, frames_of, mark}
use Rattle.judge.specs.declared.records.SlotRead.{SlotRead}
use Rattle.judge.specs.declared.records.PairRead.{PairRead}
use Rattle.cut.specs.Store.{Decoder, Slot, Pair, slot_at, accepts, slot_read, framed_pair, framed}
use Rattle.cut.specs.Cut.{Write, left, with_bytes, after, handed, PayloadIs}
use Rattle.cut.proofs.PairLaws.{won_payload}
use Rattle.cut_examples.specs.Stores.{rest}
use Rattle.cut_examples.specs.Computed.{AllRead, writable_store, JudgedAs, Computed}

-- ---- slots as they are read

abbrev pub slot_with : List ℕ → Expect → Slot
slot_with bytes expect = record { bytes = bytes; expect = expect; rest = rest }

-- The same with the header checked once for both: its checksum is the long part of the computation.
abbrev pub read_by : List ℕ → Result (Unit {0}) SlotStatus → SlotRead
read_by s answer = record { status = status_by s (header s) answer; facts = facts (header s) (is_ok answer) }

abbrev pub read_once : List ℕ → Expect → SlotRead
read_once s e =
    cond (not (is_slot_length (length s) e.log2_slot_size)) (record { status = SlotStatus.BadLength; facts = None })
    (cond (is_blank s) (record { status = SlotStatus.Blank; facts = None })
    (cond (nat_lt (length s) 128) (record { status = SlotStatus.BadLength; facts = None }) (read_by s (check s (header s) e))))

pub read_once_is : (s : List ℕ) (e : Expect) → slot_read (slot_with s e) ≡ read_once s e
unfolding validate header_facts
read_once_is s e = rw (header_layout s) (go (is_slot_length (length s) e.log2_slot_size) (is_blank s) (nat_lt (length s) 128))
  where
    go : (long zeros past : Bool)
        → ◌≡◌ {A = SlotRead}
        (record {
          status =
              cond (not long) SlotStatus.BadLength
              (cond zeros SlotStatus.Blank (header_status s e (cond past None (Some (header s)))));
          facts = cond (not long) None (cond zeros None (facts_read s e (cond past None (Some (header s)))));
        })
        (cond (not long) (record { status = SlotStatus.BadLength; facts = None })
        (cond zeros (record { status = SlotStatus.Blank; facts = None })
        (cond past (record { status = SlotStatus.BadLength; facts = None }) (read_by s (check s (header s) e)))))
    go false zeros past = refl
    go true true past = refl
    go true false true = refl
    go true false false = refl

-- ---- pairs and the row of them

-- The frame that is filled from it.
abbrev pub framed_read : PairRead → Framed
framed_read x = record { pair = x; rest_a = rest; rest_b = rest }

abbrev pub framed_row : List PairRead → List Framed
framed_row xs = map framed_read xs

-- A pair whose slots are read as x, and its record r.
pub record PairRecord (p : Pair) (x : PairRead) (r : List ℕ) : Type 0 where
  pub read : framed_pair p ≡ framed_read x
  pub back : PayloadIs p r
  pub accepted : accepts p.decoder r ≡ true

pub data RowRecords : List Pair → List PairRead → List (List ℕ) → Type 0 where
  none : RowRecords [] [] []
  more : {p : Pair} {ps : List Pair} {x : PairRead} {xs : List PairRead} {r : List ℕ} {rs : List (List ℕ)}
      → PairRecord p x r → RowRecords ps xs rs → RowRecords (p ∷ ps) (x ∷ xs) (r ∷ rs)

pub pair_record : (a b : List ℕ) (expect_a expect_b : Expect) (decoder : Decoder) (x : PairRead) (r : List ℕ)
    → read_once a expect_a ≡ x.a → read_once b expect_b ≡ x.b
    → {index : SlotIndex} {i : SlotInfo} → winner_info (decide x.a.status x.b.status) ≡ Some (index, i)
    → payload i (by_index index a b) ≡ r → accepts decoder r ≡ true
    → PairRecord (record { a = slot_with a expect_a; b = slot_with b expect_b; decoder = decoder; operator = x.operator }) x r
unfolding read_pair
pair_record a b expect_a expect_b decoder x r a_is b_is {index} {i} won back accepted =
    let a_read = read_once_is a expect_a ∙ a_is in
    let b_read = read_once_is b expect_b ∙ b_is in
    let p : Pair = record { a = slot_with a expect_a; b = slot_with b expect_b; decoder = decoder; operator = x.operator } in
    record {
      read = ap₂ {C = Framed} (λ (s t : SlotRead). framed_read (record { a = s; b = t; operator = x.operator })) a_read b_read;
      back =
          subst (PayloadIs p) (bytes_at index i ∙ back)
          (won_payload p index i (ap₂ (λ (s t : SlotRead). winner_info (decide s.status t.status)) a_read b_read ∙ won));
      accepted = accepted;
    }
  where
    bytes_at : (index : SlotIndex) (i : SlotInfo)
        → payload i (by_index index (slot_with a expect_a) (slot_with b expect_b)).bytes ≡ payload i (by_index index a b)
    bytes_at SlotIndex.A i = refl
    bytes_at SlotIndex.B i = refl

pub row_framed : {ps : List Pair} {xs : List PairRead} {rs : List (List ℕ)} → RowRecords ps xs rs → framed ps ≡ framed_row xs
row_framed none = refl
row_framed (more pair row) = ap₂ (λ (f : Framed) (others : List Framed). f ∷ others) pair.read (row_framed row)

row_back : {ps : List Pair} {xs : List PairRead} {rs : List (List ℕ)} → RowRecords ps xs rs → AllRead ps rs
row_back none = AllRead.none
row_back (more pair row) = AllRead.more pair.back pair.accepted (row_back row)

-- What is judged and read back where the slots of the pairs are read as xs.
pub judged_row : {ps : List Pair} (s : Slot) {given : Bool} {slot : SlotRead} {xs : List PairRead} {rs : List (List ℕ)} {heal : Option (ℕ × SlotIndex)} {clean : Bool} {verdict : List ℕ}
    → slot_read s ≡ slot → RowRecords ps xs rs
    → judge_frames (frames_of (framed_row xs)) (mark given) 12 ≡ Ok (writable_store heal clean)
    → frames_left (frames_of (framed_row xs)) (mark given) (replicate 12 0) ≡ verdict
    → JudgedAs ps s given slot heal clean verdict rs
judged_row s read row answer written =
    record { read = read; answer = rw (row_framed row) answer; written = rw (row_framed row) written; back = row_back row }

pub computed_row : (w : Write) {slot : SlotRead} {xs : List PairRead} {rs : List (List ℕ)} {clean_mark : Bool} {heal : Option (ℕ × SlotIndex)} {clean : Bool} {verdict : List ℕ}
    → slot_read (with_bytes (left w) (slot_at w.index w.pair)) ≡ slot
    → RowRecords (after w) xs rs → handed w ≡ clean_mark
    → judge_frames (frames_of (framed_row xs)) (mark clean_mark) 12 ≡ Ok (writable_store heal clean)
    → frames_left (frames_of (framed_row xs)) (mark clean_mark) (replicate 12 0) ≡ verdict
    → Computed w slot heal clean verdict rs
computed_row w read row mark_is answer written =
    rw mark_is (judged_row (with_bytes (left w) (slot_at w.index w.pair)) read row answer written)
