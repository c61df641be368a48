-- The pair after a write to the slot beside its winner, finished or cut: that slot rests, is in flight or has won.
use Rattle.std.proofs.Common.{◌≡◌, refl, sym, ap, ap₂, subst, ◌∙◌, Bool, true, false, cond, ◌&&◌, nat_le, nat_eq, ◌==◌, List, ◌∷◌, ◌++◌, ℕ, suc, ◌+◌, ◌*◌, ◌≤◌, ◌<◌, le_of_eq, arith, lit≤, lit<, eq-eqb, eqb-true, length, take, drop, get_or, get_or-take, get_or-drop, replicate}
use Rattle.std.specs.Int.{w16, w32}
use Rattle.std.specs.List.{IsAmong, list_all}
use Rattle.std.proofs.lemmas.Bool.{eqb-false}
use borrow.Author.Tests.{lt-leb}
use lib.Pointwise.{pointwise, bytes_decides}
use Rattle.codec.specs.Bytes.{AllBytes, le, le16, le32}
use Rattle.codec.specs.Crc32c.{crc32c}
use Rattle.codec.proofs.ByteLaws.{agree-front, agree-run, agree-number}
use Rattle.slot.specs.Status.{other}
use Rattle.slot.specs.Payload.{payload as payload_of}
use Rattle.slot.specs.Header.{magic, header}
use Rattle.slot.specs.Read.{is_slot_length, is_blank, header_sum, passes_payload, validate}
use Rattle.slot.specs.Write.{written_header}
use Rattle.slot.specs.Laws.{info_of, SameHeader}
use Rattle.slot.specs.declared.header.Header.{Header as SlotHeader}
use Rattle.slot.specs.declared.slot.SlotIndex.{SlotIndex}
use Rattle.slot.specs.declared.slot.SlotInfo.{SlotInfo}
use Rattle.slot.specs.declared.slot.SlotFields.{SlotFields}
use Rattle.slot.specs.declared.slot.SlotStatus.{SlotStatus}
use Rattle.slot.specs.declared.slot.Expect.{Expect}
use Rattle.slot.proofs.Room.{room}
use Rattle.slot.proofs.PaddingLaws.{header_same, check_same}
use Rattle.cut.specs.Store.{Slot, Pair, accepts, slot_at, status, Typed, SoundSlot}
use Rattle.cut.specs.Cut.{with_bytes, with_slot, stands_whole, header_passes, payload_in, payload_by}
use Rattle.cut.proofs.StatusLaws.{false_true, passed_is, valid_is, passed_status}
use Rattle.cut.proofs.PairLaws.{other_other, predecessor}
use Rattle.cut.proofs.CutLaws.{not_same, differ, front_parts, whole_by, Header, not_whole}
use Rattle.cut.proofs.StateLaws.{Short, beside, asked, Leads, Fitting, Older, Resting, Flying, under_header, under_check, under_info, under_payload, under_passes}

-- ---- a header of 128 bytes or fewer

pub length_bytes : (s : List ℕ) → le16 s 12 ≡ get_or s 12 0 + 256 * get_or s 13 0
unfolding le
length_bytes s =
    let low = get_or-take 2 (drop 12 s) 0 0 (lit< tt) ∙ get_or-drop 12 s 0 0 in
    let high = get_or-take 2 (drop 12 s) 1 0 (lit< tt) ∙ get_or-drop 12 s 1 0 in
    omega (arith, low, high)

short_length : (s : List ℕ) → Short s → le16 s 12 ≤ 128
short_length s short = let is = length_bytes s in omega (arith, short.low, short.high)

pub length_short : (s : List ℕ) → le16 s 12 ≡ 128 → Short s
length_short s whole = let is = length_bytes s in record { low = omega arith; high = omega arith }

module _ (s t : List ℕ) (front : take 128 s ≡ take 128 t) where
  front_short : Short t → Short s
  front_short short =
      let low : get_or s 12 0 ≡ get_or t 12 0 = byte 12 (lit< tt) in
      let high : get_or s 13 0 ≡ get_or t 13 0 = byte 13 (lit< tt) in
      record { low = omega (arith, low, short.low); high = high ∙ short.high }
    where
      byte : (k : ℕ) → k < 128 → get_or s k 0 ≡ get_or t k 0
      byte k within = sym (get_or-take 128 s k 0 within) ∙ ap (λ (u : List ℕ). get_or u k 0) front ∙ get_or-take 128 t k 0 within

  magic_same : take 8 t ≡ magic → take 8 s ≡ magic
  magic_same stands = agree-front 128 s t front 8 (lit≤ tt) ∙ stands

  stored_same : le32 s 8 ≡ le32 t 8
  stored_same = agree-number 128 s t front w32 8 (lit≤ tt)

  length_same : le16 s 12 ≡ le16 t 12
  length_same = agree-number 128 s t front w16 12 (lit≤ tt)

  sum_same : header_sum s 128 ≡ header_sum t 128
  unfolding header_sum
  sum_same =
      ap₂ (λ (first rest : List ℕ). crc32c (first ++ replicate 4 0 ++ rest)) (agree-front 128 s t front 8 (lit≤ tt))
      (agree-run 128 s t front 12 116 (lit≤ tt))

  abbrev test : ℕ → ℕ → ℕ → ℕ → Bool
  test n l sum stored = (nat_le 128 n && nat_le n l) && (sum == stored)

  test_is : (u : List ℕ) → header_passes u ≡ test (le16 u 12) (length u) (header_sum u (le16 u 12)) (le32 u 8)
  unfolding header_passes
  test_is u = refl

  -- A header that fails still fails over other bytes behind it.
  still_fails : length s ≡ length t → Short t → header_passes t ≡ false → header_passes s ≡ false
  still_fails sizes short fails = go (le16 t 12 == 128) refl
    where
      go : (whole : Bool) → (le16 t 12 == 128) ≡ whole → header_passes s ≡ false
      go true is =
          let full : le16 t 12 ≡ 128 = eqb-true (le16 t 12) 128 is in
          let sums : header_sum s (le16 s 12) ≡ header_sum t (le16 t 12) =
          ap (header_sum s) (length_same ∙ full) ∙ sum_same ∙ ap (header_sum t) (sym full) in
          test_is s
          ∙ ap₂ (λ (k l : ℕ). test k l (header_sum s (le16 s 12)) (le32 s 8)) length_same sizes
          ∙ ap₂ (λ (sum stored : ℕ). test (le16 t 12) (length t) sum stored) sums stored_same
          ∙ sym (test_is t)
          ∙ fails
      go false is =
          let other_length : (le16 t 12 ≡ 128 → ⊥) = eqb-false (le16 t 12) 128 is in
          let small = short_length t short in
          let same_length = length_same in
          let short_of : nat_le 128 (le16 s 12) ≡ false = lt-leb 128 (le16 s 12) (omega arith) in
          test_is s ∙ ap (λ (b : Bool). (b && nat_le (le16 s 12) (length s)) && (header_sum s (le16 s 12) == le32 s 8)) short_of

-- And one that passes still passes.
pub front_passes : (s t : List ℕ) → take 128 s ≡ take 128 t → length s ≡ length t → Short s → header_passes s ≡ true
    → header_passes t ≡ true
front_passes s t front sizes short passes = go (header_passes t) refl
  where
    go : (test : Bool) → header_passes t ≡ test → header_passes t ≡ true
    go true is = is
    go false is = false_true (still_fails s t front sizes (front_short t s (sym front) short) is) passes

-- ---- the pair with other bytes in the slot beside the winner

pub bytes_typed : (s : Slot) (bytes : List ℕ) → Typed s → AllBytes bytes → Typed (with_bytes bytes s)
bytes_typed s bytes typed all =
    record {
      bytes = all;
      volume = typed.volume;
      volume_bytes = typed.volume_bytes;
      object = typed.object;
      offset = typed.offset;
      rest = typed.rest;
    }

pub back_slot : (p : Pair) (o : SlotIndex) → slot_at (other (other o)) p ≡ slot_at o p
back_slot p o = ap (λ (index : SlotIndex). slot_at index p) (other_other o)

module _ (p : Pair) (c : List ℕ) where
  pub kept_slot : (o : SlotIndex) → slot_at (other o) (with_slot o c p) ≡ slot_at (other o) p
  kept_slot SlotIndex.A = refl
  kept_slot SlotIndex.B = refl

  pub put_slot : (o : SlotIndex) → slot_at o (with_slot o c p) ≡ with_bytes c (slot_at o p)
  put_slot SlotIndex.A = refl
  put_slot SlotIndex.B = refl

  -- The same, from the winner.
  put_beside : (o : SlotIndex) → slot_at (other (other o)) (with_slot o c p) ≡ with_bytes c (slot_at (other (other o)) p)
  put_beside o = back_slot (with_slot o c p) o ∙ put_slot o ∙ ap (with_bytes c) (sym (back_slot p o))

  pub put_decoder : (o : SlotIndex) → (with_slot o c p).decoder ≡ p.decoder
  put_decoder SlotIndex.A = refl
  put_decoder SlotIndex.B = refl

  pub put_operator : (o : SlotIndex) → (with_slot o c p).operator ≡ p.operator
  put_operator SlotIndex.A = refl
  put_operator SlotIndex.B = refl

  sound_put : (s : Slot) → SoundSlot s → AllBytes c → SoundSlot (with_bytes c s)
  sound_put s sound all = record { typed = bytes_typed s c sound.typed all; format = sound.format; numbered = sound.numbered }

  pub put_slots : (o : SlotIndex) → ((index : SlotIndex) → SoundSlot (slot_at index p)) → AllBytes c
      → (index : SlotIndex) → SoundSlot (slot_at index (with_slot o c p))
  put_slots SlotIndex.A slots all SlotIndex.A = sound_put p.a (slots SlotIndex.A) all
  put_slots SlotIndex.A slots all SlotIndex.B = slots SlotIndex.B
  put_slots SlotIndex.B slots all SlotIndex.A = slots SlotIndex.A
  put_slots SlotIndex.B slots all SlotIndex.B = sound_put p.b (slots SlotIndex.B) all

-- ---- the pair after the write

-- What is read where the write or an earlier one has won: the new record, which stands whole, or one of those begun before.
pub data Read (whole : Bool) (r : List ℕ) (known : List (List ℕ)) : List ℕ → Type 0 where
  fresh : whole ≡ true → Read whole r known r
  earlier : {q : List ℕ} → whole ≡ false → IsAmong known q → Read whole r known q

-- The pair after a write of r to its slot o, beside a winner of info i: the slot's header was written with m, the write's number is n,
-- and `whole` says whether the new record stands whole.
pub data Next (p : Pair) (o : SlotIndex) (i : SlotInfo) (r m : List ℕ) (known : List (List ℕ)) (n : ℕ) (whole : Bool) : Type 0 where
  rested : whole ≡ false → Leads p (other o) i → Resting p (other o) i → Next p o i r m known n whole
  flown : whole ≡ false → Leads p (other o) i → Flying p (other o) i m (r ∷ known) n → Next p o i r m known n whole
  won : (j : SlotInfo) → Leads p o j → Resting p o j → j.meta_seq ≡ n → Read whole r known (payload_of j (slot_at o p).bytes)
      → Next p o i r m known n whole

pub among_first : (r : List ℕ) (known : List (List ℕ)) → IsAmong (r ∷ known) r
among_first r known = (0, (omega arith, refl))

pub among_later : {q : List ℕ} (r : List ℕ) (known : List (List ℕ)) → IsAmong known q → IsAmong (r ∷ known) q
among_later r known (k, place) = (suc k, (let within = place.0 in omega arith, place.1))

module _ (p : Pair) (o : SlotIndex) (i : SlotInfo) (leads : Leads p (other o) i) (c : List ℕ) (size : length c ≡ length (beside (other o) p))
    (bytes : AllBytes c) (n : ℕ) (below : i.meta_seq < n) where
  abbrev p' : Pair
  p' = with_slot o c p

  abbrev e : Expect
  e = asked (other o) p

  c_length : is_slot_length (length c) e.log2_slot_size ≡ true
  c_length = ap (λ (k : ℕ). is_slot_length k e.log2_slot_size) size ∙ leads.length_ok

  long : 128 ≤ length c
  long = let large = room (length c) e.log2_slot_size c_length in omega arith

  is : beside (other o) p' ≡ c
  is = ap (λ (s : Slot). s.bytes) (put_beside p c o)

  asks : asked (other o) p' ≡ e
  asks = ap (λ (s : Slot). s.expect) (put_beside p c o)

  leads_on : Leads p' (other o) i
  leads_on =
      record {
        slots = put_slots p c o leads.slots bytes;
        valid = ap status (kept_slot p c o) ∙ leads.valid;
        accepted = ap₂ (λ d (s : Slot). accepts d (payload_of i s.bytes)) (put_decoder p c o) (kept_slot p c o) ∙ leads.accepted;
        length_ok = ap₂ (λ (s : List ℕ) (a : Expect). is_slot_length (length s) a.log2_slot_size) is asks ∙ c_length;
      }

  lapsed_put : take 8 c ≡ magic → header_passes c ≡ false → Short c → predecessor i (le32 c 8) ≡ true → Resting p' (other o) i
  lapsed_put stands fails short same_sum =
      Resting.lapsed (ap (take 8) is ∙ stands) (ap header_passes is ∙ fails) (subst Short (sym is) short)
      (ap (λ (s : List ℕ). predecessor i (le32 s 8)) is ∙ same_sum)

  unread_put : {m : List ℕ} {known : List (List ℕ)} → take 8 c ≡ magic → header_passes c ≡ false → Short c
      → predecessor i (le32 c 8) ≡ false
      → Flying p' (other o) i m known n
  unread_put stands fails short other_sum =
      Flying.unread (ap (take 8) is ∙ stands) (ap header_passes is ∙ fails) (subst Short (sym is) short)
      (ap (λ (s : List ℕ). predecessor i (le32 s 8)) is ∙ other_sum)

  -- The header of a version v that is older, which has the slot's length.
  older_put : (v : List ℕ) → length v ≡ length c → Older v e i → take 128 c ≡ take 128 v → Resting p' (other o) i
  older_put v sizes old front =
      let full : le16 v 12 ≡ 128 = (passed_is v e old.check_is).length_is (leads.slots (other (other o))).format in
      let same : SameHeader 128 v c = record { same = sym front; least = lit≤ tt; whole = le_of_eq full; sizes = sizes } in
      let headers : header c ≡ header v = header_same c v front in
      Resting.past
      (subst (λ (s : List ℕ). Older s (asked (other o) p') i) (sym is)
      (subst (λ (a : Expect). Older c a i) (sym asks)
      (record {
        check_is = sym (check_same 128 v c same e) ∙ old.check_is;
        generation = subst (λ (h : SlotHeader). h.generation < i.generation) (sym headers) old.generation;
        number = subst (λ (h : SlotHeader). h.meta_seq < i.meta_seq) (sym headers) old.number;
      })))

  -- Such a header may stand again.
  pub on_older : (v : List ℕ) → length v ≡ length c → Older v (asked (other o) p) i → take 128 c ≡ take 128 v
      → (r m : List ℕ) (known : List (List ℕ)) (whole : Bool) → whole ≡ false → Next (with_slot o c p) o i r m known n whole
  on_older v sizes old front r m known whole torn = Next.rested torn leads_on (older_put v sizes old front)

  -- ---- the header of a write that fits

  module _ {f : SlotFields} {q : List ℕ} (fit : Fitting p (other o) i f q n) (head : take 128 c ≡ written_header f q) where
    fit_put : Fitting p' (other o) i f q n
    fit_put =
        record {
          proper = fit.proper;
          asked_is = fit.asked_is ∙ sym asks;
          small = fit.small;
          fits = subst (λ (k : ℕ). 128 + length q ≤ k) (sym (ap length is ∙ size)) fit.fits;
          generation = fit.generation;
          prev = fit.prev;
          number = fit.number;
          accepted = ap (λ d. accepts d q) (put_decoder p c o) ∙ fit.accepted;
        }

    checksum_is : passes_payload c (header c) ≡ (crc32c (payload_in c q) == crc32c q)
    checksum_is = under_passes p (other o) i leads fit c size head

    begun_put : {known : List (List ℕ)} → passes_payload c (header c) ≡ false → IsAmong known q → Flying p' (other o) i q known n
    begun_put bad among =
        Flying.begun f fit_put (ap (take 128) is ∙ head) (ap (λ (s : List ℕ). passes_payload s (header s)) is ∙ bad) among

    record_is : payload_in c q ≡ q → payload_of (info_of f q) (slot_at o p').bytes ≡ q
    record_is same =
        ap₂ (λ (j : SlotInfo) (s : List ℕ). payload_of j s) (sym (under_info p (other o) i leads fit c size head))
        (ap (λ (s : Slot). s.bytes) (put_slot p c o))
        ∙ under_payload p (other o) i leads fit c size head
        ∙ same

    -- The write that has won leads, and the winner before rests.
    abbrev pub Wins : Type 0
    Wins =
        Leads (with_slot o c p) o (info_of f q) × Resting (with_slot o c p) o (info_of f q)
        × (payload_of (info_of f q) (slot_at o (with_slot o c p)).bytes ≡ q)

    pub wins : payload_in c q ≡ q → Wins
    wins same =
        let check_is = under_check p (other o) i leads fit c size head in
        let passes : passes_payload c (header c) ≡ true = checksum_is ∙ eq-eqb _ _ (ap crc32c same) in
        let was = valid_is (slot_at (other o) p).bytes (slot_at (other o) p).expect i leads.valid in
        let generation = ap (λ (j : SlotInfo). j.generation) was.info_is in
        let number = ap (λ (j : SlotInfo). j.meta_seq) was.info_is in (
          record {
            slots = put_slots p c o leads.slots bytes;
            valid =
                ap₂ (λ (s : Slot) (a : Expect). validate s.bytes a) (put_slot p c o)
                (ap (λ (s : Slot). s.expect) (put_slot p c o) ∙ ap (λ (s : Slot). s.expect) (sym (back_slot p o)))
                ∙ passed_status c e c_length (passed_is c e check_is).magic_is check_is
                ∙ ap₂ (λ (b : Bool) (j : SlotInfo). cond b (SlotStatus.Valid j) SlotStatus.BadPayloadCrc) passes
                (under_info p (other o) i leads fit c size head);
            accepted = ap₂ (λ d (s : List ℕ). accepts d s) (put_decoder p c o) (record_is same) ∙ fit.accepted;
            length_ok = ap (λ (s : Slot). is_slot_length (length s.bytes) s.expect.log2_slot_size) (kept_slot p c o) ∙ was.length_ok;
          },
          subst (λ (s : Slot). Older s.bytes s.expect (info_of f q) → Resting p' o (info_of f q)) (kept_slot p c o) Resting.past
              (record { check_is = was.check_is; generation = omega (arith, fit.generation); number = omega (arith, fit.number) }),
          record_is same,
        )

  -- ---- a write that is cut

  module _ {f : SlotFields} {r : List ℕ} (fit : Fitting p (other o) i f r n) (new : List ℕ) (new_size : length new ≡ length c)
      (new_head : take 128 new ≡ written_header f r) (new_payload : payload_in new r ≡ r) (short : Short c) (known : List (List ℕ)) (m : List ℕ)
      (m_new : take 128 c ≡ take 128 new → m ≡ r)
      (none : take 128 c ≡ take 128 new → (payload_in c r ≡ r → ⊥) → crc32c (payload_in c r) ≡ le32 c 28 → ⊥) where
    abbrev Answer : Type 0
    Answer = Next p' o i r m known n (stands_whole c new r)

    torn_new : (payload_in c r ≡ r → ⊥) → stands_whole c new r ≡ false
    unfolding stands_whole
    torn_new other_payload =
        not_same (take (128 + length r) c) (take (128 + length r) new)
        (λ same. other_payload ((front_parts c new r long (omega (arith, new_size, long)) same).1 ∙ new_payload))

    on_new : take 128 c ≡ take 128 new → Answer
    on_new same_header = by_bytes (pointwise nat_eq (payload_in c r) r) refl
      where
        head : take 128 c ≡ written_header f r
        head = same_header ∙ new_head

        by_sum : (payload_in c r ≡ r → ⊥) → (ok : Bool) → passes_payload c (header c) ≡ ok → Answer
        by_sum other_payload true ok =
            absurd
            (none same_header other_payload
            (eqb-true _ _ (sym (checksum_is fit head) ∙ ok) ∙ sym (ap (λ (h : SlotHeader). h.payload_crc32c) (under_header p (other o) i leads fit c size head))))
        by_sum other_payload false bad =
            Next.flown (torn_new other_payload) leads_on
            (subst (λ (q : List ℕ). Flying p' (other o) i q (r ∷ known) n) (sym (m_new same_header)) (begun_put fit head bad (among_first r known)))

        by_bytes : (equal : Bool) → pointwise nat_eq (payload_in c r) r ≡ equal → Answer
        by_bytes true equal =
            let same = (bytes_decides (payload_in c r) r).0 equal in
            let w = wins fit head same in
            Next.won (info_of f r) w.0 w.1 fit.number
            (subst (λ (q : List ℕ). Read (stands_whole c new r) r known q) (sym w.2) (Read.fresh (whole_by c new r same_header (same ∙ sym new_payload))))
        by_bytes false unequal = by_sum (differ (payload_in c r) r unequal) (passes_payload c (header c)) refl

    on_failing : (take 128 c ≡ take 128 new → ⊥) → take 8 c ≡ magic → header_passes c ≡ false → Answer
    on_failing not_new stands fails = go (predecessor i (le32 c 8)) refl
      where
        go : (b : Bool) → predecessor i (le32 c 8) ≡ b → Answer
        go true same_sum = Next.rested (not_whole c new r not_new) leads_on (lapsed_put stands fails short same_sum)
        go false other_sum = Next.flown (not_whole c new r not_new) leads_on (unread_put stands fails short other_sum)

    -- The old header, where there was no candidate,
    kept_resting : (take 128 c ≡ take 128 new → ⊥) → take 128 c ≡ take 128 (beside (other o) p) → Resting p (other o) i → Answer
    kept_resting not_new front (Resting.zeroed is_a first zeros) =
        Next.rested (not_whole c new r not_new) leads_on
        (Resting.zeroed is_a first (ap is_blank is ∙ ap (list_all (λ b. b == 0)) front ∙ zeros))
    kept_resting not_new front (Resting.past old) =
        on_older (beside (other o) p) (sym size) old front r m known (stands_whole c new r) (not_whole c new r not_new)
    kept_resting not_new front (Resting.lapsed stands fails old_short same_sum) =
        Next.rested (not_whole c new r not_new) leads_on
        (lapsed_put (magic_same c (beside (other o) p) front stands) (still_fails c (beside (other o) p) front size old_short fails)
        short
        (ap (predecessor i) (stored_same c (beside (other o) p) front) ∙ same_sum))

    -- and where there was one, whose header was written with `before`.
    module _ {before : List ℕ} (flying : Flying p (other o) i before known n)
        (m_old : (take 128 c ≡ take 128 new → ⊥) → take 128 c ≡ take 128 (beside (other o) p) → m ≡ before)
        (none_old : (take 128 c ≡ take 128 new → ⊥) → header_passes c ≡ true → take 128 c ≡ take 128 (beside (other o) p)
        → (payload_by c c ≡ before → ⊥)
        → crc32c (payload_by c c) ≡ le32 c 28 → ⊥) where
      kept_flying : (take 128 c ≡ take 128 new → ⊥) → take 128 c ≡ take 128 (beside (other o) p) → Answer
      kept_flying not_new front = go flying
        where
          torn : stands_whole c new r ≡ false
          torn = not_whole c new r not_new

          go : Flying p (other o) i before known n → Answer
          go (Flying.unread stands fails old_short other_sum) =
              Next.flown torn leads_on
              (unread_put (magic_same c (beside (other o) p) front stands) (still_fails c (beside (other o) p) front size old_short fails)
              short
              (ap (predecessor i) (stored_same c (beside (other o) p) front) ∙ other_sum))
          go (Flying.begun g fits_g old_head old_bad among) = by_bytes (pointwise nat_eq (payload_in c before) before) refl
            where
              head : take 128 c ≡ written_header g before
              head = front ∙ old_head

              in_place : payload_by c c ≡ payload_in c before
              in_place = under_payload p (other o) i leads fits_g c size head

              by_sum : (payload_in c before ≡ before → ⊥) → (ok : Bool) → passes_payload c (header c) ≡ ok → Answer
              by_sum other_payload true ok =
                  absurd
                  (none_old not_new (passed_is c e (under_check p (other o) i leads fits_g c size head)).sum_is front
                  (λ same. other_payload (sym in_place ∙ same))
                  (ap crc32c in_place
                  ∙ eqb-true _ _ (sym (checksum_is fits_g head) ∙ ok)
                  ∙ sym (ap (λ (h : SlotHeader). h.payload_crc32c) (under_header p (other o) i leads fits_g c size head))))
              by_sum other_payload false bad =
                  Next.flown torn leads_on
                  (subst (λ (q : List ℕ). Flying p' (other o) i q (r ∷ known) n) (sym (m_old not_new front))
                  (begun_put fits_g head bad (among_later r known among)))

              by_bytes : (equal : Bool) → pointwise nat_eq (payload_in c before) before ≡ equal → Answer
              by_bytes true equal =
                  let w = wins fits_g head ((bytes_decides (payload_in c before) before).0 equal) in
                  Next.won (info_of g before) w.0 w.1 fits_g.number
                  (subst (λ (q : List ℕ). Read (stands_whole c new r) r known q) (sym w.2) (Read.earlier torn among))
              by_bytes false unequal = by_sum (differ (payload_in c before) before unequal) (passes_payload c (header c)) refl

      pub next_flying : ((take 128 c ≡ take 128 new → ⊥) → (take 128 c ≡ take 128 (beside (other o) p) → ⊥) → header_passes c ≡ true
          → Next (with_slot o c p) o i r m known n (stands_whole c new r))
          → Header c (beside (other o) p) new → Next (with_slot o c p) o i r m known n (stands_whole c new r)
      next_flying on_neither (Header.is_new same_header) = on_new same_header
      next_flying on_neither (Header.is_old not_new front) = kept_flying not_new front
      next_flying on_neither (Header.fails not_new stands fails) = on_failing not_new stands fails
      next_flying on_neither (Header.neither not_new not_old passes) = on_neither not_new not_old passes

    pub next_resting : Resting p (other o) i
        → ((take 128 c ≡ take 128 new → ⊥) → (take 128 c ≡ take 128 (beside (other o) p) → ⊥) → header_passes c ≡ true
        → Next (with_slot o c p) o i r m known n (stands_whole c new r))
        → Header c (beside (other o) p) new → Next (with_slot o c p) o i r m known n (stands_whole c new r)
    next_resting resting on_neither (Header.is_new same_header) = on_new same_header
    next_resting resting on_neither (Header.is_old not_new front) = kept_resting not_new front resting
    next_resting resting on_neither (Header.fails not_new stands fails) = on_failing not_new stands fails
    next_resting resting on_neither (Header.neither not_new not_old passes) = on_neither not_new not_old passes
