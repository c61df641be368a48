-- The laws of specs/Laws.antt on the marks, the cut in ascending order, the frames and the read-back.
use Rattle.std.proofs.Common.{◌≡◌, refl, sym, ap, ap₂, subst, ◌∙◌, Bool, true, false, cond, ◌==◌, List, [], ◌∷◌, ◌++◌, append_assoc, ℕ, suc, ◌+◌, length, map, take, drop, Bor, Option, Some, None, Result, Ok, Err, get_or, get_or-take, get_or-drop, lit<, add-zero}
use Rattle.std.specs.Int.{w8}
use Rattle.codec.specs.Bytes.{le}
use Rattle.codec.specs.Place.{Part}
use Rattle.slot.specs.Status.{code}
use Rattle.slot.specs.Read.{header_facts}
use Rattle.slot.specs.Payload.{payload, payload_start, payload_length}
use Rattle.slot.specs.declared.slot.Expect.{Expect}
use Rattle.slot.specs.declared.slot.SlotIndex.{SlotIndex}
use Rattle.slot.specs.declared.slot.SlotInfo.{SlotInfo}
use Rattle.slot.specs.declared.slot.SlotStatus.{SlotStatus}
use Rattle.slot.specs.declared.slot.HeaderFacts.{HeaderFacts}
use Rattle.slot.specs.declared.slot.NumberedHeader.{NumberedHeader}
use Rattle.pair.specs.Pair.{winner_info}
use Rattle.pair.specs.Winner.{read_pair, WinnerPart}
use Rattle.pair.specs.declared.pair.PairReport.{PairReport}
use Rattle.judge.specs.Part.{version_of_header, version_of_facts, header_number, facts_number, part_of, part_bytes}
use Rattle.judge.specs.declared.pairs.Version.{Version}
use Rattle.judge.specs.Same.{filled}
use Rattle.judge.specs.declared.part.SlotPart.{SlotPart}
use Rattle.judge.specs.Operators.{operators_in_range}
use Rattle.meta.specs.Volume.{decode_volume}
use Rattle.meta.specs.declared.meta.MetaError.{MetaError}
use Rattle.meta.specs.declared.meta2.VolumeMeta2.{VolumeMeta2}
use Rattle.meta.proofs.VolumeLaws.{volume_decoded}
use Rattle.cut.specs.Store.{Every, mark_by, clean_mark, store_mark, Slot, Pair, slot_at, status, report, shown, frames, Beside, SoundPair, IsPage, IsRow}
use Rattle.cut.specs.Cut.{Tear, Ascending, Write, store, size, old, new, cut, torn, left, next_number, CutPoint, CorrectWrite, Accident, payload_by, SectorAccident, is_empty, handed, PayloadIs}
use Rattle.cut.specs.Laws.{AnyRest, AnyTyped, AnySlot, AnyFirst, AnyBoth, AnyPage, EveryPair, AnyPairs, AnyRow, AnyWritten, AnyCorrect, AnyCorrectWrite, AnyPoint, of_operator, SoundUnderAny, UnmarkedRecord, UnmarkedStore, UnmarkedAsked, PageHanded, TornHanded, WholeHanded, OldHeaderKept, NoneInOrder, zeros, PairFrame, OnePayload, HasSlots, AnyHasSlots}
use Rattle.cut.proofs.StatusLaws.{false_true}
use Rattle.cut.proofs.PairLaws.{last_is}
use Rattle.cut.proofs.CutLaws.{kept_by_header}
use Rattle.cut.proofs.WrittenLaws.{new_size, sizes_same}
use Rattle.cut.proofs.WriteLaws.{BesideWinner, writes, sound_beside, sound_resting, header_differs}

-- ---- the operators

beside_under : {p : Pair} {newer : SlotIndex} {i : SlotInfo} → Beside (of_operator 0 p) newer i → Beside p newer i
beside_under (Beside.first is_a first blank) = Beside.first is_a first blank
beside_under (Beside.both j valid generation number prev accepted) = Beside.both j valid generation number prev accepted

pair_under : {p : Pair} → SoundPair (of_operator 0 p) → SoundPair p
pair_under sound =
    record {
      slots = sound.slots;
      newer = sound.newer;
      info = sound.info;
      valid = sound.valid;
      accepted = sound.accepted;
      beside = beside_under sound.beside;
    }

pairs_under : (ps : List Pair) → Every SoundPair (map (of_operator 0) ps) → Every SoundPair ps
pairs_under [] Every.none = Every.none
pairs_under (p ∷ ps) (Every.more sound rest) = Every.more (pair_under sound) (pairs_under ps rest)

pages_under : (ps : List Pair) → Every IsPage (map (of_operator 0) ps) → Every IsPage ps
pages_under [] Every.none = Every.none
pages_under (p ∷ ps) (Every.more page rest) = Every.more (record { index = page.index; most = page.most; decoder = page.decoder }) (pages_under ps rest)

row_under : (ps : List Pair) → IsRow (map (of_operator 0) ps) → operators_in_range true (shown ps) ≡ true → IsRow ps
row_under [] none range = elim none [ ]
row_under (p ∷ ps) (IsRow.row volume pages known) range = IsRow.row volume (pages_under ps pages) range

pub sound_under_any : SoundUnderAny
sound_under_any ps sound range = record { row = row_under ps sound.row range; pairs = pairs_under ps sound.pairs }

-- ---- the store's mark

byte_is : (s : List ℕ) (i : ℕ) → le w8 s i ≡ get_or s i 0
unfolding le
byte_is s i = simp (get_or-take 1 (drop i s) 0 0 (lit< tt), get_or-drop, add-zero)

pub unmarked_record : UnmarkedRecord
unmarked_record r zero = go (decode_volume r) refl
  where
    go : (answer : Result VolumeMeta2 MetaError) → decode_volume r ≡ answer → mark_by answer ≡ false
    go (Ok volume) decoded =
        ap (λ (v : VolumeMeta2). v.clean_close) (volume_decoded r volume decoded).is ∙ ap (λ (mark : ℕ). mark == 1) (byte_is r 54 ∙ zero)
    go (Err error) decoded = refl

pub unmarked_store : UnmarkedStore
unmarked_store p ps sound zero = ap clean_mark (last_is p sound) ∙ unmarked_record (payload sound.info (slot_at sound.newer p).bytes) zero

-- ---- the mark that the judge is handed

pub page_handed : PageHanded
unfolding handed
page_handed w p ps before = rw before refl

pub unmarked_asked : UnmarkedAsked
unmarked_asked before p behind unset = λ set. false_true unset set

pub torn_handed : TornHanded
unfolding handed
torn_handed w torn = if_first (is_empty w.before) (simp torn)
  where
    if_first : (first : Bool) {mark : Bool} → mark ≡ store_mark (store w) → cond first mark (store_mark (store w)) ≡ store_mark (store w)
    if_first true none = none
    if_first false none = refl

pub whole_handed : WholeHanded
unfolding handed
whole_handed w before stands = rw (before, stands) refl

-- ---- the cut in ascending order

module _ (w : Write) (k : ℕ) (sound : SoundPair w.pair) (correct : CorrectWrite w) (in_order : w.tear ≡ Ascending k) (point : CutPoint k (size w)) where
  abbrev made : BesideWinner (next_number (store w) w.pair) w
  made = sound_beside w sound correct

  left_is : left w ≡ cut k (new w) (old w)
  left_is = ap (λ (tear : Tear). torn tear (new w) (old w)) in_order

  kept : take 128 (left w) ≡ take 128 (old w) → left w ≡ old w
  kept is =
      left_is
      ∙ kept_by_header k (new w) (old w) (sizes_same w (writes w made)) (rw (new_size w (writes w made)) point)
      (λ same. header_differs w made (sound_resting w sound correct) (sym same)) (ap (take 128) (sym left_is) ∙ is)

  none_other : SectorAccident (left w) (old w) (new w) w.payload → Accident (left w) (old w) (new w) w.payload
  none_other (SectorAccident.either accident) = accident
  none_other (SectorAccident.older passes old_header other sum) = absurd (other (ap (payload_by (old w)) (kept old_header)))

pub old_header_kept : OldHeaderKept
old_header_kept = kept

pub none_in_order : NoneInOrder
none_in_order = none_other

-- ---- the frames

-- With zeros in the other fields a part is what `SlotPart::new` gives.
filled_zeros : (st : SlotStatus) (f : Option HeaderFacts) → filled zeros (part_of st f) ≡ part_of st f
filled_zeros (SlotStatus.Valid i) f = unfold filled in refl
filled_zeros st f = unfold filled in ap (λ (version : Version). record { code = code st; facts = facts_number f; version = version }) (by_facts f)
  where
    by_header : (stored : ℕ) (n : Option NumberedHeader)
        → (filled zeros (record { code = 0; facts = header_number n; version = version_of_header stored n })).version ≡ version_of_header stored n
    by_header stored None = unfold filled in refl
    by_header stored (Some n) = unfold filled in refl

    by_facts : (f : Option HeaderFacts)
        → (filled zeros (record { code = 0; facts = facts_number f; version = version_of_facts f })).version ≡ version_of_facts f
    by_facts None = unfold filled in refl
    by_facts (Some f) = by_header f.stored_header_crc32c f.numbered

slot_zeros : (s : Slot) → s.rest ≡ zeros → filled s.rest (part_of (status s) (header_facts s.bytes s.expect)) ≡ part_of (status s) (header_facts s.bytes s.expect)
slot_zeros s is =
    ap (λ (rest : Version). filled rest (part_of (status s) (header_facts s.bytes s.expect))) is
    ∙ filled_zeros (status s) (header_facts s.bytes s.expect)

pub pair_frame : PairFrame
pair_frame p ps a_zeros b_zeros =
    let a : List ℕ = part_bytes (part_of (status p.a) (header_facts p.a.bytes p.a.expect)) in
    let b : List ℕ = part_bytes (part_of (status p.b) (header_facts p.b.bytes p.b.expect)) in
    ap₂ (λ (x y : SlotPart). (part_bytes x ++ (part_bytes y ++ p.operator ∷ [])) ++ frames ps) (slot_zeros p.a a_zeros) (slot_zeros p.b b_zeros)
    ∙ append_assoc a (b ++ p.operator ∷ []) (frames ps)
    ∙ ap (λ (t : List ℕ). a ++ t) (append_assoc b (p.operator ∷ []) (frames ps))

-- ---- the read-back

-- Bytes lent in some block, and the part of n of them from k on.
abbrev lent : ℕ → List ℕ → Bor (List ℕ)
lent block bytes = record { ref_ptr = (block, 0); now = bytes }

abbrev lent_part : ℕ → ℕ → ℕ → List ℕ → Bor (List ℕ)
lent_part block k n bytes = record { ref_ptr = (block, k + 0); now = take n (drop k bytes) }

lent_part_is : (block k n : ℕ) (bytes : List ℕ) → Part (lent block bytes) k n (lent_part block k n bytes)
lent_part_is block k n bytes = record { block = refl; offset = refl; bytes = refl }

-- Of every pair some part is read back, and so one record.
module _ (p : Pair) {r s : List ℕ} (first : PayloadIs p r) (second : PayloadIs p s) where
  by_part : (part : Bor (List ℕ)) → WinnerPart (winner_info (report p)) (lent 0 p.a.bytes) (lent 1 p.b.bytes) part → r ≡ s
  by_part part handed_back = sym (first _ _ part refl refl handed_back) ∙ second _ _ part refl refl handed_back

  by_info : (info : Option (SlotIndex × SlotInfo)) → winner_info (report p) ≡ info → r ≡ s
  by_info None is = by_part (lent_part 0 0 0 p.a.bytes) (rw is (lent_part_is 0 0 0 p.a.bytes))
  by_info (Some (SlotIndex.A, i)) is =
      let start = payload_start i (length p.a.bytes) in
      let len = payload_length i (length p.a.bytes) in
      by_part (lent_part 0 start len p.a.bytes) (rw is (lent_part_is 0 start len p.a.bytes))
  by_info (Some (SlotIndex.B, i)) is =
      let start = payload_start i (length p.b.bytes) in
      let len = payload_length i (length p.b.bytes) in
      by_part (lent_part 1 start len p.b.bytes) (rw is (lent_part_is 1 start len p.b.bytes))

  same_record : r ≡ s
  same_record = by_info (winner_info (report p)) refl

pub one_payload : OnePayload
one_payload p r s first second = same_record p first second

-- Two parts that are handed back of the same slots hold the same.
parts_same : (info : Option (SlotIndex × SlotInfo)) (a b x a' b' y : Bor (List ℕ)) → a.now ≡ a'.now → b.now ≡ b'.now
    → WinnerPart info a b x → WinnerPart info a' b' y → x.now ≡ y.now
parts_same None a b x a' b' y a_is b_is first second = first.bytes ∙ sym second.bytes
parts_same (Some (SlotIndex.A, i)) a b x a' b' y a_is b_is first second =
    first.bytes ∙ ap (λ (s : List ℕ). take (payload_length i (length s)) (drop (payload_start i (length s)) s)) a_is ∙ sym second.bytes
parts_same (Some (SlotIndex.B, i)) a b x a' b' y a_is b_is first second =
    first.bytes ∙ ap (λ (s : List ℕ). take (payload_length i (length s)) (drop (payload_start i (length s)) s)) b_is ∙ sym second.bytes

-- So what `winner_payload` hands back of a pair's slots is the pair's record.
pub handed_back : (p : Pair) (a b part : Bor (List ℕ)) (expect_a expect_b : Expect) → HasSlots p a.now expect_a b.now expect_b
    → WinnerPart (winner_info (read_pair a.now expect_a b.now expect_b)) a b part → PayloadIs p part.now
handed_back p a b part expect_a expect_b slots handed a' b' part' a_is b_is handed' =
    let report_is : report p ≡ read_pair a.now expect_a b.now expect_b = cc (slots.bytes_a, slots.expect_a, slots.bytes_b, slots.expect_b) in
    parts_same (winner_info (report p)) a' b' part' a b part (a_is ∙ slots.bytes_a) (b_is ∙ slots.bytes_b) handed'
    (subst (λ (r : PairReport). WinnerPart (winner_info r) a b part) (sym report_is) handed)

-- ---- what a sound store and a correct write ask for

pub any_rest : AnyRest
any_rest v generation number own prev owner = record { generation = generation; number = number; own = own; prev = prev; owner = owner }

pub any_typed : AnyTyped
any_typed s bytes volume volume_bytes object offset rest =
    record { bytes = bytes; volume = volume; volume_bytes = volume_bytes; object = object; offset = offset; rest = rest }

pub any_slot : AnySlot
any_slot s bytes volume volume_bytes object offset rest format numbered =
    record {
      typed = record { bytes = bytes; volume = volume; volume_bytes = volume_bytes; object = object; offset = offset; rest = rest };
      format = format;
      numbered = numbered;
    }

pub any_first : AnyFirst
any_first p i slots valid generation blank accepted =
    record {
      slots = slots;
      newer = SlotIndex.A;
      info = i;
      valid = valid;
      accepted = accepted;
      beside = Beside.first refl generation blank;
    }

pub any_both : AnyBoth
any_both p newer i j slots valid beside_valid generation number link accepted beside_accepted =
    record {
      slots = slots;
      newer = newer;
      info = i;
      valid = valid;
      accepted = accepted;
      beside = Beside.both j beside_valid generation number link beside_accepted;
    }

pub any_page : AnyPage
any_page p index most decoder = record { index = index; most = most; decoder = decoder }

every_pair : (P : Pair → Type 0) → EveryPair P
every_pair P [] each = Every.none
every_pair P (p ∷ ps) each = Every.more (each 0 p refl) (every_pair P ps (λ i q at. each (suc i) q at))

pub any_pairs : AnyPairs
any_pairs = (every_pair IsPage, every_pair SoundPair)

pub any_row : AnyRow
any_row p ps volume pages range sound =
    let is_row : IsRow (p ∷ ps) = IsRow.row volume pages range in (is_row, record { row = is_row; pairs = sound })

pub any_written : AnyWritten
any_written generation prev number w format volume object offset index log2 generation_is generation_fits prev_is number_is number_fits owner compat bytes accepted fits room =
    record {
      format = format;
      volume = volume;
      object = object;
      offset = offset;
      index = index;
      log2 = log2;
      generation_is = generation_is;
      generation_fits = generation_fits;
      prev_is = prev_is;
      number_is = number_is;
      number_fits = number_fits;
      owner = owner;
      compat = compat;
      bytes = bytes;
      accepted = accepted;
      fits = fits;
      room = room;
    }

pub any_correct : AnyCorrect
any_correct n w winner won written = record { winner = winner; won = won; written = written }

pub any_correct_write : AnyCorrectWrite
any_correct_write w correct = correct

-- ---- where it may be cut

pub any_point : AnyPoint
any_point k size point = point

-- ---- which pairs have the slots that are read

pub any_has_slots : AnyHasSlots
any_has_slots p a ea b eb bytes_a expect_a bytes_b expect_b =
    record { bytes_a = bytes_a; expect_a = expect_a; bytes_b = bytes_b; expect_b = expect_b }
