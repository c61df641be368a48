-- What specs/Writes.antt says: the first writes, the store that they make, their plans, and the hypotheses of their cuts.
use Rattle.std.proofs.Common.{◌≡◌, refl, sym, ap, ◌∙◌, ◌⊎◌, inl, inr, true, false, nat_eq, ◌==◌, eq-eqb, List, [], ◌∷◌, ◌++◌, ℕ, ◌+◌, ◌≤◌, lit≤, length, take, map, Option, Result}
use lib.Pointwise.{pointwise}
use Rattle.codec.specs.Bytes.{AllBytes, le, le32}
use Rattle.codec.specs.Crc32c.{crc32c, final_remainder, remainder, digest, reversed}
use Rattle.slot.specs.Read.{header_sum}
use Rattle.slot.specs.Write.{header_bytes}
use Rattle.slot.specs.Laws.{Fits}
use Rattle.slot.specs.declared.slot.SlotIndex.{SlotIndex}
use Rattle.slot.specs.declared.slot.SlotInfo.{SlotInfo}
use Rattle.slot.specs.declared.slot.SlotStatus.{SlotStatus}
use Rattle.pair.specs.Pair.{decide}
use Rattle.judge.specs.Part.{part_bytes}
use Rattle.judge.specs.Frames.{frames_error}
use Rattle.judge.specs.Numbers.{numbers, highest}
use Rattle.judge.specs.Same.{Framed, filled, frames_of, pairs_of}
use Rattle.judge.specs.Records.{pair_read}
use Rattle.judge.specs.declared.records.SlotRead.{SlotRead}
use Rattle.judge.specs.declared.records.PairRead.{PairRead}
use Rattle.meta.specs.Volume.{volume_bytes}
use Rattle.meta.specs.Page.{header_bytes as page_header_bytes}
use Rattle.cut.specs.Store.{Every, Decoder, Volume, Page, Pair, accepts, frames, framed, IsRow}
use Rattle.cut.specs.Cut.{Tear, Ascending, cut, next_number, stands_whole, whole, header_passes, payload_in, Accident, is_empty}
use Rattle.cut.proofs.StatusLaws.{false_true}
use Rattle.cut.proofs.CutLaws.{differ}
use Rattle.cut_examples.specs.Stores.{volume_record, page_record, fields}
use Rattle.cut_examples.specs.Writes.{write_to}
use Rattle.cut_examples.proofs.Writes.{fields_written, blank_sound, blank_status, volume_bytes as all_bytes, volume_accepted, page_bytes, page_fits, page_accepted, blank_bytes}
use Rattle.cut_examples.proofs.SlotsRead.{framed_row}
use Rattle.plan.specs.Plan.{plan_write}
use Rattle.plan.specs.declared.write.Plan.{Plan}
use Rattle.plan.specs.declared.error.PlanError.{PlanError}
use Rattle.creation.specs.Creation.{NewPair, FirstWrite, Creating}
use Rattle.creation.proofs.Theorem.{creation_theorem, made_begins, whole_begins}
use Rattle.creation_examples.specs.Stores.{blank_pair, blank_volume, blank_page_0, page_0_pair, page_1_pair, blank_store, page_1_store, pages_store}
use Rattle.creation_examples.specs.Writes.{page_1_write, page_0_write, volume_write, FirstWrites, StoresCreating, Made, Planned, IsMet, MetIsEnough, PageMet, VolumeMet, StandsWhole}
use Rattle.creation_examples.specs.States.{row}
use Rattle.creation_examples.proofs.Slots.{ReadAs, volume_fits, page_0_fits, page_1_fits, volume_slot, page_0_slot, volume_slot_is, page_0_slot_is, page_0_read_as, page_1_read_as, blank_row, page_1_row, pages_row}

-- ---- pairs that were not written

new_pair : (object : ℕ) (decoder : Decoder) (operator : ℕ) → object ≤ 2 → NewPair (blank_pair object decoder operator)
new_pair object decoder operator small =
    record {
      slots = elim [ SlotIndex.A ↦ blank_sound object SlotIndex.A small | SlotIndex.B ↦ blank_sound object SlotIndex.B small ];
      blank = elim [ SlotIndex.A ↦ blank_status object SlotIndex.A | SlotIndex.B ↦ blank_status object SlotIndex.B ];
    }

-- A pair whose slot A is Valid is none.
not_new : {p : Pair} {x : PairRead} {i : SlotInfo} → ReadAs p x → x.a.status ≡ SlotStatus.Valid i → NewPair p → ⊥
not_new {p} {x} {i} read valid new =
    let never : SlotStatus.Valid i ≡ SlotStatus.Blank =
    sym (ap (λ (f : Framed). f.pair.a.status) read.framed_is ∙ valid) ∙ new.blank SlotIndex.A in
    absurd cc

-- ---- the first writes

-- The number follows from how the slots are read.
number_of : (ps : List Pair) {volume page_0 page_1 : SlotRead} → framed ps ≡ framed_row (row volume page_0 page_1) → (operator : ℕ) {n : ℕ}
    → n ≡ highest (numbers operator (map pair_read (row volume page_0 page_1))) + 1
    → n ≡ highest (numbers operator (map pair_read (pairs_of (framed ps)))) + 1
number_of ps is operator number = rw is number

module _ (before : List Pair) (object : ℕ) (decoder : Decoder) (operator : ℕ) (behind : List Pair) (number : ℕ)
    (fits : Fits (fields 9 object SlotIndex.A 1 0 number)) (small : object ≤ 2)
    (last : is_empty before ≡ true → Every (λ (p : Pair). NewPair p → ⊥) behind)
    (number_is : number ≡ next_number (before ++ blank_pair object decoder operator ∷ behind) (blank_pair object decoder operator))
    (payload : List ℕ) (bytes : AllBytes payload) (accepted : accepts decoder payload ≡ true) (room : 128 + length payload ≤ 512) where
  first_to : (tear : Tear)
      → FirstWrite (write_to before (blank_pair object decoder operator) behind (fields 9 object SlotIndex.A 1 0 number) payload tear)
  first_to tear =
      record {
        new_pair = new_pair object decoder operator small;
        slot_a = refl;
        written =
            fields_written before (blank_pair object decoder operator) behind (fields 9 object SlotIndex.A 1 0 number) fits refl refl refl refl number_is
            payload bytes accepted room tear;
        volume_last = last;
      }

volume_room : 128 + length (volume_record false) ≤ 512
unfolding volume_bytes
volume_room = lit≤ tt

first_page_1 : (k : ℕ) → FirstWrite (page_1_write k)
first_page_1 k =
    first_to (blank_volume ∷ blank_page_0 ∷ []) 2 (Page 1 41) 1 [] 1 page_1_fits (lit≤ tt) (λ volume. false_true refl volume)
    (number_of blank_store blank_row 1 refl) (page_record 1 0) (page_bytes 1 0) page_accepted.4 (page_fits 1 0) (Ascending k)

first_page_0 : (k : ℕ) → FirstWrite (page_0_write k)
first_page_0 k =
    first_to (blank_volume ∷ []) 1 (Page 0 41) 0 (page_1_pair ∷ []) 1 page_0_fits (lit≤ tt) (λ volume. false_true refl volume)
    (number_of page_1_store page_1_row 0 refl) (page_record 0 1) (page_bytes 0 1) page_accepted.0 (page_fits 0 1) (Ascending k)

first_volume : (k : ℕ) → FirstWrite (volume_write k)
first_volume k =
    first_to [] 0 Volume 0 (page_0_pair ∷ page_1_pair ∷ []) 2 volume_fits (lit≤ tt)
    (λ volume. Every.more (not_new page_0_read_as refl) (Every.more (not_new page_1_read_as refl) Every.none))
    (number_of pages_store pages_row 0 refl) (volume_record false) all_bytes.0 volume_accepted.0 volume_room (Ascending k)

pub first_writes : FirstWrites
first_writes = record { page_1 = first_page_1; page_0 = first_page_0; volume = first_volume }

-- ---- the store

blank_creating : Creating blank_store
blank_creating =
    Creating.begin
    (IsRow.row refl
    (Every.more (record { index = 0; most = 41; decoder = refl }) (Every.more (record { index = 1; most = 41; decoder = refl }) Every.none)) refl)
    (Every.more (new_pair 0 Volume 0 (lit≤ tt))
    (Every.more (new_pair 1 (Page 0 41) 0 (lit≤ tt)) (Every.more (new_pair 2 (Page 1 41) 1 (lit≤ tt)) Every.none)))

page_1_creating : Creating page_1_store
page_1_creating = Creating.write (page_1_write 512) blank_creating (first_page_1 512)

pages_creating : Creating pages_store
pages_creating = Creating.write (page_0_write 512) page_1_creating (first_page_0 512)

pub stores_creating : StoresCreating
stores_creating = (blank_creating, page_1_creating, pages_creating, Creating.write (volume_write 512) pages_creating (first_volume 512))

-- ---- what stands whole

stands_whole_at : (k : ℕ) → whole (volume_write k) ≡ stands_whole (cut k volume_slot blank_bytes) volume_slot (volume_record false)
stands_whole_at k = rw volume_slot_is refl

pub volume_whole : StandsWhole
unfolding stands_whole cut header_bytes volume_bytes
volume_whole = (stands_whole_at 191, stands_whole_at 192)

pub made : Made
made =
    record {
      sound = creation_theorem.made (volume_write 512) pages_creating (first_volume 512) refl;
      begins = made_begins (volume_write 512) pages_creating (first_volume 512) refl (lit≤ tt);
      whole_sound = creation_theorem.volume_whole (volume_write 192) pages_creating (first_volume 192) refl (lit≤ tt) volume_whole.1;
      whole_begins = whole_begins (volume_write 192) pages_creating (first_volume 192) refl (lit≤ tt) volume_whole.1 (lit≤ tt);
    }

-- ---- the plans

plan_by : (ps : List Pair) {volume page_0 page_1 : SlotRead} → framed ps ≡ framed_row (row volume page_0 page_1) → (i : ℕ)
    {answer : Result (Option Plan) PlanError}
    → plan_write (frames_of (framed_row (row volume page_0 page_1))) i ≡ answer
    → plan_write (frames ps) i ≡ answer
plan_by ps is i answer = rw is answer

pub planned : Planned
unfolding le plan_write frames_error filled part_bytes decide
planned =
    record {
      page_1 = λ k. (plan_by blank_store blank_row 2 refl, refl);
      page_0 = λ k. (plan_by page_1_store page_1_row 1 refl, refl);
      volume = λ k. (plan_by pages_store pages_row 0 refl, refl);
    }

-- ---- the cuts

-- The header fails and is not the new one, or it is, and the payload is the new one or fails.
abbrev Harmless : (s after payload : List ℕ) → Type 0
Harmless s after payload =
    ((header_passes s ≡ false) × (pointwise nat_eq (take 128 s) (take 128 after) ≡ false))
    ⊎ ((take 128 s ≡ take 128 after) × ((payload_in s payload ≡ payload) ⊎ ((crc32c (payload_in s payload) == le32 s 28) ≡ false)))

no_accident : (s before after payload : List ℕ) → Harmless s after payload → Accident s before after payload → ⊥
no_accident s before after payload (inl torn) (Accident.header passes not_old not_after) = false_true torn.0 passes
no_accident s before after payload (inl torn) (Accident.payload header other sum) = differ (take 128 s) (take 128 after) torn.1 header
no_accident s before after payload (inr torn) (Accident.header passes not_old not_after) = not_after torn.0
no_accident s before after payload (inr (header_is, inl same)) (Accident.payload header other sum) = other same
no_accident s before after payload (inr (header_is, inr fails)) (Accident.payload header other sum) = false_true fails (eq-eqb _ _ sum)

page_met_at : (k : ℕ) → k ≤ 512 → Harmless (cut k page_0_slot blank_bytes) page_0_slot (page_record 0 1) → IsMet (page_0_write k)
page_met_at k any harmless =
    record {
      creating = page_1_creating;
      first = first_page_0 k;
      few = lit≤ tt;
      anywhere = any;
      none = rw page_0_slot_is (no_accident (cut k page_0_slot blank_bytes) blank_bytes page_0_slot (page_record 0 1) harmless);
    }

volume_met_at : (k : ℕ) → k ≤ 512 → Harmless (cut k volume_slot blank_bytes) volume_slot (volume_record false) → IsMet (volume_write k)
volume_met_at k any harmless =
    record {
      creating = pages_creating;
      first = first_volume k;
      few = lit≤ tt;
      anywhere = any;
      none = rw volume_slot_is (no_accident (cut k volume_slot blank_bytes) blank_bytes volume_slot (volume_record false) harmless);
    }

pub page_met : PageMet
unfolding cut header_passes header_sum header_bytes page_header_bytes le crc32c final_remainder remainder digest reversed
page_met =
    Every.more (page_met_at 3 (lit≤ tt) (inl (refl, refl)))
    (Every.more (page_met_at 64 (lit≤ tt) (inl (refl, refl))) (Every.more (page_met_at 140 (lit≤ tt) (inr (refl, inr refl))) Every.none))

pub volume_met : VolumeMet
unfolding cut header_passes header_sum header_bytes volume_bytes le crc32c final_remainder remainder digest reversed
volume_met =
    Every.more (volume_met_at 3 (lit≤ tt) (inl (refl, refl)))
    (Every.more (volume_met_at 64 (lit≤ tt) (inl (refl, refl)))
    (Every.more (volume_met_at 191 (lit≤ tt) (inr (refl, inr refl))) (Every.more (volume_met_at 192 (lit≤ tt) (inr (refl, inl refl))) Every.none)))

-- ---- the hypotheses are the theorem's

pub met_is_enough : MetIsEnough
met_is_enough w met = (
  λ page. creation_theorem.page_cut w met.creating met.first met.few page met.anywhere,
  λ volume torn. creation_theorem.volume_cut w met.creating met.first met.few volume met.anywhere met.none torn,
  λ volume stands. creation_theorem.volume_whole w met.creating met.first volume met.anywhere stands,
)
