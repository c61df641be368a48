-- One pair, by what its slots are: its verdict, its winner, the record that is read back and its last written record. By the winner's
-- index, for each look of the slot beside it.
use Rattle.std.proofs.Common.{◌≡◌, refl, ap, subst, ◌∙◌, Bool, true, false, cond, List, ℕ, ◌+◌, ◌≤◌, ◌<◌, ◌&&◌, ◌==◌, nat_le, arith, eq-eqb, ne_eqb, lt-ltb, le-ltb, Option, Some, None}
use Rattle.slot.specs.Status.{other, info}
use Rattle.slot.specs.Payload.{payload}
use Rattle.slot.specs.Read.{header_facts}
use Rattle.slot.specs.declared.slot.SlotIndex.{SlotIndex}
use Rattle.slot.specs.declared.slot.SlotInfo.{SlotInfo}
use Rattle.slot.specs.declared.slot.SlotStatus.{SlotStatus}
use Rattle.slot.specs.declared.slot.NumberedHeader.{NumberedHeader}
use Rattle.pair.specs.Pair.{refused, explains_survivor, decide, winner_info}
use Rattle.pair.specs.Winner.{read_pair, WinnerPart}
use Rattle.judge.specs.Pairs.{numbered, valid, is_unsupported, opposite, pair_case}
use Rattle.judge.specs.Numbers.{number}
use Rattle.judge.specs.Verdict.{winner_beside, pair_verdict}
use Rattle.judge.specs.Part.{version_of_info}
use Rattle.judge.specs.Records.{shown_read, pair_read}
use Rattle.judge.specs.declared.pairs.Shown.{Shown}
use Rattle.judge.specs.declared.pairs.Pair.{Pair as ShownPair}
use Rattle.judge.specs.declared.pairs.Opposite.{Opposite}
use Rattle.judge.specs.declared.pairs.PairCase.{PairCase}
use Rattle.judge.specs.declared.verdict.SlotVerdict.{SlotVerdict}
use Rattle.cut.specs.Store.{Slot, Pair, accepts, slot_at, status, report, slot_read, last_record, Beside, SoundPair}
use Rattle.cut.specs.Cut.{PayloadIs}

pub other_other : (index : SlotIndex) → other (other index) ≡ index
other_other SlotIndex.A = refl
other_other SlotIndex.B = refl

-- What the judge is told of a slot and of a pair.
abbrev pub shown_slot : Slot → Shown
shown_slot s = shown_read (slot_read s)

abbrev pub shown_pair : Pair → ShownPair
shown_pair p = pair_read (record { a = slot_read p.a; b = slot_read p.b; operator = p.operator })

module _ (p : Pair) where
  -- ---- the pair's case

  case_two : (w : SlotIndex) (i j : SlotInfo) → status (slot_at w p) ≡ SlotStatus.Valid i → status (slot_at (other w) p) ≡ SlotStatus.Valid j
      → j.generation < i.generation → pair_case (shown_pair p) ≡ PairCase.Won w Opposite.Nothing
  case_two SlotIndex.A i j first second older =
      simp (first, second, ne_eqb i.generation j.generation (λ is. omega arith), lt-ltb j.generation i.generation older)
  case_two SlotIndex.B i j first second older =
      let below : j.generation ≤ i.generation = omega arith in
      simp (first, second, ne_eqb j.generation i.generation (λ is. omega arith), le-ltb i.generation j.generation below)

  case_beside : (w : SlotIndex) (i : SlotInfo) (o : Shown) → status (slot_at w p) ≡ SlotStatus.Valid i → shown_slot (slot_at (other w) p) ≡ o
      → is_unsupported o ≡ false → valid o ≡ None → pair_case (shown_pair p) ≡ PairCase.Won w (opposite w (version_of_info i) o)
  case_beside SlotIndex.A i o first second supported not_valid = simp (first, second, supported, not_valid)
  case_beside SlotIndex.B i o first second supported not_valid = simp (first, second, supported, not_valid)

  -- ---- the report, and the last written record

  won_two : (w : SlotIndex) (i j : SlotInfo) → status (slot_at w p) ≡ SlotStatus.Valid i → status (slot_at (other w) p) ≡ SlotStatus.Valid j
      → j.generation < i.generation → winner_info (report p) ≡ Some (w, i)
  unfolding read_pair decide
  won_two SlotIndex.A i j first second older =
      simp (first, second, ne_eqb i.generation j.generation (λ is. omega arith), lt-ltb j.generation i.generation older)
  won_two SlotIndex.B i j first second older =
      let below : j.generation ≤ i.generation = omega arith in
      simp (first, second, ne_eqb j.generation i.generation (λ is. omega arith), le-ltb i.generation j.generation below)

  won_alone : (w : SlotIndex) (i : SlotInfo) (beside : SlotStatus) → status (slot_at w p) ≡ SlotStatus.Valid i → status (slot_at (other w) p) ≡ beside
      → refused beside ≡ false → info beside ≡ None → explains_survivor beside ≡ true → winner_info (report p) ≡ Some (w, i)
  unfolding read_pair decide
  won_alone SlotIndex.A i beside first second supported not_valid explains = simp (first, second, supported, not_valid, explains)
  won_alone SlotIndex.B i beside first second supported not_valid explains = simp (first, second, supported, not_valid, explains)

  -- The part that `winner_payload` hands back is the payload in the winner's slot.
  pub won_payload : (w : SlotIndex) (i : SlotInfo) → winner_info (report p) ≡ Some (w, i) → PayloadIs p (payload i (slot_at w p).bytes)
  unfolding payload
  won_payload w i won a b part a_is b_is handed = at_winner w (subst (λ (x : Option (SlotIndex × SlotInfo)). WinnerPart x a b part) won handed)
    where
      at_winner : (w : SlotIndex) → WinnerPart (Some (w, i)) a b part → part.now ≡ payload i (slot_at w p).bytes
      at_winner SlotIndex.A here = here.bytes ∙ ap (payload i) a_is
      at_winner SlotIndex.B here = here.bytes ∙ ap (payload i) b_is

  last_two : (w : SlotIndex) (i j : SlotInfo) → status (slot_at w p) ≡ SlotStatus.Valid i → status (slot_at (other w) p) ≡ SlotStatus.Valid j
      → j.generation < i.generation → last_record p ≡ payload i (slot_at w p).bytes
  unfolding last_record
  last_two SlotIndex.A i j first second older =
      let below : j.generation ≤ i.generation = omega arith in
      simp (first, second, le-ltb i.generation j.generation below)
  last_two SlotIndex.B i j first second older = simp (first, second, lt-ltb j.generation i.generation older)

  last_alone : (w : SlotIndex) (i : SlotInfo) → status (slot_at w p) ≡ SlotStatus.Valid i → status (slot_at (other w) p) ≡ SlotStatus.Blank
      → last_record p ≡ payload i (slot_at w p).bytes
  unfolding last_record
  last_alone SlotIndex.A i first second = simp (first, second)
  last_alone SlotIndex.B i first second = simp (first, second)

-- The number that a pair's slot counts for.
abbrev pub number_at : SlotIndex → Pair → ℕ
number_at index p = number (numbered (shown_slot (slot_at index p)))

pub blank_number : (p : Pair) (index : SlotIndex) → status (slot_at index p) ≡ SlotStatus.Blank → number_at index p ≡ 0
blank_number p index is = simp is

pub valid_number : (p : Pair) (index : SlotIndex) (i : SlotInfo) → status (slot_at index p) ≡ SlotStatus.Valid i → number_at index p ≡ i.meta_seq
valid_number p index i is = simp is

-- A slot of a failed payload counts for the number in its header,
pub torn_number : (p : Pair) (index : SlotIndex) (crc : ℕ) (n : NumberedHeader) → status (slot_at index p) ≡ SlotStatus.BadPayloadCrc
    → header_facts (slot_at index p).bytes (slot_at index p).expect ≡ Some (record { stored_header_crc32c = crc; numbered = Some n })
    → number_at index p ≡ n.meta_seq
torn_number p index crc n is known = simp (is, known)

-- and one of a failed header for none.
pub bad_number : (p : Pair) (index : SlotIndex) (crc : ℕ) → status (slot_at index p) ≡ SlotStatus.BadHeaderCrc
    → header_facts (slot_at index p).bytes (slot_at index p).expect ≡ Some (record { stored_header_crc32c = crc; numbered = None })
    → number_at index p ≡ 0
bad_number p index crc is known = simp (is, known)

-- ---- a pair whose winner stands

-- A header that fails its checksum stores the one that the winner of info i records as its predecessor's.
abbrev pub predecessor : SlotInfo → ℕ → Bool
predecessor i crc = nat_le 2 i.generation && (crc == i.prev_header_crc32c)

-- The winner w of info i beside a slot of verdict v, where `qualifies` says which numbers qualify; the record that is read back.
pub record Stands (p : Pair) (qualifies : SlotIndex → Option ℕ → Bool) (w : SlotIndex) (i : SlotInfo) (v : SlotVerdict) (r : List ℕ) : Type 0 where
  pub verdict : pair_verdict qualifies (pair_case (shown_pair p)) ≡ winner_beside w v
  pub won : winner_info (report p) ≡ Some (w, i)
  pub part : PayloadIs p r
  pub accepted : accepts p.decoder r ≡ true

module _ (p : Pair) (w : SlotIndex) (i : SlotInfo) (valid_is : status (slot_at w p) ≡ SlotStatus.Valid i)
    (qualifies : SlotIndex → Option ℕ → Bool) (takes : accepts p.decoder (payload i (slot_at w p).bytes) ≡ true) where
  abbrev lead : SlotVerdict → Type 0
  lead v = Stands p qualifies w i v (payload i (slot_at w p).bytes)

  stands : {v : SlotVerdict} → pair_verdict qualifies (pair_case (shown_pair p)) ≡ winner_beside w v → winner_info (report p) ≡ Some (w, i) → lead v
  stands verdict won = record { verdict = verdict; won = won; part = won_payload p w i won; accepted = takes }

  -- Two Valid slots.
  pub beside_valid : (j : SlotInfo) → status (slot_at (other w) p) ≡ SlotStatus.Valid j → j.generation < i.generation
      → Stands p qualifies w i SlotVerdict.Nothing (payload i (slot_at w p).bytes)
  beside_valid j second older =
      stands (ap (pair_verdict qualifies) (case_two p w i j valid_is second older)) (won_two p w i j valid_is second older)

  -- A Blank B beside an A of generation 1.
  pub beside_blank : w ≡ SlotIndex.A → i.generation ≡ 1 → status (slot_at (other w) p) ≡ SlotStatus.Blank
      → Stands p qualifies w i SlotVerdict.Nothing (payload i (slot_at w p).bytes)
  beside_blank is_a first second =
      let nothing : opposite w (version_of_info i) Shown.Blank ≡ Opposite.Nothing = rw is_a (simp first) in
      stands
      (ap (pair_verdict qualifies) (case_beside p w i Shown.Blank valid_is (simp second) refl refl ∙ ap (PairCase.Won w) nothing))
      (won_alone p w i SlotStatus.Blank valid_is second refl refl refl)

  -- A header that fails its checksum.
  module _ (crc : ℕ) (second : status (slot_at (other w) p) ≡ SlotStatus.BadHeaderCrc)
      (known : header_facts (slot_at (other w) p).bytes (slot_at (other w) p).expect ≡ Some (record { stored_header_crc32c = crc; numbered = None })) where
    bad_case : (test : Bool) → predecessor i crc ≡ test
        → pair_case (shown_pair p) ≡ PairCase.Won w (cond test Opposite.OlderDamaged (Opposite.Candidate None))
    bad_case test is =
        case_beside p w i (Shown.BadHeader crc) valid_is (simp (second, known)) refl refl
        ∙ ap (λ (b : Bool). PairCase.Won w (cond b Opposite.OlderDamaged (Opposite.Candidate None))) is

    bad_won : winner_info (report p) ≡ Some (w, i)
    bad_won = won_alone p w i SlotStatus.BadHeaderCrc valid_is second refl refl refl

    -- The winner's predecessor,
    pub beside_predecessor : predecessor i crc ≡ true → Stands p qualifies w i SlotVerdict.OlderDamaged (payload i (slot_at w p).bytes)
    beside_predecessor is = stands (ap (pair_verdict qualifies) (bad_case true is)) bad_won

    -- or a write whose number is not known.
    pub beside_unread : predecessor i crc ≡ false → qualifies (other w) None ≡ true
        → Stands p qualifies w i SlotVerdict.InFlight (payload i (slot_at w p).bytes)
    beside_unread is unread =
        stands
        (ap (pair_verdict qualifies) (bad_case false is) ∙ ap (λ (b : Bool). winner_beside w (cond b SlotVerdict.InFlight SlotVerdict.Damage)) unread)
        bad_won

  -- A header that passes every check, over a payload that fails its checksum.
  module _ (crc : ℕ) (n : NumberedHeader) (second : status (slot_at (other w) p) ≡ SlotStatus.BadPayloadCrc)
      (known : header_facts (slot_at (other w) p).bytes (slot_at (other w) p).expect ≡ Some (record { stored_header_crc32c = crc; numbered = Some n })) where
    torn_case : pair_case (shown_pair p)
        ≡ PairCase.Won w (opposite w (version_of_info i) (Shown.BadPayload n))
    torn_case = case_beside p w i (Shown.BadPayload n) valid_is (simp (second, known)) refl refl

    torn_won : winner_info (report p) ≡ Some (w, i)
    torn_won = won_alone p w i SlotStatus.BadPayloadCrc valid_is second refl refl refl

    -- The write itself.
    pub beside_new : n.generation ≡ i.generation + 1 → n.prev_header_crc32c ≡ i.header_crc32c
        → qualifies (other w) (Some n.meta_seq) ≡ true → Stands p qualifies w i SlotVerdict.InFlight (payload i (slot_at w p).bytes)
    beside_new next linked qualified =
        let not_older : i.generation ≤ n.generation = omega arith in
        stands
        (ap (pair_verdict qualifies) torn_case ∙ simp (le-ltb _ _ not_older, eq-eqb _ _ next, eq-eqb _ _ linked, qualified))
        torn_won

    -- The older version.
    pub beside_old : n.generation < i.generation → Stands p qualifies w i SlotVerdict.OlderDamaged (payload i (slot_at w p).bytes)
    beside_old older = stands (ap (pair_verdict qualifies) torn_case ∙ simp (lt-ltb _ _ older)) torn_won

-- ---- a sound pair

pub last_is : (p : Pair) (sound : SoundPair p) → last_record p ≡ payload sound.info (slot_at sound.newer p).bytes
last_is p sound = go sound.beside
  where
    go : Beside p sound.newer sound.info → last_record p ≡ payload sound.info (slot_at sound.newer p).bytes
    go (Beside.first is_a first second) = last_alone p sound.newer sound.info sound.valid second
    go (Beside.both j second next higher linked takes) = last_two p sound.newer sound.info j sound.valid second (omega arith)
