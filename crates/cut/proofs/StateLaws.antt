-- A pair between two writes: its winner stands, and the slot beside it rests or is the write in flight. What the judge makes of it, and
-- what is read back. By the winner's index x and info i.
use Rattle.std.proofs.Common.{◌≡◌, refl, ap, ◌∙◌, Bool, true, false, cond, ◌==◌, List, ℕ, ◌+◌, ◌^◌, ◌≤◌, ◌<◌, arith, length, get_or, take, Option, Some, None, Ok}
use Rattle.codec.specs.Bytes.{le32}
use Rattle.codec.specs.Crc32c.{crc32c}
use Rattle.slot.specs.Status.{other}
use Rattle.slot.specs.Payload.{payload as payload_of}
use Rattle.slot.specs.Header.{magic, header}
use Rattle.slot.specs.Read.{is_slot_length, is_blank, check, header_info, passes_payload, validate, header_facts}
use Rattle.slot.specs.Write.{header_crc, written_header}
use Rattle.slot.specs.Laws.{expect_of, stored_header, info_of}
use Rattle.slot.specs.declared.header.Header.{Header}
use Rattle.slot.specs.declared.slot.SlotIndex.{SlotIndex}
use Rattle.slot.specs.declared.slot.SlotInfo.{SlotInfo}
use Rattle.slot.specs.declared.slot.SlotFields.{SlotFields}
use Rattle.slot.specs.declared.slot.SlotStatus.{SlotStatus}
use Rattle.slot.specs.declared.slot.HeaderFacts.{HeaderFacts}
use Rattle.slot.specs.declared.slot.Expect.{Expect}
use Rattle.slot.proofs.RoundTripLaws.{Proper}
use Rattle.std.specs.List.{IsAmong}
use Rattle.pair.specs.Pair.{winner_info}
use Rattle.judge.specs.declared.verdict.SlotVerdict.{SlotVerdict}
use Rattle.cut.specs.Store.{Pair, accepts, slot_at, status, report, SoundSlot, Beside, SoundPair}
use Rattle.cut.specs.Cut.{header_passes, payload_in}
use Rattle.cut.proofs.StatusLaws.{passed_is, blank_is, valid_is, bad_status, bad_facts, passed_facts, passed_status}
use Rattle.cut.proofs.JudgeLaws.{Quiet}
use Rattle.cut.proofs.WrittenLaws.{stored_under, check_under, info_under, payload_under, passes_under}
use Rattle.cut.proofs.PairLaws.{number_at, predecessor, Stands, beside_valid, beside_blank, beside_predecessor, beside_unread, beside_new, beside_old, blank_number, valid_number, torn_number, bad_number}

-- The header's length is 128 or less, byte by byte.
pub record Short (s : List ℕ) : Type 0 where
  pub low : get_or s 12 0 ≤ 128
  pub high : get_or s 13 0 ≡ 0

-- The bytes of the slot beside the winner, and what it is read with.
abbrev pub beside : SlotIndex → Pair → List ℕ
beside x p = (slot_at (other x) p).bytes

abbrev pub asked : SlotIndex → Pair → Expect
asked x p = (slot_at (other x) p).expect

-- The winner, and the other slot's size.
pub record Leads (p : Pair) (x : SlotIndex) (i : SlotInfo) : Type 0 where
  pub slots : (index : SlotIndex) → SoundSlot (slot_at index p)
  pub valid : status (slot_at x p) ≡ SlotStatus.Valid i
  pub accepted : accepts p.decoder (payload_of i (slot_at x p).bytes) ≡ true
  pub length_ok : is_slot_length (length (beside x p)) (asked x p).log2_slot_size ≡ true

-- A write of the payload r to the other slot, with the number n.
pub record Fitting (p : Pair) (x : SlotIndex) (i : SlotInfo) (f : SlotFields) (r : List ℕ) (n : ℕ) : Type 0 where
  pub proper : Proper f true
  pub asked_is : expect_of f true ≡ asked x p
  pub small : length r < 2 ^ 32
  pub fits : 128 + length r ≤ length (beside x p)
  pub generation : f.generation ≡ i.generation + 1
  pub prev : f.prev_header_crc32c ≡ i.header_crc32c
  pub number : f.meta_seq ≡ n
  pub accepted : accepts p.decoder r ≡ true

-- A header that passes every check is of an older version than the winner.
pub record Older (s : List ℕ) (e : Expect) (i : SlotInfo) : Type 0 where
  pub check_is : check s (header s) e ≡ Ok tt
  pub generation : (header s).generation < i.generation
  pub number : (header s).meta_seq < i.meta_seq

-- The other slot is no candidate: never written, an older version, or one whose stored checksum the winner records.
pub data Resting (p : Pair) (x : SlotIndex) (i : SlotInfo) : Type 0 where
  zeroed : x ≡ SlotIndex.A → i.generation ≡ 1 → is_blank (beside x p) ≡ true → Resting p x i
  past : Older (beside x p) (asked x p) i → Resting p x i
  lapsed : take 8 (beside x p) ≡ magic → header_passes (beside x p) ≡ false → Short (beside x p)
      → predecessor i (le32 (beside x p) 8) ≡ true
      → Resting p x i

-- It is the write in flight, its header written with m, its number n: a header that fails, or one that stands over another payload.
pub data Flying (p : Pair) (x : SlotIndex) (i : SlotInfo) (m : List ℕ) (known : List (List ℕ)) (n : ℕ) : Type 0 where
  unread : take 8 (beside x p) ≡ magic → header_passes (beside x p) ≡ false → Short (beside x p)
      → predecessor i (le32 (beside x p) 8) ≡ false
      → Flying p x i m known n
  begun : (f : SlotFields) → Fitting p x i f m n → take 128 (beside x p) ≡ written_header f m
      → passes_payload (beside x p) (header (beside x p)) ≡ false → IsAmong known m → Flying p x i m known n

-- The status and the facts of a header that passed every check.
abbrev by_payload : Bool → SlotInfo → SlotStatus
by_payload ok i = cond ok (SlotStatus.Valid i) SlotStatus.BadPayloadCrc

abbrev facts_of : ℕ → Header → Option HeaderFacts
facts_of stored h =
    Some (record {
      stored_header_crc32c = stored;
      numbered = Some (record { generation = h.generation; meta_seq = h.meta_seq; prev_header_crc32c = h.prev_header_crc32c });
    })

module _ (p : Pair) (x : SlotIndex) (i : SlotInfo) (leads : Leads p x i) where
  abbrev s : List ℕ
  s = beside x p

  abbrev e : Expect
  e = asked x p

  abbrev r : List ℕ
  r = payload_of i (slot_at x p).bytes

  pub blank_status : is_blank (beside x p) ≡ true → status (slot_at (other x) p) ≡ SlotStatus.Blank
  unfolding validate
  blank_status zeros = simp (leads.length_ok, zeros)

  pub failing_status : take 8 (beside x p) ≡ magic → header_passes (beside x p) ≡ false
      → status (slot_at (other x) p) ≡ SlotStatus.BadHeaderCrc
  failing_status stands fails = bad_status s e leads.length_ok stands fails

  failing_facts : take 8 s ≡ magic → header_passes s ≡ false
      → header_facts s e ≡ Some (record { stored_header_crc32c = le32 s 8; numbered = None })
  failing_facts stands fails = bad_facts s e leads.length_ok stands fails

  -- ---- a header that passes every check

  module _ (passes : check s (header s) e ≡ Ok tt) where
    pub passing_status : (ok : Bool) → passes_payload (beside x p) (header (beside x p)) ≡ ok
        → status (slot_at (other x) p) ≡ by_payload ok (header_info (header (beside x p)))
    passing_status ok is =
        passed_status s e leads.length_ok (passed_is s e passes).magic_is passes ∙ ap (λ (b : Bool). by_payload b (header_info (header s))) is

    passing_facts : header_facts s e ≡ facts_of (le32 s 8) (header s)
    passing_facts = passed_facts s e leads.length_ok (passed_is s e passes).magic_is passes

    passing_number : number_at (other x) p ≡ (header s).meta_seq
    passing_number = go (passes_payload s (header s)) refl
      where
        go : (ok : Bool) → passes_payload s (header s) ≡ ok → number_at (other x) p ≡ (header s).meta_seq
        go true is = valid_number p (other x) (header_info (header s)) (passing_status true is)
        go false is = torn_number p (other x) (le32 s 8) _ (passing_status false is) passing_facts

  abbrev older_verdict : Bool → SlotVerdict
  older_verdict ok = cond ok SlotVerdict.Nothing SlotVerdict.OlderDamaged

  older_quiet : (ok : Bool) → Quiet (older_verdict ok)
  older_quiet true = Quiet.intact
  older_quiet false = Quiet.damaged

  older_stands : Older s e i → (rule : SlotIndex → Option ℕ → Bool) → (ok : Bool) → passes_payload s (header s) ≡ ok
      → Stands p rule x i (older_verdict ok) r
  older_stands old rule true is =
      beside_valid p x i leads.valid rule leads.accepted (header_info (header s)) (passing_status old.check_is true is) old.generation
  older_stands old rule false is =
      beside_old p x i leads.valid rule leads.accepted (le32 s 8) _ (passing_status old.check_is false is) (passing_facts old.check_is) old.generation

  -- ---- no candidate

  -- The verdict on it, whatever qualifies.
  pub record Rests : Type 0 where
    pub verdict : SlotVerdict
    pub quiet : Quiet verdict
    pub stands : (rule : SlotIndex → Option ℕ → Bool) → Stands p rule x i verdict (payload_of i (slot_at x p).bytes)

  pub rests : Resting p x i → Rests
  rests (zeroed is_a first zeros) =
      record {
        verdict = SlotVerdict.Nothing;
        quiet = Quiet.intact;
        stands = λ rule. beside_blank p x i leads.valid rule leads.accepted is_a first (blank_status zeros);
      }
  rests (past old) =
      record {
        verdict = older_verdict (passes_payload s (header s));
        quiet = older_quiet (passes_payload s (header s));
        stands = λ rule. older_stands old rule (passes_payload s (header s)) refl;
      }
  rests (lapsed stands fails short same_sum) =
      record {
        verdict = SlotVerdict.OlderDamaged;
        quiet = Quiet.damaged;
        stands =
            λ rule.
            beside_predecessor p x i leads.valid rule leads.accepted (le32 s 8) (failing_status stands fails) (failing_facts stands fails) same_sum;
      }

  pub resting_won : Resting p x i → winner_info (report p) ≡ Some (x, i)
  resting_won resting = ((rests resting).stands (λ index number. true)).won

  pub winner_number : number_at x p ≡ i.meta_seq
  winner_number = valid_number p x i leads.valid

  pub resting_number : Resting p x i → number_at (other x) p ≤ number_at x p
  resting_number (zeroed is_a first zeros) = let none = blank_number p (other x) (blank_status zeros) in omega arith
  resting_number (past old) = let is = passing_number old.check_is in let own = winner_number in omega (arith, old.number)
  resting_number (lapsed stands fails short same_sum) =
      let none = bad_number p (other x) (le32 s 8) (failing_status stands fails) (failing_facts stands fails) in
      omega arith

  -- ---- a slot under the header of a write that fits

  module _ {f : SlotFields} {m : List ℕ} {n : ℕ} (fit : Fitting p x i f m n) (c : List ℕ) (size : length c ≡ length (beside x p))
      (head : take 128 c ≡ written_header f m) where
    within : 128 + length m ≤ length c
    within = let fits = fit.fits in omega (arith, size)

    pub under_header : header c ≡ stored_header (header_crc f m) f (length m) (crc32c m)
    under_header = stored_under m fit.proper fit.small c within head

    pub under_check : check c (header c) (asked x p) ≡ Ok tt
    under_check = check_under m fit.proper fit.small c within head fit.asked_is

    pub under_info : header_info (header c) ≡ info_of f m
    under_info = info_under m fit.proper fit.small c within head

    pub under_payload : payload_of (header_info (header c)) c ≡ payload_in c m
    under_payload = payload_under m fit.proper fit.small c within head

    pub under_passes : passes_payload c (header c) ≡ (crc32c (payload_in c m) == crc32c m)
    under_passes = passes_under m fit.proper fit.small c within head

  -- ---- the write in flight

  pub flies : {m : List ℕ} {known : List (List ℕ)} {n : ℕ} → Flying p x i m known n → (rule : SlotIndex → Option ℕ → Bool)
      → rule (other x) None ≡ true → rule (other x) (Some n) ≡ true
      → Stands p rule x i SlotVerdict.InFlight (payload_of i (slot_at x p).bytes)
  flies (unread stands fails short other_sum) rule none qualified =
      beside_unread p x i leads.valid rule leads.accepted (le32 s 8) (failing_status stands fails) (failing_facts stands fails) other_sum none
  flies {m} (begun f fit head bad among) rule none qualified =
      let passes = under_check fit s refl head in
      let h = under_header fit s refl head in
      beside_new p x i leads.valid rule leads.accepted (le32 s 8) _ (passing_status passes false bad) (passing_facts passes)
      (ap (λ (a : Header). a.generation) h ∙ fit.generation)
      (ap (λ (a : Header). a.prev_header_crc32c) h ∙ fit.prev)
      (ap (λ (a : Header). rule (other x) (Some a.meta_seq)) h ∙ ap (λ (k : ℕ). rule (other x) (Some k)) fit.number ∙ qualified)

-- ---- a sound pair

module _ (p : Pair) (sound : SoundPair p) where
  abbrev side : List ℕ
  side = beside sound.newer p

  abbrev asks : Expect
  asks = asked sound.newer p

  pub sound_leads : Leads p sound.newer sound.info
  sound_leads = record { slots = sound.slots; valid = sound.valid; accepted = sound.accepted; length_ok = go sound.beside }
    where
      go : Beside p sound.newer sound.info → is_slot_length (length side) asks.log2_slot_size ≡ true
      go (Beside.first is_a first second) = (blank_is side asks second).length_ok
      go (Beside.both j second next higher linked takes) = (valid_is side asks j second).length_ok

  pub sound_rests : Resting p sound.newer sound.info
  sound_rests = go sound.beside
    where
      go : Beside p sound.newer sound.info → Resting p sound.newer sound.info
      go (Beside.first is_a first second) = Resting.zeroed is_a first (blank_is side asks second).zeros
      go (Beside.both j second next higher linked takes) =
          let known = valid_is side asks j second in
          let generation = ap (λ (k : SlotInfo). k.generation) known.info_is in
          let number = ap (λ (k : SlotInfo). k.meta_seq) known.info_is in
          Resting.past (record { check_is = known.check_is; generation = omega arith; number = omega arith })

  pub sound_won : winner_info (report p) ≡ Some (sound.newer, sound.info)
  sound_won = resting_won p sound.newer sound.info sound_leads sound_rests
