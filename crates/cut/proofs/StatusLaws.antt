-- What `validate` and `header_facts` answer, taken apart: from an answer to the tests that were passed, and from the header to the answer.
use Rattle.std.proofs.Common.{◌≡◌, refl, sym, ap, ◌∙◌, Bool, true, false, cond, not, ◌&&◌, ◌||◌, ◌==◌, nat_eq, List, [], ◌∷◌, ℕ, ◌≤◌, arith, eq-eqb, eqb-true, length, take, Some, None, Result, Ok, Err, is_ok}
use borrow.Author.Tests.{not-false}
use lib.Pointwise.{pointwise, bytes_decides}
use Rattle.codec.specs.Bytes.{le16, le32}
use Rattle.slot.specs.Header.{magic, header, header_read}
use Rattle.slot.specs.Read.{is_slot_length, is_blank, passes_checksum, is_malformed, check, header_info, passes_payload, status as status_by, header_status, validate, facts, header_facts}
use Rattle.slot.specs.declared.header.Header.{Header}
use Rattle.slot.specs.declared.slot.Expect.{Expect}
use Rattle.slot.specs.declared.slot.SlotInfo.{SlotInfo}
use Rattle.slot.specs.declared.slot.SlotStatus.{SlotStatus}
use Rattle.slot.proofs.Tests.{passed}
use Rattle.slot.proofs.Room.{room}
use Rattle.slot.proofs.HeaderLaws.{header_there}
use Rattle.slot.proofs.StatusLaws.{is_failure, Checked, checked}
use Rattle.cut.specs.Cut.{header_passes}

-- The library has none of `false_true` and, for `≡ false`, of `neither`.
pub false_true : {A : Type 0} {test : Bool} → test ≡ false → test ≡ true → A
false_true no_test test = absurd cc

-- ---- a header's checks that pass

neither : (a b : Bool) → (a || b) ≡ false → (a ≡ false) × (b ≡ false)
neither true b is = false_true is refl
neither false b is = (refl, is)

-- What is known of a header that passed.
pub record Passed (s : List ℕ) (e : Expect) : Type 0 where
  pub magic_is : take 8 s ≡ magic
  pub sum_is : header_passes s ≡ true
  pub length_is : e.format_major ≡ 2 → le16 s 12 ≡ 128

pub passed_is : (s : List ℕ) (e : Expect) → check s (header s) e ≡ Ok tt → Passed s e
unfolding check passes_checksum header_passes is_malformed
passed_is s e is =
    let h : Header = header s in
    let magic_stands = passed (not (pointwise nat_eq h.magic magic)) SlotStatus.BadMagic _ is in
    let sum = passed (not (passes_checksum s h)) SlotStatus.BadHeaderCrc _ magic_stands.1 in
    let format = passed (not (h.format_major == e.format_major) || not ((h.format_major == 1) || (h.format_major == 2))) (SlotStatus.UnsupportedVersion h.format_major) _ sum.1 in
    let flags = passed (not (h.incompat_flags == 0)) (SlotStatus.Incompatible h.incompat_flags) _ format.1 in
    let shape = passed (is_malformed h e.numbered) SlotStatus.Malformed _ flags.1 in
    let length_test : ((h.format_major == 2) && not (h.header_len == 128)) ≡ false = (neither _ _ shape.0).1 in
    let format_is : h.format_major ≡ e.format_major = eqb-true _ _ (not-false _ (neither _ _ format.0).0) in
    record {
      magic_is = (bytes_decides h.magic magic).0 (not-false _ magic_stands.0);
      sum_is = not-false _ sum.0;
      length_is = λ two. eqb-true _ _ (not-false _ (simp (eq-eqb h.format_major 2 (format_is ∙ two)) at length_test));
    }

-- ---- from the status

-- The three ways of `validate`.
validate_cases : (s : List ℕ) (e : Expect) (answer : SlotStatus) (P : Type 0) → validate s e ≡ answer
    → (SlotStatus.BadLength ≡ answer → P)
    → (is_slot_length (length s) e.log2_slot_size ≡ true → is_blank s ≡ true → SlotStatus.Blank ≡ answer → P)
    → (is_slot_length (length s) e.log2_slot_size ≡ true → status_by s (header s) (check s (header s) e) ≡ answer → P)
    → P
unfolding validate
validate_cases s e answer P is by_length by_blank by_header = go (is_slot_length (length s) e.log2_slot_size) (is_blank s) refl refl is
  where
    go : (long zeros : Bool) → is_slot_length (length s) e.log2_slot_size ≡ long → is_blank s ≡ zeros
        → cond (not long) SlotStatus.BadLength (cond zeros SlotStatus.Blank (header_status s e (header_read s))) ≡ answer → P
    go false zeros length_is zeros_is is = by_length is
    go true true length_is zeros_is is = by_blank length_is zeros_is is
    go true false length_is zeros_is is =
        let some : 512 ≤ length s = room (length s) e.log2_slot_size length_is in
        by_header length_is (ap (header_status s e) (sym (header_there s (omega arith))) ∙ is)

pub record IsBlank (s : List ℕ) (e : Expect) : Type 0 where
  pub length_ok : is_slot_length (length s) e.log2_slot_size ≡ true
  pub zeros : is_blank s ≡ true

pub blank_is : (s : List ℕ) (e : Expect) → validate s e ≡ SlotStatus.Blank → IsBlank s e
blank_is s e is =
    validate_cases s e SlotStatus.Blank (IsBlank s e) is
    (λ other. absurd cc)
    (λ length_is zeros_is other. record { length_ok = length_is; zeros = zeros_is })
    (λ length_is. by_check (check s (header s) e) (checked s (header s) e))
  where
    by_payload : (ok : Bool) (i : SlotInfo) → cond ok (SlotStatus.Valid i) SlotStatus.BadPayloadCrc ≡ SlotStatus.Blank → IsBlank s e
    by_payload true i is = absurd cc
    by_payload false i is = absurd cc

    by_check : (answer : Result (Unit {0}) SlotStatus) → Checked answer → status_by s (header s) answer ≡ SlotStatus.Blank → IsBlank s e
    by_check (Ok pass) Checked.passes is = by_payload (passes_payload s (header s)) (header_info (header s)) is
    by_check (Err failure) (Checked.fails known) is = false_true refl (sym (ap is_failure is) ∙ known)

pub record IsValid (s : List ℕ) (e : Expect) (i : SlotInfo) : Type 0 where
  pub length_ok : is_slot_length (length s) e.log2_slot_size ≡ true
  pub check_is : check s (header s) e ≡ Ok tt
  pub info_is : i ≡ header_info (header s)

pub valid_is : (s : List ℕ) (e : Expect) (i : SlotInfo) → validate s e ≡ SlotStatus.Valid i → IsValid s e i
valid_is s e i is =
    validate_cases s e (SlotStatus.Valid i) (IsValid s e i) is
    (λ other. absurd cc)
    (λ length_is zeros_is other. absurd cc)
    (λ length_is. by_check length_is (check s (header s) e) refl (checked s (header s) e))
  where
    by_payload : (ok : Bool) → is_slot_length (length s) e.log2_slot_size ≡ true → check s (header s) e ≡ Ok tt
        → cond ok (SlotStatus.Valid (header_info (header s))) SlotStatus.BadPayloadCrc ≡ SlotStatus.Valid i → IsValid s e i
    by_payload true length_is check_is is = record { length_ok = length_is; check_is = check_is; info_is = cc }
    by_payload false length_is check_is is = absurd cc

    by_check : is_slot_length (length s) e.log2_slot_size ≡ true → (answer : Result (Unit {0}) SlotStatus) → check s (header s) e ≡ answer
        → Checked answer → status_by s (header s) answer ≡ SlotStatus.Valid i → IsValid s e i
    by_check length_is (Ok pass) check_is Checked.passes is = by_payload (passes_payload s (header s)) length_is check_is is
    by_check length_is (Err failure) check_is (Checked.fails known) is = false_true refl (sym (ap is_failure is) ∙ known)

-- ---- from the header

-- Its first byte is 83.
magic_not_blank : (s : List ℕ) → take 8 s ≡ magic → is_blank s ≡ false
magic_not_blank [] stands = absurd cc
magic_not_blank (x ∷ s) stands = let first : x ≡ 83 = cc in simp first

module _ (s : List ℕ) (e : Expect) (length_ok : is_slot_length (length s) e.log2_slot_size ≡ true) (stands : take 8 s ≡ magic) where
  there : header_read s ≡ Some (header s)
  there = let some : 512 ≤ length s = room (length s) e.log2_slot_size length_ok in header_there s (omega arith)

  stands_test : pointwise nat_eq (take 8 s) magic ≡ true
  stands_test = (bytes_decides (take 8 s) magic).1 stands

  status_by_header : validate s e ≡ status_by s (header s) (check s (header s) e)
  unfolding validate
  status_by_header = simp (length_ok, magic_not_blank s stands, there)

  facts_by_header : header_facts s e ≡ facts (header s) (is_ok (check s (header s) e))
  unfolding header_facts
  facts_by_header = simp (length_ok, magic_not_blank s stands, there)

  -- The header fails its checksum.
  module _ (fails : header_passes s ≡ false) where
    check_bad : check s (header s) e ≡ Err SlotStatus.BadHeaderCrc
    unfolding check passes_checksum header_passes
    check_bad = simp (stands_test, fails)

    pub bad_status : validate s e ≡ SlotStatus.BadHeaderCrc
    bad_status = status_by_header ∙ ap (status_by s (header s)) check_bad

    pub bad_facts : header_facts s e ≡ Some (record { stored_header_crc32c = le32 s 8; numbered = None })
    bad_facts = facts_by_header ∙ simp (stands_test, check_bad)

  -- The header passes every check.
  module _ (check_is : check s (header s) e ≡ Ok tt) where
    pub passed_facts : header_facts s e
        ≡ Some (record {
          stored_header_crc32c = le32 s 8;
          numbered =
              Some (record {
                generation = (header s).generation;
                meta_seq = (header s).meta_seq;
                prev_header_crc32c = (header s).prev_header_crc32c;
              });
        })
    passed_facts = facts_by_header ∙ simp (stands_test, check_is)

    pub passed_status : validate s e ≡ cond (passes_payload s (header s)) (SlotStatus.Valid (header_info (header s))) SlotStatus.BadPayloadCrc
    passed_status = status_by_header ∙ ap (status_by s (header s)) check_is
