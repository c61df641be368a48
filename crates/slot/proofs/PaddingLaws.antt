-- What a slot's answer depends on: the first 128 bytes, those of the header where it is longer, the length, and the payload. The bytes
-- after the payload do not count.
use Rattle.std.proofs.Common.{◌≡◌, refl, ap, ap₂, ◌∙◌, Bool, true, false, List, ◌++◌, ℕ, ◌-◌, ◌≤◌, arith, lit≤, length, take, replicate, ltb, Some, None, Result, Ok, Err}
use Rattle.std.specs.Prelude.{is_ok, if◌then◌else◌}
use Rattle.std.specs.Int.{w8, w16, w32, w64}
use Rattle.codec.specs.Bytes.{le16}
use Rattle.codec.specs.Crc32c.{crc32c}
use Rattle.codec.proofs.ByteLaws.{agree-front, agree-run, agree-number}
use Rattle.slot.specs.Payload.{payload}
use Rattle.slot.specs.Header.{header, header_read}
use Rattle.slot.specs.Read.{header_sum, passes_checksum, check, header_info, passes_payload, status, header_status, validate, facts, facts_read, header_facts}
use Rattle.slot.specs.Laws.{SameHeader, PaddingLaw}
use Rattle.slot.specs.declared.header.Header.{Header}
use Rattle.slot.specs.declared.slot.Expect.{Expect}
use Rattle.slot.specs.declared.slot.SlotStatus.{SlotStatus}
use Rattle.slot.proofs.HeaderLaws.{header_layout}

pub header_same : (s t : List ℕ) → take 128 s ≡ take 128 t → header s ≡ header t
header_same s t same =
    cc (
      agree-front 128 s t same 8 (lit≤ tt),
      agree-number 128 s t same w32 8 (lit≤ tt),
      agree-number 128 s t same w16 12 (lit≤ tt),
      agree-number 128 s t same w16 14 (lit≤ tt),
      agree-number 128 s t same w32 16 (lit≤ tt),
      agree-number 128 s t same w32 20 (lit≤ tt),
      agree-number 128 s t same w32 24 (lit≤ tt),
      agree-number 128 s t same w32 28 (lit≤ tt),
      agree-run 128 s t same 32 16 (lit≤ tt),
      agree-number 128 s t same w64 48 (lit≤ tt),
      agree-number 128 s t same w64 56 (lit≤ tt),
      agree-number 128 s t same w64 64 (lit≤ tt),
      agree-number 128 s t same w32 72 (lit≤ tt),
      agree-number 128 s t same w8 76 (lit≤ tt),
      agree-number 128 s t same w8 77 (lit≤ tt),
      agree-number 128 s t same w8 78 (lit≤ tt),
      agree-number 128 s t same w8 79 (lit≤ tt),
      agree-number 128 s t same w32 80 (lit≤ tt),
      agree-number 128 s t same w32 84 (lit≤ tt),
      agree-number 128 s t same w64 88 (lit≤ tt),
      agree-number 128 s t same w64 96 (lit≤ tt),
      agree-run 128 s t same 104 24 (lit≤ tt),
    )

module _ (m : ℕ) (s t : List ℕ) (h : SameHeader m s t) where
  first_same : take 128 s ≡ take 128 t
  first_same = agree-front m s t h.same 128 h.least

  headers : header s ≡ header t
  headers = header_same s t first_same

  sum_same : (n : ℕ) → n ≤ m → header_sum s n ≡ header_sum t n
  unfolding header_sum
  sum_same n within =
      let least : 128 ≤ m = h.least in
      ap₂ (λ (front rest : List ℕ). crc32c (front ++ replicate 4 0 ++ rest))
      (agree-front m s t h.same 8 (omega arith))
      (agree-run m s t h.same 12 (n - 12) (omega arith))

  pub check_same : (e : Expect) → check s (header s) e ≡ check t (header t) e
  unfolding check passes_checksum
  check_same e = simp (h.sizes, sum_same (le16 s 12) h.whole) (ap (λ (a : Header). check t a e) headers)

  -- The facts go by the header alone.
  pub facts_same : (e : Expect) → header_facts s e ≡ header_facts t e
  unfolding header_facts
  facts_same e = simp (h.sizes, first_same, shown)
    where
      go : (past : Bool) → facts_read s e (if past then None else Some (header s)) ≡ facts_read t e (if past then None else Some (header t))
      go true = refl
      go false = ap₂ (λ (a : Header) (answer : Result (Unit {0}) SlotStatus). facts a (is_ok answer)) headers (check_same e)

      shown : facts_read s e (header_read s) ≡ facts_read t e (header_read t)
      shown = simp (header_layout s, header_layout t, h.sizes) (go (ltb (length t) 128))

  -- Padding does not count: with the same payload the status is the same.
  pub status_same : (e : Expect) → (check s (header s) e ≡ Ok tt → payload (header_info (header s)) s ≡ payload (header_info (header s)) t)
      → validate s e ≡ validate t e
  unfolding validate passes_payload
  status_same e payloads = simp (h.sizes, first_same, statuses)
    where
      checked : (answer : Result (Unit {0}) SlotStatus) → check s (header s) e ≡ answer → status s (header s) answer ≡ status t (header s) answer
      checked (Err failure) is = refl
      checked (Ok passed) is = simp (payloads is)

      go : (past : Bool) → header_status s e (if past then None else Some (header s)) ≡ header_status t e (if past then None else Some (header t))
      go true = refl
      go false =
          checked (check s (header s) e) refl
          ∙ ap₂ (λ (a : Header) (answer : Result (Unit {0}) SlotStatus). status t a answer) headers (check_same e)

      statuses : header_status s e (header_read s) ≡ header_status t e (header_read t)
      statuses = simp (header_layout s, header_layout t, h.sizes) (go (ltb (length t) 128))

pub padding_law : PaddingLaw
padding_law = record { facts_same = facts_same; status_same = status_same }
