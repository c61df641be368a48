-- The winner's slot is Valid with the facts that the report gives, and its payload lies within it.
use Rattle.std.proofs.Common.{◌≡◌, refl, ap, subst, ◌∙◌, Bool, true, false, not, ◌||◌, List, ℕ, ◌+◌, ◌-◌, ◌≤◌, ◌==◌, arith, ltb-false, length, Option, Some, None, Result, Ok, Err}
use Rattle.std.specs.Prelude.{nat_eq, nat_lt, if◌then◌else◌}
use borrow.Author.Tests.{not-false}
use lib.Pointwise.{pointwise}
use Rattle.slot.specs.Status.{info}
use Rattle.slot.specs.Header.{magic, header_read}
use Rattle.slot.specs.Read.{is_slot_length, is_blank, passes_checksum, is_malformed, is_misplaced, check, passes_payload, status as status_of, header_info, header_status, validate}
use Rattle.slot.specs.declared.header.Header.{Header}
use Rattle.slot.specs.declared.slot.Expect.{Expect}
use Rattle.slot.specs.declared.slot.SlotIndex.{SlotIndex}
use Rattle.slot.specs.declared.slot.SlotInfo.{SlotInfo}
use Rattle.slot.specs.declared.slot.SlotStatus.{SlotStatus}
use Rattle.slot.proofs.Tests.{passed}
use Rattle.slot.proofs.Room.{passes_within}
use Rattle.slot.proofs.StatusLaws.{Checked, checked}
use Rattle.slot.proofs.StatusLaws.Checked.{fails}
use Rattle.pair.specs.declared.pair.Winner.{Winner}
use Rattle.pair.specs.declared.pair.PairReport.{PairReport}
use Rattle.pair.specs.Pair.{refused, plain, ordered, by_info, decide, status, named, info_by, winner_info}
use Rattle.pair.specs.Winner.{read_pair, WinnerFits}

-- ---- a Valid slot

check_fits : (s : List ℕ) (h : Header) (e : Expect) → check s h e ≡ Ok tt → h.header_len + h.payload_len ≤ length s
unfolding check
check_fits s h e is =
    let magic = passed (not (pointwise nat_eq h.magic magic)) SlotStatus.BadMagic _ is in
    let sum = passed (not (passes_checksum s h)) SlotStatus.BadHeaderCrc _ magic.1 in
    let format = passed (not (h.format_major == e.format_major) || not ((h.format_major == 1) || (h.format_major == 2))) (SlotStatus.UnsupportedVersion h.format_major) _ sum.1 in
    let flags = passed (not (h.incompat_flags == 0)) (SlotStatus.Incompatible h.incompat_flags) _ format.1 in
    let shape = passed (is_malformed h e.numbered) SlotStatus.Malformed _ flags.1 in
    let volume = passed (not (pointwise nat_eq h.volume_uuid e.volume_uuid)) SlotStatus.Foreign _ shape.1 in
    let object = passed (not (h.object_id == e.object_id)) SlotStatus.WrongObject _ volume.1 in
    let place = passed (is_misplaced h e) SlotStatus.Misplaced _ object.1 in
    let room = passed (nat_lt (length s - h.header_len) h.payload_len) SlotStatus.Malformed _ place.1 in
    let within = passes_within s h (not-false _ sum.0) in
    let fits = ltb-false _ _ room.0 in
    omega arith

valid_fits : (s : List ℕ) (e : Expect) (i : SlotInfo) → validate s e ≡ SlotStatus.Valid i → i.payload_start + i.payload_len ≤ length s
unfolding validate
valid_fits s e i is = go (is_slot_length (length s) e.log2_slot_size) (is_blank s) (header_read s) is
  where
    by_payload : (h : Header) (same : Bool) → h.header_len + h.payload_len ≤ length s
        → (if same then SlotStatus.Valid (header_info h) else SlotStatus.BadPayloadCrc) ≡ SlotStatus.Valid i → i.payload_start + i.payload_len ≤ length s
    by_payload h true fits is = let same : header_info h ≡ i = cc in rw (← same) fits
    by_payload h false fits is = absurd cc

    by_failure : (f : SlotStatus) → Checked (Err f) → f ≡ SlotStatus.Valid i → ⊥
    by_failure (SlotStatus.Valid j) (fails known) is = cc
    by_failure f known is = cc

    by_check : (h : Header) (answer : Result (Unit {0}) SlotStatus) → check s h e ≡ answer → status_of s h answer ≡ SlotStatus.Valid i
        → i.payload_start + i.payload_len ≤ length s
    by_check h (Ok p) was is = by_payload h (passes_payload s h) (check_fits s h e was) is
    by_check h (Err f) was is = absurd (by_failure f (subst Checked was (checked s h e)) is)

    go : (length_ok blank : Bool) (h : Option Header)
        → (if not length_ok then SlotStatus.BadLength else if blank then SlotStatus.Blank else header_status s e h) ≡ SlotStatus.Valid i
        → i.payload_start + i.payload_len ≤ length s
    go true false (Some h) is = by_check h (check s h e) refl is
    go true false None is = absurd cc
    go true true h is = absurd cc
    go false blank h is = absurd cc

-- ---- the winner of a pair

info_valid : (s : SlotStatus) (i : SlotInfo) → info s ≡ Some i → s ≡ SlotStatus.Valid i
info_valid (SlotStatus.Valid j) i is = let same : j ≡ i = cc in ap SlotStatus.Valid same
info_valid s i is = absurd cc

winner_valid : (r : PairReport) (index : SlotIndex) (i : SlotInfo) → winner_info r ≡ Some (index, i) → status r index ≡ SlotStatus.Valid i
winner_valid r index i is = go r.winner is
  where
    at : (w : SlotIndex) (known : Option SlotInfo) → info (status r w) ≡ known → named w known ≡ Some (index, i) → status r index ≡ SlotStatus.Valid i
    at w (Some j) was is =
        let won : ◌≡◌ {A = SlotIndex × SlotInfo} (w, j) (index, i) = cc in
        let slot = ap (λ (x : SlotIndex × SlotInfo). x.0) won in
        let facts = ap (λ (x : SlotIndex × SlotInfo). x.1) won in
        rw (← slot) (info_valid (status r w) i (was ∙ ap Some facts))
    at w None was is = absurd cc

    go : (w : Winner) → info_by r w ≡ Some (index, i) → status r index ≡ SlotStatus.Valid i
    go (Winner.Confirmed w) is = at w (info (status r w)) refl is
    go (Winner.Unconfirmed w) is = at w (info (status r w)) refl is
    go _ is = absurd cc

-- The report holds the statuses that were decided over.
decided : (a b : SlotStatus) → ((decide a b).a ≡ a) × ((decide a b).b ≡ b)
unfolding decide
decided a b = go (refused a || refused b) (info a) (info b)
  where
    by_order : (ia ib : SlotInfo) (same lower : Bool)
        → let r = if same then plain a b Winner.Fork else if lower then ordered a b SlotIndex.A ia ib else ordered a b SlotIndex.B ib ia in (r.a ≡ a) × (r.b ≡ b)
    by_order ia ib true lower = (refl, refl)
    by_order ia ib false true = (refl, refl)
    by_order ia ib false false = (refl, refl)

    go : (never : Bool) (ia ib : Option SlotInfo)
        → let r = if never then plain a b Winner.Refused else by_info a b ia ib in (r.a ≡ a) × (r.b ≡ b)
    go true ia ib = (refl, refl)
    go false (Some ia) (Some ib) = by_order ia ib (ia.generation == ib.generation) (nat_lt ib.generation ia.generation)
    go false (Some ia) None = (refl, refl)
    go false None (Some ib) = (refl, refl)
    go false None None = (refl, refl)

pub winner_fits : WinnerFits
unfolding read_pair
winner_fits a b expect_a expect_b SlotIndex.A i is =
    valid_fits a expect_a i (rw (← (decided (validate a expect_a) (validate b expect_b)).0) (winner_valid (read_pair a expect_a b expect_b) SlotIndex.A i is))
winner_fits a b expect_a expect_b SlotIndex.B i is =
    valid_fits b expect_b i (rw (← (decided (validate a expect_a) (validate b expect_b)).1) (winner_valid (read_pair a expect_a b expect_b) SlotIndex.B i is))
