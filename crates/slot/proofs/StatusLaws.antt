-- The statuses that `validate` answers: every check that fails names one of its own, and 0, ReadError, is none of them.
use Rattle.std.proofs.Common.{◌≡◌, refl, Bool, true, false, not, ◌||◌, List, ℕ, ◌-◌, ◌==◌, ◌≤◌, lit≤, length, Option, Some, None, Result, Ok, Err}
use Rattle.std.specs.Prelude.{nat_eq, nat_lt, if◌then◌else◌}
use lib.Pointwise.{pointwise}
use Rattle.slot.specs.Status.{code}
use Rattle.slot.specs.Header.{magic, header_read}
use Rattle.slot.specs.Read.{is_slot_length, is_blank, passes_checksum, is_malformed, is_misplaced, check, passes_payload, status as status_of, header_info, header_status, validate}
use Rattle.slot.specs.Laws.{StatusRange}
use Rattle.slot.specs.declared.header.Header.{Header}
use Rattle.slot.specs.declared.slot.Expect.{Expect}
use Rattle.slot.specs.declared.slot.SlotInfo.{SlotInfo}
use Rattle.slot.specs.declared.slot.SlotStatus.{SlotStatus}

-- A status that is not the host's, neither Blank nor Valid.
abbrev pub is_failure : SlotStatus → Bool
is_failure SlotStatus.ReadError = false
is_failure SlotStatus.Blank = false
is_failure (SlotStatus.Valid i) = false
is_failure _ = true

pub data Checked : Result (Unit {0}) SlotStatus → Type 0 where
  passes : Checked (Ok tt)
  fails : {status : SlotStatus} → is_failure status ≡ true → Checked (Err status)

row : (fails : Bool) (status : SlotStatus) (rest : Result (Unit {0}) SlotStatus) → is_failure status ≡ true → Checked rest → Checked (if fails then Err status else rest)
row true status rest known others = fails known
row false status rest known others = others

pub checked : (s : List ℕ) (h : Header) (e : Expect) → Checked (check s h e)
unfolding check
checked s h e =
    row (not (pointwise nat_eq h.magic magic)) SlotStatus.BadMagic _ refl
    (row (not (passes_checksum s h)) SlotStatus.BadHeaderCrc _ refl
    (row (not (h.format_major == e.format_major) || not ((h.format_major == 1) || (h.format_major == 2))) (SlotStatus.UnsupportedVersion h.format_major) _ refl
    (row (not (h.incompat_flags == 0)) (SlotStatus.Incompatible h.incompat_flags) _ refl
    (row (is_malformed h e.numbered) SlotStatus.Malformed _ refl
    (row (not (pointwise nat_eq h.volume_uuid e.volume_uuid)) SlotStatus.Foreign _ refl
    (row (not (h.object_id == e.object_id)) SlotStatus.WrongObject _ refl
    (row (is_misplaced h e) SlotStatus.Misplaced _ refl
    (row (nat_lt (length s - h.header_len) h.payload_len) SlotStatus.Malformed _ refl
    passes))))))))

by_failure : (status : SlotStatus) → is_failure status ≡ true → 1 ≤ code status
by_failure SlotStatus.ReadError is = absurd cc
by_failure _ is = lit≤ tt

code_small : (status : SlotStatus) → code status ≤ 12
code_small (SlotStatus.Valid i) = lit≤ tt
code_small _ = lit≤ tt

pub status_range : StatusRange
unfolding validate
status_range s e = (go (is_slot_length (length s) e.log2_slot_size) (is_blank s) (header_read s), code_small (validate s e))
  where
    by_payload : (same : Bool) (i : SlotInfo) → 1 ≤ code (if same then SlotStatus.Valid i else SlotStatus.BadPayloadCrc)
    by_payload true i = lit≤ tt
    by_payload false i = lit≤ tt

    by_check : (h : Header) (answer : Result (Unit {0}) SlotStatus) → Checked answer → 1 ≤ code (status_of s h answer)
    by_check h (Ok passed) passes = by_payload (passes_payload s h) (header_info h)
    by_check h (Err status) (fails known) = by_failure status known

    by_header : (read : Option Header) → 1 ≤ code (header_status s e read)
    by_header (Some h) = by_check h (check s h e) (checked s h e)
    by_header None = lit≤ tt

    go : (long zeros : Bool) (read : Option Header)
        → 1 ≤ code (if not long then SlotStatus.BadLength else if zeros then SlotStatus.Blank else header_status s e read)
    go false zeros read = lit≤ tt
    go true true read = lit≤ tt
    go true false read = by_header read
