-- Where a payload stands (docs/FORMAT.md, "The winner's payload"): after the header, and nowhere in a buffer too short for it.
use Rattle.std.specs.Prelude.{ℕ, ◌+◌, List, length, take, drop, nat_lt, if◌then◌else◌}
use Rattle.slot.specs.declared.slot.SlotInfo.{SlotInfo}

abbrev pub payload_start : SlotInfo → ℕ → ℕ
payload_start i len = if nat_lt len (i.payload_start + i.payload_len) then 0 else i.payload_start

abbrev pub payload_length : SlotInfo → ℕ → ℕ
payload_length i len = if nat_lt len (i.payload_start + i.payload_len) then 0 else i.payload_len

-- The payload's bytes.
-- What lies after them is never looked at: a record stands whole as soon as its own bytes do.
unfoldable pub payload : SlotInfo → List ℕ → List ℕ
payload i s = take (payload_length i (length s)) (drop (payload_start i (length s)) s)
