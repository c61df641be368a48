-- What `decide` and the questions to its report answer (docs/FORMAT.md, "Pairs").
use Rattle.std.specs.Prelude.{Bool, true, false, not, ◌&&◌, ◌||◌, ◌==◌, ◌-◌, nat_lt, if◌then◌else◌, Option, Some, None}
use Rattle.slot.specs.Status.{other, info}
use Rattle.slot.specs.declared.slot.SlotIndex.{SlotIndex}
use Rattle.slot.specs.declared.slot.SlotInfo.{SlotInfo}
use Rattle.slot.specs.declared.slot.SlotStatus.{SlotStatus}
use Rattle.pair.specs.declared.pair.Winner.{Winner}
use Rattle.pair.specs.declared.pair.PairReport.{PairReport}

-- Code 5 or 6.
-- A later version may have a newer record there: the pair is neither read nor overwritten.
abbrev pub refused : SlotStatus → Bool
refused (SlotStatus.UnsupportedVersion major) = true
refused (SlotStatus.Incompatible flags) = true
refused _ = false

-- A slot beside the one Valid slot that leaves it Confirmed: code 2, 4 or 11.
-- An ordinary history leaves these: never written, or the last write torn. Anything else may have been a newer record.
abbrev pub explains_survivor : SlotStatus → Bool
explains_survivor SlotStatus.Blank = true
explains_survivor SlotStatus.BadHeaderCrc = true
explains_survivor SlotStatus.BadPayloadCrc = true
explains_survivor _ = false

abbrev pub survivor : SlotIndex → SlotStatus → Winner
survivor index beside = if explains_survivor beside then Winner.Confirmed index else Winner.Unconfirmed index

-- A report without anomalies.
abbrev pub plain : SlotStatus → SlotStatus → Winner → PairReport
plain a b winner = record { a = a; b = b; winner = winner; generation_gap = false; chain_break = false }

-- Two Valid slots, the newer one at the index: the gap, and where there is none the chain break.
-- A gap: an update is missing, or a slot was put back from elsewhere. A break: the newer record replaced another one than the older.
abbrev pub ordered : SlotStatus → SlotStatus → SlotIndex → SlotInfo → SlotInfo → PairReport
ordered a b index newer older =
    let consecutive = newer.generation - older.generation == 1 in
    record {
      a = a;
      b = b;
      winner = Winner.Confirmed index;
      generation_gap = not consecutive;
      chain_break = consecutive && not (newer.prev_header_crc32c == older.header_crc32c);
    }

-- Equal generations Fork, else the higher is Confirmed.
-- One generation in both slots comes from two writers or a repeated write, and the slots do not say which record was meant.
abbrev pub two_valid : SlotStatus → SlotStatus → SlotInfo → SlotInfo → PairReport
two_valid a b ia ib =
    if ia.generation == ib.generation then plain a b Winner.Fork
    else if nat_lt ib.generation ia.generation then ordered a b SlotIndex.A ia ib
    else ordered a b SlotIndex.B ib ia

-- Two Blank: Empty. Otherwise Lost.
abbrev pub none_valid : SlotStatus → SlotStatus → Winner
none_valid SlotStatus.Blank SlotStatus.Blank = Winner.Empty
none_valid _ _ = Winner.Lost

abbrev pub by_info : SlotStatus → SlotStatus → Option SlotInfo → Option SlotInfo → PairReport
by_info a b (Some ia) (Some ib) = two_valid a b ia ib
by_info a b (Some ia) None = plain a b (survivor SlotIndex.A b)
by_info a b None (Some ib) = plain a b (survivor SlotIndex.B a)
by_info a b None None = plain a b (none_valid a b)

-- Code 5 or 6 on either side: Refused. Else by the Valid ones.
unfoldable pub decide : SlotStatus → SlotStatus → PairReport
decide a b = if refused a || refused b then plain a b Winner.Refused else by_info a b (info a) (info b)

-- ---- questions to the report

abbrev pub status : PairReport → SlotIndex → SlotStatus
status r SlotIndex.A = r.a
status r SlotIndex.B = r.b

abbrev pub named : SlotIndex → Option SlotInfo → Option (SlotIndex × SlotInfo)
named index (Some info) = Some (index, info)
named index None = None

abbrev pub info_by : PairReport → Winner → Option (SlotIndex × SlotInfo)
info_by r (Winner.Confirmed index) = named index (info (status r index))
info_by r (Winner.Unconfirmed index) = named index (info (status r index))
info_by r Winner.Empty = None
info_by r Winner.Fork = None
info_by r Winner.Refused = None
info_by r Winner.Lost = None

-- The winner and its facts.
abbrev pub winner_info : PairReport → Option (SlotIndex × SlotInfo)
winner_info r = info_by r r.winner

abbrev pub next_by : Winner → Option SlotIndex
next_by Winner.Empty = Some SlotIndex.A
next_by (Winner.Confirmed index) = Some (other index)
next_by (Winner.Unconfirmed index) = Some (other index)
next_by Winner.Fork = None
next_by Winner.Refused = None
next_by Winner.Lost = None

-- The slot that does not hold the winner. Fork, Refused and Lost have no next write: there is no winner to follow.
abbrev pub next_write : PairReport → Option SlotIndex
next_write r = next_by r.winner
