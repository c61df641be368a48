-- The rules of the store verdict by rows, spelled on both sides of each bound (docs/FORMAT.md, "The store verdict").
use Rattle.std.specs.Prelude.{◌≡◌, Bool, true, false, List, [], ◌∷◌, ◌++◌, ℕ, ◌==◌, if◌then◌else◌, map, flat_map, take, drop, replicate, Option, Some, None}
use Rattle.slot.specs.declared.slot.HeaderFacts.{HeaderFacts}
use Rattle.slot.specs.declared.slot.SlotIndex.{SlotIndex}
use Rattle.slot.specs.declared.slot.SlotInfo.{SlotInfo}
use Rattle.slot.specs.declared.slot.SlotStatus.{SlotStatus}
use Rattle.judge.specs.declared.pairs.Version.{Version}
use Rattle.judge.specs.declared.pairs.Shown.{Shown}
use Rattle.judge.specs.declared.pairs.Pair.{Pair}
use Rattle.judge.specs.declared.verdict.SlotVerdict.{SlotVerdict}
use Rattle.judge.specs.declared.verdict.Standing.{Standing}
use Rattle.judge.specs.declared.verdict.PairVerdict.{PairVerdict}
use Rattle.judge.specs.Part.{part_shown, part_of, part_bytes}
use Rattle.judge.specs.Records.{shown_read}
use Rattle.judge.specs.Judge.{verdicts, judgement}

-- ---- slots and pairs

-- A Valid slot.
abbrev pub valid : (generation number own previous owner : ℕ) → Shown
valid generation number own previous owner =
    Shown.Valid (record { generation = generation; meta_seq = number; header_crc32c = own; prev_header_crc32c = previous; owner_generation = owner })

-- A payload that fails.
abbrev pub torn : (generation number previous : ℕ) → Shown
torn generation number previous = Shown.BadPayload (record { generation = generation; meta_seq = number; prev_header_crc32c = previous })

-- A pair of operator 0.
abbrev pub pair : Shown → Shown → Pair
pair a b = record { a = a; b = b; operator = 0 }

-- The volume record after its first write, of a number.
abbrev pub volume_of : ℕ → Pair
volume_of number = pair (valid 1 number 10 0 0) Shown.Blank

-- The highest number of 64 bits.
abbrev pub most : ℕ
most = 0xFFFF_FFFF_FFFF_FFFF

abbrev pub confirmed : Standing
confirmed = Standing.Confirmed

abbrev pub unconfirmed : Standing
unconfirmed = Standing.Unconfirmed

abbrev pub lost : Standing
lost = Standing.Lost

abbrev pub refused : Standing
refused = Standing.Refused

abbrev pub nothing : SlotVerdict
nothing = SlotVerdict.Nothing

abbrev pub older_damaged : SlotVerdict
older_damaged = SlotVerdict.OlderDamaged

abbrev pub in_flight : SlotVerdict
in_flight = SlotVerdict.InFlight

abbrev pub damage : SlotVerdict
damage = SlotVerdict.Damage

-- ---- what a slot shows, by its status and its facts

-- The values of a Valid slot, and others that its header shows.
abbrev pub info : SlotInfo
info =
    record {
      generation = 1;
      owner_generation = 5;
      header_crc32c = 3;
      prev_header_crc32c = 4;
      ro_compat_flags = 6;
      compat_flags = 7;
      meta_seq = 2;
      payload_start = 8;
      payload_len = 9;
    }

abbrev pub stored : HeaderFacts
stored = record { stored_header_crc32c = 13; numbered = None }

abbrev pub numbered_too : HeaderFacts
numbered_too = record { stored_header_crc32c = 13; numbered = Some (record { generation = 11; meta_seq = 12; prev_header_crc32c = 14 }) }

abbrev pub version : (generation number own previous owner : ℕ) → Version
version generation number own previous owner =
    record { generation = generation; meta_seq = number; header_crc32c = own; prev_header_crc32c = previous; owner_generation = owner }

-- What the part of a frame shows, and what the slot as it was read, beside each of the facts.
abbrev pub by_part : ℕ → List Shown
by_part code = map (λ facts. part_shown (record { code = code; facts = facts; version = version 11 12 13 14 15 })) (0 ∷ 1 ∷ 2 ∷ [])

abbrev pub as_read : SlotStatus → List Shown
as_read status = map (λ facts. shown_read (record { status = status; facts = facts })) (None ∷ Some stored ∷ Some numbered_too ∷ [])

abbrev pub Shows : (code : ℕ) → SlotStatus → Shown → Shown → Shown → Type 0
Shows code status none checksum numbers =
    (by_part code ≡ none ∷ checksum ∷ numbers ∷ []) × (as_read status ≡ none ∷ checksum ∷ numbers ∷ [])

-- The part that a slot's status and facts fill.
abbrev pub Fills : SlotStatus → Option HeaderFacts → (code facts : ℕ) → Version → Type 0
Fills status facts code number fields = part_of status facts ≡ record { code = code; facts = number; version = fields }

pub record ShownRows : Type 0 where
  pub not_read : Shows 0 SlotStatus.ReadError Shown.Other Shown.Other Shown.Other
  pub length : Shows 1 SlotStatus.BadLength Shown.Other Shown.Other Shown.Other
  pub blank : Shows 2 SlotStatus.Blank Shown.Blank Shown.Blank Shown.Blank
  pub magic : Shows 3 SlotStatus.BadMagic Shown.Other Shown.Other Shown.Other
  pub header : Shows 4 SlotStatus.BadHeaderCrc Shown.Other (Shown.BadHeader 13) (Shown.BadHeader 13)
  pub later_version : Shows 5 (SlotStatus.UnsupportedVersion 3) Shown.Unsupported Shown.Unsupported Shown.Unsupported
  pub flags : Shows 6 (SlotStatus.Incompatible 1) Shown.Unsupported Shown.Unsupported Shown.Unsupported
  pub malformed : Shows 7 SlotStatus.Malformed Shown.Other Shown.Other Shown.Other
  pub foreign : Shows 8 SlotStatus.Foreign Shown.Other Shown.Other Shown.Other
  pub object : Shows 9 SlotStatus.WrongObject Shown.Other Shown.Other Shown.Other
  pub place : Shows 10 SlotStatus.Misplaced Shown.Other Shown.Other Shown.Other
  pub payload : Shows 11 SlotStatus.BadPayloadCrc Shown.Other Shown.Other (torn 11 12 14)
  pub whole_part : by_part 12 ≡ valid 11 12 13 14 15 ∷ valid 11 12 13 14 15 ∷ valid 11 12 13 14 15 ∷ []
  pub whole_read : as_read (SlotStatus.Valid info) ≡ valid 1 2 3 4 5 ∷ valid 1 2 3 4 5 ∷ valid 1 2 3 4 5 ∷ []
  pub no_status : by_part 13 ≡ Shown.Other ∷ Shown.Other ∷ Shown.Other ∷ []
  -- Filled: under Valid from the info, else from the facts; what is not given is 0.
  pub fills_nothing : Fills SlotStatus.BadMagic None 3 0 (version 0 0 0 0 0)
  pub fills_checksum : Fills SlotStatus.BadHeaderCrc (Some stored) 4 1 (version 0 0 13 0 0)
  pub fills_numbers : Fills SlotStatus.BadPayloadCrc (Some numbered_too) 11 2 (version 11 12 13 14 0)
  pub fills_whole : Fills (SlotStatus.Valid info) (Some numbered_too) 12 2 (version 1 2 3 4 5)
  pub fills_info : Fills (SlotStatus.Valid info) None 12 0 (version 1 2 3 4 5)
  pub unread : part_bytes (part_of SlotStatus.ReadError None) ≡ replicate 34 0

-- ---- one pair alone: the first pass

abbrev pub alone : Shown → Shown → List PairVerdict
alone a b = verdicts (pair a b ∷ []) false

abbrev pub no_winner : Standing → List PairVerdict
no_winner standing = record { standing = standing; winner = None; a = SlotVerdict.Damage; b = SlotVerdict.Damage } ∷ []

abbrev pub won_a : Standing → SlotVerdict → List PairVerdict
won_a standing b = record { standing = standing; winner = Some SlotIndex.A; a = SlotVerdict.Winner; b = b } ∷ []

abbrev pub won_b : Standing → SlotVerdict → List PairVerdict
won_b standing a = record { standing = standing; winner = Some SlotIndex.B; a = a; b = SlotVerdict.Winner } ∷ []

pub record FirstPassRows : Type 0 where
  -- Unsupported in one slot, or in both.
  pub refused_a : alone Shown.Unsupported (valid 2 5 30 20 0) ≡ no_winner refused
  pub refused_b : alone (valid 2 5 30 20 0) Shown.Unsupported ≡ no_winner refused
  pub refused_both : alone Shown.Unsupported Shown.Unsupported ≡ no_winner refused
  pub refused_other : alone Shown.Unsupported Shown.Other ≡ no_winner refused
  pub other_refused : alone Shown.Blank Shown.Unsupported ≡ no_winner refused
  -- Both Valid: equal generations, and the higher one in A or in B, with and without a gap.
  pub fork : alone (valid 3 6 30 20 0) (valid 3 5 20 10 0) ≡ no_winner lost
  pub fork_chained : alone (valid 3 6 30 10 0) (valid 3 5 20 30 0) ≡ no_winner lost
  pub fork_of_1 : alone (valid 1 1 30 0 0) (valid 1 1 30 0 0) ≡ no_winner lost
  pub fork_of_most : alone (valid most 6 30 20 0) (valid most 5 20 10 0) ≡ no_winner lost
  pub newer_a : alone (valid 3 6 30 20 0) (valid 2 5 20 10 0) ≡ won_a confirmed nothing
  pub newer_b : alone (valid 3 5 20 10 0) (valid 4 6 30 20 0) ≡ won_b confirmed nothing
  pub lower_number : alone (valid 3 5 30 20 0) (valid 2 6 20 10 0) ≡ won_a confirmed nothing
  pub gap : alone (valid 3 5 30 20 0) (valid 1 4 10 0 0) ≡ won_a confirmed nothing
  pub no_chain : alone (valid 3 5 30 21 0) (valid 2 4 20 10 0) ≡ won_a confirmed nothing
  pub by_64_bits : alone (valid 1 5 30 20 0) (valid 0x1_0000_0001 4 20 10 0) ≡ won_b confirmed nothing
  pub newer_most : alone (valid most 6 30 20 0) (valid 0xFFFF_FFFF_FFFF_FFFE 5 20 10 0) ≡ won_a confirmed nothing
  -- None Valid.
  pub blanks : alone Shown.Blank Shown.Blank ≡ no_winner lost
  pub headers : alone (Shown.BadHeader 10) (Shown.BadHeader 20) ≡ no_winner lost
  pub payloads : alone (torn 2 5 10) (torn 3 6 20) ≡ no_winner lost
  pub others : alone Shown.Other Shown.Blank ≡ no_winner lost

-- A slot beside the one Valid slot, as B and as A.
abbrev pub Beside : Shown → Shown → Standing → SlotVerdict → Type 0
Beside winner slot standing verdict = (alone winner slot ≡ won_a standing verdict) × (alone slot winner ≡ won_b standing verdict)

-- The slot opposite the one Valid slot.
pub record OppositeRows : Type 0 where
  -- Blank.
  pub first_b : alone (valid 1 1 10 0 0) Shown.Blank ≡ won_a confirmed nothing
  pub first_a : alone Shown.Blank (valid 1 1 10 0 0) ≡ won_b unconfirmed damage
  pub blank_0 : Beside (valid 0 2 20 10 0) Shown.Blank unconfirmed damage
  pub blank : Beside (valid 2 2 20 10 0) Shown.Blank unconfirmed damage
  -- A header that fails and stores the winner's previous checksum: in generation 2, 3, the highest, and 1. Another checksum.
  pub replaced_2 : Beside (valid 2 5 20 10 0) (Shown.BadHeader 10) confirmed older_damaged
  pub replaced_3 : Beside (valid 3 5 30 20 0) (Shown.BadHeader 20) confirmed older_damaged
  pub replaced_most : Beside (valid most 5 30 20 0) (Shown.BadHeader 20) confirmed older_damaged
  pub replaced_1 : Beside (valid 1 5 10 0 0) (Shown.BadHeader 0) confirmed in_flight
  pub replaced_in_1 : Beside (valid 1 5 10 7 0) (Shown.BadHeader 7) confirmed in_flight
  pub stored_own : Beside (valid 3 5 30 20 0) (Shown.BadHeader 30) confirmed in_flight
  pub stored_other : Beside (valid 2 5 20 10 0) (Shown.BadHeader 11) confirmed in_flight
  pub stored_high : Beside (valid 2 5 20 10 0) (Shown.BadHeader 0x0100_000A) confirmed in_flight
  -- A payload that fails: one generation below, two below, the same, one above, two above; with the winner's own checksum and with another.
  pub below : Beside (valid 3 5 30 20 0) (torn 2 6 30) confirmed older_damaged
  pub below_other : Beside (valid 3 5 30 20 0) (torn 2 4 20) confirmed older_damaged
  pub far_below : Beside (valid 3 5 30 20 0) (torn 1 6 30) confirmed older_damaged
  pub same : Beside (valid 3 5 30 20 0) (torn 3 6 30) unconfirmed damage
  pub same_other : Beside (valid 3 5 30 20 0) (torn 3 6 20) unconfirmed damage
  pub next : Beside (valid 3 5 30 20 0) (torn 4 6 30) confirmed in_flight
  pub next_other : Beside (valid 3 5 30 20 0) (torn 4 6 20) unconfirmed damage
  pub next_high : Beside (valid 3 5 30 20 0) (torn 4 6 0x0100_001E) unconfirmed damage
  pub second : Beside (valid 3 5 30 20 0) (torn 5 6 30) unconfirmed damage
  pub next_of_1 : Beside (valid 1 5 30 0 0) (torn 2 6 30) confirmed in_flight
  pub by_64_bits : Beside (valid 3 5 30 20 0) (torn 0x1_0000_0004 6 30) unconfirmed damage
  pub last : Beside (valid 0xFFFF_FFFF_FFFF_FFFE 5 30 20 0) (torn most 6 30) confirmed in_flight
  pub same_most : Beside (valid most 5 30 20 0) (torn most 6 30) unconfirmed damage
  pub wrapped : Beside (valid most 5 30 20 0) (torn 0 6 30) confirmed older_damaged
  -- Any other.
  pub other : Beside (valid 3 5 30 20 0) Shown.Other unconfirmed damage
  pub other_of_1 : Beside (valid 1 1 10 0 0) Shown.Other unconfirmed damage

-- ---- numbers

-- A torn payload of this number beside a winner of that one, as slot B of pair 0 and as slot A, and another pair.
abbrev pub Candidate : (winner number : ℕ) → Shown → Shown → Standing → SlotVerdict → Type 0
Candidate winner number a b standing verdict =
    (take 1 (verdicts (pair (valid 3 winner 30 20 0) (torn 4 number 30) ∷ pair a b ∷ []) false) ≡ won_a standing verdict)
    × (take 1 (verdicts (pair (torn 4 number 30) (valid 3 winner 30 20 0) ∷ pair a b ∷ []) false) ≡ won_b standing verdict)

-- A third pair after the volume record, of number 1, and a page of two numbers.
abbrev pub with_third : (newer older : ℕ) → Pair → List Pair
with_third newer older third = volume_of 1 ∷ pair (valid 2 newer 20 10 0) (valid 1 older 10 0 0) ∷ third ∷ []

-- The same torn payload there.
abbrev pub Third : (newer older winner number : ℕ) → Standing → SlotVerdict → Type 0
Third newer older winner number standing verdict =
    (drop 2 (verdicts (with_third newer older (pair (valid 3 winner 30 20 0) (torn 4 number 30))) false) ≡ won_a standing verdict)
    × (drop 2 (verdicts (with_third newer older (pair (torn 4 number 30) (valid 3 winner 30 20 0))) false) ≡ won_b standing verdict)

pub record NumberRows : Type 0 where
  -- Lower than the highest of the other slots, equal, one and two above.
  pub lower : Candidate 5 4 Shown.Blank Shown.Blank unconfirmed damage
  pub equal : Candidate 5 5 Shown.Blank Shown.Blank unconfirmed damage
  pub next : Candidate 5 6 Shown.Blank Shown.Blank confirmed in_flight
  pub gap : Candidate 5 7 Shown.Blank Shown.Blank unconfirmed damage
  pub from_0 : Candidate 0 1 Shown.Blank Shown.Blank confirmed in_flight
  pub across_32_bits : Candidate 0xFFFF_FFFF 0x1_0000_0000 Shown.Blank Shown.Blank confirmed in_flight
  pub by_64_bits : Candidate 5 0x1_0000_0006 Shown.Blank Shown.Blank unconfirmed damage
  pub last : Candidate 0xFFFF_FFFF_FFFF_FFFE most Shown.Blank Shown.Blank confirmed in_flight
  pub wrapped : Candidate most 0 Shown.Blank Shown.Blank unconfirmed damage
  -- The highest is in another pair: Valid, one that is Lost by a fork, one of a payload that fails, one that is Refused. A header that fails
  -- has no number.
  pub of_another : Candidate 1 6 (valid 2 5 20 10 0) (valid 1 4 10 0 0) confirmed in_flight
  pub equal_elsewhere : Candidate 5 6 (valid 2 6 20 10 0) (valid 1 4 10 0 0) unconfirmed damage
  pub above_elsewhere : Candidate 5 6 (valid 2 4 20 10 0) (valid 1 7 10 0 0) unconfirmed damage
  pub of_a_fork : Candidate 1 6 (valid 2 5 20 10 0) (valid 2 4 10 0 0) confirmed in_flight
  pub equal_in_a_fork : Candidate 5 6 (valid 2 6 20 10 0) (valid 2 4 10 0 0) unconfirmed damage
  pub of_torn : Candidate 1 6 (torn 2 5 20) Shown.Other confirmed in_flight
  pub equal_torn : Candidate 5 6 (torn 2 6 20) Shown.Other unconfirmed damage
  pub above_torn : Candidate 5 6 Shown.Other (torn 2 7 20) unconfirmed damage
  pub equal_refused : Candidate 5 6 (valid 2 6 20 10 0) Shown.Unsupported unconfirmed damage
  pub of_no_header : Candidate 5 6 (Shown.BadHeader 9) Shown.Other confirmed in_flight
  -- In the third pair.
  pub third : Third 4 3 5 6 confirmed in_flight
  pub third_of_another : Third 5 3 2 6 confirmed in_flight
  pub third_lower : Third 4 3 5 5 unconfirmed damage
  pub third_equal : Third 6 3 5 6 unconfirmed damage
  pub third_above : Third 4 7 5 6 unconfirmed damage
  pub third_gap : Third 4 3 5 7 unconfirmed damage

-- ---- operators

abbrev pub of_operator : ℕ → Shown → Shown → Pair
of_operator operator a b = record { a = a; b = b; operator = operator }

-- A page of an operator: with a torn payload of this number beside a winner of 2; whole, its winner of this number.
abbrev pub torn_of : (operator number : ℕ) → Pair
torn_of operator number = of_operator operator (valid 2 2 20 10 0) (torn 3 number 20)

abbrev pub whole_of : (operator number : ℕ) → Pair
whole_of operator number = of_operator operator (valid 2 number 20 10 0) (valid 1 1 10 0 0)

-- The torn payload of 3 in a page of an operator, before and after a whole page of another or the same.
abbrev pub Among : (operator other number : ℕ) → Standing → SlotVerdict → Type 0
Among operator other number standing verdict =
    (take 1 (drop 1 (verdicts (volume_of 1 ∷ torn_of operator 3 ∷ whole_of other number ∷ []) false)) ≡ won_a standing verdict)
    × (drop 2 (verdicts (volume_of 1 ∷ whole_of other number ∷ torn_of operator 3 ∷ []) false) ≡ won_a standing verdict)

abbrev pub all_operators : List ℕ
all_operators = 0 ∷ 1 ∷ 2 ∷ 3 ∷ 4 ∷ 5 ∷ 6 ∷ 7 ∷ 8 ∷ 9 ∷ 10 ∷ 11 ∷ 12 ∷ 13 ∷ 14 ∷ 15 ∷ []

-- Whole pages of all operators but one, of number 9.
abbrev pub pages_but : ℕ → List Pair
pages_but operator = flat_map (λ other. if other == operator then [] else whole_of other 9 ∷ []) all_operators

-- The slot that is healed in the store of the volume record, a torn page and others.
abbrev pub healed : Pair → List Pair → Option (ℕ × SlotIndex)
healed page others = (judgement (volume_of 1 ∷ page ∷ others) false).heal

pub record OperatorRows : Type 0 where
  -- The operator's own numbers, below, equal and above; another's.
  pub own_below : Among 1 1 2 confirmed in_flight
  pub own_equal : Among 1 1 3 unconfirmed damage
  pub own_above : Among 1 1 4 unconfirmed damage
  pub other_equal : Among 1 2 3 confirmed in_flight
  pub other_above : Among 1 2 4 confirmed in_flight
  pub other_most : Among 15 14 most confirmed in_flight
  pub last_own : Among 15 15 4 unconfirmed damage
  pub of_0 : Among 0 1 4 confirmed in_flight
  pub own_of_0 : Among 0 0 4 unconfirmed damage
  pub beside_0 : Among 1 0 4 confirmed in_flight
  -- The volume record's number counts for operator 0 alone.
  pub volume_above : verdicts (volume_of 9 ∷ torn_of 1 3 ∷ []) false ≡ won_a confirmed nothing ++ won_a confirmed in_flight
  pub volume_above_own : verdicts (volume_of 9 ∷ torn_of 0 3 ∷ []) false ≡ won_a confirmed nothing ++ won_a unconfirmed damage
  -- And its torn payload is held to operator 0's.
  pub beside_volume : verdicts (torn_of 0 3 ∷ whole_of 1 9 ∷ []) false ≡ won_a confirmed in_flight ++ won_a confirmed nothing
  pub beside_volume_own : verdicts (torn_of 0 3 ∷ whole_of 0 9 ∷ []) false ≡ won_a unconfirmed damage ++ won_a confirmed nothing
  -- Each of the 16 operators, beside pages of all others and beside one of its own.
  pub each : map (λ o. healed (torn_of o 3) (pages_but o)) all_operators ≡ replicate 16 (Some (1, SlotIndex.B))
  pub each_own : map (λ o. healed (torn_of o 3) (whole_of o 9 ∷ [])) all_operators ≡ replicate 16 None
  -- Of two operators both qualify, and both are damage; one that does not qualify is damage beside the other's page.
  pub two :
      verdicts (volume_of 1 ∷ torn_of 1 3 ∷ torn_of 2 3 ∷ []) false
      ≡ won_a confirmed nothing ++ won_a unconfirmed damage ++ won_a unconfirmed damage
  pub late :
      verdicts (volume_of 1 ∷ torn_of 1 3 ∷ torn_of 2 4 ∷ []) false
      ≡ won_a confirmed nothing ++ won_a unconfirmed damage ++ won_a unconfirmed damage

-- ---- the whole store

-- The volume record: whole, in flight in B and in A, a candidate that does not qualify, damaged, Lost, Refused.
abbrev pub volume : Pair
volume = volume_of 1

abbrev pub volume_torn : Pair
volume_torn = pair (valid 2 2 20 10 0) (Shown.BadHeader 99)

abbrev pub volume_torn_a : Pair
volume_torn_a = pair (Shown.BadHeader 99) (valid 2 2 20 10 0)

abbrev pub volume_late : Pair
volume_late = pair (valid 2 2 20 10 0) (torn 3 9 20)

abbrev pub volume_damaged : Pair
volume_damaged = pair (valid 2 2 20 10 0) Shown.Other

abbrev pub volume_lost : Pair
volume_lost = pair Shown.Other Shown.Other

abbrev pub volume_refused : Pair
volume_refused = pair (valid 2 2 20 10 0) Shown.Unsupported

-- A page, in the same way; in flight in A, in B, and with a torn payload.
abbrev pub page : Pair
page = pair (valid 2 4 20 10 0) (valid 1 3 10 0 0)

abbrev pub page_torn : Pair
page_torn = pair (Shown.BadHeader 99) (valid 2 4 20 10 0)

abbrev pub page_torn_b : Pair
page_torn_b = pair (valid 2 4 20 10 0) (Shown.BadHeader 99)

abbrev pub page_next : Pair
page_next = pair (valid 2 4 20 10 0) (torn 3 5 20)

abbrev pub page_late : Pair
page_late = pair (valid 2 4 20 10 0) (torn 3 9 20)

abbrev pub page_damaged : Pair
page_damaged = pair (valid 2 4 20 10 0) Shown.Other

abbrev pub page_lost : Pair
page_lost = pair Shown.Other Shown.Other

abbrev pub page_refused : Pair
page_refused = pair Shown.Unsupported Shown.Other

-- A store and the clean mark: the standings; heal; writable, clean, refused.
abbrev pub Judged : List Pair → Bool → List Standing → Option (ℕ × SlotIndex) → (writable clean refused : Bool) → Type 0
Judged ps mark standings heal writable clean refused =
    (map (λ (v : PairVerdict). v.standing) (verdicts ps mark) ≡ standings)
    × (judgement ps mark ≡ record { heal = heal; writable = writable; clean = clean; refused = refused; owners_differ = false })

abbrev pub heal_a : ℕ → Option (ℕ × SlotIndex)
heal_a k = Some (k, SlotIndex.A)

abbrev pub heal_b : ℕ → Option (ℕ × SlotIndex)
heal_b k = Some (k, SlotIndex.B)

pub record StoreRows : Type 0 where
  -- 0, 1, 2 and 3 candidates, without the mark and with it.
  pub whole : Judged (volume ∷ page ∷ []) false (confirmed ∷ confirmed ∷ []) None true false false
  pub whole_marked : Judged (volume ∷ page ∷ []) true (confirmed ∷ confirmed ∷ []) None true true false
  pub volume_alone : Judged (volume ∷ []) false (confirmed ∷ []) None true false false
  pub volume_marked : Judged (volume ∷ []) true (confirmed ∷ []) None true true false
  pub one : Judged (volume ∷ page_torn ∷ page ∷ []) false (confirmed ∷ confirmed ∷ confirmed ∷ []) (heal_a 1) true false false
  pub one_marked : Judged (volume ∷ page_torn ∷ page ∷ []) true (confirmed ∷ unconfirmed ∷ confirmed ∷ []) None true true false
  pub one_b : Judged (volume ∷ page_torn_b ∷ page ∷ []) false (confirmed ∷ confirmed ∷ confirmed ∷ []) (heal_b 1) true false false
  pub next : Judged (volume ∷ page_next ∷ page ∷ []) false (confirmed ∷ confirmed ∷ confirmed ∷ []) (heal_b 1) true false false
  pub next_marked : Judged (volume ∷ page_next ∷ page ∷ []) true (confirmed ∷ unconfirmed ∷ confirmed ∷ []) None true true false
  pub last : Judged (volume ∷ page ∷ page ∷ page_torn ∷ []) false (confirmed ∷ confirmed ∷ confirmed ∷ confirmed ∷ []) (heal_a 3) true false false
  pub last_b : Judged (volume ∷ page ∷ page ∷ page_torn_b ∷ []) false (confirmed ∷ confirmed ∷ confirmed ∷ confirmed ∷ []) (heal_b 3) true false false
  pub two : Judged (volume ∷ page_torn ∷ page_torn_b ∷ []) false (confirmed ∷ unconfirmed ∷ unconfirmed ∷ []) None true false false
  pub two_apart : Judged (volume ∷ page_torn ∷ page ∷ page_next ∷ []) false (confirmed ∷ unconfirmed ∷ confirmed ∷ unconfirmed ∷ []) None true false false
  pub three : Judged (volume_torn ∷ page_torn ∷ page_torn ∷ []) false (unconfirmed ∷ unconfirmed ∷ unconfirmed ∷ []) None false false false
  -- The slot that is demoted, and the winner beside it.
  pub demoted : verdicts (volume ∷ page_torn ∷ []) true ≡ won_a confirmed nothing ++ won_b unconfirmed damage
  pub demoted_b : verdicts (volume ∷ page_torn_b ∷ []) true ≡ won_a confirmed nothing ++ won_a unconfirmed damage
  pub demoted_both : verdicts (volume_torn ∷ page_torn ∷ []) false ≡ won_a unconfirmed damage ++ won_b unconfirmed damage
  pub kept : verdicts (volume ∷ page_torn ∷ []) false ≡ won_a confirmed nothing ++ won_b confirmed in_flight
  -- The volume record's: the mark does not count beside its own.
  pub own : Judged (volume_torn ∷ page ∷ []) false (confirmed ∷ confirmed ∷ []) (heal_b 0) true false false
  pub own_marked : Judged (volume_torn ∷ page ∷ []) true (confirmed ∷ confirmed ∷ []) (heal_b 0) true false false
  pub own_a_marked : Judged (volume_torn_a ∷ page ∷ []) true (confirmed ∷ confirmed ∷ []) (heal_a 0) true false false
  pub own_alone : Judged (volume_torn ∷ []) false (confirmed ∷ []) (heal_b 0) true false false
  pub both : Judged (volume_torn ∷ page_torn ∷ []) false (unconfirmed ∷ unconfirmed ∷ []) None false false false
  pub both_marked : Judged (volume_torn ∷ page_torn ∷ []) true (unconfirmed ∷ unconfirmed ∷ []) None false false false
  -- In a store that is not Confirmed: the volume record is healed, but beside a Refused pair.
  pub beside_damage : Judged (volume_torn ∷ page_damaged ∷ []) false (confirmed ∷ unconfirmed ∷ []) (heal_b 0) true false false
  pub beside_late : Judged (volume_torn ∷ page_late ∷ []) false (confirmed ∷ unconfirmed ∷ []) (heal_b 0) true false false
  pub beside_lost : Judged (volume_torn ∷ page_lost ∷ []) false (confirmed ∷ lost ∷ []) (heal_b 0) true false false
  pub beside_refused : Judged (volume_torn ∷ page_refused ∷ []) false (unconfirmed ∷ refused ∷ []) None false false true
  pub beside_third : Judged (volume_torn ∷ page ∷ page_refused ∷ []) true (unconfirmed ∷ confirmed ∷ refused ∷ []) None false false true
  -- A page is not.
  pub page_beside_damage : Judged (volume ∷ page_torn ∷ page_damaged ∷ []) false (confirmed ∷ unconfirmed ∷ unconfirmed ∷ []) None true false false
  pub page_beside_late : Judged (volume ∷ page_torn ∷ page_late ∷ []) false (confirmed ∷ unconfirmed ∷ unconfirmed ∷ []) None true false false
  pub page_beside_lost : Judged (volume ∷ page_torn ∷ page_lost ∷ []) false (confirmed ∷ unconfirmed ∷ lost ∷ []) None true false false
  pub page_beside_refused : Judged (volume ∷ page_torn ∷ page_refused ∷ []) false (confirmed ∷ unconfirmed ∷ refused ∷ []) None false false true
  pub page_after_damage : Judged (volume ∷ page_damaged ∷ page_torn ∷ []) false (confirmed ∷ unconfirmed ∷ unconfirmed ∷ []) None true false false
  -- The volume record damaged: writable where no page had a candidate. The mark does not count.
  pub damaged : Judged (volume_damaged ∷ page ∷ []) true (unconfirmed ∷ confirmed ∷ []) None true false false
  pub damaged_page : Judged (volume_damaged ∷ page_damaged ∷ []) false (unconfirmed ∷ unconfirmed ∷ []) None true false false
  pub damaged_torn : Judged (volume_damaged ∷ page_torn ∷ []) true (unconfirmed ∷ unconfirmed ∷ []) None false false false
  pub damaged_late : Judged (volume_damaged ∷ page_late ∷ []) false (unconfirmed ∷ unconfirmed ∷ []) None false false false
  pub damaged_third : Judged (volume_damaged ∷ page ∷ page_late ∷ []) false (unconfirmed ∷ confirmed ∷ unconfirmed ∷ []) None false false false
  pub late : Judged (volume_late ∷ page ∷ []) true (unconfirmed ∷ confirmed ∷ []) None true false false
  pub late_torn : Judged (volume_late ∷ page_torn ∷ []) false (unconfirmed ∷ unconfirmed ∷ []) None false false false
  -- Lost or Refused: never writable.
  pub lost_volume : Judged (volume_lost ∷ page ∷ []) true (lost ∷ confirmed ∷ []) None false false false
  pub lost_torn : Judged (volume_lost ∷ page_torn ∷ []) false (lost ∷ unconfirmed ∷ []) None false false false
  pub refused_volume : Judged (volume_refused ∷ page ∷ []) true (refused ∷ confirmed ∷ []) None false false true
  pub refused_torn : Judged (volume_refused ∷ page_torn ∷ []) false (refused ∷ unconfirmed ∷ []) None false false true
  pub refused_page : Judged (volume ∷ page_refused ∷ []) true (confirmed ∷ refused ∷ []) None false true true
  pub lost_page : Judged (volume ∷ page_lost ∷ []) true (confirmed ∷ lost ∷ []) None true true false

-- ---- the owners

-- A pair whose winner has this owner generation: Confirmed, its older slot of another; in flight; Unconfirmed. Pairs without a winner.
abbrev pub owned : (owner older : ℕ) → Pair
owned owner older = pair (valid 2 4 20 10 owner) (valid 1 3 10 0 older)

abbrev pub owned_b : (owner older : ℕ) → Pair
owned_b owner older = pair (valid 1 3 10 0 older) (valid 2 4 20 10 owner)

abbrev pub written : (owner : ℕ) → Pair
written owner = pair (valid 2 4 20 10 owner) (torn 3 5 20)

abbrev pub doubted : (owner : ℕ) → Pair
doubted owner = pair Shown.Other (valid 2 4 20 10 owner)

abbrev pub forked : (owner other : ℕ) → Pair
forked owner other = pair (valid 2 4 20 10 owner) (valid 2 4 20 10 other)

abbrev pub later : (owner : ℕ) → Pair
later owner = pair (valid 2 4 20 10 owner) Shown.Unsupported

abbrev pub differ : List Pair → Bool
differ ps = (judgement ps false).owners_differ

pub record OwnerRows : Type 0 where
  pub same : differ (owned 5 4 ∷ owned_b 5 6 ∷ []) ≡ false
  pub up : differ (owned 5 5 ∷ owned 6 5 ∷ []) ≡ true
  pub down : differ (owned 6 5 ∷ owned_b 5 5 ∷ []) ≡ true
  pub one : differ (owned 5 6 ∷ []) ≡ false
  pub zeros : differ (owned 0 5 ∷ owned 0 6 ∷ []) ≡ false
  pub zero_first : differ (owned 0 5 ∷ owned 5 5 ∷ []) ≡ true
  pub zero_last : differ (owned 5 5 ∷ owned 0 5 ∷ []) ≡ true
  pub by_64_bits : differ (owned 5 5 ∷ owned 0x1_0000_0005 5 ∷ []) ≡ true
  pub highest : differ (owned most 5 ∷ owned 0x7FFF_FFFF_FFFF_FFFF 5 ∷ []) ≡ true
  pub highest_same : differ (owned most 5 ∷ owned_b most 6 ∷ []) ≡ false
  -- Winners that are Unconfirmed, and of a pair in flight.
  pub doubted_winner : differ (owned 5 5 ∷ doubted 6 ∷ []) ≡ true
  pub doubted_both : differ (doubted 5 ∷ doubted 6 ∷ []) ≡ true
  pub doubted_same : differ (doubted 5 ∷ doubted 5 ∷ []) ≡ false
  pub beside_written : differ (owned 5 5 ∷ written 6 ∷ []) ≡ true
  pub written_same : differ (owned 5 6 ∷ written 5 ∷ []) ≡ false
  -- Any two of three.
  pub first_of_three : differ (owned 6 5 ∷ owned 5 5 ∷ owned 5 5 ∷ []) ≡ true
  pub middle_of_three : differ (owned 5 5 ∷ owned 6 5 ∷ owned 5 5 ∷ []) ≡ true
  pub last_of_three : differ (owned 5 5 ∷ owned 5 5 ∷ owned 6 5 ∷ []) ≡ true
  pub same_of_three : differ (owned 5 6 ∷ owned 5 7 ∷ owned 5 8 ∷ []) ≡ false
  -- Pairs without a winner.
  pub pages_alone : differ (forked 7 8 ∷ owned 5 5 ∷ owned 6 5 ∷ []) ≡ true
  pub lost_between : differ (owned 5 5 ∷ forked 5 5 ∷ owned 6 5 ∷ []) ≡ true
  pub fork_aside : differ (owned 5 5 ∷ forked 6 7 ∷ []) ≡ false
  pub later_aside : differ (owned 5 5 ∷ later 6 ∷ []) ≡ false
  pub one_winner : differ (forked 6 7 ∷ owned 5 5 ∷ later 6 ∷ []) ≡ false
  pub no_winner : differ (forked 5 5 ∷ forked 6 6 ∷ []) ≡ false
