-- The rules of plans by rows, on both sides of each bound (docs/FORMAT.md, "What a correct write is").
use Rattle.std.specs.Prelude.{◌≡◌, false, List, [], ◌∷◌, ◌++◌, ℕ, ◌*◌, length, map, take, drop, replicate, Option, Some, None, Result, Ok, Err}
use Rattle.std.specs.List.{concat}
use Rattle.std.specs.Int.{w32, w64, to_le_bytes}
use Rattle.slot.specs.declared.slot.EncodeError.{EncodeError}
use Rattle.slot.specs.declared.slot.Expect.{Expect}
use Rattle.slot.specs.declared.slot.SlotIndex.{SlotIndex}
use Rattle.judge.specs.declared.verdict.JudgeError.{JudgeError}
use Rattle.plan.specs.declared.error.PlanError.{PlanError}
use Rattle.plan.specs.declared.write.Plan.{Plan}
use Rattle.plan.specs.Error.{error_number}
use Rattle.plan.specs.Numbers.{next_number, heal_number}
use Rattle.plan.specs.Plan.{plan_write}
use Rattle.plan.specs.Heal.{plan_heal}
use Rattle.plan.specs.Next.{next_write}

-- ---- frames

-- A slot's part: owner generation 5.
abbrev pub part : (status facts generation number own previous : ℕ) → List ℕ
part status facts generation number own previous =
    status ∷ facts
    ∷ (to_le_bytes w64 generation ++ (to_le_bytes w64 number ++ (to_le_bytes w32 own ++ (to_le_bytes w32 previous ++ to_le_bytes w64 5))))

abbrev pub valid : (generation number own previous : ℕ) → List ℕ
valid generation number own previous = part 12 2 generation number own previous

-- A payload that fails.
abbrev pub torn : (generation number previous : ℕ) → List ℕ
torn generation number previous = part 11 2 generation number 77 previous

-- A header that fails, with this stored checksum.
abbrev pub header : (own : ℕ) → List ℕ
header own = part 4 2 9 99 own 88

-- A slot of any other status.
abbrev pub status : ℕ → List ℕ
status s = part s 2 9 99 77 88

abbrev pub blank : List ℕ
blank = status 2

-- A pair of an operator, and one of operator 0.
abbrev pub pair_of : (operator : ℕ) → List ℕ → List ℕ → List ℕ
pair_of operator a b = a ++ (b ++ operator ∷ [])

abbrev pub pair : List ℕ → List ℕ → List ℕ
pair a b = pair_of 0 a b

-- The volume record, with number 1; a page, with numbers 4 and 3.
abbrev pub volume : List ℕ
volume = pair (valid 1 1 10 0) blank

abbrev pub page : List ℕ
page = pair (valid 2 4 20 10) (valid 1 3 10 0)

-- So many pairs whose slots were not read.
abbrev pub unread : ℕ → List ℕ
unread n = replicate (69 * n) 0

-- 112 pairs.
abbrev pub full : List ℕ
full = volume ++ (unread 110 ++ page)

-- Frames with a value out of range: a part of a frame, status 13, facts 3, operator 16, and another operator than 0 at pair 0.
abbrev pub bad_frames : List (List ℕ)
bad_frames =
    (volume ++ 0 ∷ [])
    ∷ (volume ++ pair (status 13) blank)
    ∷ (volume ++ pair blank (part 2 3 0 0 0 0))
    ∷ (volume ++ pair_of 16 blank blank)
    ∷ pair_of 1 blank blank
    ∷ []

abbrev pub most : ℕ
most = 0xFFFF_FFFF_FFFF_FFFF

abbrev pub below_most : ℕ
below_most = 0xFFFF_FFFF_FFFF_FFFE

-- ---- answers

abbrev pub Answer : Type 0
Answer = Result (Option Plan) PlanError

abbrev pub to : SlotIndex → (generation previous number : ℕ) → Answer
to index generation previous number =
    Ok (Some (record { index = index; generation = generation; prev_header_crc32c = previous; meta_seq = number }))

abbrev pub no_plan : Answer
no_plan = Ok None

abbrev pub refused : {A : Type 0} → JudgeError → Result A PlanError
refused error = Err (PlanError.Frames error)

abbrev pub Heal : Type 0
Heal = Result (Option (ℕ × Plan)) PlanError

abbrev pub heal_of : ℕ → SlotIndex → (generation previous number : ℕ) → Heal
heal_of k index generation previous number =
    Ok (Some (k, record { index = index; generation = generation; prev_header_crc32c = previous; meta_seq = number }))

abbrev pub no_heal : Heal
no_heal = Ok None

-- ---- the plan of a pair's next write

-- Of a pair alone.
abbrev pub next : List ℕ → List ℕ → Answer
next a b = plan_write (pair a b) 0

pub record PlanRows : Type 0 where
  pub empty : next blank blank ≡ to SlotIndex.A 1 0 1
  pub empty_beside : plan_write (page ++ pair blank blank) 1 ≡ to SlotIndex.A 1 0 5
  pub empty_of_3 : plan_write (page ++ pair_of 3 blank blank) 1 ≡ to SlotIndex.A 1 0 1
  -- Confirmed: both Valid, the newer in A or in B; beside 2, 4 and 11.
  pub won_a : next (valid 3 6 30 20) (valid 2 5 20 10) ≡ to SlotIndex.B 4 30 7
  pub won_b : next (valid 2 5 20 10) (valid 3 6 30 20) ≡ to SlotIndex.A 4 30 7
  pub lower_number : next (valid 3 5 30 20) (valid 2 6 20 10) ≡ to SlotIndex.B 4 30 7
  pub gap : next (valid 3 6 30 20) (valid 1 5 10 0) ≡ to SlotIndex.B 4 30 7
  pub no_chain : next (valid 2 5 20 10) (valid 3 6 30 21) ≡ to SlotIndex.A 4 30 7
  pub first_a : next (valid 1 1 10 0) blank ≡ to SlotIndex.B 2 10 2
  pub first_b : next blank (valid 1 1 10 0) ≡ to SlotIndex.A 2 10 2
  pub beside_header : next (valid 3 6 30 20) (header 77) ≡ to SlotIndex.B 4 30 7
  pub header_beside : next (header 77) (valid 3 6 30 20) ≡ to SlotIndex.A 4 30 7
  pub beside_torn : next (valid 3 6 30 20) (torn 4 7 30) ≡ to SlotIndex.B 4 30 8
  pub torn_beside : next (torn 4 7 30) (valid 3 6 30 20) ≡ to SlotIndex.A 4 30 8
  -- Unconfirmed: beside any other.
  pub beside_others : map (λ s. next (valid 3 6 30 20) (status s)) (0 ∷ 1 ∷ 3 ∷ 7 ∷ 8 ∷ 9 ∷ 10 ∷ []) ≡ replicate 7 (to SlotIndex.B 4 30 7)
  pub others_beside : map (λ s. next (status s) (valid 3 6 30 20)) (0 ∷ 1 ∷ 3 ∷ 7 ∷ 8 ∷ 9 ∷ 10 ∷ []) ≡ replicate 7 (to SlotIndex.A 4 30 7)
  -- Fork, Refused, Lost: none, and no refusal.
  pub fork : next (valid 3 6 30 20) (valid 3 5 20 10) ≡ no_plan
  pub refused_5 : next (valid 3 6 30 20) (status 5) ≡ no_plan
  pub refused_6 : next (status 6) (valid 3 6 30 20) ≡ no_plan
  pub none_a : map (λ s. next (status s) blank) (0 ∷ 1 ∷ 3 ∷ 4 ∷ 5 ∷ 6 ∷ 7 ∷ 8 ∷ 9 ∷ 10 ∷ 11 ∷ []) ≡ replicate 11 no_plan
  pub none_b : map (λ s. next blank (status s)) (0 ∷ 1 ∷ 3 ∷ 4 ∷ 5 ∷ 6 ∷ 7 ∷ 8 ∷ 9 ∷ 10 ∷ 11 ∷ []) ≡ replicate 11 no_plan
  pub lost_torn : next (torn 3 6 20) (header 77) ≡ no_plan
  pub used_up_fork : next (valid most most 30 20) (valid most 5 20 10) ≡ no_plan
  pub used_up_lost : next (torn most most 20) blank ≡ no_plan
  -- Over 32 bits: the generation, the number, and which generation is higher. A checksum has all 32.
  pub wide : next (valid 0xFFFF_FFFF 0xFFFF_FFFF 0xFFFF_FFFF 20) blank ≡ to SlotIndex.B 0x1_0000_0000 0xFFFF_FFFF 0x1_0000_0000
  pub by_64_bits : next (valid 0x1_0000_0000 0x1_0000_0000 30 20) (valid 0xFFFF_FFFF 0xFFFF_FFFF 20 10) ≡ to SlotIndex.B 0x1_0000_0001 30 0x1_0000_0001
  -- The last generation and the last number, and none after them.
  pub last_generation : next (valid below_most 6 30 20) (header 20) ≡ to SlotIndex.B most 30 7
  pub no_generation : next (valid most 6 30 20) (header 20) ≡ Err PlanError.UsedUp
  pub older_generation : next (valid most 6 30 20) (valid below_most 5 20 10) ≡ Err PlanError.UsedUp
  pub last_number : next (valid 3 below_most 30 20) (header 20) ≡ to SlotIndex.B 4 30 most
  pub no_number : next (valid 3 most 30 20) (header 20) ≡ Err PlanError.UsedUp
  pub no_number_at_first : plan_write (volume ++ (pair blank blank ++ pair (torn 2 most 9) blank)) 1 ≡ Err PlanError.UsedUp
  pub no_number_elsewhere : plan_write (volume ++ pair (status 7) (torn 2 most 9)) 0 ≡ Err PlanError.UsedUp
  pub another_used_up : plan_write (volume ++ pair_of 3 (valid most most 30 20) blank) 0 ≡ to SlotIndex.B 2 10 2
  -- The number: over all numbered slots of the pair's operator, also of a pair that is Lost, Refused or a Fork.
  pub of_the_page : plan_write (volume ++ page) 0 ≡ to SlotIndex.B 2 10 5
  pub of_the_volume : plan_write (pair (valid 1 9 10 0) blank ++ page) 1 ≡ to SlotIndex.B 3 20 10
  pub of_older : plan_write (volume ++ pair (valid 2 4 20 10) (valid 1 8 10 0)) 0 ≡ to SlotIndex.B 2 10 9
  pub of_torn : plan_write (volume ++ pair (valid 2 4 20 10) (torn 3 8 20)) 0 ≡ to SlotIndex.B 2 10 9
  pub of_lost : plan_write (volume ++ pair (torn 2 7 9) (status 3)) 0 ≡ to SlotIndex.B 2 10 8
  pub of_refused : plan_write (volume ++ pair (status 5) (valid 2 7 9 8)) 0 ≡ to SlotIndex.B 2 10 8
  pub of_fork : plan_write (volume ++ pair (valid 2 6 9 8) (valid 2 7 9 8)) 0 ≡ to SlotIndex.B 2 10 8
  pub of_no_header : plan_write (volume ++ pair (header 9) (status 8)) 0 ≡ to SlotIndex.B 2 10 2
  pub of_operator_3 : plan_write (volume ++ pair_of 3 (valid 2 4 20 10) (valid 1 3 10 0)) 1 ≡ to SlotIndex.B 3 20 5
  pub not_of_operator_3 : plan_write (volume ++ pair_of 3 (valid 2 4 20 10) (valid 1 3 10 0)) 0 ≡ to SlotIndex.B 2 10 2
  pub of_operator_15 : plan_write (page ++ (pair_of 15 (valid 1 7 10 0) blank ++ pair_of 15 (header 9) (valid 2 2 20 10))) 2 ≡ to SlotIndex.A 3 20 8
  -- No such pair, also where the numbers are used up.
  pub last_pair : plan_write (volume ++ page) 1 ≡ to SlotIndex.B 3 20 5
  pub no_pair : plan_write (volume ++ page) 2 ≡ Err PlanError.NoPair
  pub no_pair_first : plan_write (pair (valid most most 30 20) blank) 1 ≡ Err PlanError.NoPair
  pub no_pair_64_bits : plan_write volume 0x1_0000_0000 ≡ Err PlanError.NoPair
  -- 112 pairs, and a byte or a pair more.
  pub first_of_112 : plan_write full 0 ≡ to SlotIndex.B 2 10 5
  pub last_of_112 : plan_write full 111 ≡ to SlotIndex.B 3 20 5
  pub beyond_112 : plan_write full 112 ≡ Err PlanError.NoPair
  pub of_113 : map (λ more. plan_write (full ++ more) 112) ((0 ∷ []) ∷ unread 1 ∷ []) ≡ replicate 2 (refused JudgeError.TooManyPairs)
  -- What the judge refuses comes first.
  pub no_frames : map (plan_write []) (0 ∷ 9 ∷ []) ≡ replicate 2 (refused JudgeError.Empty)
  pub out_of_range : map (λ s. plan_write s 9) bad_frames ≡ replicate 5 (refused JudgeError.OutOfRange)
  pub in_the_planned : plan_write (volume ++ pair (valid most most 30 20) (status 13)) 1 ≡ refused JudgeError.OutOfRange

-- ---- an operator's next number, and the number above its winners

-- Operator 0: a winner of number 4, a torn payload of number 5 in a Lost pair. Operator 15: a winner of 7 beside a torn payload of 8.
abbrev pub shared : List ℕ
shared = volume ++ (page ++ (pair (torn 2 5 9) (status 3) ++ pair_of 15 (valid 2 7 20 10) (torn 3 8 20)))

abbrev pub operators : List ℕ
operators = 0 ∷ 1 ∷ 14 ∷ 15 ∷ 16 ∷ 255 ∷ []

pub record NumberRows : Type 0 where
  pub highest : map (next_number shared) operators ≡ Ok 6 ∷ Ok 1 ∷ Ok 1 ∷ Ok 9 ∷ Err PlanError.NoOperator ∷ Err PlanError.NoOperator ∷ []
  pub winners : map (heal_number shared) operators ≡ Ok 5 ∷ Ok 1 ∷ Ok 1 ∷ Ok 8 ∷ Err PlanError.NoOperator ∷ Err PlanError.NoOperator ∷ []
  -- No numbered slot.
  pub from_1 : map (next_number (pair blank (header 9))) (0 ∷ 1 ∷ []) ≡ Ok 1 ∷ Ok 1 ∷ []
  pub winners_from_1 : map (heal_number (pair blank (header 9))) (0 ∷ 1 ∷ []) ≡ Ok 1 ∷ Ok 1 ∷ []
  pub number_0 : next_number (pair (valid 1 0 10 0) blank) 0 ≡ Ok 1
  -- In A and in B: the higher of both, and that of the newer.
  pub in_a : next_number (pair (valid 2 9 20 10) (valid 3 8 30 20)) 0 ≡ Ok 10
  pub in_b : next_number (pair (valid 3 8 30 20) (valid 2 9 20 10)) 0 ≡ Ok 10
  pub winner_in_a : heal_number (pair (valid 3 8 30 20) (valid 2 9 20 10)) 0 ≡ Ok 9
  pub winner_in_b : heal_number (pair (valid 2 9 20 10) (valid 3 8 30 20)) 0 ≡ Ok 9
  -- In the first pair and in the last.
  pub of_the_first : next_number (pair (valid 1 9 10 0) blank ++ page) 0 ≡ Ok 10
  pub winner_of_the_first : heal_number (pair (valid 1 9 10 0) blank ++ page) 0 ≡ Ok 10
  pub last_of_112 : next_number full 0 ≡ Ok 5
  pub winner_last_of_112 : heal_number full 0 ≡ Ok 5
  -- A torn payload is numbered under facts 2, a Valid slot under any, a slot of another status under none.
  pub torn_by_facts : map (λ f. next_number (volume ++ pair (status 7) (part 11 f 2 7 9 8)) 0) (0 ∷ 1 ∷ 2 ∷ []) ≡ Ok 2 ∷ Ok 2 ∷ Ok 8 ∷ []
  pub valid_by_facts : map (λ f. next_number (volume ++ pair (status 7) (part 12 f 2 7 9 8)) 0) (0 ∷ 1 ∷ 2 ∷ []) ≡ Ok 8 ∷ Ok 8 ∷ Ok 8 ∷ []
  pub others :
      map (λ s. next_number (volume ++ pair (status s) (status s)) 0) (0 ∷ 1 ∷ 2 ∷ 3 ∷ 4 ∷ 5 ∷ 6 ∷ 7 ∷ 8 ∷ 9 ∷ 10 ∷ []) ≡ replicate 11 (Ok 2)
  -- The numbers of a Fork, a Refused and a Lost pair count for the next one; none of them has a winner.
  pub fork : next_number (volume ++ pair (valid 2 6 9 8) (valid 2 7 9 8)) 0 ≡ Ok 8
  pub fork_aside : heal_number (volume ++ pair (valid 2 6 9 8) (valid 2 7 9 8)) 0 ≡ Ok 2
  pub refused_5 : next_number (volume ++ pair (status 5) (valid 2 7 9 8)) 0 ≡ Ok 8
  pub refused_aside : heal_number (volume ++ pair (status 5) (valid 2 7 9 8)) 0 ≡ Ok 2
  pub refused_b_aside : heal_number (volume ++ pair (valid 2 7 9 8) (status 6)) 0 ≡ Ok 2
  pub lost_aside : heal_number (volume ++ pair (torn 2 7 9) blank) 0 ≡ Ok 2
  -- An Unconfirmed winner is one.
  pub doubted : heal_number (volume ++ pair (status 7) (valid 2 7 9 8)) 0 ≡ Ok 8
  pub beside_torn : heal_number (volume ++ pair (torn 3 9 9) (valid 2 7 9 8)) 0 ≡ Ok 8
  -- Over 32 bits; the last number, and none after it.
  pub wide : next_number (volume ++ pair (valid 2 0xFFFF_FFFF 20 10) (valid 1 2 10 0)) 0 ≡ Ok 0x1_0000_0000
  pub by_64_bits : next_number (pair (valid 1 0x1_0000_0000 10 0) blank ++ page) 0 ≡ Ok 0x1_0000_0001
  pub wide_winner : heal_number (volume ++ pair (valid 2 0xFFFF_FFFF 20 10) (valid 1 2 10 0)) 0 ≡ Ok 0x1_0000_0000
  pub winner_by_64_bits : heal_number (pair (valid 1 0x1_0000_0000 10 0) blank ++ page) 0 ≡ Ok 0x1_0000_0001
  pub last : next_number (pair (valid 1 below_most 10 0) blank) 0 ≡ Ok most
  pub used_up : next_number (pair (valid 1 most 10 0) blank) 0 ≡ Err PlanError.UsedUp
  pub last_winner : heal_number (pair (valid 1 below_most 10 0) blank) 0 ≡ Ok most
  pub used_up_winner : heal_number (pair (valid 1 most 10 0) blank) 0 ≡ Err PlanError.UsedUp
  pub beside_the_last : heal_number (volume ++ pair (valid 2 4 20 10) (torn 3 most 20)) 0 ≡ Ok 5
  pub by_operator : map (next_number (volume ++ pair_of 3 (valid 1 most 10 0) blank)) (0 ∷ 3 ∷ []) ≡ Ok 2 ∷ Err PlanError.UsedUp ∷ []
  pub winners_by_operator : map (heal_number (volume ++ pair_of 3 (valid 1 most 10 0) blank)) (0 ∷ 3 ∷ []) ≡ Ok 2 ∷ Err PlanError.UsedUp ∷ []
  -- What the judge refuses comes first, then the operator.
  pub no_frames : map (next_number []) (0 ∷ 16 ∷ []) ≡ replicate 2 (refused JudgeError.Empty)
  pub out_of_range : map (λ s. next_number s 16) bad_frames ≡ replicate 5 (refused JudgeError.OutOfRange)
  pub of_113 : map (λ more. next_number (full ++ more) 16) ((0 ∷ []) ∷ unread 1 ∷ []) ≡ replicate 2 (refused JudgeError.TooManyPairs)
  pub no_frames_of_winners : map (heal_number []) (0 ∷ 16 ∷ []) ≡ replicate 2 (refused JudgeError.Empty)
  pub out_of_range_of_winners : map (λ s. heal_number s 16) bad_frames ≡ replicate 5 (refused JudgeError.OutOfRange)
  pub of_113_of_winners : map (λ more. heal_number (full ++ more) 16) ((0 ∷ []) ∷ unread 1 ∷ []) ≡ replicate 2 (refused JudgeError.TooManyPairs)

-- ---- the plan of the write that heals

-- A page in flight, with the number after the others or with none.
abbrev pub page_torn : List ℕ
page_torn = pair (valid 3 5 30 20) (torn 4 6 30)

abbrev pub page_cut : List ℕ
page_cut = pair (header 99) (valid 3 5 30 20)

abbrev pub volume_cut : List ℕ
volume_cut = pair (valid 2 2 20 10) (header 99)

pub record HealRows : Type 0 where
  pub none : plan_heal (volume ++ page) 0 ≡ no_heal
  pub none_marked : plan_heal (volume ++ page) 1 ≡ no_heal
  -- The named slot's number does not count, so the same one is written.
  pub torn_page : plan_heal (volume ++ page_torn) 0 ≡ heal_of 1 SlotIndex.B 4 30 6
  pub torn_page_a : plan_heal (volume ++ pair (torn 4 6 30) (valid 3 5 30 20)) 0 ≡ heal_of 1 SlotIndex.A 4 30 6
  pub cut_page : plan_heal (volume ++ page_cut) 0 ≡ heal_of 1 SlotIndex.A 4 30 6
  pub cut_page_b : plan_heal (volume ++ pair (valid 3 5 30 20) (header 99)) 0 ≡ heal_of 1 SlotIndex.B 4 30 6
  pub cut_volume : plan_heal (volume_cut ++ page) 0 ≡ heal_of 0 SlotIndex.B 3 20 5
  pub cut_volume_a : plan_heal (pair (header 99) (valid 2 6 20 10) ++ page) 0 ≡ heal_of 0 SlotIndex.A 3 20 7
  pub torn_volume : plan_heal (pair (valid 2 5 20 10) (torn 3 6 20) ++ page) 0 ≡ heal_of 0 SlotIndex.B 3 20 6
  pub second_page : plan_heal (volume ++ (page ++ page_cut)) 0 ≡ heal_of 2 SlotIndex.A 4 30 6
  pub before_a_page : plan_heal (volume ++ (page_cut ++ pair (valid 2 7 20 10) (valid 1 3 10 0))) 0 ≡ heal_of 1 SlotIndex.A 4 30 8
  pub number_0 : plan_heal (pair (valid 1 0 10 0) (header 99)) 0 ≡ heal_of 0 SlotIndex.B 2 10 1
  -- Under the mark a page is not named, and the volume record is.
  pub marked_page : plan_heal (volume ++ page_torn) 1 ≡ no_heal
  pub marked_volume : plan_heal (volume_cut ++ page) 1 ≡ heal_of 0 SlotIndex.B 3 20 5
  -- In a damaged store: the numbers of slots that are no winners count.
  pub damaged_page : plan_heal (volume ++ (page_torn ++ pair (status 7) (valid 2 4 20 10))) 0 ≡ no_heal
  pub lost_beside : plan_heal (volume ++ (page_cut ++ pair (torn 2 8 9) (status 7))) 0 ≡ no_heal
  pub damaged_volume : plan_heal (volume_cut ++ pair (torn 2 8 9) (status 7)) 0 ≡ heal_of 0 SlotIndex.B 3 20 9
  pub beside_fork : plan_heal (volume_cut ++ pair (valid 2 7 20 10) (valid 2 8 20 10)) 0 ≡ heal_of 0 SlotIndex.B 3 20 9
  pub beside_late : plan_heal (volume_cut ++ pair (valid 2 7 20 10) (torn 3 9 20)) 0 ≡ heal_of 0 SlotIndex.B 3 20 10
  pub beside_no_number : plan_heal (volume_cut ++ pair (status 8) (header 7)) 0 ≡ heal_of 0 SlotIndex.B 3 20 3
  pub beside_refused : plan_heal (volume_cut ++ pair (status 5) (valid 2 8 20 10)) 0 ≡ no_heal
  pub two : plan_heal (volume ++ (page_cut ++ page_cut)) 0 ≡ no_heal
  -- Those of another operator do not.
  pub of_operator_3 : plan_heal (pair (valid 1 9 10 0) blank ++ pair_of 3 (valid 3 5 30 20) (torn 4 6 30)) 0 ≡ heal_of 1 SlotIndex.B 4 30 6
  pub of_operator_0 : plan_heal (volume_cut ++ pair_of 3 (valid 3 9 30 20) (valid 2 8 20 10)) 0 ≡ heal_of 0 SlotIndex.B 3 20 3
  pub of_two_pages :
      plan_heal (volume ++ (pair_of 15 (valid 1 7 10 0) blank ++ pair_of 15 (valid 2 2 20 10) (header 99))) 0 ≡ heal_of 2 SlotIndex.B 3 20 8
  -- Over 32 bits; the last generation and number, and none after them.
  pub wide :
      plan_heal (volume ++ pair (valid 0xFFFF_FFFF 0xFFFF_FFFF 0xFFFF_FFFF 20) (header 99)) 0
      ≡ heal_of 1 SlotIndex.B 0x1_0000_0000 0xFFFF_FFFF 0x1_0000_0000
  pub by_64_bits : plan_heal (pair (valid 1 0x1_0000_0000 10 0) blank ++ page_cut) 0 ≡ heal_of 1 SlotIndex.A 4 30 0x1_0000_0001
  pub last_generation : plan_heal (pair (valid below_most 5 30 20) (header 99)) 0 ≡ heal_of 0 SlotIndex.B most 30 6
  pub no_generation : plan_heal (pair (valid most 5 30 20) (header 99)) 0 ≡ Err PlanError.UsedUp
  pub last_number : plan_heal (pair (valid 3 below_most 30 20) (header 99)) 0 ≡ heal_of 0 SlotIndex.B 4 30 most
  pub no_number : plan_heal (pair (valid 3 most 30 20) (header 99)) 0 ≡ Err PlanError.UsedUp
  pub last_torn : plan_heal (pair (valid 3 below_most 30 20) (torn 4 most 30)) 0 ≡ heal_of 0 SlotIndex.B 4 30 most
  pub used_up_not_named : plan_heal (volume ++ pair (valid most most 30 20) (valid below_most below_most 20 10)) 0 ≡ no_heal
  -- 112 pairs.
  pub last_of_112 : plan_heal (volume ++ (concat (replicate 110 page) ++ page_cut)) 0 ≡ heal_of 111 SlotIndex.A 4 30 6
  -- What the judge refuses, with the mark.
  pub of_113 : map (λ more. plan_heal (full ++ more) 2) ((0 ∷ []) ∷ unread 1 ∷ []) ≡ replicate 2 (refused JudgeError.TooManyPairs)
  pub no_frames : map (plan_heal []) (0 ∷ 1 ∷ 2 ∷ []) ≡ replicate 3 (refused JudgeError.Empty)
  pub out_of_range : map (λ s. plan_heal s 0) bad_frames ≡ replicate 5 (refused JudgeError.OutOfRange)
  pub out_of_range_marked : map (λ s. plan_heal s 1) bad_frames ≡ replicate 5 (refused JudgeError.OutOfRange)
  pub mark_2 : map (plan_heal volume) (2 ∷ 255 ∷ []) ≡ replicate 2 (refused JudgeError.OutOfRange)

-- ---- the next write

-- What A and B are read with. Neither the format nor whether they are numbered counts.
abbrev pub read_a : Expect
read_a =
    record {
      volume_uuid =
          0xA0 ∷ 0xA1 ∷ 0xA2 ∷ 0xA3 ∷ 0xA4 ∷ 0xA5 ∷ 0xA6 ∷ 0xA7 ∷ 0xA8 ∷ 0xA9 ∷ 0xAA ∷ 0xAB ∷ 0xAC ∷ 0xAD ∷ 0xAE ∷ 0xAF ∷ [];
      object_id = 0x0807_0605_0403_0201;
      slot_offset = 0x9897_9695_9493_9291;
      slot_index = SlotIndex.A;
      log2_slot_size = 10;
      format_major = 1;
      numbered = false;
    }

abbrev pub read_b : (log2 : ℕ) → Expect
read_b log2 =
    record {
      volume_uuid =
          0xB0 ∷ 0xB1 ∷ 0xB2 ∷ 0xB3 ∷ 0xB4 ∷ 0xB5 ∷ 0xB6 ∷ 0xB7 ∷ 0xB8 ∷ 0xB9 ∷ 0xBA ∷ 0xBB ∷ 0xBC ∷ 0xBD ∷ 0xBE ∷ 0xBF ∷ [];
      object_id = 0x1817_1615_1413_1211;
      slot_offset = 0x2827_2625_2423_2221;
      slot_index = SlotIndex.B;
      log2_slot_size = log2;
      format_major = 1;
      numbered = false;
    }

abbrev pub Written : Type 0
Written = List ℕ × Result (Option (Plan × ℕ)) PlanError

-- With an owner generation and compatible flags; payload and buffer have so many bytes 6 and 7, and the slot of B this size.
abbrev pub write : (frames : List ℕ) → (pair log2 payload buffer : ℕ) → Written
write frames pair log2 payload buffer =
    next_write frames pair read_a (read_b log2) 0x3837_3635_3433_3231 0x4443_4241 (replicate payload 6) (replicate buffer 7)

-- A page whose winner is in A, with a generation, a number and a checksum of unlike bytes.
abbrev pub won : List ℕ
won = volume ++ pair (valid 0x5857_5655_5453_5251 0x6867_6665_6463_6261 0x7473_7271 20) blank

abbrev pub to_b : Written
to_b = write won 1 9 3 512

-- The first write of a pair alone.
abbrev pub to_a : Written
to_a = write (pair blank blank) 0 9 3 1024

abbrev pub some_bytes : (start count : ℕ) → List ℕ → List ℕ
some_bytes start count s = take count (drop start s)

-- What is answered of B, with this checksum.
abbrev pub answer_b : ℕ → Result (Option (Plan × ℕ)) PlanError
answer_b crc =
    Ok
    (Some (
      record {
        index = SlotIndex.B;
        generation = 0x5857_5655_5453_5252;
        prev_header_crc32c = 0x7473_7271;
        meta_seq = 0x6867_6665_6463_6262;
      },
      crc,
    ))

abbrev pub answer_a : Result (Option (Plan × ℕ)) PlanError
answer_a = Ok (Some (record { index = SlotIndex.A; generation = 1; prev_header_crc32c = 0; meta_seq = 1 }, 0x435F_0DF9))

-- The buffer of 512 bytes is kept.
abbrev pub kept : Result (Option (Plan × ℕ)) PlanError → Written
kept answer = (replicate 512 7, answer)

pub record WriteRows : Type 0 where
  -- The slot's bytes by their offsets: the header in format 2, the payload, and zeros.
  pub at_0 : some_bytes 0 8 to_b.0 ≡ 0x53 ∷ 0x49 ∷ 0x4F ∷ 0x53 ∷ 0x4C ∷ 0x4F ∷ 0x54 ∷ 0 ∷ []
  pub at_8_checksum : some_bytes 8 4 to_b.0 ≡ 0x53 ∷ 0x23 ∷ 0x3D ∷ 0x2E ∷ []
  pub at_12_length : some_bytes 12 2 to_b.0 ≡ 128 ∷ 0 ∷ []
  pub at_14_format : some_bytes 14 2 to_b.0 ≡ 2 ∷ 0 ∷ []
  pub at_16 : some_bytes 16 8 to_b.0 ≡ replicate 8 0
  pub at_24_flags : some_bytes 24 4 to_b.0 ≡ 0x41 ∷ 0x42 ∷ 0x43 ∷ 0x44 ∷ []
  pub at_28_payload : some_bytes 28 4 to_b.0 ≡ 0xB7 ∷ 0xE3 ∷ 0xBB ∷ 0xFE ∷ []
  pub at_32_volume : some_bytes 32 16 to_b.0 ≡ (read_b 9).volume_uuid
  pub at_48_object : some_bytes 48 8 to_b.0 ≡ 0x11 ∷ 0x12 ∷ 0x13 ∷ 0x14 ∷ 0x15 ∷ 0x16 ∷ 0x17 ∷ 0x18 ∷ []
  pub at_56_generation : some_bytes 56 8 to_b.0 ≡ 0x52 ∷ 0x52 ∷ 0x53 ∷ 0x54 ∷ 0x55 ∷ 0x56 ∷ 0x57 ∷ 0x58 ∷ []
  pub at_64_offset : some_bytes 64 8 to_b.0 ≡ 0x21 ∷ 0x22 ∷ 0x23 ∷ 0x24 ∷ 0x25 ∷ 0x26 ∷ 0x27 ∷ 0x28 ∷ []
  pub at_72_length : some_bytes 72 4 to_b.0 ≡ 3 ∷ 0 ∷ 0 ∷ 0 ∷ []
  pub at_76_index : some_bytes 76 2 to_b.0 ≡ 1 ∷ 2 ∷ []
  pub at_78_size : some_bytes 78 2 to_b.0 ≡ 9 ∷ 0 ∷ []
  pub at_80_previous : some_bytes 80 8 to_b.0 ≡ 0x71 ∷ 0x72 ∷ 0x73 ∷ 0x74 ∷ 0 ∷ 0 ∷ 0 ∷ 0 ∷ []
  pub at_88_owner : some_bytes 88 8 to_b.0 ≡ 0x31 ∷ 0x32 ∷ 0x33 ∷ 0x34 ∷ 0x35 ∷ 0x36 ∷ 0x37 ∷ 0x38 ∷ []
  pub at_96_number : some_bytes 96 8 to_b.0 ≡ 0x62 ∷ 0x62 ∷ 0x63 ∷ 0x64 ∷ 0x65 ∷ 0x66 ∷ 0x67 ∷ 0x68 ∷ []
  pub at_104 : some_bytes 104 24 to_b.0 ≡ replicate 24 0
  pub at_128_payload : some_bytes 128 3 to_b.0 ≡ 6 ∷ 6 ∷ 6 ∷ []
  pub at_131 : drop 131 to_b.0 ≡ replicate 381 0
  pub answered : to_b.1 ≡ answer_b 0x2E3D_2353
  -- A slot that is in A and has another size.
  pub a_volume : some_bytes 32 16 to_a.0 ≡ read_a.volume_uuid
  pub a_object : some_bytes 48 8 to_a.0 ≡ 1 ∷ 2 ∷ 3 ∷ 4 ∷ 5 ∷ 6 ∷ 7 ∷ 8 ∷ []
  pub a_generation : some_bytes 56 8 to_a.0 ≡ 1 ∷ 0 ∷ 0 ∷ 0 ∷ 0 ∷ 0 ∷ 0 ∷ 0 ∷ []
  pub a_offset : some_bytes 64 8 to_a.0 ≡ 0x91 ∷ 0x92 ∷ 0x93 ∷ 0x94 ∷ 0x95 ∷ 0x96 ∷ 0x97 ∷ 0x98 ∷ []
  pub a_index_and_size : some_bytes 76 4 to_a.0 ≡ 0 ∷ 2 ∷ 10 ∷ 0 ∷ []
  pub a_previous : some_bytes 80 4 to_a.0 ≡ 0 ∷ 0 ∷ 0 ∷ 0 ∷ []
  pub a_number : some_bytes 96 8 to_a.0 ≡ 1 ∷ 0 ∷ 0 ∷ 0 ∷ 0 ∷ 0 ∷ 0 ∷ 0 ∷ []
  pub a_length : length to_a.0 ≡ 1024
  pub a_answered : to_a.1 ≡ answer_a
  -- The payload and the sizes: none, the largest, and one byte more.
  pub no_payload : (write won 1 9 0 512).1 ≡ answer_b 0x7E3F_0905
  pub payload_384 : (write won 1 9 384 512).1 ≡ answer_b 0xF2E6_CA50
  pub payload_385 : write won 1 9 385 512 ≡ kept (Err (PlanError.Encode EncodeError.PayloadTooLarge))
  pub room_511 : write won 1 9 385 511 ≡ (replicate 511 7, Err (PlanError.Encode EncodeError.BufferLength))
  pub room_513 : write won 1 9 385 513 ≡ (replicate 513 7, Err (PlanError.Encode EncodeError.BufferLength))
  pub log2_8 : write won 1 8 385 511 ≡ (replicate 511 7, Err (PlanError.Encode EncodeError.SlotSize))
  pub log2_16 : (write won 1 16 3 65536).1 ≡ answer_b 0xF566_C2BB
  pub log2_17 : (write won 1 17 3 131072).1 ≡ Err (PlanError.Encode EncodeError.SlotSize)
  -- Where there is no plan and where the plan is refused the buffer is kept, whatever else would be.
  pub fork : write (pair (valid 3 6 30 20) (valid 3 5 20 10)) 0 8 385 512 ≡ kept (Ok None)
  pub lost : write (pair (status 7) (status 7)) 0 8 385 512 ≡ kept (Ok None)
  pub refused_5 : write (pair (status 5) (valid 3 6 30 20)) 0 8 385 512 ≡ kept (Ok None)
  pub no_pair : write won 2 8 385 512 ≡ kept (Err PlanError.NoPair)
  pub no_generation : write (volume ++ pair (valid most 6 30 20) blank) 1 8 385 512 ≡ kept (Err PlanError.UsedUp)
  pub no_number : write (volume ++ pair (valid 3 most 30 20) blank) 1 8 385 512 ≡ kept (Err PlanError.UsedUp)
  pub no_frames : write [] 9 8 385 512 ≡ kept (refused JudgeError.Empty)
  pub of_113 : write (full ++ 0 ∷ []) 112 8 385 512 ≡ kept (refused JudgeError.TooManyPairs)
  pub out_of_range : map (λ s. write s 9 8 385 512) bad_frames ≡ replicate 5 (kept (refused JudgeError.OutOfRange))

-- ---- the numbers of what is refused

abbrev pub errors : List PlanError
errors =
    PlanError.Frames JudgeError.Empty
    ∷ PlanError.Frames JudgeError.OutputLength
    ∷ PlanError.Frames JudgeError.OutOfRange
    ∷ PlanError.Frames JudgeError.TooManyPairs
    ∷ PlanError.NoPair
    ∷ PlanError.NoOperator
    ∷ PlanError.UsedUp
    ∷ PlanError.Encode EncodeError.SlotSize
    ∷ PlanError.Encode EncodeError.BufferLength
    ∷ PlanError.Encode EncodeError.PayloadTooLarge
    ∷ PlanError.Encode EncodeError.ZeroGeneration
    ∷ PlanError.Encode EncodeError.Format
    ∷ []

pub record ErrorRows : Type 0 where
  pub numbers : map error_number errors ≡ 8 ∷ 9 ∷ 10 ∷ 45 ∷ 8 ∷ 10 ∷ 48 ∷ 1 ∷ 2 ∷ 3 ∷ 4 ∷ 5 ∷ []
