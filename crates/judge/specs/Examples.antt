-- Examples of the store verdict over frames (docs/FORMAT.md, "The store verdict" and "Refusals").
use Rattle.std.specs.Prelude.{◌≡◌, Bool, true, false, List, [], ◌∷◌, ◌++◌, ℕ, ◌*◌, replicate, Option, Some, None, Ok}
use Rattle.std.specs.Option.{option_map}
use Rattle.std.specs.Result.{result_ok}
use Rattle.slot.specs.declared.slot.SlotIndex.{SlotIndex}
use Rattle.judge.specs.Values.{error_number}
use Rattle.judge.specs.declared.verdict.Judgement.{Judgement}
use Rattle.judge.specs.Frames.{verdict_width, pair_count, frames_error, judge_frames, frames_left}

-- The part of a Valid slot, its numbers by their lowest bytes and each checksum by one byte four times.
abbrev pub valid_part : (generation number own previous owner : ℕ) → List ℕ
valid_part generation number own previous owner =
    12 ∷ 0 ∷ generation ∷ replicate 7 0 ++ number ∷ replicate 7 0 ++ replicate 4 own ++ replicate 4 previous ++ owner ∷ replicate 7 0

-- A pair's frame, of an operator.
abbrev pub frame : (operator : ℕ) → List ℕ → List ℕ → List ℕ
frame operator a b = a ++ (b ++ operator ∷ [])

-- The volume record: A Valid of generation 1 with number 1, B Blank.
abbrev pub volume_frame : (owner : ℕ) → List ℕ
volume_frame owner = frame 0 (valid_part 1 1 0x11 0 owner) (2 ∷ replicate 33 0)

-- A page: A Valid of generation 2 with number 2, B with a bad header checksum.
abbrev pub page_frame : (owner other : ℕ) → List ℕ
page_frame owner other =
    frame 0 (valid_part 2 2 0x22 0x33 owner) (4 ∷ 1 ∷ replicate 16 0 ++ replicate 4 0x44 ++ replicate 4 0 ++ other ∷ replicate 7 0)

-- A page whose B cannot have been left by a power cut.
abbrev pub damaged_frame : List ℕ
damaged_frame = frame 0 (valid_part 2 2 0x22 0x33 0) (7 ∷ replicate 33 0)

-- A page: A Valid of generation 2, B Valid of generation 1.
abbrev pub older_frame : (owner older : ℕ) → List ℕ
older_frame owner older = frame 0 (valid_part 2 3 0x22 0x33 owner) (valid_part 1 2 0x33 0 older)

-- A page of an operator: A Valid of generation 2 with number 2, B of generation 3 with a bad payload and a number.
abbrev pub torn_frame : (operator number : ℕ) → List ℕ
torn_frame operator number =
    frame operator (valid_part 2 2 0x22 0x33 0)
    (11 ∷ 2 ∷ 3 ∷ replicate 7 0 ++ number ∷ replicate 7 0 ++ replicate 4 0x44 ++ replicate 4 0x22 ++ replicate 8 0)

-- A page of an operator: A Valid of generation 2 with a number, B Valid of generation 1 with number 1.
abbrev pub whole_frame : (operator number : ℕ) → List ℕ
whole_frame operator number = frame operator (valid_part 2 number 0x22 0x33 0) (valid_part 1 1 0x33 0 0)

-- A pair that is Lost, whatever stands in its fields.
abbrev pub lost_frame : List ℕ
lost_frame = frame 0 (0 ∷ 0 ∷ replicate 32 7) (0 ∷ 0 ∷ replicate 32 8)

-- Whether two winners' owner generations differ, without a clean mark.
abbrev pub owners_differ : List ℕ → Option Bool
owners_differ s = option_map (λ (j : Judgement). j.owners_differ) (result_ok (judge_frames s 0 (pair_count s * verdict_width)))

-- The slot that is healed, without a clean mark.
abbrev pub healed : List ℕ → Option (Option (ℕ × SlotIndex))
healed s = option_map (λ (j : Judgement). j.heal) (result_ok (judge_frames s 0 (pair_count s * verdict_width)))

-- The number of the error of frames, a mark and room for the verdicts.
abbrev pub refused_with : List ℕ → ℕ → ℕ → Option ℕ
refused_with s clean room = option_map error_number (frames_error s clean room)

pub record JudgeExamples : Type 0 where
  -- The page's slot B is in flight and healed; under a clean mark it is Damage, the page Unconfirmed.
  pub answer : judge_frames (volume_frame 5 ++ page_frame 5 6) 0 8
      ≡ Ok (record { heal = Some (1, SlotIndex.B); writable = true; clean = false; refused = false; owners_differ = false })
  pub verdicts : frames_left (volume_frame 5 ++ page_frame 5 6) 0 (replicate 8 0) ≡ 0 ∷ 1 ∷ 0 ∷ 1 ∷ 0 ∷ 1 ∷ 0 ∷ 3 ∷ []
  pub marked_answer : judge_frames (volume_frame 5 ++ page_frame 5 6) 1 8
      ≡ Ok (record { heal = None; writable = true; clean = true; refused = false; owners_differ = false })
  pub marked_verdicts : frames_left (volume_frame 5 ++ page_frame 5 6) 1 (replicate 8 0) ≡ 0 ∷ 1 ∷ 0 ∷ 1 ∷ 1 ∷ 1 ∷ 0 ∷ 4 ∷ []
  -- Beside damage a page is Unconfirmed.
  pub damaged_verdicts : frames_left (volume_frame 0 ++ damaged_frame) 0 (replicate 8 0) ≡ 0 ∷ 1 ∷ 0 ∷ 1 ∷ 1 ∷ 1 ∷ 0 ∷ 4 ∷ []
  -- Two winners' owner generations, any two; not those of an older slot and of one in flight.
  pub one_owner : owners_differ (volume_frame 5 ++ older_frame 5 6 ++ page_frame 5 6) ≡ Some false
  pub another_page : owners_differ (volume_frame 5 ++ older_frame 5 5 ++ page_frame 6 5) ≡ Some true
  pub without_volume : owners_differ (lost_frame ++ older_frame 5 5 ++ older_frame 6 6) ≡ Some true
  pub one_winner : owners_differ (lost_frame ++ older_frame 5 6 ++ lost_frame) ≡ Some false
  -- A torn payload of number 3 is held to its operator's slots: a later write of another operator does not count, one of its own does.
  pub by_operator : healed (volume_frame 0 ++ torn_frame 1 3 ++ whole_frame 2 4) ≡ Some (Some (1, SlotIndex.B))
  pub by_its_own : healed (volume_frame 0 ++ torn_frame 1 3 ++ whole_frame 1 4) ≡ Some None
  pub by_the_volume : healed (volume_frame 0 ++ torn_frame 0 3 ++ whole_frame 0 4) ≡ Some None
  -- One of another operator that does not qualify is damage, beside which no page is healed; and of two that qualify both are damage.
  pub beside_damage : healed (volume_frame 0 ++ torn_frame 1 3 ++ torn_frame 2 4) ≡ Some None
  pub two_in_flight : healed (volume_frame 0 ++ torn_frame 1 3 ++ torn_frame 2 3) ≡ Some None
  -- Errors in their order: no pair; more bytes than 112 frames have; part of a frame; no room for the verdicts; a mark, a code, a facts
  -- byte out of range. Then none.
  pub no_pair : refused_with [] 2 1 ≡ Some 8
  pub one_byte_more : refused_with (replicate 7729 0xff) 2 1 ≡ Some 45
  pub one_pair_more : refused_with (replicate 7797 0) 0 452 ≡ Some 45
  pub one_byte_fewer : refused_with (replicate 7727 0xff) 2 1 ≡ Some 10
  pub most_pairs : refused_with (replicate 7728 0) 0 448 ≡ None
  pub not_frames : refused_with (replicate 68 0xff) 2 1 ≡ Some 10
  pub room_first : refused_with (replicate 69 0xff) 2 1 ≡ Some 9
  pub mark : refused_with (replicate 69 0) 2 4 ≡ Some 10
  pub code : refused_with (13 ∷ replicate 68 0) 0 4 ≡ Some 10
  pub facts : refused_with (0 ∷ 3 ∷ replicate 67 0) 0 4 ≡ Some 10
  -- An operator above 15, and another than 0 at pair 0.
  pub last_operator : refused_with (replicate 137 0 ++ 15 ∷ []) 0 8 ≡ None
  pub no_operator : refused_with (replicate 137 0 ++ 16 ∷ []) 0 8 ≡ Some 10
  pub volume_operator : refused_with (replicate 68 0 ++ 1 ∷ []) 0 4 ≡ Some 10
  pub room_before_operator : refused_with (replicate 137 0 ++ 16 ∷ []) 0 7 ≡ Some 9
  pub none : refused_with (replicate 69 0) 1 4 ≡ None
