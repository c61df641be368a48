-- The rules of the text of `verdicts` by rows, on both sides of each bound (docs/FORMAT.md, "The program verdicts"). Texts are spelled in
-- their digits; what is printed is written out.
use Rattle.std.specs.Prelude.{◌≡◌, Bool, true, false, List, [], ◌∷◌, ◌++◌, ℕ, ◌-◌, ◌+◌, ◌^◌, length, take, drop, replicate, map, codes, Option, Some, None, Result, Ok, Err}
use Rattle.std.specs.List.{flat_map}
use Rattle.std.specs.declared.io.Error.{Error}
use Rattle.std.specs.declared.io.ErrorKind.{ErrorKind}
use Rattle.std.specs.IoError.{error_kind}
use Rattle.verdict_text.specs.declared.answer.AnswerError.{AnswerError}
use Rattle.verdict_text.specs.declared.stream.Calls.{Calls}
use Rattle.verdict_text.specs.Calls.{no_calls, noted, Failed, WriteFailed}
use Rattle.verdict_text.specs.Write.{refusal_line, judgement_text, over, written, written_over}
use Rattle.verdict_text.specs.Answer.{response_text, answer_text, response_length, response_over, Left, Written, Reported}

-- ---- texts

abbrev pub ended : List ℕ → List ℕ
ended s = s ++ 0x0a ∷ []

-- The 68 digits of a slot's part that begins so; the others are 0.
abbrev pub part : List ℕ → List ℕ
part digits = digits ++ replicate (68 - length digits) 0x30

-- The 138 digits of a frame, by those that its slots begin with and those of its operator.
abbrev pub frame : List ℕ → List ℕ → List ℕ → List ℕ
frame a b operator = part a ++ part b ++ operator

-- What is printed for these lines under the mark 00.
abbrev pub unset : List (List ℕ) → List ℕ
unset lines = answer_text (flat_map ended (codes "00" ∷ lines))

abbrev pub blank : List ℕ
blank = codes "02"

-- Valid slots of generations 1 to 3, whose numbers are 1 to 3.
abbrev pub first : List ℕ
first = codes "0c020100000000000000010000000000000011111111"

abbrev pub second : List ℕ
second = codes "0c02020000000000000002000000000000002222222211111111"

abbrev pub third : List ℕ
third = codes "0c02030000000000000003000000000000003333333322222222"

-- The third write, torn in its payload and in its header.
abbrev pub torn : List ℕ
torn = codes "0b02030000000000000003000000000000004444444422222222"

abbrev pub torn_header : List ℕ
torn_header = codes "04010000000000000000000000000000000044444444"

-- A pair after its first write; the same of two Blank slots, and of the second write beside one that was cut.
abbrev pub sound : List ℕ
sound = frame first blank (codes "00")

abbrev pub blanks : List ℕ
blanks = frame blank blank (codes "00")

abbrev pub cut : List ℕ
cut = frame second torn (codes "00")

abbrev pub bad : List ℕ
bad = codes "R10\n"

-- ---- the mark

-- What is printed for a sound pair under the mark that a line has.
abbrev pub under : List ℕ → List ℕ
under mark = answer_text (ended mark ++ ended sound)

pub record MarkRows : Type 0 where
  pub mark_0 : under (codes "00") ≡ codes "00010001\n000000000001000000\n"
  pub mark_1 : under (codes "01") ≡ codes "00010001\n000000000001010000\n"
  pub values : map under (codes "02" ∷ codes "10" ∷ codes "11" ∷ codes "0/" ∷ codes "/0" ∷ codes "ff" ∷ []) ≡ replicate 6 bad
  pub characters : map under (codes "0 " ∷ codes " 0" ∷ codes "0o" ∷ codes "O1" ∷ codes "\r0" ∷ []) ≡ replicate 5 bad
  pub lengths : map under (codes "" ∷ codes "0" ∷ codes "1" ∷ codes "000" ∷ codes "001" ∷ codes "0000" ∷ []) ≡ replicate 6 bad
  pub around : map under (codes "00\r" ∷ codes "00 " ∷ codes " 00" ∷ codes "\n00" ∷ codes "00\n" ∷ []) ≡ replicate 5 bad
  pub twice : under (codes "00\n01") ≡ bad
  pub none : answer_text (ended sound) ≡ bad

-- ---- the lines

-- What is printed for a line with this digit in the place of one that no verdict depends on, and of the first one of a frame.
abbrev pub with_digit : ℕ → List ℕ
with_digit c = unset (sound ∷ (take 60 blanks ++ c ∷ drop 61 blanks) ∷ [])

abbrev pub with_first : ℕ → List ℕ
with_first c = unset (sound ∷ (c ∷ drop 1 blanks) ∷ [])

-- A second line of this text.
abbrev pub with_line : List ℕ → List ℕ
with_line line = unset (sound ∷ line ∷ [])

-- A sound pair before one of two Blank slots.
abbrev pub fine : List ℕ
fine = codes "00010001\n02000404\n000000000001000000\n"

pub record LineRows : Type 0 where
  pub digits : map with_digit (codes "/09:`afg") ≡ bad ∷ fine ∷ fine ∷ bad ∷ bad ∷ fine ∷ fine ∷ bad ∷ []
  pub capitals : map with_digit (codes "@AFG") ≡ replicate 4 bad
  pub others : map with_digit (codes " \r\n\txR" ++ 0 ∷ 128 ∷ 176 ∷ 255 ∷ []) ≡ replicate 10 bad
  pub first_digits : map with_first (codes "/0:Ag ") ≡ bad ∷ fine ∷ replicate 4 bad
  pub short : with_line (drop 1 blanks) ≡ bad
  pub long : with_line (blanks ++ codes "0") ≡ bad
  pub by_a_byte : map with_line (drop 2 blanks ∷ (blanks ++ codes "00") ∷ []) ≡ replicate 2 bad
  pub whole : with_line blanks ≡ fine
  pub empty : with_line [] ≡ bad
  pub joined : with_line (blanks ++ blanks) ≡ bad
  pub halves : unset (sound ∷ take 68 blanks ∷ drop 68 blanks ∷ []) ≡ bad
  pub around : map with_line ((codes " " ++ blanks) ∷ (blanks ++ codes " ") ∷ (blanks ++ codes "\r") ∷ []) ≡ replicate 3 bad
  pub carriage_returns : answer_text (codes "00\r\n" ++ sound ++ codes "\r\n") ≡ bad
  pub before : unset ([] ∷ sound ∷ []) ≡ bad
  pub between : unset (sound ∷ [] ∷ blanks ∷ []) ≡ bad
  pub open_line : answer_text (codes "00\n" ++ sound) ≡ bad
  pub open_after_others : answer_text (codes "00\n" ++ ended sound ++ blanks) ≡ bad
  pub open_mark : answer_text (codes "00") ≡ bad
  pub ended_alone : answer_text (codes "\n") ≡ bad
  pub no_text : answer_text [] ≡ bad
  pub high_digit_first : map (λ a. unset (frame a blank (codes "00") ∷ [])) (codes "0c" ∷ codes "c0" ∷ [])
      ≡ codes "01010004\n000000000001000000\n" ∷ bad ∷ []

-- ---- the range of what a line holds

-- What is printed for a page whose slot A begins so, whose slot B begins so, and whose operator is that.
abbrev pub with_a : List ℕ → List ℕ
with_a a = unset (sound ∷ frame a blank (codes "00") ∷ [])

abbrev pub with_b : List ℕ → List ℕ
with_b b = unset (sound ∷ frame blank b (codes "00") ∷ [])

abbrev pub with_operator : List ℕ → List ℕ
with_operator o = unset (sound ∷ frame blank blank o ∷ [])

-- The volume record's, the same.
abbrev pub volume_of : List ℕ → List ℕ
volume_of o = unset (frame first blank o ∷ [])

-- A page of a later version.
abbrev pub refused : List ℕ
refused = codes "00010001\n03000404\n000000000000000100\n"

pub record RangeRows : Type 0 where
  pub statuses_a : map with_a (codes "00" ∷ codes "01" ∷ codes "02" ∷ codes "03" ∷ codes "04" ∷ codes "05" ∷ codes "06"
      ∷ codes "07" ∷ codes "08" ∷ codes "09" ∷ codes "0a" ∷ codes "0b" ∷ [])
      ≡ fine ∷ fine ∷ fine ∷ fine ∷ fine ∷ refused ∷ refused ∷ fine ∷ fine ∷ fine ∷ fine ∷ fine ∷ []
  pub statuses_b : map with_b (codes "00" ∷ codes "04" ∷ codes "05" ∷ codes "06" ∷ codes "07" ∷ codes "0b" ∷ [])
      ≡ fine ∷ fine ∷ refused ∷ refused ∷ fine ∷ fine ∷ []
  pub valid_a : with_a (codes "0c") ≡ codes "00010001\n01010004\n000000000001000000\n"
  pub valid_b : with_b (codes "0c") ≡ codes "00010001\n01020400\n000000000001000000\n"
  pub above_a : map with_a (codes "0d" ∷ codes "10" ∷ codes "1c" ∷ codes "80" ∷ codes "ff" ∷ []) ≡ replicate 5 bad
  pub above_b : map with_b (codes "0d" ∷ codes "10" ∷ codes "1c" ∷ codes "80" ∷ codes "ff" ∷ []) ≡ replicate 5 bad
  pub facts_a : map with_a (codes "0200" ∷ codes "0201" ∷ codes "0202" ∷ codes "0203" ∷ codes "0210" ∷ codes "02ff" ∷ [])
      ≡ fine ∷ fine ∷ fine ∷ bad ∷ bad ∷ bad ∷ []
  pub facts_b : map with_b (codes "0200" ∷ codes "0201" ∷ codes "0202" ∷ codes "0203" ∷ codes "0210" ∷ codes "02ff" ∷ [])
      ≡ fine ∷ fine ∷ fine ∷ bad ∷ bad ∷ bad ∷ []
  pub facts_of_valid : map with_a (codes "0c02" ∷ codes "0c03" ∷ []) ≡ codes "00010001\n01010004\n000000000001000000\n" ∷ bad ∷ []
  pub operators : map with_operator (codes "00" ∷ codes "01" ∷ codes "0e" ∷ codes "0f" ∷ codes "10" ∷ codes "f0" ∷ codes "ff" ∷ [])
      ≡ fine ∷ fine ∷ fine ∷ fine ∷ bad ∷ bad ∷ bad ∷ []
  pub volume_operators : map volume_of (codes "00" ∷ codes "01" ∷ codes "0f" ∷ codes "10" ∷ [])
      ≡ codes "00010001\n000000000001000000\n" ∷ replicate 3 bad
  pub third_pair : unset (sound ∷ blanks ∷ frame blank blank (codes "0f") ∷ []) ≡ codes "00010001\n02000404\n02000404\n000000000001000000\n"
  pub third_bad : unset (sound ∷ blanks ∷ frame blank blank (codes "10") ∷ []) ≡ bad
  pub volume_bad : unset (frame blank (codes "0d") (codes "00") ∷ []) ≡ bad

-- ---- the order of refusals

-- So many pairs of Blank slots, and then these lines.
abbrev pub after_blanks : ℕ → List (List ℕ) → List ℕ
after_blanks n lines = unset (replicate n blanks ++ lines)

pub record OrderRows : Type 0 where
  pub no_frame : map answer_text (codes "00\n" ∷ codes "01\n" ∷ []) ≡ replicate 2 (codes "R08\n")
  pub wrong_mark_alone : map answer_text (codes "02\n" ∷ codes "0\n" ∷ []) ≡ replicate 2 bad
  pub one_pair : after_blanks 1 [] ≡ codes "02000404\n000000000000000000\n"
  pub most : after_blanks 112 [] ≡ flat_map (λ (l : List ℕ). l) (replicate 112 (codes "02000404\n")) ++ codes "000000000000000000\n"
  pub too_many : after_blanks 113 [] ≡ codes "R45\n"
  pub more_too_many : after_blanks 114 [] ≡ codes "R45\n"
  pub too_many_and_bad : after_blanks 112 (frame blank (codes "0d") (codes "00") ∷ []) ≡ bad
  pub too_many_and_no_operator : after_blanks 112 (frame blank blank (codes "10") ∷ []) ≡ bad
  pub too_many_and_last_operator : after_blanks 112 (frame blank blank (codes "0f") ∷ []) ≡ codes "R45\n"
  pub too_many_and_open : answer_text (codes "00\n" ++ flat_map ended (replicate 112 blanks) ++ blanks) ≡ bad
  pub too_many_and_empty : after_blanks 113 ([] ∷ []) ≡ bad
  pub too_many_and_later_bad : after_blanks 114 (codes "0g" ∷ []) ≡ bad
  pub too_many_and_first_bad : unset (frame blank blank (codes "01") ∷ replicate 112 blanks) ≡ bad
  pub too_many_and_wrong_mark : answer_text (codes "02\n" ++ flat_map ended (replicate 113 blanks)) ≡ bad
  pub bad_before_the_judge : unset (frame first blank (codes "00") ∷ frame (codes "0c03") blank (codes "00") ∷ []) ≡ bad

-- ---- the length of a text

-- So many lines of a pair of Blank slots after the mark.
abbrev pub lines_of : ℕ → List ℕ
lines_of n = codes "00\n" ++ flat_map ended (replicate n blanks)

pub record LengthRows : Type 0 where
  pub longest : answer_text (replicate 65536 0x30) ≡ bad
  pub longer : answer_text (replicate 65537 0x30) ≡ codes "R11\n"
  pub longer_lines : answer_text (codes "00\n" ++ replicate 65534 0x0a) ≡ codes "R11\n"
  pub longest_lines : answer_text (codes "00\n" ++ replicate 65533 0x0a) ≡ bad
  pub more : map (λ text. response_text text true) ([] ∷ codes "00\n" ∷ codes "02\n" ∷ (codes "00\n" ++ ended sound) ∷ [])
      ≡ replicate 4 (codes "R11\n")
  pub longer_and_more : response_text (replicate 65536 0x30) true ≡ codes "R11\n"

-- ---- what is printed

pub record PrintedRows : Type 0 where
  pub store : answer_text
      (codes "00\n" ++ codes "0c0201000000000000000100000000000000111111110000000000000000000000000200000000000000000000000000000000000000000000000000000000000000000000\n"
      ++ codes "0c0202000000000000000200000000000000222222223333333300000000000000000b02030000000000000003000000000000004444444422222222000000000000000000\n")
      ≡ codes "00010001\n00010003\n020100000001000000\n"
  pub heal_b : unset (sound ∷ cut ∷ []) ≡ codes "00010001\n00010003\n020100000001000000\n"
  pub heal_a : unset (sound ∷ frame torn second (codes "00") ∷ []) ≡ codes "00010001\n00020300\n010100000001000000\n"
  pub heal_volume : unset (cut ∷ []) ≡ codes "00010003\n020000000001000000\n"
  pub heal_volume_a : unset (frame torn second (codes "00") ∷ sound ∷ []) ≡ codes "00020300\n00010001\n010000000001000000\n"
  pub heal_pair_10 : unset (replicate 10 sound ++ cut ∷ [])
      ≡ flat_map ended (replicate 10 (codes "00010001")) ++ codes "00010003\n020a00000001000000\n"
  pub heal_pair_111 : unset (replicate 111 sound ++ cut ∷ [])
      ≡ flat_map ended (replicate 111 (codes "00010001")) ++ codes "00010003\n026f00000001000000\n"
  pub header_torn : unset (sound ∷ frame second torn_header (codes "00") ∷ []) ≡ codes "00010001\n00010003\n020100000001000000\n"
  pub newer_a : unset (frame second first (codes "00") ∷ []) ≡ codes "00010001\n000000000001000000\n"
  pub newer_b : unset (frame second third (codes "00") ∷ []) ≡ codes "00020100\n000000000001000000\n"
  pub older_damaged : unset (frame third (codes "0b02010000000000000001000000000000001111111100000000") (codes "00") ∷ [])
      ≡ codes "00010002\n000000000001000000\n"
  pub damage : unset (frame second (codes "01") (codes "00") ∷ []) ≡ codes "01010004\n000000000001000000\n"
  pub lost : unset (sound ∷ blanks ∷ []) ≡ fine
  pub no_volume : unset (blanks ∷ []) ≡ codes "02000404\n000000000000000000\n"
  pub later_version : unset (sound ∷ frame (codes "05") blank (codes "00") ∷ []) ≡ refused
  pub later_version_closed : answer_text (codes "01\n" ++ ended sound ++ ended (frame (codes "06") blank (codes "00")))
      ≡ codes "00010001\n03000404\n000000000000010100\n"
  pub closed : answer_text (codes "01\n" ++ ended sound ++ ended cut) ≡ codes "00010001\n01010004\n000000000001010000\n"
  pub two_owners : unset (frame (first ++ codes "000000000500000000000000") blank (codes "00") ∷ frame (second ++ codes "0600000000000000") (torn ++ codes "0500000000000000") (codes "00") ∷ [])
      ≡ codes "00010001\n00010003\n020100000001000001\n"
  pub one_owner : unset (frame (first ++ codes "000000000500000000000000") blank (codes "00") ∷ frame (second ++ codes "0500000000000000") (torn ++ codes "0600000000000000") (codes "00") ∷ [])
      ≡ codes "00010001\n00010003\n020100000001000000\n"
  pub two_owners_refused : unset (frame (first ++ codes "000000000500000000000000") blank (codes "00") ∷ frame second first (codes "00") ∷ frame (codes "05") blank (codes "00") ∷ [])
      ≡ codes "00010001\n00010001\n03000404\n000000000000000101\n"
  pub two_operators : unset (frame (codes "0c020100000000000000090000000000000011111111") blank (codes "00") ∷ frame second torn (codes "01") ∷ [])
      ≡ codes "00010001\n00010003\n020100000001000000\n"
  pub one_operator : unset (frame (codes "0c020100000000000000090000000000000011111111") blank (codes "00") ∷ cut ∷ [])
      ≡ codes "00010001\n01010004\n000000000001000000\n"

-- ---- what becomes of the buffer

abbrev pub sevens : ℕ → List ℕ
sevens n = replicate n 7

-- What is told, and what becomes of so many sevens: by the answer to a text, and by one text or line alone.
abbrev pub answered_in : List ℕ → ℕ → Option ℕ × List ℕ
answered_in text n = (response_length text false (sevens n), response_over text false (sevens n))

abbrev pub put_in : List ℕ → ℕ → Option ℕ × List ℕ
put_in text n = (written text (sevens n), written_over text (sevens n))

-- The text of a judgement that heals nothing, and that of a store of 112 Blank pairs, the longest answer.
abbrev pub judged_as : List ℕ → List ℕ
judged_as bytes = judgement_text bytes (record { heal = None; writable = true; clean = false; refused = false; owners_differ = false })

abbrev pub most_blanks : List ℕ
most_blanks = codes "00\n" ++ flat_map ended (replicate 112 blanks)

abbrev pub longest_answer : List ℕ
longest_answer = flat_map ended (replicate 112 (codes "02000404")) ++ codes "000000000000000000\n"

pub record PlaceRows : Type 0 where
  pub rest_kept : over (1 ∷ 2 ∷ []) (7 ∷ 8 ∷ 9 ∷ []) ≡ 1 ∷ 2 ∷ 9 ∷ []
  pub nothing_over : over [] (7 ∷ 8 ∷ []) ≡ 7 ∷ 8 ∷ []
  pub all_over : over (1 ∷ 2 ∷ []) (7 ∷ 8 ∷ []) ≡ 1 ∷ 2 ∷ []
  pub room : answered_in (codes "00\n") 1027 ≡ (Some 4, codes "R08\n" ++ sevens 1023)
  pub more_room : answered_in (codes "00\n") 1028 ≡ (Some 4, codes "R08\n" ++ sevens 1024)
  pub no_room : map (answered_in (codes "00\n")) (1026 ∷ 4 ∷ 0 ∷ []) ≡ (None, sevens 1026) ∷ (None, sevens 4) ∷ (None, []) ∷ []
  pub longest : answered_in most_blanks 1027 ≡ (Some 1027, longest_answer)
  pub no_room_for_longest : answered_in most_blanks 1026 ≡ (None, sevens 1026)
  pub refusals : map (λ n. put_in (refusal_line n) 4) (0 ∷ 45 ∷ 99 ∷ 100 ∷ 255 ∷ [])
      ≡ map (λ (l : List ℕ). (Some 4, l)) (codes "R00\n" ∷ codes "R45\n" ∷ codes "R99\n" ∷ codes "R:0\n" ∷ codes "RI5\n" ∷ [])
  pub rest_of_refusal : put_in (refusal_line 45) 5 ≡ (Some 4, codes "R45\n" ++ 7 ∷ [])
  pub no_refusal : map (put_in (refusal_line 45)) (3 ∷ 0 ∷ []) ≡ (None, sevens 3) ∷ (None, []) ∷ []
  pub judgement : put_in (judged_as (0 ∷ 1 ∷ 0 ∷ 1 ∷ [])) 28 ≡ (Some 28, codes "00010001\n000000000001000000\n")
  pub rest_of_judgement : put_in (judged_as (0 ∷ 1 ∷ 0 ∷ 1 ∷ [])) 29 ≡ (Some 28, codes "00010001\n000000000001000000\n" ++ 7 ∷ [])
  pub no_judgement : map (put_in (judged_as (0 ∷ 1 ∷ 0 ∷ 1 ∷ []))) (27 ∷ 19 ∷ 0 ∷ []) ≡ (None, sevens 27) ∷ (None, sevens 19) ∷ (None, []) ∷ []
  pub part_of_a_verdict : map (λ bytes. put_in (judged_as bytes) 28) ([] ∷ (0 ∷ 1 ∷ 0 ∷ []) ∷ (0 ∷ 1 ∷ 0 ∷ 1 ∷ 9 ∷ []) ∷ [])
      ≡ (Some 19, codes "000000000001000000\n" ++ sevens 9) ∷ (Some 19, codes "000000000001000000\n" ++ sevens 9) ∷ (Some 28, codes "00010001\n000000000001000000\n") ∷ []

-- ---- which error is reported

-- A call after seven that were interrupted.
abbrev pub after_seven : Calls
after_seven = record { last = None; interrupted = 7 }

-- So many calls interrupted, the last one with this error.
abbrev pub so_many : ℕ → Error → Calls
so_many n e = record { last = Some (Err e); interrupted = n }

pub record CallRows : Type 0 where
  pub given : noted (Ok 5) after_seven ≡ record { last = Some (Ok 5); interrupted = 0 }
  pub nothing_given : noted (Ok 0) after_seven ≡ record { last = Some (Ok 0); interrupted = 0 }
  pub interrupted_first : (e : Error) → error_kind e ≡ ErrorKind.Interrupted → noted (Err e) no_calls ≡ so_many 1 e
  pub interrupted_again : (e : Error) → error_kind e ≡ ErrorKind.Interrupted → noted (Err e) after_seven ≡ so_many 8 e
  pub interrupted_last : (e : Error) → error_kind e ≡ ErrorKind.Interrupted → noted (Err e) (so_many (2 ^ 64 - 2) e) ≡ so_many (2 ^ 64 - 1) e
  pub interrupted_more : (e : Error) → error_kind e ≡ ErrorKind.Interrupted → noted (Err e) (so_many (2 ^ 64 - 1) e) ≡ so_many (2 ^ 64 - 1) e
  pub timed_out : (e : Error) → error_kind e ≡ ErrorKind.TimedOut → noted (Err e) after_seven ≡ so_many 0 e
  pub would_block : (e : Error) → error_kind e ≡ ErrorKind.WouldBlock → noted (Err e) after_seven ≡ so_many 0 e
  pub nothing_before_a_call : (e : Error) → WriteFailed no_calls e → ⊥
  pub nothing_after_a_read : (n : ℕ) (e : Error) → Failed (noted (Ok n) after_seven) e → ⊥
  pub nothing_after_a_write : (n : ℕ) (e : Error) → WriteFailed (noted (Ok (n + 1)) after_seven) e → ⊥
  pub no_other_error : (e f : Error) → Failed (so_many 0 f) e → e ≡ f
  pub no_interruption : (n : ℕ) (e f : Error) → error_kind f ≡ ErrorKind.Interrupted → Failed (so_many n e) f → ⊥
  pub not_before_the_last : (e f : Error) → error_kind e ≡ ErrorKind.Interrupted → Failed (so_many (2 ^ 64 - 2) e) f → ⊥
  pub no_write_error_for_nothing : (e : Error) → error_kind e ≡ ErrorKind.TimedOut → WriteFailed (noted (Ok 0) after_seven) e → ⊥
  pub failed_read : (e : Error) → error_kind e ≡ ErrorKind.TimedOut → Failed (so_many 0 e) e
  pub failed_write : (e : Error) → error_kind e ≡ ErrorKind.TimedOut → WriteFailed (so_many 0 e) e
  pub interrupted_each_time : (e f : Error) → error_kind f ≡ ErrorKind.TimedOut → Failed (so_many (2 ^ 64 - 1) e) f
  pub no_other_kind : (e f : Error) → error_kind e ≡ ErrorKind.Interrupted → error_kind f ≡ ErrorKind.WouldBlock → Failed (so_many (2 ^ 64 - 1) e) f → ⊥
  pub write_of_nothing : (e : Error) → error_kind e ≡ ErrorKind.WriteZero → WriteFailed (noted (Ok 0) after_seven) e

-- ---- each outcome

-- What `answer` comes to: it went well, a read failed, a write failed.
abbrev pub done : Result Bool AnswerError
done = Ok true

abbrev pub no_read : Error → Result Bool AnswerError
no_read e = Err (AnswerError.Read e)

abbrev pub no_write : Error → Result Bool AnswerError
no_write e = Err (AnswerError.Write e)

-- A text that is refused with 8, and one of 65,539 bytes.
abbrev pub marked : Option (List ℕ)
marked = Some (codes "00\n")

abbrev pub long : Option (List ℕ)
long = Some (replicate 65539 0x30)

pub record OutcomeRows : Type 0 where
  pub read_whole : Left marked (Some []) done
  pub read_one_more : Left long (Some (replicate 2 0x30)) done
  pub read_no_more : Left long (Some (replicate 1 0x30)) done → ⊥
  pub not_read : Left long (Some (replicate 3 0x30)) done → ⊥
  pub read_before_a_write : (e : Error) → Left long (Some (replicate 2 0x30)) (no_write e)
  pub not_read_before_a_write : (e : Error) → Left long (Some (replicate 3 0x30)) (no_write e) → ⊥
  pub read_in_part : (e : Error) → Left long (Some (replicate 3 0x30)) (no_read e)
  pub read_in_full : (e : Error) → Left long (Some (replicate 2 0x30)) (no_read e) → ⊥
  pub written : Written marked (Some (7 ∷ [])) (Some (7 ∷ codes "R08\n")) done
  pub written_longer : Written long (Some []) (Some (codes "R11\n")) done
  pub byte_missing : Written marked (Some []) (Some (codes "R08")) done → ⊥
  pub byte_more : Written marked (Some []) (Some (codes "R08\n\n")) done → ⊥
  pub other_answer : Written marked (Some []) (Some (codes "R10\n")) done → ⊥
  pub nothing_written : Written marked (Some []) (Some []) done → ⊥
  pub output_lost : Written marked (Some (7 ∷ [])) (Some (codes "R08\n")) done → ⊥
  pub kept : (e : Error) → Written marked (Some (7 ∷ [])) (Some (7 ∷ [])) (no_read e)
  pub not_kept : (e : Error) → Written marked (Some []) (Some (codes "R")) (no_read e) → ⊥
  pub front : (e : Error) → Written marked (Some (7 ∷ [])) (Some (7 ∷ codes "R08")) (no_write e)
  pub no_byte : (e : Error) → Written marked (Some []) (Some []) (no_write e)
  pub whole_answer : (e : Error) → Written marked (Some []) (Some (codes "R08\n")) (no_write e) → ⊥
  pub other_front : (e : Error) → Written marked (Some []) (Some (codes "S")) (no_write e) → ⊥
  pub no_read_failed : (e : Error) → Reported no_calls no_calls (no_read e) → ⊥
  pub no_write_failed : (e : Error) → Reported no_calls no_calls (no_write e) → ⊥
  pub a_write_not_a_read : (e f : Error) → Reported no_calls (so_many 0 f) (no_read e) → ⊥
  pub a_read_not_a_write : (e f : Error) → Reported (so_many 0 f) no_calls (no_write e) → ⊥
  pub its_error : (e f : Error) → Reported (so_many 0 f) no_calls (no_read e) → e ≡ f
