-- A text is refused, or its frames are judged.
use Rattle.std.proofs.Common.{rules, sym, ◌∙◌, ap, ℕ, ◌*◌, ◌≤◌, List, take, arith, Ok}
use Rattle.std.proofs.lemmas.List.{take_at}
use Rattle.judge.specs.Judge.{most_pairs}
use Rattle.judge.specs.Frames.{verdict_width}
use Rattle.verdict_text.specs.Answer.{judged_store}
use Rattle.verdict_text.proofs.JudgedLaws.{long_text, fitting_text, all_held, room_for, more_refused, judged-ok, judged-error}
use Rattle.verdict_text.proofs.answer.judged.Goals as goal

pub returns-then-is_long : goal.returns-then-is_long
returns-then-is_long c = long_text _ _ (sym c.is_long.ensures ∙ c.if-is_long.true)

pub returns-in_default : goal.returns-in_default
returns-in_default c = fitting_text _ _ (sym c.is_long.ensures ∙ c.if-is_long.false) ∙ ap judged_store c.in_default.ensures

pub returns-then-pairs-gt-MOST_PAIRS : goal.returns-then-pairs-gt-MOST_PAIRS
returns-then-pairs-gt-MOST_PAIRS c =
    let found = c.in-Some.ensures in
    fitting_text _ _ (sym c.is_long.ensures ∙ c.if-is_long.false) ∙ ap judged_store found.1
    ∙ more_refused c.read_store.new.frames c.in-Some.pairs found.0 found.2 c.in-Some.clean (search rules)

pub returns-in-Ok : goal.returns-in-Ok
returns-in-Ok c =
    let pairs = c.in-Some.pairs in
    let buffer = c.read_store.new.frames in
    let found = c.in-Some.ensures in
    let few : pairs ≤ most_pairs = search rules in
    let all = all_held buffer pairs found.0 found.2 (search rules) in
    let room = room_for buffer pairs found.0 found.2 c.args.verdicts.now (search rules) in
    let done =
    judged-ok c.in-Some.clean found.0 (take (pairs * verdict_width) c.args.verdicts.now) room
    c.in-Ok.judgement c.judge.new.out (rw (c.from.ensures, all) at c.in-Ok.ensures.value) (rw (c.from.ensures, all) at c.judge.ensures.out_after) in
    let written = take_at c.judge.new.out _ (pairs * verdict_width) (omega (arith, c.judge.auto.out)) in (
      fitting_text _ _ (sym c.is_long.ensures ∙ c.if-is_long.false) ∙ ap judged_store found.1 ∙ done
          ∙ ap (λ (l : List ℕ). Ok (l, c.in-Ok.judgement)) (sym written),
      few,
    )

pub returns-in-Err : goal.returns-in-Err
returns-in-Err c =
    let pairs = c.in-Some.pairs in
    let buffer = c.read_store.new.frames in
    let found = c.in-Some.ensures in
    let all = all_held buffer pairs found.0 found.2 (search rules) in
    let room = room_for buffer pairs found.0 found.2 c.args.verdicts.now (search rules) in
    fitting_text _ _ (sym c.is_long.ensures ∙ c.if-is_long.false) ∙ ap judged_store found.1
    ∙ judged-error c.in-Some.clean found.0 (take (pairs * verdict_width) c.args.verdicts.now) room c.in-Err.error
    (rw (c.from.ensures, all) at c.in-Err.ensures.value)
