-- The frames are judged as a row, whether a part of one follows or none.
use Rattle.std.proofs.Common.{◌≡◌, ◌==◌, ℕ, List, arith, length, rules}
use Rattle.judge.specs.Judge.{verdicts}
use Rattle.judge.specs.declared.verdict.PairVerdict.{PairVerdict}
use Rattle.judge.specs.Frames.{row, row_bytes, frames_error, judge_frames, frames_left}
use Rattle.judge.proofs.RowLaws.{left-after}
use Rattle.judge.proofs.FrameLaws.{by_row, room, bytes-done}
use Rattle.judge.proofs.frames.judge.Goals as goal

pub returns-clause-value : goal.returns-clause-value
unfolding judge_frames
returns-clause-value c =
    let a = c.args in
    rw (by_row a.frames.now a.clean (length a.out.now))
    (rw (c.is_empty.ensures, c.as_chunks.ensures.back_len, c.as_chunks.ensures.front_len, c.as_chunks.ensures.front) at c.judge-answer.ensures.value)

pub returns-clause-out_after : goal.returns-clause-out_after
unfolding judge_frames frames_left
returns-clause-out_after c =
    let a = c.args in
    let answer = rw (c.as_chunks.ensures.front_len, c.as_chunks.ensures.front) at c.judge-answer.ensures in
    let new : List ℕ = c.judge-answer.new.out.0.now in
    let vs : List PairVerdict = verdicts (row a.frames.now) (a.clean == 1) in
    let same : length a.out.now ≡ length new = grind arith in
    let after =
    left-after new (row_bytes vs) a.out.now (frames_error a.frames.now a.clean (length a.out.now)) _ _ (returns-clause-value c) answer.cells
    (λ none done. bytes-done new vs (room a.frames.now a.clean (length a.out.now) (length new) same none) done) answer.kept (λ k i. (k i).0.now) in
    search rules
