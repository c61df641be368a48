-- Each line that is cut off gives its frame, or none of them does.
use Rattle.std.proofs.Common.{rules, ◌≡◌, sym, arith, ◌++◌, ◌+◌, eqb, ne_eqb}
use Rattle.verdict_text.proofs.ReadLaws.{not_ended, no_frame, one_more}
use Rattle.verdict_text.proofs.read.read_frames.Goals as goal

pub returns-in_err-line : goal.returns-in_err-line
returns-in_err-line c =
    let l = c.loop-lines in
    rw c.from_residual.ensures (not_ended l.invariant.frames.0 l.lines.now c.args.text.now (eqb l.pairs 0) l.invariant.frames.1 (grind arith) c.in_err-line.ensures.value)

pub returns-in_err-frame : goal.returns-in_err-frame
returns-in_err-frame c =
    let l = c.loop-lines in
    rw c.from_residual-in_err-frame.ensures
    (no_frame l.invariant.frames.0 l.lines.now c.args.text.now (eqb l.pairs 0) l.invariant.frames.1 (grind arith) _ _ c.in_ok-line.ensures.value
    (sym c.in_err-frame.ensures))

pub loop-lines-preserved : goal.loop-lines-preserved
loop-lines-preserved c =
    let l = c.loop-lines in
    let frame = c.in_ok-frame.frame in
    let later : l.pairs + 1 ≡ 0 → ⊥ = omega arith in
    let more = one_more l.invariant.frames.0 l.lines.now c.args.text.now (eqb l.pairs 0) l.invariant.frames.1 (grind arith) _ _ c.in_ok-line.ensures.value frame (sym c.in_ok-frame.ensures) in
    record {
      room = search rules;
      taken = grind (arith, c.in_ok-line.ensures.size);
      frames = (l.invariant.frames.0 ++ frame, rw (ne_eqb (l.pairs + 1) 0 later) more, c.hold.ensures l.invariant.frames.0 l.invariant.frames.2);
    }
