-- The lines stand at the start, and the rest is as it was. A buffer without room for them is kept.
use Rattle.std.proofs.Common.{rules, ◌≡◌, sym, take, arith}
use Rattle.std.proofs.lemmas.Grind.{common_steps}
use Rattle.verdict_text.specs.Write.{judgement_text}
use Rattle.verdict_text.proofs.WriteLaws.{rest_after, judgement_no_room, placed}
use Rattle.verdict_text.proofs.write.put_judgement.Goals as goal

pub loop-verdict-preserved : goal.loop-verdict-preserved
loop-verdict-preserved c =
    let l = c.loop-verdict in
    let w = c.write_line-end in
    record {
      room = search rules;
      place = search rules;
      rest = rest_after l.end w.result w.new.output l.output c.args.output.now (omega (arith, w.ensures.end)) l.invariant.rest w.ensures.rest;
      lines = grind (arith, common_steps);
    }

pub returns-in_err-lines-clause-value : goal.returns-in_err-lines-clause-value
returns-in_err-lines-clause-value c = rw c.from_residual.ensures (sym (judgement_no_room c.args.verdicts.now c.args.j c.args.output.now (omega (arith, c.in_err-lines.ensures))).0)

pub returns-in_err-lines-clause-output_after : goal.returns-in_err-lines-clause-output_after
returns-in_err-lines-clause-output_after c = sym (judgement_no_room c.args.verdicts.now c.args.j c.args.output.now (omega (arith, c.in_err-lines.ensures))).1

pub returns-then-lines-verdicts-clause-value : goal.returns-then-lines-verdicts-clause-value
returns-then-lines-verdicts-clause-value c =
    sym (judgement_no_room c.args.verdicts.now c.args.j c.args.output.now (omega (arith, c.in_ok-lines.ensures, c.if-lines-verdicts.true, c.as_chunks.ensures.front_len))).0

pub returns-then-lines-verdicts-clause-output_after : goal.returns-then-lines-verdicts-clause-output_after
returns-then-lines-verdicts-clause-output_after c =
    sym (judgement_no_room c.args.verdicts.now c.args.j c.args.output.now (omega (arith, c.in_ok-lines.ensures, c.if-lines-verdicts.true, c.as_chunks.ensures.front_len))).1

pub returns-clause-value : goal.returns-clause-value
returns-clause-value c =
    let l = c.loop-verdict in
    let w = c.write_line in
    let front : take w.result w.new.output ≡ judgement_text c.args.verdicts.now c.args.j = grind (arith, common_steps) in
    let rest = rest_after l.end w.result w.new.output l.output c.args.output.now (omega (arith, w.ensures.end)) l.invariant.rest w.ensures.rest in
    (placed _ w.new.output c.args.output.now w.result (search rules) (search rules) front rest).0

pub returns-clause-output_after : goal.returns-clause-output_after
returns-clause-output_after c =
    let l = c.loop-verdict in
    let w = c.write_line in
    let front : take w.result w.new.output ≡ judgement_text c.args.verdicts.now c.args.j = grind (arith, common_steps) in
    let rest = rest_after l.end w.result w.new.output l.output c.args.output.now (omega (arith, w.ensures.end)) l.invariant.rest w.ensures.rest in
    (placed _ w.new.output c.args.output.now w.result (search rules) (search rules) front rest).1
