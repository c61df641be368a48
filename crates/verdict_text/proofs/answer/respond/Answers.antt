-- The text of a judgement has its room.
use Rattle.std.proofs.Common.{rules, ◌∙◌}
use Rattle.verdict_text.proofs.JudgedLaws.{judgement_fits}
use Rattle.verdict_text.proofs.answer.respond.Goals as goal

pub returns-in-Ok-clause-value : goal.returns-in-Ok-clause-value
returns-in-Ok-clause-value c =
    c.put_judgement.ensures.value ∙ (judgement_fits c.args.text.now c.args.more c.args.response.now (search rules) _ _ c.in-Ok.ensures.0 (search rules)).0

pub returns-in-Ok-clause-response_after : goal.returns-in-Ok-clause-response_after
returns-in-Ok-clause-response_after c =
    c.put_judgement.ensures.output_after ∙ (judgement_fits c.args.text.now c.args.more c.args.response.now (search rules) _ _ c.in-Ok.ensures.0 (search rules)).1
