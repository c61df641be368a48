-- What is held of the text, and whether more follows, give the answer to the whole of it.
use Rattle.std.proofs.Common.{rules, arith, replicate}
use Rattle.std.specs.Io.KnownBytes.{Appends}
use Rattle.verdict_text.specs.Answer.{response_room, AppendsFront}
use Rattle.verdict_text.proofs.StepLaws.{read_loses, read_answer}
use Rattle.verdict_text.proofs.JudgedLaws.{response_front}
use Rattle.verdict_text.proofs.answer.answer.Goals as goal

pub returns-in-Ok-put-clause-left : goal.returns-in-Ok-put-clause-left
returns-in-Ok-put-clause-left g c = read_loses _ _ _ _ c.read_text.new.text (search rules) c.in-Ok.ensures.bytes

pub returns-in-Err-put-clause-left : goal.returns-in-Err-put-clause-left
returns-in-Err-put-clause-left g c = read_loses _ _ _ _ c.read_text.new.text (search rules) c.in-Ok.ensures.bytes

pub returns-in-Ok-put-clause-written : goal.returns-in-Ok-put-clause-written
returns-in-Ok-put-clause-written g c = read_answer _ _ _ _ c.read_text.new.text (Appends _ _) _ (search rules) c.in-Ok.ensures.bytes (response_front _ _ _ (replicate response_room 0) _ c.in-Some.ensures.value c.in-Some.ensures.response_after (omega arith)) c.in-Ok-put.ensures.bytes

pub returns-in-Err-put-clause-written : goal.returns-in-Err-put-clause-written
returns-in-Err-put-clause-written g c = read_answer _ _ _ _ c.read_text.new.text (AppendsFront _ _) _ (search rules) c.in-Ok.ensures.bytes (response_front _ _ _ (replicate response_room 0) _ c.in-Some.ensures.value c.in-Some.ensures.response_after (omega arith)) c.in-Err-put.ensures.bytes
