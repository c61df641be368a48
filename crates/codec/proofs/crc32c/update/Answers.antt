-- `codec::crc32c::update` meets its contract: eight bytes at a time as long as there are eight, and then the others one by one.
use Rattle.std.proofs.Common.{ap, ◌∙◌, List, [], ℕ, ◌/◌, length, get_or, arith}
use Rattle.codec.specs.Register.{register}
use Rattle.codec.proofs.Words.{eight-next}
use Rattle.codec.proofs.crc32c.update.Goals as goal

pub loop-eight-preserved : goal.loop-eight-preserved
loop-eight-preserved c =
    eight-next c.args.bytes.now (length c.args.bytes.now / 8) c.loop-eight.eight-index _ _ _ (omega (arith, c.as_chunks.ensures.front_len))
    (c.word_step-reg.ensures ∙ ap (λ (eights : List (List ℕ)). register c.loop-eight.reg (get_or eights c.loop-eight.eight-index [])) c.as_chunks.ensures.front)
    c.loop-eight.invariant
