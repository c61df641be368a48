-- `codec::crc32c::word_step` meets its contract: 64 steps of the division are those of the eight bytes one after the other.
use Rattle.std.proofs.Common.{sym, ap, ◌∙◌, rules}
use Rattle.std.proofs.lemmas.Nat.{le_bytes_8}
use Rattle.codec.specs.Register.{register}
use Rattle.codec.proofs.Words.{register-le64}
use Rattle.codec.proofs.crc32c.word_step.Goals as goal

pub returns : goal.returns
returns c =
    c.fold.ensures
    ∙ sym (register-le64 c.args.reg c.from_le_bytes.result (search rules))
    ∙ ap (register c.args.reg) (le_bytes_8 c.args.bytes.now c.from_le_bytes.result c.told-bytes c.fits-bytes c.from_le_bytes.ensures)
