-- `codec::crc32c::fold` meets its contract: 64 steps of a number go byte by byte, each byte by its table.
use Rattle.codec.proofs.Words.{steps-parts}
use Rattle.codec.proofs.crc32c.fold.Goals as goal

pub returns : goal.returns
returns c =
    rw (c.word.ensures, c.word-2.ensures, c.word-3.ensures, c.word-4.ensures, c.word-5.ensures, c.word-6.ensures, c.word-7.ensures, c.word-8.ensures, c.to_le_bytes-b.ensures)
    (steps-parts c.args.number c.ranges.number.fits)
