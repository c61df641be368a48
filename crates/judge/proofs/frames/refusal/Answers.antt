-- The frames are refused as a row, whether a part of one follows or none.
use Rattle.std.proofs.Common.{◌*◌, eq-eqb, refl}
use Rattle.judge.specs.Frames.{verdict_width, pair_count}
use Rattle.judge.proofs.FrameLaws.{by_row}
use Rattle.judge.proofs.frames.refusal.Goals as goal

pub returns : goal.returns
returns c =
    let s = c.args.frames.now in
    let room = pair_count s * verdict_width in
    rw (by_row s c.args.clean room, eq-eqb room room refl)
    (rw (c.is_empty.ensures, c.as_chunks.ensures.back_len, c.as_chunks.ensures.front_len, c.as_chunks.ensures.front) at c.refusal.ensures)
