-- Each turn writes the bytes of a verdict more.
use Rattle.std.proofs.Common.{◌≡◌, ◌≤◌, sym, ap, ◌∙◌, ◌+◌, ◌-◌, ◌*◌, ◌++◌, arith, length, take, drop, List, ℕ}
use Rattle.judge.specs.Frames.{row_bytes}
use Rattle.row.proofs.RecordLaws.{written, length-written, next-bytes}
use Rattle.row.proofs.put_verdicts.Goals as goal

pub loop-i-preserved : goal.loop-i-preserved
loop-i-preserved c =
    let l = c.loop-i in
    let vs = c.args.verdicts.now in
    let four : l.i * 4 + 4 - l.i * 4 ≡ 4 = omega arith in
    let fits : l.i * 4 + 4 ≤ length l.out = omega (arith, l.invariant.size) in
    let bytes = c.bytes.result in
    let size : length bytes ≡ 4 = ap length c.bytes.ensures in
    let left = next-bytes vs l.i _ bytes c.loop-i-test.true c.bytes.ensures in
    rw (four, c.copy_from_slice.ensures.after)
    (record {
      size = length-written l.out l.i bytes size fits ∙ l.invariant.size;
      filled =
          written l.out l.i bytes (row_bytes (drop (l.i + 1) vs)) size fits
          ∙ ap (λ (t : List ℕ). take (l.i * 4) l.out ++ t) (sym left)
          ∙ l.invariant.filled;
    })
