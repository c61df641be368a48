-- The lines so far stand at the start, and the rest is as it was.
use Rattle.std.proofs.Common.{◌≡◌, ◌*◌, length, take, drop}
use Rattle.std.specs.List.{flat_map}
use Rattle.verdict_text.specs.Write.{line, verdict_line}
use Rattle.verdict_text.proofs.write.put_judgement.Given as goal

abbrev pub invariant-loop-verdict : goal.invariant-loop-verdict
invariant-loop-verdict l = record {
  room : length l.output ≡ length l.initial.output;
  place : l.end ≡ l.verdict-index * verdict_line;
  rest : drop l.end l.output ≡ drop l.end l.initial.output;
  lines : take l.end l.output ≡ flat_map line (take l.verdict-index l.verdicts);
}
