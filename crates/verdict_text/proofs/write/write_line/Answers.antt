-- The digits stand after what was written, and the newline after them.
use Rattle.std.proofs.Common.{refl, ◌∙◌, ap, ℕ, List, ◌+◌, ◌*◌, ◌++◌, [], ◌∷◌, append_assoc, arith, length, take}
use Rattle.std.proofs.lemmas.Grind.{take-set_at}
use Rattle.std.proofs.lemmas.Slice.{take-put_mid}
use borrow.Rule.Slice.PartMut.{same_len_mid}
use Rattle.hex.specs.Hex.{lower_digits, encode_lower}
use Rattle.hex.proofs.HexLemmas.{length-encode_with}
use Rattle.verdict_text.specs.Read.{newline}
use Rattle.verdict_text.proofs.write.write_line.Goals as goal

pub returns-clause-written : goal.returns-clause-written
returns-clause-written c =
    let a = c.args in
    let end : ℕ = a.at + 2 * length a.bytes.now in
    let room = same_len_mid a.at _ a.output.now c.encode_to_slice.new.output c.encode_to_slice.auto.output in
    let digits = take-put_mid a.at _ a.output.now (encode_lower a.bytes.now) end (omega (arith, length-encode_with lower_digits a.bytes.now)) (omega arith) in
    take-set_at _ end (end + 1) newline refl (omega (arith, room))
    ∙ ap (λ (l : List ℕ). l ++ newline ∷ []) (rw c.in-Ok.ensures.written digits)
    ∙ append_assoc (take a.at a.output.now) (encode_lower a.bytes.now) (newline ∷ [])
