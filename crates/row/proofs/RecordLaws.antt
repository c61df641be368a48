-- One verdict more is written, and one less is left.
use Rattle.std.proofs.Common.{◌≡◌, ◌<◌, sym, ap, add-one, get_or, drop-cons, ◌∙◌, List, ◌++◌, ℕ, ◌+◌, ◌*◌, ◌≤◌, arith, append_assoc, length, take, drop, length-append, length-take-le, length-take, length-drop, take_at}
use Rattle.judge.specs.declared.verdict.PairVerdict.{PairVerdict}
use Rattle.judge.specs.Frames.{verdict_bytes, row_bytes}

pub written : (out : List ℕ) (i : ℕ) (bytes rest : List ℕ) → length bytes ≡ 4 → i * 4 + 4 ≤ length out
    → take ((i + 1) * 4) (take (i * 4) out ++ (bytes ++ drop 4 (drop (i * 4) out))) ++ rest ≡ take (i * 4) out ++ (bytes ++ rest)
written out i bytes rest four fits =
    let front : length (take (i * 4) out ++ bytes) ≡ (i + 1) * 4 = length-append (take (i * 4) out) bytes ∙ omega (arith, length-take-le (i * 4) out, four) in
    ap (λ (t : List ℕ). take ((i + 1) * 4) t ++ rest) (sym (append_assoc (take (i * 4) out) bytes (drop 4 (drop (i * 4) out))))
    ∙ ap (λ (t : List ℕ). t ++ rest) (take_at (take (i * 4) out ++ bytes) (drop 4 (drop (i * 4) out)) ((i + 1) * 4) front)
    ∙ append_assoc (take (i * 4) out) bytes rest

pub length-written : (out : List ℕ) (i : ℕ) (bytes : List ℕ) → length bytes ≡ 4 → i * 4 + 4 ≤ length out
    → length (take (i * 4) out ++ (bytes ++ drop 4 (drop (i * 4) out))) ≡ length out
length-written out i bytes four fits = simp (length-append, length-drop, length-take) (omega (arith, four))

pub next-bytes : (vs : List PairVerdict) (i : ℕ) (d : PairVerdict) (bytes : List ℕ) → i < length vs → bytes ≡ verdict_bytes (get_or vs i d)
    → row_bytes (drop i vs) ≡ bytes ++ row_bytes (drop (i + 1) vs)
next-bytes vs i d bytes below is = rw (is, add-one) (ap row_bytes (drop-cons vs i d below))
