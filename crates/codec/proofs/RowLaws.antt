-- A row of writes that fits puts its bytes one after the other, and keeps all others.
use Rattle.std.proofs.Common.{◌≡◌, sym, ap, ap₂, ◌∙◌, List, [], ◌∷◌, ◌++◌, append-nil, ℕ, ◌+◌, ◌≤◌, add-zero, arith, le-ltb, Some, length, drop, length-append, drop_of_length-le}
use Rattle.std.specs.List.{concat}
use Rattle.codec.specs.Bytes.{put}
use Rattle.codec.specs.Cursor.{write, write_row}
use Rattle.codec.proofs.PutLaws.{put-nil, length-put, put-put}

pub write-fits : (vs s : List ℕ) (i : ℕ) → i + length vs ≤ length s → write vs s (record { pos = i }) ≡ (put s i vs, Some (record { pos = i + length vs }))
unfolding write
write-fits vs s i fits = simp (le-ltb _ _ fits)

pub row-fits : (row : List (List ℕ)) (s : List ℕ) (i : ℕ) → i + length (concat row) ≤ length s
    → write_row row s (record { pos = i }) ≡ (put s i (concat row), Some (record { pos = i + length (concat row) }))
row-fits [] s i fits = ap₂ (λ (t : List ℕ) (p : ℕ). (t, Some (record { pos = p }))) (sym (put-nil s i)) (sym (add-zero i))
row-fits (vs ∷ row) s i fits =
    let both : length (vs ++ concat row) ≡ length vs + length (concat row) = length-append vs (concat row) in
    let here : i + length vs ≤ length s = omega arith in
    let there : i + length vs + length (concat row) ≤ length (put s i vs) = omega (arith, length-put s i vs here) in
    rw (write-fits vs s i here)
    (row-fits row (put s i vs) (i + length vs) there
    ∙ ap₂ (λ (t : List ℕ) (p : ℕ). (t, Some (record { pos = p }))) (put-put s i vs here (concat row)) (omega (arith, both)))

-- Over a whole buffer.
pub row_whole : (row : List (List ℕ)) (s : List ℕ) → length s ≡ length (concat row) → write_row row s (record { pos = 0 }) ≡ (concat row, Some (record { pos = length (concat row) }))
unfolding put
row_whole row s same =
    row-fits row s 0 (omega arith)
    ∙ ap₂ (λ (t : List ℕ) (p : ℕ). (t, Some (record { pos = p })))
    (ap (λ (d : List ℕ). concat row ++ d) (drop_of_length-le s (omega arith)) ∙ append-nil (concat row))
    (omega arith)

-- Over the front of a buffer that has room.
pub row_front : (row : List (List ℕ)) (s : List ℕ) (n : ℕ) → length (concat row) ≡ n → n ≤ length s → write_row row s (record { pos = 0 }) ≡ (concat row ++ drop n s, Some (record { pos = n }))
unfolding put
row_front row s n size fits =
    row-fits row s 0 (omega (arith, size))
    ∙ ap₂ (λ (k p : ℕ). (concat row ++ drop k s, Some (record { pos = p }))) (omega (arith, size)) (omega (arith, size))
