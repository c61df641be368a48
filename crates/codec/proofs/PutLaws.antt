-- Bytes put into a list: what they leave as it was, and one put right after another.
use Rattle.std.proofs.Common.{◌≡◌, sym, ap, ap₂, ◌∙◌, List, [], ◌++◌, append_assoc, append-nil, ℕ, ◌+◌, ◌≤◌, add-zero, add_assoc, arith, length, take, drop, length-append, length-take, length-drop, take-append-drop, take_at, drop_at, drop-drop, length-take-le}
use Rattle.codec.specs.Bytes.{put}

pub put-nil : (s : List ℕ) (i : ℕ) → put s i [] ≡ s
unfolding put
put-nil s i = simp (append-nil, add-zero, take-append-drop)

module _ (s : List ℕ) (i : ℕ) (vs : List ℕ) (fits : i + length vs ≤ length s) where
  length-head : length (take i s ++ vs) ≡ i + length vs
  length-head = length-append (take i s) vs ∙ omega (arith, length-take-le i s)

  pub length-put : length (put s i vs) ≡ length s
  unfolding put
  length-put = simp (length-append, length-drop, length-take) (omega arith)

  pub put-put : (ws : List ℕ) → put (put s i vs) (i + length vs) ws ≡ put s i (vs ++ ws)
  unfolding put
  put-put ws =
      let end : ℕ = i + length vs in
      let head : List ℕ = take i s ++ vs in
      let tail : List ℕ = drop end s in
      ap₂ (λ (t d : List ℕ). t ++ ws ++ d)
      (take_at head tail end length-head)
      (sym (drop-drop (length ws) end (head ++ tail)) ∙ ap (λ (d : List ℕ). drop (length ws) d) (drop_at head tail end length-head) ∙ drop-drop (length ws) end s)
      ∙ ap₂ (λ (t : List ℕ) (k : ℕ). t ++ drop k s) (append_assoc (take i s) vs ws)
      (add_assoc i (length vs) (length ws) ∙ ap (λ (k : ℕ). i + k) (sym (length-append vs ws)))
