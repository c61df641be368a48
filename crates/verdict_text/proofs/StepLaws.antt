-- What single reads and writes give together, and that the answer to what is held is the answer to the whole text.
use Rattle.std.proofs.Common.{◌≡◌, refl, sym, ◌∙◌, ap, subst, Bool, true, false, ℕ, ◌+◌, ◌-◌, ◌≤◌, min, arith, List, ◌++◌, length, take, drop, Some, None, IfSome, ltb, nat_eq}
use Rattle.std.proofs.lemmas.List.{drop-drop, length-take, length-drop, length-take-le, take-append-le, take_rest, take_all}
use Rattle.std.proofs.lemmas.Bool.{ltb-true, ltb-false, eq-eqb}
use Rattle.std.proofs.Math.Seq.{take-add, take-append-add}
use borrow.Rule.Slice.PartMut.{put_mid, post_of}
use Rattle.std.specs.declared.option.Option.{Option}
use Rattle.verdict_text.specs.Answer.{judged, response_text, answer_text, Loses}
use Rattle.verdict_text.specs.Steps.{Fills, Reads}

-- ---- one read, one write

-- The n bytes read into the part of xs from a place on stand after those in front of it.
pub filled : (from room n : ℕ) (xs ys : List ℕ) → from ≤ length xs → n ≤ length ys → take (from + n) (put_mid from room xs ys) ≡ take from xs ++ take n ys
filled from room n xs ys within fits =
    let held = length-take-le from xs within in
    let behind = post_of from room xs in
    ap (λ k. take (k + n) (take from xs ++ (ys ++ behind))) (sym held) ∙ take-append-add (take from xs) (ys ++ behind) n
    ∙ ap (λ l. take from xs ++ l) (take-append-le n ys behind fits)

-- The n bytes taken of what is left are the next ones.
pub taken : (done n : ℕ) (bytes : List ℕ) → take (done + n) bytes ≡ take done bytes ++ take n (take (length bytes - done) (drop done bytes))
taken done n bytes = take-add done n bytes ∙ ap (λ l. take done bytes ++ take n l) (sym (take_rest bytes done))

-- ---- the text and one byte more

-- A full buffer, and a second one of one byte filled from what follows.
pub reads_more : (old mid new : Option (List ℕ)) (n k : ℕ) (buffer next : List ℕ) → length next ≡ 1 → k ≤ length next
    → Fills old mid n buffer → Fills mid new k next → Reads old new n (nat_eq k 1) buffer
reads_more None mid new n k buffer next one within first second = tt
reads_more (Some text) mid new n k buffer next one within first second =
    let P : Option (List ℕ) → Type 0 = λ o. Fills o new k next in
    let behind = subst P first.1 second in
    let held : length (take k next) ≡ k = length-take-le k next within in
    let count : k ≡ min (length next) (length text - length buffer) =
    sym held ∙ ap (λ l. length l) behind.0 ∙ length-take (length next) (drop (length buffer) text) ∙ ap (λ m. min (length next) m) (length-drop (length buffer) text) in
    let go : (longer : Bool) → ltb (length buffer) (length text) ≡ longer → nat_eq k 1 ≡ longer =
    λ longer. elim longer as (λ b. ltb (length buffer) (length text) ≡ b → nat_eq k 1 ≡ b) [
      | true ↦ (λ is. let past = ltb-true (length buffer) (length text) is in eq-eqb k 1 (grind (arith, count, past, one)))
      | false ↦ (λ is. let past = ltb-false (length buffer) (length text) is in
          let none : k ≡ 0 = grind (arith, count, past, one) in ap (λ j. nat_eq j 1) none)
    ] in
    (first.0, go (ltb (length buffer) (length text)) refl, behind.1 ∙ ap (λ j. Some (drop j (drop (length buffer) text))) one ∙ ap (λ l. Some l) (drop-drop 1 (length buffer) text))

-- ---- the answer

-- The first 65,536 bytes of a text and whether it has more give the answer to the whole text.
text-held : (text : List ℕ) → response_text (take 65536 text) (ltb 65536 (length text)) ≡ answer_text text
unfolding judged
text-held text = go (ltb 65536 (length text)) refl
  where
    go : (more : Bool) → ltb 65536 (length text) ≡ more → response_text (take 65536 text) more ≡ answer_text text
    go true long = rw long refl
    go false fits = rw (take_all 65536 text (ltb-false _ _ fits)) refl

module _ (old new : Option (List ℕ)) (held : ℕ) (more : Bool) (buffer : List ℕ) where
  pub read_loses : length buffer ≡ 65536 → Reads old new held more buffer → Loses 65537 old new
  read_loses long reads = go old reads
    where
      go : (o : Option (List ℕ)) → Reads o new held more buffer → Loses 65537 o new
      go None is = tt
      go (Some text) is = is.2 ∙ ap (λ n. Some (drop (n + 1) text)) long

  -- What holds of the answer to the bytes held holds of the answer to the text.
  pub read_answer : (P : List ℕ → Type 0) (bytes : List ℕ) → length buffer ≡ 65536 → Reads old new held more buffer
      → bytes ≡ response_text (take held buffer) more → P bytes → IfSome old (λ s. P (answer_text s))
  read_answer P bytes long reads answers holds = go old reads
    where
      go : (o : Option (List ℕ)) → Reads o new held more buffer → IfSome o (λ s. P (answer_text s))
      go None is = tt
      go (Some text) is =
          let same : response_text (take held buffer) more ≡ answer_text text = rw (is.0, is.1, long) (text-held text) in
          subst P (answers ∙ same) holds
