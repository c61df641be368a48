-- A text is cut at the place of its first newline, and its lines are the one cut off and those after it.
use Rattle.std.proofs.Common.{◌≡◌, refl, sym, ap, ◌∙◌, Bool, true, false, ℕ, ◌+◌, ◌<◌, suc, List, [], ◌∷◌, ◌++◌, length, take, drop, append_assoc, arith, add-one, cond, nat_eq, nat_lt, ltb-true, ltb-false, lt-ltb, le-ltb, ◌≤◌, Option, Some, None}
use Rattle.std.specs.List.{position}
use Rattle.std.specs.Option.{option_map, option_and_then}
use Rattle.verdict_text.specs.Read.{newline, before, cut, frame_of, joined, mark_of, frames_of, with_char, lines, frames_in, store_of, store_in}

-- ---- a line

abbrev pub parts_at : List ℕ → Option ℕ → Option (List ℕ × List ℕ)
parts_at s o = option_map (λ (n : ℕ). (take n s, drop (n + 1) s)) o

later : (k n : ℕ) → cond (nat_lt (1 + k) (suc n)) (Some (1 + k)) None ≡ option_map suc (cond (nat_lt k n) (Some k) None)
later k n = go (nat_lt k n) refl
  where
    go : (below : Bool) → nat_lt k n ≡ below → cond (nat_lt (1 + k) (suc n)) (Some (1 + k)) None ≡ option_map suc (cond (nat_lt k n) (Some k) None)
    go true is = let less : k < n = ltb-true k n is in let next : 1 + k ≡ suc k = omega arith in simp (is, lt-ltb (1 + k) (suc n) (omega arith)) (ap (λ (m : ℕ). Some m) next)
    go false is = let not_less : n ≤ k = ltb-false k n is in simp (is, le-ltb (1 + k) (suc n) (omega arith))

after_one : (x : ℕ) (s : List ℕ) (o : Option ℕ) → before x (parts_at s o) ≡ parts_at (x ∷ s) (option_map suc o)
after_one x s None = refl
after_one x s (Some n) = simp add-one

pub cut_at : (c : ℕ) (s : List ℕ) → cut c s ≡ parts_at s (position (λ (y : ℕ). nat_eq y c) s)
cut_at c [] = refl
cut_at c (x ∷ s) = go (nat_eq x c) refl (cut_at c s)
  where
    go : (same : Bool) → nat_eq x c ≡ same → cut c s ≡ parts_at s (position (λ (y : ℕ). nat_eq y c) s)
        → cut c (x ∷ s) ≡ parts_at (x ∷ s) (position (λ (y : ℕ). nat_eq y c) (x ∷ s))
    go true is rest = simp (is, lt-ltb 0 (suc (length s)) (omega arith))
    go false is rest = simp (is, later, rest, after_one)

-- The lines by the first one.
abbrev pub lines_by : Option (List ℕ × List ℕ) → Option (List (List ℕ))
lines_by None = None
lines_by (Some parts) = option_map (λ (others : List (List ℕ)). parts.0 ∷ others) (lines parts.1)

with-before : (x : ℕ) (o : Option (List ℕ × List ℕ)) → with_char x (lines_by o) ≡ lines_by (before x o)
with-before x None = refl
with-before x (Some (line, rest)) = go (lines rest)
  where
    go : (o : Option (List (List ℕ))) → with_char x (option_map (λ (others : List (List ℕ)). line ∷ others) o) ≡ option_map (λ (others : List (List ℕ)). (x ∷ line) ∷ others) o
    go None = refl
    go (Some others) = refl

pub lines_cut : (s : List ℕ) → 0 < length s → lines s ≡ lines_by (cut newline s)
lines_cut [] some = absurd (omega arith)
lines_cut (x ∷ s) some = go (nat_eq x newline) refl (rest s (lines_cut s))
  where
    rest : (t : List ℕ) → (0 < length t → lines t ≡ lines_by (cut newline t)) → with_char x (lines t) ≡ with_char x (lines_by (cut newline t))
    rest [] cut_off = refl
    rest (y ∷ t) cut_off = ap (with_char x) (cut_off (omega arith))

    go : (same : Bool) → nat_eq x newline ≡ same → with_char x (lines s) ≡ with_char x (lines_by (cut newline s)) → lines (x ∷ s) ≡ lines_by (cut newline (x ∷ s))
    go true is behind = simp is
    go false is behind = simp is (behind ∙ with-before x (cut newline s))

-- The frames of a text by its first line.
abbrev pub frames_by : Bool → Option (List ℕ × List ℕ) → Option (List ℕ)
frames_by volume None = None
frames_by volume (Some parts) = joined (frame_of volume parts.0) (frames_in false parts.1)

none_joined : (frame : Option (List ℕ)) → joined frame None ≡ None
none_joined None = refl
none_joined (Some frame) = refl

behind : (volume : Bool) (line : List ℕ) (o : Option (List (List ℕ)))
    → option_and_then (frames_of volume) (option_map (λ (others : List (List ℕ)). line ∷ others) o)
    ≡ joined (frame_of volume line) (option_and_then (frames_of false) o)
behind volume line None = sym (none_joined (frame_of volume line))
behind volume line (Some others) = refl

pub frames_cut : (volume : Bool) (s : List ℕ) → 0 < length s → frames_in volume s ≡ frames_by volume (cut newline s)
frames_cut volume s some = ap (option_and_then (frames_of volume)) (lines_cut s some) ∙ go (cut newline s)
  where
    go : (o : Option (List ℕ × List ℕ)) → option_and_then (frames_of volume) (lines_by o) ≡ frames_by volume o
    go None = refl
    go (Some (line, rest)) = behind volume line (lines rest)

-- ---- the lines that are left

joined-joined : (front frame : List ℕ) (o : Option (List ℕ)) → joined (Some (front ++ frame)) o ≡ joined (Some front) (joined (Some frame) o)
joined-joined front frame None = refl
joined-joined front frame (Some others) = ap (λ (l : List ℕ). Some l) (append_assoc front frame others)

-- `volume`: the next line is the volume record's.
module _ (front text all : List ℕ) (volume : Bool) (so_far : joined (Some front) (frames_in volume text) ≡ frames_in true all) (more : 0 < length text) where
  here : (o : Option (List ℕ × List ℕ)) → cut newline text ≡ o → joined (Some front) (frames_by volume o) ≡ frames_in true all
  here o is = ap (joined (Some front)) (sym (frames_cut volume text more ∙ ap (frames_by volume) is)) ∙ so_far

  pub not_ended : cut newline text ≡ None → frames_in true all ≡ None
  not_ended is = sym (here None is)

  module _ (line others : List ℕ) (first : cut newline text ≡ Some (line, others)) where
    pub no_frame : frame_of volume line ≡ None → frames_in true all ≡ None
    no_frame is = sym (here _ first) ∙ ap (λ (f : Option (List ℕ)). joined (Some front) (joined f (frames_in false others))) is

    pub one_more : (frame : List ℕ) → frame_of volume line ≡ Some frame → joined (Some (front ++ frame)) (frames_in false others) ≡ frames_in true all
    one_more frame is =
        joined-joined front frame (frames_in false others)
        ∙ ap (λ (f : Option (List ℕ)). joined (Some front) (joined f (frames_in false others))) (sym is)
        ∙ here _ first

-- ---- the mark and the frames

abbrev pub marked : Option Bool → Option (List ℕ) → Option (Bool × List ℕ)
marked mark frames = option_and_then (λ (clean : Bool). option_map (λ (frames : List ℕ). (clean, frames)) frames) mark

no_store : (mark : Option Bool) → marked mark None ≡ None
no_store None = refl
no_store (Some clean) = refl

abbrev pub store_by : Option (List ℕ × List ℕ) → Option (Bool × List ℕ)
store_by None = None
store_by (Some parts) = marked (mark_of parts.0) (frames_in true parts.1)

pub store_cut : (text : List ℕ) → store_in text ≡ store_by (cut newline text)
store_cut [] = refl
store_cut (c ∷ text) = ap (option_and_then store_of) (lines_cut (c ∷ text) (omega arith)) ∙ go (cut newline (c ∷ text))
  where
    first : (line : List ℕ) (o : Option (List (List ℕ)))
        → option_and_then store_of (option_map (λ (others : List (List ℕ)). line ∷ others) o) ≡ marked (mark_of line) (option_and_then (frames_of true) o)
    first line None = sym (no_store (mark_of line))
    first line (Some others) = refl

    go : (o : Option (List ℕ × List ℕ)) → option_and_then store_of (lines_by o) ≡ store_by o
    go None = refl
    go (Some (line, rest)) = first line (lines rest)
