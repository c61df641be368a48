-- What the steps of `answer` leave of the text that a reader has, and what they hold of its frames (docs/FORMAT.md, "The program
-- verdicts").
use Rattle.std.specs.Prelude.{◌≡◌, ℕ, ◌+◌, ◌*◌, nat_lt, Bool, List, length, take, drop, IfSome, Some}
use Rattle.std.specs.declared.option.Option.{Option}
use Rattle.judge.specs.Frames.{frame_width}

-- The buffer's first n bytes are those of the text, as many as there is room for.
abbrev pub Fills : Option (List ℕ) → Option (List ℕ) → ℕ → List ℕ → Type 0
Fills old new n buffer = IfSome old (λ text. (take n buffer ≡ take (length buffer) text) × (new ≡ Some (drop (length buffer) text)))

-- The same, whether there are more than that, and one more is read.
abbrev pub Reads : Option (List ℕ) → Option (List ℕ) → ℕ → Bool → List ℕ → Type 0
Reads old new n more buffer = IfSome old (λ text. (take n buffer ≡ take (length buffer) text) × (more ≡ nat_lt (length buffer) (length text)) × (new ≡ Some (drop (length buffer + 1) text)))

-- Frames, n of them, of which as many as there is room for stand at the start of the buffer.
pub record Holds (buffer : List ℕ) (n : ℕ) (frames : List ℕ) : Type 0 where
  pub size : length frames ≡ n * frame_width
  pub held : take (n * frame_width) buffer ≡ take (length buffer) frames
