-- What a C host finds after a judgement (docs/FORMAT.md, "The C interface").
use Rattle.std.specs.Prelude.{List, [], ◌∷◌, ℕ}
use Rattle.std.specs.Int.{from_bool}
use Rattle.judge.specs.Values.{heal_slot, heal_pair}
use Rattle.judge.specs.declared.verdict.Judgement.{Judgement}

-- The slot to heal (0 none, 1 A, 2 B) and its pair, writable, clean, refused, and whether owners differ.
abbrev pub judgement_values : Judgement → List ℕ
judgement_values j = heal_slot j.heal ∷ heal_pair j.heal ∷ from_bool j.writable ∷ from_bool j.clean ∷ from_bool j.refused ∷ from_bool j.owners_differ ∷ []
