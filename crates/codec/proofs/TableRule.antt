-- The rule of the tables, one for all eight: word b of table k is what 8 * (k + 1) steps of the division make of b. All 2,048 words are
-- compared by one computation.
use Rattle.std.proofs.Common.{◌≡◌, refl, ap, ◌∙◌, List, [], ℕ, ◌+◌, ◌*◌, ◌<◌, zero-add, map, get_or}
use Rattle.std.specs.List.{range_with_len}
use Rattle.std.proofs.lemmas.List.FromFn.{get_or-map-range_with_len}
use Rattle.codec.specs.Register.{bit_steps}
use Rattle.codec.specs.declared.tables.TheConstants.{TABLES}

abbrev table : ℕ → List ℕ
table k = map (bit_steps (8 * (k + 1))) (range_with_len 0 256)

computed : TABLES ≡ map table (range_with_len 0 8)
unfolding bit_steps
computed = refl

pub rule : (k b : ℕ) → k < 8 → b < 256 → get_or (get_or TABLES k []) b 0 ≡ bit_steps (8 * (k + 1)) b
rule k b inside byte =
    ap (λ (ts : List (List ℕ)). get_or (get_or ts k []) b 0) computed
    ∙ ap (λ (t : List ℕ). get_or t b 0) (get_or-map-range_with_len table 0 8 k k [] inside (zero-add k))
    ∙ get_or-map-range_with_len (bit_steps (8 * (k + 1))) 0 256 b b 0 byte (zero-add b)
