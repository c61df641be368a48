-- The number of the C interface (docs/FORMAT.md, "The C interface"): it rises by one whenever an argument or a lent array changes.
use Rattle.std.specs.Prelude.{ℕ}

abbrev pub version : ℕ
version = 3
