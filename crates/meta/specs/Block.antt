-- Sizes of blocks and table slots: powers of two, log2 from 12 to 16 (docs/FORMAT.md, "The volume record").
use Rattle.std.specs.Prelude.{ℕ, ◌-◌, ◌/◌, ◌^◌, min, max}

-- Outside, the nearer end.
unfoldable pub block_size : ℕ → ℕ
block_size log2 = 2 ^ max 12 (min log2 16)

-- Entries of 96 bytes that fit after a slot's header of 128 bytes and a page's of 24: 41, 83, 169, 339, 681 for log2 12 to 16.
unfoldable pub entries_per_page : ℕ → ℕ
entries_per_page log2 = (block_size log2 - 128 - 24) / 96
