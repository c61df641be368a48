-- The rows are what the definitions compute, each by a line of its own: a refusal names the row.
use Rattle.std.proofs.Common.{◌≡◌, refl, sym, ap, List, [], ◌∷◌, ℕ, Option, Some}
use Rattle.std.specs.Borrow.{Bor}
use Rattle.codec.specs.Bytes.{le, put}
use Rattle.codec.specs.Crc32c.{remainder, final_remainder, reversed, digest, crc32c, crc32c_append}
use Rattle.codec.specs.Place.{Part}
use Rattle.codec.specs.Cursor.{Gives, write}
use Rattle.codec.specs.declared.codec.Reader.{Reader}
use Rattle.codec.specs.Rules.{at, bytes_at, ChecksumRows, ReadRows, WriteRows}

pub checksum_rows : ChecksumRows
unfolding remainder final_remainder reversed digest crc32c crc32c_append
checksum_rows =
    record {
      no_bytes = refl;
      zeros = refl;
      ones = refl;
      up = refl;
      down = refl;
      read_10 = refl;
      nine_digits = refl;
      one_byte = refl;
      few_bytes = refl;
      splits = refl;
      over_none = refl;
      over_three = refl;
      over_five = refl;
    }

-- The bytes 3, 4 and 5 of a buffer, lent.
lent : (x : Bor (List ℕ)) (given : Bor (List ℕ) × Reader) → Gives x 2 3 (Some given) (bytes_at 3 2)
    → (given.0.now ≡ 3 ∷ 4 ∷ 5 ∷ []) × (given.1 ≡ at 5) × Part x 2 3 given.0
lent x given is =
    let read : ◌≡◌ {A = Option (List ℕ × Reader)} (Some (3 ∷ 4 ∷ 5 ∷ [], at 5)) (Some (given.0.now, given.1)) = is.0 in
    let same : ◌≡◌ {A = List ℕ × Reader} (3 ∷ 4 ∷ 5 ∷ [], at 5) (given.0.now, given.1) = cc in
    (sym (ap (λ (p : List ℕ × Reader). p.0) same), sym (ap (λ (p : List ℕ × Reader). p.1) same), is.1)

pub read_rows : ReadRows
unfolding le
read_rows =
    record {
      before = refl;
      to_the_end = refl;
      one_past = refl;
      all = refl;
      over_none = refl;
      nothing_wraps = refl;
      one_byte = refl;
      two_bytes = refl;
      four_bytes = refl;
      eight_bytes = refl;
      left = refl;
      refusals = refl;
      lent = lent;
    }

pub write_rows : WriteRows
unfolding put write
write_rows =
    record {
      first = refl;
      before = refl;
      to_the_end = refl;
      one_past = refl;
      over_none = refl;
      nothing_wraps = refl;
      numbers = refl;
      row = refl;
      row_of_none = refl;
      row_ended = refl;
      refusals = refl;
    }
