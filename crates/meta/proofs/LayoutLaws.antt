-- A row of reads gives the fields by their offsets where its bytes are there, and nothing where they are not.
use Rattle.std.proofs.Common.{◌≡◌, refl, ℕ, ◌≤◌, Bool, true, false, List, length, Option, Some, None, arith, ltb, ltb-false, le-ltb, lit≤}
use Rattle.std.specs.Prelude.{if◌then◌else◌}
use Rattle.codec.specs.Cursor.{◌>>=◌}
use Rattle.meta.specs.Base.{base_at, BaseLayout}
use Rattle.meta.specs.Volume.{tail_at, TailLayout}
use Rattle.meta.specs.Entry.{entry_at, EntryLayout}
use Rattle.meta.specs.Page.{header_at, HeaderLayout}

-- A step as a test.
bind_test : {A B : Type 0} (b : Bool) (x : A) (f : A → Option B) → ((if b then None else Some x) >>= f) ≡ (if b then None else f x)
bind_test true x f = refl
bind_test false x f = refl

either : {A : Type 0} (b : Bool) (x : A) → (if b then x else x) ≡ x
either true x = refl
either false x = refl

-- The tests of a list of at least n bytes.
within : (s : List ℕ) (n : ℕ) → ltb (length s) n ≡ false → (k : ℕ) → k ≤ n → ltb (length s) k ≡ false
within s n is k below = let long = ltb-false _ _ is in le-ltb _ _ (omega arith)

by_length : {A : Type 0} (b : Bool) {read : Option A} {value : A} → (b ≡ true → read ≡ None) → (b ≡ false → read ≡ Some value) → read ≡ (if b then None else Some value)
by_length true short long = short refl
by_length false short long = long refl

pub base_layout : BaseLayout
unfolding base_at
base_layout s =
    by_length (ltb (length s) 48) (λ is. simp (bind_test, is, either))
    (λ is. let at = within s 48 is in
    simp (at 1 (lit≤ tt), at 2 (lit≤ tt), at 4 (lit≤ tt), at 8 (lit≤ tt), at 16 (lit≤ tt), at 24 (lit≤ tt), at 32 (lit≤ tt), at 40 (lit≤ tt), at 48 (lit≤ tt)))

pub tail_layout : TailLayout
unfolding tail_at
tail_layout s =
    by_length (ltb (length s) 64) (λ is. simp (bind_test, is, either))
    (λ is. let at = within s 64 is in simp (at 52 (lit≤ tt), at 54 (lit≤ tt), at 55 (lit≤ tt), at 56 (lit≤ tt), at 60 (lit≤ tt), at 64 (lit≤ tt)))

pub entry_layout : EntryLayout
unfolding entry_at
entry_layout s =
    by_length (ltb (length s) 96) (λ is. simp (bind_test, is, either))
    (λ is. let at = within s 96 is in
    simp (at 4 (lit≤ tt), at 5 (lit≤ tt), at 6 (lit≤ tt), at 7 (lit≤ tt), at 8 (lit≤ tt), at 32 (lit≤ tt), at 36 (lit≤ tt), at 38 (lit≤ tt), at 40 (lit≤ tt), at 48 (lit≤ tt), at 56 (lit≤ tt), at 64 (lit≤ tt), at 72 (lit≤ tt), at 80 (lit≤ tt), at 88 (lit≤ tt), at 96 (lit≤ tt)))

pub header_layout : HeaderLayout
unfolding header_at
header_layout s =
    by_length (ltb (length s) 24) (λ is. simp (bind_test, is, either))
    (λ is. let at = within s 24 is in simp (at 4 (lit≤ tt), at 8 (lit≤ tt), at 10 (lit≤ tt), at 24 (lit≤ tt)))
