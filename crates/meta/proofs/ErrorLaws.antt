-- A refusal's number tells the refusal: a list has each at its number.
use Rattle.std.proofs.Common.{◌≡◌, refl, sym, ap, ◌∙◌, List, [], ◌∷◌, ℕ, ◌-◌, get_or}
use Rattle.meta.specs.Error.{number, Numbered}
use Rattle.meta.specs.declared.meta.Field.{Field}
use Rattle.meta.specs.declared.meta.MetaError.{MetaError}

-- From 11 on; 14 to 19 are no number.
abbrev errors : List MetaError
errors =
    MetaError.Length ∷ MetaError.Duplicate ∷ MetaError.Unaligned
    ∷ MetaError.Length ∷ MetaError.Length ∷ MetaError.Length ∷ MetaError.Length ∷ MetaError.Length ∷ MetaError.Length
    ∷ MetaError.Field Field.Features ∷ MetaError.Field Field.Flags ∷ MetaError.Field Field.Reserved ∷ MetaError.Field Field.Log2BlockSize
    ∷ MetaError.Field Field.Log2TableSlotSize ∷ MetaError.Field Field.TableOffset ∷ MetaError.Field Field.TablePages ∷ MetaError.Field Field.EntriesPerPage
    ∷ MetaError.Field Field.CleanClose ∷ MetaError.Field Field.PageIndex ∷ MetaError.Field Field.Count ∷ MetaError.Field Field.Seq
    ∷ MetaError.Field Field.Log2Block ∷ MetaError.Field Field.Kind ∷ MetaError.Field Field.State ∷ MetaError.Field Field.Name
    ∷ MetaError.Field Field.DataSize ∷ MetaError.Field Field.Span ∷ MetaError.Field Field.Capacity ∷ MetaError.Field Field.Header
    ∷ MetaError.Field Field.FootprintSeq ∷ MetaError.Field Field.Slot ∷ MetaError.Field Field.ExtentCount
    ∷ []

abbrev error_at : ℕ → MetaError
error_at n = get_or errors (n - 11) MetaError.Length

told : (e : MetaError) → error_at (number e) ≡ e
told MetaError.Length = refl
told MetaError.Duplicate = refl
told MetaError.Unaligned = refl
told (MetaError.Field Field.Features) = refl
told (MetaError.Field Field.Flags) = refl
told (MetaError.Field Field.Reserved) = refl
told (MetaError.Field Field.Log2BlockSize) = refl
told (MetaError.Field Field.Log2TableSlotSize) = refl
told (MetaError.Field Field.TableOffset) = refl
told (MetaError.Field Field.TablePages) = refl
told (MetaError.Field Field.EntriesPerPage) = refl
told (MetaError.Field Field.CleanClose) = refl
told (MetaError.Field Field.PageIndex) = refl
told (MetaError.Field Field.Count) = refl
told (MetaError.Field Field.Seq) = refl
told (MetaError.Field Field.Log2Block) = refl
told (MetaError.Field Field.Kind) = refl
told (MetaError.Field Field.State) = refl
told (MetaError.Field Field.Name) = refl
told (MetaError.Field Field.DataSize) = refl
told (MetaError.Field Field.Span) = refl
told (MetaError.Field Field.Capacity) = refl
told (MetaError.Field Field.Header) = refl
told (MetaError.Field Field.FootprintSeq) = refl
told (MetaError.Field Field.Slot) = refl
told (MetaError.Field Field.ExtentCount) = refl

pub numbered : Numbered
numbered e f same = sym (told e) ∙ ap error_at same ∙ told f
