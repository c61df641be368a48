-- Why metadata is refused (docs/FORMAT.md, "Refusals"): the number of each refusal, and what is wrong in words.
use Rattle.std.specs.Prelude.{◌≡◌, ℕ, List, codes, Result, Ok, Err}
use Rattle.meta.specs.declared.meta.Field.{Field}
use Rattle.meta.specs.declared.meta.MetaError.{MetaError}

abbrev pub field_number : Field → ℕ
field_number Field.Features = 20
field_number Field.Flags = 21
field_number Field.Reserved = 22
field_number Field.Log2BlockSize = 23
field_number Field.Log2TableSlotSize = 24
field_number Field.TableOffset = 25
field_number Field.TablePages = 26
field_number Field.EntriesPerPage = 27
field_number Field.CleanClose = 28
field_number Field.PageIndex = 29
field_number Field.Count = 30
field_number Field.Seq = 31
field_number Field.Log2Block = 32
field_number Field.Kind = 33
field_number Field.State = 34
field_number Field.Name = 35
field_number Field.DataSize = 36
field_number Field.Span = 37
field_number Field.Capacity = 38
field_number Field.Header = 39
field_number Field.FootprintSeq = 40
field_number Field.Slot = 41
field_number Field.ExtentCount = 42

abbrev pub number : MetaError → ℕ
number MetaError.Length = 11
number MetaError.Duplicate = 12
number MetaError.Unaligned = 13
number (MetaError.Field field) = field_number field

-- Two refusals with the same number are the same.
abbrev pub Numbered : Type 0
Numbered = (e f : MetaError) → number e ≡ number f → e ≡ f

abbrev pub field_text : Field → List ℕ
field_text Field.Features = codes "features are set that this format does not define"
field_text Field.Flags = codes "flags are set that this format does not define"
field_text Field.Reserved = codes "bytes that must be zero are not"
field_text Field.Log2BlockSize = codes "the block size is not 4 KiB to 64 KiB"
field_text Field.Log2TableSlotSize = codes "the table slot size is not from the block size to 64 KiB"
field_text Field.TableOffset = codes "the table does not begin behind two blocks"
field_text Field.TablePages = codes "the table has no page, too many, or ends behind the file"
field_text Field.EntriesPerPage = codes "the entries per page are not what a table slot holds"
field_text Field.CleanClose = codes "the clean mark is neither 0 nor 1"
field_text Field.PageIndex = codes "the page has another index"
field_text Field.Count = codes "the number of the page's entries is wrong"
field_text Field.Seq = codes "an entry's sequence number was not given out yet"
field_text Field.Log2Block = codes "the container's block size is not 4 KiB to 64 KiB"
field_text Field.Kind = codes "the region's kind is not defined"
field_text Field.State = codes "the region is not ready"
field_text Field.Name = codes "the region's name is not 1 to 24 printable bytes of UTF-8, zeros behind them"
field_text Field.DataSize = codes "the region's data exceeds its capacity"
field_text Field.Span = codes "the region's span is empty or ends behind the file"
field_text Field.Capacity = codes "the region's capacity is zero or exceeds its span"
field_text Field.Header = codes "the region's two headers are not in its span behind the table, in two places"
field_text Field.FootprintSeq = codes "the footprint's number is zero or above the page's"
field_text Field.Slot = codes "a slot region has extents or a data area"
field_text Field.ExtentCount = codes "the region has no extent"

abbrev pub error_text : MetaError → List ℕ
error_text MetaError.Length = codes "the payload's length does not match its layout"
error_text (MetaError.Field field) = field_text field
error_text MetaError.Duplicate = codes "two entries share a sequence number"
error_text MetaError.Unaligned = codes "an offset or a size is not block-aligned"

-- ---- what a check gives

-- The next check, unless one has failed.
infixl 10 ◌>>=◌
abbrev pub ◌>>=◌ : {A B : Type 0} → Result A MetaError → (A → Result B MetaError) → Result B MetaError
(Ok x) >>= f = f x
(Err e) >>= f = Err e

abbrev pub after : {A : Type 0} → Result (Unit {0}) MetaError → Result A MetaError → Result A MetaError
after (Ok pass) next = next
after (Err e) next = Err e

abbrev pub refused : {A : Type 0} → Field → Result A MetaError
refused field = Err (MetaError.Field field)
