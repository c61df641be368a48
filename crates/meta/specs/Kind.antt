-- Region kinds (1 append, 2 page, 3 slot) and states (docs/FORMAT.md, "Entries").
use Rattle.std.specs.Prelude.{ℕ, ◌==◌, if◌then◌else◌, Option, Some, None, Result}
use Rattle.std.specs.Option.{ok_or}
use Rattle.meta.specs.declared.meta.Field.{Field}
use Rattle.meta.specs.declared.meta.MetaError.{MetaError}
use Rattle.meta.specs.declared.meta.RegionKind.{RegionKind}
use Rattle.meta.specs.declared.meta.RegionState.{RegionState}

abbrev pub kind_number : RegionKind → ℕ
kind_number RegionKind.Append = 1
kind_number RegionKind.Page = 2
kind_number RegionKind.Slot = 3

abbrev pub kind_of : ℕ → Option RegionKind
kind_of v =
    if v == 1 then Some RegionKind.Append
    else if v == 2 then Some RegionKind.Page
    else if v == 3 then Some RegionKind.Slot
    else None

-- 33 for any other number.
abbrev pub kind_at : ℕ → Result RegionKind MetaError
kind_at v = ok_or (kind_of v) (MetaError.Field Field.Kind)

abbrev pub state_number : RegionState → ℕ
state_number RegionState.Ready = 1
state_number RegionState.Released = 2

abbrev pub state_of : ℕ → Option RegionState
state_of v = if v == 1 then Some RegionState.Ready else if v == 2 then Some RegionState.Released else None

-- 34 for any other number.
abbrev pub state_at : ℕ → Result RegionState MetaError
state_at v = ok_or (state_of v) (MetaError.Field Field.State)
