-- Histories of a store of three pairs (docs/FORMAT.md, "The life of a store"): their writes, the states that these lead to, and what is
-- computed of a state.
use Rattle.std.specs.Prelude.{◌≡◌, Bool, false, List, [], ◌∷◌, ℕ, Option}
use Rattle.slot.specs.declared.slot.SlotIndex.{SlotIndex}
use Rattle.slot.specs.declared.slot.SlotFields.{SlotFields}
use Rattle.judge.specs.declared.records.SlotRead.{SlotRead}
use Rattle.cut.specs.Store.{slot_at}
use Rattle.cut.specs.Cut.{Tear, Write, next_number}
use Rattle.cut_examples.specs.Stores.{zeros_for, volume_pair, second_page}
use Rattle.cut_examples.specs.Computed.{JudgedAs}
use Rattle.history.specs.History.{Tracked, pairs, started, read_mark, heal_number, Put, write_to, finished, torn_by}

-- `encode` of the fields and the payload into zeros, for the slot that the fields name.
abbrev pub put : SlotFields → (payload : List ℕ) → Tear → Put
put f payload tear = record { index = f.slot_index; fields = f; payload = payload; buffer = zeros_for f; tear = tear }

-- ---- what is computed

-- Of a pair t of the store ts a slot is read so. The judge, handed the mark that is read from pair 0, which is this one, answers this heal,
-- writable, not refused and this clean mark, and writes these verdicts; these records are read back; and those of the pair that may be read
-- are these: the last one finished and those begun after it.
pub record StoreIs (ts : List Tracked) (t : Tracked) (index : SlotIndex) (slot : SlotRead) (mark : Bool) (heal : Option (ℕ × SlotIndex))
    (clean : Bool) (verdict : List ℕ) (records known : List (List ℕ)) : Type 0 where
  pub mark_is : read_mark (pairs ts) ≡ mark
  pub judged : JudgedAs (pairs ts) (slot_at index t.pair) mark slot heal clean verdict records
  pub known_is : t.known ≡ known

-- The number of a write to the pair t of the store ts, and of one that heals it.
pub record NumbersIn (ts : List Tracked) (t : Tracked) (next heal : ℕ) : Type 0 where
  pub next_is : next_number (pairs ts) t.pair ≡ next
  pub heal_is : heal_number (pairs ts) t.pair ≡ heal

-- ---- where pair 1, of operator 0, is written

-- The store with this as its pair 1. Nothing is written to the two others.
abbrev pub store_with : Tracked → List Tracked
store_with t = started volume_pair ∷ t ∷ started second_page ∷ []

-- A write to pair 1.
abbrev pub page_write : Tracked → Put → Write
page_write t q = write_to (started volume_pair ∷ []) t (started second_page ∷ []) q

-- The pair after it, where it was cut, and where it was finished.
abbrev pub torn_page : Tracked → Put → Tracked
torn_page t q = torn_by (page_write t q) t

abbrev pub finished_page : Tracked → Put → Tracked
finished_page t q = finished (page_write t q) t

-- Its slot A is read so; the mark that is read is false, and so is the clean mark that is answered.
abbrev pub StateIs : Tracked → SlotRead → (heal : Option (ℕ × SlotIndex)) → (verdict : List ℕ) → (records known : List (List ℕ)) → Type 0
StateIs t slot heal verdict records known = StoreIs (store_with t) t SlotIndex.A slot false heal false verdict records known

abbrev pub NumbersAre : Tracked → (next heal : ℕ) → Type 0
NumbersAre t next heal = NumbersIn (store_with t) t next heal
