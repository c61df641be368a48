-- A list taken apart at one of its elements: a property of every element, another element in its place, and a property that follows.
use Rattle.std.proofs.Common.{◌≡◌, sym, ◌∙◌, List, [], ◌∷◌, ◌++◌, length, length-append}
use Rattle.cut.specs.Store.{Every}

pub every_split : {T : Type 0} {P : T → Type 0} (before : List T) (t : T) (behind : List T) → Every P (before ++ t ∷ behind)
    → Every P before × P t × Every P behind
every_split [] t behind (Every.more first rest) = (Every.none, first, rest)
every_split (q ∷ before) t behind (Every.more first rest) = let all = every_split before t behind rest in (Every.more first all.0, all.1, all.2)

pub every_join : {T : Type 0} {P : T → Type 0} {before : List T} {t : T} {behind : List T} → Every P before → P t → Every P behind
    → Every P (before ++ t ∷ behind)
every_join Every.none here rest = Every.more here rest
every_join (Every.more first all) here rest = Every.more first (every_join all here rest)

pub every_map : {T : Type 0} {P Q : T → Type 0} {xs : List T} → ((x : T) → P x → Q x) → Every P xs → Every Q xs
every_map f Every.none = Every.none
every_map f (Every.more {x} here rest) = Every.more (f x here) (every_map f rest)

pub same_length : {T : Type 0} (before : List T) (t u : T) (behind : List T) → length (before ++ t ∷ behind) ≡ length (before ++ u ∷ behind)
same_length before t u behind = length-append before (t ∷ behind) ∙ sym (length-append before (u ∷ behind))
