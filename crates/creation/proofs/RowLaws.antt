-- The row while a store is created: what the judge makes of a row without a volume record, and how far the creation is.
use Rattle.std.proofs.Common.{◌≡◌, refl, sym, ap, ◌∙◌, ◌⊎◌, inl, inr, Bool, true, false, ◌||◌, cond, List, [], ◌∷◌, ◌++◌, ℕ, Option, Some, None}
use mathlib.Core.Bool.{and-false, or-true}
use Rattle.slot.specs.declared.slot.SlotIndex.{SlotIndex}
use Rattle.slot.specs.declared.slot.SlotInfo.{SlotInfo}
use Rattle.slot.specs.declared.slot.SlotStatus.{SlotStatus}
use Rattle.slot.specs.declared.slot.HeaderFacts.{HeaderFacts}
use Rattle.slot.specs.declared.slot.NumberedHeader.{NumberedHeader}
use Rattle.judge.specs.Pairs.{is_unsupported, valid, winner, pair_case}
use Rattle.judge.specs.Part.{payload_shown, shown_of}
use Rattle.judge.specs.Verdict.{no_winner, pair_verdict, is_in_flight, in_flight, is_confirmed, is_without_winner}
use Rattle.judge.specs.Judge.{verdicts_from, first_verdicts, first_tally, demoted_slot, demoted, last_verdicts, heal, row_rules, verdicts, judgement}
use Rattle.judge.specs.declared.pairs.PairCase.{PairCase}
use Rattle.judge.specs.declared.pairs.Pair.{Pair as ShownPair}
use Rattle.judge.specs.declared.verdict.SlotVerdict.{SlotVerdict}
use Rattle.judge.specs.declared.verdict.Standing.{Standing}
use Rattle.judge.specs.declared.verdict.PairVerdict.{PairVerdict}
use Rattle.cut.specs.Store.{Every, Pair, slot_at, status, shown, SoundPair, IsRow}
use Rattle.cut.specs.Cut.{new, is_empty}
use Rattle.cut.proofs.EveryLaws.{every_split, every_join, every_map}
use Rattle.cut.proofs.JudgeLaws.{Idle, idle_heal, demoted_none}
use Rattle.cut.proofs.PairLaws.{shown_pair}
use Rattle.cut.proofs.RowLaws.{rule_at}
use Rattle.plan.specs.Promise.{NumberedPair, finished_pair}
use Rattle.plan.proofs.FinishLaws.{row_put}
use Rattle.creation.specs.Creation.{NeitherJudged, NewPair, Creating}
use Rattle.creation.proofs.PairLaws.{finished_sound}

-- ---- without a Valid slot in pair 0

abbrev pub NeverValid : SlotStatus → Type 0
NeverValid st = (i : SlotInfo) → st ≡ SlotStatus.Valid i → ⊥

numbered_none : (n : Option NumberedHeader) → valid (payload_shown n) ≡ None
numbered_none None = refl
numbered_none (Some n) = refl

valid_none : (st : SlotStatus) (f : Option HeaderFacts) → NeverValid st → valid (shown_of st f) ≡ None
valid_none SlotStatus.ReadError f never = refl
valid_none SlotStatus.BadLength f never = refl
valid_none SlotStatus.Blank f never = refl
valid_none SlotStatus.BadMagic f never = refl
valid_none SlotStatus.BadHeaderCrc None never = refl
valid_none SlotStatus.BadHeaderCrc (Some f) never = refl
valid_none (SlotStatus.UnsupportedVersion major) f never = refl
valid_none (SlotStatus.Incompatible flags) f never = refl
valid_none SlotStatus.Malformed f never = refl
valid_none SlotStatus.Foreign f never = refl
valid_none SlotStatus.WrongObject f never = refl
valid_none SlotStatus.Misplaced f never = refl
valid_none SlotStatus.BadPayloadCrc None never = refl
valid_none SlotStatus.BadPayloadCrc (Some f) never = numbered_none f.numbered
valid_none (SlotStatus.Valid i) f never = absurd (never i refl)

-- The verdict on it.
data Without : PairVerdict → Type 0 where
  refused : Without (no_winner Standing.Refused)
  lost : Without (no_winner Standing.Lost)

without : (p : ShownPair) (rule : SlotIndex → Option ℕ → Bool) → valid p.a ≡ None → valid p.b ≡ None → Without (pair_verdict rule (pair_case p))
without p rule a_is b_is =
    rw (a_is, b_is) (go (is_unsupported p.a || is_unsupported p.b))
  where
    go : (unsupported : Bool) → Without (pair_verdict rule (cond unsupported PairCase.Refused (winner p None None)))
    go true = refused
    go false = lost

without_winner : {v : PairVerdict} → Without v → is_without_winner v.standing ≡ true
without_winner refused = refl
without_winner lost = refl

without_trouble : {v : PairVerdict} → Without v → is_confirmed v.standing ≡ false
without_trouble refused = refl
without_trouble lost = refl

without_idle : {v : PairVerdict} → Without v → in_flight v ≡ false
without_idle refused = refl
without_idle lost = refl

-- Then the writes in flight of pages are demoted.
slot_idle : (v : SlotVerdict) → is_in_flight (demoted_slot v) ≡ false
slot_idle SlotVerdict.Winner = refl
slot_idle SlotVerdict.Nothing = refl
slot_idle SlotVerdict.OlderDamaged = refl
slot_idle SlotVerdict.InFlight = refl
slot_idle SlotVerdict.Damage = refl

demoted_idle : (v : PairVerdict) → in_flight (demoted true v) ≡ false
demoted_idle v = go (in_flight v) refl
  where
    go : (flight : Bool) → in_flight v ≡ flight → in_flight (demoted true v) ≡ false
    go true is = simp (is, slot_idle v.a, slot_idle v.b)
    go false is = simp (is)

all_idle : (vs : List PairVerdict) → Every Idle (last_verdicts true true vs)
all_idle [] = Every.none
all_idle (v ∷ vs) = Every.more (demoted_idle v) (all_idle vs)

-- So none is named.
none_named : {v : PairVerdict} (vs : List PairVerdict) (volume page : Bool) → Without v → page ≡ true
    → heal 0 (last_verdicts volume page (v ∷ vs)) ≡ None
none_named {v} vs volume page without_it demotes =
    rw demotes (idle_heal (Every.more {x = demoted volume v} (ap in_flight (demoted_none volume v (without_idle without_it)) ∙ without_idle without_it) (all_idle vs)) 0)

pub neither_judged : NeitherJudged
unfolding judgement verdicts row_rules first_tally first_verdicts
neither_judged p ps never =
    let none = without (shown_pair p) (rule_at p.operator (shown (p ∷ ps)) 0) (valid_none (status p.a) _ (never SlotIndex.A))
    (valid_none (status p.b) _ (never SlotIndex.B)) in
    record {
      unwritable = λ clean. simp (without_winner none, and-false);
      heal =
          λ clean.
          none_named (verdicts_from (shown (p ∷ ps)) 1 (shown ps)) (row_rules (shown (p ∷ ps)) clean).volume_demote
          (row_rules (shown (p ∷ ps)) clean).page_demote none (simp (without_trouble none, or-true));
    }

pub blank_never : (st : SlotStatus) → st ≡ SlotStatus.Blank → NeverValid st
blank_never st blank i is = let never : SlotStatus.Blank ≡ SlotStatus.Valid i = sym blank ∙ is in absurd cc

-- ---- how far it is

-- Pair 0 was not written, and of the others some; or all were.
pub data Stage : List Pair → Type 0 where
  unmade : {p : Pair} {ps : List Pair} → NewPair p → Every (λ (q : Pair). NewPair q ⊎ SoundPair q) ps → Stage (p ∷ ps)
  made : {ps : List Pair} → Every SoundPair ps → Stage ps

begun : {ps : List Pair} → IsRow ps → Every NewPair ps → Stage ps
begun is_row (Every.more new rest) = Stage.unmade new (every_map (λ (q : Pair) (is : NewPair q). inl is) rest)
begun is_row Every.none = Stage.made Every.none

none_new : {ps : List Pair} → Every (λ (q : Pair). NewPair q ⊎ SoundPair q) ps → Every (λ (q : Pair). NewPair q → ⊥) ps → Every SoundPair ps
none_new Every.none Every.none = Every.none
none_new (Every.more (inl new) rest) (Every.more not_new others) = absurd (not_new new)
none_new (Every.more (inr sound) rest) (Every.more not_new others) = Every.more sound (none_new rest others)

behind_sound : (p : Pair) (behind : List Pair) → Stage (p ∷ behind) → Every (λ (q : Pair). NewPair q → ⊥) behind → Every SoundPair behind
behind_sound p behind (Stage.unmade new rest) last = none_new rest last
behind_sound p behind (Stage.made (Every.more sound rest)) last = rest

-- With a sound pair in a pair's place, pair 0's when no other one is new.
pub stage_put : (before : List Pair) (p : Pair) (behind : List Pair) → Stage (before ++ p ∷ behind) → (q : Pair) → SoundPair q
    → (is_empty before ≡ true → Every (λ (u : Pair). NewPair u → ⊥) behind) → Stage (before ++ q ∷ behind)
stage_put [] p behind stage q sound last = Stage.made (Every.more sound (behind_sound p behind stage (last refl)))
stage_put (u ∷ before) p behind (Stage.unmade new rest) q sound last =
    let split = every_split before p behind rest in
    Stage.unmade new (every_join split.0 (inr sound) split.2)
stage_put (u ∷ before) p behind (Stage.made (Every.more first rest)) q sound last =
    let split = every_split before p behind rest in
    Stage.made (Every.more first (every_join split.0 sound split.2))

pub row_of : {ps : List Pair} → Creating ps → IsRow ps
row_of (Creating.begin is_row new) = is_row
row_of (Creating.write w creating first) = row_put w.before w.pair w.behind w.index (new w) (row_of creating)

pub stage_of : {ps : List Pair} → Creating ps → Stage ps
stage_of (Creating.begin is_row new) = begun is_row new
stage_of (Creating.write w creating first) =
    stage_put w.before w.pair w.behind (stage_of creating) (finished_pair w) (finished_sound w first).0 first.volume_last

-- Once pair 0 was written all pairs are sound.
pub all_sound : (q : Pair) (behind : List Pair) → SoundPair q → Stage (q ∷ behind) → Every SoundPair (q ∷ behind)
all_sound q behind sound (Stage.unmade new rest) =
    absurd (blank_never (status (slot_at sound.newer q)) (new.blank sound.newer) sound.info sound.valid)
all_sound q behind sound (Stage.made all) = all

-- ---- in any stage

each : {ps : List Pair} → Stage ps → Every (λ (q : Pair). NewPair q ⊎ SoundPair q) ps
each (Stage.unmade new rest) = Every.more (inl new) rest
each (Stage.made all) = every_map (λ (q : Pair) (sound : SoundPair q). inr sound) all

either_numbered : (p : Pair) → NewPair p ⊎ SoundPair p → NumberedPair p
either_numbered p (inl new) = new.slots
either_numbered p (inr sound) = sound.slots

pub stage_numbered : {ps : List Pair} → Stage ps → Every NumberedPair ps
stage_numbered stage = every_map either_numbered (each stage)
