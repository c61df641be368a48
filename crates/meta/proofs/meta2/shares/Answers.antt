-- `shares` meets its contract: the eights and the rest are all of the entries, and `any` asks each of them.
use Rattle.std.proofs.Common.{◌∙◌, rules, tests}
use Rattle.std.proofs.lemmas.Iterator.{YieldsList-from_slice}
use Rattle.std.proofs.lemmas.Iterator.Search.{any_from_yields_List}
use Rattle.meta.specs.Page.{shares}
use Rattle.meta.proofs.PageLaws.{scanned}
use Rattle.meta.proofs.meta2.shares.Goals as goal

pub returns-then-any : goal.returns-then-any
returns-then-any c =
    let ran = any_from_yields_List {all = c.as_chunks.result.0.now} (λ es. shares c.args.number es) _ _ _ c.any.ensures.ran (YieldsList-from_slice c.as_chunks.result.0.now cc) (λ x b q k. search (rules, tests)) in
    let all = scanned _ _ _ _ _ _ c.as_chunks.ensures.front c.as_chunks.ensures.back ran in
    c.if-any.true ∙ (rw c.if-any.true at all)

pub returns-else-any : goal.returns-else-any
returns-else-any c =
    let ran = any_from_yields_List {all = c.as_chunks.result.0.now} (λ es. shares c.args.number es) _ _ _ c.any.ensures.ran (YieldsList-from_slice c.as_chunks.result.0.now cc) (λ x b q k. search (rules, tests)) in
    let all = scanned _ _ _ _ _ _ c.as_chunks.ensures.front c.as_chunks.ensures.back ran in
    c.one_of.ensures ∙ (rw c.if-any.false at all)
