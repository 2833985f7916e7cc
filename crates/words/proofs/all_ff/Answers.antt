use Rattle.std.proofs.Common.{eqb, refl, ◌∙◌, rules, tests}
use Rattle.std.specs.List.{list_all}
use Rattle.std.proofs.lemmas.Iterator.{YieldsList-from_slice}
use Rattle.std.proofs.lemmas.Iterator.Search.{all_from_yields_List}
use Rattle.words.proofs.Laws.{eight_ff, ff_parts}
use Rattle.words.proofs.all_ff.Goals as goal

pub returns-then-all : goal.returns-then-all
returns-then-all c =
    let p = c.as_chunks in
    let front = all_from_yields_List eight_ff _ _ c.all.result c.all.ensures.ran
    (YieldsList-from_slice p.result.0.now cc) (λ x b q k. search (rules, tests)) in
    let last = all_from_yields_List (λ x. eqb x 255) _ _ c.all-then-all.result c.all-then-all.ensures.ran
    (YieldsList-from_slice p.result.1.now cc) (λ x b q k. search (rules, tests)) in
    rw c.if-all.true at (ff_parts c.args.s.now p.result.1.now p.result.0.now c.all.result c.all-then-all.result
    (λ i. (c.type_inv.s i).fits) p.ensures.front p.ensures.back front last)

pub returns-else-all : goal.returns-else-all
returns-else-all c =
    let p = c.as_chunks in
    let front = all_from_yields_List eight_ff _ _ c.all.result c.all.ensures.ran
    (YieldsList-from_slice p.result.0.now cc) (λ x b q k. search (rules, tests)) in
    c.if-all.false
    ∙ (rw c.if-all.false at (ff_parts c.args.s.now p.result.1.now p.result.0.now c.all.result
    (list_all (λ x. eqb x 255) p.result.1.now) (λ i. (c.type_inv.s i).fits) p.ensures.front p.ensures.back front refl))
