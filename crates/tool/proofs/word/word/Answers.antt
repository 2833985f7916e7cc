-- `tool::word::word`: what `nth` steps over, step by step of the chain.
use Rattle.std.proofs.Common.{List, ℕ, not, length, ◌==◌, nat_le, refl, rules, tests}
use Rattle.std.proofs.lemmas.Iterator.Consumers.{nth_from_yields_List, YieldsList-from_filter}
use Rattle.std.proofs.lemmas.Iterator.Splits.{YieldsList-from_slice_split}
use Rattle.tool.proofs.word.word.Goals as goal

pub returns : goal.returns
returns c =
    let s = c.filter.ensures.source in
    let e = c.split.ensures in
    nth_from_yields_List _ _ c.args.k c.nth.ensures.ran
    (YieldsList-from_filter _ (λ (w : List ℕ). not (length w == 0))
    (YieldsList-from_slice_split _ (λ b. nat_le b 32) c.args.line.now (rw s e.rest) (rw s e.done) refl
    (λ x r q k. search (rules, tests)))
    c.filter.ensures.closure
    (λ x r q k. search (rules, tests)))
