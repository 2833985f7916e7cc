-- `tool::word::words`: what `collect` takes in, step by step of the chain.
use Rattle.std.proofs.Common.{List, ℕ, not, length, ◌==◌, nat_le, refl, rules, tests}
use Rattle.std.proofs.lemmas.Iterator.Consumers.{map_from_collect, YieldsList-from_filter}
use Rattle.std.proofs.lemmas.Iterator.Splits.{YieldsList-from_slice_split}
use Rattle.tool.proofs.word.words.Goals as goal

pub returns : goal.returns
returns c =
    let s = c.filter.ensures.source in
    let e = c.split.ensures in
    map_from_collect _ c.collect.ensures.ran
    (YieldsList-from_filter _ (λ (w : List ℕ). not (length w == 0))
    (YieldsList-from_slice_split _ (λ b. nat_le b 32) c.args.line.now (rw s e.rest) (rw s e.done) refl
    (λ x r q k. search (rules, tests)))
    c.filter.ensures.closure
    (λ x r q k. search (rules, tests)))
