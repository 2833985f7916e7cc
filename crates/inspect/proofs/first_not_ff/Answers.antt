use Rattle.std.proofs.Common.{◌≡◌, arith, rules, tests}
use Rattle.std.proofs.lemmas.Iterator.{IsFirst-from_position, YieldsList-from_slice}
use Rattle.inspect.proofs.Laws.{ff_none, ff_some}
use Rattle.inspect.proofs.first_not_ff.Goals as goal

pub returns-in_err-passed : goal.returns-in_err-passed
returns-in_err-passed c =
    let first = IsFirst-from_position _ _ _ (λ x. x ≡ 255 → ⊥) (λ x. x ≡ 255) c.position.ensures.ran
    (YieldsList-from_slice _ c.iter.ensures.rest) (λ x q k. search (rules, tests)) (λ x q k. search (rules, tests)) in
    let all = rw c.in_err-passed.was at first in
    rw c.from_residual.ensures (ff_none _ (λ k l. all k 0 (omega arith) l))

pub returns : goal.returns
returns c =
    let first = IsFirst-from_position _ _ _ (λ x. x ≡ 255 → ⊥) (λ x. x ≡ 255) c.position.ensures.ran
    (YieldsList-from_slice _ c.iter.ensures.rest) (λ x q k. search (rules, tests)) (λ x q k. search (rules, tests)) in
    let one = rw c.in_ok-passed.was at first in
    ff_some c.args.a _ c.in_ok-passed.passed one.0 (one.1 0) (λ k l. one.2 k 0 (omega arith) l)
