-- Runs: going on by the answer's number.
use Rattle.std.specs.Prelude.{◌≡◌, ◌≢◌, ℕ}
use Rattle.std.proofs.Common.{eq-eqb, ne_eqb}
use Rattle.rules.specs.Answers.{number}
use Rattle.rules.specs.Runs.{St, Out, after, on}

pub on_yes : (n : ℕ) (o : Out) (f : St → Out) → number o.ans ≡ n → on n o f ≡ after o.steps (f o.st)
unfolding on
on_yes n o f e = rw (eq-eqb (number o.ans) n e)

pub on-no : (n : ℕ) (o : Out) (f : St → Out) → number o.ans ≢ n → on n o f ≡ o
unfolding on
on-no n o f e = rw (ne_eqb (number o.ans) n e)
