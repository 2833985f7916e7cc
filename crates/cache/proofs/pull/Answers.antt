-- `pull` meets its contract: the elements after the one at j over it, and a 0 over the last of them.
use native.Mathlib.Omega.{arith}
use Rattle.cache.proofs.Cut.{pulled}
use Rattle.cache.proofs.pull.Goals as goal

pub returns : goal.returns
returns c = let a = c.args in rw c.copy_within.ensures.after (pulled a.a.now a.j a.n 0 (omega arith) (omega arith))
