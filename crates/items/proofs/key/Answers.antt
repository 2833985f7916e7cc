use lib.Seq.{take-take}
use lib.ListN.{drop}
use native.Mathlib.Omega.{arith}
use Rattle.items.proofs.key.Goals as goal

pub returns : goal.returns
returns c = rw (take-take 4 c.args.len (drop 8 c.args.s.now) (omega arith), ← c.le32.ensures)
