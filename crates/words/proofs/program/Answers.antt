-- The bytes that the power allows are programmed, and it pays for them.
use Rattle.words.proofs.Laws.{wrote_some}
use native.Mathlib.Omega.{arith}
use Rattle.words.proofs.program.Goals as goal

pub returns : goal.returns
returns c =
    let a = c.args in
    wrote_some a.img.now c.and_bytes.new.img a.b.now a.power.now c.spend.result a.at c.min-allowed.result (omega arith)
    (omega arith) c.and_bytes.ensures c.spend.ensures
