use Rattle.items.proofs.Laws.{fine_stays}
use native.Mathlib.Omega.{arith}
use Rattle.items.proofs.look_at.Goals as goal

pub returns : goal.returns
returns c =
    let a = c.args in (
      c.look.ensures.0,
      fine_stays a.w a.img.now a.at a.e c.look.result (omega arith) (omega arith) (omega arith) c.look.ensures.1,
    )
