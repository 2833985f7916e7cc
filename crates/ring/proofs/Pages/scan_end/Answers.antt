use Rattle.ring.proofs.Laws.{scan_is}
use native.Mathlib.Omega.{arith}
use Rattle.ring.proofs.Pages.scan_end.Goals as goal

pub returns : goal.returns
returns c =
    let s = c.args.self.now in (
      rw (scan_is s.geo s.img.now c.args.p (omega (arith, s.held.room)), ← c.data_at.ensures.0, ← c.end_at.ensures.0)
          c.end_in.ensures.0,
      omega arith,
      omega arith,
    )
