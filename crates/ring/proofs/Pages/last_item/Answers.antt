use Rattle.ring.proofs.Laws.{scan_is, spot_mono}
use native.Mathlib.Omega.{arith}
use Rattle.ring.proofs.Pages.last_item.Goals as goal

pub returns : goal.returns
returns c =
    let s = c.args.self.now in (
      rw (scan_is s.geo s.img.now c.args.p (omega (arith, s.held.room)), ← c.data_at.ensures.0, ← c.end_at.ensures.0)
          c.last_in.ensures.0,
      spot_mono _ _ c.last_in.result (omega arith) c.last_in.ensures.1,
    )
