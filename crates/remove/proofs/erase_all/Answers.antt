-- All pages are erased after the cache is emptied.
use mathlib.Core.Path.{refl, ap}
use Prim.Native.Nat.{◌+◌}
use Rattle.rules.specs.declared.{Geo.Geo}
use Rattle.remove.proofs.Laws.{erased_all}
use Rattle.remove.proofs.erase_all.Goals as goal

pub returns-clause-run : goal.returns-clause-run
returns-clause-run c =
    let e = c.erase_all.ensures in
    let f = c.empty.ensures in
    erased_all c.args.storage.now c.empty.new.self _ f.0 f.1 e.same e.erased refl refl refl
    (ap (λ (g : Geo). c.empty.new.self.erased + g.pages) e.same.geo)
