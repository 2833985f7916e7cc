-- `Cache::empty` meets its contract: zeros in both arrays are empty entries.
use mathlib.Core.Path.{◌≡◌}
use lib.ListN.{replicate}
use Rattle.std.proofs.Common.{rules}
use Rattle.cache.proofs.Pointers.{Sized}
use Rattle.cache.proofs.Changes.{cleared}
use Rattle.cache.proofs.Cache.empty.Goals as goal

pub returns : goal.returns
returns c =
    let a = c.args in
    let s : Sized a.size a.self.now = search rules in
    let k : c.fill.new.self ≡ replicate a.size 0 = search rules in
    let p : c.fill-2.new.self ≡ replicate a.size 0 = search rules in
    cleared a.self.now _ a.size s (rw k) (rw p)
