-- `Cache::seek` meets its contract: the first elements of both arrays are the first entries.
use mathlib.Core.Path.{◌≡◌}
use lib.ListN.{length, take}
use lib.Seq.{length-take-le}
use Rattle.std.proofs.Common.{rules}
use native.Mathlib.Omega.{arith}
use Rattle.cache.specs.Code.{pointers}
use Rattle.cache.proofs.Entries.{entries-take}
use Rattle.cache.proofs.Pointers.{Sized}
use Rattle.cache.proofs.Cache.seek.Goals as goal

pub returns : goal.returns
unfolding pointers
returns c =
    let a = c.args in
    let s : Sized a.size a.self.now = search rules in
    let long : length (take a.size a.self.now.keys) ≡ a.size =
    length-take-le a.size a.self.now.keys (omega (arith, s.within, s.keys_long)) in
    rw (entries-take a.size a.self.now.keys a.self.now.places, long) at c.index_of.ensures
