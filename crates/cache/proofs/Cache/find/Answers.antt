-- `Cache::find` meets its contract, by what the index of the key tells.
use mathlib.Core.Path.{refl}
use Rattle.std.proofs.Common.{rules}
use Rattle.cache.proofs.Pointers.{Sized, find_hit, held, none}
use Rattle.cache.proofs.Cache.find.Goals as goal

pub returns-in_err-i : goal.returns-in_err-i
returns-in_err-i c =
    let a = c.args in
    let s : Sized a.size a.self.now = search rules in
    rw c.from_residual.ensures (none a.self.now a.size s a.key _ refl c.in_err-i.ensures)

pub returns : goal.returns
returns c =
    let a = c.args in
    let s : Sized a.size a.self.now = search rules in
    let f = c.in_ok-i.ensures in
    let same = find_hit a.self.now a.size s a.key _ f.1 f.0 in
    (rw same (held a.self.now a.size s a.key _ f.1 f.0), same)
