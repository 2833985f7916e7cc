-- `Cache::forget` meets its contract: the entry pulled out of both arrays, or no entry with the key.
use mathlib.Core.Path.{refl}
use Rattle.std.proofs.Common.{rules}
use Rattle.rules.specs.Cache.{forget}
use Rattle.cache.proofs.Pointers.{Sized, hit, none}
use Rattle.cache.proofs.Changes.{forgotten}
use Rattle.cache.proofs.Cache.forget.Goals as goal

pub returns-in-Some : goal.returns-in-Some
returns-in-Some c =
    let a = c.args in
    let k = a.self.now in
    let s : Sized a.size k = search rules in
    let f = c.in-Some.ensures in
    forgotten k _ a.size s c.in-Some.i f.0 a.key (hit k a.size s a.key _ f.1 f.0) c.pull.ensures c.pull-in-Some.ensures

pub returns-in_default : goal.returns-in_default
unfolding forget
returns-in_default c =
    let a = c.args in
    let s : Sized a.size a.self.now = search rules in
    let z = none a.self.now a.size s a.key _ refl c.in_default.ensures in
    (rw z, record { keys_past = refl; places_past = refl })
