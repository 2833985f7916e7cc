-- `cache::renew` meets its contract: the key's entry moved.
use Rattle.std.proofs.Common.{rules}
use Rattle.cache.proofs.Pointers.{Sized, others-hit}
use Rattle.cache.proofs.Changes.{noted}
use Rattle.cache.specs.declared.Cache.{Cache}
use Rattle.cache.proofs.renew.Goals as goal

pub returns : goal.returns
returns c =
    let a = c.args in
    let p = c.requires in
    let k : Cache = record { keys = a.keys.now; places = a.places.now } in
    let s : Sized a.size k = search rules in
    noted k _ a.size s a.i p.1 a.key a.place (others-hit k a.size s a.key a.i p.2 p.1)
    c.to_front.ensures c.to_front-2.ensures
