-- `Cache::note` meets its contract: no entries, the key's entry moved, or the last entry dropped.
use mathlib.Core.Path.{refl}
use native.Mathlib.Omega.{arith}
use Rattle.std.proofs.Common.{rules}
use Rattle.rules.specs.Cache.{note}
use Rattle.cache.specs.Code.{pointers}
use Rattle.cache.proofs.Pointers.{Sized, others-cut}
use Rattle.cache.proofs.Changes.{noted}
use Rattle.cache.proofs.Cache.note.Goals as goal

pub returns-then-size-eq0 : goal.returns-then-size-eq0
unfolding note pointers
returns-then-size-eq0 c = record {
  noted = rw c.if-size-eq0.true;
  past = record { keys_past = refl; places_past = refl };
  keys_long = search rules;
  places_long = search rules;
}

pub returns : goal.returns
returns c =
    let a = c.args in
    let k = a.self.now in
    let s : Sized a.size k = search rules in
    let o = rw (← c.unwrap_or-i.ensures) at (others-cut k a.size s a.key c.seek.result c.seek.ensures (omega arith)) in
    noted k _ a.size s c.unwrap_or-i.result o.0 a.key a.place o.1 c.to_front.ensures c.to_front-2.ensures
