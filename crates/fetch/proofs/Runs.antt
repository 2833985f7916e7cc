-- Runs over a storage, step by step.
use mathlib.Core.Path.{◌≡◌, refl, ap}
use Prim.Native.Nat.{ℕ, ◌+◌, ◌≤◌}
use native.Mathlib.Omega.{arith}
use mathlib.Core.List.{List}
use Rattle.rules.specs.declared.{Answer.Answer}
use Rattle.rules.specs.Bytes.{pick}
use Rattle.rules.specs.Answers.{is_no}
use Rattle.rules.specs.Runs.{St, Out, out, on, programming, erasing}
use Rattle.laws.specs.Through.{thr_refl, thr_from, thr_to, thr_then, thr_program, thr_erase, thr_on}
use Rattle.ring.specs.Flash.{Programmed}
use Rattle.fetch.specs.declared.storage.Storage.{Storage}
use Rattle.fetch.specs.Code.{st_of, KeepsImage, ErasesPage, Came}
use Rattle.fetch.proofs.Laws.{keeps_refl, keeps_trans, past_refl}

pub came_refl : (s : Storage) (o : Out) → Came 0 s s o o
came_refl s o = record {
  is = thr_refl s.flash.now.geo o s.flash.now.img.now s.flash.now.power;
  keeps = keeps_refl s;
  erased = omega arith;
}

pub came_then : {a b : ℕ} {old mid new : Storage} {o o' o'' : Out} → Came a old mid o o' → Came b mid new o' o''
    → Came (a + b) old new o o''
came_then {a} {b} {old} {mid} {new} {o} {o'} {o''} p q =
    let r = q.is in
    record {
      is = thr_then old.flash.now.geo p.is (rw p.keeps.same.geo at r);
      keeps = keeps_trans old mid new p.keeps q.keeps;
      erased = omega (arith, p.erased, q.erased);
    }

pub came_more : {a b : ℕ} {old new : Storage} {o o' : Out} → a ≤ b → Came a old new o o' → Came b old new o o'
came_more {a} {b} {old} {new} h p = record { is = p.is; keeps = p.keeps; erased = omega (arith, p.erased) }

pub came_from : {b : ℕ} {old new : Storage} {o o' o'' : Out} → o ≡ o' → Came b old new o' o'' → Came b old new o o''
came_from {b} {old} {new} e p = record { is = thr_from old.flash.now.geo e p.is; keeps = p.keeps; erased = p.erased }

pub came_to : {b : ℕ} {old new : Storage} {o o' o'' : Out} → Came b old new o o' → o' ≡ o'' → Came b old new o o''
came_to {b} {old} {new} p e = record { is = thr_to old.flash.now.geo p.is e; keeps = p.keeps; erased = p.erased }

-- nothing but the cache has changed
pub came_still : (old new : Storage) (o : Out) → KeepsImage old new → Came 0 old new o o
came_still old new o K = record {
  is = rw (K.image, K.power) (thr_refl old.flash.now.geo o old.flash.now.img.now old.flash.now.power);
  keeps = K.keeps;
  erased = omega (arith, K.erased);
}

-- bytes are programmed
pub came_program : (at : ℕ) (bs : List ℕ) (k : St → Out) (old new : Storage) → Programmed old.flash.now new.flash.now at bs
    → new.flash.ghost_name ≡ old.flash.ghost_name → new.slots ≡ old.slots → new.cache ≡ old.cache
    → new.erased ≡ old.erased → Came 0 old new (programming at bs (st_of old) k) (k (st_of new))
came_program at bs k old new P lent slots cache erased = record {
  is = thr_to old.flash.now.geo (thr_program old.flash.now.geo at bs (st_of old) k new.flash.now.img.now old.flash.now.power
      new.flash.now.power P.wrote) (ap k (rw (slots, cache, erased) refl));
  keeps = record { lent = lent; same = P.same; slots = slots; past = rw cache (past_refl old.slots.count old.cache) };
  erased = omega arith;
}

-- a page is erased
pub came_erase : (q : ℕ) (k : St → Out) (old new : Storage) → ErasesPage old new q
    → Came 1 old new (erasing old.flash.now.geo q (st_of old) k) (k (st_of new))
came_erase q k old new E = record {
  is = thr_to old.flash.now.geo (thr_erase old.flash.now.geo q (st_of old) k new.flash.now.img.now old.flash.now.power new.flash.now.power
      E.page.blanked) (ap k (rw (E.slots, E.cache, E.erased) refl));
  keeps = record { lent = E.lent; same = E.page.same; slots = E.slots; past = rw E.cache (past_refl old.slots.count old.cache) };
  erased = omega (arith, E.erased);
}

-- a run goes on where it answers this number
pub came_on : {b : ℕ} {old new : Storage} {o : Out} (n : ℕ) (f : St → Out) (a : Answer)
    → Came b old new o (out a (st_of new))
    → Came b old new (on n o f) (pick (is_no n a) (f (st_of new)) (out a (st_of new)))
came_on {b} {old} {new} {o} n f a p = record {
  is = thr_on old.flash.now.geo n o f old.flash.now.img.now new.flash.now.img.now old.flash.now.power new.flash.now.power a (st_of new) p.is;
  keeps = p.keeps;
  erased = p.erased;
}
