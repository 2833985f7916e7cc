use Rattle.std.proofs.Common.{◌≡◌, ℕ, suc, ◌-◌, ◌<◌, Bool, true, false, cond, ◌||◌, List, refl, length, get_or, drop, drop-cons, eqb, arith, add-one, ◌≢◌, get_or-set_same, get_or-set_other, ⊎_elim}
use Rattle.std.proofs.Math.Nat.{eq-or-lt_of_le}
use Rattle.std.proofs.lemmas.Bool.Decides.{nat_tests}
use Rattle.tool.specs.Last.{member}
use Rattle.tool.proofs.last.lasts.Goals as goal

either : (a b : Bool) → (a || b) ≡ cond a true b
either true b = refl
either false b = refl

same : (a b : ℕ) → eqb a b ≡ eqb b a
same a b = grind (arith, nat_tests)

-- the key before i, and those from i on
member_step : (q : ℕ) (keys : List ℕ) (i : ℕ) → i < length keys
    → member q (drop i keys) ≡ cond (eqb (get_or keys i 0) q) true (member q (drop (suc i) keys))
member_step q keys i h =
    rw (drop-cons keys i 0 h, same q (get_or keys i 0))
    (either (eqb (get_or keys i 0) q) (member q (drop (suc i) keys)))

pub loop-i-preserved : goal.loop-i-preserved
loop-i-preserved c =
    let keys = c.args.keys.now in
    let i = c.loop-i.i in
    let l = c.loop-i.invariant in
    let e = c.in_ok-lasts-2.ensures in
    let n : suc (i - 1) ≡ i = omega arith in
    record {
      as_long = omega arith;
      has =
          λ q.
          (let m = rw n at (member_step q keys (i - 1) (omega arith)) in
          grind (arith, m, e.updates.0 q, l.has q));
      known =
          λ k f g.
          ⊎_elim
          (λ (q : i - 1 ≡ k). let here : k < length c.loop-i.lasts.items = omega arith in
          let p : suc k ≡ i = omega arith in
          rw (q, get_or-set_same, e.added, q, l.has (get_or keys k 0), add-one k, p))
          (λ (o : i - 1 < k). let other : k ≢ i - 1 = omega arith in rw get_or-set_other (l.known k (omega arith) g))
          (eq-or-lt_of_le f);
    }
