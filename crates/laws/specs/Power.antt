-- Power: bytes and flash steps while the power lasts. What is programmed in pieces is programmed as a whole, with every
-- power (wrote_append); steps in two stretches are the steps of both (cut-append); without power nothing changes
-- (cut-none).
use Rattle.std.specs.Prelude.{◌≡◌, refl, ◌⊎◌, ℕ, zero, suc, ◌+◌, ◌-◌, ◌≤◌, ◌<◌, Bool, true, false, List, [], ◌∷◌, ◌++◌, length, take, drop, leb}
use Rattle.std.proofs.Common.{sym, ap, ◌∙◌, subst, inl, inr, ⊎_elim, append-nil, length-append, length-take, length-drop, take_all, take-add, length-take-le, arith, leb-true, leb-false, le-leb}
use Rattle.std.proofs.Math.Seq.{take-nil}
use Rattle.std.proofs.lemmas.List.{take-append-le}
use Rattle.std.proofs.lemmas.Bool.{lt-leb}
use Rattle.rules.specs.declared.{Geo.Geo}
use Rattle.rules.specs.Bytes.{pick, both, program, erase, FlashStep, programs, erases, apply, replay}
use Rattle.rules.specs.Power.{endless, lasts, spend, taken, cost, units, apply_with, cut_image}
use Rattle.laws.specs.Lists.{both_false}
use Rattle.laws.specs.Programs.{program-nil, program-append, program_window}

-- ---- units

pub lasts-none : lasts 0 1 ≡ false
unfolding lasts
lasts-none = refl

pub lasts_le : (p n : ℕ) → n ≤ p → lasts p n ≡ true
unfolding lasts
lasts_le p n h = go (leb endless p)
  where
    go : (b : Bool) → pick b true (leb n p) ≡ true
    go true = refl
    go false = le-leb n p h

pub lasts-endless : (p n : ℕ) → endless ≤ p → lasts p n ≡ true
unfolding lasts
lasts-endless p n h = rw (le-leb endless p h)

pub spend-none : (n : ℕ) → spend 0 n ≡ 0
unfolding spend
spend-none n = omega arith

pub spend_zero : (p : ℕ) → spend p 0 ≡ p
unfolding spend
spend_zero p = go (leb endless p)
  where
    go : (b : Bool) → pick b p (p - 0) ≡ p
    go true = refl
    go false = omega arith

pub spend_less : (p n : ℕ) → p < endless → spend p n ≡ p - n
unfolding spend
spend_less p n h = rw (lt-leb endless p h)

pub spend-endless : (p n : ℕ) → endless ≤ p → spend p n ≡ p
unfolding spend
spend-endless p n h = rw (le-leb endless p h)

-- where it doesn't last, nothing is left
pub spend_dead : (p n : ℕ) → lasts p n ≡ false → spend p n ≡ 0
unfolding lasts spend
spend_dead p n = go (leb endless p)
  where
    go : (b : Bool) → pick b true (leb n p) ≡ false → pick b p (p - n) ≡ 0
    go true h = let z : ◌≡◌ {A = ℕ} 0 1 = cc in absurd (omega arith)
    go false h = omega (arith, leb-false n p h)

-- m units and then n
spend_add : (p m n : ℕ) → spend p (m + n) ≡ spend (spend p m) n
spend_add p m n = go (leb endless p) refl
  where
    go : (b : Bool) → leb endless p ≡ b → spend p (m + n) ≡ spend (spend p m) n
    go true e =
        let h = leb-true endless p e in
        rw (spend-endless p (m + n) h, spend-endless p m h) (sym (spend-endless p n h))
    go false e =
        let h = leb-false endless p e in
        rw (spend_less p (m + n) h, spend_less p m h, spend_less (p - m) n (omega arith)) (omega arith)

pub lasts_add : (p m n : ℕ) → lasts p (m + n) ≡ both (lasts p m) (lasts (spend p m) n)
unfolding lasts
lasts_add p m n = go (leb endless p) refl
  where
    short : (a : Bool) → leb m p ≡ a → (b : Bool) → leb n (p - m) ≡ b → leb (m + n) p ≡ both a b
    short true e true f = le-leb (m + n) p (omega (arith, leb-true m p e, leb-true n (p - m) f))
    short true e false f = lt-leb (m + n) p (omega (arith, leb-true m p e, leb-false n (p - m) f))
    short false e b f = lt-leb (m + n) p (omega (arith, leb-false m p e))

    go : (b : Bool) → leb endless p ≡ b
        → pick b true (leb (m + n) p)
        ≡ both (pick b true (leb m p)) (pick (leb endless (spend p m)) true (leb n (spend p m)))
    go true e = let h = leb-true endless p e in rw (spend-endless p m h, e)
    go false e =
        let h = leb-false endless p e in
        rw (spend_less p m h, lt-leb endless (p - m) (omega arith)) (short (leb m p) refl (leb n (p - m)) refl)

pub taken_none : (bs : List ℕ) → taken 0 bs ≡ []
unfolding taken
taken_none bs = refl

pub taken-all : (p : ℕ) (bs : List ℕ) → lasts p (length bs) ≡ true → taken p bs ≡ bs
unfolding lasts taken
taken-all p bs = go (leb endless p)
  where
    go : (b : Bool) → pick b true (leb (length bs) p) ≡ true → pick b bs (take p bs) ≡ bs
    go true h = refl
    go false h = take_all p bs (leb-true (length bs) p h)

taken_short : (p : ℕ) (bs : List ℕ) → length (taken p bs) ≤ length bs
unfolding taken
taken_short p bs = go (leb endless p)
  where
    go : (b : Bool) → length (pick b bs (take p bs)) ≤ length bs
    go true = omega arith
    go false = rw (length-take p bs) (omega arith)

-- with power for the first bytes, these are taken
taken_first : (bs cs : List ℕ) → length bs < endless → taken (length bs) (bs ++ cs) ≡ bs
unfolding taken
taken_first bs cs h =
    rw (lt-leb endless (length bs) h)
    (take-append-le (length bs) bs cs (omega arith) ∙ take_all (length bs) bs (omega arith))

-- ---- bytes in pieces

take-append : (p : ℕ) (xs ys : List ℕ) → take p (xs ++ ys) ≡ take p xs ++ take (p - length xs) ys
take-append p [] ys = let z : p - 0 ≡ p = omega arith in rw (z, take-nil {A = ℕ} p)
take-append zero (x ∷ xs) ys = let z : 0 - suc (length xs) ≡ 0 = omega arith in rw z
take-append (suc p) (x ∷ xs) ys =
    let z : suc p - suc (length xs) ≡ p - length xs = omega arith in
    rw (z, take-append p xs ys)

program-taken : (l : List ℕ) (a p : ℕ) (xs ys : List ℕ) → a + (length xs + length ys) ≤ length l
    → program l a (taken p (xs ++ ys))
    ≡ program (program l a (taken p xs)) (a + length xs) (taken (spend p (length xs)) ys)
unfolding taken spend
program-taken l a p xs ys h = go (leb endless p) refl
  where
    short : (b : Bool) → leb (length xs) p ≡ b
        → program l a (take p (xs ++ ys)) ≡ program (program l a (take p xs)) (a + length xs) (take (p - length xs) ys)
    short true e =
        let g = leb-true (length xs) p e in
        let lt = length-take (p - length xs) ys in
        rw (take-append p xs ys, take_all p xs g) (program-append l a xs (take (p - length xs) ys) (omega arith))
    short false e =
        let g = leb-false (length xs) p e in
        let z : p - length xs ≡ 0 = omega arith in
        rw (take-append p xs ys, z, append-nil (take p xs), program-nil (program l a (take p xs)) (a + length xs))

    go : (b : Bool) → leb endless p ≡ b
        → program l a (pick b (xs ++ ys) (take p (xs ++ ys)))
        ≡ program (program l a (pick b xs (take p xs))) (a + length xs)
        (pick (leb endless (pick b p (p - length xs))) ys (take (pick b p (p - length xs)) ys))
    go true e = rw e (program-append l a xs ys h)
    go false e =
        let f = leb-false endless p e in
        rw (lt-leb endless (p - length xs) (omega arith)) (short (leb (length xs) p) refl)

-- bytes programmed at a place with power p, and what is left of it
pub record Wrote (l : List ℕ) (p : ℕ) (l' : List ℕ) (p' at : ℕ) (bs : List ℕ) : Type 0 where
  pub is : l' ≡ program l at (taken p bs)
  pub left : p' ≡ spend p (length bs)

pub wrote_as : {l l' : List ℕ} {p p' at : ℕ} {xs ys : List ℕ} → xs ≡ ys → Wrote l p l' p' at xs → Wrote l p l' p' at ys
wrote_as {l} {l'} {p} {p'} {at} e w = subst (λ (z : List ℕ). Wrote l p l' p' at z) e w

pub wrote_append : (l l₁ l₂ : List ℕ) (p p₁ p₂ a b : ℕ) (xs ys : List ℕ) → Wrote l p l₁ p₁ a xs → Wrote l₁ p₁ l₂ p₂ b ys
    → b ≡ a + length xs
    → a + (length xs + length ys) ≤ length l → Wrote l p l₂ p₂ a (xs ++ ys)
wrote_append l l₁ l₂ p p₁ p₂ a b xs ys f g e h = record {
  is = g.is ∙ rw (f.is, f.left, e) (sym (program-taken l a p xs ys h));
  left = g.left ∙ rw (f.left, length-append xs ys) (sym (spend_add p (length xs) (length ys)));
}

pub wrote_none : (l : List ℕ) (p at : ℕ) → Wrote l p l p at []
unfolding taken
wrote_none l p at = record { is = go (leb endless p); left = sym (spend_zero p) }
  where
    go : (b : Bool) → l ≡ program l at (pick b [] (take p []))
    go true = sym (program-nil l at)
    go false = rw (take-nil {A = ℕ} p) (sym (program-nil l at))

-- the first i bytes of P are written, then those up to byte r
pub wrote_more : (l₀ l l' P : List ℕ) (p₀ p p' a i r : ℕ) → Wrote l₀ p₀ l p a (take i P)
    → Wrote l p l' p' (a + i) (take (r - i) (drop i P)) → i ≤ r → r ≤ length P → a + length P ≤ length l₀
    → Wrote l₀ p₀ l' p' a (take r P)
wrote_more l₀ l l' P p₀ p p' a i r f g h k m =
    let n : ℕ = r - i in
    let q : i + n ≡ r = omega arith in
    let li = length-take-le i P (omega arith) in
    let ld = length-drop i P in
    let ln = length-take-le n (drop i P) (omega arith) in
    rw (← q, take-add i n P)
    (wrote_append l₀ l l' p₀ p p' a (a + i) (take i P) (take n (drop i P)) f g (omega arith) (omega arith))

pub wrote_all : (l l' P : List ℕ) (p p' a i : ℕ) → Wrote l p l' p' a (take i P) → length P ≤ i → Wrote l p l' p' a P
wrote_all l l' P p p' a i f h = rw (take_all i P h) at f

-- a window that nothing is written in
pub wrote_window : (l l' bs : List ℕ) (p p' at : ℕ) → Wrote l p l' p' at bs → at + length bs ≤ length l → (a m : ℕ)
    → (a + m ≤ at) ⊎ (at + length bs ≤ a)
    → take m (drop a l') ≡ take m (drop a l)
wrote_window l l' bs p p' at w h a m d =
    let t = taken_short p bs in
    rw w.is (program_window l at (taken p bs) (omega arith) a m (⊎_elim (λ x. inl x) (λ x. inr (omega arith)) d))

-- a page erased with power p, or not, and what is left of it
pub record Blanked (G : Geo) (l : List ℕ) (p : ℕ) (l' : List ℕ) (p' q : ℕ) : Type 0 where
  pub is : l' ≡ pick (lasts p 1) (erase G.page l q) l
  pub left : p' ≡ spend p 1

-- ---- steps

units-append : (xs ys : List FlashStep) → units (xs ++ ys) ≡ units xs + units ys
units-append [] ys = omega arith
units-append (x ∷ xs) ys = rw (units-append xs ys) (omega arith)

-- what is left after steps in two stretches, and whether it lasts
pub left-append : (xs ys : List FlashStep) (p : ℕ) → spend p (units (xs ++ ys)) ≡ spend (spend p (units xs)) (units ys)
left-append xs ys p = ap (spend p) (units-append xs ys) ∙ spend_add p (units xs) (units ys)

pub lasts-append : (xs ys : List FlashStep) (p : ℕ)
    → lasts p (units (xs ++ ys)) ≡ both (lasts p (units xs)) (lasts (spend p (units xs)) (units ys))
lasts-append xs ys p = ap (lasts p) (units-append xs ys) ∙ lasts_add p (units xs) (units ys)

pub lasts_dead : (xs ys : List FlashStep) (p : ℕ) → lasts p (units xs) ≡ false → lasts p (units (xs ++ ys)) ≡ false
lasts_dead xs ys p h = lasts-append xs ys p ∙ both_false _ _ h

module _ (E : ℕ) where
  pub cut-append : (xs ys : List FlashStep) (img : List ℕ) (p : ℕ)
      → cut_image E img p (xs ++ ys) ≡ cut_image E (cut_image E img p xs) (spend p (units xs)) ys
  cut-append [] ys img p = ap (λ (q : ℕ). cut_image E img q ys) (sym (spend_zero p))
  cut-append (x ∷ xs) ys img p =
      let img' : List ℕ = apply_with E img p x in
      cut-append xs ys img' (spend p (cost x))
      ∙ ap (λ (q : ℕ). cut_image E (cut_image E img' (spend p (cost x)) xs) q ys) (sym (spend_add p (cost x) (units xs)))

  -- without power nothing changes
  pub cut-none : (xs : List FlashStep) (img : List ℕ) → cut_image E img 0 xs ≡ img
  cut-none [] img = refl
  cut-none (programs at bs ∷ xs) img = rw (taken_none bs, program-nil img at, spend-none (length bs)) (cut-none xs img)
  cut-none (erases q ∷ xs) img = rw (lasts-none, spend-none 1) (cut-none xs img)

  -- where it runs out in a step, later steps change nothing
  pub cut_first : (x : FlashStep) (xs : List FlashStep) (img : List ℕ) (p : ℕ) → spend p (cost x) ≡ 0
      → cut_image E img p (x ∷ xs) ≡ apply_with E img p x
  cut_first x xs img p h = ap (λ (q : ℕ). cut_image E (apply_with E img p x) q xs) h ∙ cut-none xs (apply_with E img p x)

  pub cut_dead : (xs ys : List FlashStep) (img : List ℕ) (p : ℕ) → spend p (units xs) ≡ 0
      → cut_image E img p (xs ++ ys) ≡ cut_image E img p xs
  cut_dead xs ys img p h =
      cut-append xs ys img p ∙ ap (λ (q : ℕ). cut_image E (cut_image E img p xs) q ys) h
      ∙ cut-none ys (cut_image E img p xs)

  -- where it lasts, a step and steps are as without a cut
  apply_whole : (img : List ℕ) (p : ℕ) (x : FlashStep) → lasts p (cost x) ≡ true → apply_with E img p x ≡ apply E img x
  apply_whole img p (programs at bs) h = ap (program img at) (taken-all p bs h)
  apply_whole img p (erases q) h = rw h

  pub cut_whole : (xs : List FlashStep) (img : List ℕ) (p : ℕ) → lasts p (units xs) ≡ true
      → cut_image E img p xs ≡ replay E img xs
  cut_whole [] img p h = refl
  cut_whole (x ∷ xs) img p h =
      go (lasts p (cost x)) refl (sym (lasts_add p (cost x) (units xs)) ∙ h)
      (cut_whole xs (apply_with E img p x) (spend p (cost x)))
    where
      go : (b : Bool) → lasts p (cost x) ≡ b → both b (lasts (spend p (cost x)) (units xs)) ≡ true
          → (lasts (spend p (cost x)) (units xs) ≡ true → cut_image E img p (x ∷ xs) ≡ replay E (apply_with E img p x) xs)
          → cut_image E img p (x ∷ xs) ≡ replay E (apply E img x) xs
      go true e k ih = ih k ∙ ap (λ (l : List ℕ). replay E l xs) (apply_whole img p x e)
      go false e k ih = let z : ◌≡◌ {A = ℕ} 0 1 = cc in absurd (omega arith)

  -- with power for some of the steps, and for some bytes of the next one too
  pub cut_between : (xs ys : List FlashStep) (img : List ℕ) → units xs < endless
      → cut_image E img (units xs) (xs ++ ys) ≡ replay E img xs
  cut_between xs ys img h =
      cut_dead xs ys img (units xs) (spend_less (units xs) (units xs) h ∙ omega arith)
      ∙ cut_whole xs img (units xs) (lasts_le (units xs) (units xs) (omega arith))

  pub cut_inside : (xs ys : List FlashStep) (at : ℕ) (bs cs img : List ℕ) → units xs + length bs < endless
      → cut_image E img (units xs + length bs) (xs ++ (programs at (bs ++ cs) ∷ ys)) ≡ program (replay E img xs) at bs
  cut_inside xs ys at bs cs img h =
      let p : ℕ = units xs + length bs in
      let rest : List FlashStep = programs at (bs ++ cs) ∷ ys in
      let e : spend p (units xs) ≡ length bs = spend_less p (units xs) h ∙ omega arith in
      let out : spend (length bs) (length (bs ++ cs)) ≡ 0 = spend_less (length bs) (length (bs ++ cs)) (omega arith)
      ∙ omega (arith, length-append bs cs) in
      cut-append xs rest img p
      ∙ ap (λ (l : List ℕ). cut_image E l (spend p (units xs)) rest)
      (cut_whole xs img p (lasts_le p (units xs) (omega arith)))
      ∙ ap (λ (q : ℕ). cut_image E (replay E img xs) q rest) e
      ∙ cut_first (programs at (bs ++ cs)) ys (replay E img xs) (length bs) out
      ∙ ap (program (replay E img xs) at) (taken_first bs cs (omega arith))
