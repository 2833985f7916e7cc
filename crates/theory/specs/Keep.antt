-- The newest entries of a page: to keep them at the other end of the log is to change no key's item.
use Rattle.std.specs.Prelude.{◌≡◌, refl, ◌≢◌, ℕ, Bool, true, false, List, [], ◌∷◌, ◌++◌, eqb}
use Rattle.std.proofs.Common.{ap, ◌∙◌, arith, eqb-true}
use Rattle.std.proofs.Math.Option.{Option, none, some}
use Rattle.rules.specs.Bytes.{pick}
use Rattle.rules.specs.Items.{Item, Entry}
use Rattle.rules.specs.Fetch.{Found, corrupt, missing, found, or_else, last_with}
use Rattle.laws.specs.Entries.{spans}
use Rattle.laws.specs.Rings.{last-append, or_else-missing}
use Rattle.theory.specs.Migrate.{its, keep, keep_if, last_not_corrupt}

-- the item that is found, without its place
abbrev pub it_of : Found → Option Item
it_of corrupt = none
it_of missing = none
it_of (found e) = some e.it

pub none-missing : (r : Found) → r ≢ corrupt → it_of r ≡ none → r ≡ missing
none-missing corrupt n h = absurd (n refl)
none-missing missing n h = refl
none-missing (found g) n h = let z : ◌≡◌ {A = ℕ} 0 1 = cc in absurd (omega arith)

pub it_of-or_else : (a b r : Found) → a ≢ corrupt → b ≢ corrupt → it_of a ≡ it_of b → it_of (or_else a r) ≡ it_of (or_else b r)
it_of-or_else corrupt b r na nb h = absurd (na refl)
it_of-or_else missing corrupt r na nb h = absurd (nb refl)
it_of-or_else missing missing r na nb h = refl
it_of-or_else missing (found f) r na nb h = let z : ◌≡◌ {A = ℕ} 0 1 = cc in absurd (omega arith)
it_of-or_else (found e) corrupt r na nb h = absurd (nb refl)
it_of-or_else (found e) missing r na nb h = let z : ◌≡◌ {A = ℕ} 0 1 = cc in absurd (omega arith)
it_of-or_else (found e) (found f) r na nb h = h

pub it_of_or_right : (a r s : Found) → it_of r ≡ it_of s → it_of (or_else a r) ≡ it_of (or_else a s)
it_of_or_right corrupt r s h = refl
it_of_or_right missing r s h = h
it_of_or_right (found e) r s h = refl

-- what is found goes by the items alone
pub last-its : (k : ℕ) (xs ys : List Entry) → its xs ≡ its ys → it_of (last_with k xs) ≡ it_of (last_with k ys)
last-its k [] [] h = refl
last-its k [] (y ∷ ys) h = let z : ◌≡◌ {A = ℕ} 0 1 = cc in absurd (omega arith)
last-its k (x ∷ xs) [] h = let z : ◌≡◌ {A = ℕ} 0 1 = cc in absurd (omega arith)
last-its k (x ∷ xs) (y ∷ ys) h =
    let hx : x.it ≡ y.it = cc in
    let ht : its xs ≡ its ys = cc in
    it_of-or_else (last_with k xs) (last_with k ys) (pick (eqb x.it.key k) (found x) missing) (last_not_corrupt k xs) (last_not_corrupt k ys) (last-its k xs ys ht)
    ∙ it_of_or_right (last_with k ys) (pick (eqb x.it.key k) (found x) missing) (pick (eqb y.it.key k) (found y) missing) (same x y hx)
  where
    same : (x y : Entry) → x.it ≡ y.it → it_of (pick (eqb x.it.key k) (found x) missing) ≡ it_of (pick (eqb y.it.key k) (found y) missing)
    same x y e = two (eqb x.it.key k) (eqb y.it.key k) (ap (λ (i : Item). eqb i.key k) e)
      where
        two : (a b : Bool) → a ≡ b → it_of (pick a (found x) missing) ≡ it_of (pick b (found y) missing)
        two true true q = ap some e
        two true false q = let z : ◌≡◌ {A = ℕ} 0 1 = cc in absurd (omega arith)
        two false true q = let z : ◌≡◌ {A = ℕ} 0 1 = cc in absurd (omega arith)
        two false false q = refl

pub spans-its : (w : ℕ) (xs ys : List Entry) → its xs ≡ its ys → spans w xs ≡ spans w ys
spans-its w [] [] h = refl
spans-its w [] (y ∷ ys) h = let z : ◌≡◌ {A = ℕ} 0 1 = cc in absurd (omega arith)
spans-its w (x ∷ xs) [] h = let z : ◌≡◌ {A = ℕ} 0 1 = cc in absurd (omega arith)
spans-its w (x ∷ xs) (y ∷ ys) h =
    let hx : x.it ≡ y.it = cc in
    let ht : its xs ≡ its ys = cc in
    rw (hx, spans-its w xs ys ht)

module _ (k : ℕ) (later : List Entry) where
  -- where the key is not in `later`, keeping loses nothing
  pub keep-last : last_with k later ≡ missing → (es : List Entry) → it_of (last_with k (keep later es)) ≡ it_of (last_with k es)
  keep-last h [] = refl
  keep-last h (e ∷ es) = go (last_with e.it.key (es ++ later)) refl (eqb e.it.key k) refl (keep-last h es)
    where
      go : (r : Found) → last_with e.it.key (es ++ later) ≡ r → (b : Bool) → eqb e.it.key k ≡ b → it_of (last_with k (keep later es)) ≡ it_of (last_with k es)
          → it_of (last_with k (keep_if r e (keep later es))) ≡ it_of (or_else (last_with k es) (pick (eqb e.it.key k) (found e) missing))
      go corrupt q b d ih = absurd (last_not_corrupt e.it.key (es ++ later) q)
      go missing q b d ih =
          it_of-or_else (last_with k (keep later es)) (last_with k es) (pick (eqb e.it.key k) (found e) missing) (last_not_corrupt k (keep later es)) (last_not_corrupt k es) ih
      go (found f) q true d ih =
          let z : last_with k es ≡ found f = rw (eqb-true e.it.key k d, last-append k es later, h) at q in
          ih ∙ rw z
      go (found f) q false d ih = ih ∙ rw (d, or_else-missing (last_with k es))

  -- where it is, no entry with the key is kept
  pub keep-none : (f : Entry) → last_with k later ≡ found f → (es : List Entry) → last_with k (keep later es) ≡ missing
  keep-none f h [] = refl
  keep-none f h (e ∷ es) = go (last_with e.it.key (es ++ later)) refl (eqb e.it.key k) refl (keep-none f h es)
    where
      go : (r : Found) → last_with e.it.key (es ++ later) ≡ r → (b : Bool) → eqb e.it.key k ≡ b → last_with k (keep later es) ≡ missing
          → last_with k (keep_if r e (keep later es)) ≡ missing
      go corrupt q b d ih = ih
      go (found g) q b d ih = ih
      go missing q true d ih =
          let z : found f ≡ missing = rw (eqb-true e.it.key k d, last-append k es later, h) at q in
          let z' : ◌≡◌ {A = ℕ} 0 1 = cc in absurd (omega arith)
      go missing q false d ih = rw (ih, d)

  -- the page's entries before `later`, or the kept ones after it: the same item
  pub keep-moves : (es R : List Entry) → its R ≡ its (keep later es) → it_of (last_with k (later ++ R)) ≡ it_of (last_with k (es ++ later))
  keep-moves es R hR = go (last_with k later) refl
    where
      go : (r : Found) → last_with k later ≡ r → it_of (last_with k (later ++ R)) ≡ it_of (last_with k (es ++ later))
      go corrupt q = absurd (last_not_corrupt k later q)
      go missing q = rw (last-append k later R, last-append k es later, q, or_else-missing (last_with k R)) (last-its k R (keep later es) hR ∙ keep-last q es)
      go (found f) q =
          let z : it_of (last_with k R) ≡ none = last-its k R (keep later es) hR ∙ ap it_of (keep-none f q es) in
          let m : last_with k R ≡ missing = none-missing (last_with k R) (last_not_corrupt k R) z in
          rw (last-append k later R, last-append k es later, q, m)
