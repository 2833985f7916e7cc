-- The latest-wins list of an image, and what a store and a fetch do to it.
use Rattle.std.specs.Prelude.{◌≡◌, refl, ◌≢◌, ℕ, Bool, true, false, List, [], ◌∷◌, eqb}
use Rattle.std.proofs.Common.{sym, ◌∙◌, eqb-true, ne_eqb, eq-eqb}
use Rattle.std.proofs.Math.Option.{Option, none, some}
use Rattle.std.proofs.lemmas.Bool.{eqb-false}
use Rattle.rules.specs.declared.{Geo.Geo}
use Rattle.rules.specs.Bytes.{pick}
use Rattle.rules.specs.Items.{Item}
use Rattle.rules.specs.Runs.{End}
use Rattle.rules.specs.Fetch.{newest}
use Rattle.rules.specs.List.{Pair, drop_key, put_key, in_list}
use Rattle.theory.specs.Keep.{it_of}
use Rattle.theory.specs.Stored.{Put, Kept}

abbrev pub val_of : Option Item → Option (List ℕ)
val_of none = none
val_of (some i) = some i.val

pub drop-same : (k : ℕ) (l : List Pair) → in_list k (drop_key k l) ≡ none
drop-same k [] = refl
drop-same k (p ∷ l) = go (eqb p.key k) refl (drop-same k l)
  where
    go : (b : Bool) → eqb p.key k ≡ b → in_list k (drop_key k l) ≡ none → in_list k (pick b (drop_key k l) (p ∷ drop_key k l)) ≡ none
    go true q ih = ih
    go false q ih = rw (q, ih)

pub drop_other : (k j : ℕ) (l : List Pair) → j ≢ k → in_list j (drop_key k l) ≡ in_list j l
drop_other k j [] ne = refl
drop_other k j (p ∷ l) ne = go (eqb p.key k) refl (drop_other k j l ne)
  where
    go : (b : Bool) → eqb p.key k ≡ b → in_list j (drop_key k l) ≡ in_list j l
        → in_list j (pick b (drop_key k l) (p ∷ drop_key k l)) ≡ pick (eqb p.key j) (some p.val) (in_list j l)
    go true q ih = let z = eqb-true p.key k q in ih ∙ rw (ne_eqb p.key j (λ y. ne (sym y ∙ z)))
    go false q ih = rw ih

module _ (G : Geo) where
  -- the list shows what a fetch finds
  abbrev pub Lists : List ℕ → List Pair → Type 0
  Lists img l = (k : ℕ) → val_of (it_of (newest G img k)) ≡ in_list k l

  pub store_list : (img : List ℕ) (l : List Pair) (k : ℕ) (v : List ℕ) (r : End) → Lists img l → Put G img k v r → Lists r.st.img (put_key k v l)
  store_list img l k v r h p j = go (eqb j k) refl
    where
      go : (b : Bool) → eqb j k ≡ b → val_of (it_of (newest G r.st.img j)) ≡ in_list j (put_key k v l)
      go true q =
          let z : j ≡ k = eqb-true j k q in
          rw (z, p.new, eq-eqb k k refl)
      go false q =
          let ne = eqb-false j k q in
          rw (p.same j ne, ne_eqb k j (λ y. ne (sym y)), drop_other k j l ne) (h j)

  pub kept_list : (img : List ℕ) (l : List Pair) (r : End) → Lists img l → Kept G img r → Lists r.st.img l
  kept_list img l r h p j = rw (p.same j) (h j)
