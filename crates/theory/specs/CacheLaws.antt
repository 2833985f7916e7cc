-- What a lookup gives after a note, an erased key, an emptied cache.
use Rattle.std.specs.Prelude.{◌≡◌, refl, ◌≢◌, ◌⊎◌, ℕ, suc, Bool, true, false, not, eqb, length}
use Rattle.std.proofs.Common.{sym, ◌∙◌, ap, inl, inr, arith, eqb-true, ne_eqb, eq-eqb, length-append}
use mathlib.Core.List.{[], ◌∷◌, ◌++◌, drop_last}
use Rattle.std.proofs.lemmas.Bool.{eqb-false}
use Rattle.rules.specs.Bytes.{pick, both}
use Rattle.rules.specs.Cache.{Pointer, empty_pointer, Cache, is_for, lookup, without, note, forget, clear}

-- the first match is not past what a front holds
pub lookup_front : (k : ℕ) (c : Cache) → (lookup k (drop_last c) ≡ 0) ⊎ (lookup k (drop_last c) ≡ lookup k c)
lookup_front k [] = inl refl
lookup_front k (e ∷ []) = inl refl
lookup_front k (e ∷ (f ∷ c)) = go (is_for k e) (lookup_front k (f ∷ c))
  where
    go : (b : Bool) → (lookup k (drop_last (f ∷ c)) ≡ 0) ⊎ (lookup k (drop_last (f ∷ c)) ≡ lookup k (f ∷ c))
        → (pick b e.place (lookup k (drop_last (f ∷ c))) ≡ 0) ⊎ (pick b e.place (lookup k (drop_last (f ∷ c))) ≡ pick b e.place (lookup k (f ∷ c)))
    go true r = inr refl
    go false r = r

-- an entry for one key is none for another
pub is_for_other : (k j : ℕ) (e : Pointer) → j ≢ k → is_for k e ≡ true → is_for j e ≡ false
is_for_other k j e ne h = go (not (eqb e.place 0)) (eqb e.key k) refl h
  where
    go : (a b : Bool) → eqb e.key k ≡ b → both a b ≡ true → both a (eqb e.key j) ≡ false
    go true true q h = let z : e.key ≡ k = eqb-true e.key k q in ne_eqb e.key j (λ y. ne (sym y ∙ z))
    go true false q h = let z : ◌≡◌ {A = ℕ} 0 1 = cc in absurd (omega arith)
    go false b q h = let z : ◌≡◌ {A = ℕ} 0 1 = cc in absurd (omega arith)

pub without_other : (k j : ℕ) (c : Cache) → j ≢ k → lookup j (without k c) ≡ lookup j c
without_other k j [] ne = refl
without_other k j (e ∷ c) ne = go (is_for k e) refl (without_other k j c ne)
  where
    go : (b : Bool) → is_for k e ≡ b → lookup j (without k c) ≡ lookup j c
        → lookup j (pick b c (e ∷ without k c)) ≡ pick (is_for j e) e.place (lookup j c)
    go true q ih = rw (is_for_other k j e ne q)
    go false q ih = rw ih

-- ---- a note

pub note-same : (k a : ℕ) (c : Cache) → a ≢ 0 → (lookup k (note k a c) ≡ 0) ⊎ (lookup k (note k a c) ≡ a)
unfolding note
note-same k a [] ne = inl refl
note-same k a (e ∷ c) ne = inr (rw (ne_eqb a 0 ne, eq-eqb k k refl))

pub note_other : (k j a : ℕ) (c : Cache) → j ≢ k → (lookup j (note k a c) ≡ 0) ⊎ (lookup j (note k a c) ≡ lookup j c)
unfolding note
note_other k j a [] ne = inl refl
note_other k j a (e ∷ c) ne = go (eqb (lookup k (e ∷ c)) 0)
  where
    miss : is_for j (record { key = k; place = a }) ≡ false
    miss = both-no (not (eqb a 0)) (eqb k j) (ne_eqb k j (λ y. ne (sym y)))
      where
        both-no : (x y : Bool) → y ≡ false → both x y ≡ false
        both-no true y q = q
        both-no false y q = refl

    go : (b : Bool) → (lookup j (record { key = k; place = a } ∷ pick b (drop_last (e ∷ c)) (without k (e ∷ c))) ≡ 0)
        ⊎ (lookup j (record { key = k; place = a } ∷ pick b (drop_last (e ∷ c)) (without k (e ∷ c))) ≡ lookup j (e ∷ c))
    go true = rw miss (lookup_front j (e ∷ c))
    go false = rw miss (inr (without_other k j (e ∷ c) ne))

pub lookup-clear : (k : ℕ) (c : Cache) → lookup k (clear c) ≡ 0
unfolding clear
lookup-clear k [] = refl
lookup-clear k (e ∷ c) = lookup-clear k c

-- ---- at most one entry for each key

abbrev pub Once : Cache → Type 0
Once [] = Unit {0}
Once (e ∷ es) = (e.place ≢ 0 → lookup e.key es ≡ 0) × Once es

pub is_for_key : (k : ℕ) (e : Pointer) → is_for k e ≡ true → (e.place ≢ 0) × (e.key ≡ k)
is_for_key k e h = go (eqb e.place 0) (eqb e.key k) refl refl h
  where
    go : (a b : Bool) → eqb e.place 0 ≡ a → eqb e.key k ≡ b → both (not a) b ≡ true → (e.place ≢ 0) × (e.key ≡ k)
    go true b p q h = let z : ◌≡◌ {A = ℕ} 0 1 = cc in absurd (omega arith)
    go false true p q h = (eqb-false e.place 0 p, eqb-true e.key k q)
    go false false p q h = let z : ◌≡◌ {A = ℕ} 0 1 = cc in absurd (omega arith)

pub without-same : (k : ℕ) (c : Cache) → Once c → lookup k (without k c) ≡ 0
without-same k [] h = refl
without-same k (e ∷ c) h = go (is_for k e) refl (without-same k c h.1)
  where
    go : (b : Bool) → is_for k e ≡ b → lookup k (without k c) ≡ 0 → lookup k (pick b c (e ∷ without k c)) ≡ 0
    go true q ih = let z = is_for_key k e q in rw z.1 at (h.0 z.0)
    go false q ih = rw (q, ih)

zero_or : (x y : ℕ) → (x ≡ 0) ⊎ (x ≡ y) → y ≡ 0 → x ≡ 0
zero_or x y (inl e) h = e
zero_or x y (inr e) h = e ∙ h

pub once_front : (c : Cache) → Once c → Once (drop_last c)
once_front [] h = tt
once_front (e ∷ []) h = tt
once_front (e ∷ (f ∷ c)) h =
    (λ ne. zero_or _ _ (lookup_front e.key (f ∷ c)) (h.0 ne), once_front (f ∷ c) h.1)

pub once_without : (k : ℕ) (c : Cache) → Once c → Once (without k c)
once_without k [] h = tt
once_without k (e ∷ c) h = go (is_for k e) refl (once_without k c h.1)
  where
    -- e is not for k: its key is another, or it is empty
    other : is_for k e ≡ false → e.place ≢ 0 → e.key ≢ k
    other q ne y = let z : ◌≡◌ {A = Bool} true false = (rw (ne_eqb e.place 0 ne, eq-eqb e.key k y) at q) in
        let z' : ◌≡◌ {A = ℕ} 0 1 = cc in absurd (omega arith)

    go : (b : Bool) → is_for k e ≡ b → Once (without k c) → Once (pick b c (e ∷ without k c))
    go true q ih = h.1
    go false q ih = (λ ne. without_other k e.key c (other q ne) ∙ h.0 ne, ih)

pub once_note : (k a : ℕ) (c : Cache) → Once c → Once (note k a c)
unfolding note
once_note k a [] h = tt
once_note k a (e ∷ c) h = go (eqb (lookup k (e ∷ c)) 0) refl
  where
    go : (b : Bool) → eqb (lookup k (e ∷ c)) 0 ≡ b → Once (record { key = k; place = a } ∷ pick b (drop_last (e ∷ c)) (without k (e ∷ c)))
    go true q = (λ ne. zero_or _ _ (lookup_front k (e ∷ c)) (eqb-true _ 0 q), once_front (e ∷ c) h)
    go false q = (λ ne. without-same k (e ∷ c) h, once_without k (e ∷ c) h)

pub once_clear : (c : Cache) → Once (clear c)
unfolding clear
once_clear [] = tt
once_clear (e ∷ c) = (λ ne. absurd (ne refl), once_clear c)

-- ---- an erased key

empty_end : (j : ℕ) (c : Cache) → lookup j (c ++ (empty_pointer ∷ [])) ≡ lookup j c
empty_end j [] = refl
empty_end j (e ∷ c) = rw (empty_end j c)

once_end : (c : Cache) → Once c → Once (c ++ (empty_pointer ∷ []))
once_end [] h = (λ ne. absurd (ne refl), tt)
once_end (e ∷ c) h = (λ ne. empty_end e.key c ∙ h.0 ne, once_end c h.1)

pub forget-same : (k : ℕ) (c : Cache) → Once c → lookup k (forget k c) ≡ 0
unfolding forget
forget-same k c h = go (eqb (lookup k c) 0) refl
  where
    go : (b : Bool) → eqb (lookup k c) 0 ≡ b → lookup k (pick b c (without k c ++ (empty_pointer ∷ []))) ≡ 0
    go true q = eqb-true (lookup k c) 0 q
    go false q = empty_end k (without k c) ∙ without-same k c h

pub forget_other : (k j : ℕ) (c : Cache) → j ≢ k → lookup j (forget k c) ≡ lookup j c
unfolding forget
forget_other k j c ne = go (eqb (lookup k c) 0)
  where
    go : (b : Bool) → lookup j (pick b c (without k c ++ (empty_pointer ∷ []))) ≡ lookup j c
    go true = refl
    go false = empty_end j (without k c) ∙ without_other k j c ne

pub once_forget : (k : ℕ) (c : Cache) → Once c → Once (forget k c)
unfolding forget
once_forget k c h = go (eqb (lookup k c) 0)
  where
    go : (b : Bool) → Once (pick b c (without k c ++ (empty_pointer ∷ [])))
    go true = h
    go false = once_end (without k c) (once_without k c h)

-- ---- the number of entries stays

pub length-clear : (c : Cache) → length (clear c) ≡ length c
unfolding clear
length-clear [] = refl
length-clear (e ∷ c) = ap suc (length-clear c)

length_front : (e : Pointer) (c : Cache) → length (drop_last (e ∷ c)) ≡ length c
length_front e [] = refl
length_front e (f ∷ c) = ap suc (length_front f c)

length_without : (k : ℕ) (c : Cache) → lookup k c ≢ 0 → suc (length (without k c)) ≡ length c
length_without k [] h = absurd (h refl)
length_without k (e ∷ c) h = go (is_for k e) refl (length_without k c)
  where
    go : (b : Bool) → is_for k e ≡ b → (lookup k c ≢ 0 → suc (length (without k c)) ≡ length c) → suc (length (pick b c (e ∷ without k c))) ≡ suc (length c)
    go true q ih = refl
    go false q ih = ap suc (ih (rw q at h))

pub length-note : (k a : ℕ) (c : Cache) → length (note k a c) ≡ length c
unfolding note
length-note k a [] = refl
length-note k a (e ∷ c) = go (eqb (lookup k (e ∷ c)) 0) refl
  where
    go : (b : Bool) → eqb (lookup k (e ∷ c)) 0 ≡ b → suc (length (pick b (drop_last (e ∷ c)) (without k (e ∷ c)))) ≡ suc (length c)
    go true q = ap suc (length_front e c)
    go false q = length_without k (e ∷ c) (eqb-false (lookup k (e ∷ c)) 0 q)

pub length-forget : (k : ℕ) (c : Cache) → length (forget k c) ≡ length c
unfolding forget
length-forget k c = go (eqb (lookup k c) 0) refl
  where
    go : (b : Bool) → eqb (lookup k c) 0 ≡ b → length (pick b c (without k c ++ (empty_pointer ∷ []))) ≡ length c
    go true q = refl
    go false q = let l = length-append (without k c) (empty_pointer ∷ []) in let h = length_without k c (eqb-false (lookup k c) 0 q) in omega arith
