-- Runs while the power lasts. `Through o img p img' p' rest`: the run o from an image and a power has come to img' and
-- p', and rest is what is still to be run; or the power ran out, and img' is the cut image. The rest speaks of the
-- image that is really there, so the next test of the code is the next test of the rest, cut or not; after a cut what
-- follows runs without power and changes nothing.
use Rattle.std.specs.Prelude.{◌≡◌, ℕ, ◌+◌, Bool, List, [], ◌∷◌, ◌++◌, length}
use Rattle.std.proofs.Math.Path.{refl, sym}
use Rattle.std.proofs.Common.{ap, ◌∙◌, subst, append_assoc, append-nil, arith, add-zero}
use Rattle.std.proofs.Math.Bool.{true, false}
use Rattle.rules.specs.declared.{Geo.Geo, Answer.Answer}
use Rattle.rules.specs.Bytes.{pick, program, erase, FlashStep, programs, erases}
use Rattle.rules.specs.Answers.{is_no}
use Rattle.rules.specs.Runs.{St, Out, out, end, final, after, on, programming, erasing}
use Rattle.rules.specs.Power.{endless, lasts, spend, cost, units, cut_image}
use Rattle.laws.specs.Lists.{both_false}
use Rattle.laws.specs.Power.{Wrote, Blanked, lasts_le, spend-none, spend_zero, spend_dead, lasts_add}
use Rattle.laws.specs.Power.{lasts-endless, taken-all, left-append, lasts-append, lasts_dead, cut-append}
use Rattle.laws.specs.Power.{cut-none, cut_first, cut_dead}

module _ (G : Geo) where
  pub data Through (o : Out) (img : List ℕ) (p : ℕ) (img' : List ℕ) (p' : ℕ) (rest : Out) : Type 0 where
    going : (xs : List FlashStep) → lasts p (units xs) ≡ true → img' ≡ cut_image G.page img p xs
        → p' ≡ spend p (units xs) → o ≡ after xs rest → Through o img p img' p' rest
    gone : lasts p (units o.steps) ≡ false → img' ≡ cut_image G.page img p o.steps → p' ≡ 0
        → Through o img p img' p' rest

  -- nothing is run yet
  pub thr_refl : (o : Out) (img : List ℕ) (p : ℕ) → Through o img p img p o
  thr_refl o img p = going [] (lasts_le p 0 (omega arith)) refl (sym (spend_zero p)) refl

  -- without power nothing changes, whatever is run
  thr_none : {o rest : Out} {img img' : List ℕ} {p p' : ℕ} → p ≡ 0 → Through o img p img' p' rest
      → (img' ≡ img) × (p' ≡ 0)
  thr_none {img = img} z (going xs h i l e) = (i ∙ rw z (cut-none G.page xs img), l ∙ rw z (spend-none (units xs)))
  thr_none {o = o} {img = img} z (gone h i l) = (i ∙ rw z (cut-none G.page o.steps img), l)

  -- two stretches, one after the other
  pub thr_then : {o₀ o₁ o₂ : Out} {img₀ img₁ img₂ : List ℕ} {p₀ p₁ p₂ : ℕ}
      → Through o₀ img₀ p₀ img₁ p₁ o₁ → Through o₁ img₁ p₁ img₂ p₂ o₂ → Through o₀ img₀ p₀ img₂ p₂ o₂
  thr_then (gone h i l) t = let n = thr_none l t in gone h (n.0 ∙ i) n.1
  thr_then {o₂ = o₂} {img₀} {p₀ = p₀} (going xs h i l e) (going ys k j m f) =
      let at_end : List FlashStep → Out = λ z. record { st = o₂.st; ans = o₂.ans; steps = z } in
      going (xs ++ ys)
      (lasts-append xs ys p₀ ∙ rw h (rw l at k))
      (j ∙ rw (i, l) (sym (cut-append G.page xs ys img₀ p₀)))
      (m ∙ rw l (sym (left-append xs ys p₀)))
      (e ∙ ap (after xs) f ∙ ap at_end (sym (append_assoc xs ys o₂.steps)))
  thr_then {o₀} {o₁} {img₀ = img₀} {p₀ = p₀} (going xs h i l e) (gone k j m) =
      let s : o₀.steps ≡ xs ++ o₁.steps = ap (λ (o : Out). o.steps) e in
      gone
      (rw s (lasts-append xs o₁.steps p₀ ∙ rw h (rw l at k)))
      (j ∙ rw (i, l, s) (sym (cut-append G.page xs o₁.steps img₀ p₀)))
      m

  -- runs that are the same, and what is left to run that is the same
  pub thr_from : {o o' rest : Out} {img img' : List ℕ} {p p' : ℕ} → o ≡ o' → Through o' img p img' p' rest
      → Through o img p img' p' rest
  thr_from {rest = rest} {img} {img'} {p} {p'} e t = subst (λ (x : Out). Through x img p img' p' rest) (sym e) t

  pub thr_to : {o rest rest' : Out} {img img' : List ℕ} {p p' : ℕ} → Through o img p img' p' rest → rest ≡ rest'
      → Through o img p img' p' rest'
  thr_to {o} {img = img} {img'} {p} {p'} t e = subst (λ (x : Out). Through o img p img' p' x) e t

  -- ---- one step

  one_step : (p : ℕ) (x : FlashStep) → spend p (units (x ∷ [])) ≡ spend p (cost x)
  one_step p x = ap (spend p) (add-zero (cost x))

  first_dead : (p : ℕ) (x : FlashStep) (xs : List FlashStep) → lasts p (cost x) ≡ false
      → lasts p (units (x ∷ xs)) ≡ false
  first_dead p x xs h = lasts_add p (cost x) (units xs) ∙ both_false _ _ h

  pub thr_program : (at : ℕ) (bs : List ℕ) (s : St) (k : St → Out) (img' : List ℕ) (p p' : ℕ)
      → Wrote s.img p img' p' at bs
      → Through (programming at bs s k) s.img p img' p'
      (k (record { img = img'; cache = s.cache; erased = s.erased }))
  thr_program at bs s k img' p p' w = go (lasts p (length bs)) refl
    where
      o : Out
      o = programming at bs s k

      more : List FlashStep
      more = (k (record { img = program s.img at bs; cache = s.cache; erased = s.erased })).steps

      go : (b : Bool) → lasts p (length bs) ≡ b
          → Through o s.img p img' p' (k (record { img = img'; cache = s.cache; erased = s.erased }))
      go true h =
          going (programs at bs ∷ []) (rw (add-zero (length bs)) h) w.is
          (w.left ∙ sym (one_step p (programs at bs))) (rw (w.is, taken-all p bs h))
      go false h =
          let dead = spend_dead p (length bs) h in
          gone (first_dead p (programs at bs) more h)
          (w.is ∙ sym (cut_first G.page (programs at bs) more s.img p dead)) (w.left ∙ dead)

  pub thr_erase : (q : ℕ) (s : St) (k : St → Out) (img' : List ℕ) (p p' : ℕ) → Blanked G s.img p img' p' q
      → Through (erasing G q s k) s.img p img' p'
      (k (record { img = img'; cache = s.cache; erased = s.erased + 1 }))
  thr_erase q s k img' p p' w = go (lasts p 1) refl w.is
    where
      o : Out
      o = erasing G q s k

      more : List FlashStep
      more = (k (record { img = erase G.page s.img q; cache = s.cache; erased = s.erased + 1 })).steps

      go : (b : Bool) → lasts p 1 ≡ b → img' ≡ pick b (erase G.page s.img q) s.img
          → Through o s.img p img' p' (k (record { img = img'; cache = s.cache; erased = s.erased + 1 }))
      go true h e = going (erases q ∷ []) h (rw h e) w.left (rw e)
      go false h e =
          let dead = spend_dead p 1 h in
          gone (first_dead p (erases q) more h) (w.is ∙ sym (cut_first G.page (erases q) more s.img p dead))
          (w.left ∙ dead)

  -- ---- runs one after the other

  -- going on by the answer of a run that came to its end
  pub thr_on : (n : ℕ) (o : Out) (f : St → Out) (img img' : List ℕ) (p p' : ℕ) (a : Answer) (s : St)
      → Through o img p img' p' (out a s)
      → Through (on n o f) img p img' p' (pick (is_no n a) (f s) (out a s))
  unfolding on
  thr_on n o f img img' p p' a s (going xs h i l e) = going xs h i l (rw e (go (is_no n a)))
    where
      go : (b : Bool) → pick b (after (xs ++ []) (f s)) (after xs (out a s)) ≡ after xs (pick b (f s) (out a s))
      go true = rw (append-nil xs)
      go false = refl
  thr_on n o f img img' p p' a s (gone h i l) = go (is_no n o.ans)
    where
      go : (b : Bool)
          → Through (pick b (after o.steps (f o.st)) o) img p img' p' (pick (is_no n a) (f s) (out a s))
      go true =
          gone (lasts_dead o.steps (f o.st).steps p h)
          (i ∙ sym (cut_dead G.page o.steps (f o.st).steps img p (spend_dead p (units o.steps) h))) l
      go false = gone h i l

  -- ---- a run that came to its end

  pub thr_cut : (o : Out) (img img' : List ℕ) (p p' : ℕ) (a : Answer) (s : St) → Through o img p img' p' (out a s)
      → (img' ≡ cut_image G.page img p o.steps) × (p' ≡ spend p (units o.steps))
      × (lasts p (units o.steps) ≡ true → end a s ≡ final o)
  thr_cut o img img' p p' a s (going xs h i l e) =
      let z : xs ≡ o.steps = sym (append-nil xs) ∙ ap (λ (x : Out). x.steps) (sym e) in
      (rw (← z) i, rw (← z) l, λ k. sym (ap final e))
  thr_cut o img img' p p' a s (gone h i l) =
      (i, l ∙ sym (spend_dead p (units o.steps) h), λ k. absurd (no (sym h ∙ k)))
    where
      no : ◌≡◌ {A = Bool} false true → ⊥
      no q = let z : ◌≡◌ {A = ℕ} 0 1 = cc in absurd (omega arith)

  -- with endless power a run ends as it is defined
  pub thr_endless : (o : Out) (img img' : List ℕ) (p' : ℕ) (a : Answer) (s : St)
      → Through o img endless img' p' (out a s) → end a s ≡ final o
  thr_endless o img img' p' a s t =
      (thr_cut o img img' endless p' a s t).2 (lasts-endless endless (units o.steps) (omega arith))
