-- What a call at the border leaves: 255 and nothing changed, or what the call told.
use mathlib.Core.Path.{◌≡◌, refl, sym, ap, ◌∙◌}
use mathlib.Core.Logic.{◌≢◌}
use Prim.Native.Nat.{ℕ}
use mathlib.Core.Bool.{Bool, true, false}
use mathlib.Core.List.{List, [], ◌∷◌}
use lib.ListN.{length, get_or, set}
use lib.Dec.{eqb}
use native.Mathlib.Omega.{arith}
use borrow.Author.Tests.{ne_eqb, eq-eqb}
use Rattle.laws.specs.Lists.{both_false_r}
use Rattle.rules.specs.declared.{Cursor.Cursor, Answer.Answer}
use Rattle.rules.specs.Bytes.{FlashStep}
use Rattle.rules.specs.Power.{lasts, spend, units, cut_image}
use Rattle.rules.specs.Cache.{Cache as Entries}
use Rattle.rules.specs.Answers.{number}
use Rattle.rules.specs.Calls.{Call, Lent, called, fetch_all_items, steps_of}
use Rattle.cache.specs.declared.{Cache.Cache}
use Rattle.cache.specs.Code.{pointers}
use Rattle.map.specs.declared.{Told.Told, Started.Started, Stepped.Stepped}
use Rattle.map.specs.Code.{lent_of, told_of, CutOk, started_of, PlainOk, StepOk}
use Rattle.capi.specs.Code.{WordsOk, cut_lengths, CutBorder, entries_of, cache_words, cursor_of}
use Rattle.capi.specs.Code.{cursor_after, out_words, border, plain_border, start_border, step_border}
use Rattle.capi.proofs.Small.{told-fits}

-- ---- a call with a cache

module _ (E m : ℕ) (call : Call) (img ws ow : List ℕ) where
  pub no_cache : length ws ≢ 64 → record { no = 255; image = img; cache = ws; out = ow } ≡ border E m call img ws ow
  unfolding border
  no_cache h = rw (ne_eqb (length ws) 64 h)

  pub no-out : length ws ≡ 64 → length ow ≢ 5
      → record { no = 255; image = img; cache = ws; out = ow } ≡ border E m call img ws ow
  unfolding border
  no-out g h = rw (eq-eqb (length ws) 64 g, ne_eqb (length ow) 5 h)

  pub told : length ws ≡ 64 → length ow ≡ 5 → (held : Cache) → pointers 32 held ≡ entries_of ws
      → (i : List ℕ) (r : Told) → told_of i r ≡ called 4 E m call (lent_of img held)
      → (n : ℕ) (c o : List ℕ)
      → (n ≡ number r.answer) × (c ≡ cache_words (pointers 32 r.cache)) × (o ≡ out_words r.erased r.answer)
      → record { no = n; image = i; cache = c; out = o } ≡ border E m call img ws ow
  unfolding border
  told g h held p i r t n c o f = rw (eq-eqb (length ws) 64 g, eq-eqb (length ow) 5 h, ← p, ← t, f.0, f.1, f.2)

-- ---- a call that is lent power

not_both : ◌≡◌ {A = Bool} false true → ⊥
not_both q = let z : ◌≡◌ {A = ℕ} 0 1 = cc in absurd (omega arith)

-- the lengths, where they are right
pub record Lengths (c p o : ℕ) : Type 0 where
  pub cache : c ≡ 64
  pub power : p ≡ 1
  pub out : o ≡ 5

right : (c p o : ℕ) → Lengths c p o → cut_lengths c p o ≡ true
unfolding cut_lengths
right c p o L = rw (L.cache, L.power, L.out)

-- and where one is wrong
pub no_cache_length : (c p o : ℕ) → c ≢ 64 → cut_lengths c p o ≡ false
unfolding cut_lengths
no_cache_length c p o h = rw (ne_eqb c 64 h)

pub no_power_length : (c p o : ℕ) → p ≢ 1 → cut_lengths c p o ≡ false
unfolding cut_lengths
no_power_length c p o h = rw (ne_eqb p 1 h) (both_false_r (eqb c 64))

pub no_out_length : (c p o : ℕ) → o ≢ 5 → cut_lengths c p o ≡ false
unfolding cut_lengths
no_out_length c p o h = rw (ne_eqb o 5 h, both_false_r (eqb p 1)) (both_false_r (eqb c 64))

one_set : (l : List ℕ) (x : ℕ) → length l ≡ 1 → set l 0 x ≡ x ∷ []
one_set [] x h = absurd (omega arith)
one_set (y ∷ []) x h = refl
one_set (y ∷ z ∷ l) x h = absurd (omega arith)

module _ (E m : ℕ) (call : Call) (img ws pw ow : List ℕ) where
  pub cut_wrong : cut_lengths (length ws) (length pw) (length ow) ≡ false
      → CutBorder E m call img ws pw ow (record { no = 255; image = img; cache = ws; power = pw; out = ow })
  cut_wrong h = record {
    wrong = λ k. refl;
    image = λ k. absurd (not_both (sym h ∙ k));
    left = λ k. absurd (not_both (sym h ∙ k));
    whole = λ k l. absurd (not_both (sym h ∙ k));
  }

  pub cut-told : Lengths (length ws) (length pw) (length ow) → (held : Cache)
      → pointers 32 held ≡ entries_of ws
      → (i : List ℕ) (p' : ℕ) (t : Told) → CutOk E m call (lent_of img held) (get_or pw 0 0) p' (told_of i t)
      → (r : Told)
      → WordsOk t r
      → (n : ℕ) (c o : List ℕ)
      → (n ≡ number r.answer) × (c ≡ cache_words (pointers 32 r.cache)) × (o ≡ out_words r.erased r.answer)
      → CutBorder E m call img ws pw ow (record { no = n; image = i; cache = c; power = set pw 0 p'; out = o })
  cut-told L held e i p' t C r W n c o f =
      let h = right (length ws) (length pw) (length ow) L in
      let at : Lent → List FlashStep = λ l. steps_of 4 E m call l in
      let l : lent_of img held ≡ record { image = img; cache = entries_of ws } =
      ap (λ (x : Entries). record { image = img; cache = x }) e in
      record {
        wrong = λ k. absurd (not_both (sym k ∙ h));
        image = λ k. C.image ∙ ap (λ (x : Lent). cut_image E img (get_or pw 0 0) (at x)) l;
        left = λ k. one_set pw p' L.power
            ∙ ap (λ (x : ℕ). x ∷ []) (C.left ∙ ap (λ (x : Lent). spend (get_or pw 0 0) (units (at x))) l);
        whole = λ k q. let same : told_of i t ≡ called 4 E m call (lent_of img held) =
            C.whole (ap (λ (x : Lent). lasts (get_or pw 0 0) (units (at x))) l ∙ q) in
            let z : r ≡ t = W.same (told-fits E m call (lent_of img held) (told_of i t) same) in
            told E m call img ws ow L.cache L.out held e i r (ap (told_of i) z ∙ same) n c o f;
      }

-- ---- a plain fetch

module _ (E k : ℕ) (img ow : List ℕ) where
  pub plain_wrong : length ow ≢ 5 → record { no = 255; out = ow } ≡ plain_border E k img ow
  unfolding plain_border
  plain_wrong h = rw (ne_eqb (length ow) 5 h)

  pub plain-told : length ow ≡ 5 → (a : Answer) → PlainOk E k img a → (n : ℕ) (o : List ℕ) → n ≡ number a
      → o ≡ out_words 0 a
      → record { no = n; out = o } ≡ plain_border E k img ow
  unfolding plain_border
  plain-told h a p n o e f = rw (eq-eqb (length ow) 5 h, ← p.is 0 [], e, f)

-- ---- a walk's start

module _ (E m : ℕ) (img ws cw ow : List ℕ) where
  pub start_no_cache : length ws ≢ 64
      → record { no = 255; image = img; cache = ws; cursor = cw; out = ow } ≡ start_border E m img ws cw ow
  unfolding start_border
  start_no_cache h = rw (ne_eqb (length ws) 64 h)

  pub start_no_cursor : length ws ≡ 64 → length cw ≢ 3
      → record { no = 255; image = img; cache = ws; cursor = cw; out = ow } ≡ start_border E m img ws cw ow
  unfolding start_border
  start_no_cursor g h = rw (eq-eqb (length ws) 64 g, ne_eqb (length cw) 3 h)

  pub start_no_out : length ws ≡ 64 → length cw ≡ 3 → length ow ≢ 5
      → record { no = 255; image = img; cache = ws; cursor = cw; out = ow } ≡ start_border E m img ws cw ow
  unfolding start_border
  start_no_out g f h = rw (eq-eqb (length ws) 64 g, eq-eqb (length cw) 3 f, ne_eqb (length ow) 5 h)

  pub start_told : length ws ≡ 64 → length cw ≡ 3 → length ow ≡ 5 → (held : Cache) → pointers 32 held ≡ entries_of ws
      → (i : List ℕ) (r : Started) → started_of i r ≡ called 4 E m fetch_all_items (lent_of img held)
      → (w : List ℕ) → w ≡ cursor_after cw r.answer r.cursor
      → (n : ℕ) (c o : List ℕ)
      → (n ≡ number r.answer) × (c ≡ cache_words (pointers 32 r.cache)) × (o ≡ out_words r.erased r.answer)
      → record { no = n; image = i; cache = c; cursor = w; out = o } ≡ start_border E m img ws cw ow
  unfolding start_border
  start_told g h j held p i r t w q n c o f =
      rw (eq-eqb (length ws) 64 g, eq-eqb (length cw) 3 h, eq-eqb (length ow) 5 j, ← p, ← t, q, f.0, f.1, f.2)

-- ---- a walk's step

module _ (E : ℕ) (img cw ow : List ℕ) where
  pub step_no_cursor : length cw ≢ 3 → record { no = 255; cursor = cw; out = ow } ≡ step_border E img cw ow
  unfolding step_border
  step_no_cursor h = rw (ne_eqb (length cw) 3 h)

  pub step_no_out : length cw ≡ 3 → length ow ≢ 5 → record { no = 255; cursor = cw; out = ow } ≡ step_border E img cw ow
  unfolding step_border
  step_no_out g h = rw (eq-eqb (length cw) 3 g, ne_eqb (length ow) 5 h)

  pub step_told : length cw ≡ 3 → length ow ≡ 5 → (at : Cursor) → at ≡ cursor_of cw → (r : Stepped) → StepOk E at img r
      → (w : List ℕ) → w ≡ cursor_after cw r.answer r.cursor → (n : ℕ) (o : List ℕ) → n ≡ number r.answer
      → o ≡ out_words 0 r.answer
      → record { no = n; cursor = w; out = o } ≡ step_border E img cw ow
  unfolding step_border
  step_told g h at p r s w q n o e f = rw (eq-eqb (length cw) 3 g, eq-eqb (length ow) 5 h, ← p, ← s.is 0 [], q, e, f)
