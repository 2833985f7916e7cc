-- A sound image with a right cache: the wholly Open ring, or the ring with a PartialOpen page. On a sound image no call repairs.
use Rattle.std.specs.Prelude.{◌≡◌, ◌≢◌, ◌⊎◌, Bool, true, false, drop, eqb}
use Rattle.std.proofs.Math.Path.{refl, ap, subst}
use Rattle.std.proofs.Common.{sym, ◌∙◌, inl, inr, arith, lt-ltb, le-ltb, eqb-true}
use Prim.Native.Nat.{ℕ, zero, suc, ◌-◌, ◌≤◌, ◌<◌, ◌+◌}
use mathlib.Core.List.{List, [], ◌∷◌, ◌++◌, append-nil}
use Rattle.std.proofs.Math.ListN.{replicate, take, length}
use Rattle.std.proofs.lemmas.Bool.{eqb-false}
use Rattle.rules.specs.declared.{Geo.Geo, PageState.TheVariants.Open, Answer.TheVariants.Done, Answer.TheVariants.Corrupted, Answer.Answer, Answer.TheVariants.Value, Answer.TheVariants.None, Answer.TheVariants.Item, Answer.TheVariants.EndRangeNotAtPageBoundary, Answer.TheVariants.RangeTooSmall, Answer.TheVariants.PagesTooSmall, Answer.TheVariants.Geometry, Answer.TheVariants.CacheSize, Answer.TheVariants.ItemTooBig, Answer.TheVariants.FullStorage, PageState.TheVariants.Corrupted as CorruptedPage, PageState.PageState, PageState.TheVariants.PartialOpen, PageState.TheVariants.Closed}
use Rattle.rules.specs.Items.{Scan, presents}
use Rattle.rules.specs.Pages.{is_page, state, scan_of, items_of, area, area_len, data_at, first_page, any_corrupted, up_from, prev, start_at, end_at, same, first_with}
use Rattle.rules.specs.Cache.{Cache, empty_pointer, lookup}
use Rattle.rules.specs.Answers.{number}
use Rattle.rules.specs.Runs.{St, Out, end, final}
use Rattle.rules.specs.Fetch.{Found, corrupt, missing, found, newest, answer_of}
use Rattle.rules.specs.Store.{auto_repair, turn}
use Rattle.rules.specs.Sound.{All, Ring, Sound, blank_ring, ring_rest, Unused, used_ring}
use Rattle.laws.specs.Lists.{All-append, All-map}
use Rattle.laws.specs.Splice.{window_replicate}
use Rattle.laws.specs.Geometry.{Fit, page_in}
use Rattle.laws.specs.Touch.{mark_start, state-mark_start, unmarked_ff, start_marked}
use Rattle.laws.specs.Tails.{blank-scan, blank_tail, tail_says}
use Rattle.laws.specs.Rings.{first_is, all_rest, newest_is, rest_all}
use Rattle.laws.specs.Moves.{frame_opens, rest_not}
use Rattle.laws.specs.RunLaws.{on-no}
use Rattle.theory.specs.CacheLaws.{Once}
use Rattle.theory.specs.Cached.{Valid, valid_same}
use Rattle.theory.specs.Stored.{Good}

-- number 8 is Corrupted's alone
-- answers that are not Corrupted: Done, a store's, a find's
pub done_clean : (a : Answer) → a ≡ Done → a ≢ Corrupted
done_clean a h e = let z = ap number (sym h ∙ e) in omega arith

pub store_clean : (a : Answer) → (a ≡ Done) ⊎ (a ≡ FullStorage) → a ≢ Corrupted
store_clean a (inl h) e = done_clean a h e
store_clean a (inr h) e = let z = ap number (sym h ∙ e) in omega arith

pub found_clean : (r : Found) → r ≢ corrupt → answer_of r ≢ Corrupted
found_clean corrupt n e = n refl
found_clean missing n e = let z = ap number e in omega arith
found_clean (found x) n e = let z = ap number e in omega arith

pub not_eight : (a : Answer) → a ≢ Corrupted → number a ≢ 8
not_eight Done n e = omega arith
not_eight (Value x l) n e = omega arith
not_eight None n e = omega arith
not_eight (Item k x l) n e = omega arith
not_eight EndRangeNotAtPageBoundary n e = omega arith
not_eight RangeTooSmall n e = omega arith
not_eight PagesTooSmall n e = omega arith
not_eight Geometry n e = omega arith
not_eight CacheSize n e = omega arith
not_eight ItemTooBig n e = omega arith
not_eight FullStorage n e = omega arith
not_eight Corrupted n e = n refl

pub is_seven : (a : Answer) → number a ≡ 7 → a ≡ FullStorage
is_seven Done e = absurd (omega arith)
is_seven (Value x l) e = absurd (omega arith)
is_seven None e = absurd (omega arith)
is_seven (Item k x l) e = absurd (omega arith)
is_seven EndRangeNotAtPageBoundary e = absurd (omega arith)
is_seven RangeTooSmall e = absurd (omega arith)
is_seven PagesTooSmall e = absurd (omega arith)
is_seven Geometry e = absurd (omega arith)
is_seven CacheSize e = absurd (omega arith)
is_seven ItemTooBig e = absurd (omega arith)
is_seven FullStorage e = refl
is_seven Corrupted e = absurd (omega arith)

module _ (G : Geo) where
  pub first_none : (t : PageState) (img : List ℕ) (a m : ℕ) → ((q : ℕ) → a ≤ q → q < a + m → same t (state G img q) ≡ false) → first_with G t img (up_from a m) ≡ G.pages
  first_none t img a zero h = refl
  first_none t img a (suc m) h = rw (h a (omega arith) (omega arith)) (first_none t img (suc a) m (λ q k₁ k₂. h q (omega arith) (omega arith)))

  -- all pages Open and blank
  abbrev pub Blank : List ℕ → Type 0
  Blank img = (q : ℕ) → q < G.pages → Unused G img q

  -- a sound image and a cache that is right for it
  pub record Sane (img : List ℕ) (ca : Cache) : Type 0 where
    pub fit : Fit G img
    pub sound : Sound G img
    pub valid : Valid G img ca

  pub good_sane : (img : List ℕ) (ca : Cache) → Good G img ca → Sane img ca
  good_sane img ca g = record { fit = g.fit; sound = used_ring g.p g.o g.os g.cs g.ring; valid = g.valid }

  pub sane_cases : (img : List ℕ) (ca : Cache) → Sane img ca → Blank img ⊎ Good G img ca
  sane_cases img ca s = go s.sound
    where
      go : Sound G img → Blank img ⊎ Good G img ca
      go (blank_ring b) = inl b
      go (used_ring p o os cs R) = inr (record { fit = s.fit; p = p; o = o; os = os; cs = cs; ring = R; valid = s.valid })

  -- the same ring, another right cache
  pub other_cache : (img : List ℕ) (ca cb : Cache) → Sane img ca → Valid G img cb → Sane img cb
  other_cache img ca cb s v = record { fit = s.fit; sound = s.sound; valid = v }

  -- ---- a wholly Open ring

  module _ (img : List ℕ) (ok : Fit G img) (b : Blank img) where
    n₊ : 2 ≤ G.pages
    n₊ = ok.held.two

    pub blank-items : (q : ℕ) → q < G.pages → items_of G img q ≡ []
    blank-items q h = ap (λ (r : Scan). presents r.items) (blank-scan G img q (b q h).blank)

    pub blank_first : (t : PageState) → same t Open ≡ false → first_page G t img ≡ G.pages
    blank_first t e = first_none t img 0 G.pages (λ q k₁ k₂. rw (b q (omega arith)).is_open e)

    pub blank_open : first_page G Open img ≡ 0
    blank_open =
        let h = n₊ in
        first_is G Open img 0 G.pages 0 (omega arith) (omega arith) (rw (b 0 (omega arith)).is_open) (λ q k₁ k₂. absurd (omega arith))

    pub no-page : is_page G G.pages ≡ false
    no-page = le-ltb G.pages G.pages (omega arith)

    pub page_zero : is_page G 0 ≡ true
    page_zero = lt-ltb 0 G.pages (omega (arith, n₊))

    -- nor is the page before the first one Closed
    pub before_zero : same Closed (state G img (prev G 0)) ≡ false
    before_zero = rw (b (G.pages - 1) (omega (arith, n₊))).is_open

    pub blank-newest : (k : ℕ) → newest G img k ≡ missing
    unfolding newest
    blank-newest k = rw (blank_first PartialOpen refl, no-page, blank_open, page_zero, before_zero)

    -- the first turn of a store marks page 0
    pub blank_turn : (k : ℕ) (v : List ℕ) (ca : Cache) (er : ℕ)
        → final (turn G k v (record { img = img; cache = ca; erased = er })) ≡ end FullStorage (record { img = mark_start G img 0; cache = ca; erased = er })
    unfolding turn
    blank_turn k v ca er = rw (blank_first PartialOpen refl, no-page, blank_open, page_zero)

    z₊ : 0 < G.pages
    z₊ = omega (arith, n₊)

    marked-area : area G (mark_start G img 0) 0 ≡ replicate (area_len G) 255
    marked-area = (start_marked G img ok 0 z₊).area_is ∙ (b 0 z₊).blank

    pub marked-scan : scan_of G (mark_start G img 0) 0 ≡ record { items = []; end = data_at G 0 }
    marked-scan = blank-scan G (mark_start G img 0) 0 marked-area

    pub marked_ring : Ring G (mark_start G img 0) 0 (1 ∷ up_from 2 (G.pages - 2)) []
    unfolding ring_rest
    marked_ring =
        let z : G.pages - 1 ≡ suc (G.pages - 2) = omega (arith, n₊) in
        let e : ring_rest G 0 ≡ 1 ∷ up_from 2 (G.pages - 2) ++ [] = rw z in
        let np = rest_not G 0 z₊ (ring_rest G 0) refl in
        let op : All (Unused G (mark_start G img 0)) (ring_rest G 0) =
        frame_opens G img (mark_start G img 0) 0 (start_marked G img ok 0 z₊).touch.frame (ring_rest G 0) np (all_rest G (Unused G img) 0 z₊ (λ q h ne. b q h)) in
        let e' : ring_rest G 0 ≡ 1 ∷ up_from 2 (G.pages - 2) = rw (append-nil (1 ∷ up_from 2 (G.pages - 2))) at e in
        record {
          in_ring = z₊;
          rest_is = e;
          partial = state-mark_start G img ok 0 z₊ (b 0 z₊).is_open;
          tail = tail_says G (mark_start G img 0) (start_marked G img ok 0 z₊).touch.fit 0 z₊ (blank_tail G (mark_start G img 0) 0 marked-area);
          opens = subst (All (Unused G (mark_start G img 0))) e' op;
          closeds = tt;
        }

    pub marked-newest : (k : ℕ) → newest G (mark_start G img 0) k ≡ missing
    marked-newest k = newest_is G (mark_start G img 0) 0 (1 ∷ up_from 2 (G.pages - 2)) [] marked_ring k ∙ rw marked-scan

    pub marked_good : (ca : Cache) → Valid G img ca → Good G (mark_start G img 0) ca
    marked_good ca v = record {
      fit = (start_marked G img ok 0 z₊).touch.fit;
      p = 0;
      o = 1;
      os = up_from 2 (G.pages - 2);
      cs = [];
      ring = marked_ring;
      valid = valid_same G img (mark_start G img 0) ca (λ k. marked-newest k ∙ sym (blank-newest k)) v;
    }

    -- a right cache holds nothing
    pub blank_cache : (ca : Cache) → Valid G img ca → (k : ℕ) → lookup k ca ≡ 0
    blank_cache ca v k = go (eqb (lookup k ca) 0) refl
      where
        go : (c : Bool) → eqb (lookup k ca) 0 ≡ c → lookup k ca ≡ 0
        go true e = eqb-true (lookup k ca) 0 e
        go false e =
            let r = v.right k (eqb-false (lookup k ca) 0 e) in
            let x : missing ≡ found r.0 = sym (blank-newest k) ∙ r.1 in
            let z : ◌≡◌ {A = ℕ} 0 1 = cc in absurd (omega arith)

  -- an image of 0xFF bytes is such a ring
  pub blank-image : (img : List ℕ) → Fit G img → img ≡ replicate (length img) 255 → Blank img
  unfolding state
  blank-image img ok e q hq =
      let h = page_in G.page q G.pages hq in
      let wh = ok.held.whole in
      let rm = ok.held.room in
      record {
        is_open = rw (win (start_at G q) G.word (omega arith), win (end_at G q) G.word (omega arith), unmarked_ff G ok.held.low);
        blank = win (data_at G q) (area_len G) (omega arith);
      }
    where
      win : (i m : ℕ) → i + m ≤ length img → take m (drop i img) ≡ replicate m 255
      win i m h = ap (λ (l : List ℕ). take m (drop i l)) e ∙ window_replicate (length img) i m 255 h

  -- ---- a run on a sound image needs no repair unless it is Corrupted itself

  pub no_bad : (img : List ℕ) → Fit G img → Sound G img → any_corrupted G img ≡ false
  no_bad img ok (blank_ring b) = rw (blank_first img ok b CorruptedPage refl) (le-ltb G.pages G.pages (omega arith))
  no_bad img ok (used_ring p o os cs R) =
      rw (first_none CorruptedPage img 0 G.pages (λ q k₁ k₂. one q (omega arith) (eqb q p) refl)) (le-ltb G.pages G.pages (omega arith))
    where
      NB : ℕ → Type 0
      NB q = same CorruptedPage (state G img q) ≡ false

      one : (q : ℕ) → q < G.pages → (b : Bool) → eqb q p ≡ b → same CorruptedPage (state G img q) ≡ false
      one q hq true e = rw (eqb-true q p e, R.partial)
      one q hq false e =
          rest_all G NB p R.in_ring
          (rw R.rest_is (All-append NB (o ∷ os) cs
          (All-map (Unused G img) NB (o ∷ os) (λ q h. rw h.is_open) R.opens)
          (All-map (λ q. state G img q ≡ Closed) NB cs (λ q h. rw h) R.closeds)))
          q hq (eqb-false q p e)

  pub no-repair : (f : St → Out) (img : List ℕ) (ca : Cache) (er : ℕ) → Fit G img → Sound G img → (f (record { img = img; cache = ca; erased = er })).ans ≢ Corrupted
      → auto_repair G f (record { img = img; cache = ca; erased = er }) ≡ f (record { img = img; cache = ca; erased = er })
  unfolding auto_repair
  no-repair f img ca er ok s n = rw (no_bad img ok s) (on-no 8 (f (record { img = img; cache = ca; erased = er })) _ (not_eight _ n))

  -- an empty cache of any size is right
  pub valid_empty : (img : List ℕ) (m : ℕ) → Valid G img (replicate m empty_pointer)
  valid_empty img m = record { right = λ k ne. absurd (ne (empty m k)); once = once m }
    where
      empty : (m k : ℕ) → lookup k (replicate m empty_pointer) ≡ 0
      empty zero k = refl
      empty (suc m) k = empty m k

      once : (m : ℕ) → Once (replicate m empty_pointer)
      once zero = tt
      once (suc m) = (λ ne. absurd (ne refl), once m)
