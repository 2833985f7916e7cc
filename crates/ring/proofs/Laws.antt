-- Pages and the ring, in the form that the code's loops ask.
use mathlib.Core.Path.{◌≡◌, refl, ap, ◌∙◌}
use Prim.Native.Nat.{ℕ, suc, ◌+◌, ◌-◌, ◌*◌, ◌≤◌, ◌<◌}
use native.Mathlib.Omega.{arith}
use native.Mathlib.Nat.{zero-add}
use mathlib.Core.Bool.{false, true, Bool, not}
use mathlib.Core.List.{List, [], ◌∷◌, reverse, reverse-append}
use lib.ListN.{take, drop, replicate}
use Rattle.rules.specs.declared.{Geo.Geo, PageState.PageState, PageState.TheVariants.Corrupted}
use Rattle.rules.specs.Bytes.{pick, splice, erase}
use Rattle.rules.specs.Power.{lasts, spend}
use Rattle.rules.specs.Cache.{Cache}
use Rattle.rules.specs.Remove.{erase_pages}
use Rattle.laws.specs.Power.{Blanked}
use Rattle.laws.specs.Through.{Through, thr_refl, thr_then, thr_from, thr_to, thr_erase}
use Rattle.ring.specs.Erased.{erase_from, st_beside, ErasedAll}
use Rattle.rules.specs.Pages.{same, state_of, marked, state, first_with, up_from, scan_of, area_len, data_at, end_at}
use Rattle.laws.specs.Lists.{up_from-snoc}
use Rattle.items.specs.Code.{scan_in, SpotIn}
use Rattle.std.specs.Prelude.{Option, None, Some}
use Rattle.items.specs.declared.Spot.{Spot}

-- a page's scan, from its data's place to its end word
pub scan_is : (G : Geo) (img : List ℕ) (p : ℕ) → 2 * G.word ≤ G.page → scan_of G img p ≡ scan_in G.word img (data_at G p) (end_at G p)
unfolding scan_of
scan_is G img p h = let z : end_at G p - data_at G p ≡ area_len G = omega arith in rw z

-- the first page in a state, from page p on
module _ (G : Geo) (t : PageState) (img : List ℕ) (p : ℕ) (h : p < G.pages) where
  z : G.pages - p ≡ suc (G.pages - (p + 1))
  z = omega arith

  y : suc p ≡ p + 1
  y = omega arith

  pub first_no : same t (state G img p) ≡ false → first_with G t img (up_from p (G.pages - p)) ≡ first_with G t img (up_from (p + 1) (G.pages - (p + 1)))
  first_no e = rw (z, e, y)

-- the last page in a state, below page p
module _ (G : Geo) (t : PageState) (img : List ℕ) (p : ℕ) (h : 0 < p) where
  below : reverse (up_from 0 p) ≡ (p - 1) ∷ reverse (up_from 0 (p - 1))
  below =
      let q : p ≡ suc (p - 1) = omega arith in
      ap (λ (x : ℕ). reverse (up_from 0 x)) q ∙ rw (up_from-snoc 0 (p - 1), zero-add (p - 1), reverse-append (up_from 0 (p - 1)) ((p - 1) ∷ []))

  pub last_yes : same t (state G img (p - 1)) ≡ true → first_with G t img (reverse (up_from 0 p)) ≡ p - 1
  last_yes e = rw (below, e)

  pub last-no : same t (state G img (p - 1)) ≡ false → first_with G t img (reverse (up_from 0 p)) ≡ first_with G t img (reverse (up_from 0 (p - 1)))
  last-no e = rw (below, e)

-- a page's state by its two words
pub state_by : (G : Geo) (img : List ℕ) (p b e : ℕ) (s t : Bool) → b ≡ p * G.page → e ≡ end_at G p
    → s ≡ marked G (take G.word (drop b img)) → t ≡ marked G (take G.word (drop e img)) → state_of s t ≡ state G img p
unfolding state
state_by G img p b e s t hb he hs ht = rw (hs, ht, hb, he) refl

-- a page is corrupted where its end is marked and its start isn't
pub corrupted_by : (s : Bool) → not s ≡ same Corrupted (state_of s true)
corrupted_by true = refl
corrupted_by false = refl

-- a page whose end is not marked is not corrupted
pub open_end : (s : Bool) → false ≡ same Corrupted (state_of s false)
open_end true = refl
open_end false = refl

-- what is found before e is found before n
pub spot_mono : (e n : ℕ) (r : Option Spot) → e ≤ n → SpotIn e r → SpotIn n r
spot_mono e n None h i = tt
spot_mono e n (Some s) h i = omega arith

-- a page erased from its start on
pub blanked_by : (G : Geo) (img img' : List ℕ) (p p' q b : ℕ) → b ≡ q * G.page
    → img' ≡ pick (lasts p 1) (splice img b (replicate G.page 255)) img → p' ≡ spend p 1 → Blanked G img p img' p' q
unfolding erase
blanked_by G img img' p p' q b hb h hp = record { is = rw hb at h; left = hp }

-- ---- all pages erased

-- the run over all pages has come to those from q up, whatever stands beside the image
abbrev pub ErasedTo : Geo → ℕ → List ℕ → ℕ → List ℕ → ℕ → Type 0
ErasedTo G q l p l' p' =
    (c : Cache) (n : ℕ) → Through G (erase_from G 0 (st_beside l c n)) l p l' p' (erase_from G q (st_beside l' c (n + q)))

pub erased_none : (G : Geo) (l : List ℕ) (p : ℕ) → ErasedTo G 0 l p l p
erased_none G l p c n =
    let z : n + 0 ≡ n = omega arith in
    rw z (thr_refl G (erase_from G 0 (st_beside l c n)) l p)

pub erased_more : (G : Geo) (q : ℕ) (l : List ℕ) (p : ℕ) (m m' : List ℕ) (p₁ p₂ : ℕ) → q < G.pages → ErasedTo G q l p m p₁
    → Blanked G m p₁ m' p₂ q → ErasedTo G (q + 1) l p m' p₂
unfolding erase_pages
erased_more G q l p m m' p₁ p₂ h P B c n =
    let left : ℕ = G.pages - (q + 1) in
    let rest = erase_pages G (up_from (suc q) left) in
    let z : G.pages - q ≡ suc left = omega arith in
    let y : suc q ≡ q + 1 = omega arith in
    let k : n + q + 1 ≡ n + (q + 1) = omega arith in
    thr_then G (P c n)
    (thr_from G (ap (λ (j : ℕ). erase_pages G (up_from q j) (st_beside m c (n + q))) z)
    (thr_to G (thr_erase G q (st_beside m c (n + q)) rest m' p₁ p₂ B)
    (ap (λ (j : ℕ). erase_pages G (up_from j left) (st_beside m' c (n + q + 1))) y
    ∙ ap (λ (j : ℕ). erase_pages G (up_from (q + 1) left) (st_beside m' c j)) k)))

pub erased_all : (G : Geo) (q : ℕ) (l : List ℕ) (p : ℕ) (l' : List ℕ) (p' : ℕ) → G.pages ≤ q → q ≤ G.pages
    → ErasedTo G q l p l' p' → ErasedAll G l p l' p'
unfolding erase_pages
erased_all G q l p l' p' h h' P c n =
    let e : q ≡ G.pages = omega arith in
    let z : G.pages - G.pages ≡ 0 = omega arith in
    let P' = rw e at (P c n) in
    thr_to G P' (ap (λ (j : ℕ). erase_pages G (up_from G.pages j) (st_beside l' c (n + G.pages))) z)
