-- The sound image.
use Rattle.std.specs.Prelude.{◌≡◌, ◌⊎◌, ℕ, suc, ◌-◌, ◌<◌, List, [], ◌∷◌, ◌++◌, length, take, drop, replicate}
use Rattle.rules.specs.declared.{Geo.Geo, PageState.TheVariants.Open, PageState.TheVariants.PartialOpen, PageState.TheVariants.Closed, Answer.TheVariants.Done}
use Rattle.rules.specs.Bytes.{Bytes}
use Rattle.rules.specs.Pages.{state, area, area_len, end_at, scan_of, up_from}
use Rattle.rules.specs.Answers.{refusal}
use Rattle.rules.specs.Calls.{geo_of}

-- a property of each element
abbrev pub All : {A : Type 0} → (A → Type 0) → List A → Type 0
All P [] = Unit {0}
All P (x ∷ xs) = P x × All P xs

module _ (G : Geo) where
  -- the pages after p around the ring, up to the one before it
  unfoldable pub ring_rest : ℕ → List ℕ
  ring_rest p = up_from (suc p) (G.pages - suc p) ++ up_from 0 p

  -- "Data bytes of Open pages .. are 0xFF"
  pub record Unused (img : List ℕ) (q : ℕ) : Type 0 where
    pub is_open : state G img q ≡ Open
    pub blank : area G img q ≡ replicate (area_len G) 255

  -- ".. and those after the scan's end of the PartialOpen page"
  abbrev pub BlankTail : List ℕ → ℕ → Type 0
  BlankTail img p =
      let a = (scan_of G img p).end in
      take (end_at G p - a) (drop a img) ≡ replicate (end_at G p - a) 255

  -- page p is PartialOpen, after it come the Open pages os, and then the Closed ones cs
  pub record Ring (img : List ℕ) (p : ℕ) (os cs : List ℕ) : Type 0 where
    pub in_ring : p < G.pages
    pub rest_is : ring_rest p ≡ os ++ cs
    pub partial : state G img p ≡ PartialOpen
    pub tail : BlankTail img p
    pub opens : All (Unused img) os
    pub closeds : All (λ q. state G img q ≡ Closed) cs

  -- "all pages Open; or one PartialOpen, at least one Open right after it, all Open ones in that run, the rest Closed"
  pub data Sound (img : List ℕ) : Type 0 where
    blank_ring : ((q : ℕ) → q < G.pages → Unused img q) → Sound img
    used_ring : (p o : ℕ) (os cs : List ℕ) → Ring img p (o ∷ os) cs → Sound img

-- a sound image of bytes whose sizes are accepted, for words of 4 bytes, or of 8
pub record SoundImage (w E : ℕ) (img : List ℕ) : Type 0 where
  pub word : (w ≡ 4) ⊎ (w ≡ 8)
  pub accepted : refusal w E (length img) 0 0 ≡ Done
  pub bytes : Bytes img
  pub sound : Sound (geo_of w E (length img)) img
