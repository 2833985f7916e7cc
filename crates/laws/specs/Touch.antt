-- Any bytes written in a page's start word, end word or data area, and an erase: what each page then shows.
use Rattle.std.proofs.Math.Path.{◌≡◌, refl, ap}
use Rattle.std.proofs.Common.{subst, length-take-le, ltb-true, ltb-false, le-leb}
use Rattle.std.specs.Prelude.{◌≢◌, ◌⊎◌, ℕ, ◌+◌, ◌-◌, ◌*◌, ◌≤◌, ◌<◌, Bool, List, drop, ltb}
use Rattle.std.proofs.Math.Logic.{inl, inr}
use Rattle.std.proofs.Math.Bool.{true, false}
use Rattle.std.proofs.Math.ListN.{length, take, replicate, length-drop}
use Rattle.std.proofs.lemmas.List.{length-replicate}
use native.Mathlib.Omega.{arith}
use Rattle.std.proofs.lemmas.Bool.{lt-leb}
use Rattle.rules.specs.declared.{Geo.Geo, PageState.TheVariants.Open, PageState.TheVariants.PartialOpen, PageState.TheVariants.Closed}
use Rattle.rules.specs.Bytes.{zeros, splice, program, erase, and_all}
use Rattle.rules.specs.Pages.{state_of, marked, start_word, end_word, area, area_len, start_at, data_at, end_at, state, scan_of, zero_word}
use Rattle.rules.specs.Sound.{Unused}
use Rattle.laws.specs.Splice.{length-splice, win_before, win_after, win_exact, win_within, window_replicate}
use Rattle.laws.specs.ByteLaws.{Bytes-splice, Bytes-replicate, and_zeros, zeros-zeros, zeros_ff, Spliced, program-splice}
use Rattle.laws.specs.Geometry.{Fit, page_in}

-- marking a page's start and end
abbrev pub mark_start : Geo → List ℕ → ℕ → List ℕ
mark_start G img p = program img (start_at G p) (zero_word G)

abbrev pub mark_end : Geo → List ℕ → ℕ → List ℕ
mark_end G img p = program img (end_at G p) (zero_word G)

-- all pages but x are as they were
pub record Frame (G : Geo) (img img' : List ℕ) (x : ℕ) : Type 0 where
  pub same_state : (q : ℕ) → q < G.pages → q ≢ x → state G img' q ≡ state G img q
  pub same_area : (q : ℕ) → q < G.pages → q ≢ x → area G img' q ≡ area G img q

-- a change within page p
pub record Touched (G : Geo) (img : List ℕ) (p : ℕ) (img' : List ℕ) : Type 0 where
  pub fit : Fit G img'
  pub frame : Frame G img img' p

pub marked_zero : (G : Geo) → marked G (zero_word G) ≡ true
marked_zero G = le-leb (4 * G.word) (zeros (zero_word G)) (omega (arith, zeros-zeros G.word))

pub unmarked_ff : (G : Geo) → 4 ≤ G.word → marked G (replicate G.word 255) ≡ false
unmarked_ff G h = lt-leb (4 * G.word) (zeros (replicate G.word 255)) (omega (arith, zeros_ff G.word))

module _ (G : Geo) (img : List ℕ) (ok : Fit G img) (p : ℕ) (hp : p < G.pages) where
  -- what lies in the page lies in the image
  inside : (i m : ℕ) → i + m ≤ G.page → p * G.page + i + m ≤ length img
  inside i m h = omega (arith, ok.held.whole, page_in G.page p G.pages hp)

  -- a write in page p leaves each window of another page
  other : (i₀ : ℕ) (new : List ℕ) → i₀ + length new ≤ G.page → (q : ℕ) → q ≢ p → (i m : ℕ) → i + m ≤ G.page
      → take m (drop (q * G.page + i) (splice img (p * G.page + i₀) new)) ≡ take m (drop (q * G.page + i) img)
  other i₀ new hn q ne i m hi = go (ltb q p) refl
    where
      go : (b : Bool) → ltb q p ≡ b → take m (drop (q * G.page + i) (splice img (p * G.page + i₀) new)) ≡ take m (drop (q * G.page + i) img)
      go true e =
          win_before img (p * G.page + i₀) new (inside i₀ (length new) hn) (q * G.page + i) m (omega (arith, page_in G.page q p (ltb-true q p e)))
      go false e =
          let lt : p < q = omega (arith, ltb-false q p e) in
          win_after img (p * G.page + i₀) new (inside i₀ (length new) hn) (q * G.page + i) m (omega (arith, page_in G.page p q lt))

  frame_splice : (i₀ : ℕ) (new : List ℕ) → i₀ + length new ≤ G.page → Frame G img (splice img (p * G.page + i₀) new) p
  unfolding state
  frame_splice i₀ new hn = record {
    same_state = λ q hq ne.
        let z : q * G.page + 0 ≡ q * G.page = omega arith in
        let e₀ : start_word G (splice img (p * G.page + i₀) new) q ≡ start_word G img q =
        rw z at (other i₀ new hn q ne 0 G.word (omega (arith, ok.held.room))) in
        rw (e₀, other i₀ new hn q ne (G.page - G.word) G.word (omega (arith, ok.held.room)));
    same_area = λ q hq ne. other i₀ new hn q ne G.word (area_len G) (omega (arith, ok.held.room));
  }

  touched : (img' : List ℕ) (i₀ n : ℕ) → i₀ + n ≤ G.page → Spliced img (p * G.page + i₀) n img' → Touched G img p img'
  touched img' i₀ n h S =
      let l = S.len in
      let h' : i₀ + length S.y ≤ G.page = omega arith in
      rw S.is (record {
        fit = record {
          held = rw (length-splice img (p * G.page + i₀) S.y (inside i₀ (length S.y) h')) ok.held;
          bytes = Bytes-splice img (p * G.page + i₀) S.y ok.bytes S.bytes;
        };
        frame = frame_splice i₀ S.y h';
      })

  -- ---- the start word

  pub record AtStart (img' : List ℕ) : Type 0 where
    pub touch : Touched G img p img'
    pub end_is : end_word G img' p ≡ end_word G img p
    pub area_is : area G img' p ≡ area G img p

  pub at_start : (img' : List ℕ) → Spliced img (start_at G p) G.word img' → AtStart img'
  at_start img' S =
      let z : p * G.page + 0 ≡ start_at G p = omega arith in
      let S' : Spliced img (p * G.page + 0) G.word img' = rw z S in
      let l = S.len in
      let f : start_at G p + length S.y ≤ length img = omega (arith, inside 0 G.word (omega (arith, ok.held.room))) in
      record {
        touch = touched img' 0 G.word (omega (arith, ok.held.room)) S';
        end_is = rw S.is (win_after img (start_at G p) S.y f (end_at G p) G.word (omega (arith, ok.held.room)));
        area_is = rw S.is (win_after img (start_at G p) S.y f (data_at G p) (area_len G) (omega (arith, ok.held.room)));
      }

  -- ---- the end word

  pub record AtEnd (img' : List ℕ) : Type 0 where
    pub touch : Touched G img p img'
    pub start_is : start_word G img' p ≡ start_word G img p
    pub area_is : area G img' p ≡ area G img p

  pub at_end : (img' : List ℕ) → Spliced img (end_at G p) G.word img' → AtEnd img'
  at_end img' S =
      let l = S.len in
      let f : end_at G p + length S.y ≤ length img = omega (arith, inside (G.page - G.word) G.word (omega (arith, ok.held.room))) in
      record {
        touch = touched img' (G.page - G.word) G.word (omega (arith, ok.held.room)) S;
        start_is = rw S.is (win_before img (end_at G p) S.y f (start_at G p) G.word (omega (arith, ok.held.room)));
        area_is = rw S.is (win_before img (end_at G p) S.y f (data_at G p) (area_len G) (omega (arith, ok.held.room)));
      }

  -- ---- the area

  pub record AtArea (img' : List ℕ) : Type 0 where
    pub touch : Touched G img p img'
    pub state_is : state G img' p ≡ state G img p

  pub at_area : (img' : List ℕ) (a n : ℕ) → Spliced img a n img' → data_at G p ≤ a → a + n ≤ end_at G p → AtArea img'
  unfolding state
  at_area img' a n S lo hi =
      let l = S.len in
      let z : p * G.page + (a - p * G.page) ≡ a = omega arith in
      let S' : Spliced img (p * G.page + (a - p * G.page)) n img' = rw z S in
      let f : a + length S.y ≤ length img = omega (arith, inside (G.page - G.word) G.word (omega (arith, ok.held.room)), ok.held.room) in
      let e₁ : start_word G img' p ≡ start_word G img p = rw S.is (win_before img a S.y f (start_at G p) G.word (omega arith)) in
      let e₂ : end_word G img' p ≡ end_word G img p = rw S.is (win_after img a S.y f (end_at G p) G.word (omega arith)) in
      record {
        touch = touched img' (a - p * G.page) n (omega (arith, ok.held.room)) S';
        state_is = rw (e₁, e₂);
      }

  -- ---- half a mark: the old state or the new one

  pub half_start : (img' : List ℕ) → AtStart img' → state G img p ≡ Open → (state G img' p ≡ Open) ⊎ (state G img' p ≡ PartialOpen)
  unfolding state
  half_start img' S h = rw S.end_is (go (marked G (start_word G img p)) (marked G (end_word G img p)) (marked G (start_word G img' p)) h)
    where
      go : (a b c : Bool) → state_of a b ≡ Open → (state_of c b ≡ Open) ⊎ (state_of c b ≡ PartialOpen)
      go a false false e = inl refl
      go a false true e = inr refl
      go false true c e = let z : ◌≡◌ {A = ℕ} 0 1 = cc in absurd (omega arith)
      go true true c e = let z : ◌≡◌ {A = ℕ} 0 1 = cc in absurd (omega arith)

  pub half_end : (img' : List ℕ) → AtEnd img' → state G img p ≡ PartialOpen → (state G img' p ≡ PartialOpen) ⊎ (state G img' p ≡ Closed)
  unfolding state
  half_end img' S h = rw S.start_is (go (marked G (start_word G img p)) (marked G (end_word G img p)) (marked G (end_word G img' p)) h)
    where
      go : (a b c : Bool) → state_of a b ≡ PartialOpen → (state_of a c ≡ PartialOpen) ⊎ (state_of a c ≡ Closed)
      go true b false e = inl refl
      go true b true e = inr refl
      go false true c e = let z : ◌≡◌ {A = ℕ} 0 1 = cc in absurd (omega arith)
      go false false c e = let z : ◌≡◌ {A = ℕ} 0 1 = cc in absurd (omega arith)

  -- ---- a whole mark

  lw : length (zero_word G) ≡ G.word
  lw = length-replicate G.word 0

  word_in : (i : ℕ) → i + G.word ≤ G.page → p * G.page + i + length (zero_word G) ≤ length img
  word_in i h = omega (arith, inside i G.word h, lw)

  -- the word that is programmed is zeros then
  zeros_in_lem : (i : ℕ) → i + G.word ≤ G.page → take G.word (drop (p * G.page + i) (program img (p * G.page + i) (zero_word G))) ≡ zero_word G
  unfolding program
  zeros_in_lem i h =
      let at = p * G.page + i in
      let o = take (length (zero_word G)) (drop at img) in
      let lo : length o ≡ G.word = rw lw (length-take-le G.word (drop at img) (rw length-drop (omega (arith, inside i G.word h)))) in
      let e : and_all o (zero_word G) ≡ zero_word G = rw lo at (and_zeros o) in
      rw e (win_exact img at (zero_word G) (word_in i h) G.word lw)

  pub start_marked : AtStart (mark_start G img p)
  start_marked =
      let z : p * G.page + 0 ≡ start_at G p = omega arith in
      let f : start_at G p + length (zero_word G) ≤ length img = omega (arith, word_in 0 (omega (arith, ok.held.room))) in
      at_start (mark_start G img p) (subst (λ n. Spliced img (start_at G p) n (mark_start G img p)) lw (program-splice img (start_at G p) (zero_word G) ok.bytes f))

  pub end_marked : AtEnd (mark_end G img p)
  end_marked =
      at_end (mark_end G img p) (subst (λ n. Spliced img (end_at G p) n (mark_end G img p)) lw
      (program-splice img (end_at G p) (zero_word G) ok.bytes (word_in (G.page - G.word) (omega (arith, ok.held.room)))))

  -- an Open page becomes PartialOpen
  pub state-mark_start : state G img p ≡ Open → state G (mark_start G img p) p ≡ PartialOpen
  unfolding state
  state-mark_start h =
      let z : p * G.page + 0 ≡ p * G.page = omega arith in
      let e : start_word G (mark_start G img p) p ≡ zero_word G = rw z at (zeros_in_lem 0 (omega (arith, ok.held.room))) in
      rw (e, start_marked.end_is, marked_zero G) (go (marked G (start_word G img p)) (marked G (end_word G img p)) h)
    where
      go : (a b : Bool) → state_of a b ≡ Open → state_of true b ≡ PartialOpen
      go a false e = refl
      go true true e = let z : ◌≡◌ {A = ℕ} 0 1 = cc in absurd (omega arith)
      go false true e = let z : ◌≡◌ {A = ℕ} 0 1 = cc in absurd (omega arith)

  -- a PartialOpen page becomes Closed
  pub state-mark_end : state G img p ≡ PartialOpen → state G (mark_end G img p) p ≡ Closed
  unfolding state
  state-mark_end h =
      rw (zeros_in_lem (G.page - G.word) (omega (arith, ok.held.room)), end_marked.start_is, marked_zero G)
      (go (marked G (start_word G img p)) (marked G (end_word G img p)) h)
    where
      go : (a b : Bool) → state_of a b ≡ PartialOpen → state_of a true ≡ Closed
      go true b e = refl
      go false true e = let z : ◌≡◌ {A = ℕ} 0 1 = cc in absurd (omega arith)
      go false false e = let z : ◌≡◌ {A = ℕ} 0 1 = cc in absurd (omega arith)

  -- ---- an erase: the page is Open and blank

  page_len : length (replicate {A = ℕ} G.page 255) ≡ G.page
  page_len = length-replicate G.page 255

  erase_is : erase G.page img p ≡ splice img (p * G.page + 0) (replicate G.page 255)
  unfolding erase
  erase_is = let z : p * G.page ≡ p * G.page + 0 = omega arith in ap (λ (x : ℕ). splice img x (replicate G.page 255)) z

  pub erased : Touched G img p (erase G.page img p)
  erased = touched (erase G.page img p) 0 G.page (omega arith)
      (record { y = replicate G.page 255; len = page_len; bytes = Bytes-replicate G.page 255 (omega arith); is = erase_is })

  -- any window of it
  erase_window : (i m : ℕ) → i + m ≤ G.page → take m (drop (p * G.page + i) (erase G.page img p)) ≡ replicate m 255
  erase_window i m h =
      let a : p * G.page + i - (p * G.page + 0) ≡ i = omega arith in
      rw (
        erase_is,
        win_within img (p * G.page + 0) (replicate G.page 255) (inside 0 (length (replicate {A = ℕ} G.page 255)) (omega (arith, page_len)))
            (p * G.page + i) m (omega arith) (omega (arith, page_len)),
        a,
      ) (window_replicate G.page i m 255 h)

  pub erase_unused : Unused G (erase G.page img p) p
  unfolding state
  erase_unused =
      let z : p * G.page + 0 ≡ p * G.page = omega arith in
      let e₀ : start_word G (erase G.page img p) p ≡ replicate G.word 255 = rw z at (erase_window 0 G.word (omega (arith, ok.held.room))) in
      record {
        is_open = rw (e₀, erase_window (G.page - G.word) G.word (omega (arith, ok.held.room)), unmarked_ff G ok.held.low);
        blank = erase_window G.word (area_len G) (omega (arith, ok.held.room));
      }

-- a change of a page's marks leaves its scan
pub same-scan : (G : Geo) (img img' : List ℕ) (q : ℕ) → area G img' q ≡ area G img q → scan_of G img' q ≡ scan_of G img q
unfolding scan_of
same-scan G img img' q e = rw e
