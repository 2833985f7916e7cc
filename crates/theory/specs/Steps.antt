-- A walk's cursor and the item of a step lie in the image, on any image and from any cursor.
use Rattle.std.specs.Prelude.{ℕ, ◌+◌, ◌-◌, ◌%◌, ◌≤◌, ◌<◌, ◌≡◌, Bool, List, [], ◌∷◌, length, leb, eqb}
use Rattle.std.proofs.Math.Path.{refl}
use Rattle.std.proofs.Math.Bool.{true, false}
use Rattle.std.proofs.Common.{arith, mul-le-mul_left, mul-le-mul_right}
use borrow.Author.Tests.{ltb-true}
use Rattle.rules.specs.declared.{Geo.Geo, PageState.TheVariants.Open, PageState.TheVariants.PartialOpen, PageState.TheVariants.Closed, Cursor.Cursor}
use Rattle.rules.specs.Bytes.{pick, both}
use Rattle.rules.specs.Items.{Entry}
use Rattle.rules.specs.Pages.{state, items_of, area_len, data_at, end_at, scan_of, next, prev, up_from, ring_up, first_page, is_page, same}
use Rattle.rules.specs.Walk.{Step, ended, stepped, walk_first, cursor_at, head_step, rest_of, later_pages, walk_step}
use Rattle.rules.specs.Held.{Held}
use Rattle.rules.specs.Sound.{All}
use Rattle.rules.specs.Calls.{step_answer, step_cursor}
use Rattle.laws.specs.Lists.{All-append, up_from-All}
use Rattle.laws.specs.Moves.{next_in}
use Rattle.laws.specs.Plain.{Within, presents_within}
use Rattle.theory.specs.Kept.{AnswerIn}

-- a cursor's numbers are at most n
pub record CursorIn (n : ℕ) (c : Cursor) : Type 0 where
  pub first : c.first ≤ n
  pub page : c.page ≤ n
  pub place : c.place ≤ n

module _ (G : Geo) (img : List ℕ) (H : Held G (length img)) where
  -- a page's number is small
  small : (p : ℕ) → p ≤ G.pages → p ≤ length img
  small p h = let one : 1 ≤ G.page = omega (arith, H.room) in omega (arith, H.whole, mul-le-mul_left G.pages one)

  -- ---- the start

  first_low : walk_first G img ≤ G.pages
  first_low = go (is_page G p) refl
    where
      p : ℕ
      p = first_page G PartialOpen img

      o : ℕ
      o = first_page G Open img

      some : (b : Bool) (a : Bool) → is_page G o ≡ a → pick a (pick b o 0) G.pages ≤ G.pages
      some true true e = omega (arith, ltb-true o G.pages e)
      some false true e = omega arith
      some b false e = omega arith

      go : (b : Bool) → is_page G p ≡ b → pick b (next G p) (pick (is_page G o) (pick (same Closed (state G img (prev G o))) o 0) G.pages) ≤ G.pages
      go true e = omega (arith, next_in G p (ltb-true p G.pages e))
      go false e = some (same Closed (state G img (prev G o))) (is_page G o) refl

  pub start_in : CursorIn (length img + 8) (cursor_at G (walk_first G img))
  start_in =
      let p = walk_first G img in
      let s = small p first_low in
      record { first = omega arith; page = omega arith; place = omega (arith, H.whole, H.high, mul-le-mul_right G.page first_low) }

  -- ---- a step

  abbrev StepIn : Step → Type 0
  StepIn ended = Unit {0}
  StepIn (stepped e c) = Within G.word img e × CursorIn (length img) c

  ring_in : (p : ℕ) → p < G.pages → All (λ q. q < G.pages) (ring_up G p)
  unfolding ring_up
  ring_in p h =
      All-append (λ q. q < G.pages) (up_from p (G.pages - p)) (up_from 0 p) (up_from-All (λ q. q < G.pages) p (G.pages - p) (λ q l u. omega arith)) (up_from-All (λ q. q < G.pages) 0 p (λ q l u. omega arith))

  module _ (first : ℕ) (low : first ≤ G.pages) where
    head_in : (p : ℕ) (es : List Entry) (r : Step) → p < G.pages → All (Within G.word img) es → StepIn r → StepIn (head_step G first p es r)
    head_in p [] r hp h k = k
    head_in p (e ∷ es) r hp h k = (h.0, record { first = small first low; page = small p (omega arith); place = h.0.0 })

    page_in : (p : ℕ) → All (Within G.word img) (items_of G img p)
    unfolding scan_of
    page_in p = presents_within G.word (omega (arith, H.low)) img (area_len G) (data_at G p) (area_len G)

    later_in : (ps : List ℕ) → All (λ q. q < G.pages) ps → StepIn (later_pages G img first ps)
    later_in [] h = tt
    later_in (p ∷ ps) h =
        let r = later_in ps h.1 in
        go (eqb p first) (same Closed (state G img p)) (same PartialOpen (state G img p)) _ _ (head_in p (items_of G img p) (later_pages G img first ps) h.0 (page_in p) r) r
      where
        go : (a b c : Bool) (x y : Step) → StepIn x → StepIn y → StepIn (pick a ended (pick b x (pick c x y)))
        go true b c x y h k = tt
        go false true c x y h k = h
        go false false true x y h k = h
        go false false false x y h k = k

  step_in : (c : Cursor) → StepIn (walk_step G img c)
  unfolding walk_step
  step_in c = go (is_page G c.page) (is_page G c.first) (both (leb (data_at G c.page) c.place) (both (leb c.place (end_at G c.page)) (eqb (c.place % G.word) 0))) refl refl
    where
      go : (a b x : Bool) → is_page G c.page ≡ a → is_page G c.first ≡ b
          → StepIn (pick (both a (both b x)) (head_step G c.first c.page (rest_of G img c.page c.place) (later_pages G img c.first (ring_up G (next G c.page)))) ended)
      go false b x p f = tt
      go true false x p f = tt
      go true true false p f = tt
      go true true true p f =
          let hp = ltb-true c.page G.pages p in
          let low : c.first ≤ G.pages = omega (arith, ltb-true c.first G.pages f) in
          head_in c.first low c.page (rest_of G img c.page c.place) (later_pages G img c.first (ring_up G (next G c.page))) hp
          (presents_within G.word (omega (arith, H.low)) img G.page c.place (end_at G c.page - c.place))
          (later_in c.first low (ring_up G (next G c.page)) (ring_in (next G c.page) (next_in G c.page hp)))

  pub step_answer_in : (c : Cursor) → AnswerIn (length img) (step_answer (walk_step G img c))
  step_answer_in c = go (walk_step G img c) (step_in c)
    where
      go : (r : Step) → StepIn r → AnswerIn (length img) (step_answer r)
      go ended h = tt
      go (stepped e c') h = h.0.1

  -- an end keeps the cursor
  pub step_cursor_in : (n : ℕ) → length img ≤ n → (c : Cursor) → CursorIn n c → CursorIn n (step_cursor c (walk_step G img c))
  step_cursor_in n l c k = go (walk_step G img c) (step_in c)
    where
      go : (r : Step) → StepIn r → CursorIn n (step_cursor c r)
      go ended h = k
      go (stepped e c') h = record { first = omega (arith, h.1.first); page = omega (arith, h.1.page); place = omega (arith, h.1.place) }
