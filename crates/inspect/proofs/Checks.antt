-- Each test of the first fault, by what it says of the ring: from no fault to a sound image, and back.
use Rattle.std.proofs.Math.Path.{◌≡◌, refl, ap}
use Rattle.std.proofs.Common.{sym, ◌∙◌, arith, length-drop, length-take-le}
use Rattle.std.specs.Prelude.{◌≢◌, ◌⊎◌, not, Option, None, Some, List, [], ◌∷◌, ◌++◌, ltb, eqb, length, take, drop}
use Rattle.std.specs.Prelude.{replicate}
use Prim.Native.Nat.{ℕ, suc, ◌-◌, ◌<◌}
use Rattle.std.proofs.Math.Bool.{Bool, true, false}
use borrow.Author.Tests.{ltb-true, ltb-false, lt-ltb, le-ltb, eqb-true, eqb-false}
use Rattle.rules.specs.declared.{Geo.Geo, PageState.PageState, PageState.TheVariants.Open}
use Rattle.rules.specs.declared.{PageState.TheVariants.PartialOpen, PageState.TheVariants.Closed}
use Rattle.rules.specs.declared.{PageState.TheVariants.Corrupted}
use Rattle.rules.specs.Bytes.{pick}
use Rattle.rules.specs.Pages.{same, state, up_from, all_pages, is_page, first_page, area, area_len, data_at, end_at}
use Rattle.rules.specs.Pages.{scan_of, blank_at, next}
use Rattle.rules.specs.Sound.{All, ring_rest, Unused, BlankTail, Ring, Sound, blank_ring, used_ring}
use Rattle.laws.specs.Lists.{All-append, All-left, All-map, All-zip, All-up_from, up_from-All}
use Rattle.laws.specs.Geometry.{Fit, page_in}
use Rattle.laws.specs.Rings.{ring_cons, ring_next, rest_all, all_rest, partial_is}
use Rattle.laws.specs.Moves.{next_in, next_other, turned}
use Rattle.laws.specs.Tails.{area-length, end_high}
use Rattle.inspect.specs.declared.{Fault.Fault, Fault.TheVariants.CorruptedPage, Fault.TheVariants.NoPartialOpen}
use Rattle.inspect.specs.declared.{Fault.TheVariants.SecondPartialOpen, Fault.TheVariants.NextNotOpen}
use Rattle.inspect.specs.declared.{Fault.TheVariants.OpenApart, Fault.TheVariants.TailNotBlank}
use Rattle.inspect.specs.Faults.{not_ff, second_partial, open_apart, open_after, dirty, first_dirty, dirty_fault}
use Rattle.inspect.specs.Faults.{data_fault, tail_fault, blank_fault, used_fault, page_fault}
use Rattle.inspect.proofs.Laws.{passed}
use Rattle.inspect.proofs.Firsts.{two_states, is_open, is_partial, all_ff_lem, ff_all, none_by, by_none, First, some_by}
use Rattle.inspect.proofs.Firsts.{with_by, parted, parted-none, partial_head}

not_false : (b : Bool) → not b ≡ false → b ≡ true
not_false true e = refl
not_false false e = cc

only_open : (s : PageState) → same PartialOpen s ≡ false → same Corrupted s ≡ false → same Closed s ≡ false → s ≡ Open
only_open Open p c k = refl
only_open PartialOpen p c k = cc
only_open Closed p c k = cc
only_open Corrupted p c k = cc

module _ (G : Geo) (img : List ℕ) (ok : Fit G img) where
  -- what holds of each page
  each : (P : ℕ → Type 0) → ((q : ℕ) → q < G.pages → P q) → All P (all_pages G)
  each P f = up_from-All P 0 G.pages (λ q h k. f q (omega arith))

  at_each : (P : ℕ → Type 0) → All P (all_pages G) → (q : ℕ) → q < G.pages → P q
  at_each P h q k = All-up_from P 0 G.pages h q (omega arith) (omega arith)

  -- no page, or none after page a, is in a state
  no-page : (t : PageState) → is_page G (first_page G t img) ≡ false → (q : ℕ) → q < G.pages
      → same t (state G img q) ≡ false
  no-page t e =
      at_each (λ q. same t (state G img q) ≡ false)
      (none_by G (λ q. same t (state G img q)) (all_pages G) (each (λ q. q < G.pages) (λ q h. h))
      (rw (with_by G t img (all_pages G)) at e))

  page-no : (t : PageState) → ((q : ℕ) → q < G.pages → same t (state G img q) ≡ false) → first_page G t img ≡ G.pages
  page-no t h =
      with_by G t img (all_pages G)
      ∙ by_none G (λ q. same t (state G img q)) (all_pages G) (each (λ q. same t (state G img q) ≡ false) h)

  -- ---- blank data

  clean : (q : ℕ) → q < G.pages → state G img q ≡ Open → dirty G img q ≡ false → Unused G img q
  clean q h o e =
      let b : blank_at img (data_at G q) (area_len G) ≡ true = not_false _ (rw o at e) in
      record {
        is_open = o;
        blank = ff_all (area G img q) b ∙ ap (λ (m : ℕ). replicate m 255) (area-length G img ok q h);
      }

  unused_clean : (q : ℕ) → Unused G img q → dirty G img q ≡ false
  unused_clean q u = rw (u.is_open, u.blank, all_ff_lem (area_len G))

  closed_clean : (q : ℕ) → state G img q ≡ Closed → dirty G img q ≡ false
  closed_clean q c = rw c

  no-dirty : (r : Option Fault) → data_fault G img r ≡ None
      → ((q : ℕ) → q < G.pages → dirty G img q ≡ false) × (r ≡ None)
  no-dirty r e =
      let t = passed (is_page G (first_dirty G img)) (dirty_fault G img (first_dirty G img)) r e in (
        at_each (λ q. dirty G img q ≡ false)
            (none_by G (dirty G img) (all_pages G) (each (λ q. q < G.pages) (λ q h. h)) t.0),
        t.1,
      )

  dirty-no : (r : Option Fault) → ((q : ℕ) → q < G.pages → dirty G img q ≡ false) → data_fault G img r ≡ r
  dirty-no r h =
      let d : first_dirty G img ≡ G.pages =
      by_none G (dirty G img) (all_pages G) (each (λ q. dirty G img q ≡ false) h) in
      rw (d, le-ltb G.pages G.pages (omega arith))

  -- ---- no page is PartialOpen

  blank_sound : ((q : ℕ) → q < G.pages → same Corrupted (state G img q) ≡ false)
      → ((q : ℕ) → q < G.pages → same PartialOpen (state G img q) ≡ false)
      → blank_fault G img ≡ None → Sound G img
  unfolding blank_fault
  blank_sound nc np e =
      let c = first_page G Closed img in
      let t = passed (is_page G c) (NoPartialOpen c) (data_fault G img None) e in
      let d = no-dirty None t.1 in
      blank_ring (λ q h. clean q h (only_open (state G img q) (np q h) (nc q h) (no-page Closed t.0 q h)) (d.0 q h))

  sound_blank : ((q : ℕ) → q < G.pages → Unused G img q) → page_fault G img ≡ None
  unfolding page_fault blank_fault
  sound_blank u =
      let n = le-ltb G.pages G.pages (omega arith) in
      rw (
        page-no Corrupted (λ q h. rw (u q h).is_open),
        n,
        page-no PartialOpen (λ q h. rw (u q h).is_open),
        n,
        page-no Closed (λ q h. rw (u q h).is_open),
        n,
      )
      (dirty-no None (λ q h. unused_clean q (u q h)))

  -- ---- page p is the first PartialOpen one

  module _ (p : ℕ) (hp : p < G.pages) where
    -- what holds of the pages below p and of those above it holds of the others
    others : (P : ℕ → Type 0) → ((q : ℕ) → q < p → P q) → ((q : ℕ) → p < q → q < G.pages → P q) → (q : ℕ) → q < G.pages
        → q ≢ p → P q
    others P f g q h ne = go (ltb q p) refl
      where
        go : (b : Bool) → ltb q p ≡ b → P q
        go true e = f q (ltb-true q p e)
        go false e = let k = ltb-false q p e in g q (omega arith) h

    -- what holds of p and of the others holds of all
    every : (P : ℕ → Type 0) → P p → ((q : ℕ) → q < G.pages → q ≢ p → P q) → (q : ℕ) → q < G.pages → P q
    every P x f q h = go (eqb q p) refl
      where
        go : (b : Bool) → eqb q p ≡ b → P q
        go true e = rw (eqb-true q p e) x
        go false e = f q h (eqb-false q p e)

    no_second : is_page G (second_partial G img p) ≡ false → (q : ℕ) → p < q → q < G.pages
        → same PartialOpen (state G img q) ≡ false
    no_second e q h k =
        All-up_from (λ q. same PartialOpen (state G img q) ≡ false) (suc p) (G.pages - suc p)
        (none_by G (λ q. same PartialOpen (state G img q)) (up_from (suc p) (G.pages - suc p))
        (up_from-All (λ q. q < G.pages) (suc p) (G.pages - suc p) (λ x a b. omega arith))
        (rw (with_by G PartialOpen img (up_from (suc p) (G.pages - suc p))) at e)) q (omega arith) (omega arith)

    second_no : ((q : ℕ) → q < G.pages → q ≢ p → same PartialOpen (state G img q) ≡ false)
        → second_partial G img p ≡ G.pages
    second_no h =
        with_by G PartialOpen img (up_from (suc p) (G.pages - suc p))
        ∙ by_none G (λ q. same PartialOpen (state G img q)) (up_from (suc p) (G.pages - suc p))
        (up_from-All (λ q. same PartialOpen (state G img q) ≡ false) (suc p) (G.pages - suc p)
        (λ q a b. h q (omega arith) (λ z. absurd (omega arith))))

    -- the ring from p on, where p is PartialOpen
    apart_is : state G img p ≡ PartialOpen → open_apart G img p ≡ open_after G img false (ring_rest G p)
    apart_is e = ap (open_after G img false) (ring_cons G p hp) ∙ partial_head G img p (ring_rest G p) e

    -- the bytes after the scan's end
    tail_length : length (take (end_at G p - (scan_of G img p).end) (drop (scan_of G img p).end img))
        ≡ end_at G p - (scan_of G img p).end
    tail_length =
        length-take-le (end_at G p - (scan_of G img p).end) (drop (scan_of G img p).end img)
        (rw length-drop
        (omega (arith, end_high G img ok p hp, page_in G.page p G.pages hp, ok.held.room, ok.held.whole)))

    no_tail : tail_fault G img p ≡ None → BlankTail G img p
    no_tail e = go (blank_at img (scan_of G img p).end (end_at G p - (scan_of G img p).end)) refl e
      where
        go : (b : Bool) → blank_at img (scan_of G img p).end (end_at G p - (scan_of G img p).end) ≡ b
            → pick b None (Some (TailNotBlank p
            (not_ff (scan_of G img p).end
            (take (end_at G p - (scan_of G img p).end) (drop (scan_of G img p).end img))))) ≡ None → BlankTail G img p
        go true t e =
            ff_all (take (end_at G p - (scan_of G img p).end) (drop (scan_of G img p).end img)) t
            ∙ ap (λ (m : ℕ). replicate m 255) tail_length
        go false t e = cc

    tail_no : BlankTail G img p → tail_fault G img p ≡ None
    tail_no e = rw (e, all_ff_lem (end_at G p - (scan_of G img p).end))

    -- the pages after p, parted
    ring_sound : (os cs : List ℕ) → ring_rest G p ≡ os ++ cs → All (λ q. state G img q ≡ Open) os
        → All (λ q. state G img q ≡ Closed) cs
        → state G img p ≡ PartialOpen → state G img (next G p) ≡ Open → ((q : ℕ) → q < G.pages → dirty G img q ≡ false)
        → BlankTail G img p → Sound G img
    ring_sound [] [] e ho hc sp sn nd bt =
        let c : next G p ∷ ring_rest G (next G p) ≡ p ∷ [] =
        sym (ring_cons G (next G p) (next_in G p hp)) ∙ ring_next G p hp ∙ ap (λ (l : List ℕ). l ++ (p ∷ [])) e in
        let z : next G p ≡ p = cc in
        absurd (next_other G p ok.held.two z)
    ring_sound [] (c ∷ cs) e ho hc sp sn nd bt =
        let n = (turned G p c cs hp e).0 in
        let s : state G img (next G p) ≡ Closed = rw n hc.0 in
        cc
    ring_sound (o ∷ os) cs e ho hc sp sn nd bt =
        used_ring p o os cs (record {
          in_ring = hp;
          rest_is = e;
          partial = sp;
          tail = bt;
          opens = All-zip (λ q. state G img q ≡ Open) (λ q. (q < G.pages) × (dirty G img q ≡ false)) (Unused G img)
              (o ∷ os) (λ q s d. clean q d.0 s d.1) ho
              (All-left (λ q. (q < G.pages) × (dirty G img q ≡ false)) (o ∷ os) cs
              (rw e at (all_rest G (λ q. (q < G.pages) × (dirty G img q ≡ false)) p hp (λ q h ne. (h, nd q h)))));
          closeds = hc;
        })

    used_sound : ((q : ℕ) → q < G.pages → same Corrupted (state G img q) ≡ false) → state G img p ≡ PartialOpen
        → ((q : ℕ) → q < p → same PartialOpen (state G img q) ≡ false) → used_fault G img p ≡ None → Sound G img
    unfolding used_fault
    used_sound nc sp before e =
        let s = second_partial G img p in
        let a = open_apart G img p in
        let t₁ = passed (is_page G s) (SecondPartialOpen s) _ e in
        let t₂ = passed (not (same Open (state G img (next G p)))) (NextNotOpen (next G p)) _ t₁.1 in
        let t₃ = passed (is_page G a) (OpenApart a) _ t₂.1 in
        let t₄ = no-dirty (tail_fault G img p) t₃.1 in
        let np = others (λ q. same PartialOpen (state G img q) ≡ false) before (no_second t₁.0) in
        let two = all_rest G (λ q. (state G img q ≡ Open) ⊎ (state G img q ≡ Closed)) p hp
        (λ q h ne. two_states (state G img q) (np q h ne) (nc q h)) in
        let r = parted G img (ring_rest G p) (all_rest G (λ q. q < G.pages) p hp (λ q h ne. h)) two
        (sym (ap (is_page G) (apart_is sp)) ∙ t₃.0) in
        ring_sound r.os r.cs r.is r.opens r.closeds sp (is_open (state G img (next G p)) (not_false _ t₂.0)) t₄.0
        (no_tail t₄.1)

    module _ (o : ℕ) (os cs : List ℕ) (S : Ring G img p (o ∷ os) cs) where
      rest : (P : ℕ → Type 0) → ((q : ℕ) → Unused G img q → P q) → ((q : ℕ) → state G img q ≡ Closed → P q) → (q : ℕ)
          → q < G.pages → q ≢ p → P q
      rest P f g =
          rest_all G P p hp (rw S.rest_is
          (All-append P (o ∷ os) cs (All-map (Unused G img) P (o ∷ os) f S.opens)
          (All-map (λ q. state G img q ≡ Closed) P cs g S.closeds)))

      sound_used : page_fault G img ≡ None
      unfolding page_fault used_fault
      sound_used =
          let n = le-ltb G.pages G.pages (omega arith) in
          let sn : state G img (next G p) ≡ Open = rw (turned G p o (os ++ cs) hp S.rest_is).0 S.opens.0.is_open in
          let na : open_apart G img p ≡ G.pages = apart_is S.partial ∙ ap (open_after G img false) S.rest_is
          ∙ parted-none G img (o ∷ os) cs
          (All-map (Unused G img) (λ q. state G img q ≡ Open) (o ∷ os) (λ q u. u.is_open) S.opens) S.closeds in
          rw (
            page-no Corrupted (every (λ q. same Corrupted (state G img q) ≡ false) (rw S.partial)
                (rest (λ q. same Corrupted (state G img q) ≡ false) (λ q u. rw u.is_open) (λ q c. rw c))),
            n,
            partial_is G img p (o ∷ os) cs S,
            lt-ltb p G.pages hp,
            second_no (rest (λ q. same PartialOpen (state G img q) ≡ false) (λ q u. rw u.is_open) (λ q c. rw c)),
            n,
            sn,
            na,
            n,
          ) (dirty-no (tail_fault G img p)
          (every (λ q. dirty G img q ≡ false) (rw S.partial)
          (rest (λ q. dirty G img q ≡ false) unused_clean closed_clean))
          ∙ tail_no S.tail)

  -- ---- both

  pub fault_sound : page_fault G img ≡ None → Sound G img
  unfolding page_fault
  fault_sound e =
      let c = first_page G Corrupted img in
      let t = passed (is_page G c) (CorruptedPage c) _ e in
      go (is_page G (first_page G PartialOpen img)) refl (no-page Corrupted t.0) t.1
    where
      go : (b : Bool) → is_page G (first_page G PartialOpen img) ≡ b
          → ((q : ℕ) → q < G.pages → same Corrupted (state G img q) ≡ false)
          → pick b (used_fault G img (first_page G PartialOpen img)) (blank_fault G img) ≡ None → Sound G img
      go true q nc e =
          let f : ℕ → Bool = λ x. same PartialOpen (state G img x) in
          let w = with_by G PartialOpen img (all_pages G) in
          let F : First G f 0 (first_page G PartialOpen img) = rw w (some_by G f 0 G.pages (rw w at q)) in
          used_sound (first_page G PartialOpen img) (ltb-true _ G.pages q) nc (is_partial _ F.passes)
          (λ x h. F.before x (omega arith) h) e
      go false q nc e = blank_sound nc (no-page PartialOpen q) e

  pub sound_fault : Sound G img → page_fault G img ≡ None
  sound_fault (blank_ring u) = sound_blank u
  sound_fault (used_ring p o os cs S) = sound_used p S.in_ring o os cs S
