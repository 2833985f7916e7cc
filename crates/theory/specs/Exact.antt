-- FullStorage, exactly: on a ring with a PartialOpen page, where one page is Open and none has room.
use Rattle.std.specs.Prelude.{◌≡◌, refl, ◌⊎◌, ◌↔◌, Bool, true, false, List, [], ◌∷◌, ◌++◌, leb}
use Rattle.std.proofs.Common.{sym, ap, ◌∙◌, inl, inr, length-append, div-lt_iff_lt-mul, leb-true, leb-false}
use Prim.Native.Nat.{ℕ, zero, suc, ◌+◌, ◌-◌, ◌*◌, ◌/◌, ◌≤◌, ◌<◌}
use Rattle.std.proofs.Math.ListN.{length}
use Rattle.std.proofs.Math.Nat.{mul-le-mul_right}
use native.Mathlib.Omega.{arith}
use Rattle.rules.specs.declared.{Geo.Geo, Answer.TheVariants.Done, Answer.TheVariants.FullStorage, Answer.Answer}
use Rattle.rules.specs.Bytes.{round_up}
use Rattle.rules.specs.Items.{size}
use Rattle.rules.specs.Pages.{scan_of, items_of, area_len, end_at, up_from}
use Rattle.rules.specs.Cache.{Cache}
use Rattle.rules.specs.Answers.{data_limit, number}
use Rattle.rules.specs.Runs.{End, end, final}
use Rattle.rules.specs.Store.{rollover, turns}
use Rattle.rules.specs.Sound.{Ring, ring_rest}
use Rattle.laws.specs.Geometry.{Fit, inner_words}
use Rattle.laws.specs.Entries.{spans}
use Rattle.laws.specs.Touch.{mark_start, mark_end}
use Rattle.laws.specs.Rings.{log_of}
use Rattle.laws.specs.Moves.{Rolled, rolled}
use Rattle.theory.specs.Migrate.{keep}
use Rattle.theory.specs.Rollover.{Used, roll_open}
use Rattle.theory.specs.Stored.{Good}
use Rattle.theory.specs.Full.{NoRoom, full-turns}
use Rattle.theory.specs.Room.{RoomAt, room_turns, now, roll, sz, Stores}

pub length-up_from : (a m : ℕ) → length (up_from a m) ≡ m
length-up_from a zero = refl
length-up_from a (suc m) = ap suc (length-up_from (suc a) m)

module _ (G : Geo) where
  -- an item that is not too big fits a blank page
  pub size_fits : (img : List ℕ) → Fit G img → (v : List ℕ) → 4 + length v ≤ data_limit G.word G.page → size G.word (4 + length v) ≤ area_len G
  unfolding size round_up
  size_fits img ok v h =
      let w₊ : 0 < G.word = omega (arith, ok.held.low) in
      let i = inner_words G (length img) ok.held in
      let j = i.0 in
      let i_is = i.1 in
      let hj : j * G.word ≡ G.page - 2 * G.word - 8 = omega arith in
      let d : (4 + length v + (G.word - 1)) / G.word < suc j = (div-lt_iff_lt-mul w₊).1 (omega (arith, hj, h)) in
      let m = mul-le-mul_right G.word (le_of_lt_suc d) in
      omega (arith, m, hj, ok.held.room)
    where
      le_of_lt_suc : {a b : ℕ} → a < suc b → a ≤ b
      le_of_lt_suc {a} {b} x = omega arith

  rest_length : (p : ℕ) → p < G.pages → suc (length (ring_rest G p)) ≡ G.pages
  unfolding ring_rest
  rest_length p h = rw (length-append (up_from (suc p) (G.pages - suc p)) (up_from 0 p), length-up_from (suc p) (G.pages - suc p), length-up_from 0 p) (omega arith)

  module _ (k : ℕ) (v : List ℕ) where
    -- two Open pages: the second turn writes at the latest
    two_open : (t : ℕ) (img : List ℕ) (p o o₂ : ℕ) (os cs : List ℕ) (ca : Cache) (er : ℕ) → Fit G img → Ring G img p (o ∷ o₂ ∷ os) cs
        → 4 + length v ≤ data_limit G.word G.page → Stores G k v (suc (suc t)) img ca er
    two_open t img p o o₂ os cs ca er ok S b = go (leb ((scan_of G img p).end + sz G k v) (end_at G p)) refl
      where
        g : Used G img
        g = record { fit = ok; p = p; o = o; os = o₂ ∷ os; cs = cs; ring = S }

        img₂ : List ℕ
        img₂ = mark_start G (mark_end G img p) o

        Ro : Rolled G img p o (o₂ ∷ os) cs img₂
        Ro = rolled G img p o (o₂ ∷ os) cs ok S

        g₂ : Used G img₂
        g₂ = record { fit = Ro.fit; p = o; o = o₂; os = os; cs = cs ++ (p ∷ []); ring = Ro.ring }

        u_is : final (rollover G o (record { img = mark_end G img p; cache = ca; erased = er })) ≡ end Done (record { img = img₂; cache = ca; erased = er })
        u_is = roll_open G img p o cs ok o₂ os S ca er

        go : (b : Bool) → leb ((scan_of G img p).end + sz G k v) (end_at G p) ≡ b → Stores G k v (suc (suc t)) img ca er
        go true q = now G k v (suc t) img ca er g (leb-true ((scan_of G img p).end + sz G k v) (end_at G p) q)
        go false q =
            roll G k v (suc t) img ca er g (leb-false ((scan_of G img p).end + sz G k v) (end_at G p) q)
            (ap (λ (x : End). (turns G (suc t) k v x.st).ans) u_is ∙ now G k v t img₂ ca er g₂ (rw Ro.empty (omega (arith, size_fits img ok v b, ok.held.room))))

    -- some page has room, or none
    room_or : (img qs : List ℕ) → NoRoom G (sz G k v) img qs ⊎ ((i : ℕ) × RoomAt G (sz G k v) img qs i × (i < length qs))
    room_or img [] = inl tt
    room_or img (q ∷ qs) = go (leb (spans G.word (keep (log_of G img qs) (items_of G img q)) + sz G k v) (area_len G)) refl (room_or img qs)
      where
        go : (b : Bool) → leb (spans G.word (keep (log_of G img qs) (items_of G img q)) + sz G k v) (area_len G) ≡ b
            → NoRoom G (sz G k v) img qs ⊎ ((i : ℕ) × RoomAt G (sz G k v) img qs i × (i < length qs))
            → NoRoom G (sz G k v) img (q ∷ qs) ⊎ ((i : ℕ) × RoomAt G (sz G k v) img (q ∷ qs) i × (i < suc (length qs)))
        go true e r = inr (0, leb-true (spans G.word (keep (log_of G img qs) (items_of G img q)) + sz G k v) (area_len G) e, omega arith)
        go false e (inl n) = inl (leb-false (spans G.word (keep (log_of G img qs) (items_of G img q)) + sz G k v) (area_len G) e, n)
        go false e (inr x) = let l = x.2 in inr (suc x.0, x.1, omega arith)

    stored_not_full : (a : Answer) → a ≡ Done → a ≡ FullStorage → ⊥
    stored_not_full a s e = let z = ap number (sym s ∙ e) in omega arith

    -- where one page is Open and none has room, all n turns fail, and each erases a page
    pub full-erases : (img : List ℕ) (ca : Cache) (er : ℕ) (g : Good G img ca) → g.os ≡ [] → NoRoom G (sz G k v) img (g.cs ++ (g.p ∷ []))
        → ((turns G G.pages k v (record { img = img; cache = ca; erased = er })).ans ≡ FullStorage)
        × ((turns G G.pages k v (record { img = img; cache = ca; erased = er })).st.erased ≡ er + G.pages)
    full-erases img ca er g e n = go g.os e g.ring
      where
        go : (os : List ℕ) → os ≡ [] → Ring G img g.p (g.o ∷ os) g.cs
            → ((turns G G.pages k v (record { img = img; cache = ca; erased = er })).ans ≡ FullStorage)
            × ((turns G G.pages k v (record { img = img; cache = ca; erased = er })).st.erased ≡ er + G.pages)
        go [] q S = full-turns G k v G.pages img g.p g.o g.cs ca er g.fit S g.valid n
        go (o₂ ∷ os) q S = let z : ◌≡◌ {A = ℕ} 0 1 = cc in absurd (omega arith)

    -- the FullStorage rule of document 01, for a ring with a PartialOpen page
    pub full_exact : (img : List ℕ) (ca : Cache) (er : ℕ) (g : Good G img ca) → 4 + length v ≤ data_limit G.word G.page
        → ((turns G G.pages k v (record { img = img; cache = ca; erased = er })).ans ≡ FullStorage)
        ↔ ((g.os ≡ []) × NoRoom G (sz G k v) img (g.cs ++ (g.p ∷ [])))
    full_exact img ca er g b = (there g.os g.ring g.fit.held.two, λ x. (full-erases img ca er g x.0 x.1).0)
      where
        nn : suc (suc (G.pages - 2)) ≡ G.pages
        nn = omega (arith, g.fit.held.two)

        there : (os : List ℕ) → Ring G img g.p (g.o ∷ os) g.cs → 2 ≤ G.pages → (turns G G.pages k v (record { img = img; cache = ca; erased = er })).ans ≡ FullStorage
            → (os ≡ []) × NoRoom G (sz G k v) img (g.cs ++ (g.p ∷ []))
        there (o₂ ∷ os) S h e =
            absurd (stored_not_full (turns G (suc (suc (G.pages - 2))) k v (record { img = img; cache = ca; erased = er })).ans
            (two_open (G.pages - 2) img g.p g.o o₂ os g.cs ca er g.fit S b) (rw nn e))
        there [] S h e = (refl, pick_room (room_or img (g.cs ++ (g.p ∷ []))))
          where
            len : length (g.cs ++ (g.p ∷ [])) < G.pages
            len =
                let a = rest_length g.p S.in_ring in
                let c : length (ring_rest G g.p) ≡ suc (length g.cs) = ap length S.rest_is in
                rw (length-append g.cs (g.p ∷ [])) (omega arith)

            pick_room : NoRoom G (sz G k v) img (g.cs ++ (g.p ∷ [])) ⊎ ((i : ℕ) × RoomAt G (sz G k v) img (g.cs ++ (g.p ∷ [])) i × (i < length (g.cs ++ (g.p ∷ []))))
                → NoRoom G (sz G k v) img (g.cs ++ (g.p ∷ []))
            pick_room (inl n) = n
            pick_room (inr x) =
                let l = x.2 in
                absurd (stored_not_full (turns G (suc (suc (G.pages - 2))) k v (record { img = img; cache = ca; erased = er })).ans
                (room_turns G k v x.0 (G.pages - 2) img g.p g.o g.cs ca er g.fit S g.valid x.1 (omega (arith, len))) (rw nn e))
