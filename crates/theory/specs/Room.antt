-- The other half of the FullStorage rule: where some used page's newest items leave room, n turns are enough.
use Rattle.std.specs.Prelude.{◌≡◌, refl, ℕ, zero, suc, ◌+◌, ◌≤◌, ◌<◌, Bool, true, false, List, [], ◌∷◌, ◌++◌, length, leb}
use Rattle.std.proofs.Common.{ap, ◌∙◌, append-nil, arith, leb-true, leb-false}
use Rattle.rules.specs.declared.{Geo.Geo, Answer.TheVariants.Done}
use Rattle.rules.specs.Items.{size}
use Rattle.rules.specs.Pages.{scan_of, items_of, area_len, end_at}
use Rattle.rules.specs.Cache.{Cache}
use Rattle.rules.specs.Runs.{St, End, final}
use Rattle.rules.specs.Fetch.{missing, last_with}
use Rattle.rules.specs.Store.{rollover, turns}
use Rattle.rules.specs.Sound.{All, Ring}
use Rattle.laws.specs.Lists.{All-left, All_right}
use Rattle.laws.specs.Geometry.{Fit}
use Rattle.laws.specs.Entries.{spans}
use Rattle.laws.specs.Touch.{mark_end}
use Rattle.laws.specs.Rings.{log_of, log_append}
use Rattle.theory.specs.Cached.{Valid}
use Rattle.theory.specs.Migrate.{keep}
use Rattle.theory.specs.Rollover.{Used}
use Rattle.theory.specs.Stored.{turns_roll, turns_write}
use Rattle.theory.specs.Full.{keep-more, log_same, Next, nextly, next-fresh}

module _ (G : Geo) where
  module _ (sz : ℕ) where
    -- the i-th page, oldest first, has room
    abbrev pub RoomAt : List ℕ → List ℕ → ℕ → Type 0
    RoomAt img [] i = ⊥
    RoomAt img (q ∷ qs) zero = spans G.word (keep (log_of G img qs) (items_of G img q)) + sz ≤ area_len G
    RoomAt img (q ∷ qs) (suc i) = RoomAt img qs i

    room_same : (img img' : List ℕ) (qs : List ℕ) (i : ℕ) → All (λ q. items_of G img' q ≡ items_of G img q) qs → RoomAt img qs i → RoomAt img' qs i
    room_same img img' [] i h r = r
    room_same img img' (q ∷ qs) zero h r = rw (h.0, log_same G img img' qs h.1) r
    room_same img img' (q ∷ qs) (suc i) h r = room_same img img' qs i h.1 r

    room_snoc : (img : List ℕ) (qs : List ℕ) (o i : ℕ) → All (λ e. last_with e.it.key (items_of G img o) ≡ missing) (log_of G img qs) → RoomAt img qs i → RoomAt img (qs ++ (o ∷ [])) i
    room_snoc img [] o i h r = absurd r
    room_snoc img (q ∷ qs) o zero h r =
        let R = items_of G img o in
        rw (log_append G img qs (o ∷ []), append-nil R, keep-more (log_of G img qs) R (items_of G img q) (All-left (λ e. last_with e.it.key R ≡ missing) (items_of G img q) (log_of G img qs) h)) r
    room_snoc img (q ∷ qs) o (suc i) h r = room_snoc img qs o i (All_right (λ e. last_with e.it.key (items_of G img o) ≡ missing) (items_of G img q) (log_of G img qs) h) r

  module _ (k : ℕ) (v : List ℕ) where
    abbrev pub sz : ℕ
    sz = size G.word (4 + length v)

    -- the store is done
    abbrev pub Stores : ℕ → List ℕ → Cache → ℕ → Type 0
    Stores t img ca er = (turns G t k v (record { img = img; cache = ca; erased = er })).ans ≡ Done

    -- room on the PartialOpen page as it is
    pub now : (t : ℕ) (img : List ℕ) (ca : Cache) (er : ℕ) (g : Used G img) → (scan_of G img g.p).end + sz ≤ end_at G g.p → Stores (suc t) img ca er
    now t img ca er g h = ap (λ (u : End). u.ans) (turns_write G img ca er k v g t h)

    -- no room there: the next turn runs on what the rollover leaves
    pub roll : (t : ℕ) (img : List ℕ) (ca : Cache) (er : ℕ) (g : Used G img) → end_at G g.p < (scan_of G img g.p).end + sz
        → (turns G t k v (rollover G g.o (record { img = mark_end G img g.p; cache = ca; erased = er })).st).ans ≡ Done → Stores (suc t) img ca er
    roll t img ca er g h e = ap (λ (u : End). u.ans) (turns_roll G img ca er k v g t h) ∙ e

    module _ (img : List ℕ) (p o : ℕ) (cs : List ℕ) (ca : Cache) (er : ℕ) (ok : Fit G img) (S : Ring G img p (o ∷ []) cs) (vc : Valid G img ca) where
      abbrev u : St
      u = (rollover G o (record { img = mark_end G img p; cache = ca; erased = er })).st

      N : Next G img p o cs er (final (rollover G o (record { img = mark_end G img p; cache = ca; erased = er })))
      N = nextly G img p o cs ca er ok S vc

      -- now, or on what the rollover leaves
      first : (t : ℕ) → (end_at G p < (scan_of G img p).end + sz → (turns G (suc t) k v u).ans ≡ Done) → Stores (suc (suc t)) img ca er
      first t f = go (leb ((scan_of G img p).end + sz) (end_at G p)) refl
        where
          g : Used G img
          g = record { fit = ok; p = p; o = o; os = []; cs = cs; ring = S }

          go : (b : Bool) → leb ((scan_of G img p).end + sz) (end_at G p) ≡ b → Stores (suc (suc t)) img ca er
          go true q = now (suc t) img ca er g (leb-true ((scan_of G img p).end + sz) (end_at G p) q)
          go false q = let h = leb-false ((scan_of G img p).end + sz) (end_at G p) q in roll (suc t) img ca er g h (f h)

      at_first : (t : ℕ) → RoomAt sz img (cs ++ (p ∷ [])) zero → Stores (suc (suc t)) img ca er
      at_first t r =
          let rm : spans G.word (keep (log_of G img N.qs) (items_of G img N.c)) + sz ≤ area_len G = rw N.split at r in
          first t (λ h. now t u.img u.cache u.erased
          (record { fit = N.fit; p = o; o = N.c; os = []; cs = N.qs; ring = N.ring }) (omega (arith, N.end_is, rm, ok.held.room)))

      at_later : (i : ℕ) → RoomAt sz img (cs ++ (p ∷ [])) (suc i) → RoomAt sz u.img (N.qs ++ (o ∷ [])) i
      at_later i r =
          let rm : RoomAt sz img N.qs i = rw N.split at r in
          room_snoc sz u.img N.qs o i (next-fresh G img p o cs er (final (rollover G o (record { img = mark_end G img p; cache = ca; erased = er }))) N)
          (room_same sz img u.img N.qs i N.pages_is rm)

    pub room_turns : (i t : ℕ) (img : List ℕ) (p o : ℕ) (cs : List ℕ) (ca : Cache) (er : ℕ) → Fit G img → Ring G img p (o ∷ []) cs → Valid G img ca
        → RoomAt sz img (cs ++ (p ∷ [])) i → i ≤ t → Stores (suc (suc t)) img ca er
    room_turns zero t img p o cs ca er ok S vc r h = at_first img p o cs ca er ok S vc t r
    room_turns (suc i) zero img p o cs ca er ok S vc r h = absurd (omega arith)
    room_turns (suc i) (suc t) img p o cs ca er ok S vc r h =
        let s = u img p o cs ca er ok S vc in
        let M = N img p o cs ca er ok S vc in
        first img p o cs ca er ok S vc (suc t) (λ n. room_turns i t s.img o M.c M.qs s.cache s.erased M.fit M.ring M.valid (at_later img p o cs ca er ok S vc i r) (omega arith))
