-- Where one page is Open and no used page's newest items leave room, every turn fails and erases a page: FullStorage.
use Rattle.std.specs.Prelude.{◌≡◌, refl, ◌≢◌, Bool, true, false, eqb}
use Rattle.std.proofs.Common.{sym, ◌∙◌, subst, arith}
use Rattle.std.proofs.Math.Path.{ap}
use Prim.Native.Nat.{ℕ, zero, suc, ◌+◌, ◌≤◌, ◌<◌}
use mathlib.Core.List.{List, [], ◌∷◌, ◌++◌, append_assoc, append-nil}
use Rattle.std.proofs.Math.ListN.{length}
use Rattle.rules.specs.declared.{Geo.Geo, Answer.TheVariants.Done, Answer.TheVariants.FullStorage}
use Rattle.rules.specs.Bytes.{pick, erase}
use Rattle.rules.specs.Items.{Item, Entry, size}
use Rattle.rules.specs.Pages.{scan_of, items_of, area_len, data_at, end_at}
use Rattle.rules.specs.Cache.{Cache}
use Rattle.rules.specs.Runs.{St, End, final}
use Rattle.rules.specs.Fetch.{Found, corrupt, missing, found, or_else, last_with}
use Rattle.rules.specs.Store.{migrate, rollover, turns}
use Rattle.rules.specs.Sound.{All, Ring}
use Rattle.laws.specs.Lists.{All-left, All_right, All-map, All-zip}
use Rattle.laws.specs.Geometry.{Fit}
use Rattle.laws.specs.Entries.{spans, spans-presents, page-ok}
use Rattle.laws.specs.Touch.{mark_start, mark_end}
use Rattle.laws.specs.Rings.{log_of, log_append, last-append}
use Rattle.laws.specs.Moves.{Rolled, rolled}
use Rattle.theory.specs.Cached.{Valid}
use Rattle.theory.specs.Migrate.{its, move_img, keep, keep_if, last_not_corrupt, none_with}
use Rattle.theory.specs.Keep.{it_of, last-its, spans-its, keep-none, none-missing}
use Rattle.theory.specs.Migrated.{migrated, rolled_valid}
use Rattle.theory.specs.Rollover.{roll_full}
use Rattle.theory.specs.Stored.{turns_roll}

-- ---- keeping

pub spans-keep : (w : ℕ) (later es : List Entry) → spans w (keep later es) ≤ spans w es
spans-keep w later [] = omega arith
spans-keep w later (e ∷ es) = go (last_with e.it.key (es ++ later)) (spans-keep w later es)
  where
    go : (r : Found) → spans w (keep later es) ≤ spans w es → spans w (keep_if r e (keep later es)) ≤ size w e.it.len + spans w es
    go corrupt ih = omega arith
    go missing ih = omega arith
    go (found f) ih = omega arith

-- a key that `later` and R do not share
pub keep-more : (later R es : List Entry) → All (λ e. last_with e.it.key R ≡ missing) es → keep (later ++ R) es ≡ keep later es
keep-more later R [] h = refl
keep-more later R (e ∷ es) h =
    rw (← append_assoc es later R, last-append e.it.key (es ++ later) R, h.0, keep-more later R es h.1)

pub keep-missing : (k : ℕ) (later es : List Entry) → last_with k es ≡ missing → last_with k (keep later es) ≡ missing
keep-missing k later [] h = refl
keep-missing k later (e ∷ es) h = go (last_with k es) refl (eqb e.it.key k) refl h (λ y. keep-missing k later es y) (last_with e.it.key (es ++ later))
  where
    go : (r : Found) → last_with k es ≡ r → (b : Bool) → eqb e.it.key k ≡ b → or_else r (pick b (found e) missing) ≡ missing
        → (last_with k es ≡ missing → last_with k (keep later es) ≡ missing) → (x : Found) → last_with k (keep_if x e (keep later es)) ≡ missing
    go corrupt c b d h ih x = let z : ◌≡◌ {A = ℕ} 0 1 = cc in absurd (omega arith)
    go (found f) c b d h ih x = let z : ◌≡◌ {A = ℕ} 0 1 = cc in absurd (omega arith)
    go missing c true d h ih x = let z : ◌≡◌ {A = ℕ} 0 1 = cc in absurd (omega arith)
    go missing c false d h ih corrupt = ih c
    go missing c false d h ih missing = rw (ih c, d)
    go missing c false d h ih (found f) = ih c

-- each key once
abbrev pub Distinct : List Entry → Type 0
Distinct [] = Unit {0}
Distinct (e ∷ es) = (last_with e.it.key es ≡ missing) × Distinct es

pub keep_distinct : (later es : List Entry) → Distinct (keep later es)
keep_distinct later [] = tt
keep_distinct later (e ∷ es) = go (last_with e.it.key (es ++ later)) refl (keep_distinct later es)
  where
    left : (a b : Found) → or_else a b ≡ missing → b ≡ missing
    left corrupt b h = let z : ◌≡◌ {A = ℕ} 0 1 = cc in absurd (omega arith)
    left missing b h = h
    left (found f) b h = let z : ◌≡◌ {A = ℕ} 0 1 = cc in absurd (omega arith)

    go : (r : Found) → last_with e.it.key (es ++ later) ≡ r → Distinct (keep later es) → Distinct (keep_if r e (keep later es))
    go corrupt q ih = ih
    go missing q ih =
        let z : last_with e.it.key es ≡ missing = left (last_with e.it.key later) (last_with e.it.key es) (sym (last-append e.it.key es later) ∙ q) in
        (keep-missing e.it.key later es z, ih)
    go (found f) q ih = ih

pub keep_all : (R : List Entry) → Distinct R → keep [] R ≡ R
keep_all [] h = refl
keep_all (e ∷ R) h = rw (append-nil R, h.0, keep_all R h.1)

pub missing-its : (k : ℕ) (xs ys : List Entry) → its xs ≡ its ys → last_with k xs ≡ missing → last_with k ys ≡ missing
missing-its k xs ys e h = none-missing (last_with k ys) (last_not_corrupt k ys) (sym (last-its k xs ys e) ∙ ap it_of h)

pub distinct_its : (xs ys : List Entry) → its xs ≡ its ys → Distinct xs → Distinct ys
distinct_its [] [] e h = tt
distinct_its [] (y ∷ ys) e h = let z : ◌≡◌ {A = ℕ} 0 1 = cc in absurd (omega arith)
distinct_its (x ∷ xs) [] e h = let z : ◌≡◌ {A = ℕ} 0 1 = cc in absurd (omega arith)
distinct_its (x ∷ xs) (y ∷ ys) e h =
    let hx : x.it ≡ y.it = cc in
    let ht : its xs ≡ its ys = cc in
    (ap (λ (i : Item). last_with i.key ys) (sym hx) ∙ missing-its x.it.key xs ys ht h.0, distinct_its xs ys ht h.1)

-- no entry of `later` shares a key with what is kept before it
pub later-fresh : (later es : List Entry) (xs : List Entry)
    → All (λ g. last_with g.it.key later ≢ missing) xs → All (λ g. last_with g.it.key (keep later es) ≡ missing) xs
later-fresh later es xs h =
    All-map (λ g. last_with g.it.key later ≢ missing) (λ g. last_with g.it.key (keep later es) ≡ missing) xs (λ g n. go g.it.key (last_with g.it.key later) refl n) h
  where
    go : (k : ℕ) (r : Found) → last_with k later ≡ r → last_with k later ≢ missing → last_with k (keep later es) ≡ missing
    go k corrupt q n = absurd (last_not_corrupt k later q)
    go k missing q n = absurd (n q)
    go k (found f) q n = keep-none k later f q es

-- every entry is found by its own key
pub found-own : (pre es : List Entry) → All (λ g. last_with g.it.key (pre ++ es) ≢ missing) es
found-own pre [] = tt
found-own pre (e ∷ es) = (
  λ h. (All_right (λ f. f.it.key ≢ e.it.key) pre (e ∷ es) (none_with e.it.key (pre ++ (e ∷ es)) h)).0 refl,
  rw append_assoc at (found-own (pre ++ (e ∷ [])) es),
)

module _ (G : Geo) where
  pub log_same : (img img' : List ℕ) (qs : List ℕ) → All (λ q. items_of G img' q ≡ items_of G img q) qs → log_of G img' qs ≡ log_of G img qs
  log_same img img' [] h = refl
  log_same img img' (q ∷ qs) h = rw (h.0, log_same img img' qs h.1)

  -- ---- a rollover where one page is Open: the oldest page's newest items, and the others as they were

  pub record Next (img : List ℕ) (p o : ℕ) (cs : List ℕ) (er : ℕ) (r : End) : Type 0 where
    pub ans_is : r.ans ≡ Done
    pub er_is : r.st.erased ≡ er + 1
    pub c : ℕ
    pub qs : List ℕ
    pub split : cs ++ (p ∷ []) ≡ c ∷ qs
    pub fit : Fit G r.st.img
    pub ring : Ring G r.st.img o (c ∷ []) qs
    pub valid : Valid G r.st.img r.st.cache
    pub pages_is : All (λ q. items_of G r.st.img q ≡ items_of G img q) qs
    pub its_is : its (items_of G r.st.img o) ≡ its (keep (log_of G img qs) (items_of G img c))
    pub end_is : (scan_of G r.st.img o).end ≡ data_at G o + spans G.word (keep (log_of G img qs) (items_of G img c))

  pub nextly : (img : List ℕ) (p o : ℕ) (cs : List ℕ) (ca : Cache) (er : ℕ) → Fit G img → Ring G img p (o ∷ []) cs → Valid G img ca
      → Next img p o cs er (final (rollover G o (record { img = mark_end G img p; cache = ca; erased = er })))
  nextly img p o cs ca er ok S v =
      let O = roll_full G img p o cs ok S in
      subst (Next img p o cs er) (sym (O.moves ca er)) (through O.c O.qs O.split O.ring (rw O.split at Ro.pages_is))
    where
      img₂ : List ℕ
      img₂ = mark_start G (mark_end G img p) o

      Ro : Rolled G img p o [] cs img₂
      Ro = rolled G img p o [] cs ok S

      s₂ : St
      s₂ = record { img = img₂; cache = ca; erased = er }

      through : (c : ℕ) (qs : List ℕ) → cs ++ (p ∷ []) ≡ c ∷ qs → Ring G img₂ o [] (c ∷ qs) → All (λ q. items_of G img₂ q ≡ items_of G img q) (c ∷ qs) → Next img p o cs er (final (migrate G c o s₂))
      through c qs e R a =
          let m = migrated G img₂ o c qs ca er Ro.fit R Ro.empty (rolled_valid G img p o [] cs ok S ca v) in
          let i = m.img_is in
          let kk : keep (log_of G img₂ qs) (items_of G img₂ c) ≡ keep (log_of G img qs) (items_of G img c) = rw (a.0, log_same img img₂ qs a.1) in
          record {
            ans_is = m.ans_is;
            er_is = m.er_is;
            c = c;
            qs = qs;
            split = e;
            fit = rw i m.fit;
            ring = rw i m.ring;
            valid = rw i m.valid;
            pages_is = rw i (All-zip (λ q. items_of G (r₃ c qs) q ≡ items_of G img₂ q) (λ q. items_of G img₂ q ≡ items_of G img q) (λ q. items_of G (r₃ c qs) q ≡ items_of G img q) qs (λ q x y. x ∙ y) m.pages_is a.1);
            its_is = rw i (m.its_is ∙ ap its kk);
            end_is = rw i (m.end_is ∙ ap (λ (l : List Entry). data_at G o + spans G.word l) kk);
          }
        where
          r₃ : ℕ → List ℕ → List ℕ
          r₃ c qs = erase G.page (move_img G (log_of G img₂ qs) (items_of G img₂ c) img₂ (data_at G o)) c

  -- no older page then has a key of the page that took the copies
  pub next-fresh : (img : List ℕ) (p o : ℕ) (cs : List ℕ) (er : ℕ) (r : End) (N : Next img p o cs er r)
      → All (λ g. last_with g.it.key (items_of G r.st.img o) ≡ missing) (log_of G r.st.img N.qs)
  next-fresh img p o cs er r N =
      let later = log_of G img N.qs in
      let src = items_of G img N.c in
      let R = items_of G r.st.img o in
      rw (log_same img r.st.img N.qs N.pages_is)
      (All-map (λ g. last_with g.it.key (keep later src) ≡ missing) (λ g. last_with g.it.key R ≡ missing) later
      (λ g h. missing-its g.it.key (keep later src) R (sym N.its_is) h) (later-fresh later src later (found-own [] later)))

-- ---- room

module _ (G : Geo) (sz : ℕ) where
  -- of each page, oldest first: its newest items and the new one are more than the area
  abbrev pub NoRoom : List ℕ → List ℕ → Type 0
  NoRoom img [] = Unit {0}
  NoRoom img (q ∷ qs) = (area_len G < spans G.word (keep (log_of G img qs) (items_of G img q)) + sz) × NoRoom img qs

  pub no_room_same : (img img' : List ℕ) (qs : List ℕ) → All (λ q. items_of G img' q ≡ items_of G img q) qs → NoRoom img qs → NoRoom img' qs
  no_room_same img img' [] h n = tt
  no_room_same img img' (q ∷ qs) h n = (rw (h.0, log_same G img img' qs h.1) n.0, no_room_same img img' qs h.1 n.1)

  pub no_room_last : (img : List ℕ) (cs : List ℕ) (p : ℕ) → NoRoom img (cs ++ (p ∷ [])) → area_len G < spans G.word (keep [] (items_of G img p)) + sz
  no_room_last img [] p n = n.0
  no_room_last img (c ∷ cs) p n = no_room_last img cs p n.1

  -- one more page at the newest end, whose keys no other page has
  pub no_room_snoc : (img : List ℕ) (qs : List ℕ) (o : ℕ) → All (λ e. last_with e.it.key (items_of G img o) ≡ missing) (log_of G img qs)
      → area_len G < spans G.word (keep [] (items_of G img o)) + sz → NoRoom img qs → NoRoom img (qs ++ (o ∷ []))
  no_room_snoc img [] o h l n = (l, tt)
  no_room_snoc img (q ∷ qs) o h l n =
      let R = items_of G img o in
      let hq = All-left (λ e. last_with e.it.key R ≡ missing) (items_of G img q) (log_of G img qs) h in
      let hqs = All_right (λ e. last_with e.it.key R ≡ missing) (items_of G img q) (log_of G img qs) h in
      (rw (log_append G img qs (o ∷ []), append-nil R, keep-more (log_of G img qs) R (items_of G img q) hq) n.0, no_room_snoc img qs o hqs l n.1)

  -- a rollover leaves an image without room
  pub still_none : (img : List ℕ) (p o : ℕ) (cs : List ℕ) (er : ℕ) (r : End) (N : Next G img p o cs er r) → NoRoom img (cs ++ (p ∷ [])) → NoRoom r.st.img (N.qs ++ (o ∷ []))
  still_none img p o cs er r N nr =
      let n : NoRoom img (N.c ∷ N.qs) = rw N.split at nr in
      let later = log_of G img N.qs in
      let src = items_of G img N.c in
      let R = items_of G r.st.img o in
      let ds : Distinct R = distinct_its (keep later src) R (sym N.its_is) (keep_distinct later src) in
      let sp : spans G.word (keep [] R) ≡ spans G.word (keep later src) = ap (spans G.word) (keep_all R ds) ∙ spans-its G.word R (keep later src) N.its_is in
      no_room_snoc r.st.img N.qs o (next-fresh G img p o cs er r N) (rw sp n.0) (no_room_same img r.st.img N.qs N.pages_is n.1)

-- no page has room: every turn fails and erases a page, and the store is full
module _ (G : Geo) (k : ℕ) (v : List ℕ) where
  pub full-turns : (t : ℕ) (img : List ℕ) (p o : ℕ) (cs : List ℕ) (ca : Cache) (er : ℕ) → Fit G img → Ring G img p (o ∷ []) cs → Valid G img ca
      → NoRoom G (size G.word (4 + length v)) img (cs ++ (p ∷ []))
      → ((turns G t k v (record { img = img; cache = ca; erased = er })).ans ≡ FullStorage) × ((turns G t k v (record { img = img; cache = ca; erased = er })).st.erased ≡ er + t)
  unfolding turns
  full-turns zero img p o cs ca er ok S vc nr = (refl, omega arith)
  full-turns (suc t) img p o cs ca er ok S vc nr =
      let pk = page-ok G img ok p in
      let no : end_at G p < (scan_of G img p).end + size G.word (4 + length v) =
      omega (arith, no_room_last G (size G.word (4 + length v)) img cs p nr, spans-keep G.word [] (items_of G img p), spans-presents G.word (scan_of G img p).items, pk.sum, ok.held.room) in
      let r = rollover G o (record { img = mark_end G img p; cache = ca; erased = er }) in
      let N = nextly G img p o cs ca er ok S vc in
      let x = full-turns t r.st.img o N.c N.qs r.st.cache r.st.erased N.fit N.ring N.valid (still_none G (size G.word (4 + length v)) img p o cs er (final r) N nr) in
      let e = turns_roll G img ca er k v (record { fit = ok; p = p; o = o; os = []; cs = cs; ring = S }) t no in
      (ap (λ (u : End). u.ans) e ∙ x.0, ap (λ (u : End). u.st.erased) e ∙ x.1 ∙ rw N.er_is (omega arith))
