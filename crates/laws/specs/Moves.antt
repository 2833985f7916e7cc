-- How each write takes a ring to a ring: rollover, the erase of the oldest page, bytes at the free spot.
use Rattle.std.specs.Prelude.{◌≡◌, refl, ◌≢◌, ℕ, suc, ◌+◌, ◌≤◌, ◌<◌, Bool, true, false, List, [], ◌∷◌, ◌++◌, length, replicate, eqb}
use Rattle.std.proofs.Common.{sym, ap, ◌∙◌, append_assoc, append-nil, arith, eqb-true}
use Rattle.std.proofs.lemmas.Bool.{eqb-false}
use Rattle.rules.specs.declared.{Geo.Geo, PageState.TheVariants.Open, PageState.TheVariants.Closed}
use Rattle.rules.specs.Bytes.{pick, program, erase}
use Rattle.rules.specs.Items.{Entry, Scan, presents}
use Rattle.rules.specs.Pages.{state, scan_of, items_of, area, area_len, data_at, end_at, next}
use Rattle.rules.specs.Sound.{All, ring_rest, Unused, Ring}
use Rattle.laws.specs.Lists.{All-append, All-left, All_right, All-map, All-zip}
use Rattle.laws.specs.Geometry.{Fit}
use Rattle.laws.specs.Touch.{mark_start, mark_end, Frame, start_marked, end_marked, state-mark_start, state-mark_end, erased, erase_unused, same-scan}
use Rattle.laws.specs.Tails.{Tail, tail_of, tail_says, blank-scan, blank_tail}
use Rattle.laws.specs.Piece.{Piece, put}
use Rattle.laws.specs.Rings.{ring_cons, ring_next, all_rest, log_of, log_append}

module _ (G : Geo) where
  -- the page is there, and is not x
  abbrev pub Not : ℕ → ℕ → Type 0
  Not x q = (q < G.pages) × (q ≢ x)

  pub next_in : (p : ℕ) → p < G.pages → next G p < G.pages
  next_in p h = go (eqb (suc p) G.pages) refl
    where
      go : (b : Bool) → eqb (suc p) G.pages ≡ b → pick b 0 (suc p) < G.pages
      go true q = omega arith
      go false q = let ne : suc p ≢ G.pages = eqb-false (suc p) G.pages q in omega arith

  pub next_other : (p : ℕ) → 2 ≤ G.pages → next G p ≢ p
  next_other p h = go (eqb (suc p) G.pages) refl
    where
      go : (b : Bool) → eqb (suc p) G.pages ≡ b → pick b 0 (suc p) ≢ p
      go true e z = let q = eqb-true (suc p) G.pages e in omega arith
      go false e z = omega arith

  -- the ring, one page on
  pub turned : (p o : ℕ) (r : List ℕ) → p < G.pages → ring_rest G p ≡ o ∷ r → (next G p ≡ o) × (ring_rest G o ≡ r ++ (p ∷ []))
  turned p o r h e =
      let c : next G p ∷ ring_rest G (next G p) ≡ o ∷ (r ++ (p ∷ [])) =
      sym (ring_cons G (next G p) (next_in p h)) ∙ ring_next G p h ∙ ap (λ (l : List ℕ). l ++ (p ∷ [])) e in
      let c₁ : next G p ≡ o = cc in
      let c₂ : ring_rest G (next G p) ≡ r ++ (p ∷ []) = cc in
      (c₁, rw c₁ at c₂)

  -- the other pages are not p
  pub rest_not : (p : ℕ) → p < G.pages → (r : List ℕ) → ring_rest G p ≡ r → All (Not p) r
  rest_not p h r e = rw e at (all_rest G (Not p) p h (λ q a b. (a, b)))

  -- ---- what a change of one page leaves of the others

  module _ (img img' : List ℕ) (x : ℕ) (F : Frame G img img' x) where
    pub frame_opens : (qs : List ℕ) → All (Not x) qs → All (Unused G img) qs → All (Unused G img') qs
    frame_opens qs h k =
        All-zip (Not x) (Unused G img) (Unused G img') qs
        (λ q n o. record { is_open = F.same_state q n.0 n.1 ∙ o.is_open; blank = F.same_area q n.0 n.1 ∙ o.blank }) h k

    pub frame_closeds : (qs : List ℕ) → All (Not x) qs → All (λ q. state G img q ≡ Closed) qs → All (λ q. state G img' q ≡ Closed) qs
    frame_closeds qs h k =
        All-zip (Not x) (λ q. state G img q ≡ Closed) (λ q. state G img' q ≡ Closed) qs (λ q n o. F.same_state q n.0 n.1 ∙ o) h k

    pub frame_scan : (q : ℕ) → Not x q → scan_of G img' q ≡ scan_of G img q
    frame_scan q n = same-scan G img img' q (F.same_area q n.0 n.1)

    pub frame_items : (qs : List ℕ) → All (Not x) qs → All (λ q. items_of G img' q ≡ items_of G img q) qs
    frame_items qs h = All-map (Not x) (λ q. items_of G img' q ≡ items_of G img q) qs (λ q n. ap (λ (r : Scan). presents r.items) (frame_scan q n)) h

    pub frame_log : (qs : List ℕ) → All (Not x) qs → log_of G img' qs ≡ log_of G img qs
    frame_log [] h = refl
    frame_log (q ∷ qs) h = rw (frame_scan q h.0, frame_log qs h.1)

    pub frame_tail : (q : ℕ) → Not x q → Tail G img q → Tail G img' q
    frame_tail q n t = record {
      used = t.used;
      left = t.left;
      area_is = F.same_area q n.0 n.1 ∙ t.area_is;
      end_is = rw (frame_scan q n) t.end_is;
    }

  -- ---- rollover: the PartialOpen page is closed, the next one marked

  pub record Rolled (img : List ℕ) (p o : ℕ) (os cs : List ℕ) (img' : List ℕ) : Type 0 where
    pub fit : Fit G img'
    pub ring : Ring G img' o os (cs ++ (p ∷ []))
    pub log_is : log_of G img' (cs ++ (p ∷ [])) ≡ log_of G img cs ++ items_of G img p
    pub empty : scan_of G img' o ≡ record { items = []; end = data_at G o }
    pub pages_is : All (λ q. items_of G img' q ≡ items_of G img q) (cs ++ (p ∷ []))

  pub rolled : (img : List ℕ) (p o : ℕ) (os cs : List ℕ) → Fit G img → Ring G img p (o ∷ os) cs
      → Rolled img p o os cs (mark_start G (mark_end G img p) o)
  rolled img p o os cs ok S =
      let hp = S.in_ring in
      let t = turned p o (os ++ cs) hp S.rest_is in
      let np = rest_not p hp (o ∷ os ++ cs) S.rest_is in
      let ho = np.0.0 in
      let no = rest_not o ho (os ++ cs ++ (p ∷ [])) t.1 in
      let po : Not o p = (All_right (Not o) (os ++ cs) (p ∷ []) no).0 in
      let npr = np.1 in
      let nor = All-left (Not o) (os ++ cs) (p ∷ []) no in
      let img₁ = mark_end G img p in
      let img₂ = mark_start G img₁ o in
      let M₁ = end_marked G img ok p hp in
      let ok₁ = M₁.touch.fit in
      let F₁ = M₁.touch.frame in
      let M₂ = start_marked G img₁ ok₁ o ho in
      let ok₂ = M₂.touch.fit in
      let F₂ = M₂.touch.frame in
      let oo : Unused G img o = S.opens.0 in
      let so : state G img₁ o ≡ Open = F₁.same_state o ho np.0.1 ∙ oo.is_open in
      let ao : area G img₂ o ≡ replicate (area_len G) 255 = M₂.area_is ∙ F₁.same_area o ho np.0.1 ∙ oo.blank in
      let cl : All (λ q. state G img₂ q ≡ Closed) cs =
      frame_closeds img₁ img₂ o F₂ cs (All_right (Not o) os cs nor) (frame_closeds img img₁ p F₁ cs (All_right (Not p) os cs npr) S.closeds) in
      let op : All (Unused G img₂) os =
      frame_opens img₁ img₂ o F₂ os (All-left (Not o) os cs nor) (frame_opens img img₁ p F₁ os (All-left (Not p) os cs npr) S.opens.1) in
      let cp : state G img₂ p ≡ Closed = F₂.same_state p po.0 po.1 ∙ state-mark_end G img ok p hp S.partial in
      let lg : log_of G img₂ cs ≡ log_of G img cs =
      frame_log img₁ img₂ o F₂ cs (All_right (Not o) os cs nor) ∙ frame_log img img₁ p F₁ cs (All_right (Not p) os cs npr) in
      let sp : scan_of G img₂ p ≡ scan_of G img p = frame_scan img₁ img₂ o F₂ p po ∙ same-scan G img img₁ p M₁.area_is in
      record {
        fit = ok₂;
        ring = record {
          in_ring = ho;
          rest_is = t.1 ∙ append_assoc os cs (p ∷ []);
          partial = state-mark_start G img₁ ok₁ o ho so;
          tail = tail_says G img₂ ok₂ o ho (blank_tail G img₂ o ao);
          opens = op;
          closeds = All-append (λ q. state G img₂ q ≡ Closed) cs (p ∷ []) cl (cp, tt);
        };
        log_is = log_append G img₂ cs (p ∷ []) ∙ rw (lg, sp, append-nil (presents (scan_of G img p).items));
        empty = blank-scan G img₂ o ao;
        pages_is = All-append (λ q. items_of G img₂ q ≡ items_of G img q) cs (p ∷ [])
            (All-zip (λ q. items_of G img₂ q ≡ items_of G img₁ q) (λ q. items_of G img₁ q ≡ items_of G img q) (λ q. items_of G img₂ q ≡ items_of G img q) cs (λ q a b. a ∙ b)
            (frame_items img₁ img₂ o F₂ cs (All_right (Not o) os cs nor)) (frame_items img img₁ p F₁ cs (All_right (Not p) os cs npr)))
            (ap (λ (r : Scan). presents r.items) sp, tt);
      }

  -- ---- erase of the oldest page, where no page is Open

  pub record Freed (img : List ℕ) (o c : ℕ) (cs : List ℕ) (img' : List ℕ) : Type 0 where
    pub fit : Fit G img'
    pub ring : Ring G img' o (c ∷ []) cs
    pub log_is : log_of G img' cs ≡ log_of G img cs
    pub scan_is : scan_of G img' o ≡ scan_of G img o
    pub pages_is : All (λ q. items_of G img' q ≡ items_of G img q) cs

  pub freed : (img : List ℕ) (o c : ℕ) (cs : List ℕ) → Fit G img → Ring G img o [] (c ∷ cs) → Freed img o c cs (erase G.page img c)
  freed img o c cs ok S =
      let ho = S.in_ring in
      let no = rest_not o ho (c ∷ cs) S.rest_is in
      let hc = no.0.0 in
      let t = turned o c cs ho S.rest_is in
      let nc = rest_not c hc (cs ++ (o ∷ [])) t.1 in
      let ncs = All-left (Not c) cs (o ∷ []) nc in
      let oc : Not c o = (All_right (Not c) cs (o ∷ []) nc).0 in
      let img' = erase G.page img c in
      let E = erased G img ok c hc in
      let F = E.frame in
      record {
        fit = E.fit;
        ring = record {
          in_ring = ho;
          rest_is = S.rest_is;
          partial = F.same_state o oc.0 oc.1 ∙ S.partial;
          tail = tail_says G img' E.fit o ho (frame_tail img img' c F o oc (tail_of G img ok o ho S.tail));
          opens = (erase_unused G img ok c hc, tt);
          closeds = frame_closeds img img' c F cs ncs S.closeds.1;
        };
        log_is = frame_log img img' c F cs ncs;
        scan_is = frame_scan img img' c F o oc;
        pages_is = frame_items img img' c F cs ncs;
      }

  -- ---- bytes at the free spot of the PartialOpen page

  pub record Written (img : List ℕ) (p : ℕ) (os cs : List ℕ) (es : List Entry) (m : ℕ) (img' : List ℕ) : Type 0 where
    pub fit : Fit G img'
    pub frame : Frame G img img' p
    pub ring : Ring G img' p os cs
    pub log_is : log_of G img' cs ≡ log_of G img cs
    pub items_is : items_of G img' p ≡ items_of G img p ++ presents es
    pub end_is : (scan_of G img' p).end ≡ (scan_of G img p).end + m

  pub written : (img : List ℕ) (p : ℕ) (os cs : List ℕ) (new : List ℕ) (es : List Entry) (ok : Fit G img) (S : Ring G img p os cs)
      (T : Tail G img p) (P : Piece G.word T.left (data_at G p + length T.used) new es) → (scan_of G img p).end + length new ≤ end_at G p
      → Written img p os cs es (length P.x) (program img (scan_of G img p).end new)
  written img p os cs new es ok S T P fits =
      let hp = S.in_ring in
      let np = rest_not p hp (os ++ cs) S.rest_is in
      let img' = program img (scan_of G img p).end new in
      let W = put G img ok p hp T new es P fits in
      let F = W.touch.frame in
      record {
        fit = W.touch.fit;
        frame = F;
        ring = record {
          in_ring = hp;
          rest_is = S.rest_is;
          partial = W.state_is ∙ S.partial;
          tail = tail_says G img' W.touch.fit p hp W.tail;
          opens = frame_opens img img' p F os (All-left (Not p) os cs np) S.opens;
          closeds = frame_closeds img img' p F cs (All_right (Not p) os cs np) S.closeds;
        };
        log_is = frame_log img img' p F cs (All_right (Not p) os cs np);
        items_is = W.items_is;
        end_is = ap (λ (r : Scan). r.end) W.scan_is;
      }
