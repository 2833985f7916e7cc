-- Bytes that the scan reads to their end, written at the free spot of a page with a blank tail: that page's scan goes on into them, and nothing
-- else changes. They may be an item, one that is not Present, one word that is skipped, or nothing.
use Rattle.std.specs.Prelude.{◌≡◌, ℕ, zero, suc, ◌+◌, ◌-◌, ◌≤◌, ◌<◌, Bool, true, false, drop}
use Rattle.std.proofs.Math.Path.{refl, ap}
use Rattle.std.proofs.Common.{sym, ◌∙◌, length-append, length-drop, take_at, drop_at}
use mathlib.Core.List.{List, [], ◌∷◌, ◌++◌, append_assoc, append-nil}
use Rattle.std.proofs.Math.ListN.{length, replicate, length-replicate}
use Rattle.std.proofs.lemmas.List.{drop-append-le}
use native.Mathlib.Omega.{arith}
use Rattle.rules.specs.declared.{Geo.Geo}
use Rattle.rules.specs.Bytes.{Bytes, pick, splice, program, and_all}
use Rattle.rules.specs.Items.{Item, Entry, Reading, is_present, item, stop, skip, read, size, scan, presents, cons_e}
use Rattle.rules.specs.Pages.{state, scan_of, items_of, area, area_len, data_at, end_at}
use Rattle.laws.specs.Splice.{win_in, drop-over, drop-replicate}
use Rattle.laws.specs.ByteLaws.{and_blank, ff_more, program-splice}
use Rattle.laws.specs.Geometry.{Fit, page_in}
use Rattle.laws.specs.Reading.{read-blank, le_size, read_item_keep, read_skip_keep}
use Rattle.laws.specs.Scans.{scan_end_ge, scan-stop, scan-skip, scan-item}
use Rattle.laws.specs.Touch.{Touched, AtArea, at_area}
use Rattle.laws.specs.Tails.{Tail, tail_length, tail_blank}

-- the scan goes on where it ended, into what stands there instead of blank bytes
module _ (w q m : ℕ) (new : List ℕ) (es : List Entry) (en : ℕ) (hw : 4 ≤ w) (lm : length new ≡ m) (m₊ : 0 < m)
    (seam : (f : ℕ) → m ≤ suc f → scan w (suc f) q new ≡ record { items = es; end = en }) where
  abbrev pub Goal : ℕ → ℕ → List ℕ → Type 0
  Goal f a xs = scan w f a (xs ++ new) ≡ record { items = (scan w f a (xs ++ replicate m 255)).items ++ es; end = en }

  abbrev pub Hyp : ℕ → ℕ → List ℕ → Type 0
  Hyp f a xs = length xs + m ≤ f → q ≡ a + length xs → (scan w f a (xs ++ replicate m 255)).end ≡ q → Goal f a xs

  step : (f a : ℕ) (xs : List ℕ) → ((b : ℕ) (ys : List ℕ) → Hyp f b ys) → (r : Reading) → read w (xs ++ replicate m 255) ≡ r → Hyp (suc f) a xs
  step f a [] ih stop e hf hq he =
      let z : a ≡ q = omega (arith, hq) in
      rw (scan-stop w f a _ e, z) (seam f (omega arith))
  step f a (x ∷ xs) ih stop e hf hq he =
      let z : a ≡ q = rw (scan-stop w f a _ e) at he in
      absurd (omega arith)
  step f a xs ih skip e hf hq he =
      let bl : List ℕ = xs ++ replicate m 255 in
      let he' = rw (scan-skip w f a bl e) at he in
      let hx : w ≤ length xs = omega (arith, scan_end_ge w f (a + w) (drop w bl)) in
      let hd = drop-append-le w xs (replicate m 255) hx in
      let h₁ : length (drop w xs) + m ≤ f = simp length-drop (omega arith) in
      let h₂ : q ≡ a + w + length (drop w xs) = simp length-drop (omega arith) in
      let e' = read_skip_keep w xs new m (omega arith) lm e in
      rw (scan-skip w f a bl e, scan-skip w f a (xs ++ new) e', drop-append-le w xs new, hd)
      (ih (a + w) (drop w xs) h₁ h₂ (rw hd at he'))
  step f a xs ih (item j) e hf hq he =
      let bl : List ℕ = xs ++ replicate m 255 in
      let k = size w j.len in
      let he' = rw (scan-item w f a bl j e) at he in
      let hx : k ≤ length xs = omega (arith, scan_end_ge w f (a + k) (drop k bl)) in
      let hd = drop-append-le k xs (replicate m 255) hx in
      let hk = le_size w j.len (omega arith) in
      let h₁ : length (drop k xs) + m ≤ f = simp length-drop (omega arith) in
      let h₂ : q ≡ a + k + length (drop k xs) = simp length-drop (omega arith) in
      let e' = read_item_keep w (omega arith) xs (replicate m 255) new j (length-replicate m 255 ∙ sym lm) e hx in
      rw (scan-item w f a bl j e, scan-item w f a (xs ++ new) j e', drop-append-le k xs new, hd)
      (ap (cons_e (record { at = a; it = j })) (ih (a + k) (drop k xs) h₁ h₂ (rw hd at he')))

  pub scan_seam : (f a : ℕ) (xs : List ℕ) → Hyp f a xs
  scan_seam zero a xs hf hq he = absurd (omega arith)
  scan_seam (suc f) a xs hf hq he = step f a xs (λ b ys. scan_seam f b ys) (read w (xs ++ replicate m 255)) refl hf hq he

pub presents-more : (es fs : List Entry) → presents (es ++ fs) ≡ presents es ++ presents fs
presents-more [] fs = refl
presents-more (x ∷ es) fs = go (is_present x.it.kind) (presents-more es fs)
  where
    go : (b : Bool) → presents (es ++ fs) ≡ presents es ++ presents fs
        → pick b (x ∷ presents (es ++ fs)) (presents (es ++ fs)) ≡ pick b (x ∷ presents es) (presents es) ++ presents fs
    go true ih = rw ih
    go false ih = ih

-- new bytes at place a, before left blank ones: the scan reads x of them as the entries es, and what is left of them is blank
pub record Piece (w left a : ℕ) (new : List ℕ) (es : List Entry) : Type 0 where
  pub x : List ℕ
  pub r : ℕ
  pub new_is : new ≡ x ++ replicate r 255
  pub bytes : Bytes new
  pub some : 0 < length new
  pub seam : (f : ℕ) → left ≤ suc f → scan w (suc f) a (x ++ replicate (left - length x) 255) ≡ record { items = es; end = a + length x }

-- an item is one
unfoldable pub item_piece : (w left a : ℕ) (new : List ℕ) (i : Item) → 0 < w → Bytes new → size w i.len ≡ length new → length new ≤ left
    → ((rest : List ℕ) → read w (new ++ rest) ≡ item i) → Piece w left a new (record { at = a; it = i } ∷ [])
item_piece w left a new i hw b sz h reads = record {
  x = new;
  r = 0;
  new_is = sym (append-nil new);
  bytes = b;
  some = omega (arith, le_size w i.len hw);
  seam = λ f hf.
      let h0 : 0 < f = omega (arith, le_size w i.len hw) in
      rw (scan-item w f a (new ++ rest) i (reads rest), sz, drop_at new rest (length new) refl, stops f h0);
}
  where
    rest : List ℕ
    rest = replicate (left - length new) 255

    stops : (f : ℕ) → 0 < f → scan w f (a + length new) rest ≡ record { items = []; end = a + length new }
    stops zero h = absurd (omega arith)
    stops (suc f) h = scan-stop w f (a + length new) rest (read-blank w (left - length new))

-- the page after it
pub record Put (G : Geo) (img : List ℕ) (p : ℕ) (es : List Entry) (m : ℕ) (img' : List ℕ) : Type 0 where
  pub touch : Touched G img p img'
  pub state_is : state G img' p ≡ state G img p
  pub scan_is : scan_of G img' p ≡ record { items = (scan_of G img p).items ++ es; end = (scan_of G img p).end + m }
  pub items_is : items_of G img' p ≡ items_of G img p ++ presents es
  pub tail : Tail G img' p

module _ (G : Geo) (img : List ℕ) (ok : Fit G img) (p : ℕ) (hp : p < G.pages) (T : Tail G img p) (new : List ℕ) (es : List Entry)
    (P : Piece G.word T.left (data_at G p + length T.used) new es) (fits : (scan_of G img p).end + length new ≤ end_at G p) where
  l : length T.used + T.left ≡ area_len G
  l = tail_length G img ok p hp T

  room : length T.used + length new ≤ area_len G
  room = omega (arith, fits, T.end_is, ok.held.room)

  abbrev img' : List ℕ
  img' = program img (scan_of G img p).end new

  img'_is : img' ≡ splice img (data_at G p + length T.used) new
  unfolding program
  img'_is = ap (λ (o : List ℕ). splice img (scan_of G img p).end (and_all o new)) (tail_blank G img ok p hp T (length new) fits) ∙ rw (and_blank new P.bytes, T.end_is)

  spliced : splice (T.used ++ replicate T.left 255) (length T.used) new ≡ T.used ++ (new ++ replicate (T.left - length new) 255)
  unfolding splice
  spliced =
      let z : length T.used + length new - length T.used ≡ length new = omega arith in
      let h : length T.used ≤ length T.used + length new = omega arith in
      rw (take_at T.used (replicate T.left 255) (length T.used) refl, drop-over (length T.used + length new) T.used (replicate T.left 255) h, z, drop-replicate (length new) T.left 255)

  len_new : length new ≡ length P.x + P.r
  len_new = ap length P.new_is ∙ length-append P.x (replicate P.r 255) ∙ ap (λ (y : ℕ). length P.x + y) (length-replicate {A = ℕ} P.r 255)

  area_is : area G img' p ≡ T.used ++ (P.x ++ replicate (T.left - length P.x) 255)
  area_is =
      let al = l in
      let rm = room in
      let ln = len_new in
      let z : P.r + (T.left - length new) ≡ T.left - length P.x = omega arith in
      let z' : data_at G p + length T.used - data_at G p ≡ length T.used = omega arith in
      let inside : data_at G p + length T.used + length new ≤ length img = omega (arith, ok.held.whole, ok.held.room, page_in G.page p G.pages hp) in
      let e : area G img' p ≡ T.used ++ (new ++ replicate (T.left - length new) 255) =
      rw (img'_is, win_in img (data_at G p + length T.used) new inside (data_at G p) (area_len G) (omega arith) (omega arith), z', T.area_is) spliced in
      e ∙ ap (λ (y : List ℕ). T.used ++ (y ++ replicate (T.left - length new) 255)) P.new_is
      ∙ ap (λ (y : List ℕ). T.used ++ y) (append_assoc P.x (replicate P.r 255) (replicate (T.left - length new) 255) ∙ rw (ff_more P.r (T.left - length new), z))

  scan_is : scan_of G img' p ≡ record { items = (scan_of G img p).items ++ es; end = (scan_of G img p).end + length P.x }
  unfolding scan_of
  scan_is =
      let al = l in
      let rm = room in
      let ln = len_new in
      let x = P.x in
      let lm : length (x ++ replicate (T.left - length x) 255) ≡ T.left = rw (length-append x (replicate (T.left - length x) 255), length-replicate {A = ℕ} (T.left - length x) 255) (omega arith) in
      let en : (scan G.word (area_len G) (data_at G p) (T.used ++ replicate T.left 255)).end ≡ data_at G p + length T.used = rw T.area_is at T.end_is in
      rw (area_is, T.area_is, en)
      (scan_seam G.word (data_at G p + length T.used) T.left (x ++ replicate (T.left - length x) 255) es (data_at G p + length T.used + length x) ok.held.low lm (omega (arith, P.some)) P.seam
      (area_len G) (data_at G p) T.used (omega arith) refl en)

  touch : AtArea G img ok p hp img'
  touch =
      at_area G img ok p hp img' (scan_of G img p).end (length new)
      (program-splice img (scan_of G img p).end new ok.bytes (omega (arith, fits, ok.held.whole, ok.held.room, page_in G.page p G.pages hp)))
      (omega (arith, T.end_is)) fits

  pub put : Put G img p es (length P.x) (program img (scan_of G img p).end new)
  put = record {
    touch = touch.touch;
    state_is = touch.state_is;
    scan_is = scan_is;
    items_is = rw scan_is (presents-more (scan_of G img p).items es);
    tail = record {
      used = T.used ++ P.x;
      left = T.left - length P.x;
      area_is = rw (append_assoc T.used P.x (replicate (T.left - length P.x) 255)) area_is;
      end_is = rw (scan_is, T.end_is, length-append T.used P.x) (omega arith);
    };
  }
