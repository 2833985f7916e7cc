-- The blank tail of a page: its data area as used bytes and then blank ones, and document 01's words for it.
use Rattle.std.specs.Prelude.{◌≡◌, List, [], ◌++◌, length, take, drop, replicate}
use Rattle.std.proofs.Math.Path.{refl}
use Rattle.std.proofs.Common.{sym, ap, ◌∙◌, length-append, length-drop, take-append-drop, length-take-le, take-take, drop-drop, drop_at, arith}
use Prim.Native.Nat.{ℕ, zero, suc, ◌+◌, ◌-◌, ◌≤◌, ◌<◌}
use Rattle.std.proofs.lemmas.List.{length-replicate}
use Rattle.rules.specs.declared.{Geo.Geo}
use Rattle.rules.specs.Items.{scan}
use Rattle.rules.specs.Pages.{area, area_len, data_at, end_at, scan_of}
use Rattle.rules.specs.Sound.{BlankTail}
use Rattle.laws.specs.Splice.{drop-take, window_replicate}
use Rattle.laws.specs.Geometry.{Fit, page_in}
use Rattle.laws.specs.Reading.{read-blank}
use Rattle.laws.specs.Scans.{scan-stop}
use Rattle.laws.specs.Entries.{page-ok}

-- the scan ends where the blank bytes begin
pub record Tail (G : Geo) (img : List ℕ) (q : ℕ) : Type 0 where
  pub used : List ℕ
  pub left : ℕ
  pub area_is : area G img q ≡ used ++ replicate left 255
  pub end_is : (scan_of G img q).end ≡ data_at G q + length used

module _ (G : Geo) (img : List ℕ) (ok : Fit G img) (p : ℕ) (hp : p < G.pages) where
  pub area-length : length (area G img p) ≡ area_len G
  area-length =
      length-take-le (area_len G) (drop (data_at G p) img) (rw length-drop (omega (arith, ok.held.whole, ok.held.room, page_in G.page p G.pages hp)))

  -- the scan ends in the data area
  pub end_low : data_at G p ≤ (scan_of G img p).end
  end_low = omega (arith, (page-ok G img ok p).sum)

  pub end_high : (scan_of G img p).end ≤ end_at G p
  end_high = omega (arith, (page-ok G img ok p).within, area-length, ok.held.room)

  module _ (T : Tail G img p) where
    pub tail_length : length T.used + T.left ≡ area_len G
    tail_length =
        sym (ap length T.area_is ∙ length-append T.used (replicate T.left 255) ∙ ap (λ (x : ℕ). length T.used + x) (length-replicate T.left 255))
        ∙ area-length

    -- any number of bytes after the scan's end, up to the end word
    pub tail_blank : (m : ℕ) → (scan_of G img p).end + m ≤ end_at G p → take m (drop (scan_of G img p).end img) ≡ replicate m 255
    tail_blank m h =
        let u = length T.used in
        let l = tail_length in
        let en = T.end_is in
        let z : area_len G - u ≡ T.left = omega arith in
        let hm : m ≤ T.left = omega (arith, ok.held.room) in
        let e : take T.left (drop (data_at G p + u) img) ≡ replicate T.left 255 =
        rw (← z, ← drop-drop u (data_at G p) img, ← drop-take u (area_len G) (drop (data_at G p) img), T.area_is, drop_at T.used (replicate T.left 255) u refl, ← z) in
        rw en (sym (take-take m T.left (drop (data_at G p + u) img) hm) ∙ ap (take m) e ∙ window_replicate T.left 0 m 255 (omega arith))

    pub tail_says : BlankTail G img p
    tail_says = tail_blank (end_at G p - (scan_of G img p).end) (omega (arith, end_high))

  pub tail_of : BlankTail G img p → Tail G img p
  tail_of e = record {
    used = take k (area G img p);
    left = m;
    area_is = sym (take-append-drop k (area G img p)) ∙ ap (λ (l : List ℕ). take k (area G img p) ++ l) (rest ∙ e);
    end_is = rw (length-take-le k (area G img p) (omega (arith, area-length, end_low, end_high, ok.held.room))) (omega (arith, end_low));
  }
    where
      m : ℕ
      m = end_at G p - (scan_of G img p).end

      k : ℕ
      k = (scan_of G img p).end - data_at G p

      rest : drop k (area G img p) ≡ take m (drop (scan_of G img p).end img)
      rest =
          let z : data_at G p + k ≡ (scan_of G img p).end = omega (arith, end_low) in
          let y : area_len G - k ≡ m = omega (arith, end_low, end_high, ok.held.room) in
          drop-take k (area_len G) (drop (data_at G p) img) ∙ rw (y, drop-drop k (data_at G p) img, z)

-- a blank area has no items, and its tail is the whole of it
module _ (G : Geo) (img : List ℕ) (q : ℕ) (e : area G img q ≡ replicate (area_len G) 255) where
  pub blank-scan : scan_of G img q ≡ record { items = []; end = data_at G q }
  unfolding scan_of scan
  blank-scan = rw e (ends (area_len G))
    where
      ends : (f : ℕ) → scan G.word f (data_at G q) (replicate (area_len G) 255) ≡ record { items = []; end = data_at G q }
      ends zero = refl
      ends (suc f) = scan-stop G.word f (data_at G q) (replicate (area_len G) 255) (read-blank G.word (area_len G))

  pub blank_tail : Tail G img q
  blank_tail = record { used = []; left = area_len G; area_is = e; end_is = rw blank-scan (omega arith) }
