-- Entries: where those of a page's scan stand, in what order, and how much they take.
use Rattle.std.specs.Prelude.{◌≡◌, Bool, true, false, length, drop}
use Rattle.std.proofs.Math.Path.{refl}
use Prim.Native.Nat.{ℕ, zero, suc, ◌+◌, ◌-◌, ◌*◌, ◌/◌, ◌%◌, ◌≤◌, ◌<◌}
use mathlib.Core.List.{List, [], ◌∷◌}
use Rattle.std.proofs.Math.ListN.{take}
use Rattle.std.proofs.Common.{length-drop, length-take, drop-drop, arith, lt-ltb, le-leb, eq-eqb}
use Rattle.std.proofs.Math.Arith.{digits_div, digits_mod}
use Rattle.rules.specs.Bytes.{pick, round_up}
use Rattle.laws.specs.Splice.{drop-take}
use Rattle.rules.specs.Items.{is_present, Entry, Scan, Reading, stop, skip, item, read, size, scan, presents}
use Rattle.laws.specs.Reading.{le_size, read_long, read_item_inv}
use Rattle.laws.specs.Scans.{scan-stop, scan-skip, scan-item}
use Rattle.rules.specs.declared.Geo.{Geo}
use Rattle.rules.specs.Pages.{scan_of, items_of, area, area_len, data_at, end_at}
use Rattle.laws.specs.Geometry.{Fit, header_words}
use Rattle.rules.specs.Held.{Held}
use Rattle.rules.specs.Fetch.{found, hit_item, hit}
use Rattle.rules.specs.Sound.{All}
use Rattle.laws.specs.Lists.{All-map}

-- the bytes that entries take
abbrev pub spans : ℕ → List Entry → ℕ
spans w [] = 0
spans w (e ∷ es) = size w e.it.len + spans w es

-- places go up
abbrev pub Sorted : List Entry → Type 0
Sorted [] = Unit {0}
Sorted (e ∷ es) = All (λ f. e.at < f.at) es × Sorted es

-- a scan, step by step: a fact that each reading hands on
pub record ScanOk (w a : ℕ) (len : ℕ) (r : Scan) : Type 0 where
  pub from : All (λ e. a ≤ e.at) r.items
  pub sorted : Sorted r.items
  pub sum : a + spans w r.items ≤ r.end
  pub within : r.end ≤ a + len
  pub inside : All (λ e. e.at + 8 ≤ a + len) r.items

pub scan-ok : (w : ℕ) → 0 < w → w ≤ 8 → (f a : ℕ) (s : List ℕ) → ScanOk w a (length s) (scan w f a s)
unfolding scan
scan-ok w hw h8 zero a s = record { from = tt; sorted = tt; sum = omega arith; within = omega arith; inside = tt }
scan-ok w hw h8 (suc f) a s = go (read w s) refl (λ b t. scan-ok w hw h8 f b t)
  where
    go : (r : Reading) → read w s ≡ r → ((b : ℕ) (t : List ℕ) → ScanOk w b (length t) (scan w f b t)) → ScanOk w a (length s) (scan w (suc f) a s)
    go stop e ih = rw (scan-stop w f a s e) (record { from = tt; sorted = tt; sum = omega arith; within = omega arith; inside = tt })
    go skip e ih =
        let k = ih (a + w) (drop w s) in
        let l = length-drop w s in
        let h = read_long w s e in
        rw (scan-skip w f a s e) (record {
          from = All-map (λ e. a + w ≤ e.at) (λ e. a ≤ e.at) (scan w f (a + w) (drop w s)).items (λ x h. omega arith) k.from;
          sorted = k.sorted;
          sum = omega (arith, k.sum);
          within = omega (arith, k.within);
          inside = All-map (λ e. e.at + 8 ≤ a + w + length (drop w s)) (λ e. e.at + 8 ≤ a + length s) (scan w f (a + w) (drop w s)).items (λ x y. omega arith) k.inside;
        })
    go (item i) e ih =
        let z = size w i.len in
        let k = ih (a + z) (drop z s) in
        let l = length-drop z s in
        let v = read_item_inv w s i e in
        let h : z ≤ length s = rw v.3 v.1 in
        let hz = le_size w i.len hw in
        rw (scan-item w f a s i e) (record {
          from = (omega arith, All-map (λ e. a + z ≤ e.at) (λ e. a ≤ e.at) (scan w f (a + z) (drop z s)).items (λ x h. omega arith) k.from);
          sorted = (All-map (λ e. a + z ≤ e.at) (λ e. a < e.at) (scan w f (a + z) (drop z s)).items (λ x h. omega arith) k.from, k.sorted);
          sum = omega (arith, k.sum);
          within = omega (arith, k.within);
          inside = (omega arith, All-map (λ e. e.at + 8 ≤ a + z + length (drop z s)) (λ e. e.at + 8 ≤ a + length s) (scan w f (a + z) (drop z s)).items (λ x y. omega arith) k.inside);
        })

-- the Present ones of entries
pub All-presents : (P : Entry → Type 0) (es : List Entry) → All P es → All P (presents es)
All-presents P [] h = tt
All-presents P (e ∷ es) h = go (is_present e.it.kind) (All-presents P es h.1)
  where
    go : (b : Bool) → All P (presents es) → All P (pick b (e ∷ presents es) (presents es))
    go true ih = (h.0, ih)
    go false ih = ih

pub presents_are : (es : List Entry) → All (λ e. is_present e.it.kind ≡ true) (presents es)
presents_are [] = tt
presents_are (e ∷ es) = go (is_present e.it.kind) refl (presents_are es)
  where
    go : (b : Bool) → is_present e.it.kind ≡ b → All (λ e. is_present e.it.kind ≡ true) (presents es) → All (λ e. is_present e.it.kind ≡ true) (pick b (e ∷ presents es) (presents es))
    go true q ih = (q, ih)
    go false q ih = ih

pub Sorted-presents : (es : List Entry) → Sorted es → Sorted (presents es)
Sorted-presents [] h = tt
Sorted-presents (e ∷ es) h = go (is_present e.it.kind) (Sorted-presents es h.1)
  where
    go : (b : Bool) → Sorted (presents es) → Sorted (pick b (e ∷ presents es) (presents es))
    go true ih = (All-presents (λ f. e.at < f.at) es h.0, ih)
    go false ih = ih

pub spans-presents : (w : ℕ) (es : List Entry) → spans w (presents es) ≤ spans w es
spans-presents w [] = omega arith
spans-presents w (e ∷ es) = go (is_present e.it.kind) (spans-presents w es)
  where
    go : (b : Bool) → spans w (presents es) ≤ spans w es → spans w (pick b (e ∷ presents es) (presents es)) ≤ size w e.it.len + spans w es
    go true ih = omega arith
    go false ih = omega arith

-- a size is whole words
pub size_words : (G : Geo) (len : ℕ) → Held G len → (L : ℕ) → (j : ℕ) × (size G.word L ≡ j * G.word)
unfolding size round_up
size_words G len h L =
    let j = header_words G len h in
    let e = j.1 in
    (j.0 + (L + (G.word - 1)) / G.word, omega arith)

-- ---- what a cached place on a word of page q holds

pub hit_at : (G : Geo) (img : List ℕ) → Held G (length img) → (q : ℕ) → q < G.pages
    → (k a off : ℕ) → a ≡ q * G.page + off * G.word → G.word ≤ off * G.word → a ≤ end_at G q
    → hit G img k a ≡ hit_item k a (read G.word (take (end_at G q - a) (drop a img)))
unfolding hit
hit_at G img h q hq k a off a-is lo hi =
    let r = off * G.word in
    let r< : r < G.page = omega (arith, h.room, h.low) in
    let d : a / G.page ≡ q = rw a-is (digits_div q r<) in
    let m : a % G.page ≡ r = rw a-is (digits_mod q r<) in
    let z₀ : r ≡ r + 0 = omega arith in
    let al : r % G.word ≡ 0 = rw z₀ (digits_mod off (omega (arith, h.low))) in
    let z : G.page - G.word - r ≡ end_at G q - a = omega (arith, h.room) in
    rw (d, m, al, lt-ltb q G.pages hq, le-leb G.word r lo, le-leb r (G.page - G.word) (omega (arith, h.room)), z)

-- ---- where an entry of page q stands, and that reading there gives it

pub record Stands (G : Geo) (img : List ℕ) (q : ℕ) (e : Entry) : Type 0 where
  pub off : ℕ
  pub at_is : e.at ≡ q * G.page + off * G.word
  pub low : G.word ≤ off * G.word
  pub high : e.at + size G.word e.it.len ≤ end_at G q
  pub reads : read G.word (take (end_at G q - e.at) (drop e.at img)) ≡ item e.it

module _ (G : Geo) (img : List ℕ) (ok : Fit G img) (q : ℕ) where
  w₊ : 0 < G.word
  w₊ = omega (arith, ok.held.low)

  -- the rest of an area after k bytes
  pub rest_is : (a k : ℕ) → drop k (take (end_at G q - a) (drop a img)) ≡ take (end_at G q - (a + k)) (drop (a + k) img)
  rest_is a k =
      let z : end_at G q - a - k ≡ end_at G q - (a + k) = omega arith in
      rw (drop-take k (end_at G q - a) (drop a img), drop-drop k a img, z)

  pub stands : (f a : ℕ) (off : ℕ) → a ≡ q * G.page + off * G.word → G.word ≤ off * G.word → a ≤ end_at G q
      → All (Stands G img q) (scan G.word f a (take (end_at G q - a) (drop a img))).items
  unfolding scan
  stands zero a off ha lo hi = tt
  stands (suc f) a off ha lo hi = go (read G.word s) refl (λ b o. stands f b o)
    where
      s : List ℕ
      s = take (end_at G q - a) (drop a img)

      ls : length s ≤ end_at G q - a
      ls = rw (length-take (end_at G q - a) (drop a img)) (omega arith)

      go : (r : Reading) → read G.word s ≡ r
          → ((b : ℕ) (o : ℕ) → b ≡ q * G.page + o * G.word → G.word ≤ o * G.word → b ≤ end_at G q → All (Stands G img q) (scan G.word f b (take (end_at G q - b) (drop b img))).items)
          → All (Stands G img q) (scan G.word (suc f) a s).items
      go stop e ih = rw (scan-stop G.word f a s e) tt
      go skip e ih =
          rw (scan-skip G.word f a s e, rest_is a G.word)
          (ih (a + G.word) (suc off) (omega arith) (omega arith) (omega (arith, ls, read_long G.word s e, ok.held.high)))
      go (item i) e ih =
          let z = size G.word i.len in
          let v = read_item_inv G.word s i e in
          let h : z ≤ length s = rw v.3 v.1 in
          let hz = le_size G.word i.len w₊ in
          let j = size_words G (length img) ok.held i.len in
          let je = j.1 in
          rw (scan-item G.word f a s i e, rest_is a z) (
            record { off = off; at_is = ha; low = lo; high = omega (arith, ls); reads = e },
            ih (a + z) (off + j.0) (omega arith) (omega arith) (omega (arith, ls)),
          )

  pub stands_all : All (Stands G img q) (scan_of G img q).items
  unfolding scan_of
  stands_all =
      let z : end_at G q - data_at G q ≡ area_len G = omega (arith, ok.held.room) in
      let r = stands (area_len G) (data_at G q) 1 (omega arith) (omega arith) (omega (arith, ok.held.room)) in
      rw z at r

  pub stands_items : All (Stands G img q) (items_of G img q)
  stands_items = All-presents (Stands G img q) (scan_of G img q).items stands_all

  -- a cached place of a Present entry is a hit
  pub stands_hit : q < G.pages → (e : Entry) → Stands G img q e → is_present e.it.kind ≡ true → hit G img e.it.key e.at ≡ found e
  stands_hit hq e S pr =
      rw (hit_at G img ok.held q hq e.it.key e.at S.off S.at_is S.low (omega (arith, S.high)), S.reads, pr, eq-eqb e.it.key e.it.key refl)

-- the scan of a page
pub page-ok : (G : Geo) (img : List ℕ) → Fit G img → (q : ℕ) → ScanOk G.word (data_at G q) (length (area G img q)) (scan_of G img q)
unfolding scan_of
page-ok G img ok q = scan-ok G.word (omega (arith, ok.held.low)) ok.held.high (area_len G) (data_at G q) (area G img q)
