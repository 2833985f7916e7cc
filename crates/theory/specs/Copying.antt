-- One item of a migration's source, copied to the target's free spot: the copy reads as its item, and the rest of the source can follow.
use Rattle.std.specs.Prelude.{◌≡◌, refl, ℕ, ◌+◌, ◌-◌, ◌≤◌, ◌<◌, true}
use Rattle.std.proofs.Math.Path.{sym, ap}
use Rattle.std.proofs.Common.{◌∙◌, length-take, take-append-drop, take-take, arith}
use mathlib.Core.List.{List, [], ◌∷◌, ◌++◌, append_assoc}
use Rattle.std.proofs.Math.ListN.{length, take, drop, length-append}
use Rattle.std.proofs.Math.Seq.{length-take-le}
use Rattle.rules.specs.declared.{Geo.Geo}
use Rattle.rules.specs.Bytes.{program, round_up, Bytes}
use Rattle.rules.specs.Items.{Entry, Scan, is_present, item, read, size, pad, presents}
use Rattle.rules.specs.Pages.{scan_of, items_of, end_at, blank_at, data_at, area_len}
use Rattle.rules.specs.Store.{copy_of, span_of}
use Rattle.rules.specs.Sound.{Ring}
use Rattle.laws.specs.Lists.{All_right}
use Rattle.laws.specs.ByteLaws.{Bytes-append, Bytes-take, Bytes-drop, Bytes-replicate}
use Rattle.laws.specs.Geometry.{Fit}
use Rattle.laws.specs.Reading.{le_size, read_item_inv, read_item_local}
use Rattle.laws.specs.Encoding.{length-pad}
use Rattle.laws.specs.Entries.{spans, Stands, stands_items, presents_are, page-ok, spans-presents}
use Rattle.laws.specs.Moves.{frame_scan, rest_not}
use Rattle.theory.specs.Placing.{Placed, placed}

module _ (G : Geo) where
  -- ---- a copy reads as its item
  module _ (img : List ℕ) (ok : Fit G img) (q : ℕ) (e : Entry) (st : Stands G img q e) where
    w₊ : 0 < G.word
    w₊ = omega (arith, ok.held.low)

    X : List ℕ
    X = drop e.at img

    m : ℕ
    m = end_at G q - e.at

    size_in : size G.word e.it.len ≤ length (take m X)
    unfolding m X
    size_in = let v = read_item_inv G.word (take (end_at G q - e.at) (drop e.at img)) e.it st.reads in rw v.3 v.1

    hd : List ℕ
    hd = take (8 + e.it.len) X

    len_in : (8 + e.it.len ≤ m) × (8 + e.it.len ≤ length X)
    len_in =
        let h = le_size G.word e.it.len w₊ in
        let k = size_in in
        let l = length-take m X in
        (omega arith, omega arith)

    hd_length : length hd ≡ 8 + e.it.len
    unfolding hd
    hd_length = length-take-le (8 + e.it.len) X len_in.1

    pub copy_length : size G.word e.it.len ≡ length (copy_of G img e)
    unfolding hd X size
    copy_length = rw (length-append hd (pad G.word e.it.len), hd_length) (omega (arith, length-pad G.word e.it.len w₊))

    pub copy_reads : (rest : List ℕ) → read G.word (copy_of G img e ++ rest) ≡ item e.it
    unfolding hd X m
    copy_reads rest =
        let pd = pad G.word e.it.len in
        let z : take m X ≡ hd ++ drop (8 + e.it.len) (take m X) =
        sym (take-append-drop (8 + e.it.len) (take m X)) ∙ ap (λ (r : List ℕ). r ++ drop (8 + e.it.len) (take m X)) (take-take (8 + e.it.len) m X len_in.0) in
        let r : read G.word (hd ++ drop (8 + e.it.len) (take m X)) ≡ item e.it = ap (read G.word) (sym z) ∙ st.reads in
        let cl = copy_length in
        let fit : size G.word e.it.len ≤ length (hd ++ (pd ++ rest)) =
        rw (← append_assoc hd pd rest, length-append (hd ++ pd) rest) (omega arith) in
        rw (append_assoc hd pd rest)
        (read_item_local G.word w₊ hd (drop (8 + e.it.len) (take m X)) (pd ++ rest) e.it r (omega (arith, hd_length)) fit)

    pub copy_bytes_lem : Bytes (copy_of G img e)
    unfolding pad
    copy_bytes_lem =
        Bytes-append (take (8 + e.it.len) (drop e.at img)) (pad G.word e.it.len)
        (Bytes-take (8 + e.it.len) (drop e.at img) (Bytes-drop e.at img ok.bytes))
        (Bytes-replicate (round_up G.word e.it.len - e.it.len) 255 (omega arith))

  -- the free spot of the target o
  abbrev pub end_of : ℕ → List ℕ → ℕ
  end_of o img = (scan_of G img o).end

  module _ (o c : ℕ) (cs : List ℕ) where
    -- of the source c the entries es are to come, and there is room for all of them
    pub record Source (img : List ℕ) (before es : List Entry) : Type 0 where
      pub fit : Fit G img
      pub ring : Ring G img o [] (c ∷ cs)
      pub src : items_of G img c ≡ before ++ es
      pub room : end_of o img + spans G.word es ≤ end_at G o

    module _ (img : List ℕ) (before es : List Entry) (e : Entry) (R : Source img before (e ∷ es)) where
      abbrev ok : Fit G img
      ok = R.fit

      st : Stands G img c e
      st = (All_right (Stands G img c) before (e ∷ es) (rw R.src at (stands_items G img ok c))).0

      pr : is_present e.it.kind ≡ true
      pr = (All_right (λ e. is_present e.it.kind ≡ true) before (e ∷ es) (rw R.src at (presents_are (scan_of G img c).items))).0

      abbrev pub new : List ℕ
      new = copy_of G img e

      abbrev pub img₁ : List ℕ
      img₁ = program img (end_of o img) new

      new-length : size G.word e.it.len ≡ length new
      new-length = copy_length img ok c e st

      fits : end_of o img + length new ≤ end_at G o
      fits = omega (arith, R.room, new-length)

      -- it stays behind
      pub source_stay : Source img (before ++ (e ∷ [])) es
      source_stay = record { fit = R.fit; ring = R.ring; src = R.src ∙ sym (append_assoc before (e ∷ []) es); room = omega (arith, R.room) }

      pub record Copied : Type 0 where
        pub put : Placed G img R.fit o [] (c ∷ cs) new e.it img₁
        pub blank_is : blank_at img (end_of o img) (span_of G e) ≡ true
        pub src_is : items_of G img₁ c ≡ items_of G img c
        pub end_is : end_of o img₁ ≡ end_of o img + span_of G e
        pub source : Source img₁ (before ++ (e ∷ [])) es

      pub copied : Copied
      copied =
          let W = placed G img ok o [] (c ∷ cs) R.ring new e.it (copy_bytes_lem img ok c e st) new-length pr (copy_reads img ok c e st) fits in
          let np = rest_not G o R.ring.in_ring (c ∷ cs) R.ring.rest_is in
          let src₁ : items_of G img₁ c ≡ items_of G img c = ap (λ (r : Scan). presents r.items) (frame_scan G img img₁ o W.all.frame c np.0) in
          let end₁ : end_of o img₁ ≡ end_of o img + span_of G e = W.all.end_is ∙ ap (λ (x : ℕ). end_of o img + x) (sym new-length) in
          record {
            put = W;
            blank_is = rw new-length W.blank_is;
            src_is = src₁;
            end_is = end₁;
            source = record { fit = W.all.fit; ring = W.all.ring; src = src₁ ∙ R.src ∙ sym (append_assoc before (e ∷ []) es); room = omega (arith, R.room, end₁) };
          }

    -- a migration begins: the target is blank
    pub begins : (img : List ℕ) → Fit G img → Ring G img o [] (c ∷ cs) → scan_of G img o ≡ record { items = []; end = data_at G o } → Source img [] (items_of G img c)
    begins img ok S empty =
        let pk = page-ok G img ok c in
        let la = length-take (area_len G) (drop (data_at G c) img) in
        let en : (scan_of G img o).end ≡ data_at G o = ap (λ (r : Scan). r.end) empty in
        record { fit = ok; ring = S; src = refl; room = omega (arith, pk.sum, pk.within, la, en, spans-presents G.word (scan_of G img c).items, ok.held.room) }
