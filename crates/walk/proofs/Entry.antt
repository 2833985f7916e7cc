-- Each entry of a scan is the item that stands at its place.
use mathlib.Core.Path.{◌≡◌, refl, sym, ap, ◌∙◌}
use Prim.Native.Nat.{ℕ, zero, suc, ◌+◌, ◌≤◌, ◌<◌}
use mathlib.Core.List.{List}
use lib.ListN.{length}
use Rattle.rules.specs.Items.{Reading, stop, skip, item, item_of, size, read, Entry, scan}
use Rattle.rules.specs.Sound.{All}
use Rattle.laws.specs.Reading.{read_item_inv}
use Rattle.laws.specs.Scans.{scan-stop, scan-skip, scan-item}
use Rattle.items.specs.Code.{part}
use Rattle.items.proofs.Laws.{part-drop}

-- an entry is the item that its place holds, up to e
abbrev pub Own : List ℕ → ℕ → Entry → Type 0
Own img e x = x.it ≡ item_of (part img x.at e) x.it.len

module _ (w : ℕ) (hw : 0 < w) (img : List ℕ) (e : ℕ) (he : e ≤ length img) where
  pub own : (f a : ℕ) → All (Own img e) (scan w f a (part img a e)).items
  unfolding scan
  own zero a = tt
  own (suc f) a = go (read w (part img a e)) refl (λ b. own f b)
    where
      go : (r : Reading) → read w (part img a e) ≡ r → ((b : ℕ) → All (Own img e) (scan w f b (part img b e)).items) → All (Own img e) (scan w (suc f) a (part img a e)).items
      go stop q ih = rw (scan-stop w f a (part img a e) q) tt
      go skip q ih = rw (scan-skip w f a (part img a e) q, part-drop w hw img e he a w) (ih (a + w))
      go (item i) q ih =
          let v = read_item_inv w (part img a e) i q in
          rw (scan-item w f a (part img a e) i q, part-drop w hw img e he a (size w i.len)) (sym v.2 ∙ ap (λ (L : ℕ). item_of (part img a e) L) (sym v.3), ih (a + size w i.len))
