-- Scans: the step for each reading, and that enough steps are enough.
use Rattle.std.specs.Prelude.{◌≡◌, refl, ℕ, zero, suc, ◌+◌, ◌≤◌, ◌<◌, List, [], length, drop}
use Rattle.std.proofs.Common.{sym, ap, ◌∙◌, length-drop, arith}
use Rattle.rules.specs.Items.{Item, Reading, stop, skip, item, read, size, scan, scan_go, cons_e}
use Rattle.laws.specs.Reading.{le_size, read_item_inv, read_long, read_short}

-- a scan does not end before it starts
pub scan_end_ge : (w f a : ℕ) (s : List ℕ) → a ≤ (scan w f a s).end
unfolding scan
scan_end_ge w zero a s = omega arith
scan_end_ge w (suc f) a s = go (read w s) (λ b t. scan_end_ge w f b t)
  where
    go : (r : Reading) → ((b : ℕ) (t : List ℕ) → b ≤ (scan w f b t).end) → a ≤ (scan_go w r a s (scan w f)).end
    go stop ih = omega arith
    go skip ih = omega (arith, ih (a + w) (drop w s))
    go (item i) ih = omega (arith, ih (a + size w i.len) (drop (size w i.len) s))

-- a step of the scan, for each reading: the only laws of `scan` that later proofs use
pub scan-stop : (w f a : ℕ) (s : List ℕ) → read w s ≡ stop → scan w (suc f) a s ≡ record { items = []; end = a }
unfolding scan
scan-stop w f a s e = rw e

pub scan-skip : (w f a : ℕ) (s : List ℕ) → read w s ≡ skip → scan w (suc f) a s ≡ scan w f (a + w) (drop w s)
unfolding scan
scan-skip w f a s e = rw e

pub scan-item : (w f a : ℕ) (s : List ℕ) (i : Item) → read w s ≡ item i
    → scan w (suc f) a s ≡ cons_e (record { at = a; it = i }) (scan w f (a + size w i.len) (drop (size w i.len) s))
unfolding scan
scan-item w f a s i e = rw e

-- enough fuel is enough
pub scan_short : (w f a : ℕ) (s : List ℕ) → length s < 8 → scan w f a s ≡ record { items = []; end = a }
unfolding scan
scan_short w zero a s h = refl
scan_short w (suc f) a s h = scan-stop w f a s (read_short w s h)

pub scan_fuel : (w : ℕ) → 0 < w → (f g a : ℕ) (s : List ℕ) → length s ≤ f → length s ≤ g → scan w f a s ≡ scan w g a s
scan_fuel w hw zero g a s hf hg = scan_short w zero a s (omega arith) ∙ sym (scan_short w g a s (omega arith))
scan_fuel w hw (suc f) zero a s hf hg = scan_short w (suc f) a s (omega arith) ∙ sym (scan_short w zero a s (omega arith))
scan_fuel w hw (suc f) (suc g) a s hf hg = go (read w s) refl (λ b t h k. scan_fuel w hw f g b t h k)
  where
    go : (r : Reading) → read w s ≡ r → ((b : ℕ) (t : List ℕ) → length t ≤ f → length t ≤ g → scan w f b t ≡ scan w g b t) → scan w (suc f) a s ≡ scan w (suc g) a s
    go stop e ih = scan-stop w f a s e ∙ sym (scan-stop w g a s e)
    go skip e ih =
        let l = length-drop w s in
        let h = read_long w s e in
        rw (scan-skip w f a s e, scan-skip w g a s e) (ih (a + w) (drop w s) (omega arith) (omega arith))
    go (item i) e ih =
        let k = size w i.len in
        let l = length-drop k s in
        let hk = le_size w i.len hw in
        let v = read_item_inv w s i e in
        let h : k ≤ length s = rw v.3 v.1 in
        rw (scan-item w f a s i e, scan-item w g a s i e) (ap (cons_e (record { at = a; it = i })) (ih (a + k) (drop k s) (omega arith) (omega arith)))
