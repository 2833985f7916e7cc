-- Geometry: what a size that is not refused gives, and what every proof uses of a geometry and its image.
use Rattle.std.specs.Prelude.{◌≡◌, refl, ◌≢◌, ◌⊎◌, ℕ, ◌+◌, ◌-◌, ◌*◌, ◌/◌, ◌%◌, ◌≤◌, ◌<◌, Bool, true, false, not, List, length, ltb, eqb}
use Rattle.std.proofs.Common.{sym, ap, ◌∙◌, subst, inl, inr, ⊎_elim, div-add-mod', le-div_iff_mul-le, mul-le-mul_right, eq-or-lt_of_le, arith, ltb-false, le-ltb, eqb-true, ne_eqb}
use Rattle.std.proofs.Math.Nat.{mul-mod_left}
use Rattle.rules.specs.declared.{Geo.Geo, Answer.Answer, Answer.TheVariants.Done, Answer.TheVariants.EndRangeNotAtPageBoundary, Answer.TheVariants.RangeTooSmall, Answer.TheVariants.PagesTooSmall, Answer.TheVariants.Geometry, Answer.TheVariants.CacheSize, Answer.TheVariants.ItemTooBig}
use Rattle.rules.specs.Bytes.{Bytes, pick}
use Rattle.rules.specs.Answers.{number, data_limit, refusal}
use Rattle.rules.specs.Calls.{geo_of}
use Rattle.rules.specs.Held.{Held}

-- ---- an image that fits its geometry

pub record Fit (G : Geo) (img : List ℕ) : Type 0 where
  pub held : Held G (length img)
  pub bytes : Bytes img

-- a page below page n ends where page n begins, or before
pub page_in : (E p n : ℕ) → p < n → p * E + E ≤ n * E
page_in E p n h = omega (arith, mul-le-mul_right E h)

module _ (G : Geo) (len : ℕ) (H : Held G len) where
  pub word_is : (G.word ≡ 4) ⊎ (G.word ≡ 8)
  word_is =
      let f = H.four in
      ⊎_elim (λ q. inr q) (λ l. inl (omega (arith, H.low))) (eq-or-lt_of_le H.high)

  -- a header is whole words
  pub header_words : (j : ℕ) × (j * G.word ≡ 8)
  header_words = ⊎_elim (λ q. (2, rw q)) (λ q. (1, rw q)) word_is

  pub header_on : 8 % G.word ≡ 0
  header_on = let j = header_words in ap (λ (x : ℕ). x % G.word) (sym j.1) ∙ mul-mod_left j.0 G.word

  -- so is what a page holds beside its marks and a header
  pub inner_words : (j : ℕ) × (j * G.word + 2 * G.word + 8 ≡ G.page)
  inner_words =
      let d = H.words in
      let r = H.room in
      ⊎_elim
      (λ q. let k : G.page % 4 ≡ 0 = rw q at d in let k' : 3 * 4 + 8 ≤ G.page = rw q at r in (G.page / 4 - 4, rw q (omega arith)))
      (λ q. let k : G.page % 8 ≡ 0 = rw q at d in let k' : 3 * 8 + 8 ≤ G.page = rw q at r in (G.page / 8 - 3, rw q (omega arith)))
      word_is

-- ---- what the refusals 1 to 6 leave

pub record Accepted (w E len m v : ℕ) : Type 0 where
  pub whole : len % E ≡ 0
  pub two : 2 * E ≤ len
  pub room : 3 * w + 8 ≤ E
  pub words : E % w ≡ 0
  pub most : E ≤ 32768
  pub few : len / E ≤ 256
  pub cached : m ≤ 32
  pub fits : 4 + v ≤ data_limit w E

passed : (b : Bool) (x r : Answer) → 0 < number x → pick b x r ≡ Done → (b ≡ false) × (r ≡ Done)
passed true x r h e = let z = ap number e in absurd (omega arith)
passed false x r h e = (refl, e)

tested : (x : ℕ) → not (eqb x 0) ≡ false → x ≡ 0
tested x e = go (eqb x 0) refl e
  where
    go : (b : Bool) → eqb x 0 ≡ b → not b ≡ false → x ≡ 0
    go true q h = eqb-true x 0 q
    go false q h = let z : ◌≡◌ {A = ℕ} 0 1 = cc in absurd (omega arith)

pub accepted : (w E len m v : ℕ) → refusal w E len m v ≡ Done → Accepted w E len m v
unfolding refusal
accepted w E len m v e =
    let r₉ : Answer = pick (ltb (data_limit w E) (4 + v)) ItemTooBig Done in
    let r₈ : Answer = pick (ltb 32 m) CacheSize r₉ in
    let r₇ : Answer = pick (ltb 256 (len / E)) Geometry r₈ in
    let r₆ : Answer = pick (ltb 32768 E) Geometry r₇ in
    let r₅ : Answer = pick (not (eqb (E % w) 0)) Geometry r₆ in
    let r₄ : Answer = pick (ltb E (3 * w + 8)) PagesTooSmall r₅ in
    let r₃ : Answer = pick (ltb len (2 * E)) RangeTooSmall r₄ in
    let r₂ : Answer = pick (not (eqb (len % E) 0)) EndRangeNotAtPageBoundary r₃ in
    let a = passed (eqb E 0) PagesTooSmall r₂ (omega arith) e in
    let b = passed (not (eqb (len % E) 0)) EndRangeNotAtPageBoundary r₃ (omega arith) a.1 in
    let c = passed (ltb len (2 * E)) RangeTooSmall r₄ (omega arith) b.1 in
    let d = passed (ltb E (3 * w + 8)) PagesTooSmall r₅ (omega arith) c.1 in
    let f = passed (not (eqb (E % w) 0)) Geometry r₆ (omega arith) d.1 in
    let g = passed (ltb 32768 E) Geometry r₇ (omega arith) f.1 in
    let h = passed (ltb 256 (len / E)) Geometry r₈ (omega arith) g.1 in
    let i = passed (ltb 32 m) CacheSize r₉ (omega arith) h.1 in
    let j = passed (ltb (data_limit w E) (4 + v)) ItemTooBig Done (omega arith) i.1 in
    record {
      whole = tested (len % E) b.0;
      two = ltb-false len (2 * E) c.0;
      room = ltb-false E (3 * w + 8) d.0;
      words = tested (E % w) f.0;
      most = ltb-false 32768 E g.0;
      few = ltb-false 256 (len / E) h.0;
      cached = ltb-false 32 m i.0;
      fits = ltb-false (data_limit w E) (4 + v) j.0;
    }

-- and what leaves them
pub accepts : (w E len m v : ℕ) → Accepted w E len m v → refusal w E len m v ≡ Done
unfolding refusal
accepts w E len m v s =
    let r = s.room in
    let ne : E ≢ 0 = λ z. absurd (omega arith) in
    rw (
      ne_eqb E 0 ne,
      s.whole,
      le-ltb len (2 * E) s.two,
      le-ltb E (3 * w + 8) r,
      s.words,
      le-ltb 32768 E s.most,
      le-ltb 256 (len / E) s.few,
      le-ltb 32 m s.cached,
      le-ltb (data_limit w E) (4 + v) s.fits,
    )

-- ---- a refusal's number

picked : (b : Bool) (x r : Answer) → number x ≢ 0 → (number r ≡ 0 → r ≡ Done) → number (pick b x r) ≡ 0 → pick b x r ≡ Done
picked true x r n h e = absurd (n e)
picked false x r n h e = h e

-- number 0: none is due
pub zero_done : (w E len m v : ℕ) → number (refusal w E len m v) ≡ 0 → refusal w E len m v ≡ Done
unfolding refusal
zero_done w E len m v =
    picked (eqb E 0) PagesTooSmall _ (λ z. absurd (omega arith))
    (picked (not (eqb (len % E) 0)) EndRangeNotAtPageBoundary _ (λ z. absurd (omega arith))
    (picked (ltb len (2 * E)) RangeTooSmall _ (λ z. absurd (omega arith))
    (picked (ltb E (3 * w + 8)) PagesTooSmall _ (λ z. absurd (omega arith))
    (picked (not (eqb (E % w) 0)) Geometry _ (λ z. absurd (omega arith))
    (picked (ltb 32768 E) Geometry _ (λ z. absurd (omega arith))
    (picked (ltb 256 (len / E)) Geometry _ (λ z. absurd (omega arith))
    (picked (ltb 32 m) CacheSize _ (λ z. absurd (omega arith))
    (picked (ltb (data_limit w E) (4 + v)) ItemTooBig Done (λ z. absurd (omega arith)) (λ z. refl)))))))))

low : (b : Bool) (x r : Answer) → number x ≤ 6 → number r ≤ 6 → number (pick b x r) ≤ 6
low true x r h k = h
low false x r h k = k

-- it is at most 6
pub refusal_low : (w E len m v : ℕ) → number (refusal w E len m v) ≤ 6
unfolding refusal
refusal_low w E len m v =
    low (eqb E 0) PagesTooSmall _ (omega arith)
    (low (not (eqb (len % E) 0)) EndRangeNotAtPageBoundary _ (omega arith)
    (low (ltb len (2 * E)) RangeTooSmall _ (omega arith)
    (low (ltb E (3 * w + 8)) PagesTooSmall _ (omega arith)
    (low (not (eqb (E % w) 0)) Geometry _ (omega arith)
    (low (ltb 32768 E) Geometry _ (omega arith)
    (low (ltb 256 (len / E)) Geometry _ (omega arith)
    (low (ltb 32 m) CacheSize _ (omega arith)
    (low (ltb (data_limit w E) (4 + v)) ItemTooBig Done (omega arith) (omega arith)))))))))

-- ---- what the code asks

-- sizes that are not refused are what the code and the proofs ask
pub held_of : (w E len m v : ℕ) → (w ≡ 4) ⊎ (w ≡ 8) → Accepted w E len m v → Held (geo_of w E len) len
held_of w E len m v h s =
    let r = s.room in
    let E₊ : 0 < E = omega arith in
    let d = div-add-mod' len E in
    let z = s.whole in
    record {
      low = ⊎_elim (λ q. omega arith) (λ q. omega arith) h;
      high = ⊎_elim (λ q. omega arith) (λ q. omega arith) h;
      four = ⊎_elim (λ q. rw q) (λ q. rw q) h;
      room = r;
      most = s.most;
      words = s.words;
      two = (le-div_iff_mul-le E₊).1 s.two;
      few = s.few;
      whole = omega arith;
    }

-- the same by the refusal's number, as the code tests it
module _ (w E m v : ℕ) (img : List ℕ) (word : (w ≡ 4) ⊎ (w ≡ 8)) (no : Answer) (d : ℕ) (hno : no ≡ refusal w E (length img) m v) (hd : d ≡ number no) where
  pub fits : d ≡ 0 → Accepted w E (length img) m v
  fits z = accepted w E (length img) m v (zero_done w E (length img) m v (sym (ap number hno) ∙ sym hd ∙ z))

  pub page_some : d ≡ 0 → 0 < E
  page_some z = omega (arith, (fits z).room)

  pub held : d ≡ 0 → (G : Geo) → G ≡ geo_of w E (length img) → Held G (length img)
  held z G g = subst (λ H. Held H (length img)) (sym g) (held_of w E (length img) m v word (fits z))
