-- Any sequence of calls, from any sound image with a right cache; and that an empty cache is right.
use Rattle.std.specs.Prelude.{◌≡◌, refl, ℕ, zero, suc, ◌≤◌, List, [], ◌∷◌, length, take, replicate}
use Rattle.std.proofs.Common.{sym, ap, ◌∙◌, subst, arith}
use Rattle.rules.specs.Cache.{empty_pointer, Cache}
use Rattle.rules.specs.Calls.{Call, Lent, Told, geo_of, called}
use Rattle.rules.specs.Sound.{SoundImage}
use Rattle.rules.specs.List.{Pair, list_after}
use Rattle.laws.specs.Geometry.{accepted, accepts}
use Rattle.theory.specs.Cached.{Valid}
use Rattle.theory.specs.Sane.{valid_empty}
use Rattle.theory.specs.Latest.{list_of, lists_of}
use Rattle.promises.specs.Promise.{AllGiven, fresh, again, Row, row, seen, Follows}
use Rattle.promises.proofs.EachCall.{Fine, held, plain_passes}
use Rattle.promises.proofs.TwoSizes.{same_row}
use Rattle.promises.proofs.AnyLent.{fit_of}

-- what is lent is sound
sound_of : (w E m : ℕ) (b : Lent) (l : List Pair) → Fine w E m b l → SoundImage w E b.image
sound_of w E m b l R = record { word = R.word; accepted = plain_passes w E m b l R; bytes = R.sane.fit.bytes; sound = R.sane.sound }

pub follows : (w E m : ℕ) (cs : List Call) → AllGiven cs → (b : Lent) (l : List Pair) → Fine w E m b l → Follows w E m cs b l
follows w E m [] g b l R = tt
follows w E m (c ∷ cs) g b l R =
    let r = called w E m c b in
    let H = held w E m b l R c g.0 in
    let l' = list_after c r.answer l in
    (record { right = H.right; clean = H.clean; sound = sound_of w E m (again r) l' H.ready }, follows w E m cs g.1 (again r) l' H.ready)

-- two sizes, call by call
pub same_seen : (w E m m' : ℕ) (cs : List Call) → AllGiven cs → (img : List ℕ) (x y : Cache) (l l' : List Pair)
    → Fine w E m (record { image = img; cache = x }) l → Fine w E m' (record { image = img; cache = y }) l'
    → seen (called w E m) cs (record { image = img; cache = x }) ≡ seen (called w E m') cs (record { image = img; cache = y })
same_seen w E m m' [] g img x y l l' R R' = refl
same_seen w E m m' (c ∷ cs) g img x y l l' R R' =
    let b : Lent = record { image = img; cache = x } in
    let b' : Lent = record { image = img; cache = y } in
    go (called w E m c b) (called w E m' c b') (same_row w E m m' img x y l l' R R' c g.0) _ _ (held w E m b l R c g.0).ready (held w E m' b' l' R' c g.0).ready
    (λ img x y l l'. same_seen w E m m' cs g.1 img x y l l')
  where
    go : (r r' : Told) → row r ≡ row r' → (l l' : List Pair) → Fine w E m (again r) l → Fine w E m' (again r') l'
        → ((img : List ℕ) (x y : Cache) (l l' : List Pair) → Fine w E m (record { image = img; cache = x }) l → Fine w E m' (record { image = img; cache = y }) l'
        → seen (called w E m) cs (record { image = img; cache = x }) ≡ seen (called w E m') cs (record { image = img; cache = y }))
        → row r ∷ seen (called w E m) cs (again r) ≡ row r' ∷ seen (called w E m') cs (again r')
    go r r' e l l' R R' ih =
        let i : r.image ≡ r'.image = ap (λ (x : Row). x.image) e in
        let R'' : Fine w E m' (record { image = r.image; cache = r'.cache }) l' = subst (λ (x : List ℕ). Fine w E m' (record { image = x; cache = r'.cache }) l') (sym i) R' in
        let rest : seen (called w E m) cs (again r) ≡ seen (called w E m') cs (again r') =
        ih r.image r.cache r'.cache l l' R R'' ∙ (λ j. seen (called w E m') cs (record { image = i j; cache = r'.cache })) in
        λ j. e j ∷ rest j

-- ---- a sound image and an empty cache

empties : (m n : ℕ) → m ≤ n → replicate m empty_pointer ≡ take m (replicate n empty_pointer)
empties zero n h = refl
empties (suc m) zero h = absurd (omega arith)
empties (suc m) (suc n) h = ap (λ (c : Cache). empty_pointer ∷ c) (empties m n (omega arith))

pub begins : (w E m : ℕ) (img : List ℕ) → SoundImage w E img → m ≤ 32 → Fine w E m (fresh img) (list_of (geo_of w E (length img)) img)
begins w E m img S h =
    let G = geo_of w E (length img) in
    let A = accepted w E (length img) 0 0 S.accepted in
    let ok = fit_of w E img S in
    record {
      word = S.word;
      passes = accepts w E (length img) m 0
          (record { whole = A.whole; two = A.two; room = A.room; words = A.words; most = A.most; few = A.few; cached = h; fits = A.fits });
      many = h;
      sane = record { fit = ok; sound = S.sound; valid = subst (Valid G img) (empties m 32 h) (valid_empty G img m) };
      lists = lists_of G img ok S.sound;
    }
