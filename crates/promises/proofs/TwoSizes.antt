-- One call on one sound image, with right caches of two sizes: the same is seen.
use Rattle.std.specs.Prelude.{◌≡◌, refl, ◌≢◌, ℕ, ◌≤◌, ◌<◌, List, length, take}
use Rattle.std.proofs.Common.{sym, ap, ◌∙◌, le-ltb}
use Rattle.rules.specs.declared.{Geo.Geo, Answer.TheVariants.Done}
use Rattle.rules.specs.Bytes.{Bytes}
use Rattle.rules.specs.Cache.{Cache}
use Rattle.rules.specs.Answers.{refusal}
use Rattle.rules.specs.Runs.{St, Out}
use Rattle.rules.specs.Store.{fetch, store}
use Rattle.rules.specs.Remove.{Which, every, only, remove, erase_all}
use Rattle.rules.specs.Calls.{Call, fetch_item, fetch_plain, store_item, remove_item, remove_all_items, erase_all_pages, fetch_all_items, next_item, Lent, Told, no_cursor, start_cursor, geo_of, tell, called}
use Rattle.rules.specs.List.{Pair}
use Rattle.laws.specs.Geometry.{accepted}
use Rattle.theory.specs.Sane.{Sane}
use Rattle.theory.specs.Fetching.{fetch_sane}
use Rattle.theory.specs.Storing.{store_same}
use Rattle.theory.specs.Removing.{remove_res, erase_res}
use Rattle.theory.specs.Latest.{start_res}
use Rattle.promises.specs.Promise.{row, Given, refused}
use Rattle.promises.specs.Behind.{called_runs, called-refused, either}
use Rattle.promises.proofs.EachCall.{plain_passes, fitting, Fine}

-- two answers' parts are one
row_is : (t t' : Told) → t.answer ≡ t'.answer → t.cursor ≡ t'.cursor → t.image ≡ t'.image → t.erased ≡ t'.erased → row t ≡ row t'
row_is t t' a c i e = λ j. record { answer = a j; cursor = c j; image = i j; erased = e j }

refusal_any : (w E len m m' v : ℕ) → m ≤ 32 → m' ≤ 32 → refusal w E len m v ≡ refusal w E len m' v
unfolding refusal
refusal_any w E len m m' v h h' = rw (le-ltb 32 m h, le-ltb 32 m' h')

module _ (w E m m' : ℕ) (img : List ℕ) (x y : Cache) (l l' : List Pair)
    (R : Fine w E m (record { image = img; cache = x }) l) (R' : Fine w E m' (record { image = img; cache = y }) l') where
  abbrev b : Lent
  b = record { image = img; cache = x }

  abbrev b' : Lent
  b' = record { image = img; cache = y }

  abbrev G : Geo
  G = geo_of w E (length img)

  abbrev s₀ : St
  s₀ = record { img = img; cache = take m x; erased = 0 }

  abbrev s₁ : St
  s₁ = record { img = img; cache = take m' y; erased = 0 }

  s : Sane G img (take m x)
  s = R.sane

  s' : Sane G img (take m' y)
  s' = R'.sane

  -- two runs that end alike, of a call that hands back no cursor
  alike : (c : Call) (o o' : Out) → called w E m c b ≡ tell m b (λ o. no_cursor) o → called w E m' c b' ≡ tell m' b' (λ o. no_cursor) o'
      → o.ans ≡ o'.ans → o.st.img ≡ o'.st.img → o.st.erased ≡ o'.st.erased → row (called w E m c b) ≡ row (called w E m' c b')
  alike c o o' e e' a i n = ap row e ∙ row_is (tell m b (λ o. no_cursor) o) (tell m' b' (λ o. no_cursor) o') a refl i n ∙ ap row (sym e')

  same_store : (k : ℕ) (v : List ℕ) → (k < 4294967296) × Bytes v → row (called w E m (store_item k v) b) ≡ row (called w E m' (store_item k v) b')
  same_store k v g = either w E m (store_item k v) b (λ t. row t ≡ row (called w E m' (store_item k v) b')) off on
    where
      any : refusal w E (length img) m (length v) ≡ refusal w E (length img) m' (length v)
      any = refusal_any w E (length img) m m' (length v) (accepted w E (length img) m 0 R.passes).cached (accepted w E (length img) m' 0 R'.passes).cached

      off : refusal w E (length img) m (length v) ≢ Done → row (refused w E m (store_item k v) b) ≡ row (called w E m' (store_item k v) b')
      off n =
          row_is (refused w E m (store_item k v) b) (refused w E m' (store_item k v) b') any refl refl refl
          ∙ ap row (sym (called-refused w E m' (store_item k v) b' (λ z. n (any ∙ z))))

      on : refusal w E (length img) m (length v) ≡ Done → row (tell m b (λ o. no_cursor) (store G k v s₀)) ≡ row (called w E m' (store_item k v) b')
      on e =
          let f = fitting w E (length img) m k v g (accepted w E (length img) m (length v) e) in
          let z = store_same G img k v (take m x) (take m' y) 0 s s' f in
          row_is (tell m b (λ o. no_cursor) (store G k v s₀)) (tell m' b' (λ o. no_cursor) (store G k v s₁)) z.ans_is refl z.img_is z.er_is
          ∙ ap row (sym (called_runs w E m' (store_item k v) b' (sym any ∙ e)))

  same-remove : (t : Which) (c : Call) → called w E m c b ≡ tell m b (λ o. no_cursor) (remove G t s₀) → called w E m' c b' ≡ tell m' b' (λ o. no_cursor) (remove G t s₁)
      → row (called w E m c b) ≡ row (called w E m' c b')
  same-remove t c e e' =
      let f = remove_res G t img (take m x) 0 s in
      let f' = remove_res G t img (take m' y) 0 s' in
      alike c (remove G t s₀) (remove G t s₁) e e' (f.ans_is ∙ sym f'.ans_is) (f.img_is ∙ sym f'.img_is) (f.er_is ∙ sym f'.er_is)

  pub same_row : (c : Call) → Given c → row (called w E m c b) ≡ row (called w E m' c b')
  same_row (fetch_item k) g =
      let f = fetch_sane G img (take m x) 0 k s in
      let f' = fetch_sane G img (take m' y) 0 k s' in
      alike (fetch_item k) (fetch G k s₀) (fetch G k s₁) (called_runs w E m (fetch_item k) b R.passes) (called_runs w E m' (fetch_item k) b' R'.passes)
      (f.ans_is ∙ sym f'.ans_is) (f.img_is ∙ sym f'.img_is) (f.er_is ∙ sym f'.er_is)
  same_row (fetch_plain k) g =
      ap row (called_runs w E m (fetch_plain k) b (plain_passes w E m b l R)) ∙ ap row (sym (called_runs w E m' (fetch_plain k) b' (plain_passes w E m' b' l' R')))
  same_row (store_item k v) g = same_store k v g
  same_row (remove_item k) g =
      same-remove (only k) (remove_item k) (called_runs w E m (remove_item k) b R.passes) (called_runs w E m' (remove_item k) b' R'.passes)
  same_row remove_all_items g = same-remove every remove_all_items (called_runs w E m remove_all_items b R.passes) (called_runs w E m' remove_all_items b' R'.passes)
  same_row erase_all_pages g =
      let f = erase_res G img (take m x) 0 s.fit in
      let f' = erase_res G img (take m' y) 0 s.fit in
      alike erase_all_pages (erase_all G s₀) (erase_all G s₁) (called_runs w E m erase_all_pages b R.passes) (called_runs w E m' erase_all_pages b' R'.passes)
      (f.ans_is ∙ sym f'.ans_is) (f.img_is ∙ sym f'.img_is) (f.er_is ∙ sym f'.er_is)
  same_row fetch_all_items g =
      ap row (called_runs w E m fetch_all_items b R.passes ∙ ap (tell m b (start_cursor G)) (start_res G img (take m x) 0 s.fit s.sound))
      ∙ ap row (sym (called_runs w E m' fetch_all_items b' R'.passes ∙ ap (tell m' b' (start_cursor G)) (start_res G img (take m' y) 0 s'.fit s'.sound)))
  same_row (next_item c) g =
      ap row (called_runs w E m (next_item c) b (plain_passes w E m b l R)) ∙ ap row (sym (called_runs w E m' (next_item c) b' (plain_passes w E m' b' l' R')))
