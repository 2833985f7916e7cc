-- Where the runs of removal and of erase all end: the image, as a function of the image.
use Rattle.std.specs.Prelude.{◌≡◌, Bool, replicate}
use Rattle.std.proofs.Math.Path.{refl, ap}
use Rattle.std.proofs.Common.{◌∙◌}
use Prim.Native.Nat.{ℕ, suc, ◌+◌}
use Rattle.std.proofs.Math.Bool.{true, false}
use mathlib.Core.List.{List, [], ◌∷◌}
use Rattle.std.proofs.Math.ListN.{length}
use native.Mathlib.Omega.{arith}
use Rattle.rules.specs.declared.{Geo.Geo, Answer.TheVariants.Done, PageState.TheVariants.Open}
use Rattle.rules.specs.Bytes.{pick, program, erase, programs}
use Rattle.rules.specs.Items.{Entry}
use Rattle.rules.specs.Pages.{state, items_of, same}
use Rattle.rules.specs.Cache.{Cache}
use Rattle.rules.specs.Runs.{St, Out, after, end, final}
use Rattle.rules.specs.Remove.{Which, matches, remove_entries, remove_pages, erase_pages}

-- a state with another image
abbrev pub onto : St → List ℕ → St
onto s img = record { img = img; cache = s.cache; erased = s.erased }

module _ (G : Geo) where
  abbrev pub gone_entries : Which → List Entry → List ℕ → List ℕ
  gone_entries t [] img = img
  gone_entries t (e ∷ es) img =
      gone_entries t es (pick (matches t e) (program img (e.at + 4) (replicate 4 0)) img)

  abbrev pub gone_pages : Which → List ℕ → List ℕ → List ℕ
  gone_pages t [] img = img
  gone_pages t (p ∷ ps) img =
      gone_pages t ps (pick (same Open (state G img p)) img (gone_entries t (items_of G img p) img))

  pub entries-end : (t : Which) (es : List Entry) (s : St) (k : St → Out) → final (remove_entries t es s k) ≡ final (k (onto s (gone_entries t es s.img)))
  unfolding remove_entries
  entries-end t [] s k = refl
  entries-end t (e ∷ es) s k = go (matches t e) (λ s. entries-end t es s k)
    where
      go : (b : Bool) → ((s : St) → final (remove_entries t es s k) ≡ final (k (onto s (gone_entries t es s.img))))
          → final (pick b (after (programs (e.at + 4) (replicate 4 0) ∷ []) (remove_entries t es (onto s (program s.img (e.at + 4) (replicate 4 0))) k)) (remove_entries t es s k))
          ≡ final (k (onto s (gone_entries t es (pick b (program s.img (e.at + 4) (replicate 4 0)) s.img))))
      go true ih = ih (onto s (program s.img (e.at + 4) (replicate 4 0)))
      go false ih = ih s

  pub pages_end : (t : Which) (ps : List ℕ) (s : St) → final (remove_pages G t ps s) ≡ end Done (onto s (gone_pages t ps s.img))
  unfolding remove_pages
  pages_end t [] s = refl
  pages_end t (p ∷ ps) s = go (same Open (state G s.img p)) (λ s. pages_end t ps s)
    where
      go : (b : Bool) → ((s : St) → final (remove_pages G t ps s) ≡ end Done (onto s (gone_pages t ps s.img)))
          → final (pick b (remove_pages G t ps s) (remove_entries t (items_of G s.img p) s (remove_pages G t ps)))
          ≡ end Done (onto s (gone_pages t ps (pick b s.img (gone_entries t (items_of G s.img p) s.img))))
      go true ih = ih s
      go false ih = entries-end t (items_of G s.img p) s (remove_pages G t ps) ∙ ih (onto s (gone_entries t (items_of G s.img p) s.img))

  -- ---- erase all

  abbrev pub erased_img : List ℕ → List ℕ → List ℕ
  erased_img [] img = img
  erased_img (q ∷ qs) img = erased_img qs (erase G.page img q)

  pub erase-end : (qs img : List ℕ) (ca : Cache) (er : ℕ)
      → final (erase_pages G qs (record { img = img; cache = ca; erased = er })) ≡ end Done (record { img = erased_img qs img; cache = ca; erased = er + length qs })
  unfolding erase_pages
  erase-end [] img ca er =
      let z : er ≡ er + 0 = omega arith in ap (λ (x : ℕ). end Done (record { img = img; cache = ca; erased = x })) z
  erase-end (q ∷ qs) img ca er =
      let z : er + 1 + length qs ≡ er + suc (length qs) = omega arith in
      erase-end qs (erase G.page img q) ca (er + 1) ∙ ap (λ (x : ℕ). end Done (record { img = erased_img qs (erase G.page img q); cache = ca; erased = x })) z
