-- The fetch, as the code tells it.
use mathlib.Core.Path.{◌≡◌, refl, sym, ◌∙◌}
use Prim.Native.Nat.{ℕ, ◌≤◌, ◌<◌}
use native.Mathlib.Omega.{arith}
use native.Mathlib.Nat.{mul-le-mul_right}
use borrow.Author.Tests.{ne_eqb, eq-eqb}
use Rattle.std.specs.Prelude.{None, Some, Ok}
use Rattle.rules.specs.declared.{Geo.Geo}
use Rattle.rules.specs.Held.{Held}
use Rattle.rules.specs.Cache.{lookup}
use Rattle.rules.specs.Runs.{St, cleared}
use Rattle.rules.specs.Fetch.{Found, corrupt, missing, found, on_hit, full_fetch, fetch_in, hit}
use Rattle.items.specs.declared.{Spot.Spot}
use Rattle.items.specs.Code.{told}
use Rattle.cache.specs.declared.{Cache.Cache}
use Rattle.cache.specs.Code.{Past}
use Rattle.ring.specs.declared.{flash.Flash.Flash}
use Rattle.ring.specs.Flash.{IsSame}
use Rattle.fetch.specs.declared.storage.Storage.{Storage}
use Rattle.fetch.specs.Code.{Keeps}

pub past_refl : (n : ℕ) (c : Cache) → Past n c c
past_refl n c = record { keys_past = refl; places_past = refl }

pub past_trans : (n : ℕ) (c d e : Cache) → Past n c d → Past n d e → Past n c e
past_trans n c d e p q = record { keys_past = q.keys_past ∙ p.keys_past; places_past = q.places_past ∙ p.places_past }

pub same_refl : (f : Flash) → IsSame f f
same_refl f = record { image = refl; geo = refl }

pub same_trans : (f g h : Flash) → IsSame f g → IsSame g h → IsSame f h
same_trans f g h p q = record { image = q.image ∙ p.image; geo = q.geo ∙ p.geo }

pub keeps_refl : (s : Storage) → Keeps s s
keeps_refl s = record { lent = refl; same = same_refl s.flash.now; slots = refl; past = past_refl s.slots.count s.cache }

pub keeps_trans : (s t u : Storage) → Keeps s t → Keeps t u → Keeps s u
keeps_trans s t u p q =
    let q' = rw p.slots at q.past in
    record {
      lent = q.lent ∙ p.lent;
      same = same_trans s.flash.now t.flash.now u.flash.now p.same q.same;
      slots = q.slots ∙ p.slots;
      past = past_trans s.slots.count s.cache t.cache u.cache p.past q';
    }

-- places are numbers of 32 bits
pub held_len : (G : Geo) (len : ℕ) → Held G len → len ≤ 8388608
held_len G len h = omega (arith, mul-le-mul_right G.page h.few)

module _ (G : Geo) (k : ℕ) (s : St) where
  -- nothing is cached
  pub fetch-none : lookup k s.cache ≡ 0 → fetch_in G k s ≡ full_fetch G k s
  unfolding fetch_in
  fetch-none h = rw (eq-eqb _ _ h)

  module _ (p : ℕ) (lt : 0 < p) (h : p ≡ lookup k s.cache) where
    used : lookup k s.cache ≡ 0 → ⊥
    used z = omega arith

    -- the cached place holds no such item: the cache is emptied, and the search runs
    pub fetch-miss : (G' : Geo) (s' : St) → G' ≡ G → s' ≡ cleared s → Ok None ≡ told (hit G s.img k p)
        → full_fetch G' k s' ≡ fetch_in G k s
    unfolding fetch_in
    fetch-miss G' s' hg hs q = rw (ne_eqb _ _ used, ← h, hg, hs) (go (hit G s.img k p) q)
      where
        go : (x : Found) → Ok None ≡ told x → full_fetch G k (cleared s) ≡ on_hit G k s x
        go corrupt q = refl
        go missing q = refl
        go (found e) q = cc

    -- it does
    pub fetch-hit : (spot : Spot) → Ok (Some spot) ≡ told (hit G s.img k p)
        → (told (fetch_in G k s).res ≡ Ok (Some spot)) × ((fetch_in G k s).st ≡ s)
    unfolding fetch_in
    fetch-hit spot q = rw (ne_eqb _ _ used, ← h) (go (hit G s.img k p) q)
      where
        go : (x : Found) → Ok (Some spot) ≡ told x → (told (on_hit G k s x).res ≡ Ok (Some spot)) × ((on_hit G k s x).st ≡ s)
        go corrupt q = cc
        go missing q = cc
        go (found e) q = (sym q, refl)
