-- What the listing program prints, case by case, as its code finds it: a refusal of its own, one of build's, or the listing. Rests on First.
use Prim.Native.Nat.{ℕ, ◌≤◌, ◌<◌}
use mathlib.Core.Path.{◌≡◌, refl, sym, ap, ◌∙◌}
use mathlib.Core.Bool.{Bool, true, false, not}
use mathlib.Core.List.{List, [], ◌∷◌}
use native.Mathlib.Omega.{arith}
use lib.Dec.{ltb, eqb}
use lib.ListN.{length}
use borrow.Author.Tests.{lt-ltb, le-ltb, ltb-false, eq-eqb, ne_eqb}
use Rattle.keys.specs.Key.{deepest_level, slot_limit}
use Rattle.keys.proofs.Cases.{decide, split, equal, or_right}
use Rattle.definitions.specs.List.{list_of_raster}
use Rattle.definitions.specs.Read.{room}
use Rattle.definitions.specs.Refusal.{◌gives◌, first, bad_settings, bad_length, bad_pixel}
use Rattle.definitions.specs.Calls.Build.{build_refusal}
use Rattle.laws.proofs.First.{first_this, first_later, first_end, first_none, accepted_done, accepted_left}
use Rattle.definitions.specs.Listing.{largest_resolution, m_of, s_of, build_refuses, listing_refusal, list_in, listing, refusal_line, listed, listed_keys, listed_bits}

module _ (input : List ℕ) where
  -- fewer than two bytes
  pub refused_short : length input < 2 → listing_refusal input ≡ 1
  unfolding listing_refusal
  refused_short h = first_this _ _ (lt-ltb (length input) 2 h)

  -- m above 5
  pub refused_large : 2 ≤ length input → largest_resolution < m_of input → listing_refusal input ≡ 1
  unfolding listing_refusal
  refused_large h large = first_later _ _ (le-ltb (length input) 2 h) ∙ first_this _ _ (lt-ltb largest_resolution (m_of input) large)

  -- else what build refuses
  pub refused_build : 2 ≤ length input → m_of input ≤ largest_resolution → listing_refusal input ≡ build_refuses input
  unfolding listing_refusal
  refused_build h small =
      first_later _ _ (le-ltb (length input) 2 h)
      ∙ first_later _ _ (le-ltb largest_resolution (m_of input) small)
      ∙ equal (build_refuses input) 0
      (λ none. first_later _ _ (ap not (eq-eqb (build_refuses input) 0 none)) ∙ first_end ∙ sym none)
      (λ some. first_this _ _ (ap not (ne_eqb (build_refuses input) 0 some)))

  -- a refused input prints its number, and leaves the slices
  module _ (k : ℕ) (e : listing_refusal input ≡ k) (not-zero : k ≡ 0 → ⊥) where
    pub prints_refusal : listed input ≡ refusal_line k
    unfolding listed
    prints_refusal = accepted_left _ _ (λ z. not-zero (sym e ∙ z)) ∙ ap refusal_line e

    pub keys_stay : (keys : List ℕ) → keys ≡ listed_keys input keys
    unfolding listed_keys
    keys_stay keys = sym (accepted_left _ _ (λ z. not-zero (sym e ∙ z)))

    pub bits_stay : (bits : List ℕ) → bits ≡ listed_bits input bits
    unfolding listed_bits
    bits_stay bits = sym (accepted_left _ _ (λ z. not-zero (sym e ∙ z)))

  -- an accepted one prints its listing
  pub prints_listing : listing_refusal input ≡ 0 → listed input ≡ listing (m_of input) (s_of input) (list_in input)
  unfolding listed
  prints_listing e = accepted_done _ _ e

-- what build refuses depends on the slices by their room alone
pub build_room : (m s : ℕ) (raster keys bits keys' bits' : List ℕ) → room keys bits ≡ room keys' bits'
    → build_refusal m s raster keys bits ≡ build_refusal m s raster keys' bits'
unfolding build_refusal
build_room m s raster keys bits keys' bits' e =
    ap (λ (r : ℕ).
    first
    (bad_settings m s gives 1
    ∷ bad_length m raster gives 2
    ∷ bad_pixel s raster gives 3
    ∷ ltb r (length (list_of_raster m raster)) gives 9
    ∷ [])) e

-- build's numbers have one digit
pub build_digit : (m s : ℕ) (raster keys bits : List ℕ) → build_refusal m s raster keys bits < 10
unfolding build_refusal first
build_digit m s raster keys bits =
    decide (bad_settings m s) (λ e. rw e (omega arith))
    (λ e.
    rw e
    (decide (bad_length m raster) (λ f. rw f (omega arith))
    (λ f.
    rw f
    (decide (bad_pixel s raster) (λ g. rw g (omega arith))
    (λ g. rw g (decide (ltb (room keys bits) (length (list_of_raster m raster))) (λ h. rw h (omega arith)) (λ h. rw h (omega arith))))))))

-- what an accepted build says of its settings and of its list
pub record AcceptedBuild (m s : ℕ) (raster keys bits : List ℕ) : Type 0 where
  pub slots : s ≤ slot_limit
  pub fits : length (list_of_raster m raster) ≤ room keys bits

pub build_accepted : (m s : ℕ) (raster keys bits : List ℕ) → build_refusal m s raster keys bits ≡ 0 → AcceptedBuild m s raster keys bits
unfolding build_refusal bad_settings
build_accepted m s raster keys bits e =
    let rows = first_none
    (bad_settings m s gives 1
    ∷ bad_length m raster gives 2
    ∷ bad_pixel s raster gives 3
    ∷ ltb (room keys bits) (length (list_of_raster m raster)) gives 9
    ∷ [])
    refl
    e in
    record {
      slots = split slot_limit s (λ h. absurd (clash (or_right (ltb deepest_level m) _ (or_right (eqb s 0) _ (lt-ltb slot_limit s h))) rows.0)) (λ h. h);
      fits = ltb-false (room keys bits) (length (list_of_raster m raster)) rows.1.1.1.0;
    }
  where
    clash : {b : Bool} → b ≡ true → b ≡ false → ⊥
    clash p q = let z : ◌≡◌ {A = ℕ} 0 1 = cc in omega arith
