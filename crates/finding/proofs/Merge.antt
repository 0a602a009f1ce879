-- Sifting given keys against a rule's waivers: none, one, and two runs one after the other. Rests on Settling.
use Prim.Native.Nat.{ℕ, ◌+◌, ◌≤◌}
use mathlib.Core.Path.{◌≡◌, refl, sym, ap, ap₂, ◌∙◌, subst}
use mathlib.Core.Bool.{true, false}
use mathlib.Core.List.{List, [], ◌∷◌, ◌++◌, map}
use native.Mathlib.Omega.{arith}
use lib.ListN.{length, length-append, length-map}
use Rattle.keys.proofs.Cases.{decide}
use Rattle.definitions.specs.Covered.{is_covered}
use Rattle.walk.specs.Given.{written_at, written}
use Rattle.walk.proofs.Written.{written_none, written_one_key, written-append, length-written}
use Rattle.finding.specs.declared.Sifting.{Sifting}
use Rattle.finding.specs.Covering.{WaiversPassed}
use Rattle.finding.specs.Sift.{not_waived, SiftReady, FindingsCounted, Sifted}
use Rattle.finding.proofs.Settling.{passed_widen}

-- ---- the keys that are not waived
pub not_waived_nil : (m : ℕ) (waived : List ℕ) → not_waived m waived [] ≡ []
unfolding not_waived
not_waived_nil m waived = refl

pub waived_out : (m : ℕ) (waived : List ℕ) (key : ℕ) (given : List ℕ) → is_covered m waived key ≡ true → not_waived m waived (key ∷ given) ≡ not_waived m waived given
unfolding not_waived
waived_out m waived key given e = rw e

pub waived_in : (m : ℕ) (waived : List ℕ) (key : ℕ) (given : List ℕ) → is_covered m waived key ≡ false → not_waived m waived (key ∷ given) ≡ key ∷ not_waived m waived given
unfolding not_waived
waived_in m waived key given e = rw e

pub not_waived-append : (m : ℕ) (waived a b : List ℕ) → not_waived m waived (a ++ b) ≡ not_waived m waived a ++ not_waived m waived b
not_waived-append m waived [] b = ap (λ l. l ++ not_waived m waived b) (sym (not_waived_nil m waived))
not_waived-append m waived (key ∷ a) b =
    decide (is_covered m waived key)
    (λ e. waived_out m waived key (a ++ b) e ∙ not_waived-append m waived a b ∙ ap (λ l. l ++ not_waived m waived b) (sym (waived_out m waived key a e)))
    (λ e. waived_in m waived key (a ++ b) e ∙ ap (λ l. key ∷ l) (not_waived-append m waived a b) ∙ ap (λ l. l ++ not_waived m waived b) (sym (waived_in m waived key a e)))

-- ---- what is counted and written
module _ (m limit id : ℕ) (waived : List ℕ) where
  abbrev same : List ℕ → List ℕ
  same l = map (λ (key : ℕ). id) l

  -- nothing is given
  pub counted_none : (given : List ℕ) (at : Sifting) (ids keys : List ℕ) → given ≡ [] → FindingsCounted m limit id waived given at at ids ids keys keys
  counted_none given at ids keys e =
      let none : not_waived m waived given ≡ [] = ap (not_waived m waived) e ∙ not_waived_nil m waived in
      record {
        live = let f = ap length none in omega arith;
        hidden = let f = ap length none in let g = ap length e in omega arith;
        wrote_ids = sym (ap (λ l. written limit ids at.live (same l)) none ∙ written_none limit ids at.live);
        wrote_keys = sym (ap (written limit keys at.live) none ∙ written_none limit keys at.live);
      }

  -- one key that is waived
  pub counted_hidden : (key : ℕ) (at r : Sifting) (ids keys : List ℕ) → is_covered m waived key ≡ true → r.live ≡ at.live → r.hidden ≡ at.hidden + 1
      → FindingsCounted m limit id waived (key ∷ []) at r ids ids keys keys
  counted_hidden key at r ids keys e l h =
      let none : not_waived m waived (key ∷ []) ≡ [] = waived_out m waived key [] e ∙ not_waived_nil m waived in
      record {
        live = let f = ap length none in omega arith;
        hidden = let f = ap length none in omega arith;
        wrote_ids = sym (ap (λ l. written limit ids at.live (same l)) none ∙ written_none limit ids at.live);
        wrote_keys = sym (ap (written limit keys at.live) none ∙ written_none limit keys at.live);
      }

  written_single : (answer : List ℕ) (place number : ℕ) → written_at limit answer place number ≡ written limit answer place (number ∷ [])
  written_single answer place number = sym (written_one_key limit answer place number [] ∙ written_none limit _ _)

  -- one that is not
  pub counted_live : (key : ℕ) (at r : Sifting) (ids ids' keys keys' : List ℕ) → is_covered m waived key ≡ false → r.live ≡ at.live + 1 → r.hidden ≡ at.hidden
      → ids' ≡ written_at limit ids at.live id
      → keys' ≡ written_at limit keys at.live key
      → FindingsCounted m limit id waived (key ∷ []) at r ids ids' keys keys'
  counted_live key at r ids ids' keys keys' e l h f g =
      let one : not_waived m waived (key ∷ []) ≡ key ∷ [] = waived_in m waived key [] e ∙ ap (λ l. key ∷ l) (not_waived_nil m waived) in
      record {
        live = let f = ap length one in omega arith;
        hidden = let f = ap length one in omega arith;
        wrote_ids = f ∙ written_single ids at.live id ∙ ap (λ l. written limit ids at.live (same l)) (sym one);
        wrote_keys = g ∙ written_single keys at.live key ∙ ap (written limit keys at.live) (sym one);
      }

  same-append : (a b : List ℕ) → same (a ++ b) ≡ same a ++ same b
  same-append [] b = refl
  same-append (x ∷ a) b = ap (λ l. id ∷ l) (same-append a b)

  -- two runs, one after the other
  pub counted-append : (a b : List ℕ) (at r₁ r₂ : Sifting) (ids ids₁ ids₂ keys keys₁ keys₂ : List ℕ)
      → FindingsCounted m limit id waived a at r₁ ids ids₁ keys keys₁
      → FindingsCounted m limit id waived b r₁ r₂ ids₁ ids₂ keys₁ keys₂
      → FindingsCounted m limit id waived (a ++ b) at r₂ ids ids₂ keys keys₂
  counted-append a b at r₁ r₂ ids ids₁ ids₂ keys keys₁ keys₂ f g =
      let na = not_waived m waived a in
      let nb = not_waived m waived b in
      let both = not_waived-append m waived a b in
      let size = ap length both ∙ length-append na nb in
      let all = length-append a b in
      record {
        live = let x = f.live in let y = g.live in omega arith;
        hidden = let x = f.hidden in let y = g.hidden in omega arith;
        wrote_ids = g.wrote_ids
            ∙ ap₂ (λ (l : List ℕ) (k : ℕ). written limit l k (same nb)) f.wrote_ids (f.live ∙ ap (λ k. at.live + k) (sym (length-map na (λ (key : ℕ). id))))
            ∙ sym (written-append limit ids at.live (same na) (same nb))
            ∙ ap (written limit ids at.live) (sym (same-append na nb) ∙ ap same (sym both));
        wrote_keys = g.wrote_keys
            ∙ ap₂ (λ (l : List ℕ) (k : ℕ). written limit l k nb) f.wrote_keys f.live
            ∙ sym (written-append limit keys at.live na nb)
            ∙ ap (written limit keys at.live) (sym both);
      }

  -- the slices keep their lengths
  module _ {given : List ℕ} {at r : Sifting} {ids ids' keys keys' : List ℕ} (c : FindingsCounted m limit id waived given at r ids ids' keys keys') where
    pub counted_ids : length ids' ≡ length ids
    counted_ids = ap length c.wrote_ids ∙ length-written limit ids at.live _

    pub counted_keys : length keys' ≡ length keys
    counted_keys = ap length c.wrote_keys ∙ length-written limit keys at.live _

    -- and the counts rise by as many as were given
    pub counted_sum : r.live + r.hidden ≡ at.live + at.hidden + length given
    counted_sum = let x = c.live in let y = c.hidden in omega arith

    -- so sifting may go on, with a larger bound
    pub still_ready : {most x : ℕ} (more y : ℕ) → SiftReady m limit waived at ids keys most x → WaiversPassed m waived r.passed r.furthest y → most + length given ≤ more
        → SiftReady m limit waived r ids' keys' more y
    still_ready more y s passed h =
        record {
          limit_ids = let a = counted_ids in omega (arith, s.limit_ids);
          limit_keys = let a = counted_keys in omega (arith, s.limit_keys);
          counts = let a = counted_sum in omega (arith, s.counts);
          waivers = s.waivers;
          passed = passed;
        }

-- what was sifted so far, and then one run more
pub sifted-append : (m limit id : ℕ) (waived a b : List ℕ) (at r₁ r₂ : Sifting) (ids ids₁ ids₂ keys keys₁ keys₂ : List ℕ) (x y : ℕ)
    → Sifted m limit id waived a at r₁ ids ids₁ keys keys₁ x
    → Sifted m limit id waived b r₁ r₂ ids₁ ids₂ keys₁ keys₂ y
    → Sifted m limit id waived (a ++ b) at r₂ ids ids₂ keys keys₂ y
sifted-append m limit id waived a b at r₁ r₂ ids ids₁ ids₂ keys keys₁ keys₂ x y f g =
    record { counted = counted-append m limit id waived a b at r₁ r₂ ids ids₁ ids₂ keys keys₁ keys₂ f.counted g.counted; passed = g.passed }

-- nothing was sifted, and the waivers passed stay
pub sifted_none : (m limit id : ℕ) (waived given : List ℕ) (at : Sifting) (ids keys : List ℕ) (x : ℕ) → given ≡ [] → WaiversPassed m waived at.passed at.furthest x
    → Sifted m limit id waived given at at ids ids keys keys x
sifted_none m limit id waived given at ids keys x e passed = record { counted = counted_none m limit id waived given at ids keys e; passed = passed }

-- the same keys by another name, and a larger bound
pub sifted_as : (m limit id : ℕ) (waived a b : List ℕ) (at r : Sifting) (ids ids₁ keys keys₁ : List ℕ) (x y : ℕ)
    → Sifted m limit id waived a at r ids ids₁ keys keys₁ x
    → a ≡ b
    → x ≤ y
    → Sifted m limit id waived b at r ids ids₁ keys keys₁ y
sifted_as m limit id waived a b at r ids ids₁ keys keys₁ x y f e h =
    record {
      counted = subst (λ (l : List ℕ). FindingsCounted m limit id waived l at r ids ids₁ keys keys₁) e f.counted;
      passed = passed_widen y f.passed h;
    }
