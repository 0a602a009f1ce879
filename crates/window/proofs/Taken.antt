-- Select on the walk: what is counted and written is what select gives below the key where the walk stands. Rests on Below.
use Prim.Native.Nat.{ℕ, ◌+◌, ◌^◌, ◌≤◌}
use mathlib.Core.Path.{◌≡◌, sym, ◌∙◌, ap, ap₂}
use mathlib.Core.Bool.{true}
use mathlib.Core.List.{List}
use native.Mathlib.Omega.{arith}
use lib.ListN.{length, length-append}
use Rattle.definitions.specs.Picture.{Picture}
use Rattle.definitions.specs.Window.{select_in}
use Rattle.definitions.specs.declared.Window.{Window}
use Rattle.definitions.specs.Edit.{content_of}
use Rattle.walk.specs.declared.Spot.{Spot}
use Rattle.walk.specs.Walk.{Walking, is_within}
use Rattle.walk.specs.Given.{keys_with, written, lower}
use Rattle.window.specs.Gather.{Gave, GaveFrom}
use Rattle.walk.proofs.Written.{written_none, written-append, length-written}
use Rattle.walk.proofs.Below.{lower_block, below_none, below_all, below_few}

module _ (m : ℕ) (p : Picture) (w : Window) (f : ℕ) where
  -- what is counted and written below a key
  pub record Taken (limit : ℕ) (answer₀ answer : List ℕ) (count x : ℕ) : Type 0 where
    pub counted : count ≡ length (lower x (select_in m p w f))
    pub wrote : answer ≡ written limit answer₀ 0 (lower x (select_in m p w f))

  pub taken_none : (limit : ℕ) (answer : List ℕ) (x : ℕ) → x ≡ 0 → Taken limit answer answer 0 x
  taken_none limit answer x e =
      let none = below_none m p w f x e in
      record { counted = sym (ap length none); wrote = sym (ap (written limit answer 0) none ∙ written_none limit answer 0) }

  module _ {limit : ℕ} {answer₀ answer : List ℕ} {count x : ℕ} (t : Taken limit answer₀ answer count x) where
    -- the count is small
    pub taken_small : m ≤ 10 → count ≤ 9765625
    taken_small low =
        let few = below_few m p w f x low in
        omega (arith, t.counted)

    -- at the end all is taken
    pub taken_end : x ≡ 5 ^ m → Gave (select_in m p w f) limit 0 answer₀ answer count
    taken_end e =
        let all = below_all m p w f x e in
        record { counted = let n = ap length all in omega (arith, t.counted); wrote = t.wrote ∙ ap (written limit answer₀ 0) all }

    -- the answer keeps its length
    pub taken-length : length answer ≡ length answer₀
    taken-length = ap length t.wrote ∙ length-written limit answer₀ 0 _

    -- what is taken, by other names
    pub taken_named : (answer₁ : List ℕ) (count₁ : ℕ) → answer₁ ≡ answer → count₁ ≡ count → Taken limit answer₀ answer₁ count₁ x
    taken_named answer₁ count₁ e h = record { counted = h ∙ t.counted; wrote = e ∙ t.wrote }

    -- what adds nothing is passed
    pub taken_pass : (y : ℕ) → lower x (select_in m p w f) ≡ lower y (select_in m p w f) → Taken limit answer₀ answer count y
    taken_pass y e = record { counted = t.counted ∙ ap length e; wrote = t.wrote ∙ ap (written limit answer₀ 0) e }

  -- what was given adds itself
  pub taken_more : {limit : ℕ} {answer₀ answer : List ℕ} {count x y : ℕ} → Taken limit answer₀ answer count x → (answer₁ : List ℕ) (r : ℕ)
      → GaveFrom m p w f x y limit count answer answer₁ r
      → Taken limit answer₀ answer₁ r y
  taken_more {limit} {answer₀} {x = x} t answer₁ r g =
      let l = lower x (select_in m p w f) in
      record {
        counted = let n = ap length g.adds in let a = length-append l g.more in omega (arith, t.counted, g.gave.counted);
        wrote = g.gave.wrote
            ∙ ap₂ (λ a i. written limit a i g.more) t.wrote (t.counted ∙ omega arith)
            ∙ sym (written-append limit answer₀ 0 l g.more)
            ∙ ap (written limit answer₀ 0) (sym g.adds);
      }

  -- a largest block adds what it gives
  pub taken_block : {limit : ℕ} {answer₀ answer : List ℕ} {count : ℕ} {s : Spot} → Walking m w s → is_within s w ≡ true
      → Taken limit answer₀ answer count s.key → (answer₁ : List ℕ) (r : ℕ)
      → Gave (keys_with (2 ^ f) (content_of m p s.key)) limit count answer answer₁ r
      → Taken limit answer₀ answer₁ r (s.key + s.step)
  taken_block {s = s} h e t answer₁ r gave =
      taken_more t answer₁ r (record { more = keys_with (2 ^ f) (content_of m p s.key); adds = lower_block m p w f h e; gave = gave })
