-- The walk over the bitstrings of a node's four quadrants: what is left of them at each turn, that each shows its quadrant, and one turn more. Rests
-- on Shown.
use Prim.Native.Nat.{ℕ, zero, suc, ◌+◌, ◌^◌, ◌<◌}
use mathlib.Core.Path.{◌≡◌, refl, sym, ◌∙◌, ap}
use mathlib.Core.Bool.{false}
use mathlib.Core.List.{List, [], ◌∷◌, ◌++◌, append-nil}
use native.Mathlib.Numerals.{add-one}
use native.Mathlib.Omega.{arith}
use lib.ListN.{length, drop, length-append, length-map}
use lib.Seq.{drop-drop, drop_at}
use Rattle.keys.specs.Key.{child_key}
use Rattle.definitions.specs.Picture.{Picture, one_feature}
use Rattle.definitions.specs.Bits.{bits_of}
use Rattle.definitions.specs.List.{Record, record_of, values_of, list_of}
use Rattle.laws.proofs.ListOf.{list_node}
use Rattle.list.specs.Quadrants.{quadrant_row, quadrant_column}
use Rattle.list.specs.Shown.{ShownAt}
use Rattle.list.proofs.Shown.{two_values}

-- the list of a quadrant, and those of the quadrants from one on, so many as are left
abbrev pub quadrant_list : Picture → ℕ → ℕ → ℕ → ℕ → ℕ → List Record
quadrant_list p k r c κ d = list_of p k (quadrant_row d r (2 ^ k)) (quadrant_column d c (2 ^ k)) (child_key κ k (suc d))

unfoldable pub lists_from : Picture → ℕ → ℕ → ℕ → ℕ → ℕ → ℕ → List Record
lists_from p k r c κ d zero = []
lists_from p k r c κ d (suc left) = quadrant_list p k r c κ d ++ lists_from p k r c κ (suc d) left

last_nil : (e : Record) (a b c d : List Record) → e ∷ (a ++ (b ++ (c ++ d))) ≡ e ∷ (a ++ (b ++ (c ++ (d ++ []))))
last_nil e a b c d = sym (simp append-nil)

-- all four are the node's own
pub lists_all : (p : Picture) (k r c κ : ℕ) → one_feature p (suc k) r c ≡ false → list_of p (suc k) r c κ ≡ record_of κ (bits_of p (suc k) r c) ∷ lists_from p k r c κ 0 4
unfolding lists_from quadrant_row quadrant_column
lists_all p k r c κ several = list_node p k r c κ several ∙ last_nil _
    (list_of p k r c (child_key κ k 1))
    (list_of p k r (c + 2 ^ k) (child_key κ k 2))
    (list_of p k (r + 2 ^ k) c (child_key κ k 3))
    (list_of p k (r + 2 ^ k) (c + 2 ^ k) (child_key κ k 4))

-- after d turns the quadrants that are left follow in the bitstrings, from place `next` on
pub record Left (p : Picture) (k r c κ : ℕ) (bits : List ℕ) (at next d : ℕ) : Type 0 where
  pub left : ℕ
  pub count : d + left ≡ 4
  pub rest : List ℕ
  pub values : drop next bits ≡ values_of (lists_from p k r c κ d left) ++ rest
  pub ends : next + length (lists_from p k r c κ d left) ≡ at + length (list_of p (suc k) r c κ)

-- the next quadrant is shown, and after its records one less is left
record Opened (p : Picture) (k r c κ : ℕ) (bits : List ℕ) (at next d : ℕ) : Type 0 where
  shown : ShownAt p k (quadrant_row d r (2 ^ k)) (quadrant_column d c (2 ^ k)) (child_key κ k (suc d)) bits next
  then : (next' : ℕ) → next' ≡ next + length (quadrant_list p k r c κ d) → Left p k r c κ bits at next' (d + 1)

module _ (p : Picture) (k r c κ : ℕ) (bits : List ℕ) (at next d : ℕ) where
  opened : (left : ℕ) (rest : List ℕ)
      → d + left ≡ 4
      → d < 4
      → drop next bits ≡ values_of (lists_from p k r c κ d left) ++ rest
      → next + length (lists_from p k r c κ d left) ≡ at + length (list_of p (suc k) r c κ)
      → Opened p k r c κ bits at next d
  unfolding lists_from
  opened zero rest count h values ends = absurd (omega arith)
  opened (suc left) rest count h values ends =
      let first = quadrant_list p k r c κ d in
      let others = lists_from p k r c κ (suc d) left in
      let follow = values ∙ two_values first others rest in
      let lengths = length-append first others in
      record {
        shown = record { rest = values_of others ++ rest; values = follow };
        then = λ next' e.
            rw (add-one d)
            (record {
              left = left;
              count = omega arith;
              rest = rest;
              values = ap (λ i. drop i bits) e ∙ sym (drop-drop (length first) next bits) ∙ ap (drop (length first)) follow
                  ∙ drop_at (values_of first) _ _ (length-map first (λ x. x.value));
              ends = omega arith;
            });
      }

  none_left : (left : ℕ) → d + left ≡ 4 → d ≡ 4 → next + length (lists_from p k r c κ d left) ≡ at + length (list_of p (suc k) r c κ) → next ≡ at + length (list_of p (suc k) r c κ)
  unfolding lists_from
  none_left zero count h ends = omega arith
  none_left (suc left) count h ends = absurd (omega arith)

module _ {p : Picture} {k r c κ : ℕ} {bits : List ℕ} {at : ℕ} where
  -- at first all four follow the node's own record
  pub left_all : ShownAt p (suc k) r c κ bits at → one_feature p (suc k) r c ≡ false → Left p k r c κ bits at (at + 1) 0
  left_all s several =
      let all = lists_all p k r c κ several in
      let e = ap length all in
      record {
        left = 4;
        count = refl;
        rest = s.rest;
        values = sym (drop-drop 1 at bits) ∙ ap (drop 1) (s.values ∙ ap (λ l. values_of l ++ s.rest) all);
        ends = omega arith;
      }

  module _ {next d : ℕ} (x : Left p k r c κ bits at next d) where
    next_opened : d < 4 → Opened p k r c κ bits at next d
    next_opened h = opened p k r c κ bits at next d x.left x.rest x.count h x.values x.ends

    -- the bitstrings go on with the next quadrant
    pub left_shown : d < 4 → ShownAt p k (quadrant_row d r (2 ^ k)) (quadrant_column d c (2 ^ k)) (child_key κ k (suc d)) bits next
    left_shown h = (next_opened h).shown

    -- after its records one less is left
    pub left_then : d < 4 → (next' : ℕ) → next' ≡ next + length (quadrant_list p k r c κ d) → Left p k r c κ bits at next' (d + 1)
    left_then h = (next_opened h).then

    -- after four turns the node's records are passed
    pub left_none : d ≡ 4 → next ≡ at + length (list_of p (suc k) r c κ)
    left_none h = none_left p k r c κ bits at next d x.left x.count h x.ends
