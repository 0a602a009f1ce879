-- The loop of the check over a node's children, in plain numbers and lists: what has been passed before each turn, how a turn begins, goes wrong,
-- goes on, and what the end answers. Rests on Children and Places.
use Prim.Native.Nat.{ℕ, zero, suc, ◌+◌, ◌-◌, ◌*◌, ◌/◌, ◌^◌, ◌≤◌, ◌<◌}
use mathlib.Core.Path.{◌≡◌, refl, sym, ◌∙◌, ap}
use mathlib.Core.Bool.{true, false, cond}
use mathlib.Core.List.{List, ◌∷◌}
use native.Mathlib.Nat.{mul-le-mul_right, mul-div_cancel, pow-suc}
use native.Mathlib.Omega.{arith}
use lib.Dec.{eqb, lit<}
use lib.Bits.{bit_or}
use lib.ListN.{length, get_or, drop}
use borrow.Author.Tests.{eq-eqb, ne_eqb}
use Rattle.keys.proofs.Cases.{split}
use Rattle.keys.proofs.Powers.{five_pos, five_le}
use Rattle.definitions.specs.List.{Record, record_of}
use Rattle.definitions.specs.Read.{paired}
use Rattle.laws.proofs.Records.{paired-length}
use Rattle.list.specs.Check.{one_slot, Outcome, wrong, left, rest_place, after_own, after_children, after_node, step_under}
use Rattle.list.proofs.Children.{own_leaf, own_node, node_zero, node_suc, children_none, children_from, children_short, children_other, children_wrong}
use Rattle.list.proofs.Places.{record_at, records_end, place_of_rest, told}

-- the step under a block tells its height
five_less : (k j : ℕ) → k < j → 5 ^ k ≡ 5 ^ j → ⊥
five_less k j h e =
    let a = five_le {k = suc k} j (omega arith) in
    let b = pow-suc 5 k in
    let c = five_pos k in
    omega arith

step_same : (k j : ℕ) → step_under k ≡ step_under j → k ≡ j
unfolding step_under
step_same zero zero e = refl
step_same zero (suc j) e = absurd (let p = five_pos j in omega arith)
step_same (suc k) zero e = absurd (let p = five_pos k in omega arith)
step_same (suc k) (suc j) e = split k j (λ h. absurd (five_less k j h e)) (λ h. split j k (λ g. absurd (five_less j k g (sym e))) (λ g. omega arith))

-- 1 is the step under a block of height 1, 5 under one of height 2, and other steps below 25 are a pixel's
pub step_one : 1 ≡ step_under 1
unfolding step_under
step_one = refl

pub step_five : 5 ≡ step_under 2
unfolding step_under
step_five = refl

step_low : (k step : ℕ) → step ≡ step_under k → step < 25 → (step ≡ 5 → ⊥) → (step ≡ 1 → ⊥) → k ≡ 0
unfolding step_under
step_low zero step e h five one = refl
step_low (suc zero) step e h five one = absurd (one e)
step_low (suc (suc zero)) step e h five one = absurd (five e)
step_low (suc (suc (suc k))) step e h five one = absurd (let p = five_le {k = 2} (suc (suc k)) (omega arith) in omega arith)

-- a step that is not 0 is the power of five of the children
step_some {ℓ} : (C : ℕ → Type ℓ) (k step : ℕ) → step ≡ step_under k → (step ≡ 0 → ⊥) → ((j : ℕ) → step ≡ 5 ^ j → C (suc j)) → C k
unfolding step_under
step_some C zero step e pos f = absurd (pos e)
step_some C (suc k) step e pos f = f k e

-- it is a fifth of the block's own power of five
pub step_fifth : (k : ℕ) → 5 ^ k / 5 ≡ step_under k
unfolding step_under
step_fifth zero = refl
step_fifth (suc k) = ap (λ x. x / 5) (pow-suc 5 k) ∙ mul-div_cancel (5 ^ k) (lit< tt)

pub step_down : (j step : ℕ) → step ≡ 5 ^ j → step / 5 ≡ step_under j
step_down j step e = ap (λ x. x / 5) e ∙ step_fifth j

-- what the function answers
abbrev pub Answer : List ℕ → List ℕ → ℕ → ℕ → ℕ → ℕ → ℕ → Type 0
Answer K B first key own step r = (k : ℕ) → step ≡ step_under k → r ≡ rest_place (length K) (after_node k key own (drop first (paired K B)))

-- an answer at one height is the answer for that height's step
pub at_height : (K B : List ℕ) (first key own k step r : ℕ) → step ≡ step_under k
    → r ≡ rest_place (length K) (after_node k key own (drop first (paired K B)))
    → Answer K B first key own step r
at_height K B first key own k step r e h j f = h ∙ ap (λ x. rest_place (length K) (after_node x key own (drop first (paired K B)))) (step_same k j (sym e ∙ f))

-- before the turn of a digit: the children before it have passed, and the others decide
pub record TurnPassed (K B : List ℕ) (first key own step next union digit : ℕ) : Type 0 where
  pub size : length K ≡ length B
  pub positive : step ≡ 0 → ⊥
  pub fits : key + 5 * step < 2 ^ 32
  pub from : 1 ≤ digit
  pub until : digit ≤ 5
  pub within : next ≤ length K
  pub same : (j : ℕ) → step ≡ 5 ^ j
      → after_node (suc j) key own (drop first (paired K B)) ≡ after_children (after_node j) key step own (5 - digit) union (drop next (paired K B))

-- a pixel has no children
pub pixel : (K B : List ℕ) (first key own step : ℕ) → step < 25 → (step ≡ 5 → ⊥) → (step ≡ 1 → ⊥) → Answer K B first key own step 0
unfolding rest_place
pixel K B first key own step low five one k e =
    sym (ap (λ j. rest_place (length K) (after_node j key own (drop first (paired K B)))) (step_low k step e low five one)
    ∙ ap (rest_place (length K)) (node_zero key own (drop first (paired K B))))

pub turn_begins : (K B : List ℕ) (first key own step : ℕ) → (length K ≡ length B) × (first ≤ length K) × (key + 5 * step < 2 ^ 32) → (step ≡ 0 → ⊥)
    → TurnPassed K B first key own step first 0 1
turn_begins K B first key own step pre positive = record {
  size = pre.0;
  positive = positive;
  fits = pre.2;
  from = omega arith;
  until = omega arith;
  within = pre.1;
  same = λ j e. node_suc j key own (drop first (paired K B)) ∙ ap (λ x. after_children (after_node j) key x own 4 0 (drop first (paired K B))) (sym e);
}

module _ {K B : List ℕ} {first key own step next union digit : ℕ} (p : TurnPassed K B first key own step next union digit) where
  -- the answer is that of the children which are left
  pub answer : (r : ℕ)
      → ((j : ℕ) → step ≡ 5 ^ j → r ≡ rest_place (length K) (after_children (after_node j) key step own (5 - digit) union (drop next (paired K B))))
      → Answer K B first key own step r
  answer r h k e =
      step_some (λ x. r ≡ rest_place (length K) (after_node x key own (drop first (paired K B)))) k step e p.positive
      (λ j f. h j f ∙ ap (rest_place (length K)) (sym (p.same j f)))

  -- at the end: the union must be the block's own bits
  module _ (end : 5 ≤ digit) where
    none_left : (j : ℕ) → after_children (after_node j) key step own (5 - digit) union (drop next (paired K B)) ≡ cond (eqb union own) (left (drop next (paired K B))) wrong
    none_left j =
        let z : 5 - digit ≡ 0 = omega arith in
        ap (λ x. after_children (after_node j) key step own x union (drop next (paired K B))) z ∙ children_none (after_node j) key step own union (drop next (paired K B))

    pub ends : union ≡ own → Answer K B first key own step next
    ends e = answer next
        (λ j f. sym (ap (rest_place (length K)) (none_left j ∙ ap (λ b. cond b (left (drop next (paired K B))) wrong) (eq-eqb union own e))
        ∙ place_of_rest (paired K B) next (length K) (sym (paired-length K B p.size)) p.within))

    pub differs : (union ≡ own → ⊥) → Answer K B first key own step 0
    unfolding rest_place
    differs e = answer 0 (λ j f. sym (ap (rest_place (length K)) (none_left j ∙ ap (λ b. cond b (left (drop next (paired K B))) wrong) (ne_eqb union own e))))

  module _ (turn : digit < 5) where
    -- a child's key fits, with the interval of keys below it
    pub child_fits : key + digit * step + step < 2 ^ 32
    child_fits = let h : digit * step ≤ 4 * step = mul-le-mul_right step (omega arith) in omega (arith, p.fits)

    -- the others are one less
    rest : (j : ℕ) (l : List Record) → after_children (after_node j) key step own (5 - digit) union l ≡ after_children (after_node j) key step own (suc (4 - digit)) union l
    rest j l = ap (λ x. after_children (after_node j) key step own x union l) (omega arith)

    -- the answer is 0 where the model says that the records are wrong
    fails : ((j : ℕ) → step ≡ 5 ^ j → after_children (after_node j) key step own (suc (4 - digit)) union (drop next (paired K B)) ≡ wrong)
        → Answer K B first key own step 0
    unfolding rest_place
    fails h = answer 0 (λ j f. sym (ap (rest_place (length K)) (rest j (drop next (paired K B)) ∙ h j f)))

    -- no record is left
    pub short : length K ≤ next → Answer K B first key own step 0
    short h = fails
        (λ j f. ap (after_children (after_node j) key step own (suc (4 - digit)) union) (records_end K B next p.size h)
        ∙ children_short (after_node j) key step own (4 - digit) union)

    -- a record is left, and x is the child's key
    module _ (there : next < length K) {x : ℕ} (is : x ≡ key + digit * step) where
      -- the records from the next one on
      here : (j : ℕ) (o : Outcome)
          → after_children (after_node j) key step own (suc (4 - digit)) union (record_of (get_or K next 0) (get_or B next 0) ∷ drop (next + 1) (paired K B)) ≡ o
          → after_children (after_node j) key step own (suc (4 - digit)) union (drop next (paired K B)) ≡ o
      here j o e = ap (after_children (after_node j) key step own (suc (4 - digit)) union) (record_at K B next p.size there) ∙ e

      digit_is : 5 - suc (4 - digit) ≡ digit
      digit_is = let h = p.from in omega arith

      -- it has another key than the child
      pub other_key : (get_or K next 0 ≡ x → ⊥) → Answer K B first key own step 0
      other_key h = fails
          (λ j f. here j wrong
          (children_other (after_node j) key step own (4 - digit) union (get_or B next 0) (drop (next + 1) (paired K B)) (get_or K next 0)
          (λ e. h (e ∙ ap (λ d. key + d * step) digit_is ∙ sym is))))

      module _ (child : get_or K next 0 ≡ x) where
        child_is : x ≡ key + (5 - suc (4 - digit)) * step
        child_is = is ∙ ap (λ d. key + d * step) (sym digit_is)

        -- what a function for one height alone answers of its block
        pub child_at : (k : ℕ) → step / 5 ≡ step_under k
            → (after : ℕ)
            → after ≡ rest_place (length K) (after_node k x (get_or B next 0) (drop (next + 1) (paired K B)))
            → Answer K B (next + 1) x (get_or B next 0) (step / 5) after
        child_at k e after h = at_height K B (next + 1) x (get_or B next 0) k (step / 5) after e h

        -- its block is wrong
        pub wrong_child : one_slot (get_or B next 0) ≡ false
            → (after : ℕ)
            → after ≡ 0
            → Answer K B (next + 1) x (get_or B next 0) (step / 5) after
            → Answer K B first key own step 0
        wrong_child node after none h = fails
            (λ j f.
            let own_is = own_node (after_node j) x (get_or B next 0) (drop (next + 1) (paired K B)) node in
            let t = told j x (get_or B next 0) (paired K B) (next + 1) (length K) (sym (paired-length K B p.size)) (omega arith) (omega arith) in
            here j wrong
            (ap (λ y. after_children (after_node j) key step own (suc (4 - digit)) union (record_of y (get_or B next 0) ∷ drop (next + 1) (paired K B))) child
            ∙ children_wrong (after_node j) key step own (4 - digit) union (get_or B next 0) (drop (next + 1) (paired K B)) x child_is
            (t.refused (ap (rest_place (length K)) own_is ∙ sym (h j (step_down j step f)) ∙ none))))

        -- its block ends before the place `after`, and the next digit's turn comes
        pub goes : (after : ℕ) → after ≤ length K
            → ((j : ℕ) → step ≡ 5 ^ j → after_own (after_node j) x (get_or B next 0) (drop (next + 1) (paired K B)) ≡ left (drop after (paired K B)))
            → TurnPassed K B first key own step after (bit_or union (get_or B next 0)) (digit + 1)
        goes after within h = record {
          size = p.size;
          positive = p.positive;
          fits = p.fits;
          from = omega arith;
          until = omega arith;
          within = within;
          same = λ j f.
              p.same j f ∙ rest j (drop next (paired K B))
              ∙ here j _
              (ap (λ y. after_children (after_node j) key step own (suc (4 - digit)) union (record_of y (get_or B next 0) ∷ drop (next + 1) (paired K B))) child
              ∙ children_from (after_node j) key step own (4 - digit) union (get_or B next 0) (drop (next + 1) (paired K B)) (drop after (paired K B)) x child_is (h j f))
              ∙ ap (λ y. after_children (after_node j) key step own y (bit_or union (get_or B next 0)) (drop after (paired K B))) (omega arith);
        }

        -- a leaf ends at once
        pub goes_leaf : one_slot (get_or B next 0) ≡ true → TurnPassed K B first key own step (next + 1) (bit_or union (get_or B next 0)) (digit + 1)
        goes_leaf leaf = goes (next + 1) (omega arith) (λ j f. own_leaf (after_node j) x (get_or B next 0) (drop (next + 1) (paired K B)) leaf)

        -- a node ends where its children end
        pub goes_node : one_slot (get_or B next 0) ≡ false
            → (after : ℕ)
            → (after ≡ 0 → ⊥)
            → after ≤ length K
            → Answer K B (next + 1) x (get_or B next 0) (step / 5) after
            → TurnPassed K B first key own step after (bit_or union (get_or B next 0)) (digit + 1)
        goes_node node after good within h =
            goes after within
            (λ j f.
            let own_is = own_node (after_node j) x (get_or B next 0) (drop (next + 1) (paired K B)) node in
            let t = told j x (get_or B next 0) (paired K B) (next + 1) (length K) (sym (paired-length K B p.size)) (omega arith) (omega arith) in
            let place = h j (step_down j step f) ∙ ap (rest_place (length K)) (sym own_is) in
            t.passed (λ z. good (place ∙ z)) ∙ ap (λ y. left (drop y (paired K B))) (sym place))
