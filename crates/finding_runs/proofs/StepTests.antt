-- Whether a rule may come, and where its waivers end, by the tests that the code makes in turn. Rests on keys' Cases.
use Prim.Native.Nat.{ℕ, ◌+◌, ◌≤◌, ◌<◌}
use mathlib.Core.Path.{◌≡◌, refl, sym, subst}
use mathlib.Core.Bool.{Bool, true, false, ◌&&◌}
use mathlib.Core.List.{List}
use native.Mathlib.Omega.{arith}
use lib.ListN.{get_or}
use lib.Dec.{leb}
use borrow.Author.Tests.{lt-ltb, le-ltb, le-leb}
use Rattle.keys.proofs.Cases.{split}
use Rattle.definitions.specs.Window.{is_window}
use Rattle.definitions.specs.Rules.{window_of_rule, is_rule}
use Rattle.definitions.specs.declared.Rule.{Rule}
use Rattle.finding_runs.specs.declared.state.RunState.{RunState}
use Rattle.finding_runs.specs.Run.{may_come}
use Rattle.finding_runs.specs.Step.{OwnFrom, OwnEnd}

-- three tests, in the order of the code
first_fails : (a b c : Bool) → a ≡ false → false ≡ a && (b && c)
first_fails a b c e = rw e

last_fails : (a b c : Bool) → c ≡ false → false ≡ a && (b && c)
last_fails true true c e = sym e
last_fails true false c e = refl
last_fails false b c e = refl

others_hold : (a b c : Bool) → a ≡ true → c ≡ true → b ≡ a && (b && c)
others_hold a true c e f = rw (e, f)
others_hold a false c e f = rw e

module _ (rule : Rule) (st : RunState) where
  pub may_feature : st.s ≤ rule.feature → false ≡ may_come rule st
  unfolding is_rule
  may_feature h = last_fails (leb st.next rule.id) (is_window st.m (window_of_rule rule)) _ (le-ltb _ _ h)

  pub may_window : st.next ≤ rule.id → rule.feature < st.s → is_window st.m (window_of_rule rule) ≡ may_come rule st
  unfolding is_rule
  may_window h k = others_hold _ (is_window st.m (window_of_rule rule)) _ (le-leb _ _ h) (lt-ltb _ _ k)

-- one more waiver of the rule
module _ (ids : List ℕ) (from count id : ℕ) where
  pub own_next : (place : ℕ) → OwnFrom ids from count id place → place < count → get_or ids place 0 ≤ id → OwnFrom ids from count id (place + 1)
  own_next place o inside here =
      let low = o.start in
      record {
        start = omega arith;
        within = omega arith;
        own = λ i after before.
            split i place (o.own i after) (λ at. let same : place ≡ i = omega arith in subst (λ j. get_or ids j 0 ≤ id) same here);
      }

  -- none yet
  pub own_none : from ≤ count → OwnFrom ids from count id from
  own_none h = record { start = omega arith; within = h; own = λ i after before. absurd (omega arith) }

  -- all are passed
  pub own_all : (place : ℕ) → OwnFrom ids from count id place → count ≤ place → OwnEnd ids from count id count
  own_all place o over =
      let all = o.within in
      let same : place ≡ count = omega arith in
      record { run = subst (λ j. OwnFrom ids from count id j) same o; past = λ inside. absurd (omega arith) }

  -- the end is one place alone
  not_before : (place place' : ℕ) → OwnEnd ids from count id place → OwnEnd ids from count id place' → place < place' → ⊥
  not_before place place' o o' h =
      let far = o'.run.within in
      let larger = o.past (omega arith) in
      let own = o'.run.own place o.run.start h in
      omega arith

  pub own_end_one : (place place' : ℕ) → OwnEnd ids from count id place → OwnEnd ids from count id place' → place ≡ place'
  own_end_one place place' o o' =
      split place place' (λ h. absurd (not_before place place' o o' h)) (λ h. split place' place (λ k. absurd (not_before place' place o' o k)) (λ k. omega arith))
