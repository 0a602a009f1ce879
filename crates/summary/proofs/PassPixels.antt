-- The pass over a node of four pixels: what the check of the four tells the count, and what both answer. Rests on PassTurn and list's Turn.
use Prim.Native.Nat.{ℕ, ◌+◌, ◌≤◌, ◌<◌}
use mathlib.Core.Path.{◌≡◌, ◌∙◌}
use mathlib.Core.Bool.{Bool, true, false, cond, true≢false, false≢true}
use mathlib.Core.List.{List}
use native.Mathlib.Omega.{arith}
use Rattle.std.specs.Prelude.{Some, None}
use lib.ListN.{length, drop}
use Rattle.definitions.specs.Read.{paired}
use Rattle.list.specs.Check.{rest_place, after_node}
use Rattle.list.proofs.Pixels.{right_false, right_true}
use Rattle.list.proofs.Turn.{Answer, step_one, at_height}
use Rattle.summary.specs.Count.{NodeAt, NodeCounted}
use Rattle.summary.specs.Pass.{PassAsked, PassAnswered}
use Rattle.summary.proofs.PassTurn.{passed_node}

module _ {K B counts : List ℕ} {at key own : ℕ} (asked : PassAsked K B counts at key own 1 4) (r : Bool)
    (is : cond r (at + 1 + 4) 0 ≡ rest_place (length K) (after_node 1 key own (drop (at + 1) (paired K B)))) where
  pub pixels_wrong : {counts' : List ℕ} → r ≡ false → PassAnswered K B counts counts' at key own 1 4 None
  pixels_wrong e = record {
    within = omega arith;
    checked = at_height K B (at + 1) key own 1 1 0 step_one (right_false r (at + 1 + 4) _ e is);
    counted = λ place none. cc;
  }

  module _ (e : r ≡ true) where
    answer : Answer K B (at + 1) key own 1 (at + 5)
    answer = let five : at + 5 ≡ at + 1 + 4 = omega arith in at_height K B (at + 1) key own 1 1 (at + 5) step_one (five ∙ right_true r (at + 1 + 4) _ e is)

    the_next : 0 < at + 5
    the_next = omega arith

    pub pixels_shown : NodeAt B at 4
    pixels_shown = passed_node asked.node asked.level answer (λ z. omega arith)

    pub pixels_counted : {counts' : List ℕ} → at + 1 + 4 ≤ length K → NodeCounted B at 4 counts counts' (at + 5)
        → PassAnswered K B counts counts' at key own 1 4 (Some (at + 5))
    pixels_counted room x = record {
      within = omega arith;
      checked = answer;
      counted = λ place same. let is : at + 5 ≡ place = cc in (rw is at the_next, rw is at x);
    }

-- what the answer of the four says, by its two values
pub pixels_false : {K B counts counts' : List ℕ} {at key own : ℕ} (r : Bool) → PassAnswered K B counts counts' at key own 1 4 (cond r (Some (at + 5)) None) → r ≡ false
    → PassAnswered K B counts counts' at key own 1 4 None
pixels_false false x e = x
pixels_false true x e = absurd (true≢false e)

pub pixels_true : {K B counts counts' : List ℕ} {at key own : ℕ} (r : Bool) → PassAnswered K B counts counts' at key own 1 4 (cond r (Some (at + 5)) None) → r ≡ true
    → PassAnswered K B counts counts' at key own 1 4 (Some (at + 5))
pixels_true false x e = absurd (false≢true e)
pixels_true true x e = x
