-- What code that follows a plan may rely on, said of the list, the content and the plan alone: the places are there, the lengths are known, and
-- the keys ascend while bits are renewed. Rests on Edited and Bounds.
use Prim.Native.Nat.{ℕ, ◌+◌, ◌-◌, ◌^◌, ◌≤◌}
use mathlib.Core.Path.{◌≡◌, refl, sym, ◌∙◌, subst₂}
use mathlib.Core.Bool.{true}
use mathlib.Core.List.{List}
use native.Mathlib.Omega.{arith}
use lib.ListN.{length, get_or}
use Rattle.keys.specs.Key.{valid_key, height_of}
use Rattle.keys.proofs.Cases.{decide}
use Rattle.definitions.specs.Picture.{Picture}
use Rattle.definitions.specs.List.{Record, list_of_picture, keys_of, Ascending}
use Rattle.definitions.specs.Edit.{put, content_of}
use Rattle.laws.proofs.ListOf.{list_some}
use Rattle.replace.specs.Put.{is_one_record, first_bits, top_for, top_of, plan_at, plan_of, length_after, exchanged}
use Rattle.replace.specs.declared.plan.Plan.{Plan}
use Rattle.replace.proofs.Bounds.{climb_bounds}
use Rattle.replace.proofs.Edited.{put_site, exchanged_ascends, exchanged_first, exchanged-length, length-is, plan_fits, plan_levels}

pub record PlanReady (m κ : ℕ) (l content : List Record) (plan : Plan) : Type 0 where
  pub low : height_of m κ ≤ plan.top
  pub high : plan.top + plan.levels ≤ m
  pub some : 1 ≤ plan.old
  pub fits : plan.start + plan.old ≤ length l
  pub out_length : length (exchanged l κ content plan) ≡ length_after l content plan
  pub ascends : Ascending 0 (5 ^ m) (exchanged l κ content plan)
  pub first : get_or (keys_of (exchanged l κ content plan)) 0 0 ≡ 0
  pub split_own : 1 ≤ plan.levels → plan.top ≡ height_of m κ

-- the filled block is at least as high as the one with key κ
pub top_low : (m κ : ℕ) (l content : List Record) → height_of m κ ≤ top_of m l κ content
unfolding top_of top_for
top_low m κ l content =
    let i = climb_bounds l κ (first_bits content) (m - height_of m κ) (height_of m κ) in
    decide (is_one_record content) (λ t. rw t i.0) (λ t. rw t (omega arith))

plan_top : (m κ : ℕ) (l content : List Record) → (plan_of m l κ content).top ≡ top_of m l κ content
unfolding plan_of plan_at
plan_top m κ l content = refl

-- a plan for the list of a picture and a content of the block is ready
pub ready : (m κ : ℕ) (q p : Picture) → valid_key m κ ≡ true
    → PlanReady m κ (list_of_picture m p) (content_of m q κ) (plan_of m (list_of_picture m p) κ (content_of m q κ))
ready m κ q p valid =
    let s = put_site m κ q p valid in
    let e = plan_top m κ (list_of_picture m p) (content_of m q κ) in
    let f = top_low m κ (list_of_picture m p) (content_of m q κ) in
    let o = s.old_is in
    let some = list_some p s.height s.row s.column s.key in
    record {
      low = omega arith;
      high = plan_levels p (put m κ q p) s;
      some = omega arith;
      fits = plan_fits p (put m κ q p) s;
      out_length = exchanged-length p (put m κ q p) s ∙ sym (length-is p (put m κ q p) s);
      ascends = exchanged_ascends p (put m κ q p) s;
      first = exchanged_first p (put m κ q p) s;
      split_own = s.split_own;
    }

-- the same for any list and content that are such
pub ready_for : (m κ : ℕ) (q p : Picture) (l content : List Record) → valid_key m κ ≡ true → l ≡ list_of_picture m p → content ≡ content_of m q κ
    → PlanReady m κ l content (plan_of m l κ content)
ready_for m κ q p l content valid list is =
    subst₂ (λ a b. PlanReady m κ a b (plan_of m a κ b)) (sym list) (sym is) (ready m κ q p valid)
