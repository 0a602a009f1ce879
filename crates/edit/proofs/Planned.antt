-- A content that is put into a block of an accepted list by its plan: the plan's numbers do not wrap, they tell how long the list becomes (refusal
-- 9), and what putting asks is there. Paint and take back are such. Rests on Ready and Edited of put.
use Prim.Native.Nat.{ℕ, ◌+◌, ◌-◌, ◌*◌, ◌≤◌}
use mathlib.Core.Path.{◌≡◌, sym, ◌∙◌, ap, ap₂, subst}
use mathlib.Core.Bool.{true}
use mathlib.Core.List.{List}
use native.Mathlib.Omega.{arith}
use lib.ListN.{length}
use Rattle.keys.specs.Key.{valid_key}
use Rattle.definitions.specs.Picture.{Picture}
use Rattle.definitions.specs.List.{Record, list_of_picture}
use Rattle.definitions.specs.Read.{room, records_of}
use Rattle.definitions.specs.Edit.{put, content_of}
use Rattle.list.specs.Own.{OwnList, shown_by}
use Rattle.replace.specs.Put.{plan_of, length_after, edited}
use Rattle.replace.specs.Putting.{Puttable, Replaced}
use Rattle.replace.specs.declared.plan.Plan.{Plan}
use Rattle.replace.proofs.Ready.{PlanReady, ready_for}
use Rattle.replace.proofs.Edited.{edited_put, edited-length}
use Rattle.replace.proofs.PlanTop.{records-length, length-for}

-- the content is that of a picture in the block, and the new list shows it there
pub record Planned (m : ℕ) (keys bits : List ℕ) (n κ : ℕ) (content new : List Record) (plan : Plan) : Type 0 where
  pub deep : m ≤ 10
  pub valid : valid_key m κ ≡ true
  pub own : OwnList m keys bits n
  pub picture : Picture
  pub content_is : content ≡ content_of m picture κ
  pub new_is : new ≡ list_of_picture m (put m κ picture (shown_by m keys bits n))
  pub plan-is : plan ≡ plan_of m (records_of keys bits n) κ content

module _ {m n κ : ℕ} {keys bits : List ℕ} {content new : List Record} {plan : Plan} (a : Planned m keys bits n κ content new plan) where
  ready : PlanReady m κ (records_of keys bits n) content plan
  ready =
      subst (PlanReady m κ (records_of keys bits n) content) (sym a.plan-is)
      (ready_for m κ a.picture (shown_by m keys bits n) (records_of keys bits n) content a.valid a.own.own a.content_is)

  -- the records that it takes out are there
  pub old_there : plan.old ≤ n
  old_there = let e = records-length a.own in omega (arith, ready.fits)

  -- it splits at most as many levels as a map has
  pub few_levels : plan.levels ≤ 10
  few_levels = omega (arith, ready.high, a.deep)

  after_is : length_after (records_of keys bits n) content plan ≡ length new
  after_is =
      ap (length_after (records_of keys bits n) content) a.plan-is
      ∙ ap₂ (λ l c. length_after l c (plan_of m l κ c)) a.own.own a.content_is
      ∙ edited-length m κ a.picture (shown_by m keys bits n) a.valid
      ∙ sym (ap length a.new_is)

  -- it tells the length of the new list
  pub length-told : (count : ℕ) → count ≡ length content → n - plan.old + (4 * plan.levels + count) ≡ length new
  length-told count e = length-for n count (records_of keys bits n) content plan (sym (records-length a.own)) e ∙ after_is

  -- the content as it is lent
  module _ (content_keys content_bits : List ℕ) (count : ℕ) (lent : records_of content_keys content_bits count ≡ content) where
    -- it can be put
    pub can_put : count ≤ room content_keys content_bits → length new ≤ room keys bits → Puttable m keys bits n κ plan content_keys content_bits count
    can_put there fits =
        let e = ap (λ c. length_after (records_of keys bits n) c plan) lent ∙ after_is in
        record {
          deep = a.deep;
          valid = a.valid;
          own = a.own;
          picture = a.picture;
          content_fits = there;
          content_is = lent ∙ a.content_is;
          plan-is = a.plan-is ∙ ap (plan_of m (records_of keys bits n) κ) (sym lent);
          fits = omega arith;
        }

    -- and then the list is the new one
    pub put_makes : {keys' bits' : List ℕ} {r : ℕ} → Replaced n (edited m (records_of keys bits n) κ (records_of content_keys content_bits count)) keys bits keys' bits' r
        → Replaced n new keys bits keys' bits' r
    put_makes {keys'} {bits'} {r} h =
        subst (λ l. Replaced n l keys bits keys' bits' r)
        (ap₂ (λ l c. edited m l κ c) a.own.own (lent ∙ a.content_is)
        ∙ edited_put m κ a.picture (shown_by m keys bits n) a.valid
        ∙ sym a.new_is)
        h
