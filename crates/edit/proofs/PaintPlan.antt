-- The plan of a paint: a content of one record is put into the block; and the summary after it. Rests on Planned and Changed.
use Prim.Native.Nat.{ℕ, ◌^◌, ◌≤◌}
use mathlib.Core.Path.{◌≡◌, refl, sym, ◌∙◌, ap}
use mathlib.Core.Bool.{true}
use mathlib.Core.List.{List, [], ◌∷◌}
use Rattle.std.specs.Prelude.{Some}
use Rattle.keys.specs.Key.{slot_limit, height_of}
use Rattle.keys.specs.Block.{row_of, column_of}
use Rattle.definitions.specs.List.{Record, record_of}
use Rattle.definitions.specs.Read.{paired, records_of}
use Rattle.definitions.specs.Edit.{paint_in, content_of}
use Rattle.definitions.specs.Area.{summary_of}
use Rattle.definitions.specs.Calls.Paint.{painted_picture, painted}
use Rattle.laws.proofs.Features.{one_from_leaf}
use Rattle.laws.proofs.ListOf.{list_one}
use Rattle.list.specs.Own.{OwnList, shown_by}
use Rattle.list.specs.declared.accepted_list.Accepted.{Accepted}
use Rattle.list.specs.Taken.{Taken, picture_listed}
use Rattle.replace.specs.Putting.{Replaced}
use Rattle.replace.specs.Put.{top_with, plan_at, plan_of}
use Rattle.replace.specs.declared.plan.Plan.{Plan}
use Rattle.replace.proofs.PlanTop.{plan_for}
use Rattle.edit.specs.PaintCall.{Paintable, paint_plan}
use Rattle.edit.specs.Recount.{Outdated}
use Rattle.edit.proofs.Planned.{Planned}
use Rattle.edit.proofs.Changed.{new_own, put_outdated, put_counted}

-- the content that a paint puts in is one record
paint_content : (m κ f : ℕ) → content_of m (λ row column. f) κ ≡ record_of κ (2 ^ f) ∷ []
unfolding content_of
paint_content m κ f =
    list_one (λ row column. f) (height_of m κ) (row_of m κ) (column_of m κ) κ
    (one_from_leaf (λ row column. f) f (height_of m κ) (row_of m κ) (column_of m κ) (λ a b w. refl))

-- one record in two slices of one place, with the bits b of the feature
pub one_record : (κ f b : ℕ) → b ≡ 2 ^ f → records_of (κ ∷ []) (b ∷ []) 1 ≡ record_of κ (2 ^ f) ∷ []
unfolding paired
one_record κ f b e = ap (λ x. record_of κ x ∷ []) e

-- the plan that was found for the bits b of the feature
pub paint_found : (m : ℕ) (l : List Record) (κ f b : ℕ) (plan : Plan) → b ≡ 2 ^ f → plan ≡ plan_at m l κ (top_with m l κ (Some b)) → plan ≡ paint_plan m l κ f
paint_found m l κ f b plan e found =
    found ∙ plan_for m l κ (record_of κ b ∷ []) true b refl refl ∙ ap (λ x. plan_of m l κ (record_of κ x ∷ [])) e

-- is one that makes the painted list
pub paint_planned : {m n κ f : ℕ} {keys bits : List ℕ} {plan : Plan} → Paintable m keys bits n κ f → plan ≡ paint_plan m (records_of keys bits n) κ f
    → Planned m keys bits n κ (record_of κ (2 ^ f) ∷ []) (painted m (records_of keys bits n) κ f) plan
unfolding painted paint_in
paint_planned {m} {n} {κ} {f} a is = record {
  deep = a.deepest;
  valid = a.valid;
  own = a.own;
  picture = λ row column. f;
  content_is = sym (paint_content m κ f);
  new_is = refl;
  plan-is = is;
}

-- the painted list, once it stands, leaves the summary right outside the block
module _ (s : ℕ) {m n κ f : ℕ} {keys bits keys' bits' : List ℕ} {r : ℕ} (a : Paintable m keys bits n κ f)
    (made : Replaced n (painted m (records_of keys bits n) κ f) keys bits keys' bits' r) where
  -- it is an accepted list
  pub paint_own : OwnList m keys' bits' r
  unfolding painted
  paint_own = new_own m _ made

  module _ {list : Accepted} (t : Taken m keys' bits' r list) where
    pub paint_outdated : (summary : List ℕ) → s ≤ slot_limit → summary ≡ summary_of m s (shown_by m keys bits n) → Outdated list s summary κ
    unfolding painted paint_in
    paint_outdated summary few counts = put_outdated m s κ (λ row column. f) made t summary few a.valid counts

    -- and counted anew it is that of the painted picture
    pub paint_counted : (summary' : List ℕ) → summary' ≡ summary_of list.m s (picture_listed list)
        → summary' ≡ summary_of m s (painted_picture m (records_of keys bits n) κ f)
    unfolding painted paint_in
    paint_counted summary' e = put_counted m s κ (λ row column. f) made t summary' e
