-- The model is right: a content put into a block by plan, exchange and renewing gives the list of the picture that has the content there. Its
-- length is known from the plan. Rests on Site and Renew.
use Prim.Native.Nat.{ℕ, ◌+◌, ◌-◌, ◌^◌, ◌≤◌}
use mathlib.Core.Path.{◌≡◌, sym, ◌∙◌, ap, ap₂, subst}
use mathlib.Core.Bool.{true}
use mathlib.Core.List.{List, ◌++◌}
use native.Mathlib.Omega.{arith}
use lib.ListN.{length, get_or, take, drop, length-append}
use lib.Seq.{take-append_seam, drop-append-add, drop-append_seam}
use Rattle.keys.specs.Key.{valid_key}
use Rattle.keys.proofs.Valid.{valid_block}
use Rattle.definitions.specs.Picture.{Picture}
use Rattle.definitions.specs.Bits.{bits_of}
use Rattle.definitions.specs.List.{Record, record_of, list_of, list_of_picture, keys_of, values_of, Ascending}
use Rattle.definitions.specs.Edit.{put, content_of}
use Rattle.laws.proofs.ListOf.{list_head_first, list_ascends}
use Rattle.laws.proofs.Ascending.{widen}
use Rattle.replace.specs.Renew.{renew}
use Rattle.replace.specs.Put.{plan_of, length_after, exchanged, parents_renewed, edited}
use Rattle.replace.specs.declared.plan.Plan.{Plan}
use Rattle.replace.proofs.Way.{way_of, steps_height}
use Rattle.replace.proofs.Put.{put_outside, put_content}
use Rattle.replace.proofs.Context.{before_hole, after_hole, spliced, context}
use Rattle.replace.proofs.Places.{value_seam}
use Rattle.replace.proofs.Renew.{renew_all}
use Rattle.replace.proofs.SetBits.{renew_keys, renew-length}
use Rattle.replace.proofs.ByKeys.{ascending_keys}
use Rattle.replace.proofs.Site.{Site, site}

-- the records between two lists are exchanged
exchange : (a own b new l : List Record) (i n : ℕ) → l ≡ a ++ (own ++ b) → i ≡ length a → n ≡ length own
    → take i l ++ (new ++ drop (i + n) l) ≡ a ++ (new ++ b)
exchange a own b new l i n e f g =
    ap₂ (λ s t. s ++ (new ++ t))
    (ap₂ take f e ∙ take-append_seam a (own ++ b))
    (ap₂ drop (ap₂ ◌+◌ f g) e ∙ drop-append-add a (own ++ b) (length own) ∙ drop-append_seam own b)

module _ (p p' : Picture) {m κ : ℕ} {content : List Record} {plan : Plan} (s : Site p p' m κ content plan) where
  abbrev old_list : List Record
  old_list = list_of p m 0 0 0

  abbrev new_own : List Record
  new_own = list_of p' s.height s.row s.column s.key

  -- the exchange makes the new list of the site in the old context
  pub exchanged_is : exchanged old_list κ content plan ≡ spliced p s.way new_own
  unfolding exchanged spliced
  exchanged_is =
      ap (λ new. take plan.start old_list ++ (new ++ drop (plan.start + plan.old) old_list)) s.new_is
      ∙ exchange (before_hole p s.way) (list_of p s.height s.row s.column s.key) (after_hole p s.way) new_own old_list plan.start plan.old
      (context p s.way s.old_opens) s.start_is s.old_is

  -- at the place where it starts stand the site's new bits
  first_new : get_or (values_of (spliced p s.way new_own)) plan.start 0 ≡ bits_of p' s.height s.row s.column
  unfolding spliced
  first_new =
      ap₂ (λ l i. get_or (values_of (before_hole p s.way ++ (l ++ after_hole p s.way))) i 0)
      (list_head_first p' s.height s.row s.column s.key).1 s.start_is
      ∙ value_seam (before_hole p s.way) (record_of s.key (bits_of p' s.height s.row s.column)) _

  -- renewing makes the new list of it
  pub renewed_is : parents_renewed m (exchanged old_list κ content plan) κ plan ≡ list_of p' m 0 0 0
  unfolding parents_renewed
  renewed_is =
      let levels = steps_height s.way in
      ap (λ l. parents_renewed m l κ plan) exchanged_is
      ∙ ap₂ (λ b h. renew (spliced p s.way new_own) κ b (m - h) h) first_new s.height_is
      ∙ ap (λ n. renew (spliced p s.way new_own) κ (bits_of p' s.height s.row s.column) n s.height) (omega arith)
      ∙ renew_all p p' s.way s.out s.new_opens s.holds

  -- the keys are the new list's already before it
  pub exchanged_keys : keys_of (exchanged old_list κ content plan) ≡ keys_of (list_of p' m 0 0 0)
  unfolding parents_renewed
  exchanged_keys = sym (renew_keys (exchanged old_list κ content plan) κ _ _ _) ∙ ap keys_of renewed_is

  -- so they ascend from the root's on, and places can be searched while bits are renewed
  pub exchanged_ascends : Ascending 0 (5 ^ m) (exchanged old_list κ content plan)
  exchanged_ascends =
      ascending_keys (exchanged old_list κ content plan) (sym exchanged_keys) (widen {lo' = 0} {hi' = 5 ^ m} (omega arith) (omega arith) (list_ascends p' m 0 0 0))

  -- the first key is the root's
  pub exchanged_first : get_or (keys_of (exchanged old_list κ content plan)) 0 0 ≡ 0
  exchanged_first = ap (λ keys. get_or keys 0 0) (exchanged_keys ∙ ap keys_of (list_head_first p' m 0 0 0).1)

  -- the length is the new list's
  pub exchanged-length : length (exchanged old_list κ content plan) ≡ length (list_of p' m 0 0 0)
  unfolding parents_renewed
  exchanged-length = sym (renew-length (exchanged old_list κ content plan) κ _ _ _) ∙ ap length renewed_is

  -- the old list's length by the site
  old-length : length old_list ≡ length (before_hole p s.way) + (plan.old + length (after_hole p s.way))
  unfolding spliced
  old-length =
      let e = ap length (context p s.way s.old_opens) in
      let f = length-append (before_hole p s.way) (list_of p s.height s.row s.column s.key ++ after_hole p s.way) in
      let g = length-append (list_of p s.height s.row s.column s.key) (after_hole p s.way) in
      let h = s.old_is in
      omega arith

  spliced-length : length (spliced p s.way new_own) ≡ length (before_hole p s.way) + (length new_own + length (after_hole p s.way))
  unfolding spliced
  spliced-length =
      let f = length-append (before_hole p s.way) (new_own ++ after_hole p s.way) in
      let g = length-append new_own (after_hole p s.way) in
      omega arith

  -- the plan tells how long it becomes
  pub length-is : length_after old_list content plan ≡ length (list_of p' m 0 0 0)
  unfolding length_after
  length-is =
      let e = sym exchanged-length ∙ ap length exchanged_is ∙ spliced-length in
      let f = old-length in
      let g = s.new_length in
      omega arith

  -- the records that are exchanged are there
  pub plan_fits : plan.start + plan.old ≤ length old_list
  plan_fits = let e = old-length in let f = s.start_is in omega arith

  -- and the levels lead up to the root at most
  pub plan_levels : plan.top + plan.levels ≤ m
  plan_levels = let e = steps_height s.way in let f = s.height_is in omega arith

-- for put: the site of a picture's content in a block of another picture
module _ (m κ : ℕ) (q p : Picture) (valid : valid_key m κ ≡ true) where
  -- the plan's site
  pub put_site : Site p (put m κ q p) m κ (content_of m q κ) (plan_of m (list_of_picture m p) κ (content_of m q κ))
  unfolding content_of
  put_site =
      let b = valid_block m κ valid in
      subst (λ content. Site p (put m κ q p) m κ content (plan_of m (list_of_picture m p) κ content)) (put_content m κ q p valid)
      (site p (put m κ q p) (way_of b) (put_outside q p b))

  -- the content of q put into block κ of the list of p gives the list of put
  pub edited_put : edited m (list_of_picture m p) κ (content_of m q κ) ≡ list_of_picture m (put m κ q p)
  unfolding edited
  edited_put = renewed_is p (put m κ q p) put_site

  -- its length is known before anything is written: refusal 9
  pub edited-length : length_after (list_of_picture m p) (content_of m q κ) (plan_of m (list_of_picture m p) κ (content_of m q κ)) ≡ length (list_of_picture m (put m κ q p))
  edited-length = length-is p (put m κ q p) put_site
