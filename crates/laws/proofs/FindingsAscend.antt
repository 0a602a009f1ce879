-- The findings of rules whose ids ascend are in the order of specification S13.11, by id and then key; leaving out the hidden ones keeps the order; and so
-- an accepted call answers its findings in that order, each once. Rests on FindingOrder, SelectAscends, Waivers, First and OldFault.
use Prim.Native.Nat.{ℕ, ◌<◌}
use mathlib.Core.Path.{◌≡◌, refl, sym, ap, ◌∙◌}
use mathlib.Core.Logic.{⊎_elim}
use mathlib.Core.Bool.{Bool, true, false, ◌&&◌}
use mathlib.Core.List.{List, [], ◌∷◌, map, Memᴰ}
use native.Mathlib.Omega.{arith}
use lib.ListN.{length, get_or}
use lib.Dec.{ltb}
use borrow.Author.Tests.{ltb-true, not-false}
use Rattle.keys.proofs.Cases.{decide, and_left, and_right}
use Rattle.definitions.specs.Picture.{Picture}
use Rattle.definitions.specs.Read.{records_of, picture_of}
use Rattle.definitions.specs.Rules.{Finding, finding_of, window_of_rule, findings_of, all_findings, is_hidden, live_of, all_rules, ids_ascend, bad_rules, findings_ascend}
use Rattle.definitions.specs.Window.{select_in}
use Rattle.definitions.specs.Calls.Findings.{live_in, refusal_with}
use Rattle.definitions.specs.declared.Rule.{Rule}
use Rattle.laws.proofs.AscendingKeys.{AscendingKeys, no_key, key, ascending_member}
use Rattle.laws.proofs.SelectAscends.{select_in_ascends}
use Rattle.laws.proofs.Waivers.{live_hidden, live_kept, live_none, live_only}
use Rattle.laws.proofs.First.{first_none}
use Rattle.laws.proofs.OldFault.{answered, answered_live}
use Rattle.laws.proofs.FindingOrder.{InOrder, no_finding, finding, ascend_order, order_ascend, order-append, order_once}

-- ---- the findings of one rule
-- each has the rule's id, and its key is one of the keys
own_id : {id : ℕ} (l : List ℕ) {x : Finding} → Memᴰ x (map (finding_of id) l) → (x.id ≡ id) × Memᴰ x.key l
own_id {id} l {x} m = let from = mathlib.Core.List.Memᴰ.of_map (finding_of id) l m in (sym (ap (λ y. y.id) from.2), rw (← ap (λ y. y.key) from.2) from.1)

-- with ascending keys they are in order
keys_order : (id : ℕ) {lo hi : ℕ} {l : List ℕ} → AscendingKeys lo hi l → InOrder (map (finding_of id) l)
keys_order id (no_key h) = no_finding
keys_order id (key {x} {l} h t) =
    finding {x = finding_of id x} {xs = map (finding_of id) l}
    (λ y m. let own = own_id l m in let above = ascending_member t own.1 in record { ids = omega arith; keys = λ same. omega arith })
    (keys_order id t)

-- ---- the findings of all rules
-- without the first rule the ids still ascend
ids_rest : (a : Rule) (rules : List Rule) → ids_ascend (a ∷ rules) ≡ true → ids_ascend rules ≡ true
unfolding ids_ascend
ids_rest a [] e = refl
ids_rest a (b ∷ rules) e = and_right (ltb a.id b.id) (ids_ascend (b ∷ rules)) e

ids_first : (a b : Rule) (rules : List Rule) → ids_ascend (a ∷ (b ∷ rules)) ≡ true → a.id < b.id
unfolding ids_ascend
ids_first a b rules e = ltb-true a.id b.id (and_left (ltb a.id b.id) (ids_ascend (b ∷ rules)) e)

module _ (m : ℕ) (p : Picture) where
  -- a finding has its rule's id
  rule_id : (rule : Rule) {x : Finding} → Memᴰ x (findings_of m p rule) → x.id ≡ rule.id
  unfolding findings_of
  rule_id rule h = (own_id (select_in m p (window_of_rule rule) rule.feature) h).0

  rule_order : (rule : Rule) → InOrder (findings_of m p rule)
  unfolding findings_of
  rule_order rule = keys_order rule.id (select_in_ascends m p (window_of_rule rule) rule.feature)

  -- the findings of later rules have larger ids
  later_ids : (a : Rule) (rules : List Rule) → ids_ascend (a ∷ rules) ≡ true → {x : Finding} → Memᴰ x (all_findings m p rules) → a.id < x.id
  unfolding all_findings
  later_ids a [] e h = absurd (mathlib.Core.List.Memᴰ.not-nil h)
  later_ids a (b ∷ rules) e {x} h =
      let low = ids_first a b rules e in
      ⊎_elim
      (λ (n : Memᴰ x (findings_of m p b)). let own = rule_id b n in omega arith)
      (λ (n : Memᴰ x (all_findings m p rules)). let above = later_ids b rules (ids_rest a (b ∷ rules) e) n in omega arith)
      (mathlib.Core.List.Memᴰ.append_cases (findings_of m p b) h)

  findings_order : (rules : List Rule) → ids_ascend rules ≡ true → InOrder (all_findings m p rules)
  unfolding all_findings
  findings_order [] e = no_finding
  findings_order (rule ∷ rules) e =
      order-append (rule_order rule) (findings_order rules (ids_rest rule rules e))
      (λ x y own later.
      let same = rule_id rule own in
      let above = later_ids rule rules e later in
      record { ids = omega arith; keys = λ equal. absurd (omega arith) })

  -- where the rules' ids ascend, their findings ascend by id and then key
  pub findings-ascend : (rules : List Rule) → ids_ascend rules ≡ true → findings_ascend (all_findings m p rules) ≡ true
  findings-ascend rules e = order_ascend (findings_order rules e)

-- ---- the live findings
module _ (m : ℕ) (ws : List Finding) where
  live_order : {xs : List Finding} → InOrder xs → InOrder (live_of m ws xs)
  live_order no_finding = rw (live_none m ws) no_finding
  live_order (finding {x} {xs} h t) =
      decide (is_hidden m ws x)
      (λ e. rw (live_hidden m ws x xs e) (live_order t))
      (λ e. rw (live_kept m ws x xs e) (finding (λ y i. h y (live_only m ws xs i).0) (live_order t)))

  -- findings that ascend do so when the hidden ones are left out
  pub live_ascend : (xs : List Finding) → findings_ascend xs ≡ true → findings_ascend (live_of m ws xs) ≡ true
  live_ascend xs e = order_ascend (live_order (ascend_order xs e))

-- ---- the answer of the call
-- rules that are not refused have ascending ids
good_ids : (m s : ℕ) (rules : List Rule) → bad_rules m s rules ≡ false → ids_ascend rules ≡ true
unfolding bad_rules
good_ids m s rules e = and_left (ids_ascend rules) (all_rules m s rules) (not-false (ids_ascend rules && all_rules m s rules) e)

module _ (m s : ℕ) (keys bits : List ℕ) (n office : ℕ) (wrong : Bool) (rules : List Rule) (waivers : List Finding) (found_ids found_keys : List ℕ) where
  accepted_ids : refusal_with m s keys bits n office wrong rules waivers found_ids found_keys ≡ 0 → ids_ascend rules ≡ true
  unfolding refusal_with
  accepted_ids done = let none = first_none _ refl done in good_ids m s rules none.1.1.1.0

  live_in_ascend : ids_ascend rules ≡ true → findings_ascend (live_in m keys bits n rules waivers) ≡ true
  unfolding live_in
  live_in_ascend e =
      let p = picture_of m (records_of keys bits n) in live_ascend m waivers (all_findings m p rules) (findings-ascend m p rules e)

  -- what an accepted call leaves in the answer slices ascends by id and then key
  pub answered_ascend : refusal_with m s keys bits n office wrong rules waivers found_ids found_keys ≡ 0
      → findings_ascend (answered m s keys bits n office wrong rules waivers found_ids found_keys) ≡ true
  answered_ascend done =
      ap findings_ascend (answered_live m s keys bits n office wrong rules waivers found_ids found_keys done) ∙ live_in_ascend (accepted_ids done)

  -- so each finding stands there once: two places with the same finding are one
  pub answered_once : refusal_with m s keys bits n office wrong rules waivers found_ids found_keys ≡ 0
      → (d : Finding) (i j : ℕ) → i < length (answered m s keys bits n office wrong rules waivers found_ids found_keys)
      → j < length (answered m s keys bits n office wrong rules waivers found_ids found_keys)
      → get_or (answered m s keys bits n office wrong rules waivers found_ids found_keys) i d
      ≡ get_or (answered m s keys bits n office wrong rules waivers found_ids found_keys) j d
      → i ≡ j
  answered_once done d i j hi hj e = order_once d (ascend_order _ (answered_ascend done)) i j hi hj e
