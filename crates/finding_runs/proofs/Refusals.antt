-- The refusals of findings in their order, by what the runs find; and what a refused, a full and a done call give. Rests on the laws of tables, GoodRules
-- and KnownIds.
use Prim.Native.Nat.{ℕ, ◌≤◌, ◌<◌}
use mathlib.Core.Path.{◌≡◌, refl, sym, ap, ◌∙◌}
use mathlib.Core.Bool.{Bool, true, false, cond, not, ◌&&◌, ◌||◌}
use mathlib.Core.List.{List, [], ◌∷◌, map, Memᴰ}
use native.Mathlib.Omega.{arith}
use lib.ListN.{length}
use lib.Dec.{ltb, eqb}
use borrow.Author.Tests.{lt-ltb, le-ltb, eq-eqb, ne_eqb}
use Rattle.keys.specs.Key.{valid_key}
use Rattle.keys.proofs.Cases.{decide, and_left, and_right, and_both}
use Rattle.definitions.specs.Read.{room, is_list}
use Rattle.definitions.specs.Buffer.{over}
use Rattle.definitions.specs.Rules.{Finding, is_rule_id, all_waivers, findings_ascend, bad_rules, bad_waivers}
use Rattle.definitions.specs.Offices.{bad_office}
use Rattle.definitions.specs.Refusal.{Row, ◌gives◌, first, bad_settings, no_list}
use Rattle.definitions.specs.Calls.Findings.{live_in, hidden_in, refusal_with, found_with, ids_with, found_keys_with}
use Rattle.definitions.specs.declared.Rule.{Rule}
use Rattle.definitions.specs.declared.Found.{Found}
use Rattle.laws.proofs.First.{first_this, first_later, first_end, accepted_done, accepted_left}
use Rattle.finding_runs.specs.Run.{keys_valid, waivers_good}
use Rattle.finding_runs.proofs.GoodRules.{good_from, bad-rules}
use Rattle.finding_runs.proofs.KnownIds.{AllKnown}

-- ---- the waivers: in order, with valid keys, each with a rule's id
known_member : (m : ℕ) (rules : List Rule) (w : Finding) {ws : List Finding} → all_waivers m rules ws ≡ true → Memᴰ w ws → is_rule_id rules w.id ≡ true
unfolding all_waivers
known_member m rules w e (Memᴰ.head {x = v} {xs = ws} is) =
    ap (λ z. is_rule_id rules z.id) is
    ∙ and_right (valid_key m v.key) (is_rule_id rules v.id) (and_left (valid_key m v.key && is_rule_id rules v.id) (all_waivers m rules ws) e)
known_member m rules w e (Memᴰ.tail {x = v} {xs = ws} i) =
    known_member m rules w (and_right (valid_key m v.key && is_rule_id rules v.id) (all_waivers m rules ws) e) i

all-waivers : (m : ℕ) (rules : List Rule) (ws : List Finding) → keys_valid m ws ≡ true → ((w : Finding) → Memᴰ w ws → is_rule_id rules w.id ≡ true) → all_waivers m rules ws ≡ true
unfolding all_waivers keys_valid
all-waivers m rules [] e known = refl
all-waivers m rules (w ∷ ws) e known =
    and_both (valid_key m w.key && is_rule_id rules w.id) (all_waivers m rules ws)
    (and_both (valid_key m w.key) (is_rule_id rules w.id) (and_left (valid_key m w.key) (keys_valid m ws) e) (known w (Memᴰ.head refl)))
    (all-waivers m rules ws (and_right (valid_key m w.key) (keys_valid m ws) e) (λ v i. known v (Memᴰ.tail i)))

module _ (m : ℕ) (rules : List Rule) (ws : List Finding) where
  abbrev in_order : Bool
  in_order = findings_ascend ws && all_waivers m rules ws

  -- 14 is not given where the waivers are good and their ids known
  pub waivers_fine : waivers_good m ws ≡ true → AllKnown ws 0 rules → bad_waivers m rules ws ≡ false
  unfolding bad_waivers waivers_good
  waivers_fine good known =
      ap not
      (and_both (findings_ascend ws) (all_waivers m rules ws) (and_left (findings_ascend ws) (keys_valid m ws) good)
      (all-waivers m rules ws (and_right (findings_ascend ws) (keys_valid m ws) good) (λ w i. known w i (omega arith))))

  -- it is given where an id is not known
  pub waivers_unknown : (AllKnown ws 0 rules → ⊥) → bad_waivers m rules ws ≡ true
  unfolding bad_waivers
  waivers_unknown unknown =
      decide in_order (λ e. absurd (unknown (λ w i from. known_member m rules w (and_right (findings_ascend ws) (all_waivers m rules ws) e) i))) (λ e. ap not e)

-- ---- the table
module _ (m s : ℕ) (keys bits : List ℕ) (n office : ℕ) (wrong : Bool) (rules : List Rule) (ws : List Finding) (ids found_keys : List ℕ) where
  abbrev live : List Finding
  live = live_in m keys bits n rules ws

  abbrev refusal : ℕ
  refusal = refusal_with m s keys bits n office wrong rules ws ids found_keys

  abbrev row₂₁ : Row
  row₂₁ = bad_office office gives 21

  abbrev row₁ : Row
  row₁ = bad_settings m s gives 1

  abbrev row₄ : Row
  row₄ = no_list m s keys bits n gives 4

  abbrev row₁₃ : Row
  row₁₃ = bad_rules m s rules gives 13

  abbrev row₁₄ : Row
  row₁₄ = (wrong || bad_waivers m rules ws) gives 14

  abbrev row₁₂ : Row
  row₁₂ = ltb (room ids found_keys) (length live) gives 12

  pub refusal_21 : bad_office office ≡ true → refusal ≡ 21
  unfolding refusal_with
  refusal_21 e = first_this row₂₁ (row₁ ∷ row₄ ∷ row₁₃ ∷ row₁₄ ∷ row₁₂ ∷ []) e

  from_1 : bad_office office ≡ false → refusal ≡ first (row₁ ∷ row₄ ∷ row₁₃ ∷ row₁₄ ∷ row₁₂ ∷ [])
  unfolding refusal_with
  from_1 known = first_later row₂₁ (row₁ ∷ row₄ ∷ row₁₃ ∷ row₁₄ ∷ row₁₂ ∷ []) known

  pub refusal_1 : bad_office office ≡ false → bad_settings m s ≡ true → refusal ≡ 1
  refusal_1 known e = from_1 known ∙ first_this row₁ (row₄ ∷ row₁₃ ∷ row₁₄ ∷ row₁₂ ∷ []) e

  module _ (known : bad_office office ≡ false) (settings : bad_settings m s ≡ false) where
    from_4 : refusal ≡ first (row₄ ∷ row₁₃ ∷ row₁₄ ∷ row₁₂ ∷ [])
    from_4 = from_1 known ∙ first_later row₁ (row₄ ∷ row₁₃ ∷ row₁₄ ∷ row₁₂ ∷ []) settings

    pub refusal_4 : is_list m s keys bits n ≡ false → refusal ≡ 4
    refusal_4 e = from_4 ∙ first_this row₄ (row₁₃ ∷ row₁₄ ∷ row₁₂ ∷ []) (ap not e)

    module _ (list : is_list m s keys bits n ≡ true) where
      from_13 : refusal ≡ first (row₁₃ ∷ row₁₄ ∷ row₁₂ ∷ [])
      from_13 = from_4 ∙ first_later row₄ (row₁₃ ∷ row₁₄ ∷ row₁₂ ∷ []) (ap not list)

      pub refusal_13 : good_from m s 0 rules ≡ false → refusal ≡ 13
      refusal_13 e = from_13 ∙ first_this row₁₃ (row₁₄ ∷ row₁₂ ∷ []) (bad-rules m s rules ∙ ap not e)

      module _ (good : good_from m s 0 rules ≡ true) where
        from_14 : refusal ≡ first (row₁₄ ∷ row₁₂ ∷ [])
        from_14 = from_13 ∙ first_later row₁₃ (row₁₄ ∷ row₁₂ ∷ []) (bad-rules m s rules ∙ ap not good)

        pub refusal_14 : wrong || bad_waivers m rules ws ≡ true → refusal ≡ 14
        refusal_14 e = from_14 ∙ first_this row₁₄ (row₁₂ ∷ []) e

        module _ (fine : wrong || bad_waivers m rules ws ≡ false) where
          pub refusal_12 : room ids found_keys < length live → refusal ≡ 12
          refusal_12 h = from_14 ∙ first_later row₁₄ (row₁₂ ∷ []) fine ∙ first_this row₁₂ [] (lt-ltb (room ids found_keys) (length live) h)

          pub refusal_0 : length live ≤ room ids found_keys → refusal ≡ 0
          refusal_0 h = from_14 ∙ first_later row₁₄ (row₁₂ ∷ []) fine ∙ first_later row₁₂ [] (le-ltb (room ids found_keys) (length live) h) ∙ first_end

  -- ---- what the call gives
  abbrev given : Found
  given = found_with m s keys bits n office wrong rules ws ids found_keys

  -- a refused call
  pub given_refused : (c : ℕ) → refusal ≡ c → (c ≡ 0 → ⊥) → (c ≡ 12 → ⊥) → given ≡ record { refusal = c; live = 0; hidden = 0 }
  unfolding found_with
  given_refused c e not-zero not_full =
      λ i. record {
        refusal = e i;
        live = (accepted_left (length live) (cond (eqb refusal 12) (length live) 0) (λ z. not-zero (sym e ∙ z)) ∙ ap (λ t. cond t (length live) 0) (ne_eqb refusal 12 (λ z. not_full (sym e ∙ z)))) i;
        hidden = accepted_left (hidden_in m keys bits n rules ws) 0 (λ z. not-zero (sym e ∙ z)) i;
      }

  -- one without room
  pub given_full : refusal ≡ 12 → given ≡ record { refusal = 12; live = length live; hidden = 0 }
  unfolding found_with
  given_full e =
      λ i. record {
        refusal = e i;
        live = (accepted_left (length live) (cond (eqb refusal 12) (length live) 0) (λ z. let f = sym e ∙ z in omega arith) ∙ ap (λ t. cond t (length live) 0) (eq-eqb refusal 12 e)) i;
        hidden = accepted_left (hidden_in m keys bits n rules ws) 0 (λ z. let f = sym e ∙ z in omega arith) i;
      }

  -- one that is done
  pub given_done : refusal ≡ 0 → given ≡ record { refusal = 0; live = length live; hidden = hidden_in m keys bits n rules ws }
  unfolding found_with
  given_done e =
      λ i. record {
        refusal = e i;
        live = accepted_done (length live) (cond (eqb refusal 12) (length live) 0) e i;
        hidden = accepted_done (hidden_in m keys bits n rules ws) 0 e i;
      }

  pub ids_stay : (refusal ≡ 0 → ⊥) → ids_with m s keys bits n office wrong rules ws ids found_keys ≡ ids
  unfolding ids_with
  ids_stay h = accepted_left (over (map (λ x. x.id) live) ids) ids h

  pub keys_stay : (refusal ≡ 0 → ⊥) → found_keys_with m s keys bits n office wrong rules ws ids found_keys ≡ found_keys
  unfolding found_keys_with
  keys_stay h = accepted_left (over (map (λ x. x.key) live) found_keys) found_keys h

  pub ids_written : refusal ≡ 0 → ids_with m s keys bits n office wrong rules ws ids found_keys ≡ over (map (λ x. x.id) live) ids
  unfolding ids_with
  ids_written e = accepted_done (over (map (λ x. x.id) live) ids) ids e

  pub keys_written : refusal ≡ 0 → found_keys_with m s keys bits n office wrong rules ws ids found_keys ≡ over (map (λ x. x.key) live) found_keys
  unfolding found_keys_with
  keys_written e = accepted_done (over (map (λ x. x.key) live) found_keys) found_keys e
