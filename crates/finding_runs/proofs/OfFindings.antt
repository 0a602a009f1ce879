-- What findings answers has one of its seven numbers, with the counts that C is told beside it. Rests on the laws of tables.
use Prim.Native.Nat.{ℕ}
use mathlib.Core.Path.{◌≡◌, refl, ap, ◌∙◌}
use mathlib.Core.Bool.{Bool, true, false, cond, ◌||◌}
use mathlib.Core.List.{List, [], ◌∷◌}
use lib.ListN.{length}
use lib.Dec.{ltb, eqb}
use borrow.Author.Tests.{ne_eqb}
use Rattle.definitions.specs.Read.{room}
use Rattle.definitions.specs.Rules.{Finding, bad_rules, bad_waivers}
use Rattle.definitions.specs.Offices.{bad_office}
use Rattle.definitions.specs.Refusal.{Row, ◌gives◌, first, bad_settings, no_list}
use Rattle.definitions.specs.Calls.Findings.{live_in, hidden_in, refusal_with, found_with}
use Rattle.definitions.specs.declared.Rule.{Rule}
use Rattle.laws.proofs.First.{accepted_left}
use Rattle.finding_runs.specs.Run.{is_findings_number, OfFindings}

-- one row more, whose number is one of them
one_row : (test : Bool) (number : ℕ) (rows : List Row) → is_findings_number number ≡ true → is_findings_number (first rows) ≡ true
    → is_findings_number (first (test gives number ∷ rows)) ≡ true
unfolding first
one_row true number rows e f = e
one_row false number rows e f = f

no_row : is_findings_number (first []) ≡ true
unfolding first
no_row = refl

module _ (m s : ℕ) (keys bits : List ℕ) (n office : ℕ) (wrong : Bool) (rules : List Rule) (ws : List Finding) (ids found_keys : List ℕ) where
  abbrev live : List Finding
  live = live_in m keys bits n rules ws

  abbrev refusal : ℕ
  refusal = refusal_with m s keys bits n office wrong rules ws ids found_keys

  one_of : is_findings_number refusal ≡ true
  unfolding refusal_with
  one_of =
      one_row (bad_office office) 21 _ refl
      (one_row (bad_settings m s) 1 _ refl
      (one_row (no_list m s keys bits n) 4 _ refl
      (one_row (bad_rules m s rules) 13 _ refl
      (one_row (wrong || bad_waivers m rules ws) 14 _ refl
      (one_row (ltb (room ids found_keys) (length live)) 12 _ refl no_row)))))

  pub of_findings : OfFindings (found_with m s keys bits n office wrong rules ws ids found_keys)
  unfolding found_with
  of_findings =
      record {
        number = one_of;
        places = λ not-zero not_full.
            accepted_left (length live) (cond (eqb refusal 12) (length live) 0) not-zero ∙ ap (λ t. cond t (length live) 0) (ne_eqb refusal 12 not_full);
        hidden = λ not-zero. accepted_left (hidden_in m keys bits n rules ws) 0 not-zero;
      }
