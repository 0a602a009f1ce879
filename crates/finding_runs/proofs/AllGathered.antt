-- A run that walks, over good rules with known waivers, gathers the findings of all of them: it counts and writes the live ones, and counts the others. Rests on
-- StepCases, GoodRules and KnownIds.
use Prim.Native.Nat.{ℕ, ◌+◌}
use mathlib.Core.Path.{◌≡◌, refl, sym, ap, ◌∙◌}
use mathlib.Core.Bool.{Bool, true, false, not, ◌||◌}
use mathlib.Core.List.{List, [], ◌∷◌, ◌++◌, map}
use native.Mathlib.Omega.{arith}
use lib.ListN.{length, length-append, length-map}
use lib.Dec.{ltb}
use borrow.Author.Tests.{not-true}
use Rattle.keys.proofs.Cases.{decide, and_left, and_right}
use Rattle.definitions.specs.Picture.{Picture}
use Rattle.definitions.specs.Rules.{Finding, findings_of, all_findings, waivers_of, is_hidden, live_of, hidden_count}
use Rattle.definitions.specs.declared.Rule.{Rule}
use Rattle.laws.proofs.Waivers.{live_none, live_hidden, live_kept}
use Rattle.walk.specs.Given.{written}
use Rattle.walk.proofs.Written.{written_none, written-append}
use Rattle.finding_runs.specs.declared.state.RunState.{RunState}
use Rattle.finding_runs.specs.Run.{waivers_below, Progress, progress_of, counting, picture, is_unknown, gathered, rules_run}
use Rattle.finding_runs.proofs.Fold.{run_nil, run_cons}
use Rattle.finding_runs.proofs.StepCases.{step_gathers}
use Rattle.finding_runs.proofs.GoodRules.{good_from, good_first, good_rest}
use Rattle.finding_runs.proofs.KnownIds.{next_after, next_nil, next_id_cons, known_from, known_cons}

-- of two runs of findings
module _ (m : ℕ) (ws : List Finding) where
  pub live-append : (xs ys : List Finding) → live_of m ws (xs ++ ys) ≡ live_of m ws xs ++ live_of m ws ys
  live-append [] ys = ap (λ l. l ++ live_of m ws ys) (sym (live_none m ws))
  live-append (x ∷ xs) ys =
      decide (is_hidden m ws x)
      (λ e. live_hidden m ws x (xs ++ ys) e ∙ live-append xs ys ∙ ap (λ l. l ++ live_of m ws ys) (sym (live_hidden m ws x xs e)))
      (λ e. live_kept m ws x (xs ++ ys) e ∙ ap (λ l. x ∷ l) (live-append xs ys) ∙ ap (λ l. l ++ live_of m ws ys) (sym (live_kept m ws x xs e)))

  pub hidden_none : hidden_count m ws [] ≡ 0
  unfolding hidden_count
  hidden_none = refl

  pub hidden-append : (xs ys : List Finding) → hidden_count m ws (xs ++ ys) ≡ hidden_count m ws xs + hidden_count m ws ys
  unfolding hidden_count
  hidden-append [] ys = omega arith
  hidden-append (x ∷ xs) ys = let ih = hidden-append xs ys in omega arith

pub findings_nil : (m : ℕ) (p : Picture) → all_findings m p [] ≡ []
unfolding all_findings
findings_nil m p = refl

pub findings_cons : (m : ℕ) (p : Picture) (rule : Rule) (rules : List Rule) → all_findings m p (rule ∷ rules) ≡ findings_of m p rule ++ all_findings m p rules
unfolding all_findings
findings_cons m p rule rules = refl

map-append : (f : Finding → ℕ) (xs ys : List Finding) → map f (xs ++ ys) ≡ map f xs ++ map f ys
map-append f [] ys = refl
map-append f (x ∷ xs) ys = ap (λ l. f x ∷ l) (map-append f xs ys)

-- two progresses with the same numbers
same_progress : (st : RunState) {next next' passed passed' live live' hidden hidden' : ℕ} {ids ids' keys keys' : List ℕ}
    → next ≡ next'
    → passed ≡ passed'
    → live ≡ live'
    → hidden ≡ hidden'
    → ids ≡ ids'
    → keys ≡ keys'
    → progress_of (counting next passed live hidden st) ids keys ≡ progress_of (counting next' passed' live' hidden' st) ids' keys'
same_progress st a b c d e f = λ i. progress_of (counting (a i) (b i) (c i) (d i) st) (e i) (f i)

module _ (keys bits waiver_ids waiver_keys : List ℕ) where
  abbrev ws : List Finding
  ws = waivers_of waiver_ids waiver_keys

  -- the live findings of the rules, and how many are hidden
  abbrev live_all : RunState → List Rule → List Finding
  live_all st rules = live_of st.m ws (all_findings st.m (picture keys bits waiver_ids waiver_keys st) rules)

  abbrev hidden_all : RunState → List Rule → ℕ
  hidden_all st rules = hidden_count st.m ws (all_findings st.m (picture keys bits waiver_ids waiver_keys st) rules)

  abbrev pub all_gathered : List Rule → Progress → Progress
  all_gathered rules p =
      progress_of
      (counting (next_after p.state.next rules) (waivers_below (next_after p.state.next rules) ws)
      (p.state.live + length (live_all p.state rules))
      (p.state.hidden + hidden_all p.state rules)
      p.state)
      (written p.state.limit p.ids p.state.live (map (λ x. x.id) (live_all p.state rules)))
      (written p.state.limit p.keys p.state.live (map (λ x. x.key) (live_all p.state rules)))

  -- no rule
  none_gathered : (p : Progress) → p.state.passed ≡ waivers_below p.state.next ws → p ≡ all_gathered [] p
  none_gathered p passed =
      let st = p.state in
      let none : live_all st [] ≡ [] = ap (live_of st.m ws) (findings_nil st.m _) ∙ live_none st.m ws in
      let hid : hidden_all st [] ≡ 0 = ap (hidden_count st.m ws) (findings_nil st.m _) ∙ hidden_none st.m ws in
      same_progress st (sym (next_nil st.next)) (passed ∙ ap (λ x. waivers_below x ws) (sym (next_nil st.next)))
      (let e = ap length none in omega arith)
      (omega arith)
      (sym (ap (λ l. written st.limit p.ids st.live (map (λ x. x.id) l)) none ∙ written_none st.limit p.ids st.live))
      (sym (ap (λ l. written st.limit p.keys st.live (map (λ x. x.key) l)) none ∙ written_none st.limit p.keys st.live))

  -- one rule, and then the others
  module _ (rule : Rule) (rules : List Rule) (p : Progress) where
    abbrev st : RunState
    st = p.state

    abbrev found : List Finding
    found = findings_of st.m (picture keys bits waiver_ids waiver_keys st) rule

    live_two : live_all st (rule ∷ rules) ≡ live_of st.m ws found ++ live_all st rules
    live_two = ap (live_of st.m ws) (findings_cons st.m _ rule rules) ∙ live-append st.m ws found _

    hidden_two : hidden_all st (rule ∷ rules) ≡ hidden_count st.m ws found + hidden_all st rules
    hidden_two = ap (hidden_count st.m ws) (findings_cons st.m _ rule rules) ∙ hidden-append st.m ws found _

    wrote_two : (f : Finding → ℕ) (answer : List ℕ)
        → written st.limit (written st.limit answer st.live (map f (live_of st.m ws found))) (st.live + length (live_of st.m ws found)) (map f (live_all st rules))
        ≡ written st.limit answer st.live (map f (live_all st (rule ∷ rules)))
    wrote_two f answer =
        ap (λ k. written st.limit (written st.limit answer st.live (map f (live_of st.m ws found))) (st.live + k) (map f (live_all st rules)))
        (sym (length-map (live_of st.m ws found) f))
        ∙ sym (written-append st.limit answer st.live (map f (live_of st.m ws found)) (map f (live_all st rules)))
        ∙ ap (written st.limit answer st.live) (sym (map-append f (live_of st.m ws found) (live_all st rules)) ∙ ap (map f) (sym live_two))

    next_gathered : all_gathered rules (gathered keys bits waiver_ids waiver_keys rule p) ≡ all_gathered (rule ∷ rules) p
    next_gathered =
        same_progress st (sym (next_id_cons st.next rule rules)) (ap (λ x. waivers_below x ws) (sym (next_id_cons st.next rule rules)))
        (let e = ap length live_two in let g = length-append (live_of st.m ws found) (live_all st rules) in omega arith)
        (let e = hidden_two in omega arith)
        (wrote_two (λ x. x.id) p.ids)
        (wrote_two (λ x. x.key) p.keys)

  neither : (a b : Bool) → a ≡ false → b ≡ false → a || b ≡ false
  neither a b e f = rw (e, f)

  pub run_gathered : (rules : List Rule) (p : Progress)
      → p.state.refusal ≡ 0
      → p.state.mode ≡ 1
      → p.state.faulty ≡ false
      → p.state.passed ≡ waivers_below p.state.next ws
      → good_from p.state.m p.state.s p.state.next rules ≡ true
      → known_from ws p.state.next rules ≡ true
      → rules_run keys bits waiver_ids waiver_keys rules p ≡ all_gathered rules p
  run_gathered [] p zero walks sound passed good known = run_nil keys bits waiver_ids waiver_keys p ∙ none_gathered p passed
  run_gathered (rule ∷ rules) p zero walks sound passed good known =
      let st = p.state in
      let k = sym (known_cons ws st.next rule rules) ∙ known in
      let test = not (ltb (waivers_below st.next ws) (waivers_below rule.id ws)) in
      let seen : is_unknown keys bits waiver_ids waiver_keys rule st ≡ false = not-true (ltb (waivers_below st.next ws) (waivers_below rule.id ws)) (and_left test (known_from ws (rule.id + 1) rules) k) in
      run_cons keys bits waiver_ids waiver_keys rule rules p
      ∙ ap (rules_run keys bits waiver_ids waiver_keys rules)
      (step_gathers keys bits waiver_ids waiver_keys rule p zero walks (good_first st.m st.s st.next rule rules good) (neither st.faulty _ sound seen))
      ∙ run_gathered rules (gathered keys bits waiver_ids waiver_keys rule p) zero walks sound refl (good_rest st.m st.s st.next rule rules good) (and_right test (known_from ws (rule.id + 1) rules) k)
      ∙ next_gathered rule rules p
