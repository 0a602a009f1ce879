-- Every waiver's id is a rule's (refusal 14), as a run finds it: before each rule no waiver is left behind, and after the last none is left. Waivers are
-- counted by id, so this holds in any order of theirs. Rests on GoodRules.
use Prim.Native.Nat.{ℕ, suc, ◌+◌, ◌≤◌, ◌<◌}
use mathlib.Core.Path.{◌≡◌, refl, sym, ap, ◌∙◌}
use mathlib.Core.Bool.{Bool, true, not, ◌&&◌, true≢false}
use mathlib.Core.Logic.{⊎_elim}
use mathlib.Core.List.{List, [], ◌∷◌, Memᴰ}
use native.Mathlib.Omega.{arith}
use lib.ListN.{length}
use lib.Dec.{ltb, eqb}
use borrow.Author.Tests.{lt-ltb, le-ltb, ltb-false, eqb-true, eq-eqb, not-true}
use Rattle.keys.proofs.Cases.{split, and_left, and_right, and_both, or_either, or_left, or_right}
use Rattle.definitions.specs.Rules.{Finding, is_rule_id}
use Rattle.definitions.specs.declared.Rule.{Rule}
use Rattle.finding_runs.specs.Run.{waivers_below}
use Rattle.finding_runs.proofs.GoodRules.{good_from, good_rest, good_low}

-- ---- how many waivers are below an id
pub below_in : (x : ℕ) (w : Finding) (ws : List Finding) → w.id < x → waivers_below x (w ∷ ws) ≡ suc (waivers_below x ws)
unfolding waivers_below
below_in x w ws h = rw (lt-ltb w.id x h) (omega arith)

pub below_out : (x : ℕ) (w : Finding) (ws : List Finding) → x ≤ w.id → waivers_below x (w ∷ ws) ≡ waivers_below x ws
unfolding waivers_below
below_out x w ws h = rw (le-ltb w.id x h) (omega arith)

pub below_nil : (x : ℕ) → waivers_below x [] ≡ 0
unfolding waivers_below
below_nil x = refl

-- a larger id has no fewer
pub below_mono : (x y : ℕ) (ws : List Finding) → x ≤ y → waivers_below x ws ≤ waivers_below y ws
below_mono x y [] h = let a = below_nil x in let b = below_nil y in omega arith
below_mono x y (w ∷ ws) h =
    let ih = below_mono x y ws h in
    split w.id x
    (λ low. let a = below_in x w ws low in let b = below_in y w ws (omega arith) in omega arith)
    (λ high. let a = below_out x w ws high in
    split w.id y (λ low. let b = below_in y w ws low in omega arith) (λ over. let b = below_out y w ws over in omega arith))

-- and at most all
pub below_all : (x : ℕ) (ws : List Finding) → waivers_below x ws ≤ length ws
below_all x [] = let a = below_nil x in omega arith
below_all x (w ∷ ws) =
    let ih = below_all x ws in
    split w.id x (λ low. let a = below_in x w ws low in omega arith) (λ high. let a = below_out x w ws high in omega arith)

-- no waiver's id is from x on and below y
abbrev pub Gap : ℕ → ℕ → List Finding → Type 0
Gap x y ws = (w : Finding) → Memᴰ w ws → x ≤ w.id → w.id < y → ⊥

-- then there are no more below y than below x; and the other way
pub gap_below : (x y : ℕ) (ws : List Finding) → Gap x y ws → waivers_below y ws ≤ waivers_below x ws
gap_below x y [] gap = let a = below_nil x in let b = below_nil y in omega arith
gap_below x y (w ∷ ws) gap =
    let ih = gap_below x y ws (λ v i. gap v (Memᴰ.tail i)) in
    split w.id x
    (λ low. let a = below_in x w ws low in
    split w.id y (λ in-y. let b = below_in y w ws in-y in omega arith) (λ out-y. let b = below_out y w ws out-y in omega arith))
    (λ high. let a = below_out x w ws high in
    split w.id y (λ low. absurd (gap w (Memᴰ.head refl) high low)) (λ over. let b = below_out y w ws over in omega arith))

gap_at : (x y : ℕ) (v : Finding) {ws : List Finding} → x ≤ y → waivers_below y ws ≤ waivers_below x ws → Memᴰ v ws → x ≤ v.id → v.id < y → ⊥
gap_at x y v h e (Memᴰ.head {x = w} {xs = ws} is) from before =
    let i = ap (λ z. z.id) is in
    let a = below_out x w ws (omega arith) in
    let b = below_in y w ws (omega arith) in
    let c = below_mono x y ws h in
    omega arith
gap_at x y v h e (Memᴰ.tail {x = w} {xs = ws} i) from before =
    gap_at x y v {ws = ws} h
    (split w.id x
    (λ low. let a = below_in x w ws low in let b = below_in y w ws (omega arith) in omega arith)
    (λ high. let a = below_out x w ws high in
    split w.id y (λ low. let b = below_in y w ws low in omega arith) (λ over. let b = below_out y w ws over in omega arith)))
    i from before

pub below_gap : (x y : ℕ) {ws : List Finding} → x ≤ y → waivers_below y ws ≤ waivers_below x ws → Gap x y ws
below_gap x y h e v = gap_at x y v h e

-- all are below y exactly where none is from y on
pub below_every : (y : ℕ) (w : Finding) {ws : List Finding} → length ws ≤ waivers_below y ws → Memᴰ w ws → w.id < y
below_every y v e (Memᴰ.head {x = w} {xs = ws} is) =
    let i = ap (λ z. z.id) is in
    split w.id y (λ low. omega arith) (λ high. let a = below_out y w ws high in let b = below_all y ws in absurd (omega arith))
below_every y v e (Memᴰ.tail {x = w} {xs = ws} i) =
    below_every y v {ws = ws}
    (split w.id y (λ low. let a = below_in y w ws low in omega arith) (λ high. let a = below_out y w ws high in let b = below_all y ws in absurd (omega arith)))
    i

pub every_below : (y : ℕ) (ws : List Finding) → ((w : Finding) → Memᴰ w ws → w.id < y) → length ws ≤ waivers_below y ws
every_below y [] h = omega arith
every_below y (w ∷ ws) h =
    let a = below_in y w ws (h w (Memᴰ.head refl)) in
    let b = every_below y ws (λ v i. h v (Memᴰ.tail i)) in
    omega arith

-- ---- the rules' ids
-- the least id that may come after the rules
unfoldable pub next_after : ℕ → List Rule → ℕ
next_after next [] = next
next_after next (rule ∷ rules) = next_after (rule.id + 1) rules

pub next_nil : (next : ℕ) → next_after next [] ≡ next
unfolding next_after
next_nil next = refl

pub next_id_cons : (next : ℕ) (rule : Rule) (rules : List Rule) → next_after next (rule ∷ rules) ≡ next_after (rule.id + 1) rules
unfolding next_after
next_id_cons next rule rules = refl

-- before each rule no waiver is left behind
unfoldable pub known_from : List Finding → ℕ → List Rule → Bool
known_from ws next [] = true
known_from ws next (rule ∷ rules) = not (ltb (waivers_below next ws) (waivers_below rule.id ws)) && known_from ws (rule.id + 1) rules

pub known_cons : (ws : List Finding) (next : ℕ) (rule : Rule) (rules : List Rule)
    → known_from ws next (rule ∷ rules) ≡ not (ltb (waivers_below next ws) (waivers_below rule.id ws)) && known_from ws (rule.id + 1) rules
unfolding known_from
known_cons ws next rule rules = refl

-- the id is that of some rule from the least on
abbrev pub AllKnown : List Finding → ℕ → List Rule → Type 0
AllKnown ws next rules = (w : Finding) → Memᴰ w ws → next ≤ w.id → is_rule_id rules w.id ≡ true

-- a rule's id is at least the least that may come
id_low : (m s next : ℕ) (rules : List Rule) (id : ℕ) → good_from m s next rules ≡ true → is_rule_id rules id ≡ true → next ≤ id
unfolding is_rule_id
id_low m s next [] id good is = absurd (true≢false (sym is))
id_low m s next (rule ∷ rules) id good is =
    let low = good_low m s next rule rules good in
    ⊎_elim (λ (e : eqb rule.id id ≡ true). let same = eqb-true rule.id id e in omega arith)
    (λ (e : is_rule_id rules id ≡ true). let later = id_low m s (rule.id + 1) rules id (good_rest m s next rule rules good) e in omega arith)
    (or_either (eqb rule.id id) (is_rule_id rules id) is)

no_gap : (ws : List Finding) (x y : ℕ) → not (ltb (waivers_below x ws) (waivers_below y ws)) ≡ true → waivers_below y ws ≤ waivers_below x ws
no_gap ws x y e = ltb-false (waivers_below x ws) (waivers_below y ws) (not-true (ltb (waivers_below x ws) (waivers_below y ws)) e)

-- what a run finds known is known
pub known_ids : (m s : ℕ) (ws : List Finding) (next : ℕ) (rules : List Rule) → good_from m s next rules ≡ true → known_from ws next rules ≡ true
    → length ws ≤ waivers_below (next_after next rules) ws
    → AllKnown ws next rules
unfolding is_rule_id
known_ids m s ws next [] good known none w i from =
    let low = below_every next w (let e = ap (λ x. waivers_below x ws) (next_nil next) in omega arith) i in
    absurd (omega arith)
known_ids m s ws next (rule ∷ rules) good known none w i from =
    let k = sym (known_cons ws next rule rules) ∙ known in
    let gap = below_gap next rule.id {ws = ws} (good_low m s next rule rules good) (no_gap ws next rule.id (and_left _ (known_from ws (rule.id + 1) rules) k)) in
    split w.id rule.id
    (λ before. absurd (gap w i from before))
    (λ not_before.
    split rule.id w.id
    (λ after. or_right (eqb rule.id w.id) (is_rule_id rules w.id)
    (known_ids m s ws (rule.id + 1) rules (good_rest m s next rule rules good)
    (and_right (not (ltb (waivers_below next ws) (waivers_below rule.id ws))) _ k)
    (let e = ap (λ x. waivers_below x ws) (next_id_cons next rule rules) in omega arith)
    w i (omega arith)))
    (λ at. or_left (eqb rule.id w.id) (is_rule_id rules w.id) (eq-eqb rule.id w.id (omega arith))))

-- what is known a run finds known
pub record FoundKnown (ws : List Finding) (next : ℕ) (rules : List Rule) : Type 0 where
  pub known : known_from ws next rules ≡ true
  pub none : length ws ≤ waivers_below (next_after next rules) ws

pub ids_known : (m s : ℕ) (ws : List Finding) (next : ℕ) (rules : List Rule) → good_from m s next rules ≡ true → AllKnown ws next rules → FoundKnown ws next rules
unfolding known_from is_rule_id
ids_known m s ws next [] good all =
    record {
      known = refl;
      none = let e = ap (λ x. waivers_below x ws) (next_nil next) in
          let h = every_below next ws (λ w i. split w.id next (λ low. low) (λ high. absurd (true≢false (sym (all w i high))))) in
          omega arith;
    }
ids_known m s ws next (rule ∷ rules) good all =
    let rest-good = good_rest m s next rule rules good in
    let gap = gap_below next rule.id ws
    (λ w i from before.
    ⊎_elim (λ (e : eqb rule.id w.id ≡ true). let same = eqb-true rule.id w.id e in omega arith)
    (λ (e : is_rule_id rules w.id ≡ true). let low = id_low m s (rule.id + 1) rules w.id rest-good e in omega arith)
    (or_either (eqb rule.id w.id) (is_rule_id rules w.id) (all w i from))) in
    let rest = ids_known m s ws (rule.id + 1) rules rest-good
    (λ w i from.
    ⊎_elim (λ (e : eqb rule.id w.id ≡ true). let same = eqb-true rule.id w.id e in absurd (omega arith))
    (λ (e : is_rule_id rules w.id ≡ true). e)
    (or_either (eqb rule.id w.id) (is_rule_id rules w.id) (all w i (let low = good_low m s next rule rules good in omega arith)))) in
    record {
      known = and_both _ _ (ap not (le-ltb (waivers_below next ws) (waivers_below rule.id ws) gap)) rest.known;
      none = let e = ap (λ x. waivers_below x ws) (next_id_cons next rule rules) in let h = rest.none in omega arith;
    }
