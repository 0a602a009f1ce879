-- The waivers of one rule stand together: those below its id are the first ones, and the rule's own follow, with keys that ascend. So a finding of the
-- rule is hidden exactly where that part of the keys covers its block. Rests on FindingOrder, WaiverOrder, KnownIds, HiddenFindings and the merge (`finding`).
use Prim.Native.Nat.{ℕ, zero, suc, ◌+◌, ◌-◌, ◌≤◌, ◌<◌}
use mathlib.Core.Path.{◌≡◌, refl, sym, ap, ap₂, ◌∙◌}
use mathlib.Core.Bool.{true}
use mathlib.Core.List.{List, [], ◌∷◌, map, Memᴰ}
use native.Mathlib.Omega.{arith}
use lib.ListN.{length, get_or, take, drop, length-map}
use lib.Dec.{eqb}
use borrow.Author.Tests.{eqb-true, eq-eqb, ne_eqb}
use Rattle.keys.specs.Key.{valid_key}
use Rattle.keys.proofs.Cases.{decide, split, and_left, and_right}
use Rattle.definitions.specs.Read.{room}
use Rattle.definitions.specs.Rules.{Finding, finding_of, waivers_of, live_of, hidden_count, findings_ascend}
use Rattle.definitions.specs.Covered.{waived_keys, is_covered}
use Rattle.laws.proofs.FindingOrder.{InOrder, no_finding, finding, ascend_rest, ascend_order}
use Rattle.laws.proofs.HiddenFindings.{hidden_covered}
use Rattle.laws.proofs.Waivers.{live_hidden, live_kept, live_none, live_and_hidden}
use Rattle.finding_runs.specs.Run.{waivers_below, keys_valid, waivers_good}
use Rattle.finding.specs.Covering.{Waived, none, one}
use Rattle.finding.specs.Sift.{not_waived}
use Rattle.finding_runs.proofs.WaiverPlaces.{waivers-length}
use Rattle.finding_runs.proofs.WaiverOrder.{earlier_at}
use Rattle.finding_runs.proofs.GoodWaivers.{good_in_order, good_valid}
use Rattle.finding_runs.proofs.KnownIds.{below_in, below_out, below_nil, below_all}
use Rattle.finding.proofs.Merge.{not_waived_nil, waived_out, waived_in}

-- ---- the waivers below x are the first ones
below_first : (ids keys : List ℕ) → findings_ascend (waivers_of ids keys) ≡ true → (x i : ℕ) → i < room ids keys → get_or ids i 0 < x → i < waivers_below x (waivers_of ids keys)
unfolding waivers_of
below_first [] keys asc x i h low = absurd (omega arith)
below_first (id ∷ ids) [] asc x i h low = absurd (omega arith)
below_first (id ∷ ids) (κ ∷ keys) asc x zero h low = let e = below_in x (finding_of id κ) (waivers_of ids keys) low in omega arith
below_first (id ∷ ids) (κ ∷ keys) asc x (suc i) h low =
    let up = (earlier_at (id ∷ ids) (κ ∷ keys) asc 0 (suc i) (omega arith) h).ids in
    let e = below_in x (finding_of id κ) (waivers_of ids keys) (omega arith) in
    let ih = below_first ids keys (ascend_rest _ _ asc) x i (omega arith) low in
    omega arith

-- the first waiver is at or past x: then so is every other
none_below : (ids keys : List ℕ) (id κ : ℕ) → findings_ascend (finding_of id κ ∷ waivers_of ids keys) ≡ true → (x i : ℕ) → x ≤ id → i < room ids keys → x ≤ get_or ids i 0
unfolding waivers_of
none_below ids keys id κ asc x i high h = let up = (earlier_at (id ∷ ids) (κ ∷ keys) asc 0 (suc i) (omega arith) (omega arith)).ids in omega arith

one_more : (x n id : ℕ) (ids : List ℕ) → id < x → ((i : ℕ) → i < n → get_or ids i 0 < x) → (i : ℕ) → i < suc n → get_or (id ∷ ids) i 0 < x
one_more x n id ids low rest zero h = low
one_more x n id ids low rest (suc i) h = rest i (omega arith)

first_below : (ids keys : List ℕ) → findings_ascend (waivers_of ids keys) ≡ true → (x i : ℕ) → i < waivers_below x (waivers_of ids keys) → get_or ids i 0 < x
unfolding waivers_of
first_below [] keys asc x i h = let e = below_nil x in absurd (omega arith)
first_below (id ∷ ids) [] asc x i h = let e = below_nil x in absurd (omega arith)
first_below (id ∷ ids) (κ ∷ keys) asc x i h =
    split id x
    (λ low. let e = below_in x (finding_of id κ) (waivers_of ids keys) low in
    one_more x (waivers_below x (waivers_of ids keys)) id ids low (first_below ids keys (ascend_rest _ _ asc) x) i (omega arith))
    (λ high.
    let e = below_out x (finding_of id κ) (waivers_of ids keys) high in
    let few = below_all x (waivers_of ids keys) in
    let all = waivers-length ids keys in
    let at = none_below ids keys id κ asc x i high (omega arith) in
    let ih = first_below ids keys (ascend_rest _ _ asc) x i (omega arith) in
    absurd (omega arith))

module _ (ids keys : List ℕ) (asc : findings_ascend (waivers_of ids keys) ≡ true) where
  pub below_at : (x i : ℕ) → i < room ids keys → get_or ids i 0 < x → i < waivers_below x (waivers_of ids keys)
  below_at = below_first ids keys asc

  pub at_below : (x i : ℕ) → i < waivers_below x (waivers_of ids keys) → get_or ids i 0 < x
  at_below = first_below ids keys asc

  pub below_room : (x : ℕ) → waivers_below x (waivers_of ids keys) ≤ room ids keys
  below_room x = let few = below_all x (waivers_of ids keys) in let all = waivers-length ids keys in omega arith

-- ---- the rule's own
-- where the first waiver is at or past x, none after it is below
none_counted : (ids keys : List ℕ) (id κ : ℕ) → findings_ascend (finding_of id κ ∷ waivers_of ids keys) ≡ true → (x : ℕ) → x ≤ id → waivers_below x (waivers_of ids keys) ≡ 0
none_counted ids keys id κ asc x high =
    let rest = ascend_rest _ _ asc in
    let most = below_room ids keys rest x in
    split 0 (waivers_below x (waivers_of ids keys))
    (λ some.
    let low = at_below ids keys rest x 0 some in
    let up = none_below ids keys id κ asc x 0 high (omega arith) in
    absurd (omega arith))
    (λ none. omega arith)

-- the keys from a place to another
abbrev pub keys_between : ℕ → ℕ → List ℕ → List ℕ
keys_between first end keys = take (end - first) (drop first keys)

between_none : {first end : ℕ} (keys : List ℕ) → end ≡ first → keys_between first end keys ≡ []
between_none {first} {end} keys e = let none : end - first ≡ 0 = omega arith in ap (λ n. take n (drop first keys)) none

between_next : {first end a b : ℕ} (κ : ℕ) (keys : List ℕ) → first ≡ suc a → end ≡ suc b → keys_between first end (κ ∷ keys) ≡ keys_between a b keys
between_next {first} {end} {a} {b} κ keys e f = let same : end - first ≡ b - a = omega arith in ap₂ (λ n i. take n (drop i (κ ∷ keys))) same e

between_first : {first end a b : ℕ} (κ : ℕ) (keys : List ℕ) → first ≡ 0 → end ≡ suc b → a ≡ 0 → keys_between first end (κ ∷ keys) ≡ κ ∷ keys_between a b keys
between_first {first} {end} {a} {b} κ keys e f g =
    let more : end - first ≡ suc b = omega arith in
    let all : b ≡ b - a = omega arith in
    ap₂ (λ n i. take n (drop i (κ ∷ keys))) more e ∙ ap (λ l. κ ∷ l) (ap₂ (λ n i. take n (drop i keys)) all (sym g))

-- one waiver more
keys_own : (id κ : ℕ) (ws : List Finding) → waived_keys id (finding_of id κ ∷ ws) ≡ κ ∷ waived_keys id ws
unfolding waived_keys
keys_own id κ ws = rw (eq-eqb id id refl)

keys_other : (id v κ : ℕ) (ws : List Finding) → (v ≡ id → ⊥) → waived_keys id (finding_of v κ ∷ ws) ≡ waived_keys id ws
unfolding waived_keys
keys_other id v κ ws other = rw (ne_eqb v id other)

-- the keys of the rule's waivers are a part of the slice
pub own_keys : (ids keys : List ℕ) (id : ℕ) → findings_ascend (waivers_of ids keys) ≡ true
    → keys_between (waivers_below id (waivers_of ids keys)) (waivers_below (id + 1) (waivers_of ids keys)) keys ≡ waived_keys id (waivers_of ids keys)
unfolding waivers_of waived_keys
own_keys [] keys id asc = between_none keys (below_nil (id + 1) ∙ sym (below_nil id))
own_keys (v ∷ ids) [] id asc = between_none [] (below_nil (id + 1) ∙ sym (below_nil id))
own_keys (v ∷ ids) (κ ∷ keys) id asc =
    let ws = waivers_of ids keys in
    let ih = own_keys ids keys id (ascend_rest _ _ asc) in
    split v id
    (λ low.
    between_next κ keys (below_in id (finding_of v κ) ws low) (below_in (id + 1) (finding_of v κ) ws (omega arith))
    ∙ ih
    ∙ sym (keys_other id v κ ws (λ e. omega arith)))
    (λ over.
    let none = below_out id (finding_of v κ) ws over ∙ none_counted ids keys v κ asc id over in
    split id v
    (λ high.
    let end = below_out (id + 1) (finding_of v κ) ws (omega arith) ∙ none_counted ids keys v κ asc (id + 1) (omega arith) in
    let rest = none_counted ids keys v κ asc (id + 1) (omega arith) ∙ sym (none_counted ids keys v κ asc id over) in
    between_none (κ ∷ keys) (end ∙ sym none) ∙ sym (between_none keys rest) ∙ ih ∙ sym (keys_other id v κ ws (λ e. omega arith)))
    (λ under.
    let same : v ≡ id = omega arith in
    between_first κ keys none (below_in (id + 1) (finding_of v κ) ws (omega arith)) (none_counted ids keys v κ asc id over)
    ∙ ap (λ l. κ ∷ l) ih
    ∙ sym (ap (λ x. waived_keys id (finding_of x κ ∷ ws)) same ∙ keys_own id κ ws)))

-- they are valid and ascend
waived_own : (m id lo : ℕ) {ws : List Finding} → InOrder ws → keys_valid m ws ≡ true → ((w : Finding) → Memᴰ w ws → w.id ≡ id → lo ≤ w.key)
    → Waived m lo (waived_keys id ws)
unfolding waived_keys keys_valid
waived_own m id lo no_finding valid low = none
waived_own m id lo (finding {x} {xs} later t) valid low =
    let key = and_left (valid_key m x.key) (keys_valid m xs) valid in
    let keys = and_right (valid_key m x.key) (keys_valid m xs) valid in
    decide (eqb x.id id)
    (λ e.
    let same = eqb-true x.id id e in
    rw e (one (low x (Memᴰ.head refl) same) key (waived_own m id (suc x.key) t keys (λ w i rule. (later w i).keys (same ∙ sym rule)))))
    (λ e. rw e (waived_own m id lo t keys (λ w i rule. low w (Memᴰ.tail i) rule)))

module _ (m : ℕ) (ws : List Finding) (id : ℕ) where
  pub own_waived : waivers_good m ws ≡ true → Waived m 0 (waived_keys id ws)
  own_waived good = waived_own m id 0 (ascend_order ws (good_in_order m ws good)) (good_valid m ws good) (λ w i rule. omega arith)

  -- a finding of the rule is hidden exactly where they cover its block
  pub own_live : (given : List ℕ) → live_of m ws (map (finding_of id) given) ≡ map (finding_of id) (not_waived m (waived_keys id ws) given)
  own_live [] = live_none m ws ∙ ap (map (finding_of id)) (sym (not_waived_nil m (waived_keys id ws)))
  own_live (key ∷ given) =
      let own = waived_keys id ws in
      let hides = hidden_covered m ws (finding_of id key) in
      decide (is_covered m own key)
      (λ e. live_hidden m ws (finding_of id key) (map (finding_of id) given) (hides ∙ e)
      ∙ own_live given
      ∙ ap (map (finding_of id)) (sym (waived_out m own key given e)))
      (λ e. live_kept m ws (finding_of id key) (map (finding_of id) given) (hides ∙ e)
      ∙ ap (λ l. finding_of id key ∷ l) (own_live given)
      ∙ ap (map (finding_of id)) (sym (waived_in m own key given e)))

  pub own_hidden : (given : List ℕ) → hidden_count m ws (map (finding_of id) given) + length (not_waived m (waived_keys id ws) given) ≡ length given
  own_hidden given =
      let both = live_and_hidden m ws (map (finding_of id) given) in
      let all = length-map given (finding_of id) in
      let live = ap length (own_live given) ∙ length-map (not_waived m (waived_keys id ws) given) (finding_of id) in
      omega arith
