-- The live findings: those that waivers do not hide, in their order, and the hidden ones counted (specification S13.10 to S13.13). Rests on HiddenFindings.
use Prim.Native.Nat.{ℕ, ◌+◌}
use mathlib.Core.Path.{◌≡◌, refl, sym, ap, ◌∙◌}
use mathlib.Core.Logic.{◌↔◌, ⊎_elim}
use mathlib.Core.Bool.{true, false}
use mathlib.Core.List.{List, [], ◌∷◌, ◌++◌, Memᴰ}
use mathlib.Core.List.{Sublistᴰ}
use native.Mathlib.Omega.{arith}
use lib.ListN.{length}
use Rattle.keys.proofs.Cases.{decide}
use Rattle.definitions.specs.Rules.{Finding, is_hidden, live_of, hidden_count}
use Rattle.laws.proofs.HiddenFindings.{LeftOver, shown_exactly, other_rule_at}

module _ (m : ℕ) where
  -- a hidden finding is left out
  pub live_hidden : (ws : List Finding) (x : Finding) (xs : List Finding) → is_hidden m ws x ≡ true → live_of m ws (x ∷ xs) ≡ live_of m ws xs
  unfolding live_of
  live_hidden ws x xs e = rw e

  -- another is kept
  pub live_kept : (ws : List Finding) (x : Finding) (xs : List Finding) → is_hidden m ws x ≡ false → live_of m ws (x ∷ xs) ≡ x ∷ live_of m ws xs
  unfolding live_of
  live_kept ws x xs e = rw e

  -- of no findings none is live
  pub live_none : (ws : List Finding) → live_of m ws [] ≡ []
  unfolding live_of
  live_none ws = refl

  -- the live findings are findings in their order: a sublist
  pub live_in_order : (ws xs : List Finding) → Sublistᴰ (live_of m ws xs) xs
  live_in_order ws [] = rw (live_none ws) Sublistᴰ.slnil
  live_in_order ws (x ∷ xs) =
      decide (is_hidden m ws x)
      (λ e. rw (live_hidden ws x xs e) (Sublistᴰ.cons (live_in_order ws xs)))
      (λ e. rw (live_kept ws x xs e) (Sublistᴰ.cons-cons refl (live_in_order ws xs)))

  -- a live finding is a finding that is not hidden
  pub live_only : (ws xs : List Finding) {x : Finding} → Memᴰ x (live_of m ws xs) → Memᴰ x xs × (is_hidden m ws x ≡ false)
  live_only ws [] {x} i = absurd (mathlib.Core.List.Memᴰ.not-nil (rw (live_none ws) at i))
  live_only ws (y ∷ xs) {x} i =
      decide (is_hidden m ws y)
      (λ e. let ih = live_only ws xs (rw (live_hidden ws y xs e) at i) in (mathlib.Core.List.Memᴰ.tail ih.0, ih.1))
      (λ e. ⊎_elim
      (λ (h : x ≡ y). (mathlib.Core.List.Memᴰ.head h, ap (λ z. is_hidden m ws z) h ∙ e))
      (λ (h : Memᴰ x (live_of m ws xs)). let ih = live_only ws xs h in (mathlib.Core.List.Memᴰ.tail ih.0, ih.1))
      (mathlib.Core.List.Memᴰ.cases_cons (rw (live_kept ws y xs e) at i)))

  -- a finding that is not hidden is live
  pub live_every : (ws : List Finding) {x : Finding} {xs : List Finding} → Memᴰ x xs → is_hidden m ws x ≡ false → Memᴰ x (live_of m ws xs)
  live_every ws (mathlib.Core.List.Memᴰ.head {x = y} {xs} e) shown = rw (live_kept ws y xs (ap (λ z. is_hidden m ws z) (sym e) ∙ shown)) (mathlib.Core.List.Memᴰ.head e)
  live_every ws (mathlib.Core.List.Memᴰ.tail {x = y} {xs} i) shown =
      decide (is_hidden m ws y)
      (λ e. rw (live_hidden ws y xs e) (live_every ws i shown))
      (λ e. rw (live_kept ws y xs e) (mathlib.Core.List.Memᴰ.tail (live_every ws i shown)))

  -- a finding is live exactly when it is one of the findings and some pixel of its block lies in no waiver of its rule
  pub live_exactly : (ws xs : List Finding) {x : Finding} → Memᴰ x (live_of m ws xs) ↔ (Memᴰ x xs × LeftOver m ws x)
  live_exactly ws xs {x} =
      let shown = shown_exactly m ws x in
      (λ i. let h = live_only ws xs i in (h.0, shown.0 h.1), λ h. live_every ws h.0 (shown.1 h.1))

  -- so a finding is live with a waiver of another rule, at any place, exactly when it is without
  pub live_other_rule : (ws : List Finding) (w : Finding) (vs xs : List Finding) {x : Finding} → (w.id ≡ x.id → ⊥)
      → Memᴰ x (live_of m (ws ++ (w ∷ vs)) xs) ↔ Memᴰ x (live_of m (ws ++ vs) xs)
  live_other_rule ws w vs xs {x} other =
      let e = other_rule_at m ws w vs x other in (
        λ i. let h = live_only (ws ++ (w ∷ vs)) xs i in live_every (ws ++ vs) h.0 (sym e ∙ h.1),
        λ i. let h = live_only (ws ++ vs) xs i in live_every (ws ++ (w ∷ vs)) h.0 (e ∙ h.1),
      )

  -- each finding is live or counted as hidden
  pub live_and_hidden : (ws xs : List Finding) → length (live_of m ws xs) + hidden_count m ws xs ≡ length xs
  unfolding hidden_count live_of
  live_and_hidden ws [] = refl
  live_and_hidden ws (x ∷ xs) = let ih = live_and_hidden ws xs in decide (is_hidden m ws x) (λ e. rw e (omega arith)) (λ e. rw e (omega arith))
