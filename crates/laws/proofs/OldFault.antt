-- Waivers and paints: a waiver stays with its rule and its pixels, never with a place in the list, whatever the picture was before; and the call's
-- answer is exactly the live findings, with counts that make up all. Rests on HiddenFindings and Waivers.
use Prim.Native.Nat.{ℕ, ◌+◌}
use mathlib.Core.Path.{◌≡◌, refl, ap, ap₂, ◌∙◌}
use mathlib.Core.Logic.{◌↔◌}
use mathlib.Core.Bool.{Bool}
use mathlib.Core.List.{List, [], ◌∷◌, map, Memᴰ}
use lib.ListN.{length, take, length-map}
use lib.Seq.{take_at}
use Rattle.definitions.specs.Picture.{Picture}
use Rattle.definitions.specs.Read.{records_of, picture_of}
use Rattle.definitions.specs.Buffer.{over}
use Rattle.definitions.specs.Rules.{Finding, all_findings, waivers_of, live_of}
use Rattle.definitions.specs.Calls.Findings.{live_in, hidden_in, refusal_with, found_with, ids_with, found_keys_with}
use Rattle.definitions.specs.declared.Rule.{Rule}
use Rattle.laws.proofs.First.{accepted_done}
use Rattle.laws.proofs.HiddenFindings.{WaivedBy, EveryPixelOf, LeftOver}
use Rattle.laws.proofs.Waivers.{live_exactly, live_and_hidden}

module _ (m : ℕ) (rules : List Rule) (ws : List Finding) where
  -- the rules' findings in a picture, and those that the waivers do not hide
  abbrev findings_in : Picture → List Finding
  findings_in p = all_findings m p rules

  abbrev live : Picture → List Finding
  live p = live_of m ws (findings_in p)

  -- a finding of the picture after a paint is live exactly when some pixel of its block lies in no waiver of its rule
  pub live_after : (q : Picture) {x : Finding} → Memᴰ x (findings_in q) → Memᴰ x (live q) ↔ LeftOver m ws x
  live_after q found = let exactly = live_exactly m ws (findings_in q) in (λ i. (exactly.0 i).1, λ left. exactly.1 (found, left))

  -- The fault of the old program cannot happen: p is the picture before a paint and q the one after it. A finding of both is live after the paint
  -- exactly when it was live before: so the waivers that hid it still do, and hide no other
  pub live_as_before : (p q : Picture) {x : Finding} → Memᴰ x (findings_in p) → Memᴰ x (findings_in q) → Memᴰ x (live q) ↔ Memᴰ x (live p)
  live_as_before p q before after =
      let now = live_after q after in
      let past = live_after p before in
      (λ i. past.1 (now.0 i), λ i. now.1 (past.0 i))

  -- nor the fault that specification S13.17 rules out: where every pixel of a finding was waived, none comes up, whatever blocks the pixels were waived in
  pub accepted_not_live : (q : Picture) {x : Finding} → EveryPixelOf m x.key (WaivedBy m ws x.id) → Memᴰ x (live q) → ⊥
  accepted_not_live q every i = let left = ((live_exactly m ws (findings_in q)).0 i).1 in left.holds (every left.row left.column left.within)

-- ids and keys of findings, read together, are the findings
found_own : (xs : List Finding) → waivers_of (map (λ x. x.id) xs) (map (λ x. x.key) xs) ≡ xs
unfolding waivers_of
found_own [] = refl
found_own (x ∷ xs) = ap (λ rest. x ∷ rest) (found_own xs)

take-over : (f : Finding → ℕ) (xs : List Finding) (slice : List ℕ) → take (length xs) (over (map f xs) slice) ≡ map f xs
take-over f xs slice = take_at (map f xs) _ (length xs) (length-map xs f)

module _ (m s : ℕ) (keys bits : List ℕ) (n office : ℕ) (wrong : Bool) (rules : List Rule) (waivers : List Finding) (found_ids found_keys : List ℕ) where
  -- what the call leaves in the first places of the two answer slices, as many as it says
  abbrev pub answered : List Finding
  answered =
      waivers_of
      (take (found_with m s keys bits n office wrong rules waivers found_ids found_keys).live (ids_with m s keys bits n office wrong rules waivers found_ids found_keys))
      (take (found_with m s keys bits n office wrong rules waivers found_ids found_keys).live (found_keys_with m s keys bits n office wrong rules waivers found_ids found_keys))

  -- an accepted call leaves there the live findings
  pub answered_live : refusal_with m s keys bits n office wrong rules waivers found_ids found_keys ≡ 0 → answered ≡ live_in m keys bits n rules waivers
  unfolding found_with ids_with found_keys_with
  answered_live done =
      let xs = live_in m keys bits n rules waivers in
      let count = accepted_done (length xs) _ done in
      ap₂ waivers_of
      (ap₂ take count (accepted_done (over (map (λ x. x.id) xs) found_ids) found_ids done) ∙ take-over (λ x. x.id) xs found_ids)
      (ap₂ take count (accepted_done (over (map (λ x. x.key) xs) found_keys) found_keys done) ∙ take-over (λ x. x.key) xs found_keys)
      ∙ found_own xs

  -- and says how many findings there are: the live and the hidden ones together are all
  pub counts_all : refusal_with m s keys bits n office wrong rules waivers found_ids found_keys ≡ 0
      → (found_with m s keys bits n office wrong rules waivers found_ids found_keys).live + (found_with m s keys bits n office wrong rules waivers found_ids found_keys).hidden
      ≡ length (all_findings m (picture_of m (records_of keys bits n)) rules)
  unfolding found_with live_in hidden_in
  counts_all done =
      ap₂ (λ a b. a + b) (accepted_done (length (live_in m keys bits n rules waivers)) _ done) (accepted_done (hidden_in m keys bits n rules waivers) 0 done)
      ∙ live_and_hidden m waivers (all_findings m (picture_of m (records_of keys bits n)) rules)
