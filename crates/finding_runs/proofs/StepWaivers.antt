-- Where a rule's waivers stand: none is unknown when the first that is not passed has no smaller id, and the last ends the run of those with no larger
-- id. Rests on RuleWaivers.
use Prim.Native.Nat.{ℕ, zero, suc, ◌+◌, ◌≤◌, ◌<◌}
use mathlib.Core.Path.{◌≡◌, refl}
use mathlib.Core.Bool.{true, ◌&&◌}
use mathlib.Core.List.{List}
use native.Mathlib.Omega.{arith}
use lib.ListN.{get_or}
use lib.Dec.{ltb}
use borrow.Author.Tests.{lt-ltb, ltb-true}
use Rattle.keys.proofs.Cases.{split, and_left, and_right, and_both, same_test}
use Rattle.definitions.specs.Read.{room}
use Rattle.definitions.specs.Rules.{waivers_of, findings_ascend}
use Rattle.finding_runs.specs.Run.{waivers_below}
use Rattle.finding_runs.specs.Step.{OwnEnd}
use Rattle.finding_runs.proofs.RuleWaivers.{below_at, at_below, below_room}

module _ (ids keys : List ℕ) (asc : findings_ascend (waivers_of ids keys) ≡ true) (count : ℕ) (all : count ≡ room ids keys) where
  abbrev below : ℕ → ℕ
  below x = waivers_below x (waivers_of ids keys)

  -- the waiver at a place has a smaller id
  pub smaller_at : (place id : ℕ) → ltb place count && ltb (get_or ids place 0) id ≡ ltb place (below id)
  smaller_at place id =
      let some = below_room ids keys asc id in
      same_test (ltb place count && ltb (get_or ids place 0) id) (ltb place (below id))
      (λ e.
      let inside = ltb-true place count (and_left (ltb place count) (ltb (get_or ids place 0) id) e) in
      lt-ltb place (below id)
      (below_at ids keys asc id place (omega arith) (ltb-true (get_or ids place 0) id (and_right (ltb place count) (ltb (get_or ids place 0) id) e))))
      (λ e.
      let inside = ltb-true place (below id) e in
      and_both (ltb place count) (ltb (get_or ids place 0) id) (lt-ltb place count (omega arith)) (lt-ltb (get_or ids place 0) id (at_below ids keys asc id place inside)))

  module _ (id end : ℕ) (o : OwnEnd ids (below id) count id end) where
    -- the waivers before the end have no larger id
    not_larger : (i : ℕ) → i < end → get_or ids i 0 < id + 1
    not_larger i h =
        split i (below id) (λ early. let low = at_below ids keys asc id i early in omega arith) (λ late. let low = o.run.own i late h in omega arith)

    not_past : (n : ℕ) → n ≡ end → n ≤ below (id + 1)
    not_past zero e = omega arith
    not_past (suc n) e =
        let within = o.run.within in
        let low = not_larger n (omega arith) in
        below_at ids keys asc (id + 1) n (omega arith) low

    -- it is where the waivers with larger ids begin
    pub end_is : end ≡ below (id + 1)
    end_is =
        let low = not_past end refl in
        split end (below (id + 1))
        (λ more.
        let some = below_room ids keys asc (id + 1) in
        let small = at_below ids keys asc (id + 1) end more in
        let large = o.past (omega arith) in
        absurd (omega arith))
        (λ enough. omega arith)
