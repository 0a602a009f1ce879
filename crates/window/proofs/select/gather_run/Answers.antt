-- `select::gather_run` meets its contract: a record with exactly the bit gives its key, and another is passed. Rests on Run.
use Prim.Native.Nat.{ℕ, ◌+◌}
use mathlib.Core.Path.{◌≡◌, sym, ap, ap₂, ◌∙◌}
use mathlib.Core.List.{List, [], ◌∷◌}
use native.Mathlib.Numerals.{add-one}
use native.Mathlib.Omega.{arith}
use lib.ListN.{length}
use Rattle.walk.specs.Given.{written_at, written}
use Rattle.window.specs.Gather.{Gave}
use Rattle.walk.proofs.Written.{written_none, written_one_key, length-written_at}
use Rattle.window.proofs.Run.{run_over, run_gives, run_passes}
use Rattle.window.proofs.select.gather_run.Invariants.{Passed}
use Rattle.window.proofs.select.gather_run.Goals as goal
use Rattle.window.proofs.select.gather_run.Goals.{then-bits-i, else-bits-i}

module _ {whole : List ℕ} {limit count : ℕ} {answer₀ answer : List ℕ} {given i : ℕ} {rest : List ℕ} (p : Passed whole limit count answer₀ answer given i rest) where
  -- nothing is left
  stops : rest ≡ [] → Gave whole limit count answer₀ answer given
  stops e =
      record {
        counted = let n = ap length e in omega (arith, p.counts);
        wrote = sym (written_none limit answer given) ∙ ap (written limit answer given) (sym e) ∙ p.writes;
      }

  -- a key is given
  gives : (key : ℕ) (more answer₁ : List ℕ) (given₁ : ℕ)
      → rest ≡ key ∷ more
      → answer₁ ≡ written_at limit answer given key
      → given₁ ≡ given + 1
      → Passed whole limit count answer₀ answer₁ given₁ (i + 1) more
  gives key more answer₁ given₁ e f g =
      record {
        counts = let n = ap length e in omega (arith, p.counts);
        writes = ap₂ (λ (x : List ℕ) (j : ℕ). written limit x j more) f (g ∙ add-one given)
            ∙ sym (written_one_key limit answer given key more)
            ∙ ap (written limit answer given) (sym e)
            ∙ p.writes;
        lengths = ap length f ∙ length-written_at limit answer given key ∙ p.lengths;
        bound = omega (arith, p.bound);
      }

  -- a record is passed
  skips : (more answer₁ : List ℕ) (given₁ : ℕ) → rest ≡ more → answer₁ ≡ answer → given₁ ≡ given → Passed whole limit count answer₀ answer₁ given₁ (i + 1) more
  skips more answer₁ given₁ e f g =
      record {
        counts = let n = ap length e in omega (arith, p.counts);
        writes = ap₂ (λ (x : List ℕ) (j : ℕ). written limit x j more) f g ∙ ap (written limit answer given) (sym e) ∙ p.writes;
        lengths = ap length f ∙ p.lengths;
        bound = omega (arith, p.bound);
      }

pub loop-i-preserved : goal.loop-i-preserved
loop-i-preserved c =
    let l = c.loop-i.invariant in
    let inside = c.loop-i-test.true in
    elim c.if-bits-i.branch [
      | then-bits-i w ↦ gives l _ _ _ _ (run_gives _ _ _ _ _ inside c.requires.0 c.requires.1 w.if-bits-i.true) (w.answer-is ∙ w.write_within.ensures) w.given-is
      | else-bits-i w ↦ skips l _ _ _ (run_passes _ _ _ _ _ inside c.requires.0 c.requires.1 w.if-bits-i.false) w.answer-is w.given-is
    ]

pub returns : goal.returns
returns c = stops c.loop-i.invariant (run_over _ _ _ _ _ c.loop-i-test.false)
