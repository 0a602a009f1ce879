-- What was sifted so far, with what the rest of the run gives, is what the whole run gives. The waivers passed begin before the keys that are still to
-- come, since past a leaf these begin at its end or later. Rests on Leaves and Merge.
use Prim.Native.Nat.{ℕ, ◌+◌, ◌^◌, ◌≤◌, ◌<◌}
use mathlib.Core.Path.{◌≡◌, refl, sym, ap, ◌∙◌}
use mathlib.Core.List.{List, [], ◌∷◌, ◌++◌, append_assoc, append-nil}
use native.Mathlib.Omega.{arith}
use lib.ListN.{get_or, length-append}
use Rattle.list.specs.Check.{one_slot}
use Rattle.finding.proofs.Until.{past_last, past_end, with_bit, without_bit}
use Rattle.finding.specs.declared.Sifting.{Sifting}
use Rattle.finding.specs.Sift.{SiftReady, RunReady, Sifted}
use Rattle.finding.proofs.Settling.{passed_widen}
use Rattle.finding.proofs.Leaves.{in_slices, record_valid, leaf_past}
use Rattle.finding.proofs.Merge.{still_ready, sifted_none, sifted-append, sifted_as}
use Rattle.finding.proofs.sift_run.Invariants.{Running}
use Rattle.finding.proofs.sift_run.Goals as goal
use Rattle.finding.proofs.sift_run.Goals.{then-bits-place, else-bits-place}

module _ (m limit id : ℕ) (waived record_keys : List ℕ) (n end : ℕ) where
  begins : (whole : List ℕ) (at : Sifting) (ids keys : List ℕ) (most first : ℕ) → RunReady m limit waived at ids keys most record_keys n first end
      → Running m limit id waived record_keys n end whole at at ids ids keys keys first whole
  begins whole at ids keys most first r =
      record {
        done = [];
        joins = refl;
        few = omega arith;
        x = r.x;
        sifted = sifted_none m limit id waived [] at ids keys r.x refl r.ready.passed;
        before_end = r.before_end;
        before_keys = r.before_keys;
        ends = r.whole;
      }

  module _ {whole : List ℕ} {at st : Sifting} {ids₀ ids keys₀ keys : List ℕ} {i : ℕ} {left : List ℕ}
      (p : Running m limit id waived record_keys n end whole at st ids₀ ids keys₀ keys i left) where
    -- nothing is left
    stops : left ≡ [] → Sifted m limit id waived whole at st ids₀ ids keys₀ keys end
    stops e =
        sifted_as m limit id waived p.done whole at st ids₀ ids keys₀ keys p.x end p.sifted
        (sym (p.joins ∙ ap (λ l. p.done ++ l) e ∙ append-nil p.done))
        p.before_end

    -- the next key can be sifted
    ready : (most more key : ℕ) {x : ℕ} → SiftReady m limit waived at ids₀ keys₀ most x → most + i ≤ more → p.x ≤ key → SiftReady m limit waived st ids keys more key
    ready most more key s room low =
        still_ready m limit id waived p.sifted.counted more key s (passed_widen key p.sifted.passed low) (omega (arith, p.few))

    -- a key is sifted: x is the end of its block
    gives : (more : List ℕ) (x : ℕ) (st₁ : Sifting) (ids₁ keys₁ : List ℕ)
        → ((j : ℕ) → i < j → j < n → x ≤ get_or record_keys j 0)
        → x ≤ end
        → left ≡ get_or record_keys i 0 ∷ more
        → Sifted m limit id waived (get_or record_keys i 0 ∷ []) st st₁ ids ids₁ keys keys₁ x
        → Running m limit id waived record_keys n end whole at st₁ ids₀ ids₁ keys₀ keys₁ (i + 1) more
    gives more x st₁ ids₁ keys₁ apart below e s =
        let key = get_or record_keys i 0 in
        record {
          done = p.done ++ (key ∷ []);
          joins = p.joins ∙ ap (λ l. p.done ++ l) e ∙ sym (append_assoc p.done (key ∷ []) more);
          few = let a = length-append p.done (key ∷ []) in omega (arith, p.few);
          x = x;
          sifted = sifted-append m limit id waived p.done (key ∷ []) at st st₁ ids₀ ids ids₁ keys₀ keys keys₁ p.x x p.sifted s;
          before_end = below;
          before_keys = λ j after before. apart j (omega arith) before;
          ends = λ j after before. p.ends j (omega arith) before;
        }

    -- a record is passed
    skips : (more : List ℕ) → left ≡ more → Running m limit id waived record_keys n end whole at st ids₀ ids keys₀ keys (i + 1) more
    skips more e =
        record {
          done = p.done;
          joins = p.joins ∙ ap (λ l. p.done ++ l) e;
          few = omega (arith, p.few);
          x = p.x;
          sifted = p.sifted;
          before_end = p.before_end;
          before_keys = λ j after before. p.before_keys j (omega arith) before;
          ends = λ j after before. p.ends j (omega arith) before;
        }

  -- the same by other names
  renamed : {whole : List ℕ} {at st st₁ : Sifting} {ids₀ ids ids₁ keys₀ keys keys₁ : List ℕ} {i : ℕ} {left : List ℕ}
      → Running m limit id waived record_keys n end whole at st ids₀ ids keys₀ keys i left
      → ids₁ ≡ ids
      → keys₁ ≡ keys
      → st₁ ≡ st
      → Running m limit id waived record_keys n end whole at st₁ ids₀ ids₁ keys₀ keys₁ i left
  renamed p e f g = rw (e, f, g) p

pub loop-place-init : goal.loop-place-init
loop-place-init c = begins _ _ _ _ _ _ _ _ _ _ _ _ _ c.requires

pub returns-then-end-key : goal.returns-then-end-key
returns-then-end-key c =
    let list = c.args.job.now.list in
    stops _ _ _ _ _ _ _ c.loop-place.invariant (past_end _ _ _ _ _ _ c.loop-place-test.true (in_slices list.own).0 (in_slices list.own).1 c.if-end-key.true)

pub sift-st-requires : goal.sift-st-requires
sift-st-requires c =
    let list = c.args.job.now.list in
    let inside = c.loop-place-test.true in (
      record_valid list.own _ inside,
      ready _ _ _ _ _ _ _ c.loop-place.invariant (2 ^ 60) (2 ^ 62) _ c.requires.ready (omega arith) (c.loop-place.invariant.before_keys _ (omega arith) inside),
    )

pub loop-place-preserved : goal.loop-place-preserved
loop-place-preserved c =
    let list = c.args.job.now.list in
    let inside = c.loop-place-test.true in
    let below = c.if-end-key.false in
    elim c.if-bits-place.branch [
      | then-bits-place w ↦
          renamed _ _ _ _ _ _ _
          (gives _ _ _ _ _ _ _ c.loop-place.invariant _ _ _ _ _ (λ j after before. leaf_past list.own _ j after before (ap one_slot w.if-bits-place.true ∙ c.args.job.now.one_feature))
          (c.loop-place.invariant.ends _ (omega arith) inside below)
          (with_bit _ _ _ _ _ _ inside (in_slices list.own).0 (in_slices list.own).1 below w.if-bits-place.true) w.sift-st.ensures)
          w.found_ids-is w.found_keys-is w.st-is
      | else-bits-place w ↦
          renamed _ _ _ _ _ _ _
          (skips _ _ _ _ _ _ _ c.loop-place.invariant _ (without_bit _ _ _ _ _ _ inside (in_slices list.own).0 (in_slices list.own).1 below w.if-bits-place.false))
          w.found_ids-is w.found_keys-is w.st-is
    ]

pub returns : goal.returns
returns c = stops _ _ _ _ _ _ _ c.loop-place.invariant (past_last _ _ _ _ _ _ c.loop-place-test.false)
