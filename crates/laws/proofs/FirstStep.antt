-- The first step of a log, found from the end: one step after the other is passed until none stands before. So it is the first of steps that stand one
-- after the other. Rests on SoundLog.
use Prim.Native.Nat.{ℕ, zero, suc, ◌≤◌}
use mathlib.Core.Path.{◌≡◌, refl, sym, ap, ◌∙◌}
use mathlib.Core.List.{List, [], ◌++◌, append_assoc, append-nil}
use native.Mathlib.Omega.{arith}
use native.Mathlib.Nat.{le_refl}
use mathlib.Core.Bool.{cond}
use lib.ListN.{length, length-append}
use borrow.Author.Tests.{eq-eqb, ne_eqb}
use Rattle.keys.proofs.Cases.{equal}
use Rattle.definitions.specs.List.{Record}
use Rattle.definitions.specs.Log.{group_mark, before_step, first_in, first_step}
use Rattle.laws.proofs.LastStep.{IsStep, step_some, step_before, before_step_less}
use Rattle.laws.proofs.SoundLog.{Steps, none, more}

-- where nothing stands before the last step, it is the first
first_alone : (turns : ℕ) (log : List Record) → length (before_step log) ≡ 0 → first_in turns log ≡ log
unfolding first_in
first_alone zero log e = refl
first_alone (suc turns) log e = ap (λ b. cond b log (first_in turns (before_step log))) (eq-eqb (length (before_step log)) 0 e)

-- else it is the first of those before
first_next : (turns : ℕ) (log : List Record) → (length (before_step log) ≡ 0 → ⊥) → first_in (suc turns) log ≡ first_in turns (before_step log)
unfolding first_in
first_next turns log h = ap (λ b. cond b log (first_in turns (before_step log))) (ne_eqb (length (before_step log)) 0 h)

-- turns enough for the records are enough
first_enough : (turns other : ℕ) (log : List Record) → length log ≤ turns → length log ≤ other → first_in turns log ≡ first_in other log
first_enough zero other log h j = let less = before_step_less log in first_alone zero log (omega arith) ∙ sym (first_alone other log (omega arith))
first_enough (suc turns) zero log h j = let less = before_step_less log in first_alone (suc turns) log (omega arith) ∙ sym (first_alone zero log (omega arith))
first_enough (suc turns) (suc other) log h j =
    let less = before_step_less log in
    equal (length (before_step log)) 0
    (λ alone. first_alone (suc turns) log alone ∙ sym (first_alone (suc other) log alone))
    (λ some.
    first_next turns log some
    ∙ first_enough turns other (before_step log) (omega arith) (omega arith)
    ∙ sym (first_next other log some))

-- a last step with nothing before it is the first
pub first_is_last : (log : List Record) → length (before_step log) ≡ 0 → first_step log ≡ log
unfolding first_step
first_is_last log e = first_alone (length log) log e

-- one with something before it is passed
pub first_before : (log : List Record) → (length (before_step log) ≡ 0 → ⊥) → first_step log ≡ first_step (before_step log)
unfolding first_step
first_before log h =
    let less = before_step_less log in
    first_enough (length log) (suc (length log)) log (le_refl _) (omega arith)
    ∙ first_next (length log) log h
    ∙ first_enough (length log) (length (before_step log)) (before_step log) (omega arith) (le_refl _)

-- the first of a step and the steps after it is that step
pub first_of : {m s : ℕ} {step rest : List Record} → s ≤ group_mark → IsStep m s step → Steps m s rest → first_step (step ++ rest) ≡ step
first_of {step = step} few is none =
    ap first_step (append-nil step) ∙ first_is_last step (ap length (step_before few is []))
first_of {step = step} few is (more {log = log} {step = last} e another) =
    let size = step_some is in
    let both = length-append step log in
    let joined : step ++ (log ++ last) ≡ (step ++ log) ++ last = sym (append_assoc step log last) in
    let before : before_step (step ++ (log ++ last)) ≡ step ++ log = ap before_step joined ∙ step_before few another (step ++ log) in
    let longer = ap length before in
    first_before (step ++ (log ++ last)) (λ z. omega arith) ∙ ap first_step before ∙ first_of few is e
