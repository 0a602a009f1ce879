-- What is settled of the block says whether it is counted as hidden or written.
use mathlib.Core.Path.{refl, sym, ◌∙◌}
use Rattle.finding.proofs.Merge.{counted_hidden, counted_live}
use Rattle.finding.proofs.sift.Goals as goal

pub returns-then-settled : goal.returns-then-settled
returns-then-settled c =
    let settled = c.settle-settled.ensures in
    record { counted = counted_hidden _ _ _ _ _ _ _ _ _ (sym settled.hidden ∙ c.if-settled.true) refl refl; passed = settled.passed }

pub returns : goal.returns
returns c =
    let settled = c.settle-settled.ensures in
    record {
      counted = counted_live _ _ _ _ _ _ _ _ _ _ _ (sym settled.hidden ∙ c.if-settled.false) refl refl c.write_within.ensures c.write_within-2.ensures;
      passed = settled.passed;
    }
