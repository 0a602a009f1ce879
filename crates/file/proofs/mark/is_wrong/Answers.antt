-- `mark::is_wrong`: the library's test of the front is the definition's. Rests on Marked.
use Rattle.std.proofs.Common.{ap, ◌∙◌, arith}
use Rattle.std.specs.Prelude.{not}
use Rattle.file.proofs.Marked.{front_compared}
use Rattle.file.proofs.mark.is_wrong.Goals as goal

pub returns : goal.returns
returns c = ap not (c.starts_with.ensures.value ∙ front_compared c.args.mark c.args.file.now (omega arith))
