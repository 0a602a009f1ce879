-- `block_of` meets its contract: a refused call gives its number alone, and an accepted one the square and the level of the key.
use Rattle.blocks.proofs.Answers.{block_too_deep, block_refused, unread, read}
use borrow.Author.Rules.{rules}
use Rattle.blocks.proofs.block_of.Goals as goal

pub returns-then-m-gt-DEEPEST_LEVEL : goal.returns-then-m-gt-DEEPEST_LEVEL
returns-then-m-gt-DEEPEST_LEVEL c = block_refused _ _ _ (block_too_deep _ _ c.if-m-gt-DEEPEST_LEVEL.true) (λ e. absurd (search rules))

pub returns-in-Some : goal.returns-in-Some
returns-in-Some c = read _ _ c.if-m-gt-DEEPEST_LEVEL.false c.in-Some.square _ c.in-Some.ensures c.level.ensures

pub returns-in-None : goal.returns-in-None
returns-in-None c = unread _ _ c.if-m-gt-DEEPEST_LEVEL.false c.in-None.ensures
