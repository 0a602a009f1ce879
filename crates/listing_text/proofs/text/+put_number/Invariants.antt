-- The measure of `put_number` is the number: the call within takes its tenth.
use Rattle.listing_text.proofs.text.+put_number.Given as goal

abbrev pub decreases-put_number : goal.decreases-put_number
decreases-put_number l = l.x
