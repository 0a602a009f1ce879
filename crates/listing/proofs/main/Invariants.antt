-- What `main` keeps while it reads: what is filled lies in its room.
use Rattle.std.proofs.Common.{◌≡◌, ◌≤◌, length}
use Rattle.listing.proofs.main.Given as goal

abbrev pub invariant-loop : goal.invariant-loop
invariant-loop l = (length l.pixels ≡ 1027) × (l.filled ≤ 1027)
