-- Empty: both counts of the log become 0, and nothing else is touched. It is never refused.
use Rattle.definitions.specs.declared.Emptied.{Emptied}

abbrev pub emptied : Emptied
emptied = record { used = 0; in_force = 0 }
