-- Which way entries go, as the definitions on a block ask it.
use Rattle.std.specs.Prelude.{Bool, true, false}
use Rattle.deeds.specs.declared.direction.Direction.{Direction}
use Rattle.deeds.specs.declared.direction.Direction.TheVariants.{Back, Again}

-- they are taken back
abbrev pub is_back : Direction → Bool
is_back Back = true
is_back Again = false
