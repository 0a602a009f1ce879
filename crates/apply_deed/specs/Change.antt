-- What changing a list by a step asks and leaves. Only contracts need these. Rests on Step.
use Rattle.std.specs.Prelude.{ℕ, ◌-◌, ◌≤◌, ◌≡◌, List, length, replicate}
use Rattle.std.proofs.lemmas.List.Edits.{sets}
use Rattle.keys.specs.Child.{root_of}
use Rattle.definitions.specs.Picture.{Picture}
use Rattle.definitions.specs.List.{Record, keys_of, values_of, list_of, list_of_picture}
use Rattle.definitions.specs.Read.{room}
use Rattle.definitions.specs.Buffer.{replaced}
use Rattle.list.specs.Own.{OwnList, shown_by}
use Rattle.list.specs.Taken.{picture_listed}
use Rattle.list.specs.declared.accepted_list.Accepted.{Accepted}
use Rattle.deeds.specs.Step.{Step, step_over}
use Rattle.apply_deed.specs.Passes.{Growing, WroteBefore}

-- an accepted list after a step
abbrev pub list_stepped : Step → Accepted → List Record
list_stepped t list = list_of_picture list.m (step_over t (picture_listed list))

-- the first n records are a list, and there is room for what it becomes
pub record Changeable (t : Step) (m : ℕ) (keys bits : List ℕ) (n : ℕ) : Type 0 where
  pub deep : m ≤ 10
  pub own : OwnList m keys bits n
  pub fits : length (list_of_picture m (step_over t (shown_by m keys bits n))) ≤ room keys bits

-- the list of the step over the picture stands there, and its length is told; places given up are zero, and all others stay
pub record Changed (t : Step) (m n : ℕ) (keys bits keys' bits' : List ℕ) (after : ℕ) : Type 0 where
  pub length-is : after ≡ length (list_of_picture m (step_over t (shown_by m keys bits n)))
  pub keys_are : keys' ≡ replaced n (keys_of (list_of_picture m (step_over t (shown_by m keys bits n)))) keys
  pub bits_are : bits' ≡ replaced n (values_of (list_of_picture m (step_over t (shown_by m keys bits n)))) bits

-- n places of both slices are there
pub record GivenUp (n after : ℕ) (keys bits : List ℕ) : Type 0 where
  pub in_keys : n ≤ length keys
  pub in-bits : n ≤ length bits

-- the places from one up to another are zero
abbrev pub zeroed : (n after : ℕ) → List ℕ → List ℕ
zeroed n after l = sets l after (replicate (n - after) 0)

-- of whichever picture the records are what is left, its list after the step stands from the first place on
pub record AllGrown (t : Step) (m left after : ℕ) (keys bits keys' bits' : List ℕ) : Type 0 where
  pub holds : (p : Picture) → Growing t p (root_of m) keys bits left after → WroteBefore (list_of (step_over t p) m 0 0 0) after keys bits keys' bits' 0
