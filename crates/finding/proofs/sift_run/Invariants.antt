-- What the records passed give is sifted, and what the rest gives is still to come.
use Prim.Native.Nat.{ℕ, ◌≤◌, ◌<◌}
use mathlib.Core.Path.{◌≡◌}
use mathlib.Core.List.{List, ◌++◌}
use lib.ListN.{length, get_or}
use Rattle.finding.proofs.Until.{rest}
use Rattle.finding.specs.declared.Sifting.{Sifting}
use Rattle.finding.specs.Covering.{end_of}
use Rattle.finding.specs.Sift.{Sifted}
use Rattle.finding.proofs.sift_run.Given as goal

-- the whole is what is done and what is left; the waivers passed have keys below x, and x is at or before what is still to come
pub record Running (m limit id : ℕ) (waived record_keys : List ℕ) (n end : ℕ) (whole : List ℕ) (at st : Sifting) (ids₀ ids keys₀ keys : List ℕ) (i : ℕ) (left : List ℕ) : Type 0 where
  pub done : List ℕ
  pub joins : whole ≡ done ++ left
  pub few : length done ≤ i
  pub x : ℕ
  pub sifted : Sifted m limit id waived done at st ids₀ ids keys₀ keys x
  pub before_end : x ≤ end
  pub before_keys : (j : ℕ) → i ≤ j → j < n → x ≤ get_or record_keys j 0
  pub ends : (j : ℕ) → i ≤ j → j < n → get_or record_keys j 0 < end → end_of m (get_or record_keys j 0) ≤ end

abbrev pub invariant-loop-place : goal.invariant-loop-place
invariant-loop-place l =
    let list = l.job.list in
    let n = length list.keys.now in
    Running list.m l.job.limit l.job.id l.job.waived.now list.keys.now n l.end (rest list.keys.now list.bits.now n l.end l.job.bit l.first) l.initial.st l.st l.initial.found_ids l.found_ids l.initial.found_keys l.found_keys l.place (rest list.keys.now list.bits.now n l.end l.job.bit l.place)
