-- The turns of the loops that move: what is done so far is one run of `sets`, longer by one place after each turn. Rests on Sets.
use Prim.Native.Nat.{ℕ, ◌+◌, ◌-◌, ◌≤◌, ◌<◌}
use mathlib.Core.Path.{◌≡◌, refl, sym, ap, ap₂, subst, ◌∙◌}
use mathlib.Core.List.{List, [], ◌∷◌, ◌++◌}
use native.Mathlib.Numerals.{add-one}
use native.Mathlib.Omega.{arith}
use lib.ListN.{length, get_or, set, take, drop, length-set, length-drop}
use lib.Seq.{sets, length-take-le, take-suc, drop-cons, get_or-drop}
use Rattle.slices.proofs.Sets.{sets_snoc, sets_front, get_d_sets_before, get_or-sets_after, sets_same}

-- one value more at the end of a run that is read from a list
run_longer : (from : List ℕ) (start i : ℕ) → start + i < length from
    → take i (drop start from) ++ (get_or from (start + i) 0 ∷ []) ≡ take (i + 1) (drop start from)
run_longer from start i h =
    let rest = length-drop start from in
    ap (λ x. take i (drop start from) ++ (x ∷ [])) (sym (get_or-drop start from i 0))
    ∙ sym (take-suc (drop start from) i 0 (omega arith))
    ∙ ap (λ n. take n (drop start from)) (sym (add-one i))

-- one value more at its front
run_earlier : (from : List ℕ) (start count : ℕ) → start < length from → get_or from start 0 ∷ take count (drop (start + 1) from) ≡ take (count + 1) (drop start from)
run_earlier from start count h =
    ap (λ n. get_or from start 0 ∷ take count (drop n from)) (add-one start)
    ∙ sym (ap₂ (λ n r. take n r) (add-one count) (drop-cons from start 0 h))

-- a run that was there is as long as it was asked for
run_length : (from : List ℕ) (start count : ℕ) → start + count ≤ length from → length (take count (drop start from)) ≡ count
run_length from start count h = let rest = length-drop start from in length-take-le count (drop start from) (omega arith)

-- from the front on: i places of `from` have gone into `to`
pub record MovedSoFar (from : List ℕ) (start count : ℕ) (to : List ℕ) (at : ℕ) (now : List ℕ) (i : ℕ) : Type 0 where
  pub within : i ≤ count
  pub size : length now ≡ length to
  pub run : now ≡ sets to at (take i (drop start from))

-- at first none has
pub move_begins : (from : List ℕ) (start count : ℕ) (to : List ℕ) (at : ℕ) → MovedSoFar from start count to at to 0
move_begins from start count to at = record { within = omega arith; size = refl; run = refl }

module _ {from : List ℕ} {start count : ℕ} {to : List ℕ} {at : ℕ} {now : List ℕ} {i : ℕ} (p : MovedSoFar from start count to at now i) where
  -- a turn moves the next
  pub move_turns : start + count ≤ length from → i < count → MovedSoFar from start count to at (set now (at + i) (get_or from (start + i) 0)) (i + 1)
  move_turns h more =
      let moved = run_length from start i (omega arith) in
      record {
        within = omega arith;
        size = length-set now (at + i) (get_or from (start + i) 0) ∙ p.size;
        run = ap₂ (λ r n. set r (at + n) (get_or from (start + i) 0)) p.run (sym moved)
            ∙ sets_snoc to at (take i (drop start from)) (get_or from (start + i) 0)
            ∙ ap (sets to at) (run_longer from start i (omega arith));
      }

  -- at the end all are moved
  pub move_ends : count ≤ i → now ≡ sets to at (take count (drop start from))
  move_ends h = let e : i ≡ count = omega arith in p.run ∙ ap (λ n. sets to at (take n (drop start from))) e

-- inside one slice towards the front: the place that is read is one that no turn has written
pub slide_turns : {slice : List ℕ} {start count at : ℕ} {now : List ℕ} {i : ℕ} → MovedSoFar slice start count slice at now i
    → at ≤ start → start + count ≤ length slice → i < count
    → MovedSoFar slice start count slice at (set now (at + i) (get_or now (start + i) 0)) (i + 1)
slide_turns {slice} {start} {count} {at} {now} {i} p low h more =
    let moved = run_length slice start i (omega arith) in
    let there : get_or now (start + i) 0 ≡ get_or slice (start + i) 0
    = ap (λ r. get_or r (start + i) 0) p.run ∙ get_or-sets_after slice at (take i (drop start slice)) (start + i) 0 (omega arith) in
    subst (λ x. MovedSoFar slice start count slice at (set now (at + i) x) (i + 1)) (sym there) (move_turns p h more)

-- what stays where it is is not moved at all
pub not_moved : (slice : List ℕ) (start count at : ℕ) → start ≡ at → start + count ≤ length slice → slice ≡ sets slice at (take count (drop start slice))
not_moved slice start count at same h =
    sym (ap (λ n. sets slice at (take count (drop n slice))) same ∙ sets_same slice at count (omega arith))

-- inside one slice from the end on: i places are still to be moved
pub record Raised (slice : List ℕ) (start count at : ℕ) (now : List ℕ) (i : ℕ) : Type 0 where
  pub within : i ≤ count
  pub size : length now ≡ length slice
  pub run : now ≡ sets slice (at + i) (take (count - i) (drop (start + i) slice))

-- at first all are
pub raise_begins : (slice : List ℕ) (start count at : ℕ) → Raised slice start count at slice count
raise_begins slice start count at =
    let none : 0 ≡ count - count = omega arith in
    record { within = omega arith; size = refl; run = ap (λ n. sets slice (at + count) (take n (drop (start + count) slice))) none }

module _ {slice : List ℕ} {start count at : ℕ} {now : List ℕ} {i : ℕ} (p : Raised slice start count at now i) where
  -- the place that is read is one that no turn has written
  last_there : start ≤ at → 0 < i → get_or now (start + (i - 1)) 0 ≡ get_or slice (start + (i - 1)) 0
  last_there high more =
      ap (λ r. get_or r (start + (i - 1)) 0) p.run
      ∙ get_d_sets_before slice (at + i) (take (count - i) (drop (start + i) slice)) (start + (i - 1)) 0 (omega arith)

  -- a turn moves the last of them
  pub raise_turns : start ≤ at → start + count ≤ length slice → 0 < i
      → Raised slice start count at (set now (at + (i - 1)) (get_or now (start + (i - 1)) 0)) (i - 1)
  raise_turns high h more =
      let j : ℕ = i - 1 in
      let to : at + i ≡ at + j + 1 = omega arith in
      let from : start + i ≡ start + j + 1 = omega arith in
      let longer : count - i + 1 ≡ count - j = omega arith in
      let all : now ≡ sets slice (at + j + 1) (take (count - i) (drop (start + j + 1) slice))
      = p.run ∙ ap₂ (λ a b. sets slice a (take (count - i) (drop b slice))) to from in
      record {
        within = omega arith;
        size = length-set now (at + j) (get_or now (start + j) 0) ∙ p.size;
        run = ap₂ (λ r x. set r (at + j) x) all (last_there high more)
            ∙ sets_front slice (at + j) (get_or slice (start + j) 0) (take (count - i) (drop (start + j + 1) slice))
            ∙ ap (sets slice (at + j)) (run_earlier slice (start + j) (count - i) (omega arith))
            ∙ ap (λ n. sets slice (at + j) (take n (drop (start + j) slice))) longer;
      }

  -- at the end none is left
  pub raise_ends : i ≤ 0 → now ≡ sets slice at (take count (drop start slice))
  raise_ends h =
      let to : at + i ≡ at = omega arith in
      let from : start + i ≡ start = omega arith in
      let all : count - i ≡ count = omega arith in
      p.run ∙ ap₂ (λ a b. sets slice a (take (count - i) (drop b slice))) to from ∙ ap (λ n. sets slice at (take n (drop start slice))) all
