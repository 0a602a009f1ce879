-- Counting the keys at or before a number: where all keys before a place are and all from it on are not, the count is that place. It brackets
-- the binary search, and counting the keys below the next number is the same. Rests on the records of Sorted.
use Prim.Native.Nat.{ℕ, zero, suc, ◌+◌, ◌≤◌, ◌<◌}
use mathlib.Core.Path.{◌≡◌, refl, sym, ◌∙◌, ap, ap₂}
use mathlib.Core.Bool.{cond}
use mathlib.Core.List.{List, [], ◌∷◌}
use native.Mathlib.Omega.{arith}
use lib.ListN.{length, get_or, take}
use lib.Dec.{leb-suc-suc}
use borrow.Author.Tests.{le-leb, lt-leb}
use Rattle.keys.proofs.Cases.{split}
use Rattle.list.specs.Sorted.{Ascends, Near}
use Rattle.list.specs.Among.{keys_up_to, keys_below}

pub up_to_none : (x : ℕ) → keys_up_to x [] ≡ 0
unfolding keys_up_to
up_to_none x = refl

-- a key at or before x counts, and one after it does not
pub up_to_one : (x κ : ℕ) (keys : List ℕ) → κ ≤ x → keys_up_to x (κ ∷ keys) ≡ suc (keys_up_to x keys)
unfolding keys_up_to
up_to_one x κ keys h = rw (le-leb κ x h) (omega arith)

pub up_to_skip : (x κ : ℕ) (keys : List ℕ) → x < κ → keys_up_to x (κ ∷ keys) ≡ keys_up_to x keys
unfolding keys_up_to
up_to_skip x κ keys h = rw (lt-leb κ x h) (omega arith)

-- if exactly the keys before place r are at or before x, there are r of them
pub count_up_to : (keys : List ℕ) (n x r : ℕ)
    → n ≤ length keys
    → r ≤ n
    → ((i : ℕ) → i < r → get_or keys i 0 ≤ x)
    → ((i : ℕ) → r ≤ i → i < n → x < get_or keys i 0)
    → keys_up_to x (take n keys) ≡ r
count_up_to keys zero x r room most before after = up_to_none x ∙ omega arith
count_up_to [] (suc n) x r room most before after = absurd (omega arith)
count_up_to (κ ∷ keys) (suc n) x zero room most before after =
    up_to_skip x κ (take n keys) (after 0 (omega arith) (omega arith))
    ∙ count_up_to keys n x zero (omega arith) (omega arith) (λ i h. absurd (omega arith)) (λ i h j. after (suc i) (omega arith) (omega arith))
count_up_to (κ ∷ keys) (suc n) x (suc r) room most before after =
    up_to_one x κ (take n keys) (before 0 (omega arith))
    ∙ ap suc (count_up_to keys n x r (omega arith) (omega arith) (λ i h. before (suc i) (omega arith)) (λ i h j. after (suc i) (omega arith) (omega arith)))

-- so where x itself stands, it and the keys before it are counted
pub count_at : {keys : List ℕ} {n : ℕ} → Ascends keys n → (i x : ℕ) → i < n → get_or keys i 0 ≡ x → keys_up_to x (take n keys) ≡ suc i
count_at {keys} {n} a i x there same =
    count_up_to keys n x (suc i) a.room (omega arith)
    (λ j h. split j i (λ lt. let e = a.ascend j i lt there in omega arith) (λ ge. let e : i ≡ j = omega arith in rw (← e) (omega arith)))
    (λ j h k. let e = a.ascend i j (omega arith) k in omega arith)

-- the keys below the number after x are those at or before x
pub below_up_to : (x : ℕ) (keys : List ℕ) → keys_below (suc x) keys ≡ keys_up_to x keys
unfolding keys_up_to keys_below
below_up_to x [] = refl
below_up_to x (κ ∷ keys) = ap₂ (λ b y. cond b 1 0 + y) (leb-suc-suc κ x) (below_up_to x keys)

-- the count lies from low to high: all keys before low are at or before x, and all from high on are after it
pub record Bracket (keys : List ℕ) (n x low high : ℕ) : Type 0 where
  pub order : low ≤ high
  pub most : high ≤ n
  pub before : (i : ℕ) → i < low → get_or keys i 0 ≤ x
  pub after : (i : ℕ) → high ≤ i → i < n → x < get_or keys i 0

pub bracket_all : (keys : List ℕ) (n x : ℕ) → Bracket keys n x 0 n
bracket_all keys n x = record { order = omega arith; most = omega arith; before = λ i h. absurd (omega arith); after = λ i h j. absurd (omega arith) }

-- no key that ascends from one after x on is at or before it, and none that ascends to one at or before x is after it
module _ {keys : List ℕ} {n x low high : ℕ} (a : Ascends keys n) (b : Bracket keys n x low high) (middle : ℕ) where
  pub bracket_down : low ≤ middle → middle < high → x < get_or keys middle 0 → Bracket keys n x low middle
  bracket_down l h found =
      let most = b.most in
      record {
        order = l;
        most = omega arith;
        before = b.before;
        after = λ i j k. split middle i (λ lt. let e = a.ascend middle i lt k in omega arith) (λ ge. let e : middle ≡ i = omega arith in rw (← e) found);
      }

  pub bracket_up : middle < high → get_or keys middle 0 ≤ x → Bracket keys n x (middle + 1) high
  bracket_up h found =
      let most = b.most in
      record {
        order = omega arith;
        most = most;
        before = λ i j. split i middle (λ lt. let e = a.ascend i middle lt (omega arith) in omega arith) (λ ge. let e : middle ≡ i = omega arith in rw (← e) found);
        after = b.after;
      }

pub bracket_end : {keys : List ℕ} {n x low high : ℕ} → Ascends keys n → Bracket keys n x low high → high ≤ low → low ≡ keys_up_to x (take n keys)
bracket_end {keys} {n} {x} {low} {high} a b h =
    let order = b.order in
    let most = b.most in
    sym (count_up_to keys n x low a.room (omega arith) b.before (λ i j k. b.after i (omega arith) k))

-- where all keys from a place on are after x, at most so many are at or before it
up_to_at_most : (keys : List ℕ) (n x r : ℕ) → n ≤ length keys → ((i : ℕ) → r ≤ i → i < n → x < get_or keys i 0) → keys_up_to x (take n keys) ≤ r
up_to_at_most keys zero x r room after = let e = up_to_none x in omega arith
up_to_at_most [] (suc n) x r room after = absurd (omega arith)
up_to_at_most (κ ∷ keys) (suc n) x zero room after =
    let e = up_to_skip x κ (take n keys) (after 0 (omega arith) (omega arith)) in
    let h = up_to_at_most keys n x zero (omega arith) (λ i h j. after (suc i) (omega arith) (omega arith)) in
    omega arith
up_to_at_most (κ ∷ keys) (suc n) x (suc r) room after =
    let h = up_to_at_most keys n x r (omega arith) (λ i h j. after (suc i) (omega arith) (omega arith)) in
    split x κ (λ lt. let e = up_to_skip x κ (take n keys) lt in omega arith) (λ ge. let e = up_to_one x κ (take n keys) ge in omega arith)

-- the keys that are counted are at or before x
pub counted_before : {keys : List ℕ} {n : ℕ} → Ascends keys n → (x i : ℕ) → i < keys_up_to x (take n keys) → get_or keys i 0 ≤ x
counted_before {keys} {n} a x i h =
    split x (get_or keys i 0)
    (λ past.
    let later : (j : ℕ) → i ≤ j → j < n → x < get_or keys j 0
    = λ j k l. split i j (λ lt. let e = a.ascend i j lt l in omega arith) (λ ge. let e : i ≡ j = omega arith in rw (← e) past) in
    let most = up_to_at_most keys n x i a.room later in
    absurd (omega arith))
    (λ before. before)

-- before a place whose key is at or before x lie only such keys
pub bracket_from : {keys : List ℕ} {n from x : ℕ} → Ascends keys n → Near keys n from x → Bracket keys n x (from + 1) n
bracket_from {keys} {n} {from} {x} a h =
    record {
      order = omega (arith, h.room);
      most = omega arith;
      before = λ i j.
          split i from (λ lt. let e = a.ascend i from lt h.room in omega (arith, h.before))
          (λ ge. let e : from ≡ i = omega arith in rw (← e) h.before);
      after = λ i j k. absurd (omega arith);
    }
