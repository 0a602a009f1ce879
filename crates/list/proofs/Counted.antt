-- Counting the records whose key passes a test: over two lists joined, where all keys between two bounds pass, and where none does. The counts
-- of the standing are such counts. Rests on Ascending.
use Prim.Native.Nat.{ℕ, suc, ◌+◌, ◌≤◌, ◌<◌}
use mathlib.Core.Path.{◌≡◌, refl, ◌∙◌, ap}
use mathlib.Core.Bool.{Bool, true, false, cond}
use mathlib.Core.List.{List, [], ◌∷◌, ◌++◌}
use native.Mathlib.Omega.{arith}
use lib.ListN.{length}
use lib.Dec.{leb, ltb}
use Rattle.keys.specs.Block.{in_interval}
use Rattle.definitions.specs.List.{Record, keys_of, Ascending, none, next}
use Rattle.definitions.specs.Standing.{up_to, records_in}
use Rattle.laws.proofs.Ascending.{ascending_bounds}
use Rattle.list.specs.Among.{keys_below}

unfoldable pub counted : (ℕ → Bool) → List Record → ℕ
counted test [] = 0
counted test (e ∷ l) = cond (test e.key) 1 0 + counted test l

pub up_to_counted : (x : ℕ) (l : List Record) → up_to x l ≡ counted (λ κ. leb κ x) l
unfolding up_to counted
up_to_counted x [] = refl
up_to_counted x (e ∷ l) = ap (λ y. cond (leb e.key x) 1 0 + y) (up_to_counted x l)

pub below_counted : (x : ℕ) (l : List Record) → keys_below x (keys_of l) ≡ counted (λ κ. ltb κ x) l
unfolding keys_below counted
below_counted x [] = refl
below_counted x (e ∷ l) = ap (λ y. cond (ltb e.key x) 1 0 + y) (below_counted x l)

pub records_counted : (m κ : ℕ) (l : List Record) → records_in m κ l ≡ counted (in_interval m κ) l
unfolding records_in counted
records_counted m κ [] = refl
records_counted m κ (e ∷ l) = ap (λ y. cond (in_interval m κ e.key) 1 0 + y) (records_counted m κ l)

module _ (test : ℕ → Bool) where
  pub counted_none : counted test [] ≡ 0
  unfolding counted
  counted_none = refl

  pub counted_yes : (e : Record) (l : List Record) → test e.key ≡ true → counted test (e ∷ l) ≡ suc (counted test l)
  unfolding counted
  counted_yes e l h = rw h (omega arith)

  pub counted_no : (e : Record) (l : List Record) → test e.key ≡ false → counted test (e ∷ l) ≡ counted test l
  unfolding counted
  counted_no e l h = rw h (omega arith)

  pub counted-append : (l l' : List Record) → counted test (l ++ l') ≡ counted test l + counted test l'
  unfolding counted
  counted-append [] l' = omega arith
  counted-append (e ∷ l) l' = let h = counted-append l l' in omega arith

  -- where every number between the bounds passes, all are counted, and where none does, none
  pub counted_all : {lo hi : ℕ} {l : List Record} → Ascending lo hi l → ((x : ℕ) → lo ≤ x → x < hi → test x ≡ true) → counted test l ≡ length l
  counted_all (none h) pass = counted_none
  counted_all (next {e = e} {l = l} h a) pass =
      let b = ascending_bounds a in
      counted_yes e l (pass e.key h b) ∙ ap suc (counted_all a (λ x i j. pass x (omega arith) j))

  pub counted_out : {lo hi : ℕ} {l : List Record} → Ascending lo hi l → ((x : ℕ) → lo ≤ x → x < hi → test x ≡ false) → counted test l ≡ 0
  counted_out (none h) fail = counted_none
  counted_out (next {e = e} {l = l} h a) fail =
      let b = ascending_bounds a in
      counted_no e l (fail e.key h b) ∙ counted_out a (λ x i j. fail x (omega arith) j)
