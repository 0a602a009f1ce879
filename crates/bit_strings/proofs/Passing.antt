-- Reading block by block: where the code is stuck the pair is refused, where it passes a block the rest decides, and past the last block what is left
-- over does. Rests on the keys' laws of zeros.
use Prim.Native.Nat.{ℕ, zero, suc, ◌+◌, ◌/◌, ◌^◌, ◌≤◌, ◌<◌}
use mathlib.Core.Path.{◌≡◌, refl, sym, ap, ◌∙◌}
use Rattle.std.specs.Prelude.{Option, Some, None}
use mathlib.Core.Bool.{Bool, true, false, cond}
use mathlib.Core.Logic.{◌⊎◌, inl, inr}
use mathlib.Core.List.{List, [], ◌∷◌}
use native.Mathlib.Nat.{pow-suc, one-le-pow}
use native.Mathlib.Omega.{arith}
use lib.ListN.{length, drop}
use lib.Dec.{leb}
use borrow.Author.Tests.{eq-eqb, ne_eqb, le-leb, lt-leb}
use Rattle.keys.specs.Key.{zeros_at_end}
use Rattle.keys.proofs.Cases.{decide, equal}
use Rattle.keys.proofs.LastZeros.{keys_most}
use Rattle.definitions.specs.List.{Record, record_of}
use Rattle.definitions.specs.BitStrings.{key_after, four_equal, is_whole, left_over, reading, leaf_value, inner_value, records_from}
use Rattle.definitions.specs.BitStrings.{ends_early, too_deep, equal_siblings}
use Rattle.bit_strings.specs.Steps.{passed}
use Rattle.bit_strings.specs.declared.next.AfterBlock.{AfterBlock}

-- ---- the next key lies beyond, and not far

fifth : (k : ℕ) → 5 ^ suc k / 5 ≡ 5 ^ k
fifth k = let e = pow-suc 5 k in omega arith

pub after_leaf : (m x : ℕ) → key_after m x true ≡ x + 5 ^ zeros_at_end m x
unfolding key_after
after_leaf m x = refl

pub after_inner : (m x : ℕ) → key_after m x false ≡ x + 5 ^ zeros_at_end m x / 5
unfolding key_after
after_inner m x = refl

pub leaf_beyond : (m x : ℕ) → x < key_after m x true
leaf_beyond m x = let e = after_leaf m x in let h = one-le-pow (zeros_at_end m x) 5 (omega arith) in omega arith

positive : (k : ℕ) → (k ≡ 0 → ⊥) → 1 ≤ 5 ^ k / 5
positive zero h = absurd (h refl)
positive (suc k) h = let e = fifth k in let o = one-le-pow k 5 (omega arith) in omega arith

pub inner_beyond : (m x : ℕ) → (zeros_at_end m x ≡ 0 → ⊥) → x < key_after m x false
inner_beyond m x h = let e = after_inner m x in let p = positive (zeros_at_end m x) h in omega arith

pub after_near : (m x : ℕ) (leaf : Bool) → key_after m x leaf ≤ x + 5 ^ m
after_near m x true = let e = after_leaf m x in let s = keys_most m x in omega arith
after_near m x false = let e = after_inner m x in let s = keys_most m x in omega arith

-- ---- one block

-- past the last block
pub reading_past : (m x : ℕ) (nodes leaves : List Bool) → 5 ^ m ≤ x → reading m x nodes leaves ≡ left_over nodes leaves
unfolding reading
reading_past m x [] leaves h = rw (le-leb (5 ^ m) x h) refl
reading_past m x (true ∷ nodes) [] h = rw (le-leb (5 ^ m) x h) refl
reading_past m x (true ∷ nodes) (f ∷ leaves) h = rw (le-leb (5 ^ m) x h) refl
reading_past m x (false ∷ nodes) leaves h = rw (le-leb (5 ^ m) x h) refl

pub records_past : (m x : ℕ) (nodes leaves : List Bool) → 5 ^ m ≤ x → records_from m x nodes leaves ≡ []
unfolding records_from
records_past m x [] leaves h = refl
records_past m x (true ∷ nodes) leaves h = rw (le-leb (5 ^ m) x h) refl
records_past m x (false ∷ nodes) leaves h = rw (le-leb (5 ^ m) x h) refl

module _ (m x : ℕ) (inside : x < 5 ^ m) where
  not_past : leb (5 ^ m) x ≡ false
  not_past = lt-leb (5 ^ m) x inside

  pub reading_none : (leaves : List Bool) → reading m x [] leaves ≡ ends_early
  unfolding reading
  reading_none leaves = rw not_past refl

  pub reading_no_leaf : (nodes : List Bool) → reading m x (true ∷ nodes) [] ≡ ends_early
  unfolding reading
  reading_no_leaf nodes = rw not_past refl

  pub reading_leaf : (nodes : List Bool) (f : Bool) (leaves : List Bool) → reading m x (true ∷ nodes) (f ∷ leaves) ≡ reading m (key_after m x true) nodes leaves
  unfolding reading
  reading_leaf nodes f leaves = rw not_past refl

  pub reading_deep : (nodes leaves : List Bool) → zeros_at_end m x ≡ 0 → reading m x (false ∷ nodes) leaves ≡ too_deep
  unfolding reading
  reading_deep nodes leaves e = rw (not_past, eq-eqb (zeros_at_end m x) 0 e) refl

  pub reading_equal : (nodes leaves : List Bool) → (zeros_at_end m x ≡ 0 → ⊥) → four_equal nodes leaves ≡ true → reading m x (false ∷ nodes) leaves ≡ equal_siblings
  unfolding reading
  reading_equal nodes leaves e f = rw (not_past, ne_eqb (zeros_at_end m x) 0 e, f) refl

  pub reading_inner : (nodes leaves : List Bool) → (zeros_at_end m x ≡ 0 → ⊥) → four_equal nodes leaves ≡ false
      → reading m x (false ∷ nodes) leaves ≡ reading m (key_after m x false) nodes leaves
  unfolding reading
  reading_inner nodes leaves e f = rw (not_past, ne_eqb (zeros_at_end m x) 0 e, f) refl

  pub records_leaf : (nodes leaves : List Bool)
      → records_from m x (true ∷ nodes) leaves ≡ record_of x (leaf_value leaves) ∷ records_from m (key_after m x true) nodes (drop 1 leaves)
  unfolding records_from
  records_leaf nodes leaves = rw not_past refl

  pub records_inner : (nodes leaves : List Bool)
      → records_from m x (false ∷ nodes) leaves ≡ record_of x inner_value ∷ records_from m (key_after m x false) nodes leaves
  unfolding records_from
  records_inner nodes leaves = rw not_past refl

-- ---- what the code's step says

-- the block was passed, and the rest decides
pub record GoesOn (m x : ℕ) (nodes leaves : List Bool) (p : AfterBlock) : Type 0 where
  pub beyond : x < p.key
  pub near : p.key ≤ x + 5 ^ m
  pub read : is_whole (reading m x nodes leaves) ≡ is_whole (reading m p.key (drop 1 nodes) (drop (cond p.leaf 1 0) leaves))
  pub records : length (records_from m x nodes leaves) ≡ 1 + length (records_from m p.key (drop 1 nodes) (drop (cond p.leaf 1 0) leaves))

-- the block was not passed, and the pair is refused
pub record Stuck (m x : ℕ) (nodes leaves : List Bool) (p : Option AfterBlock) : Type 0 where
  pub nowhere : p ≡ None
  pub refused : is_whole (reading m x nodes leaves) ≡ false

-- or it was, and the rest decides
pub record Passed (m x : ℕ) (nodes leaves : List Bool) (p : Option AfterBlock) : Type 0 where
  pub block : AfterBlock
  pub somewhere : p ≡ Some block
  pub on : GoesOn m x nodes leaves block

more : {a b : List Record} {e : Record} → a ≡ e ∷ b → length a ≡ 1 + length b
more e = let h = ap length e in omega arith

pub step : (m x : ℕ) (nodes leaves : List Bool) → x < 5 ^ m
    → Stuck m x nodes leaves (passed m x nodes leaves) ⊎ Passed m x nodes leaves (passed m x nodes leaves)
unfolding passed is_whole
step m x [] leaves h = inl (record { nowhere = refl; refused = ap is_whole (reading_none m x h leaves) })
step m x (true ∷ nodes) [] h = inl (record { nowhere = refl; refused = ap is_whole (reading_no_leaf m x h nodes) })
step m x (true ∷ nodes) (f ∷ leaves) h = inr (record {
  block = record { key = key_after m x true; leaf = true };
  somewhere = refl;
  on = record {
    beyond = leaf_beyond m x;
    near = after_near m x true;
    read = ap is_whole (reading_leaf m x h nodes f leaves);
    records = more (records_leaf m x h nodes (f ∷ leaves));
  };
})
step m x (false ∷ nodes) leaves h =
    equal (zeros_at_end m x) 0
    (λ e. inl (record {
      nowhere = rw (eq-eqb (zeros_at_end m x) 0 e) refl;
      refused = ap is_whole (reading_deep m x h nodes leaves e);
    }))
    (λ e. decide (four_equal nodes leaves)
    (λ f. inl (record {
      nowhere = rw (ne_eqb (zeros_at_end m x) 0 e, f) refl;
      refused = ap is_whole (reading_equal m x h nodes leaves e f);
    }))
    (λ f. inr (record {
      block = record { key = key_after m x false; leaf = false };
      somewhere = rw (ne_eqb (zeros_at_end m x) 0 e, f) refl;
      on = record {
        beyond = inner_beyond m x e;
        near = after_near m x false;
        read = ap is_whole (reading_inner m x h nodes leaves e f);
        records = more (records_inner m x h nodes leaves);
      };
    })))

-- ---- the next key, as the code adds it

module _ (m x step : ℕ) (leaf : Bool) (is : step ≡ 5 ^ zeros_at_end m x) where
  pub key_leaf : leaf ≡ true → x + step ≡ key_after m x leaf
  key_leaf e = ap (λ k. x + k) is ∙ sym (ap (key_after m x) e ∙ after_leaf m x)

  pub key_inner : leaf ≡ false → x + step / 5 ≡ key_after m x leaf
  key_inner e = ap (λ k. x + k / 5) is ∙ sym (ap (key_after m x) e ∙ after_inner m x)
