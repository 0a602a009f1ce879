-- What it means to combine two pictures (specification S19): the result shows at each pixel the class that the table names; equal inputs with a
-- diagonal table, a table that looks at one side alone, inputs exchanged with the table transposed; its classes and its length. Rests on ListOf,
-- ReadBack and IsList.
use Prim.Native.Nat.{ℕ, zero, suc, ◌+◌, ◌*◌, ◌^◌, ◌<◌}
use mathlib.Core.Path.{◌≡◌, refl, sym, ap, ◌∙◌}
use mathlib.Core.Bool.{true, false, not, ◌&&◌, true≢false}
use mathlib.Core.List.{List}
use native.Mathlib.Omega.{arith}
use lib.Arith.{digits_lt}
use lib.Dec.{leb, eqb}
use lib.ListN.{length}
use borrow.Author.Tests.{eqb-true, not-false}
use Rattle.keys.specs.Key.{root_key, child_key}
use Rattle.keys.proofs.Cases.{decide, and_left, and_right, neither_left, neither_right}
use Rattle.keys.specs.Under.{here, nw, ne, sw, se, Every}
use Rattle.definitions.specs.Picture.{Picture, one_feature, features_below}
use Rattle.definitions.specs.List.{Record, list_of, list_of_picture}
use Rattle.definitions.specs.Read.{room, records_of, picture_of, same_records, is_list_of_block, is_list}
use Rattle.definitions.specs.Refusal.{bad_pixel}
use Rattle.definitions.specs.Combine.{class_of, combined, combined_list, bad_class_table}
use Rattle.laws.proofs.Features.{one_to, one_from_leaf, one_pixel, one_under, below_to, below_from}
use Rattle.laws.proofs.ListOf.{list_agree, list_one, list_some, length-node}
use Rattle.laws.proofs.ReadBack.{picture_back, root_keys}
use Rattle.laws.proofs.IsList.{same_to, list_passes}
use Rattle.laws.proofs.RasterOf.{pixels_to}

module _ (p q : Picture) (table : List ℕ) (s₂ : ℕ) where
  pub combined_is : (r c : ℕ) → combined p q table s₂ r c ≡ class_of table s₂ (p r c) (q r c)
  unfolding combined
  combined_is r c = refl

  -- where both have one feature, so has the combination
  pub combined_one : (k r c : ℕ) → one_feature p k r c ≡ true → one_feature q k r c ≡ true → one_feature (combined p q table s₂) k r c ≡ true
  combined_one k r c e f =
      one_from_leaf (combined p q table s₂) (class_of table s₂ (p r c) (q r c)) k r c
      (λ r' c' w. combined_is r' c' ∙ ap (λ a. class_of table s₂ a (q r' c')) (one_to p k r c e r' c' w) ∙ ap (class_of table s₂ (p r c)) (one_to q k r c f r' c' w))

-- the result shows at each pixel the class of what the two show there
pub combined_shows : (m : ℕ) (first second : List Record) (table : List ℕ) (s₂ r c : ℕ) → r < 2 ^ m → c < 2 ^ m
    → picture_of m (combined_list m first second table s₂) r c ≡ class_of table s₂ (picture_of m first r c) (picture_of m second r c)
unfolding combined_list
combined_shows m first second table s₂ r c h j =
    picture_back m (combined (picture_of m first) (picture_of m second) table s₂) r c h j ∙ combined_is (picture_of m first) (picture_of m second) table s₂ r c

-- pictures whose classes are below s₁ and s₂ in a block
module _ (p q : Picture) (s₁ s₂ k r c κ : ℕ) (firsts : Every (λ a b. p a b < s₁) k r c) (seconds : Every (λ a b. q a b < s₂) k r c) (table : List ℕ) where
  -- a table that gives each pair of them the class that another picture has there
  combined_as : (t : Picture) → ((a b : ℕ) → p a b < s₁ → q a b < s₂ → class_of table s₂ (p a b) (q a b) ≡ t a b)
      → list_of (combined p q table s₂) k r c κ ≡ list_of t k r c κ
  combined_as t h = list_agree (combined p q table s₂) t k r c κ (λ a b w. combined_is p q table s₂ a b ∙ h a b (firsts a b w) (seconds a b w))

  -- a table that looks at the first side alone gives the first picture recoloured
  pub first_alone : (g : ℕ → ℕ) → ((a b : ℕ) → a < s₁ → b < s₂ → class_of table s₂ a b ≡ g a)
      → list_of (combined p q table s₂) k r c κ ≡ list_of (λ row column. g (p row column)) k r c κ
  first_alone g h = combined_as (λ row column. g (p row column)) (λ a b u v. h (p a b) (q a b) u v)

  -- at the second alone, the second
  pub second_alone : (g : ℕ → ℕ) → ((a b : ℕ) → a < s₁ → b < s₂ → class_of table s₂ a b ≡ g b)
      → list_of (combined p q table s₂) k r c κ ≡ list_of (λ row column. g (q row column)) k r c κ
  second_alone g h = combined_as (λ row column. g (q row column)) (λ a b u v. h (p a b) (q a b) u v)

  -- the inputs exchanged with the table transposed give the same list
  pub exchanged : (transposed : List ℕ) → ((a b : ℕ) → a < s₁ → b < s₂ → class_of table s₂ a b ≡ class_of transposed s₁ b a)
      → list_of (combined p q table s₂) k r c κ ≡ list_of (combined q p transposed s₁) k r c κ
  exchanged transposed h =
      combined_as (combined q p transposed s₁) (λ a b u v. h (p a b) (q a b) u v ∙ sym (combined_is q p transposed s₁ a b))

  -- entries below s₃ give classes below s₃
  pub combined_below : (s₃ : ℕ) → bad_class_table s₁ s₂ s₃ table ≡ false → features_below s₃ (combined p q table s₂) k r c ≡ true
  unfolding bad_class_table
  combined_below s₃ e =
      let sized = eqb-true (length table) (s₁ * s₂) (not-false _ (neither_left (not (eqb (length table) (s₁ * s₂))) (bad_pixel s₃ table) e)) in
      let small = neither_right (not (eqb (length table) (s₁ * s₂))) (bad_pixel s₃ table) e in
      below_from s₃ (combined p q table s₂) k r c
      (λ a b w.
      let d = digits_lt (firsts a b w) (seconds a b w) in
      let h = pixels_to s₃ table (p a b * s₂ + q a b) small (omega arith) in
      rw (combined_is p q table s₂ a b) h)

-- an accepted list is the list of its picture, whose classes are below s
list_own : (m s : ℕ) (keys bits : List ℕ) (n : ℕ) → is_list m s keys bits n ≡ true
    → records_of keys bits n ≡ list_of_picture m (picture_of m (records_of keys bits n))
unfolding is_list is_list_of_block
list_own m s keys bits n e =
    let l = records_of keys bits n in
    same_to l (list_of_picture m (picture_of m l))
    (and_left (same_records l (list_of_picture m (picture_of m l))) (features_below s (picture_of m l) m 0 0)
    (and_right (leb n (room keys bits)) (same_records l (list_of_picture m (picture_of m l)) && features_below s (picture_of m l) m 0 0) e))

list_below : (m s : ℕ) (keys bits : List ℕ) (n : ℕ) → is_list m s keys bits n ≡ true → Every (λ a b. picture_of m (records_of keys bits n) a b < s) m 0 0
unfolding is_list is_list_of_block
list_below m s keys bits n e =
    let l = records_of keys bits n in
    below_to s (picture_of m l) m 0 0
    (and_right (same_records l (list_of_picture m (picture_of m l))) (features_below s (picture_of m l) m 0 0)
    (and_right (leb n (room keys bits)) (same_records l (list_of_picture m (picture_of m l)) && features_below s (picture_of m l) m 0 0) e))

-- equal inputs with a diagonal table give the input
pub diagonal : (p : Picture) (s k r c κ : ℕ) (table : List ℕ) → Every (λ a b. p a b < s) k r c
    → ((a : ℕ) → a < s → class_of table s a a ≡ a)
    → list_of (combined p p table s) k r c κ ≡ list_of p k r c κ
diagonal p s k r c κ table below h = list_agree (combined p p table s) p k r c κ (λ a b w. combined_is p p table s a b ∙ h (p a b) (below a b w))

-- a block of one feature has one record, and so has each quadrant; another has its own and theirs
one_sizes : (p : Picture) (k r c κ : ℕ) → one_feature p (suc k) r c ≡ true
    → (length (list_of p (suc k) r c κ) ≡ 1)
    × ((length (list_of p k r c (child_key κ k 1)) ≡ 1)
    × ((length (list_of p k r (c + 2 ^ k) (child_key κ k 2)) ≡ 1)
    × ((length (list_of p k (r + 2 ^ k) c (child_key κ k 3)) ≡ 1) × (length (list_of p k (r + 2 ^ k) (c + 2 ^ k) (child_key κ k 4)) ≡ 1))))
one_sizes p k r c κ e = (
  ap length (list_one p (suc k) r c κ e),
  (
    ap length (list_one p k _ _ _ (one_under p {κ = κ} (nw here) e)),
    (
      ap length (list_one p k _ _ _ (one_under p {κ = κ} (ne here) e)),
      (ap length (list_one p k _ _ _ (one_under p {κ = κ} (sw here) e)), ap length (list_one p k _ _ _ (one_under p {κ = κ} (se here) e))),
    ),
  ),
)

-- the result has fewer records than the two together
pub combined_most : (p q : Picture) (table : List ℕ) (s₂ k r c κ : ℕ)
    → length (list_of (combined p q table s₂) k r c κ) < length (list_of p k r c κ) + length (list_of q k r c κ)
combined_most p q table s₂ zero r c κ =
    let e = ap length (list_one (combined p q table s₂) zero r c κ (one_pixel (combined p q table s₂) r c)) in
    let f = list_some p zero r c κ in
    let g = list_some q zero r c κ in
    omega arith
combined_most p q table s₂ (suc k) r c κ =
    let h₁ = combined_most p q table s₂ k r c (child_key κ k 1) in
    let h₂ = combined_most p q table s₂ k r (c + 2 ^ k) (child_key κ k 2) in
    let h₃ = combined_most p q table s₂ k (r + 2 ^ k) c (child_key κ k 3) in
    let h₄ = combined_most p q table s₂ k (r + 2 ^ k) (c + 2 ^ k) (child_key κ k 4) in
    let f = list_some p (suc k) r c κ in
    let g = list_some q (suc k) r c κ in
    decide (one_feature (combined p q table s₂) (suc k) r c)
    (λ one. let e = ap length (list_one (combined p q table s₂) (suc k) r c κ one) in omega arith)
    (λ several.
    let e = length-node (combined p q table s₂) k r c κ several in
    decide (one_feature p (suc k) r c)
    (λ one-p.
    let a = one_sizes p k r c κ one-p in
    decide (one_feature q (suc k) r c)
    (λ one-q. absurd (true≢false (sym (combined_one p q table s₂ (suc k) r c one-p one-q) ∙ several)))
    (λ several-q. let b = length-node q k r c κ several-q in omega (arith, a.0, a.1.0, a.1.1.0, a.1.1.1.0, a.1.1.1.1)))
    (λ several-p.
    let a = length-node p k r c κ several-p in
    decide (one_feature q (suc k) r c)
    (λ one-q. let b = one_sizes q k r c κ one-q in omega (arith, b.0, b.1.0, b.1.1.0, b.1.1.1.0, b.1.1.1.1))
    (λ several-q. let b = length-node q k r c κ several-q in omega arith)))

-- two lists, as the call is lent them
module _ (m s₁ s₂ : ℕ) (keys₁ bits₁ : List ℕ) (n₁ : ℕ) (keys₂ bits₂ : List ℕ) (n₂ : ℕ) (table : List ℕ)
    (first_list : is_list m s₁ keys₁ bits₁ n₁ ≡ true) (second_list : is_list m s₂ keys₂ bits₂ n₂ ≡ true) where
  -- the result is a list at m and s₃
  pub result_list : (s₃ : ℕ) → bad_class_table s₁ s₂ s₃ table ≡ false
      → is_list_of_block m s₃ m 0 0 root_key (combined_list m (records_of keys₁ bits₁ n₁) (records_of keys₂ bits₂ n₂) table s₂) ≡ true
  unfolding combined_list
  result_list s₃ e =
      list_passes m s₃ (combined (picture_of m (records_of keys₁ bits₁ n₁)) (picture_of m (records_of keys₂ bits₂ n₂)) table s₂) m 0 0 root_key (root_keys m)
      (combined_below (picture_of m (records_of keys₁ bits₁ n₁)) (picture_of m (records_of keys₂ bits₂ n₂)) s₁ s₂ m 0 0 root_key
      (list_below m s₁ keys₁ bits₁ n₁ first_list) (list_below m s₂ keys₂ bits₂ n₂ second_list) table s₃ e)

  -- with the inputs exchanged and the table transposed it is the same list
  pub lists_exchanged : (transposed : List ℕ) → ((a b : ℕ) → a < s₁ → b < s₂ → class_of table s₂ a b ≡ class_of transposed s₁ b a)
      → combined_list m (records_of keys₁ bits₁ n₁) (records_of keys₂ bits₂ n₂) table s₂
      ≡ combined_list m (records_of keys₂ bits₂ n₂) (records_of keys₁ bits₁ n₁) transposed s₁
  unfolding combined_list
  lists_exchanged transposed h =
      exchanged (picture_of m (records_of keys₁ bits₁ n₁)) (picture_of m (records_of keys₂ bits₂ n₂)) s₁ s₂ m 0 0 root_key
      (list_below m s₁ keys₁ bits₁ n₁ first_list) (list_below m s₂ keys₂ bits₂ n₂ second_list) table transposed h

-- one list with itself and a diagonal table is that list
pub input_back : (m s : ℕ) (keys bits : List ℕ) (n : ℕ) (table : List ℕ) → is_list m s keys bits n ≡ true → ((a : ℕ) → a < s → class_of table s a a ≡ a)
    → combined_list m (records_of keys bits n) (records_of keys bits n) table s ≡ records_of keys bits n
unfolding combined_list
input_back m s keys bits n table e h =
    diagonal (picture_of m (records_of keys bits n)) s m 0 0 root_key table (list_below m s keys bits n e) h ∙ sym (list_own m s keys bits n e)
