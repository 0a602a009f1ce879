-- The list of a block: its equations, its keys ascend and lie in the block's interval, it depends only on the block's pixels, and its length
-- (specification S4). Rests on Ascending, Features and BitsOf.
use Prim.Native.Nat.{ℕ, zero, suc, ◌+◌, ◌*◌, ◌^◌, ◌≤◌, ◌<◌}
use mathlib.Core.Path.{◌≡◌, sym, ◌∙◌, ap}
use mathlib.Core.Bool.{true, false}
use mathlib.Core.List.{List, [], ◌∷◌, ◌++◌}
use native.Mathlib.Nat.{le_refl, pow-suc, one-le-pow}
use native.Mathlib.Omega.{arith}
use lib.ListN.{length, length-append}
use Rattle.keys.specs.Key.{child_key}
use Rattle.keys.proofs.Cases.{decide}
use Rattle.definitions.specs.Picture.{Picture, one_feature}
use Rattle.definitions.specs.Bits.{bits_of}
use Rattle.definitions.specs.List.{Record, record_of, list_of, Ascending, next}
use Rattle.laws.proofs.Within.{first_within}
use Rattle.laws.proofs.Pixels.{Agree, agree_nw, agree_ne, agree_sw, agree_se}
use Rattle.laws.proofs.Features.{one_agree}
use Rattle.laws.proofs.BitsOf.{bits_zero, bits_agree, bits_one}
use Rattle.laws.proofs.Ascending.{ascending_one, ascending_four}

-- a pixel has one record
pub list_zero : (p : Picture) (r c κ : ℕ) → list_of p zero r c κ ≡ record_of κ (2 ^ p r c) ∷ []
unfolding list_of
list_zero p r c κ = ap (λ b. record_of κ b ∷ []) (bits_zero p r c)

-- a block of one feature has one record
pub list_leaf : (p : Picture) (k r c κ : ℕ) → one_feature p (suc k) r c ≡ true
    → list_of p (suc k) r c κ ≡ record_of κ (bits_of p (suc k) r c) ∷ []
unfolding list_of
list_leaf p k r c κ e = rw e

-- a block of several features has its own record and then those of its quadrants
pub list_node : (p : Picture) (k r c κ : ℕ) → one_feature p (suc k) r c ≡ false
    → list_of p (suc k) r c κ ≡ record_of κ (bits_of p (suc k) r c)
    ∷ (list_of p k r c (child_key κ k 1)
    ++ (list_of p k r (c + 2 ^ k) (child_key κ k 2)
    ++ (list_of p k (r + 2 ^ k) c (child_key κ k 3) ++ list_of p k (r + 2 ^ k) (c + 2 ^ k) (child_key κ k 4))))
unfolding list_of
list_node p k r c κ e = rw e

-- at every height a block of one feature has one record, with that feature's slot
pub list_one : (p : Picture) (k r c κ : ℕ) → one_feature p k r c ≡ true → list_of p k r c κ ≡ record_of κ (2 ^ p r c) ∷ []
list_one p zero r c κ e = list_zero p r c κ
list_one p (suc k) r c κ e = list_leaf p k r c κ e ∙ ap (λ b. record_of κ b ∷ []) (bits_one p (suc k) r c e)

-- the first record of a list is the block's own
pub list_head_first : (p : Picture) (k r c κ : ℕ) → (l : List Record) × (list_of p k r c κ ≡ record_of κ (bits_of p k r c) ∷ l)
list_head_first p zero r c κ = ([], list_zero p r c κ ∙ ap (λ b. record_of κ b ∷ []) (sym (bits_zero p r c)))
list_head_first p (suc k) r c κ = decide (one_feature p (suc k) r c) (λ e. (_, list_leaf p k r c κ e)) (λ e. (_, list_node p k r c κ e))

-- the keys of a block's list ascend strictly in the block's interval
pub list_ascends : (p : Picture) (k r c κ : ℕ) → Ascending κ (κ + 5 ^ k) (list_of p k r c κ)
list_ascends p zero r c κ = rw (list_zero p r c κ) (ascending_one (le_refl κ) (omega arith))
list_ascends p (suc k) r c κ =
    decide (one_feature p (suc k) r c)
    (λ one. rw (list_leaf p k r c κ one) (let h = one-le-pow (suc k) 5 (omega arith) in ascending_one (le_refl κ) (omega arith)))
    (λ several. rw (list_node p k r c κ several, pow-suc 5 k)
    (next (le_refl κ)
    (ascending_four κ (5 ^ k)
    (one-le-pow k 5 (omega arith))
    (list_ascends p k r c (child_key κ k 1))
    (list_ascends p k r (c + 2 ^ k) (child_key κ k 2))
    (list_ascends p k (r + 2 ^ k) c (child_key κ k 3))
    (list_ascends p k (r + 2 ^ k) (c + 2 ^ k) (child_key κ k 4)))))

same_node : {x x' : Record} {a b c d a' b' c' d' : List Record} → x ≡ x' → a ≡ a' → b ≡ b' → c ≡ c' → d ≡ d'
    → x ∷ (a ++ (b ++ (c ++ d))) ≡ x' ∷ (a' ++ (b' ++ (c' ++ d')))
same_node e f g h i = cc

-- pictures that agree on a block have the same list there
pub list_agree : (p q : Picture) (k r c κ : ℕ) → Agree p q k r c → list_of p k r c κ ≡ list_of q k r c κ
list_agree p q zero r c κ h = list_zero p r c κ ∙ ap (λ f. record_of κ (2 ^ f) ∷ []) (h r c (first_within zero r c)) ∙ sym (list_zero q r c κ)
list_agree p q (suc k) r c κ h =
    let same = one_agree p q (suc k) r c h in
    let own : record_of κ (bits_of p (suc k) r c) ≡ record_of κ (bits_of q (suc k) r c) = ap (record_of κ) (bits_agree p q (suc k) r c h) in
    decide (one_feature p (suc k) r c)
    (λ e. list_leaf p k r c κ e ∙ ap (λ x. x ∷ []) own ∙ sym (list_leaf q k r c κ (sym same ∙ e)))
    (λ e. list_node p k r c κ e
    ∙ same_node own
    (list_agree p q k r c (child_key κ k 1) (agree_nw h))
    (list_agree p q k r (c + 2 ^ k) (child_key κ k 2) (agree_ne h))
    (list_agree p q k (r + 2 ^ k) c (child_key κ k 3) (agree_sw h))
    (list_agree p q k (r + 2 ^ k) (c + 2 ^ k) (child_key κ k 4) (agree_se h))
    ∙ sym (list_node q k r c κ (sym same ∙ e)))

-- a list has at least one record
pub list_some : (p : Picture) (k r c κ : ℕ) → 1 ≤ length (list_of p k r c κ)
list_some p k r c κ = let h = ap length (list_head_first p k r c κ).1 in omega arith

-- a node has its own record and those of its quadrants
pub length-node : (p : Picture) (k r c κ : ℕ) → one_feature p (suc k) r c ≡ false → length (list_of p (suc k) r c κ)
    ≡ suc (length (list_of p k r c (child_key κ k 1))
    + (length (list_of p k r (c + 2 ^ k) (child_key κ k 2))
    + (length (list_of p k (r + 2 ^ k) c (child_key κ k 3)) + length (list_of p k (r + 2 ^ k) (c + 2 ^ k) (child_key κ k 4)))))
length-node p k r c κ e = ap length (list_node p k r c κ e) ∙ simp length-append

-- a list has at least five records where the block has several features
pub length-several : (p : Picture) (k r c κ : ℕ) → one_feature p (suc k) r c ≡ false → 5 ≤ length (list_of p (suc k) r c κ)
length-several p k r c κ e =
    let n = length-node p k r c κ e in
    let n₁ = list_some p k r c (child_key κ k 1) in
    let n₂ = list_some p k r (c + 2 ^ k) (child_key κ k 2) in
    let n₃ = list_some p k (r + 2 ^ k) c (child_key κ k 3) in
    let n₄ = list_some p k (r + 2 ^ k) (c + 2 ^ k) (child_key κ k 4) in
    omega arith

-- a list has at most as many records as the block has blocks at or under it: a third of 4 ^ (k + 1), rounded down
pub list_most : (p : Picture) (k r c κ : ℕ) → 3 * length (list_of p k r c κ) < 4 ^ suc k
list_most p zero r c κ = let h = ap length (list_zero p r c κ) in omega arith
list_most p (suc k) r c κ =
    let e = pow-suc 4 (suc k) in
    let h = one-le-pow (suc k) 4 (omega arith) in
    decide (one_feature p (suc k) r c)
    (λ one. let n = ap length (list_leaf p k r c κ one) in omega arith)
    (λ several.
    let n = length-node p k r c κ several in
    let n₁ = list_most p k r c (child_key κ k 1) in
    let n₂ = list_most p k r (c + 2 ^ k) (child_key κ k 2) in
    let n₃ = list_most p k (r + 2 ^ k) c (child_key κ k 3) in
    let n₄ = list_most p k (r + 2 ^ k) (c + 2 ^ k) (child_key κ k 4) in
    omega arith)
