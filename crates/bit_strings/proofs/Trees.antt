-- A list of two features and its pair of strings, block by block: reading the bits of a list gives its records, and an accepted pair has the bits of
-- such a list. Rests on Places, Siblings and Passing.
use Prim.Native.Nat.{ℕ, zero, suc, ◌+◌, ◌*◌, ◌/◌, ◌^◌, ◌<◌}
use mathlib.Core.Path.{◌≡◌, refl, sym, ap, ◌∙◌}
use mathlib.Core.Bool.{Bool, true, false, cond, false≢true}
use mathlib.Core.List.{List, [], ◌∷◌, ◌++◌, append_assoc}
use native.Mathlib.Nat.{pow-suc, one-le-pow, suc-mul}
use native.Mathlib.Omega.{arith}
use Rattle.keys.specs.Key.{child_key, zeros_at_end}
use Rattle.keys.proofs.Cases.{decide}
use Rattle.definitions.specs.List.{Record, record_of}
use Rattle.definitions.specs.BitStrings.{node_bits, leaf_bits, key_after, four_equal, is_whole, reading, records_from}
use Rattle.definitions.specs.BitStrings.{ends_early, too_deep, equal_siblings}
use Rattle.bit_strings.proofs.Passing.{after_leaf, after_inner, reading_none, reading_no_leaf, reading_leaf, reading_deep, reading_equal, reading_inner, records_leaf, records_inner}
use Rattle.bit_strings.proofs.Shape.{Shape, leaf, node, nodes_leaf, nodes_inner, leaves_leaf, leaves_inner, nodes_none, leaves_none}
use Rattle.bit_strings.proofs.Places.{Place, child_place}
use Rattle.bit_strings.proofs.Siblings.{four_siblings, four_nodes, four_leaf_bits, four_differ, differ_four}

-- ---- reading the bits of a list gives the list

leaf_key : {m k κ : ℕ} → Place m k κ → key_after m κ true ≡ κ + 5 ^ k
leaf_key {m} {k} {κ} p = after_leaf m κ ∙ ap (λ h. κ + 5 ^ h) p.levels

inner_key : {m k κ : ℕ} → Place m (suc k) κ → key_after m κ false ≡ child_key κ k 1
inner_key {m} {k} {κ} p =
    let e = pow-suc 5 k in
    let fifth : 5 ^ suc k / 5 ≡ 1 * 5 ^ k = omega arith in
    after_inner m κ ∙ ap (λ h. κ + 5 ^ h / 5) p.levels ∙ ap (λ x. κ + x) fifth

inside : {m k κ : ℕ} → Place m k κ → κ < 5 ^ m
inside {m} {k} {κ} p = let r = p.room in let o = one-le-pow k 5 (omega arith) in omega arith

not_lowest : {m k κ : ℕ} → Place m (suc k) κ → zeros_at_end m κ ≡ 0 → ⊥
not_lowest p e = let l = p.levels in omega arith

key_on : (κ k d e : ℕ) → e ≡ suc d → child_key κ k d + 5 ^ k ≡ child_key κ k e
key_on κ k d e h = let p : e * 5 ^ k ≡ d * 5 ^ k + 5 ^ k = ap (λ x. x * 5 ^ k) h ∙ succ d (5 ^ k) in omega arith
  where
    succ : (d x : ℕ) → suc d * x ≡ d * x + x
    succ d x = suc-mul d x

key_end : (κ k : ℕ) → child_key κ k 4 + 5 ^ k ≡ κ + 5 ^ suc k
key_end κ k = let e = pow-suc 5 k in omega arith

pub record ReadsAs (m : ℕ) (k κ : ℕ) (l : List Record) (ns ls : List Bool) : Type 0 where
  pub read : reading m κ (node_bits l ++ ns) (leaf_bits l ++ ls) ≡ reading m (κ + 5 ^ k) ns ls
  pub records : records_from m κ (node_bits l ++ ns) (leaf_bits l ++ ls) ≡ l ++ records_from m (κ + 5 ^ k) ns ls

four_records : (e : Record) (a b c d rest : List Record) → e ∷ (a ++ (b ++ (c ++ (d ++ rest)))) ≡ (e ∷ (a ++ (b ++ (c ++ d)))) ++ rest
four_records e a b c d rest = simp append_assoc refl

pub list_read : {m k κ v : ℕ} {l : List Record} → Shape k κ v l → Place m k κ → (ns ls : List Bool) → ReadsAs m k κ l ns ls
list_read {m} {k} {κ} (leaf b) p ns ls =
    let nodes : node_bits (record_of κ (cond b 2 1) ∷ []) ++ ns ≡ true ∷ ns = ap (λ l. l ++ ns) (nodes_leaf κ b [] ∙ ap (λ l. true ∷ l) nodes_none) in
    let leaves : leaf_bits (record_of κ (cond b 2 1) ∷ []) ++ ls ≡ b ∷ ls = ap (λ l. l ++ ls) (leaves_leaf κ b [] ∙ ap (λ l. b ∷ l) leaves_none) in
    record {
      read = (λ i. reading m κ (nodes i) (leaves i)) ∙ reading_leaf m κ (inside p) ns b ls ∙ ap (λ x. reading m x ns ls) (leaf_key p);
      records =
          (λ i. records_from m κ (nodes i) (leaves i))
          ∙ records_leaf m κ (inside p) ns (b ∷ ls)
          ∙ ap (λ x. record_of κ (cond b 2 1) ∷ records_from m x ns ls) (leaf_key p);
    }
list_read {m} {κ = κ} (node {k = k} {nw = nw} {ne = ne} {sw = sw} {se = se} a b c d u) p ns ls =
    let below = nw ++ (ne ++ (sw ++ se)) in
    let nodes : node_bits (record_of κ 3 ∷ below) ++ ns ≡ false ∷ four_siblings (node_bits nw) (node_bits ne) (node_bits sw) (node_bits se) ns =
    ap (λ l. l ++ ns) (nodes_inner κ below) ∙ ap (λ l. false ∷ l) (four_nodes nw ne sw se ns) in
    let leaves : leaf_bits (record_of κ 3 ∷ below) ++ ls ≡ four_siblings (leaf_bits nw) (leaf_bits ne) (leaf_bits sw) (leaf_bits se) ls =
    ap (λ l. l ++ ls) (leaves_inner κ below) ∙ four_leaf_bits nw ne sw se ls in
    let first = list_read a (child_place p 1 (omega arith) (omega arith)) (node_bits ne ++ (node_bits sw ++ (node_bits se ++ ns))) (leaf_bits ne ++ (leaf_bits sw ++ (leaf_bits se ++ ls))) in
    let second = list_read b (child_place p 2 (omega arith) (omega arith)) (node_bits sw ++ (node_bits se ++ ns)) (leaf_bits sw ++ (leaf_bits se ++ ls)) in
    let third = list_read c (child_place p 3 (omega arith) (omega arith)) (node_bits se ++ ns) (leaf_bits se ++ ls) in
    let fourth = list_read d (child_place p 4 (omega arith) (omega arith)) ns ls in
    let ns₁ = node_bits ne ++ (node_bits sw ++ (node_bits se ++ ns)) in
    let ls₁ = leaf_bits ne ++ (leaf_bits sw ++ (leaf_bits se ++ ls)) in
    let ns₂ = node_bits sw ++ (node_bits se ++ ns) in
    let ls₂ = leaf_bits sw ++ (leaf_bits se ++ ls) in
    record {
      read =
          (λ i. reading m κ (nodes i) (leaves i))
          ∙ reading_inner m κ (inside p) (four_siblings (node_bits nw) (node_bits ne) (node_bits sw) (node_bits se) ns) (four_siblings (leaf_bits nw) (leaf_bits ne) (leaf_bits sw) (leaf_bits se) ls) (not_lowest p) (four_differ a b c d ns ls u)
          ∙ ap (λ x. reading m x (node_bits nw ++ ns₁) (leaf_bits nw ++ ls₁)) (inner_key p)
          ∙ first.read
          ∙ ap (λ x. reading m x ns₁ ls₁) (key_on κ k 1 2 refl)
          ∙ second.read
          ∙ ap (λ x. reading m x ns₂ ls₂) (key_on κ k 2 3 refl)
          ∙ third.read
          ∙ ap (λ x. reading m x (node_bits se ++ ns) (leaf_bits se ++ ls)) (key_on κ k 3 4 refl)
          ∙ fourth.read
          ∙ ap (λ x. reading m x ns ls) (key_end κ k);
      records =
          (λ i. records_from m κ (nodes i) (leaves i))
          ∙ records_inner m κ (inside p) (four_siblings (node_bits nw) (node_bits ne) (node_bits sw) (node_bits se) ns) (four_siblings (leaf_bits nw) (leaf_bits ne) (leaf_bits sw) (leaf_bits se) ls)
          ∙ ap (λ t. record_of κ 3 ∷ t)
          (ap (λ x. records_from m x (node_bits nw ++ ns₁) (leaf_bits nw ++ ls₁)) (inner_key p)
          ∙ first.records
          ∙ ap (λ t. nw ++ t)
          (ap (λ x. records_from m x ns₁ ls₁) (key_on κ k 1 2 refl)
          ∙ second.records
          ∙ ap (λ t. ne ++ t)
          (ap (λ x. records_from m x ns₂ ls₂) (key_on κ k 2 3 refl)
          ∙ third.records
          ∙ ap (λ t. sw ++ t)
          (ap (λ x. records_from m x (node_bits se ++ ns) (leaf_bits se ++ ls)) (key_on κ k 3 4 refl)
          ∙ fourth.records
          ∙ ap (λ x. se ++ records_from m x ns ls) (key_end κ k)))))
          ∙ four_records (record_of κ 3) nw ne sw se (records_from m (κ + 5 ^ suc k) ns ls);
    }

-- ---- an accepted string of bits begins with those of a list

early : is_whole ends_early ≡ true → ⊥
unfolding is_whole
early e = false≢true e

deep : is_whole too_deep ≡ true → ⊥
unfolding is_whole
deep e = false≢true e

equals : is_whole equal_siblings ≡ true → ⊥
unfolding is_whole
equals e = false≢true e

pub record BlockRead (m k κ : ℕ) (ns ls : List Bool) : Type 0 where
  pub own : ℕ
  pub list : List Record
  pub more_nodes : List Bool
  pub more_leaves : List Bool
  pub shape : Shape k κ own list
  pub nodes : ns ≡ node_bits list ++ more_nodes
  pub leaves : ls ≡ leaf_bits list ++ more_leaves
  pub whole : is_whole (reading m (κ + 5 ^ k) more_nodes more_leaves) ≡ true

leaf_read : {m k κ : ℕ} → Place m k κ → (ns : List Bool) (f : Bool) (ls : List Bool) → is_whole (reading m κ (true ∷ ns) (f ∷ ls)) ≡ true
    → BlockRead m k κ (true ∷ ns) (f ∷ ls)
leaf_read {m} {k} {κ} p ns f ls e = record {
  own = cond f 2 1;
  list = record_of κ (cond f 2 1) ∷ [];
  more_nodes = ns;
  more_leaves = ls;
  shape = leaf f;
  nodes = sym (ap (λ l. l ++ ns) (nodes_leaf κ f [] ∙ ap (λ l. true ∷ l) nodes_none));
  leaves = sym (ap (λ l. l ++ ls) (leaves_leaf κ f [] ∙ ap (λ l. f ∷ l) leaves_none));
  whole = sym (ap is_whole (reading_leaf m κ (inside p) ns f ls ∙ ap (λ x. reading m x ns ls) (leaf_key p))) ∙ e;
}

in_turn : {A : Type 0} (a b c d rest : List A) {l₀ l₁ l₂ l₃ : List A} → l₀ ≡ a ++ l₁ → l₁ ≡ b ++ l₂ → l₂ ≡ c ++ l₃ → l₃ ≡ d ++ rest → l₀ ≡ four_siblings a b c d rest
in_turn a b c d rest e f g h = e ∙ ap (λ l. a ++ l) (f ∙ ap (λ l. b ++ l) (g ∙ ap (λ l. c ++ l) h))

node_read : {m k κ : ℕ} → Place m (suc k) κ → (ns ls : List Bool) → four_equal ns ls ≡ false
    → (A : BlockRead m k (child_key κ k 1) ns ls)
    → (B : BlockRead m k (child_key κ k 2) A.more_nodes A.more_leaves)
    → (C : BlockRead m k (child_key κ k 3) B.more_nodes B.more_leaves)
    → BlockRead m k (child_key κ k 4) C.more_nodes C.more_leaves
    → BlockRead m (suc k) κ (false ∷ ns) ls
node_read {m} {k} {κ} p ns ls differ A B C D =
    let below = A.list ++ (B.list ++ (C.list ++ D.list)) in
    let ns-are = in_turn (node_bits A.list) (node_bits B.list) (node_bits C.list) (node_bits D.list) D.more_nodes A.nodes B.nodes C.nodes D.nodes in
    let ls-are = in_turn (leaf_bits A.list) (leaf_bits B.list) (leaf_bits C.list) (leaf_bits D.list) D.more_leaves A.leaves B.leaves C.leaves D.leaves in
    record {
      own = 3;
      list = record_of κ 3 ∷ below;
      more_nodes = D.more_nodes;
      more_leaves = D.more_leaves;
      shape = node A.shape B.shape C.shape D.shape
          (differ_four A.shape B.shape C.shape D.shape D.more_nodes D.more_leaves (sym (λ i. four_equal (ns-are i) (ls-are i)) ∙ differ));
      nodes =
          ap (λ l. false ∷ l) (ns-are ∙ sym (four_nodes A.list B.list C.list D.list D.more_nodes))
          ∙ sym (ap (λ l. l ++ D.more_nodes) (nodes_inner κ below));
      leaves =
          ls-are
          ∙ sym (four_leaf_bits A.list B.list C.list D.list D.more_leaves)
          ∙ sym (ap (λ l. l ++ D.more_leaves) (leaves_inner κ below));
      whole = sym (ap (λ x. is_whole (reading m x D.more_nodes D.more_leaves)) (key_end κ k)) ∙ D.whole;
    }

-- one pixel
lowest_read : (m κ : ℕ) → Place m zero κ → (ns ls : List Bool) → is_whole (reading m κ ns ls) ≡ true → BlockRead m zero κ ns ls
lowest_read m κ p [] ls e = absurd (early (sym (ap is_whole (reading_none m κ (inside p) ls)) ∙ e))
lowest_read m κ p (true ∷ ns) [] e = absurd (early (sym (ap is_whole (reading_no_leaf m κ (inside p) ns)) ∙ e))
lowest_read m κ p (true ∷ ns) (f ∷ ls) e = leaf_read p ns f ls e
lowest_read m κ p (false ∷ ns) ls e = absurd (deep (sym (ap is_whole (reading_deep m κ (inside p) ns ls p.levels)) ∙ e))

-- a larger block, where its children are read
higher_read : (m k : ℕ) → ((κ : ℕ) → Place m k κ → (ns ls : List Bool) → is_whole (reading m κ ns ls) ≡ true → BlockRead m k κ ns ls)
    → (κ : ℕ) → Place m (suc k) κ → (ns ls : List Bool) → is_whole (reading m κ ns ls) ≡ true → BlockRead m (suc k) κ ns ls
higher_read m k child κ p [] ls e = absurd (early (sym (ap is_whole (reading_none m κ (inside p) ls)) ∙ e))
higher_read m k child κ p (true ∷ ns) [] e = absurd (early (sym (ap is_whole (reading_no_leaf m κ (inside p) ns)) ∙ e))
higher_read m k child κ p (true ∷ ns) (f ∷ ls) e = leaf_read p ns f ls e
higher_read m k child κ p (false ∷ ns) ls e =
    decide (four_equal ns ls)
    (λ q. absurd (equals (sym (ap is_whole (reading_equal m κ (inside p) ns ls (not_lowest p) q)) ∙ e)))
    (λ q.
    let start = sym (ap is_whole (reading_inner m κ (inside p) ns ls (not_lowest p) q ∙ ap (λ x. reading m x ns ls) (inner_key p))) ∙ e in
    let A = child (child_key κ k 1) (child_place p 1 (omega arith) (omega arith)) ns ls start in
    let B = child (child_key κ k 2) (child_place p 2 (omega arith) (omega arith)) A.more_nodes A.more_leaves
    (sym (ap (λ x. is_whole (reading m x A.more_nodes A.more_leaves)) (key_on κ k 1 2 refl)) ∙ A.whole) in
    let C = child (child_key κ k 3) (child_place p 3 (omega arith) (omega arith)) B.more_nodes B.more_leaves
    (sym (ap (λ x. is_whole (reading m x B.more_nodes B.more_leaves)) (key_on κ k 2 3 refl)) ∙ B.whole) in
    let D = child (child_key κ k 4) (child_place p 4 (omega arith) (omega arith)) C.more_nodes C.more_leaves
    (sym (ap (λ x. is_whole (reading m x C.more_nodes C.more_leaves)) (key_on κ k 3 4 refl)) ∙ C.whole) in
    node_read p ns ls q A B C D)

pub block_read : (m k κ : ℕ) → Place m k κ → (ns ls : List Bool) → is_whole (reading m κ ns ls) ≡ true → BlockRead m k κ ns ls
block_read m zero κ = lowest_read m κ
block_read m (suc k) κ = higher_read m k (block_read m k) κ
