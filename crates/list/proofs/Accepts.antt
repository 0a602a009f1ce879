-- What the check accepts, as one test of the records: it is refusal 4's own test of a block's list, and it is what the code finds in two slices.
-- Rests on Sound and Complete.
use Prim.Native.Nat.{ℕ, ◌^◌}
use mathlib.Core.Path.{◌≡◌, refl, sym, ◌∙◌, ap}
use mathlib.Core.Bool.{Bool, true, false, ◌&&◌, false≢true}
use mathlib.Core.List.{List, [], ◌∷◌, append-nil}
use native.Mathlib.Omega.{arith}
use lib.Dec.{ltb, eqb}
use lib.ListN.{length}
use borrow.Author.Tests.{ltb-true, lt-ltb, eqb-true, eq-eqb}
use Rattle.keys.specs.Key.{valid_key, height_of}
use Rattle.keys.specs.Block.{row_of, column_of}
use Rattle.keys.proofs.Cases.{and_left, and_right, and_both, same_test}
use Rattle.keys.proofs.Valid.{valid_block}
use Rattle.keys.proofs.Pixel.{pixel_in_block}
use Rattle.definitions.specs.Bits.{bits_of}
use Rattle.definitions.specs.List.{Record, record_of, list_of}
use Rattle.definitions.specs.Read.{is_list_of_block}
use Rattle.definitions.specs.Log.{is_content}
use Rattle.laws.proofs.BitsOf.{bits_below, below_bits}
use Rattle.laws.proofs.ListOf.{list_head_first}
use Rattle.laws.proofs.ReadBack.{KeysFrom}
use Rattle.laws.proofs.IsList.{ShowsBlock, block_list_to, block_list_from}
use Rattle.list.specs.Check.{Outcome, wrong, left, after_own, after_node}
use Rattle.list.proofs.Sound.{sound}
use Rattle.list.proofs.Complete.{complete}

-- the block's records are right, and none is left
unfoldable pub accepts_whole : Outcome → Bool
accepts_whole wrong = false
accepts_whole (left l) = eqb (length l) 0

-- the first record has the block's key and slots below s, and what follows it is all that must
unfoldable pub accepts : ℕ → ℕ → ℕ → List Record → Bool
accepts s k κ [] = false
accepts s k κ (e ∷ l) = eqb e.key κ && (ltb e.value (2 ^ s) && accepts_whole (after_own (after_node k) κ e.value l))

nothing : (o : Outcome) → accepts_whole o ≡ true → o ≡ left []
unfolding accepts_whole
nothing wrong e = absurd (false≢true e)
nothing (left []) e = refl
nothing (left (x ∷ l)) e = absurd (let h = eqb-true (length (x ∷ l)) 0 e in omega arith)

-- what is accepted is the list of some picture's block, with features below s
pub accepts_to : (s k r c κ : ℕ) (l : List Record) → accepts s k κ l ≡ true → ShowsBlock s k r c κ l
unfolding accepts
accepts_to s k r c κ [] e = absurd (false≢true e)
accepts_to s k r c κ (x ∷ l) e =
    let below-s = ltb x.value (2 ^ s) in
    let whole = accepts_whole (after_own (after_node k) κ x.value l) in
    let key = eqb-true _ _ (and_left (eqb x.key κ) (below-s && whole) e) in
    let more = and_right (eqb x.key κ) (below-s && whole) e in
    let small = ltb-true x.value (2 ^ s) (and_left below-s whole more) in
    let shown = sound k r c κ x.value l [] (nothing _ (and_right below-s whole more)) in
    let b = shown.bits_are in
    record {
      picture = shown.picture;
      below = below_bits s shown.picture k r c (omega arith);
      is = ap (λ y. record_of y x.value ∷ l) key ∙ shown.is ∙ append-nil (list_of shown.picture k r c κ);
    }

-- and every such list is accepted
pub accepts_from : (s k r c κ : ℕ) (l : List Record) → ShowsBlock s k r c κ l → accepts s k κ l ≡ true
unfolding accepts accepts_whole
accepts_from s k r c κ l x =
    let first = list_head_first x.picture k r c κ in
    let b = bits_of x.picture k r c in
    let end : after_own (after_node k) κ b first.0 ≡ left [] =
    ap (after_own (after_node k) κ b) (sym (append-nil first.0)) ∙ complete x.picture k r c κ first.0 [] first.1 in
    ap (accepts s k κ) (x.is ∙ first.1)
    ∙ and_both (eqb κ κ) (ltb b (2 ^ s) && accepts_whole (after_own (after_node k) κ b first.0))
    (eq-eqb κ κ refl)
    (and_both (ltb b (2 ^ s)) (accepts_whole (after_own (after_node k) κ b first.0)) (lt-ltb _ _ (bits_below s x.picture k r c x.below)) (ap accepts_whole end))

-- so it is the test of a block's list
pub accepts_means : (m s k r c κ : ℕ) (l : List Record) → KeysFrom m k r c κ → is_list_of_block m s k r c κ l ≡ accepts s k κ l
accepts_means m s k r c κ l keys =
    same_test _ _
    (λ e. accepts_from s k r c κ l (block_list_to m s k r c κ l e))
    (λ e. block_list_from m s k r c κ l keys (accepts_to s k r c κ l e))

-- a valid key's block has its pixels' keys from its own on
pub valid_keys_from : (m κ : ℕ) → valid_key m κ ≡ true → KeysFrom m (height_of m κ) (row_of m κ) (column_of m κ) κ
valid_keys_from m κ valid r c h j = pixel_in_block r c (valid_block m κ valid) h j

-- and of the list of the block with a valid key
pub accepts_content : (m s κ : ℕ) (l : List Record) → valid_key m κ ≡ true → is_content m s κ l ≡ accepts s (height_of m κ) κ l
unfolding is_content
accepts_content m s κ l valid = accepts_means m s (height_of m κ) (row_of m κ) (column_of m κ) κ l (valid_keys_from m κ valid)
