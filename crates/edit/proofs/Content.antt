-- The content of a block, read from the list of a picture, is the picture's list of the block; it has as many records as the block's part.
-- Rests on Standing.
use Prim.Native.Nat.{ℕ}
use mathlib.Core.Path.{◌≡◌, sym, ◌∙◌, ap, ap₂}
use mathlib.Core.Bool.{true, cond}
use mathlib.Core.List.{List, [], ◌∷◌, ◌++◌}
use lib.ListN.{length, take, drop}
use lib.Seq.{take-append_seam, drop-append_seam}
use Rattle.keys.specs.Key.{valid_key}
use Rattle.keys.proofs.Valid.{valid_block, block_valid}
use Rattle.definitions.specs.Picture.{Picture}
use Rattle.definitions.specs.List.{Record, record_of, list_of, list_of_picture}
use Rattle.definitions.specs.Standing.{place_of, part_length}
use Rattle.definitions.specs.Edit.{content_of}
use Rattle.laws.proofs.Features.{one_under}
use Rattle.replace.specs.Family.{block_bits}
use Rattle.edit.specs.Content.{content_in}
use Rattle.replace.proofs.Way.{Way, way_of, under_of}
use Rattle.replace.proofs.Context.{before_hole, after_hole, Open, spliced, context}
use Rattle.replace.proofs.Standing.{LeafAround, ListedOrInside, listed, inside, stands, place_listed, is-listed, part_listed, not_listed, part_inside, standing_bits}
use Rattle.replace.proofs.Choice.{list_bits}

-- the records between two lists
middle : (a own b l : List Record) (i n : ℕ) → l ≡ a ++ (own ++ b) → i ≡ length a → n ≡ length own → take n (drop i l) ≡ own
middle a own b l i n e f g = ap₂ take g (ap₂ drop f e ∙ drop-append_seam a (own ++ b)) ∙ take-append_seam own b

module _ (p : Picture) {m k r c κ : ℕ} (w : Way m 0 0 0 k r c κ) where
  content_listed : Open p w → content_in m (list_of p m 0 0 0) κ ≡ list_of p k r c κ
  unfolding content_in spliced
  content_listed o =
      ap (λ t. cond t (take (part_length m κ (list_of p m 0 0 0)) (drop (place_of κ (list_of p m 0 0 0)) (list_of p m 0 0 0))) (record_of κ (block_bits κ (list_of p m 0 0 0)) ∷ [])) (is-listed p w o)
      ∙ middle (before_hole p w) (list_of p k r c κ) (after_hole p w) (list_of p m 0 0 0) (place_of κ (list_of p m 0 0 0)) (part_length m κ (list_of p m 0 0 0))
      (context p w o) (place_listed p w o) (part_listed p w o m (block_valid (under_of w)).height)

  content_inside : LeafAround p w → content_in m (list_of p m 0 0 0) κ ≡ list_of p k r c κ
  unfolding content_in
  content_inside x =
      ap (λ t. cond t (take (part_length m κ (list_of p m 0 0 0)) (drop (place_of κ (list_of p m 0 0 0)) (list_of p m 0 0 0))) (record_of κ (block_bits κ (list_of p m 0 0 0)) ∷ [])) (not_listed p x)
      ∙ ap (λ b. record_of κ b ∷ []) (standing_bits p w)
      ∙ sym (list_bits p k r c κ (one_under p (under_of x.under) x.one))

  content_at : ListedOrInside p w → content_in m (list_of p m 0 0 0) κ ≡ list_of p k r c κ
  content_at (listed o) = content_listed o
  content_at (inside x) = content_inside x

  part_at : ListedOrInside p w → part_length m κ (list_of p m 0 0 0) ≡ length (list_of p k r c κ)
  part_at (listed o) = part_listed p w o m (block_valid (under_of w)).height
  part_at (inside x) = part_inside p x m ∙ sym (ap length (list_bits p k r c κ (one_under p (under_of x.under) x.one)))

-- a block's content, as the list has it
pub content-in : (m κ : ℕ) (p : Picture) → valid_key m κ ≡ true → content_in m (list_of_picture m p) κ ≡ content_of m p κ
unfolding content_of
content-in m κ p valid = let w = way_of (valid_block m κ valid) in content_at p w (stands p w)

-- and its length, which decides refusal 10
pub content-length : (m κ : ℕ) (p : Picture) → valid_key m κ ≡ true → part_length m κ (list_of_picture m p) ≡ length (content_of m p κ)
unfolding content_of
content-length m κ p valid = let w = way_of (valid_block m κ valid) in part_at p w (stands p w)
