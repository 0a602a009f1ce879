-- The keys of the records with given bits: none, of one record, of two runs; and of the content of the block where the walk stands, where that has one
-- feature. Rests on Asked and the laws of lists.
use Prim.Native.Nat.{ℕ}
use mathlib.Core.Path.{◌≡◌, refl, sym, ◌∙◌, ap}
use mathlib.Core.Bool.{true}
use mathlib.Core.List.{List, [], ◌∷◌, ◌++◌}
use lib.ListN.{get_or, take}
use borrow.Author.Tests.{eq-eqb, ne_eqb}
use Rattle.keys.proofs.Cases.{equal}
use Rattle.keys.proofs.Valid.{block_valid}
use Rattle.definitions.specs.Picture.{Picture, one_feature}
use Rattle.definitions.specs.List.{Record, record_of, list_of}
use Rattle.definitions.specs.Edit.{content_of}
use Rattle.laws.proofs.BitsOf.{bits_one}
use Rattle.laws.proofs.ListOf.{list_one}
use Rattle.list.specs.Own.{OwnList, shown_by}
use Rattle.list.specs.Among.{place_among}
use Rattle.walk.specs.declared.Spot.{Spot}
use Rattle.walk.specs.Walk.{BlockSpot}
use Rattle.walk.specs.Given.{keys_with}
use Rattle.walk.proofs.Asked.{asked_place}

pub with_none : (bits : ℕ) → keys_with bits [] ≡ []
unfolding keys_with
with_none bits = refl

pub with_give : (bits : ℕ) (e : Record) (l : List Record) → e.value ≡ bits → keys_with bits (e ∷ l) ≡ e.key ∷ keys_with bits l
unfolding keys_with
with_give bits e l same = rw (eq-eqb e.value bits same)

pub with_pass : (bits : ℕ) (e : Record) (l : List Record) → (e.value ≡ bits → ⊥) → keys_with bits (e ∷ l) ≡ keys_with bits l
unfolding keys_with
with_pass bits e l other = rw (ne_eqb e.value bits other)

pub with_append : (bits : ℕ) (a b : List Record) → keys_with bits (a ++ b) ≡ keys_with bits a ++ keys_with bits b
with_append bits [] b = ap (λ l. l ++ keys_with bits b) (sym (with_none bits))
with_append bits (e ∷ a) b =
    equal e.value bits
    (λ same.
    with_give bits e (a ++ b) same ∙ ap (λ l. e.key ∷ l) (with_append bits a b) ∙ ap (λ l. l ++ keys_with bits b) (sym (with_give bits e a same)))
    (λ other. with_pass bits e (a ++ b) other ∙ with_append bits a b ∙ ap (λ l. l ++ keys_with bits b) (sym (with_pass bits e a other)))

-- the content of the spot's block is its list
pub content_at_spot : (p : Picture) {m : ℕ} {s : Spot} (h : BlockSpot m s) → content_of m p s.key ≡ list_of p h.height s.row s.column s.key
unfolding content_of
content_at_spot p h = let i = block_valid h.block in rw (i.height, i.row, i.column)

-- a block of one feature is one record with the bits at its place, and is given where those are the bits
module _ {m : ℕ} {keys bits : List ℕ} {n : ℕ} (o : OwnList m keys bits n) {s : Spot} (h : BlockSpot m s) (bit place : ℕ) (is : place ≡ place_among s.key (take n keys)) where
  module _ (one : one_feature (shown_by m keys bits n) h.height s.row s.column ≡ true) where
    one_content : content_of m (shown_by m keys bits n) s.key ≡ record_of s.key (get_or bits place 0) ∷ []
    one_content =
        let p = shown_by m keys bits n in
        content_at_spot p h
        ∙ list_one p h.height s.row s.column s.key one
        ∙ ap (λ v. record_of s.key v ∷ []) (sym ((asked_place o h.block place is).value ∙ bits_one p h.height s.row s.column one))

    pub one_key : get_or bits place 0 ≡ bit → keys_with bit (content_of m (shown_by m keys bits n) s.key) ≡ s.key ∷ []
    one_key same =
        ap (keys_with bit) one_content ∙ with_give bit (record_of s.key (get_or bits place 0)) [] same ∙ ap (λ l. s.key ∷ l) (with_none bit)

    pub one_nothing : (get_or bits place 0 ≡ bit → ⊥) → keys_with bit (content_of m (shown_by m keys bits n) s.key) ≡ []
    one_nothing other = ap (keys_with bit) one_content ∙ with_pass bit (record_of s.key (get_or bits place 0)) [] other ∙ with_none bit
