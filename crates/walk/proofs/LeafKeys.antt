-- In a block that lies wholly in the window select gives the block's leaves of feature f: the records of its list that have that slot alone. Rests on
-- Content and the laws of lists and of select.
use Prim.Native.Nat.{ℕ, zero, suc, ◌+◌, ◌^◌}
use mathlib.Core.Path.{◌≡◌, sym, ◌∙◌, ap, ap₂}
use mathlib.Core.Bool.{true, true≢false}
use mathlib.Core.List.{List, [], ◌∷◌, ◌++◌}
use Rattle.keys.specs.Key.{child_key}
use Rattle.keys.proofs.Cases.{decide, equal}
use Rattle.keys.specs.Under.{Quadrant, is_nw, is_ne, is_sw, is_se, InSquare}
use Rattle.keys.proofs.Under.{quadrant_under}
use Rattle.definitions.specs.Picture.{Picture, one_feature}
use Rattle.definitions.specs.Bits.{bits_of}
use Rattle.definitions.specs.List.{Record, record_of, list_of}
use Rattle.definitions.specs.Window.{is_given, select_from}
use Rattle.definitions.specs.declared.Window.{Window}
use Rattle.laws.proofs.Features.{one_to, one_from_leaf, one_pixel}
use Rattle.laws.proofs.FeatureOf.{power_inj}
use Rattle.laws.proofs.Within.{first_within, within_nw, within_ne, within_sw, within_se}
use Rattle.laws.proofs.BitsOf.{power_one}
use Rattle.laws.proofs.ListOf.{list_one, list_node}
use Rattle.laws.proofs.SelectMeans.{given_inside, given_feature, given_of, given_under, select_given, select_pixel, select_quadrants}
use Rattle.laws.proofs.FourLists.{same_lists}
use Rattle.walk.specs.Given.{keys_with}
use Rattle.walk.proofs.Content.{with_none, with_give, with_pass, with_append}
use Rattle.walk.proofs.Largest.{blank_picture, AllInside}

nothing_four : {a b c d : List ℕ} → a ≡ [] → b ≡ [] → c ≡ [] → d ≡ [] → a ++ (b ++ (c ++ d)) ≡ []
nothing_four e f g h = ap₂ (λ x y. x ++ y) e (ap₂ (λ x y. x ++ y) f (ap₂ (λ x y. x ++ y) g h))

with_four : (bits : ℕ) (a b c d : List Record) → keys_with bits (a ++ (b ++ (c ++ d))) ≡ keys_with bits a ++ (keys_with bits b ++ (keys_with bits c ++ keys_with bits d))
with_four bits a b c d =
    with_append bits a (b ++ (c ++ d))
    ∙ ap (λ l. keys_with bits a ++ l) (with_append bits b (c ++ d) ∙ ap (λ l. keys_with bits b ++ l) (with_append bits c d))

module _ (p : Picture) (w : Window) (f : ℕ) where
  -- a block of feature f in the window is given
  one_given : (k r c : ℕ) → AllInside w k r c → one_feature p k r c ≡ true → p r c ≡ f → is_given p w f k r c ≡ true
  one_given k r c inside one has =
      given_of p w f k r c (λ row column i. (given_inside blank_picture w 0 k r c inside i, one_to p k r c one row column i ∙ has))

  given_one : (k r c : ℕ) → is_given p w f k r c ≡ true → (one_feature p k r c ≡ true) × (p r c ≡ f)
  given_one k r c given =
      let each : (row column : ℕ) → InSquare k r c row column → p row column ≡ f = λ row column i. given_feature p w f k r c given i in
      (one_from_leaf p f k r c each, each r c (first_within k r c))

  -- a block of another feature gives nothing
  other_nothing : (k r c κ : ℕ) → ((row column : ℕ) → InSquare k r c row column → p row column ≡ f → ⊥) → select_from p w f k r c κ ≡ []
  other_nothing zero r c κ other =
      select_pixel p w f r c κ
      (decide (is_given p w f zero r c) (λ given. absurd (other r c (first_within zero r c) (given_one zero r c given).1)) (λ e. e))
  other_nothing (suc k) r c κ other =
      select_quadrants p w f k r c κ
      (decide (is_given p w f (suc k) r c) (λ given. absurd (other r c (first_within (suc k) r c) (given_one (suc k) r c given).1)) (λ e. e))
      ∙ nothing_four (other_nothing k r c (child_key κ k 1) (λ row column i. other row column (within_nw i)))
      (other_nothing k r (c + 2 ^ k) (child_key κ k 2) (λ row column i. other row column (within_ne i)))
      (other_nothing k (r + 2 ^ k) c (child_key κ k 3) (λ row column i. other row column (within_sw i)))
      (other_nothing k (r + 2 ^ k) (c + 2 ^ k) (child_key κ k 4) (λ row column i. other row column (within_se i)))

  -- a leaf in the window gives itself if it has the feature
  leaf_selected : (k r c κ : ℕ) → AllInside w k r c → one_feature p k r c ≡ true → keys_with (2 ^ f) (list_of p k r c κ) ≡ select_from p w f k r c κ
  leaf_selected k r c κ inside one =
      ap (keys_with (2 ^ f)) (list_one p k r c κ one)
      ∙ equal (p r c) f
      (λ has.
      with_give (2 ^ f) (record_of κ (2 ^ p r c)) [] (ap (λ x. 2 ^ x) has)
      ∙ ap (λ l. κ ∷ l) (with_none (2 ^ f))
      ∙ sym (select_given p w f k r c κ (one_given k r c inside one has)))
      (λ other.
      with_pass (2 ^ f) (record_of κ (2 ^ p r c)) [] (λ same. other (power_inj (p r c) f same))
      ∙ with_none (2 ^ f)
      ∙ sym (other_nothing k r c κ (λ row column i has. other (sym (one_to p k r c one row column i) ∙ has))))

  -- all pixels of a quadrant of a block in the window lie in the window
  inside_quadrant : {k r c κ r' c' κ' : ℕ} → AllInside w (suc k) r c → Quadrant k r c κ r' c' κ' → AllInside w k r' c'
  inside_quadrant inside q = given_under blank_picture w 0 (quadrant_under q) inside

  -- in a block in the window select gives the records of its list with that slot alone
  pub leaves_selected : (k r c κ : ℕ) → AllInside w k r c → keys_with (2 ^ f) (list_of p k r c κ) ≡ select_from p w f k r c κ
  leaves_selected zero r c κ inside = leaf_selected zero r c κ inside (one_pixel p r c)
  leaves_selected (suc k) r c κ inside =
      decide (one_feature p (suc k) r c) (leaf_selected (suc k) r c κ inside)
      (λ several.
      let never : one_feature p (suc k) r c ≡ true → ⊥ = λ one. true≢false (sym one ∙ several) in
      ap (keys_with (2 ^ f)) (list_node p k r c κ several)
      ∙ with_pass (2 ^ f) (record_of κ (bits_of p (suc k) r c)) _ (λ same. never (power_one p f (suc k) r c same))
      ∙ with_four (2 ^ f) _ _ _ _
      ∙ same_lists (leaves_selected k r c (child_key κ k 1) (inside_quadrant {κ = κ} inside is_nw))
      (leaves_selected k r (c + 2 ^ k) (child_key κ k 2) (inside_quadrant {κ = κ} inside is_ne))
      (leaves_selected k (r + 2 ^ k) c (child_key κ k 3) (inside_quadrant {κ = κ} inside is_sw))
      (leaves_selected k (r + 2 ^ k) (c + 2 ^ k) (child_key κ k 4) (inside_quadrant {κ = κ} inside is_se))
      ∙ sym (select_quadrants p w f k r c κ (decide (is_given p w f (suc k) r c) (λ given. absurd (never (given_one (suc k) r c given).0)) (λ e. e))))
