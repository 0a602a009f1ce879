-- What a scan of a block's pixels says: it passes exactly when every pixel does. Pictures that agree on a block are equal at all its pixels.
-- Rests on Within.
use Prim.Native.Nat.{ℕ, zero, suc, ◌+◌, ◌^◌}
use mathlib.Core.Path.{◌≡◌, refl, sym, ◌∙◌, ap₂}
use mathlib.Core.Bool.{Bool, true, false, ◌&&◌}
use Rattle.keys.proofs.Cases.{decide, and_left, and_right, and_both, same_test}
use Rattle.keys.specs.Under.{Under, Every}
use Rattle.definitions.specs.Picture.{Picture, all_four, every_pixel}
use Rattle.laws.proofs.Within.{first_within, pixel_row, pixel_column, every_nw, every_ne, every_sw, every_se, every_join, under_within}
use Rattle.laws.proofs.Within.{Somewhere, some_nw, some_ne, some_sw, some_se}

-- a scan of one pixel is the test there
pub every_zero : (test : ℕ → ℕ → Bool) (r c : ℕ) → every_pixel test zero r c ≡ test r c
unfolding every_pixel
every_zero test r c = refl

-- a scan of a larger block is that of its four quadrants
pub every_suc : (test : ℕ → ℕ → Bool) (k r c : ℕ) → every_pixel test (suc k) r c
    ≡ all_four (every_pixel test k r c) (every_pixel test k r (c + 2 ^ k)) (every_pixel test k (r + 2 ^ k) c) (every_pixel test k (r + 2 ^ k) (c + 2 ^ k))
unfolding every_pixel
every_suc test k r c = refl

-- four tests hold
pub record Four (a b c d : Bool) : Type 0 where
  pub nw : a ≡ true
  pub ne : b ≡ true
  pub sw : c ≡ true
  pub se : d ≡ true

-- four tests hold together exactly when each holds
pub four_to : (a b c d : Bool) → all_four a b c d ≡ true → Four a b c d
four_to a b c d e = record {
  nw = and_left a b (and_left (a && b) (c && d) e);
  ne = and_right a b (and_left (a && b) (c && d) e);
  sw = and_left c d (and_right (a && b) (c && d) e);
  se = and_right c d (and_right (a && b) (c && d) e);
}

-- the same from right to left
pub four_from : (a b c d : Bool) → Four a b c d → all_four a b c d ≡ true
four_from a b c d f = and_both (a && b) (c && d) (and_both a b f.nw f.ne) (and_both c d f.sw f.se)

-- where they do not hold together, one of them fails
pub four-fails {ℓ} : {C : Type ℓ} (a b c d : Bool) → all_four a b c d ≡ false
    → (a ≡ false → C)
    → (b ≡ false → C)
    → (c ≡ false → C)
    → (d ≡ false → C)
    → C
four-fails a b c d e in-nw in-ne in-sw in-se =
    decide a
    (λ x. decide b
    (λ y. decide c (λ z. in-se (sym (simp (x, y, z)) ∙ e)) in-sw)
    in-ne)
    in-nw

-- if the scan passes, every pixel passes
pub every_to : (test : ℕ → ℕ → Bool) (k r c : ℕ) → every_pixel test k r c ≡ true → Every (λ r' c'. test r' c' ≡ true) k r c
every_to test zero r c e r' c' w = ap₂ test (pixel_row w) (pixel_column w) ∙ sym (every_zero test r c) ∙ e
every_to test (suc k) r c e r' c' w =
    let f = four_to _ _ _ _ (sym (every_suc test k r c) ∙ e) in
    every_join (every_to test k r c f.nw)
    (every_to test k r (c + 2 ^ k) f.ne)
    (every_to test k (r + 2 ^ k) c f.sw)
    (every_to test k (r + 2 ^ k) (c + 2 ^ k) f.se)
    r' c' w

-- if every pixel passes, the scan passes
pub every_from : (test : ℕ → ℕ → Bool) (k r c : ℕ) → Every (λ r' c'. test r' c' ≡ true) k r c → every_pixel test k r c ≡ true
every_from test zero r c h = every_zero test r c ∙ h r c (first_within zero r c)
every_from test (suc k) r c h =
    every_suc test k r c
    ∙ four_from _ _ _ _ (record {
      nw = every_from test k r c (every_nw h);
      ne = every_from test k r (c + 2 ^ k) (every_ne h);
      sw = every_from test k (r + 2 ^ k) c (every_sw h);
      se = every_from test k (r + 2 ^ k) (c + 2 ^ k) (every_se h);
    })

-- if the scan fails, some pixel fails
pub every_fails : (test : ℕ → ℕ → Bool) (k r c : ℕ) → every_pixel test k r c ≡ false → Somewhere (λ r' c'. test r' c' ≡ false) k r c
every_fails test zero r c e = record { row = r; column = c; within = first_within zero r c; holds = sym (every_zero test r c) ∙ e }
every_fails test (suc k) r c e =
    four-fails _ _ _ _ (sym (every_suc test k r c) ∙ e)
    (λ h. some_nw (every_fails test k r c h))
    (λ h. some_ne (every_fails test k r (c + 2 ^ k) h))
    (λ h. some_sw (every_fails test k (r + 2 ^ k) c h))
    (λ h. some_se (every_fails test k (r + 2 ^ k) (c + 2 ^ k) h))

-- where the scan of a block passes, that of every block under it does
pub every_under : (test : ℕ → ℕ → Bool) {k r c κ k' r' c' κ' : ℕ} → Under k r c κ k' r' c' κ'
    → every_pixel test k r c ≡ true
    → every_pixel test k' r' c' ≡ true
every_under test u e = every_from test _ _ _ (λ a b w. every_to test _ _ _ e a b (under_within u w))

-- a scan depends only on the tests at the block's pixels
pub every_same : (test test' : ℕ → ℕ → Bool) (k r c : ℕ) → Every (λ r' c'. test r' c' ≡ test' r' c') k r c
    → every_pixel test k r c ≡ every_pixel test' k r c
every_same test test' k r c h =
    same_test _ _
    (λ e. every_from test' k r c (λ r' c' w. sym (h r' c' w) ∙ every_to test k r c e r' c' w))
    (λ e. every_from test k r c (λ r' c' w. h r' c' w ∙ every_to test' k r c e r' c' w))

-- two pictures are equal at every pixel of the block
abbrev pub Agree : Picture → Picture → ℕ → ℕ → ℕ → Type 0
Agree p q k r c = Every (λ r' c'. p r' c' ≡ q r' c') k r c

-- pictures that agree on a block agree on its quadrants
module _ {p q : Picture} {k r c : ℕ} where
  pub agree_nw : Agree p q (suc k) r c → Agree p q k r c
  agree_nw h = every_nw h

  pub agree_ne : Agree p q (suc k) r c → Agree p q k r (c + 2 ^ k)
  agree_ne h = every_ne h

  pub agree_sw : Agree p q (suc k) r c → Agree p q k (r + 2 ^ k) c
  agree_sw h = every_sw h

  pub agree_se : Agree p q (suc k) r c → Agree p q k (r + 2 ^ k) (c + 2 ^ k)
  agree_se h = every_se h

-- pictures that agree on a block agree on every block under it
pub agree_under : {p q : Picture} {k r c κ k' r' c' κ' : ℕ} → Under k r c κ k' r' c' κ' → Agree p q k r c → Agree p q k' r' c'
agree_under u h a b w = h a b (under_within u w)
