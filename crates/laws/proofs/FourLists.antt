-- Four lists, one after the other: their members, and that equal lists make equal ones. Rests on nothing.
use mathlib.Core.Path.{◌≡◌}
use mathlib.Core.Logic.{⊎_elim}
use mathlib.Core.List.Memᴰ
use mathlib.Core.List.{List, ◌++◌, Memᴰ}

module _ {ℓ} {A : Type ℓ} where
  -- of equal lists the four together are equal
  pub same_lists : {a b c d a' b' c' d' : List A} → a ≡ a' → b ≡ b' → c ≡ c' → d ≡ d' → a ++ (b ++ (c ++ d)) ≡ a' ++ (b' ++ (c' ++ d'))
  same_lists e f g h = cc

  -- a member of the four is a member of one of them
  pub one-of-four {κ} : {C : Type κ} {x : A} (a b c d : List A)
      → (Memᴰ x a → C) → (Memᴰ x b → C) → (Memᴰ x c → C) → (Memᴰ x d → C)
      → Memᴰ x (a ++ (b ++ (c ++ d))) → C
  one-of-four {x} a b c d in-a in_b in_c in-d h =
      ⊎_elim in-a
      (λ (h₁ : Memᴰ x (b ++ (c ++ d))). ⊎_elim in_b
      (λ (h₂ : Memᴰ x (c ++ d)). ⊎_elim in_c in-d (Memᴰ.append_cases c h₂)) (Memᴰ.append_cases b h₁)) (Memᴰ.append_cases a h)

  -- a member of one of them is a member of the four
  pub record IntoFour (a b c d : List A) : Type ℓ where
    pub first : {x : A} → Memᴰ x a → Memᴰ x (a ++ (b ++ (c ++ d)))
    pub second : {x : A} → Memᴰ x b → Memᴰ x (a ++ (b ++ (c ++ d)))
    pub third : {x : A} → Memᴰ x c → Memᴰ x (a ++ (b ++ (c ++ d)))
    pub fourth : {x : A} → Memᴰ x d → Memᴰ x (a ++ (b ++ (c ++ d)))

  -- and so of any four lists
  pub into_four : (a b c d : List A) → IntoFour a b c d
  into_four a b c d =
      record {
        first = λ h. Memᴰ.append_left (b ++ (c ++ d)) h;
        second = λ h. Memᴰ.append_right a (Memᴰ.append_left (c ++ d) h);
        third = λ h. Memᴰ.append_right a (Memᴰ.append_right b (Memᴰ.append_left d h));
        fourth = λ h. Memᴰ.append_right a (Memᴰ.append_right b (Memᴰ.append_right c h));
      }
