-- What the listing program prints, by the definitions: Map A (specification S27), m = 0, and each refusal, as one table under one claim. Proved by
-- computation.
use Prim.Native.Nat.{ℕ}
use mathlib.Core.Path.{◌≡◌, refl}
use mathlib.Core.List.{List, [], ◌∷◌, ◌++◌, map}
use lib.ListN.{replicate}
use Rattle.keys.specs.Key.{digits_of}
use Rattle.definitions.specs.Picture.{every_pixel, one_feature}
use Rattle.definitions.specs.Bits.{bits_of, union_of_four}
use Rattle.definitions.specs.List.{list_of}
use Rattle.definitions.specs.Refusal.{first, bad_settings, bad_length, bad_pixel}
use Rattle.definitions.specs.Calls.Build.{build_refusal}
use Rattle.definitions.specs.Listing.{decimal_in, decimal, key_text, slots_from, line_of, lines_of, head_line, listing, refusal_line, build_refuses, listing_refusal, listed}

-- A row: an input, and what is printed by specification S26.
record Row : Type 0 where
  input : List ℕ
  said : List ℕ

infix 70 ◌prints◌
abbrev ◌prints◌ : List ℕ → List ℕ → Row
◌prints◌ input said = record { input = input; said = said }

-- the bytes 2, 3 and the 16 of Map A
abbrev map_a : List ℕ
map_a = 2 ∷ 3 ∷ 0 ∷ 0 ∷ 1 ∷ 1 ∷ 0 ∷ 0 ∷ 1 ∷ 2 ∷ 2 ∷ 2 ∷ 0 ∷ 0 ∷ 2 ∷ 2 ∷ 0 ∷ 0 ∷ []

-- the ten lines of specification S27.1
abbrev ten_lines : List ℕ
ten_lines =
    -- 2 3 9
    (50 ∷ 32 ∷ 51 ∷ 32 ∷ 57 ∷ 10 ∷ [])
    -- 00 111
    ++ ((48 ∷ 48 ∷ 32 ∷ 49 ∷ 49 ∷ 49 ∷ 10 ∷ [])
    -- 10 100
    ++ ((49 ∷ 48 ∷ 32 ∷ 49 ∷ 48 ∷ 48 ∷ 10 ∷ [])
    -- 20 011
    ++ ((50 ∷ 48 ∷ 32 ∷ 48 ∷ 49 ∷ 49 ∷ 10 ∷ [])
    -- 21 010
    ++ ((50 ∷ 49 ∷ 32 ∷ 48 ∷ 49 ∷ 48 ∷ 10 ∷ [])
    -- 22 010
    ++ ((50 ∷ 50 ∷ 32 ∷ 48 ∷ 49 ∷ 48 ∷ 10 ∷ [])
    -- 23 010
    ++ ((50 ∷ 51 ∷ 32 ∷ 48 ∷ 49 ∷ 48 ∷ 10 ∷ [])
    -- 24 001
    ++ ((50 ∷ 52 ∷ 32 ∷ 48 ∷ 48 ∷ 49 ∷ 10 ∷ [])
    -- 30 001
    ++ ((51 ∷ 48 ∷ 32 ∷ 48 ∷ 48 ∷ 49 ∷ 10 ∷ [])
    -- 40 100
    ++ (52 ∷ 48 ∷ 32 ∷ 49 ∷ 48 ∷ 48 ∷ 10 ∷ [])))))))))

-- "refused", a blank, a number of one digit
abbrev refused_with : ℕ → List ℕ
refused_with character = 114 ∷ 101 ∷ 102 ∷ 117 ∷ 115 ∷ 101 ∷ 100 ∷ 32 ∷ character ∷ 10 ∷ []

table : List Row
table =
    map_a prints ten_lines
    -- m = 0, s = 1, one pixel of feature 0: 0 1 1, and - 1
    ∷ (0 ∷ 1 ∷ 0 ∷ []) prints (48 ∷ 32 ∷ 49 ∷ 32 ∷ 49 ∷ 10 ∷ 45 ∷ 32 ∷ 49 ∷ 10 ∷ [])
    -- s = 12, one pixel of feature 11: 0 12 1, and - 000000000001
    ∷ (0 ∷ 12 ∷ 11 ∷ [])
    prints (48 ∷ 32 ∷ 49 ∷ 50 ∷ 32 ∷ 49 ∷ 10 ∷ 45 ∷ 32 ∷ replicate 11 48 ++ (49 ∷ 10 ∷ []))
    -- s = 32, one pixel of feature 31: 0 32 1, and - with the last slot alone
    ∷ (0 ∷ 32 ∷ 31 ∷ [])
    prints (48 ∷ 32 ∷ 51 ∷ 50 ∷ 32 ∷ 49 ∷ 10 ∷ 45 ∷ 32 ∷ replicate 31 48 ++ (49 ∷ 10 ∷ []))
    -- 1: fewer than two bytes, m above 5, s 0, s above 32
    ∷ [] prints refused_with 49
    ∷ (5 ∷ []) prints refused_with 49
    ∷ (6 ∷ 1 ∷ []) prints refused_with 49
    ∷ (0 ∷ 0 ∷ 0 ∷ []) prints refused_with 49
    ∷ (0 ∷ 33 ∷ 0 ∷ []) prints refused_with 49
    -- 2: a pixel too few, a pixel too many
    ∷ (1 ∷ 2 ∷ 0 ∷ 1 ∷ 0 ∷ []) prints refused_with 50
    ∷ (1 ∷ 2 ∷ 0 ∷ 1 ∷ 0 ∷ 1 ∷ 0 ∷ []) prints refused_with 50
    -- 3: a pixel of s, and more
    ∷ (1 ∷ 2 ∷ 0 ∷ 1 ∷ 2 ∷ 1 ∷ []) prints refused_with 51
    ∷ []

-- every row prints what is said
holds : map (λ r. listed r.input) table ≡ map (λ r. r.said) table
unfolding
    digits_of every_pixel one_feature bits_of union_of_four list_of first bad_settings bad_length bad_pixel build_refusal
    decimal_in decimal key_text slots_from line_of lines_of head_line listing refusal_line build_refuses listing_refusal listed table
holds = refl
