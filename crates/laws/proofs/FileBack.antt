-- Writing what was read from a file gives its bytes back: one list has one file (specification S15.18). Rests on FileBytes.
use Prim.Native.Nat.{ℕ, zero, suc, ◌+◌, ◌*◌, ◌^◌, ◌≤◌, ◌<◌}
use mathlib.Core.Path.{◌≡◌, refl, sym, ap, ap₂, ◌∙◌}
use mathlib.Core.Bool.{Bool, true, false, not, ◌&&◌, ◌||◌}
use mathlib.Core.Logic.{◌⊎◌, inl, inr, ⊎_elim}
use mathlib.Core.List.{List, [], ◌∷◌, ◌++◌, append_assoc}
use native.Mathlib.Nat.{pow-le-pow_right, mul-suc}
use native.Mathlib.Omega.{arith}
use lib.ListN.{length, take, drop, length-take, length-drop, take-append-drop}
use lib.Seq.{length-take-le, drop-drop}
use lib.Dec.{eqb, ltb, lit<}
use borrow.Author.Tests.{ltb-true, ltb-false, eqb-true, not-false}
use Rattle.keys.proofs.Cases.{and_left, and_right, neither_left, neither_right}
use Rattle.definitions.specs.File.{first_slots, version_for, bit_bytes, bytes_of, number_at, head_of, bytes_of_records, file_of, read_records, records_in_file, same_bytes, wrong_mark, mark}
use Rattle.definitions.specs.File.{m_in, s_in, n_in, version_in, too_short, other_version, wrong_version, bad_at_version, wrong_settings, wrong_length}
use Rattle.laws.proofs.FileBytes.{Bytes, bytes_take, bytes_drop, bytes_of_number, number_below}
use Rattle.definitions.specs.Refusal.{bad_settings}
use Rattle.laws.proofs.FileOf.{first_version, second_version}

-- bytes that the test finds the same are the same
pub same_bytes_of : (xs ys : List ℕ) → same_bytes xs ys ≡ true → xs ≡ ys
unfolding same_bytes
same_bytes_of [] [] e = refl
same_bytes_of [] (y ∷ ys) e = cc
same_bytes_of (x ∷ xs) [] e = cc
same_bytes_of (x ∷ xs) (y ∷ ys) e =
    ap₂ (λ a b. a ∷ b) (eqb-true x y (and_left (eqb x y) (same_bytes xs ys) e)) (same_bytes_of xs ys (and_right (eqb x y) (same_bytes xs ys) e))

-- the number read at a place, written again, is what stands there
pub number_back : (place width : ℕ) {file : List ℕ} → Bytes file → place + width ≤ length file → bytes_of width (number_at place width file) ≡ take width (drop place file)
unfolding number_at
number_back place width {file} h room =
    let e = length-drop place file in
    let there : length (take width (drop place file)) ≡ width = length-take-le width (drop place file) (omega arith) in
    rw there at (bytes_of_number (bytes_take width (bytes_drop place h)))

-- the number written again, and then what comes after it, is all from its place on
pub number_then : (place width next : ℕ) {file : List ℕ} → place + width ≡ next → Bytes file → next ≤ length file
    → bytes_of width (number_at place width file) ++ drop next file ≡ drop place file
number_then place width next {file} e h room =
    ap₂ (λ xs ys. xs ++ ys) (number_back place width h (omega arith)) (ap (λ n. drop n file) (sym e) ∙ sym (drop-drop width place file))
    ∙ take-append-drop width (drop place file)

-- a number read in so many bytes is below 256 to their number
pub number_at_below : (place width : ℕ) {file : List ℕ} → Bytes file → number_at place width file < 256 ^ width
unfolding number_at
number_at_below place width {file} h =
    let e = length-take width (drop place file) in
    let most : 256 ^ length (take width (drop place file)) ≤ 256 ^ width = pow-le-pow_right (lit< tt) (omega arith) in
    let below = number_below (bytes_take width (bytes_drop place h)) in
    omega arith

-- as many records are read as asked for
pub length-read : (width n : ℕ) (bs : List ℕ) → length (read_records width n bs) ≡ n
unfolding read_records
length-read width zero bs = refl
length-read width (suc n) bs = ap suc (length-read width n (drop (4 + width) bs))

-- records read from bytes that hold just them, written again, are the bytes
pub records_back : (width n : ℕ) (bs : List ℕ) → Bytes bs → length bs ≡ (4 + width) * n → bytes_of_records width (read_records width n bs) ≡ bs
unfolding read_records bytes_of_records
records_back width zero [] h e = refl
records_back width zero (b ∷ bs) h e = absurd (omega arith)
records_back width (suc n) bs h e =
    let d = length-drop (4 + width) bs in
    let one = mul-suc (4 + width) n in
    append_assoc (bytes_of 4 (number_at 0 4 bs)) (bytes_of width (number_at 4 width bs)) _
    ∙ ap (λ rest. bytes_of 4 (number_at 0 4 bs) ++ (bytes_of width (number_at 4 width bs) ++ rest)) (records_back width n (drop (4 + width) bs) (bytes_drop (4 + width) h) (omega arith))
    ∙ ap (λ rest. bytes_of 4 (number_at 0 4 bs) ++ rest) (number_then 4 width (4 + width) refl h (omega arith))
    ∙ number_then 0 4 4 refl h (omega arith)

five_parts : {A : Type 0} (a b c d e f : List A) → (a ++ (b ++ (c ++ (d ++ e)))) ++ f ≡ a ++ (b ++ (c ++ (d ++ (e ++ f))))
five_parts a b c d e f = simp append_assoc

-- which version an accepted one is, by what refusals 17 and 1 have passed
which : (one two wide : Bool) → not (one || two) || (two && not wide) ≡ false → (one && wide) ≡ false
    → ((one ≡ true) × (wide ≡ false)) ⊎ ((two ≡ true) × (wide ≡ true))
which true two true e f = inl (refl, cc)
which true two false e f = inl (refl, refl)
which false true true e f = inr (refl, refl)
which false true false e f = inr (refl, cc)
which false false wide e f = inl (cc, cc)

-- a version that refusals 17 and 1 pass is that of s
pub version_is : (version m s : ℕ) → other_version version s ≡ false → bad_at_version version m s ≡ false → version ≡ version_for s
unfolding other_version bad_at_version
version_is version m s e f =
    ⊎_elim
    (λ w. eqb-true version 1 w.0 ∙ sym (first_version s (ltb-false first_slots s w.1)).0)
    (λ w. eqb-true version 2 w.0 ∙ sym (second_version s (ltb-true first_slots s w.1)).0)
    (which (eqb version 1) (eqb version 2) (ltb first_slots s) e (neither_right (bad_settings m s) _ f))

-- settings that refusal 1 of load passes are those of a list
pub settings_good : (version m s : ℕ) → bad_at_version version m s ≡ false → bad_settings m s ≡ false
unfolding bad_at_version
settings_good version m s e = neither_left (bad_settings m s) _ e

-- of a file that load accepts as one: what is read from it, written again, is the file
pub file_back : (file : List ℕ) → Bytes file → too_short file ≡ false → wrong_mark file ≡ false → wrong_version file ≡ false → wrong_settings file ≡ false
    → wrong_length file ≡ false → file_of (m_in file) (s_in file) (records_in_file file) ≡ file
unfolding file_of head_of wrong_mark records_in_file
file_back file h long marked versioned settings exact =
    let width = bit_bytes (s_in file) in
    let version = version_for (s_in file) in
    let room : 11 ≤ length file = ltb-false (length file) 11 long in
    let all : length file ≡ 11 + (4 + width) * n_in file = eqb-true _ _ (not-false _ exact) in
    let after = length-drop 11 file in
    let records : bytes_of_records width (read_records width (n_in file) (drop 11 file)) ≡ drop 11 file
    = records_back width (n_in file) (drop 11 file) (bytes_drop 11 h) (omega arith) in
    let version_is : version_in file ≡ version = version_is (version_in file) (m_in file) (s_in file) versioned settings in
    let mark_is : take 3 file ≡ mark = same_bytes_of (take 3 file) mark (not-false _ marked) in
    five_parts mark (bytes_of 2 version) (bytes_of 1 (m_in file)) (bytes_of 1 (s_in file)) (bytes_of 4 (length (read_records width (n_in file) (drop 11 file))))
    (bytes_of_records width (read_records width (n_in file) (drop 11 file)))
    ∙ ap (λ rest. mark ++ (bytes_of 2 version ++ (bytes_of 1 (m_in file) ++ (bytes_of 1 (s_in file) ++ rest))))
    (ap₂ (λ n rest. bytes_of 4 n ++ rest) (length-read width (n_in file) (drop 11 file)) records ∙ number_then 7 4 11 refl h room)
    ∙ ap (λ rest. mark ++ (bytes_of 2 version ++ (bytes_of 1 (m_in file) ++ rest))) (number_then 6 1 7 refl h (omega arith))
    ∙ ap (λ rest. mark ++ (bytes_of 2 version ++ rest)) (number_then 5 1 6 refl h (omega arith))
    ∙ ap (λ rest. mark ++ rest) (ap (λ x. bytes_of 2 x ++ drop 5 file) (sym version_is) ∙ number_then 3 2 5 refl h (omega arith))
    ∙ ap (λ begin. begin ++ drop 3 file) (sym mark_is)
    ∙ take-append-drop 3 file
