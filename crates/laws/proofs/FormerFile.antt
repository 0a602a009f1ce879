-- The file as it was while it had one version, and load's table of then. Up to 16 slots the file is byte for byte the former
-- one, every file that is not of version 2 is judged as it was, and the former table refuses each file of version 2 by 17 (specification S15.20).
-- Rests on FileOf and the laws of tables.
use Prim.Native.Nat.{ℕ, zero, suc, ◌+◌, ◌*◌, ◌≤◌, ◌<◌}
use mathlib.Core.Path.{◌≡◌, refl, sym, ap, ap₂, ◌∙◌}
use mathlib.Core.Bool.{Bool, true, false, cond, not, ◌||◌}
use mathlib.Core.List.{List, [], ◌∷◌, ◌++◌, append_assoc}
use native.Mathlib.Omega.{arith}
use lib.ListN.{length, drop}
use lib.Dec.{ltb, eqb}
use borrow.Author.Tests.{lt-ltb, ltb-true, ltb-false, ne_eqb, eq-eqb}
use Rattle.keys.specs.Key.{root_key, deepest_level, slot_limit}
use Rattle.keys.proofs.Cases.{decide, equal, neither_right}
use Rattle.definitions.specs.List.{Record, record_of}
use Rattle.definitions.specs.Read.{room, is_list_of_block}
use Rattle.definitions.specs.Refusal.{Row, ◌gives◌, first, bad_settings}
use Rattle.definitions.specs.File.{bit_bytes, bytes_of, number_at, mark, head_of, bytes_of_records, file_of, read_records, records_in_file}
use Rattle.definitions.specs.File.{m_in, s_in, n_in, version_in, file_length, too_short, wrong_mark, other_version, bad_at_version, wrong_length}
use Rattle.definitions.specs.Calls.Load.{load_refusal}
use Rattle.laws.proofs.First.{this, later, holds_first, first_this, first_later}
use Rattle.laws.proofs.FileOf.{first_version, second_version, read_version, written_mark, written_not_short}

-- the former file: version 1, and 2 bytes a bitstring
unfoldable pub former_bytes : List Record → List ℕ
former_bytes [] = []
former_bytes (e ∷ l) = bytes_of 4 e.key ++ (bytes_of 2 e.value ++ former_bytes l)

unfoldable pub former_file_of : ℕ → ℕ → List Record → List ℕ
former_file_of m s l = (mark ++ (bytes_of 2 1 ++ (bytes_of 1 m ++ (bytes_of 1 s ++ bytes_of 4 (length l))))) ++ former_bytes l

unfoldable pub former_records : ℕ → List ℕ → List Record
former_records zero bytes = []
former_records (suc n) bytes = record_of (number_at 0 4 bytes) (number_at 4 2 bytes) ∷ former_records n (drop 6 bytes)

-- the former tests that have changed: 17, and 1 with at most 16 slots
abbrev pub former_version : List ℕ → Bool
former_version file = not (eqb (version_in file) 1)

abbrev pub former_settings : ℕ → ℕ → Bool
former_settings m s = ltb deepest_level m || (eqb s 0 || ltb 16 s)

-- the former table of load: its last three rows, and all
unfoldable pub former_last : List ℕ → List ℕ → List ℕ → List Row
former_last file keys bits =
    not (eqb (length file) (11 + 6 * n_in file)) gives 15
    ∷ not (is_list_of_block (m_in file) (s_in file) (m_in file) 0 0 root_key (former_records (n_in file) (drop 11 file))) gives 4
    ∷ ltb (room keys bits) (n_in file) gives 9
    ∷ []

unfoldable pub former_refusal : List ℕ → List ℕ → List ℕ → ℕ
former_refusal file keys bits =
    first
    (too_short file gives 15
    ∷ wrong_mark file gives 16
    ∷ former_version file gives 17
    ∷ former_settings (m_in file) (s_in file) gives 1
    ∷ former_last file keys bits)

same_bytes_of : (l : List Record) → bytes_of_records 2 l ≡ former_bytes l
unfolding bytes_of_records former_bytes
same_bytes_of [] = refl
same_bytes_of (e ∷ l) =
    append_assoc (bytes_of 4 e.key) (bytes_of 2 e.value) (bytes_of_records 2 l)
    ∙ ap (λ bs. bytes_of 4 e.key ++ (bytes_of 2 e.value ++ bs)) (same_bytes_of l)

-- up to 16 slots the file is the former one, byte for byte
pub former_file : (m s : ℕ) (l : List Record) → s ≤ 16 → file_of m s l ≡ former_file_of m s l
unfolding file_of head_of former_file_of
former_file m s l few =
    let one = first_version s few in
    ap₂ (λ v bs. (mark ++ (bytes_of 2 v ++ (bytes_of 1 m ++ (bytes_of 1 s ++ bytes_of 4 (length l))))) ++ bs)
    one.0 (ap (λ w. bytes_of_records w l) one.1 ∙ same_bytes_of l)

-- a file of version 2 is refused by 17 in the former table
pub second_refused : (file keys bits : List ℕ) → too_short file ≡ false → wrong_mark file ≡ false → version_in file ≡ 2 → former_refusal file keys bits ≡ 17
unfolding former_refusal
second_refused file keys bits long marked two =
    holds_first (later long (later marked (this (ap not (ne_eqb (version_in file) 1 (λ e. let h : 2 ≡ 1 = sym two ∙ e in omega arith))) refl)))

-- so is the file of every list of more than 16 slots
pub second_file_refused : (m s : ℕ) (l : List Record) (keys bits : List ℕ) → 16 < s → former_refusal (file_of m s l) keys bits ≡ 17
second_file_refused m s l keys bits many =
    second_refused (file_of m s l) keys bits (written_not_short m s l) (written_mark m s l) (read_version m s l ∙ (second_version s many).0)

pub former_same_records : (n : ℕ) (bytes : List ℕ) → read_records 2 n bytes ≡ former_records n bytes
unfolding read_records former_records
former_same_records zero bytes = refl
former_same_records (suc n) bytes = ap (λ l. record_of (number_at 0 4 bytes) (number_at 4 2 bytes) ∷ l) (former_same_records n (drop 6 bytes))

-- a smaller limit swallows a larger one
swallows : (a b c d : Bool) → (c ≡ true → d ≡ true) → (a || (b || c)) || d ≡ a || (b || d)
swallows true b c d h = refl
swallows false true c d h = refl
swallows false false true d h = sym (h refl)
swallows false false false d h = refl

-- two tables with the same first two rows, whose third rows both hold
third_holds : (a b c c' : Row) (rs rs' : List Row) → c.test ≡ true → c'.test ≡ true → c.number ≡ c'.number → first (a ∷ b ∷ c ∷ rs) ≡ first (a ∷ b ∷ c' ∷ rs')
unfolding first
third_holds a b c c' rs rs' h h' e =
    ap (λ x. cond a.test a.number (cond b.test b.number x)) (first_this c rs h ∙ (e ∙ sym (first_this c' rs' h')))

-- or neither holds, and the fourth have the same test and number
fourth_same : (a b c c' : Row) (t t' : Bool) (k : ℕ) (rs rs' : List Row) → c.test ≡ false → c'.test ≡ false → t ≡ t' → (t' ≡ false → first rs ≡ first rs')
    → first (a ∷ b ∷ c ∷ (t gives k) ∷ rs) ≡ first (a ∷ b ∷ c' ∷ (t' gives k) ∷ rs')
unfolding first
fourth_same a b c c' t t' k rs rs' h h' e same =
    ap (λ x. cond a.test a.number (cond b.test b.number x))
    (first_later c ((t gives k) ∷ rs) h
    ∙ (ap (λ x. first ((x gives k) ∷ rs)) e
    ∙ decide t'
    (λ yes. first_this (t' gives k) rs yes ∙ sym (first_this (t' gives k) rs' yes))
    (λ no. first_later (t' gives k) rs no ∙ (same no ∙ sym (first_later (t' gives k) rs' no))))
    ∙ sym (first_later c' ((t' gives k) ∷ rs') h'))

module _ (file keys bits : List ℕ) where
  -- the last rows agree where the settings are the former ones
  last_same : former_settings (m_in file) (s_in file) ≡ false
      → first
      (wrong_length file gives 15
      ∷ not (is_list_of_block (m_in file) (s_in file) (m_in file) 0 0 root_key (records_in_file file)) gives 4
      ∷ ltb (room keys bits) (n_in file) gives 9
      ∷ [])
      ≡ first (former_last file keys bits)
  unfolding records_in_file former_last
  last_same good =
      let few : s_in file ≤ 16 = ltb-false 16 (s_in file) (neither_right (eqb (s_in file) 0) _ (neither_right (ltb deepest_level (m_in file)) _ good)) in
      let two : bit_bytes (s_in file) ≡ 2 = (first_version (s_in file) few).1 in
      ap₂ (λ w l. first
      (not (eqb (length file) (file_length w (n_in file))) gives 15
      ∷ not (is_list_of_block (m_in file) (s_in file) (m_in file) 0 0 root_key l) gives 4
      ∷ ltb (room keys bits) (n_in file) gives 9
      ∷ []))
      two
      (ap (λ w. read_records w (n_in file) (drop 11 file)) two ∙ former_same_records (n_in file) (drop 11 file))

  -- a file that is not of version 2 is judged as it was
  pub former_judged : (version_in file ≡ 2 → ⊥) → load_refusal file keys bits ≡ former_refusal file keys bits
  unfolding load_refusal former_refusal other_version bad_at_version bad_settings
  former_judged other =
      let no = ne_eqb (version_in file) 2 other in
      equal (version_in file) 1
      (λ one.
      let yes = eq-eqb (version_in file) 1 one in
      fourth_same _ _ _ _ _ _ 1 _ _ (rw (yes, no) refl) (ap not yes)
      (rw yes
      (swallows (ltb deepest_level (m_in file)) (eqb (s_in file) 0) (ltb slot_limit (s_in file)) (ltb 16 (s_in file))
      (λ h. lt-ltb 16 (s_in file) (let g = ltb-true slot_limit (s_in file) h in omega arith))))
      last_same)
      (λ neither. let not-one = ne_eqb (version_in file) 1 neither in third_holds _ _ _ _ _ _ (rw (not-one, no) refl) (ap not not-one) refl)
