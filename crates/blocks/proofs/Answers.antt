-- The answers of the two calls: which refusal the tests lead to, and that a refused call gives its number alone. Rests on First.
use Prim.Native.Nat.{ℕ, ◌^◌, ◌≤◌, ◌<◌}
use native.Mathlib.Omega.{arith}
use mathlib.Core.Path.{◌≡◌, refl, sym, ap, ◌∙◌}
use mathlib.Core.Bool.{true, false, cond, not, ◌||◌}
use lib.Dec.{leb}
use borrow.Author.Tests.{lt-ltb, le-ltb, ltb-false, le-leb, lt-leb, leb-false}
use Rattle.keys.specs.Key.{valid_key, level_of}
use Rattle.std.specs.Prelude.{Some, None}
use borrow.Author.Rules.{rules}
use Rattle.keys.specs.Block.{row_of, column_of, side_of, key_around}
use Rattle.keys.specs.KeySquare.{square_read, square_of_key}
use Rattle.keys.specs.declared.Square.{Square}
use Rattle.keys.proofs.Cases.{decide, or_left, or_right, neither_left, neither_right}
use Rattle.definitions.specs.Calls.KeyAt.{key_at_refusal, key_at}
use Rattle.definitions.specs.Calls.BlockOf.{block_of_refusal, block_of}
use Rattle.definitions.specs.declared.Keyed.{Keyed}
use Rattle.definitions.specs.declared.Block.{Block}
use Rattle.laws.proofs.First.{this, later, holds_first, none_first, first_none, accepted_done, accepted_left}

keyed : {a b a' b' : ℕ} → a ≡ a' → b ≡ b' → ◌≡◌ {A = Keyed} (record { refusal = a; key = b }) (record { refusal = a'; key = b' })
keyed e f i = record { refusal = e i; key = f i }

block : {a b c d e a' b' c' d' e' : ℕ} → a ≡ a' → b ≡ b' → c ≡ c' → d ≡ d' → e ≡ e'
    → ◌≡◌ {A = Block} (record { refusal = a; row = b; column = c; side = d; level = e }) (record { refusal = a'; row = b'; column = c'; side = d'; level = e' })
block p q r s t i = record { refusal = p i; row = q i; column = r i; side = s i; level = t i }

module _ (m row column level : ℕ) where
  pub too_deep : 10 < m → 1 ≡ key_at_refusal m row column level
  unfolding key_at_refusal
  too_deep h = sym (holds_first (this (lt-ltb 10 m h) refl))

  module _ (side : ℕ) (is : side ≡ 2 ^ m) (deep : m ≤ 10) where
    pub no_row : side ≤ row → 6 ≡ key_at_refusal m row column level
    unfolding key_at_refusal
    no_row h = sym (holds_first (later (le-ltb 10 m deep) (this (or_left (leb (2 ^ m) row) (leb (2 ^ m) column) (le-leb (2 ^ m) row (omega arith))) refl)))

    pub no_column : side ≤ column → 6 ≡ key_at_refusal m row column level
    unfolding key_at_refusal
    no_column h = sym (holds_first (later (le-ltb 10 m deep) (this (or_right (leb (2 ^ m) row) (leb (2 ^ m) column) (le-leb (2 ^ m) column (omega arith))) refl)))

    module _ (rows : row < side) (columns : column < side) where
      pixel : (leb (2 ^ m) row || leb (2 ^ m) column) ≡ false
      pixel = rw (lt-leb (2 ^ m) row (omega arith), lt-leb (2 ^ m) column (omega arith)) refl

      pub no_level : m < level → 8 ≡ key_at_refusal m row column level
      unfolding key_at_refusal
      no_level h = sym (holds_first (later (le-ltb 10 m deep) (later pixel (this (lt-ltb m level h) refl))))

      pub all_passed : level ≤ m → 0 ≡ key_at_refusal m row column level
      unfolding key_at_refusal
      all_passed h = sym (none_first _ (le-ltb 10 m deep, (pixel, (le-ltb m level h, tt))))

  -- what is known where nothing is refused
  pub passed : key_at_refusal m row column level ≡ 0 → (m ≤ 10) × (level ≤ m) × (row < 2 ^ m) × (column < 2 ^ m)
  unfolding key_at_refusal
  passed e =
      let h = first_none _ refl e in
      let rows = leb-false (2 ^ m) row (neither_left (leb (2 ^ m) row) (leb (2 ^ m) column) h.1.0) in
      let columns = leb-false (2 ^ m) column (neither_right (leb (2 ^ m) row) (leb (2 ^ m) column) h.1.0) in
      (ltb-false 10 m h.0, ltb-false m level h.1.1.0, rows, columns)

  pub key_refused : (r : ℕ) → r ≡ key_at_refusal m row column level → (r ≡ 0 → ⊥) → record { refusal = r; key = 0 } ≡ key_at m row column level
  unfolding key_at
  key_refused r is h = keyed is (sym (accepted_left _ 0 (λ e. h (is ∙ e))))

  pub key_given : (κ : ℕ) → key_at_refusal m row column level ≡ 0 → κ ≡ key_around m level row column → record { refusal = 0; key = κ } ≡ key_at m row column level
  unfolding key_at
  key_given κ none is = keyed (sym none) (is ∙ sym (accepted_done _ 0 none))

module _ (m κ : ℕ) where
  pub block_too_deep : 10 < m → 1 ≡ block_of_refusal m κ
  unfolding block_of_refusal
  block_too_deep h = sym (holds_first (this (lt-ltb 10 m h) refl))

  pub no_key : m ≤ 10 → valid_key m κ ≡ false → 8 ≡ block_of_refusal m κ
  unfolding block_of_refusal
  no_key deep h = sym (holds_first (later (le-ltb 10 m deep) (this (ap not h) refl)))

  pub a_key : m ≤ 10 → valid_key m κ ≡ true → 0 ≡ block_of_refusal m κ
  unfolding block_of_refusal
  a_key deep h = sym (none_first _ (le-ltb 10 m deep, (ap not h, tt)))

  pub block_refused : (r : ℕ) → r ≡ block_of_refusal m κ → (r ≡ 0 → ⊥) → record { refusal = r; row = 0; column = 0; side = 0; level = 0 } ≡ block_of m κ
  unfolding block_of
  block_refused r is h =
      block is (sym (accepted_left _ 0 (λ e. h (is ∙ e)))) (sym (accepted_left _ 0 (λ e. h (is ∙ e)))) (sym (accepted_left _ 0 (λ e. h (is ∙ e)))) (sym (accepted_left _ 0 (λ e. h (is ∙ e))))

  -- what is read of a number that is no key, and of one that is
  pub unread : m ≤ 10 → None ≡ square_read m κ → record { refusal = 8; row = 0; column = 0; side = 0; level = 0 } ≡ block_of m κ
  unread deep e = block_refused 8 (no_key deep (not_read e)) (λ z. absurd (omega arith))
    where
      not_read : None ≡ square_read m κ → valid_key m κ ≡ false
      not_read f = decide (valid_key m κ) (λ t. let g = f ∙ ap (λ b. cond b (Some (square_of_key m κ)) None) t in absurd (search rules)) (λ t. t)

  pub block_given : (row column side level : ℕ) → block_of_refusal m κ ≡ 0 → row ≡ row_of m κ → column ≡ column_of m κ → side ≡ side_of m κ → level ≡ level_of m κ
      → record { refusal = 0; row = row; column = column; side = side; level = level } ≡ block_of m κ
  unfolding block_of
  block_given row column side level none r c s l =
      block (sym none) (r ∙ sym (accepted_done _ 0 none)) (c ∙ sym (accepted_done _ 0 none)) (s ∙ sym (accepted_done _ 0 none)) (l ∙ sym (accepted_done _ 0 none))

  pub read : m ≤ 10 → (square : Square) (level : ℕ) → Some square ≡ square_read m κ → level ≡ level_of m κ
      → record { refusal = 0; row = square.row; column = square.column; side = square.side; level = level } ≡ block_of m κ
  read deep square level e l =
      let valid : valid_key m κ ≡ true = decide (valid_key m κ) (λ t. t) (λ t. let g = e ∙ ap (λ b. cond b (Some (square_of_key m κ)) None) t in absurd (search rules)) in
      let f = e ∙ ap (λ b. cond b (Some (square_of_key m κ)) None) valid in
      let same : square ≡ square_of_key m κ = cc in
      block_given square.row square.column square.side level (sym (a_key deep valid)) (ap (λ x. x.row) same) (ap (λ x. x.column) same) (ap (λ x. x.side) same) l
