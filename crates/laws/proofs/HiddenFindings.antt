-- What hides a finding (specification S13.5): its block's pixels all lie in waivers of its rule, one larger, the same block or several smaller ones.
-- Other rules' waivers change nothing, and a further waiver never brings a finding back. Rests on the laws of scans.
use Prim.Native.Nat.{ℕ, suc, ◌+◌, ◌^◌, ◌≤◌}
use mathlib.Core.Path.{◌≡◌, refl, sym, ap, ◌∙◌}
use mathlib.Core.Logic.{◌↔◌, ⊎_elim}
use mathlib.Core.Bool.{Bool, true, false, ◌&&◌, ◌||◌, true≢false}
use mathlib.Core.List.Memᴰ
use mathlib.Core.List.{List, [], ◌∷◌, ◌++◌, Memᴰ}
use native.Mathlib.Omega.{arith}
use lib.Dec.{leb, eqb}
use borrow.Author.Tests.{eqb-true, eq-eqb, leb-true, le-leb, lt-ltb}
use Rattle.keys.specs.Key.{height_of, child_key}
use Rattle.keys.specs.Block.{row_of, column_of, side_of, in_block, contains}
use Rattle.keys.proofs.Cases.{decide, and_left, and_right, and_both, or_either, or_left, or_right, same_test}
use Rattle.keys.specs.Under.{MapBlock, here, nw, ne, sw, se, InSquare, Every}
use Rattle.keys.proofs.Under.{under_trans}
use Rattle.keys.proofs.Valid.{block_valid}
use Rattle.definitions.specs.Picture.{every_pixel, all_four}
use Rattle.definitions.specs.Rules.{Finding, finding_of, is_waived_at, is_hidden}
use Rattle.definitions.specs.Covered.{waived_keys, in_some, is_covered}
use Rattle.laws.proofs.Within.{Somewhere}
use Rattle.laws.proofs.Pixels.{every_to, every_from, every_fails, every_suc, every_same, four_from}

-- ---- one pixel
-- the waiver is one of the rule and has the pixel
pub record WaivedBy (m : ℕ) (ws : List Finding) (id row column : ℕ) : Type 0 where
  pub waiver : Finding
  pub among : Memᴰ waiver ws
  pub rule : waiver.id ≡ id
  pub holds : in_block m waiver.key row column ≡ true

module _ (m id row column : ℕ) where
  abbrev waives : Finding → Bool
  waives w = eqb w.id id && in_block m w.key row column

  waived_to : (ws : List Finding) → is_waived_at m ws id row column ≡ true → WaivedBy m ws id row column
  unfolding is_waived_at
  waived_to [] e = absurd (true≢false (sym e))
  waived_to (w ∷ ws) e =
      ⊎_elim
      (λ (h : waives w ≡ true).
      record {
        waiver = w;
        among = Memᴰ.head refl;
        rule = eqb-true w.id id (and_left (eqb w.id id) (in_block m w.key row column) h);
        holds = and_right (eqb w.id id) (in_block m w.key row column) h;
      })
      (λ (h : is_waived_at m ws id row column ≡ true).
      let by = waived_to ws h in record { waiver = by.waiver; among = Memᴰ.tail by.among; rule = by.rule; holds = by.holds })
      (or_either (waives w) (is_waived_at m ws id row column) e)

  waived_from : {w : Finding} {ws : List Finding} → Memᴰ w ws → w.id ≡ id → in_block m w.key row column ≡ true → is_waived_at m ws id row column ≡ true
  unfolding is_waived_at
  waived_from {w} (Memᴰ.head {x = v} {xs} e) rule holds =
      or_left (waives v) (is_waived_at m xs id row column)
      (ap waives (sym e) ∙ and_both (eqb w.id id) (in_block m w.key row column) (eq-eqb w.id id rule) holds)
  waived_from (Memᴰ.tail {x = v} {xs} i) rule holds = or_right (waives v) (is_waived_at m xs id row column) (waived_from i rule holds)

-- ---- every pixel of a block, and some pixel of it
abbrev pub EveryPixelOf : ℕ → ℕ → (ℕ → ℕ → Type 0) → Type 0
EveryPixelOf m κ P = Every P (height_of m κ) (row_of m κ) (column_of m κ)

abbrev pub SomePixelOf : ℕ → ℕ → (ℕ → ℕ → Type 0) → Type 0
SomePixelOf m κ P = Somewhere P (height_of m κ) (row_of m κ) (column_of m κ)

-- some pixel of the finding's block lies in no waiver of its rule
abbrev pub LeftOver : ℕ → List Finding → Finding → Type 0
LeftOver m ws x = SomePixelOf m x.key (λ row column. WaivedBy m ws x.id row column → ⊥)

module _ (m : ℕ) (ws : List Finding) (x : Finding) where
  abbrev test : ℕ → ℕ → Bool
  test = is_waived_at m ws x.id

  hidden_to : is_hidden m ws x ≡ true → EveryPixelOf m x.key (WaivedBy m ws x.id)
  unfolding is_hidden
  hidden_to e row column i = waived_to m x.id row column ws (every_to test (height_of m x.key) (row_of m x.key) (column_of m x.key) e row column i)

  hidden_from : EveryPixelOf m x.key (WaivedBy m ws x.id) → is_hidden m ws x ≡ true
  unfolding is_hidden
  hidden_from h =
      every_from test (height_of m x.key) (row_of m x.key) (column_of m x.key)
      (λ row column i. let by = h row column i in waived_from m x.id row column by.among by.rule by.holds)

  -- a finding is hidden exactly when every pixel of its block lies in the block of a waiver of its rule
  pub hidden_exactly : (is_hidden m ws x ≡ true) ↔ EveryPixelOf m x.key (WaivedBy m ws x.id)
  hidden_exactly = (hidden_to, hidden_from)

  -- and is not exactly when some pixel of it lies in none
  pub shown_exactly : (is_hidden m ws x ≡ false) ↔ LeftOver m ws x
  unfolding is_hidden
  shown_exactly = (
    λ e.
        let some = every_fails test (height_of m x.key) (row_of m x.key) (column_of m x.key) e in
        record {
          row = some.row;
          column = some.column;
          within = some.within;
          holds = λ by. true≢false (sym (waived_from m x.id some.row some.column by.among by.rule by.holds) ∙ some.holds);
        },
    λ some. decide (is_hidden m ws x) (λ e. absurd (some.holds (hidden_to e some.row some.column some.within))) (λ e. e),
  )

-- ---- larger waivers, and the same block
-- a pixel of a block lies in every block that contains it
contained : (m a b row column : ℕ) → contains m a b ≡ true → InSquare (height_of m b) (row_of m b) (column_of m b) row column → in_block m a row column ≡ true
unfolding contains in_block side_of
contained m a b row column e i =
    let rows = leb (row_of m a) (row_of m b) && leb (row_of m b + 2 ^ height_of m b) (row_of m a + 2 ^ height_of m a) in
    let first = and_left rows _ e in
    let second = and_right rows _ e in
    let top : row_of m a ≤ row_of m b = leb-true _ _ (and_left _ _ first) in
    let bottom : row_of m b + 2 ^ height_of m b ≤ row_of m a + 2 ^ height_of m a = leb-true _ _ (and_right (leb (row_of m a) (row_of m b)) _ first) in
    let left : column_of m a ≤ column_of m b = leb-true _ _ (and_left _ _ second) in
    let right : column_of m b + 2 ^ height_of m b ≤ column_of m a + 2 ^ height_of m a = leb-true _ _ (and_right (leb (column_of m a) (column_of m b)) _ second) in
    and_both _ _
    (and_both _ _ (le-leb (row_of m a) row (omega arith)) (lt-ltb row (row_of m a + 2 ^ height_of m a) (omega arith)))
    (and_both _ _ (le-leb (column_of m a) column (omega arith)) (lt-ltb column (column_of m a + 2 ^ height_of m a) (omega arith)))

contains_own : (m κ : ℕ) → contains m κ κ ≡ true
unfolding contains
contains_own m κ =
    and_both _ _
    (and_both _ _ (le-leb (row_of m κ) (row_of m κ) (omega arith)) (le-leb (row_of m κ + side_of m κ) (row_of m κ + side_of m κ) (omega arith)))
    (and_both _ _ (le-leb (column_of m κ) (column_of m κ) (omega arith)) (le-leb (column_of m κ + side_of m κ) (column_of m κ + side_of m κ) (omega arith)))

-- a waiver of the rule whose block contains the finding's hides it
pub around_hides : (m : ℕ) {ws : List Finding} {w : Finding} (x : Finding) → Memᴰ w ws → w.id ≡ x.id → contains m w.key x.key ≡ true
    → is_hidden m ws x ≡ true
around_hides m {ws} {w} x i rule e =
    hidden_from m ws x (λ row column at. record { waiver = w; among = i; rule = rule; holds = contained m w.key x.key row column e at })

-- so does the waiver that is the finding
pub equal_hides : (m : ℕ) {ws : List Finding} {x : Finding} → Memᴰ x ws → is_hidden m ws x ≡ true
equal_hides m {ws} {x} i = around_hides m x i refl (contains_own m x.key)

-- what hid a finding before waivers covered (S13.6), one with its rule and its key, hides it still
unfoldable pub formerly_hidden : List Finding → Finding → Bool
formerly_hidden [] x = false
formerly_hidden (w ∷ ws) x = eqb w.id x.id && eqb w.key x.key || formerly_hidden ws x

formerly_waiver : (ws : List Finding) (x : Finding) → formerly_hidden ws x ≡ true → Memᴰ x ws
unfolding formerly_hidden
formerly_waiver [] x e = absurd (true≢false (sym e))
formerly_waiver (w ∷ ws) x e =
    ⊎_elim
    (λ (h : eqb w.id x.id && eqb w.key x.key ≡ true).
    let ids = eqb-true w.id x.id (and_left (eqb w.id x.id) (eqb w.key x.key) h) in
    let keys = eqb-true w.key x.key (and_right (eqb w.id x.id) (eqb w.key x.key) h) in
    Memᴰ.head (λ i. finding_of (sym ids i) (sym keys i)))
    (λ (h : formerly_hidden ws x ≡ true). Memᴰ.tail (formerly_waiver ws x h))
    (or_either (eqb w.id x.id && eqb w.key x.key) (formerly_hidden ws x) e)

pub formerly_hides : (m : ℕ) (ws : List Finding) (x : Finding) → formerly_hidden ws x ≡ true → is_hidden m ws x ≡ true
formerly_hides m ws x e = equal_hides m (formerly_waiver ws x e)

-- ---- several smaller ones
-- by the numbers of the block
by_block : {m k r c κ : ℕ} (ws : List Finding) (id : ℕ) → MapBlock m k r c κ → is_hidden m ws (finding_of id κ) ≡ every_pixel (is_waived_at m ws id) k r c
unfolding is_hidden
by_block ws id b = let i = block_valid b in rw (i.height, i.row, i.column)

module _ {m k r c κ : ℕ} (ws : List Finding) (id : ℕ) (b : MapBlock m (suc k) r c κ) where
  -- a block is hidden exactly when its four quadrants are
  pub hidden_four : is_hidden m ws (finding_of id κ)
      ≡ all_four (is_hidden m ws (finding_of id (child_key κ k 1))) (is_hidden m ws (finding_of id (child_key κ k 2)))
      (is_hidden m ws (finding_of id (child_key κ k 3))) (is_hidden m ws (finding_of id (child_key κ k 4)))
  hidden_four =
      by_block ws id b
      ∙ every_suc (is_waived_at m ws id) k r c
      ∙ sym (rw (by_block ws id (under_trans b (nw here)), by_block ws id (under_trans b (ne here)), by_block ws id (under_trans b (sw here)), by_block ws id (under_trans b (se here))))

  -- so four waived siblings hide their parent
  pub siblings_hide : Memᴰ (finding_of id (child_key κ k 1)) ws → Memᴰ (finding_of id (child_key κ k 2)) ws
      → Memᴰ (finding_of id (child_key κ k 3)) ws → Memᴰ (finding_of id (child_key κ k 4)) ws
      → is_hidden m ws (finding_of id κ) ≡ true
  siblings_hide i j k' l =
      hidden_four ∙ four_from _ _ _ _ (record { nw = equal_hides m i; ne = equal_hides m j; sw = equal_hides m k'; se = equal_hides m l })

-- ---- other waivers
-- waivers that hide a finding hide it among any others, in any order
pub hidden_still : (m : ℕ) (ws vs : List Finding) (x : Finding) → ((w : Finding) → w.id ≡ x.id → Memᴰ w ws → Memᴰ w vs)
    → is_hidden m ws x ≡ true → is_hidden m vs x ≡ true
hidden_still m ws vs x kept e =
    hidden_from m vs x (λ row column i.
    let by = hidden_to m ws x e row column i in
    record { waiver = by.waiver; among = kept by.waiver by.rule by.among; rule = by.rule; holds = by.holds })

-- only which waivers of the rule there are counts
pub hidden_alike : (m : ℕ) (ws vs : List Finding) (x : Finding)
    → ((w : Finding) → w.id ≡ x.id → Memᴰ w ws → Memᴰ w vs)
    → ((w : Finding) → w.id ≡ x.id → Memᴰ w vs → Memᴰ w ws)
    → is_hidden m ws x ≡ is_hidden m vs x
hidden_alike m ws vs x to from = same_test (is_hidden m ws x) (is_hidden m vs x) (hidden_still m ws vs x to) (hidden_still m vs ws x from)

module _ (m : ℕ) (ws : List Finding) (w : Finding) (vs : List Finding) (x : Finding) where
  with_one : (v : Finding) → Memᴰ v (ws ++ vs) → Memᴰ v (ws ++ (w ∷ vs))
  with_one v i =
      ⊎_elim
      (λ (h : Memᴰ v ws). Memᴰ.append_left (w ∷ vs) h)
      (λ (h : Memᴰ v vs). Memᴰ.append_right ws (Memᴰ.tail h))
      (Memᴰ.append_cases ws i)

  without_one : (v : Finding) → (v ≡ w → ⊥) → Memᴰ v (ws ++ (w ∷ vs)) → Memᴰ v (ws ++ vs)
  without_one v other i =
      ⊎_elim
      (λ (h : Memᴰ v ws). Memᴰ.append_left vs h)
      (λ (h : Memᴰ v (w ∷ vs)).
      Memᴰ.append_right ws (⊎_elim (λ (e : v ≡ w). absurd (other e)) (λ (j : Memᴰ v vs). j) (Memᴰ.cases_cons h)))
      (Memᴰ.append_cases ws i)

  -- a further waiver, at any place, never brings a finding back
  pub more_hides : is_hidden m (ws ++ vs) x ≡ true → is_hidden m (ws ++ (w ∷ vs)) x ≡ true
  more_hides = hidden_still m (ws ++ vs) (ws ++ (w ∷ vs)) x (λ v rule. with_one v)

  -- one of another rule, at any place, changes nothing
  pub other_rule_at : (w.id ≡ x.id → ⊥) → is_hidden m (ws ++ (w ∷ vs)) x ≡ is_hidden m (ws ++ vs) x
  other_rule_at other =
      hidden_alike m (ws ++ (w ∷ vs)) (ws ++ vs) x
      (λ v rule. without_one v (λ e. other (sym (ap (λ y. y.id) e) ∙ rule)))
      (λ v rule. with_one v)

-- ---- one rule's waivers as keys
waived_some : (m : ℕ) (ws : List Finding) (id row column : ℕ) → is_waived_at m ws id row column ≡ in_some m (waived_keys id ws) row column
unfolding is_waived_at in_some waived_keys
waived_some m [] id row column = refl
waived_some m (w ∷ ws) id row column =
    decide (eqb w.id id)
    (λ e. rw e (ap (λ b. in_block m w.key row column || b) (waived_some m ws id row column)))
    (λ e. rw e (waived_some m ws id row column))

-- a finding is hidden exactly when its rule's waivers cover its block
pub hidden_covered : (m : ℕ) (ws : List Finding) (x : Finding) → is_hidden m ws x ≡ is_covered m (waived_keys x.id ws) x.key
unfolding is_hidden is_covered
hidden_covered m ws x = every_same _ _ (height_of m x.key) (row_of m x.key) (column_of m x.key) (λ row column i. waived_some m ws x.id row column)
