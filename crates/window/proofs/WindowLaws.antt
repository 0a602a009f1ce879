-- Laws of the three queries, over the definitions: select's blocks are disjoint and have exactly the window's pixels of feature f; exist is yes exactly
-- when report has the slot, and exactly when select gives something. Rests on Once and on the meaning of the queries.
use Prim.Native.Nat.{ℕ, ◌^◌, ◌<◌}
use mathlib.Core.Path.{◌≡◌, refl, sym, ◌∙◌}
use mathlib.Core.Bool.{true}
use mathlib.Core.Logic.{◌↔◌}
use mathlib.Core.List.Memᴰ
use mathlib.Core.List.{List, [], ◌∷◌, Memᴰ}
use native.Mathlib.Omega.{arith}
use lib.ListN.{length}
use Rattle.keys.specs.Block.{in_block}
use Rattle.keys.proofs.InBlock.{in_block_iff}
use Rattle.keys.specs.Under.{InSquare}
use Rattle.definitions.specs.Picture.{Picture}
use Rattle.definitions.specs.Bits.{has_slot}
use Rattle.definitions.specs.Window.{is_window, in_window, exist_in, report_in, select_in}
use Rattle.definitions.specs.declared.Window.{Window}
use Rattle.laws.proofs.Within.{first_within}
use Rattle.laws.proofs.SelectMeans.{given_inside, given_feature, Selected, select_in_exactly}
use Rattle.laws.proofs.WindowScan.{exist_exactly, exist_report}
use Rattle.walk.proofs.Lies.{window_pixel}
use Rattle.walk.proofs.Once.{covered_once, covers}

-- a member of a list says that it has one, and a list that has one has a member
some-length : {x : ℕ} {l : List ℕ} → Memᴰ x l → 0 < length l
some-length {l = []} m = absurd (Memᴰ.not-nil m)
some-length {l = y ∷ l} m = omega arith

first_member : (l : List ℕ) → 0 < length l → (x : ℕ) × Memᴰ x l
first_member [] h = absurd (omega arith)
first_member (x ∷ l) h = (x, Memᴰ.head refl)

module _ (m : ℕ) (p : Picture) (w : Window) (f : ℕ) where
  -- a pixel of a block that select gives
  pub record GivenAt (row column : ℕ) : Type 0 where
    pub key : ℕ
    pub given : Memᴰ key (select_in m p w f)
    pub holds : in_block m key row column ≡ true

  square_of : {x row column : ℕ} (s : Selected p w f m 0 0 0 x) → in_block m x row column ≡ true → InSquare s.height s.row s.column row column
  square_of {row = row} {column} s e = (in_block_iff row column s.under).0 e

  -- the blocks that select gives are disjoint: two with a pixel in common are one
  pub select_disjoint : {x y : ℕ} (row column : ℕ)
      → Memᴰ x (select_in m p w f)
      → Memᴰ y (select_in m p w f)
      → in_block m x row column ≡ true
      → in_block m y row column ≡ true
      → x ≡ y
  select_disjoint row column i j e g =
      let s = (select_in_exactly p w f m).0 i in
      let t = (select_in_exactly p w f m).0 j in
      covered_once p w f s t (square_of s e) (square_of t g)

  given_pixel : {row column : ℕ} → GivenAt row column → (in_window w row column ≡ true) × (p row column ≡ f)
  given_pixel {row} {column} g =
      let s = (select_in_exactly p w f m).0 g.given in
      let i = square_of s g.holds in
      (given_inside p w f s.height s.row s.column s.given i, given_feature p w f s.height s.row s.column s.given i)

  pixel_given : (row column : ℕ) → row < 2 ^ m → column < 2 ^ m → in_window w row column ≡ true → p row column ≡ f → GivenAt row column
  pixel_given row column low narrow window_has has =
      let x = covers p w f m 0 0 0 row column (omega arith) window_has has in
      let i = x.holds in
      record {
        key = x.key;
        given = (select_in_exactly p w f m).1 x.selected;
        holds = (in_block_iff row column x.selected.under).1 x.holds;
      }

  -- together they have exactly the window's pixels of feature f
  pub select_covers : {row column : ℕ} → row < 2 ^ m → column < 2 ^ m → GivenAt row column ↔ ((in_window w row column ≡ true) × (p row column ≡ f))
  select_covers {row} {column} low narrow = (given_pixel, λ h. pixel_given row column low narrow h.0 h.1)

  -- exist is yes exactly when report has the feature's slot
  pub exist_slot : (exist_in p w f ≡ true) ↔ (has_slot (report_in p w) f ≡ true)
  exist_slot = ((λ e. sym (exist_report p w f) ∙ e), (λ e. exist_report p w f ∙ e))

  -- and exactly when select gives some block
  pub exist_select : is_window m w ≡ true → (exist_in p w f ≡ true) ↔ (0 < length (select_in m p w f))
  exist_select good = (
    λ e.
        let x = (exist_exactly p w f).0 e in
        let q = window_pixel m w x.row x.column good x.inside in
        some-length (pixel_given x.row x.column q.0 q.1 x.inside x.feature).given,
    λ h.
        let x = first_member (select_in m p w f) h in
        let s = (select_in_exactly p w f m).0 x.1 in
        let first = first_within s.height s.row s.column in
        (exist_exactly p w f).1
        (record {
          row = s.row;
          column = s.column;
          inside = given_inside p w f s.height s.row s.column s.given first;
          feature = given_feature p w f s.height s.row s.column s.given first;
        }),
  )
