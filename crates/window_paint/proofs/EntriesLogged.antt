-- Entries written one behind the other into the log's two slices, and those of a block's quadrants. Rests on WindowEntries and edit's Relogging.
use Prim.Native.Nat.{ℕ, ◌+◌, ◌≤◌, ◌<◌}
use mathlib.Core.Path.{◌≡◌, sym, ◌∙◌, ap}
use mathlib.Core.Bool.{false}
use mathlib.Core.List.{List, [], ◌∷◌, ◌++◌, map-append, append_assoc}
use native.Mathlib.Omega.{arith}
use lib.ListN.{length, take, drop, length-append, length-map, take-append-drop}
use lib.Seq.{length-sets}
use Rattle.keys.specs.Child.{child_of}
use Rattle.keys.specs.declared.block.TreeBlock.{TreeBlock}
use Rattle.keys.proofs.BlockChild.{in_child}
use Rattle.slices.proofs.Sets.{sets_parts}
use Rattle.definitions.specs.Picture.{Picture}
use Rattle.definitions.specs.List.{Record, keys_of, values_of}
use Rattle.definitions.specs.Read.{room, records_of}
use Rattle.definitions.specs.Buffer.{over_at}
use Rattle.definitions.specs.Window.{is_inside}
use Rattle.definitions.specs.declared.Window.{Window}
use Rattle.definitions.specs.Log.{entries_of}
use Rattle.definitions.specs.Calls.Paint.{gained}
use Rattle.list.specs.Own.{shown_by}
use Rattle.edit_log.specs.Entries.{Logged}
use Rattle.window_paint.specs.WindowLogging.{largest_in, entries_below, Enterable}
use Rattle.edit.proofs.ContentStands.{logged_same}
use Rattle.edit.proofs.Relogging.{over_join}
use Rattle.window_paint.proofs.WindowEntries.{largest_cut, entries_none, entries_one, entries_four}

none_over : (place : ℕ) (l : List ℕ) → l ≡ over_at place [] l
none_over place l = let same : place ≡ place + 0 = omega arith in sym (take-append-drop place l) ∙ ap (λ n. take place l ++ drop n l) same

-- no entry
pub logged_none : (place : ℕ) (keys values : List ℕ) → Logged [] place keys values keys values place
logged_none place keys values = record { keys_are = none_over place keys; values_are = none_over place values; used_are = omega arith }

module _ (a b : List Record) {start next : ℕ} {keys values keys₁ values₁ : List ℕ} (fits : start + (length a + length b) ≤ room keys values)
    (first : Logged a start keys values keys₁ values₁ next) where
  same_keys : length keys₁ ≡ length keys
  same_keys =
      let x = length-map a (λ x. x.key) in
      ap length (first.keys_are ∙ sym (sets_parts keys start (keys_of a) (omega arith))) ∙ length-sets keys start (keys_of a)

  same_values : length values₁ ≡ length values
  same_values =
      let x = length-map a (λ x. x.value) in
      ap length (first.values_are ∙ sym (sets_parts values start (values_of a) (omega arith))) ∙ length-sets values start (values_of a)

  -- there is room behind it for the next
  pub logged_rest : next + length b ≤ room keys₁ values₁
  logged_rest = let k = same_keys in let v = same_values in let e = first.used_are in omega arith

  -- two runs, the second behind the first
  pub logged_join : {keys₂ values₂ : List ℕ} {end : ℕ} → Logged b next keys₁ values₁ keys₂ values₂ end → Logged (a ++ b) start keys values keys₂ values₂ end
  logged_join second =
      let ka = length-map a (λ x. x.key) in
      let kb = length-map b (λ x. x.key) in
      let va = length-map a (λ x. x.value) in
      let vb = length-map b (λ x. x.value) in
      let size = length-append a b in
      let e = first.used_are in
      let g = second.used_are in
      record {
        keys_are =
            second.keys_are
            ∙ ap (over_at next (keys_of b)) first.keys_are
            ∙ over_join keys start (keys_of a) (keys_of b) next (omega arith) (omega arith) (omega arith)
            ∙ ap (λ l. over_at start l keys) (sym (map-append (λ x. x.key) a b));
        values_are =
            second.values_are
            ∙ ap (over_at next (values_of b)) first.values_are
            ∙ over_join values start (values_of a) (values_of b) next (omega arith) (omega arith) (omega arith)
            ∙ ap (λ l. over_at start l values) (sym (map-append (λ x. x.value) a b));
        used_are = omega arith;
      }

-- where a block is itself the largest its entry is the one
pub one_entry : (m : ℕ) (keys bits : List ℕ) (n : ℕ) (w : Window) (f : ℕ) (b : TreeBlock) → largest_in w b ≡ b.key ∷ []
    → gained m (records_of keys bits n) b.key f ≡ entries_below m (shown_by m keys bits n) w f b
unfolding gained
one_entry m keys bits n w f b e = sym (ap (λ l. entries_of m (shown_by m keys bits n) l f) e ∙ entries_one m (shown_by m keys bits n) f b.key)

-- where there is none nothing is written
pub no_entry : (m : ℕ) (p : Picture) (w : Window) (f : ℕ) (b : TreeBlock) (place : ℕ) (keys values : List ℕ) → largest_in w b ≡ []
    → Logged (entries_below m p w f b) place keys values keys values place
no_entry m p w f b place keys values e = logged_same (sym (ap (λ l. entries_of m p l f) e ∙ entries_none m p f)) (logged_none place keys values)

-- the entries of the quadrants, one behind the other
module _ {m : ℕ} {keys bits : List ℕ} {n : ℕ} {w : Window} {f : ℕ} {b : TreeBlock} {place : ℕ} {log_keys log_values : List ℕ}
    (a : Enterable m keys bits n w f b place log_keys log_values) (positive : 0 < b.height) (cut : is_inside w b.height b.row b.column ≡ false) where
  -- those of the quadrant of a digit
  abbrev of : ℕ → List Record
  of d = entries_below m (shown_by m keys bits n) w f (child_of b d)

  abbrev pub Logs : TreeBlock → ℕ → List ℕ → List ℕ → List ℕ → List ℕ → ℕ → Type 0
  Logs q = Logged (entries_below m (shown_by m keys bits n) w f q)

  by_quadrants : entries_below m (shown_by m keys bits n) w f b ≡ of 1 ++ (of 2 ++ (of 3 ++ of 4))
  by_quadrants =
      ap (λ l. entries_of m (shown_by m keys bits n) l f) (largest_cut w b positive cut)
      ∙ entries_four m (shown_by m keys bits n) f (largest_in w (child_of b 1)) (largest_in w (child_of b 2)) (largest_in w (child_of b 3)) (largest_in w (child_of b 4))

  all_fit : place + (length (of 1) + (length (of 2) + (length (of 3) + length (of 4)))) ≤ room log_keys log_values
  all_fit =
      let x = ap length by_quadrants in
      let x₁ = length-append (of 1) (of 2 ++ (of 3 ++ of 4)) in
      let x₂ = length-append (of 2) (of 3 ++ of 4) in
      let x₃ = length-append (of 3) (of 4) in
      omega (arith, a.fits)

  -- a quadrant is asked as the block was, where there is room
  enter : (d : ℕ) → 1 ≤ d → d ≤ 4 → {q : TreeBlock} → q ≡ child_of b d → {at : ℕ} {keys' values' : List ℕ} → at + length (of d) ≤ room keys' values'
      → Enterable m keys bits n w f q at keys' values'
  enter d low high e fits = rw e (record { list = a.list; block = in_child b d a.block positive low high; fits = fits })

  pub enter_nw : {q : TreeBlock} → q ≡ child_of b 1 → Enterable m keys bits n w f q place log_keys log_values
  enter_nw e = enter 1 (omega arith) (omega arith) e (let h = all_fit in omega arith)

  module _ {q₁ : TreeBlock} {keys₁ values₁ : List ℕ} {second : ℕ} (e₁ : q₁ ≡ child_of b 1) (one : Logs q₁ place log_keys log_values keys₁ values₁ second) where
    first : Logged (of 1) place log_keys log_values keys₁ values₁ second
    first = rw e₁ at one

    pub enter_ne : {q : TreeBlock} → q ≡ child_of b 2 → Enterable m keys bits n w f q second keys₁ values₁
    enter_ne e = enter 2 (omega arith) (omega arith) e (let h = all_fit in logged_rest (of 1) (of 2) (omega arith) first)

    module _ {q₂ : TreeBlock} {keys₂ values₂ : List ℕ} {third : ℕ} (e₂ : q₂ ≡ child_of b 2) (two : Logs q₂ second keys₁ values₁ keys₂ values₂ third) where
      northern : Logged (of 1 ++ of 2) place log_keys log_values keys₂ values₂ third
      northern = let h = all_fit in logged_join (of 1) (of 2) (omega arith) first (rw e₂ at two)

      pub enter_sw : {q : TreeBlock} → q ≡ child_of b 3 → Enterable m keys bits n w f q third keys₂ values₂
      enter_sw e =
          enter 3 (omega arith) (omega arith) e (let h = all_fit in let x = length-append (of 1) (of 2) in logged_rest (of 1 ++ of 2) (of 3) (omega arith) northern)

      module _ {q₃ : TreeBlock} {keys₃ values₃ : List ℕ} {fourth : ℕ} (e₃ : q₃ ≡ child_of b 3) (three : Logs q₃ third keys₂ values₂ keys₃ values₃ fourth) where
        all_but_one : Logged ((of 1 ++ of 2) ++ of 3) place log_keys log_values keys₃ values₃ fourth
        all_but_one = let h = all_fit in let x = length-append (of 1) (of 2) in logged_join (of 1 ++ of 2) (of 3) (omega arith) northern (rw e₃ at three)

        fits_last : place + (length ((of 1 ++ of 2) ++ of 3) + length (of 4)) ≤ room log_keys log_values
        fits_last = let h = all_fit in let x = length-append (of 1) (of 2) in let y = length-append (of 1 ++ of 2) (of 3) in omega arith

        pub enter_se : {q : TreeBlock} → q ≡ child_of b 4 → Enterable m keys bits n w f q fourth keys₃ values₃
        enter_se e = enter 4 (omega arith) (omega arith) e (logged_rest ((of 1 ++ of 2) ++ of 3) (of 4) fits_last all_but_one)

        pub entered : {q₄ : TreeBlock} {keys₄ values₄ : List ℕ} {end : ℕ} → q₄ ≡ child_of b 4 → Logs q₄ fourth keys₃ values₃ keys₄ values₄ end
            → Logs b place log_keys log_values keys₄ values₄ end
        entered e₄ four =
            logged_same
            (append_assoc (of 1 ++ of 2) (of 3) (of 4) ∙ append_assoc (of 1) (of 2) (of 3 ++ of 4) ∙ sym by_quadrants)
            (logged_join ((of 1 ++ of 2) ++ of 3) (of 4) fits_last all_but_one (rw e₄ at four))
