-- The answers of standing, part and raster: a refused call gives its number and nothing else, and an accepted one the numbers of the standing.
-- Rests on Tests, Own and Fuller.
use Prim.Native.Nat.{ℕ, suc, ◌+◌, ◌-◌, ◌^◌, ◌≤◌}
use Rattle.std.specs.Prelude.{Ok}
use Rattle.definitions.specs.Answered.{as_stands}
use mathlib.Core.Path.{◌≡◌, refl, sym, ◌∙◌, ap, ap₂}
use mathlib.Core.List.{List, []}
use mathlib.Core.Logic.{◌↔◌}
use native.Mathlib.Omega.{arith}
use lib.ListN.{length, take, drop, length-take, length-drop}
use Rattle.keys.specs.Key.{height_of}
use Rattle.keys.proofs.Cases.{equal}
use Rattle.keys.proofs.Powers.{five_pos}
use Rattle.keys.proofs.Valid.{valid_block}
use Rattle.definitions.specs.Read.{records_of}
use Rattle.definitions.specs.Standing.{place_of, standing_of, numbers_of, part_length, part_of}
use Rattle.definitions.specs.Window.{features_of_rows}
use Rattle.definitions.specs.Calls.Standing.{standing_refusal, stands_nowhere, standing}
use Rattle.definitions.specs.Calls.Part.{part, part_span}
use Rattle.definitions.specs.Calls.Raster.{raster_refusal, raster, raster_pixels}
use Rattle.definitions.specs.declared.Standing.{Standing}
use Rattle.definitions.specs.declared.Standing.TheVariants.{Listed, Inside}
use Rattle.definitions.specs.declared.Span.{Span}
use Rattle.laws.proofs.First.{accepted_done, accepted_left}
use Rattle.list.specs.Own.{BlockIn, shown_by}
use Rattle.list.specs.Among.{keys_below}
use Rattle.list.proofs.Count.{below_up_to}
use Rattle.list.proofs.Among.{up_to_most}
use Rattle.list.proofs.Own.{own_list, own_part_some, own_part}
use Rattle.list.proofs.Fuller.{listed_numbers, inside_numbers, listed_part, inside_part}
use Rattle.list.proofs.Tests.{StandingPassed, standing_passed}

span : {a b a' b' : ℕ} → a ≡ a' → b ≡ b' → ◌≡◌ {A = Span} (record { start = a; length = b }) (record { start = a'; length = b' })
span e f i = record { start = e i; length = f i }

-- a standing is told by its numbers
pub stands_numbers : (x : Standing) → as_stands (Ok x) ≡ numbers_of x
stands_numbers (Listed place records) = refl
stands_numbers (Inside place leaf level) = refl

module _ (m s : ℕ) (keys bits : List ℕ) (n κ : ℕ) where
  -- a refused call of standing
  pub standing_refused : (r : ℕ) → r ≡ standing_refusal m s keys bits n κ → (r ≡ 0 → ⊥) → stands_nowhere r ≡ standing m s keys bits n κ
  unfolding standing
  standing_refused r is h = ap stands_nowhere is ∙ sym (accepted_left _ _ (λ e. h (is ∙ e)))

  -- an accepted one gives the numbers of the standing
  pub standing_found : (x : Standing) → standing_refusal m s keys bits n κ ≡ 0 → x ≡ standing_of m κ (records_of keys bits n) → numbers_of x ≡ standing m s keys bits n κ
  unfolding standing
  standing_found x none is = ap numbers_of is ∙ sym (accepted_done _ _ none)

  -- a refused call of part
  pub span_refused : (r : ℕ) → r ≡ standing_refusal m s keys bits n κ → (r ≡ 0 → ⊥) → record { start = 0; length = 0 } ≡ part_span m s keys bits n κ
  unfolding part_span
  span_refused r is h = span (sym (accepted_left _ 0 (λ e. h (is ∙ e)))) (sym (accepted_left _ 0 (λ e. h (is ∙ e))))

  -- of an accepted one: the place and the length
  module _ (none : standing_refusal m s keys bits n κ ≡ 0) where
    passed : StandingPassed m s keys bits n κ
    passed = standing_passed m s keys bits n κ none

    pub asked : BlockIn m keys bits n κ
    asked = record { deepest = passed.settings.deep; own = own_list m s keys bits n passed.list; valid = passed.valid }

    span_found : (start length : ℕ) → start ≡ place_of κ (records_of keys bits n) → length ≡ part_length m κ (records_of keys bits n)
        → record { start = start; length = length } ≡ part_span m s keys bits n κ
    unfolding part_span
    span_found start length e f =
        span (e ∙ sym (accepted_done (place_of κ (records_of keys bits n)) 0 none)) (f ∙ sym (accepted_done (part_length m κ (records_of keys bits n)) 0 none))

    -- a listed block's records
    pub span_listed : (place records : ℕ) → standing_of m κ (records_of keys bits n) ≡ Listed place records
        → record { start = place; length = records } ≡ part_span m s keys bits n κ
    span_listed place records e =
        let f = listed_numbers m κ (records_of keys bits n) place records e in
        span_found place records f.1 (f.2 ∙ sym (listed_part m κ (records_of keys bits n) f.0))

    -- the leaf's one
    pub span_inside : (place leaf level : ℕ) → standing_of m κ (records_of keys bits n) ≡ Inside place leaf level
        → record { start = place; length = 1 } ≡ part_span m s keys bits n κ
    span_inside place leaf level e =
        let f = inside_numbers m κ (records_of keys bits n) place leaf level e in
        span_found place 1 f.1 (sym (inside_part m κ (records_of keys bits n) f.0))

    -- it ends with the keys below the end of the block's interval
    part_until : place_of κ (records_of keys bits n) + part_length m κ (records_of keys bits n) ≡ keys_below (κ + 5 ^ height_of m κ) (take n keys)
    part_until = own_part asked.own (valid_block m κ passed.valid)

    until_most : place_of κ (records_of keys bits n) + part_length m κ (records_of keys bits n) ≤ length keys
    until_most =
        let p = five_pos (height_of m κ) in
        let e : κ + 5 ^ height_of m κ ≡ suc (κ + (5 ^ height_of m κ - 1)) = omega arith in
        let f = ap (λ x. keys_below x (take n keys)) e ∙ below_up_to (κ + (5 ^ height_of m κ - 1)) (take n keys) in
        let g = up_to_most (κ + (5 ^ height_of m κ - 1)) (take n keys) in
        let h = length-take n keys in
        let i = part_until in
        omega arith

  -- the part lies within the key slice
  pub span_fits : (part_span m s keys bits n κ).start + (part_span m s keys bits n κ).length ≤ length keys
  unfolding part_span
  span_fits =
      equal (standing_refusal m s keys bits n κ) 0
      (λ none. rw (accepted_done (place_of κ (records_of keys bits n)) 0 none, accepted_done (part_length m κ (records_of keys bits n)) 0 none) (until_most none))
      (λ some. rw (accepted_left (place_of κ (records_of keys bits n)) 0 some, accepted_left (part_length m κ (records_of keys bits n)) 0 some) (omega arith))

  -- the part that the span names is the one that is handed back
  pub part_found : take (part_span m s keys bits n κ).length (drop (part_span m s keys bits n κ).start keys) ≡ part m s keys bits n κ
  unfolding part_span part part_of
  part_found =
      equal (standing_refusal m s keys bits n κ) 0
      (λ none. rw none)
      (λ some.
      ap₂ (λ x y. take x (drop y keys)) (accepted_left (part_length m κ (records_of keys bits n)) 0 some) (accepted_left (place_of κ (records_of keys bits n)) 0 some)
      ∙ sym (accepted_left (part_of m κ (records_of keys bits n) keys) [] some))

  not_empty : standing_refusal m s keys bits n κ ≡ 0 → part m s keys bits n κ ≡ [] → ⊥
  unfolding part part_of
  not_empty none e =
      let f = sym (accepted_done (part_of m κ (records_of keys bits n) keys) [] none) ∙ e in
      let g = ap length f in
      let h = length-take (part_length m κ (records_of keys bits n)) (drop (place_of κ (records_of keys bits n)) keys) in
      let i = length-drop (place_of κ (records_of keys bits n)) keys in
      let j = until_most none in
      let k = own_part_some (asked none).own (valid_block m κ (passed none).valid) in
      omega arith

  -- the part is empty exactly when the call is refused
  pub part_empty : (part m s keys bits n κ ≡ []) ↔ (standing_refusal m s keys bits n κ ≡ 0 → ⊥)
  unfolding part
  part_empty = ((λ e none. not_empty none e), (λ some. accepted_left (part_of m κ (records_of keys bits n) keys) [] some))

  -- the same of a span that was found
  pub span_within : (x : Span) → x ≡ part_span m s keys bits n κ → x.start + x.length ≤ length keys
  span_within x e = rw e span_fits

  pub span_part : (x : Span) → x ≡ part_span m s keys bits n κ → take (x.start + x.length - x.start) (drop x.start keys) ≡ part m s keys bits n κ
  span_part x e =
      let f : x.start + x.length - x.start ≡ x.length = omega arith in
      rw f (ap (λ y. take y.length (drop y.start keys)) e ∙ part_found)

-- raster: a refused call leaves the pixels, an accepted one has the picture's
module _ (m s : ℕ) (keys bits : List ℕ) (n : ℕ) (pixels : List ℕ) where
  pub raster_refused : (r : ℕ) → r ≡ raster_refusal m s keys bits n pixels → (r ≡ 0 → ⊥)
      → (record { refusal = r } ≡ raster m s keys bits n pixels) × (pixels ≡ raster_pixels m s keys bits n pixels)
  unfolding raster raster_pixels
  raster_refused r is h = ((λ i. record { refusal = is i }), sym (accepted_left _ pixels (λ e. h (is ∙ e))))

  pub raster_done : (after : List ℕ) → raster_refusal m s keys bits n pixels ≡ 0 → after ≡ features_of_rows (shown_by m keys bits n) 0 0 (2 ^ m) (2 ^ m)
      → (record { refusal = 0 } ≡ raster m s keys bits n pixels) × (after ≡ raster_pixels m s keys bits n pixels)
  unfolding raster raster_pixels
  raster_done after none e = ((λ i. record { refusal = sym none i }), e ∙ sym (accepted_done _ pixels none))
