-- The answers of writing leaves: their number, the rows of its table of refusals, and what is given and left. Rests on LeavesOf.
use Prim.Native.Nat.{ℕ, ◌-◌, ◌/◌, ◌≤◌, ◌<◌}
use mathlib.Core.Path.{◌≡◌, sym, ◌∙◌, ap}
use mathlib.Core.Bool.{true, false, cond}
use mathlib.Core.List.{List}
use native.Mathlib.Omega.{arith}
use lib.ListN.{length}
use lib.Dec.{eqb}
use borrow.Author.Tests.{lt-ltb, le-ltb, ne_eqb}
use Rattle.definitions.specs.List.{keys_of, values_of}
use Rattle.definitions.specs.Read.{room, is_list}
use Rattle.definitions.specs.Leaves.{leaves_of}
use Rattle.definitions.specs.Buffer.{over}
use Rattle.definitions.specs.Refusal.{first, bad_settings}
use Rattle.definitions.specs.Calls.WriteLeaves.{leaves_in, write_leaves_refusal, write_leaves, written_leaf_keys, written_leaf_features}
use Rattle.std.specs.Prelude.{Err}
use Rattle.definitions.specs.Answered.{as_counted}
use Rattle.definitions.specs.Refused.{refusal_number}
use Rattle.definitions.specs.declared.Counted.{Counted}
use Rattle.definitions.specs.declared.refusal.Refusal.{Refusal}
use Rattle.definitions.proofs.Refused.{refusal_some}
use Rattle.definitions.proofs.Needed.{counted_alone}
use Rattle.laws.proofs.First.{accepted_done, accepted_left}
use Rattle.list.specs.First.{first_refusal}
use Rattle.list.specs.Own.{shown_by}
use Rattle.list.proofs.FirstRefusal.{refused_first, first_small}
use Rattle.list.proofs.Own.{own_list, own-length}
use Rattle.leaves.proofs.LeavesOf.{leaves_count}
use Rattle.leaves.proofs.ReadAnswer.{leaves_counted}

-- how many leaves an accepted list has
pub leaves_number : (m s : ℕ) (keys bits : List ℕ) (n : ℕ) → is_list m s keys bits n ≡ true → n - n / 4 ≡ length (leaves_in keys bits n)
leaves_number m s keys bits n e =
    let o = own_list m s keys bits n e in
    let f = leaves_count (shown_by m keys bits n) m 0 0 0 in
    let g = own-length o in
    let h = ap (λ l. length (leaves_of l)) o.own in
    omega arith

module _ (m s : ℕ) (keys bits : List ℕ) (n : ℕ) (leafKeys leafFeatures : List ℕ) where
  pub write_twelve : bad_settings m s ≡ false → is_list m s keys bits n ≡ true → room leafKeys leafFeatures < length (leaves_in keys bits n)
      → 12 ≡ write_leaves_refusal m s keys bits n leafKeys leafFeatures
  unfolding write_leaves_refusal first
  write_twelve e f h = rw (e, f, lt-ltb (room leafKeys leafFeatures) (length (leaves_in keys bits n)) h)

  pub write_none : bad_settings m s ≡ false → is_list m s keys bits n ≡ true → length (leaves_in keys bits n) ≤ room leafKeys leafFeatures
      → 0 ≡ write_leaves_refusal m s keys bits n leafKeys leafFeatures
  unfolding write_leaves_refusal first
  write_none e f h = rw (e, f, le-ltb (room leafKeys leafFeatures) (length (leaves_in keys bits n)) h)

  abbrev pub Answered : Counted → List ℕ → List ℕ → Type 0
  Answered answer leaf_keys' leaf_features' =
      (answer ≡ write_leaves m s keys bits n leafKeys leafFeatures)
      × ((leaf_keys' ≡ written_leaf_keys m s keys bits n leafKeys leafFeatures) × (leaf_features' ≡ written_leaf_features m s keys bits n leafKeys leafFeatures))

  -- a refused call: with 12 the count is the number of places needed, with another number it is 0
  pub write_refused : (r count : ℕ) → r ≡ write_leaves_refusal m s keys bits n leafKeys leafFeatures → (r ≡ 0 → ⊥)
      → count ≡ cond (eqb r 12) (length (leaves_in keys bits n)) 0
      → Answered (record { refusal = r; count = count }) leafKeys leafFeatures
  unfolding write_leaves written_leaf_keys written_leaf_features
  write_refused r count e h f = (
    leaves_counted e (f ∙ ap (λ x. cond (eqb x 12) (length (leaves_in keys bits n)) 0) e ∙ sym (accepted_left _ _ (λ z. h (e ∙ z)))),
    (sym (accepted_left _ leafKeys (λ z. h (e ∙ z))), sym (accepted_left _ leafFeatures (λ z. h (e ∙ z)))),
  )

  -- 1 and 4
  pub write_early : (r : ℕ) → r ≡ first_refusal m s keys bits n → (r ≡ 0 → ⊥) → Answered (record { refusal = r; count = 0 }) leafKeys leafFeatures
  unfolding write_leaves_refusal
  write_early r e h =
      let small = first_small m s keys bits n in
      write_refused r 0 (refused_first m s keys bits n r _ e h) h
      (sym (ap (λ b. cond b (length (leaves_in keys bits n)) 0) (ne_eqb r 12 (λ twelve. omega arith))))

  pub write_told : (r : Refusal) → refusal_number r ≡ first_refusal m s keys bits n → Answered (as_counted (Err r)) leafKeys leafFeatures
  write_told r e =
      let small = first_small m s keys bits n in
      let h = write_early (refusal_number r) e (refusal_some r) in
      (counted_alone r (λ twelve. omega arith) ∙ h.0, h.1)

  -- an accepted one
  pub write_done : (count : ℕ) (leaf_keys' leaf_features' : List ℕ) → 0 ≡ write_leaves_refusal m s keys bits n leafKeys leafFeatures
      → count ≡ length (leaves_in keys bits n)
      → leaf_keys' ≡ over (keys_of (leaves_in keys bits n)) leafKeys
      → leaf_features' ≡ over (values_of (leaves_in keys bits n)) leafFeatures
      → Answered (record { refusal = 0; count = count }) leaf_keys' leaf_features'
  unfolding write_leaves written_leaf_keys written_leaf_features
  write_done count leaf_keys' leaf_features' e f g h = (
    leaves_counted e (f ∙ sym (accepted_done _ _ (sym e))),
    (g ∙ sym (accepted_done _ leafKeys (sym e)), h ∙ sym (accepted_done _ leafFeatures (sym e))),
  )
