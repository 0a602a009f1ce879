-- The test of the mark by the last place of the log's two slices. Rests on Last.
use Prim.Native.Nat.{ℕ, ◌≤◌, ◌<◌}
use mathlib.Core.Path.{◌≡◌, refl, sym, ap, ap₂, ◌∙◌}
use mathlib.Core.Bool.{Bool, true, false, ◌&&◌}
use mathlib.Core.List.{List}
use lib.ListN.{length}
use lib.Dec.{eqb}
use borrow.Author.Tests.{eq-eqb, ne_eqb}
use Rattle.keys.specs.Key.{root_key}
use Rattle.definitions.specs.Read.{paired, records_of}
use Rattle.definitions.specs.Log.{group_mark, last_record, last_key, last_feature, ends_in_mark}
use Rattle.edit_log.specs.Entries.{closing_key, closing_feature}
use Rattle.edit_log.proofs.Last.{last_record_at}

-- without records there is none
pub none_marks : (keys values : List ℕ) (used : ℕ) → used ≡ 0 → false ≡ ends_in_mark (records_of keys values used)
unfolding paired ends_in_mark last_key last_feature last_record
none_marks keys values used none = sym (ap (λ n. ends_in_mark (records_of keys values n)) none)

module _ (keys values : List ℕ) (used : ℕ) (in_keys : used ≤ length keys) (in_values : used ≤ length values) (some : 0 < used) where
  mark_by : (root mark : Bool) → eqb (closing_key keys used) root_key ≡ root → eqb (closing_feature values used) group_mark ≡ mark
      → root && mark ≡ ends_in_mark (records_of keys values used)
  unfolding ends_in_mark last_key last_feature
  mark_by root mark e f =
      let last = last_record_at keys values used in_keys in_values some in
      sym (ap₂ ◌&&◌ (ap (λ x. eqb x.key root_key) last ∙ e) (ap (λ x. eqb x.value group_mark) last ∙ f))

  -- another key is none
  pub other_key : (closing_key keys used ≡ root_key → ⊥) → false ≡ ends_in_mark (records_of keys values used)
  other_key other = mark_by false _ (ne_eqb _ _ other) refl

  -- with the key 0 the number decides
  pub number_decides : closing_key keys used ≡ root_key → eqb (closing_feature values used) group_mark ≡ ends_in_mark (records_of keys values used)
  number_decides root = mark_by true _ (eq-eqb _ _ root) refl
