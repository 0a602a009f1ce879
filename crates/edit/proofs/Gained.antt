-- The entry that a paint logs is read from the list, and its length is that of the block's part and of what closes it. Rests on Content.
use Prim.Native.Nat.{ℕ, ◌+◌}
use mathlib.Core.Path.{◌≡◌, sym, ◌∙◌, ap}
use mathlib.Core.Bool.{true}
use mathlib.Core.List.{List}
use lib.ListN.{length}
use Rattle.keys.specs.Key.{valid_key}
use Rattle.definitions.specs.List.{Record, list_of_picture}
use Rattle.definitions.specs.Read.{picture_of}
use Rattle.definitions.specs.Edit.{content_of}
use Rattle.definitions.specs.Log.{closed, closing_places, entry_of}
use Rattle.definitions.specs.Calls.Paint.{gained}
use Rattle.definitions.specs.Standing.{part_length}
use Rattle.laws.proofs.LastEntry.{length-closed}
use Rattle.edit.specs.Content.{content_in}
use Rattle.edit.proofs.Content.{content-in, content-length}

module _ (m κ f : ℕ) (l : List Record) (valid : valid_key m κ ≡ true) (own : l ≡ list_of_picture m (picture_of m l)) where
  -- the entry's content is read from the list
  pub gained_in : gained m l κ f ≡ closed κ (content_in m l κ) f
  unfolding gained entry_of
  gained_in = ap (λ c. closed κ c f) (sym (ap (λ a. content_in m a κ) own ∙ content-in m κ (picture_of m l) valid))

  -- the entry's length: refusal 10
  pub gained-length : length (gained m l κ f) ≡ part_length m κ l + closing_places
  unfolding gained entry_of
  gained-length =
      length-closed κ (content_of m (picture_of m l) κ) f
      ∙ ap (λ n. n + closing_places) (sym (ap (part_length m κ) own ∙ content-length m κ (picture_of m l) valid))
