-- Store: a list becomes the bytes of its file. Refusals 1, 4, 12.
use Rattle.std.specs.Prelude.{ℕ, cond, List, [], ◌∷◌, length, ltb, eqb}
use Rattle.definitions.specs.Read.{records_of}
use Rattle.definitions.specs.Buffer.{over}
use Rattle.definitions.specs.File.{file_of}
use Rattle.definitions.specs.Refusal.{◌gives◌, first, accepted, bad_settings, no_list}
use Rattle.definitions.specs.declared.Counted.{Counted}

unfoldable pub stored : (m s : ℕ) (keys bits : List ℕ) (n : ℕ) → List ℕ
stored m s keys bits n = file_of m s (records_of keys bits n)

module _ (m s : ℕ) (keys bits : List ℕ) (n : ℕ) (file : List ℕ) where
  unfoldable pub store_refusal : ℕ
  store_refusal =
      first
      (bad_settings m s gives 1
      ∷ no_list m s keys bits n gives 4
      ∷ ltb (length file) (length (stored m s keys bits n)) gives 12
      ∷ [])

  -- the count is in bytes; with 12 it is the number of bytes needed
  unfoldable pub store : Counted
  store =
      record {
        refusal = store_refusal;
        count = accepted store_refusal
            (length (stored m s keys bits n))
            (cond (eqb store_refusal 12) (length (stored m s keys bits n)) 0);
      }

  unfoldable pub store_file : List ℕ
  store_file = accepted store_refusal (over (stored m s keys bits n) file) file
