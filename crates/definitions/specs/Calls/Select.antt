-- Select: where does a feature occur in a window? Refusals 1, 4, 6, 7, 12. Rests on Window.
use Rattle.std.specs.Prelude.{ℕ, cond, List, [], ◌∷◌, length, ltb, eqb}
use Rattle.definitions.specs.Read.{records_of, picture_of}
use Rattle.definitions.specs.Window.{bad_window, select_in}
use Rattle.definitions.specs.Buffer.{over}
use Rattle.definitions.specs.Refusal.{◌gives◌, first, accepted, bad_settings, no_list, bad_feature}
use Rattle.definitions.specs.declared.Window.{Window}
use Rattle.definitions.specs.declared.Counted.{Counted}

-- the keys that select gives of a list
unfoldable pub selected : (m : ℕ) (keys bits : List ℕ) (n : ℕ) (w : Window) (f : ℕ) → List ℕ
selected m keys bits n w f = select_in m (picture_of m (records_of keys bits n)) w f

module _ (m s : ℕ) (keys bits : List ℕ) (n : ℕ) (w : Window) (f : ℕ) (answer : List ℕ) where
  unfoldable pub select_refusal : ℕ
  select_refusal =
      first
      (bad_settings m s gives 1
      ∷ no_list m s keys bits n gives 4
      ∷ bad_window m w gives 6
      ∷ bad_feature s f gives 7
      ∷ ltb (length answer) (length (selected m keys bits n w f)) gives 12
      ∷ [])

  -- with 12 the count is the number of places needed
  unfoldable pub select : Counted
  select =
      record {
        refusal = select_refusal;
        count = accepted select_refusal
            (length (selected m keys bits n w f))
            (cond (eqb select_refusal 12) (length (selected m keys bits n w f)) 0);
      }

  unfoldable pub select_answer : List ℕ
  select_answer = accepted select_refusal (over (selected m keys bits n w f) answer) answer
