-- What a step does to the pixels, as the code is told it, and what the code answers about a block. Rests on Step and Runs.
use Rattle.std.specs.Prelude.{ℕ, ◌+◌, ◌≤◌, ◌<◌, ◌≡◌, true, List}
use Rattle.keys.specs.Key.{deepest_side}
use Rattle.keys.specs.Block.{pixel_key}
use Rattle.keys.specs.Child.{InMap}
use Rattle.keys.specs.declared.block.TreeBlock.{TreeBlock}
use Rattle.definitions.specs.Window.{in_window}
use Rattle.definitions.specs.declared.Window.{Window}
use Rattle.list.specs.Check.{one_slot}
use Rattle.deeds.specs.Step.{Step, plain}
use Rattle.deeds.specs.Meeting.{Met}
use Rattle.deeds.specs.Runs.{EntriesIn, back_step, again_step}
use Rattle.deeds.specs.declared.run.Run.{Run}
use Rattle.deeds.specs.declared.meeting.Meeting.{Meeting}
use Rattle.deeds.specs.declared.deed.Deed.{Deed}
use Rattle.deeds.specs.declared.deed.Deed.TheVariants.{Fill, Back, Again}

-- every pixel of a window gets a feature
abbrev pub window_step : Window → ℕ → Step
window_step w f = record { touches = in_window w; gives = plain f }

-- a window and a feature that a map can have
pub record Painting (w : Window) (feature : ℕ) : Type 0 where
  pub low : w.row + w.height ≤ deepest_side
  pub narrow : w.column + w.width ≤ deepest_side
  pub slot : feature ≤ 31

-- what it makes of a block, whatever log there is
abbrev pub WindowMet : (w : Window) (feature : ℕ) (b : TreeBlock) → Meeting → Type 0
WindowMet w f b meeting = (ks vs : List ℕ) → Met (window_step w f) ks vs b meeting

-- the step that a deed stands for
abbrev pub step_of : (m : ℕ) (deed : Deed) (log_keys log_values : List ℕ) → Step
step_of m (Fill window feature) ks vs = window_step window feature
step_of m (Back run) ks vs = back_step m run ks vs
step_of m (Again run) ks vs = again_step m run ks vs

-- what is known of a deed before anything is changed
abbrev pub Doable : (m : ℕ) (deed : Deed) (log_keys log_values : List ℕ) → Type 0
Doable m (Fill window feature) ks vs = Painting window feature
Doable m (Back run) ks vs = EntriesIn m run ks vs
Doable m (Again run) ks vs = EntriesIn m run ks vs

-- a leaf's block of the map
pub record LeafAsked (m own : ℕ) (b : TreeBlock) : Type 0 where
  pub deep : m ≤ 10
  pub block : InMap m b
  pub leaf : one_slot own ≡ true

-- two steps do the same to every pixel whose key is below past
pub record SameBefore (m past : ℕ) (t t' : Step) : Type 0 where
  pub touches : (row column : ℕ) → pixel_key m row column < past → t'.touches row column ≡ t.touches row column
  pub gives : (row column : ℕ) → pixel_key m row column < past → t'.gives row column ≡ t.gives row column

-- a deed of which no more is told than the blocks before past need
pub record Narrowed (m past : ℕ) (deed deed' : Deed) (log_keys log_values : List ℕ) : Type 0 where
  pub doable : Doable m deed' log_keys log_values
  pub same : SameBefore m past (step_of m deed log_keys log_values) (step_of m deed' log_keys log_values)

-- the entries of a run that a key does not rule out: as a deed of either kind it is narrowed to what lies before that key
pub record ShortRun (m past : ℕ) (run run' : Run) (log_keys log_values : List ℕ) : Type 0 where
  pub entries : EntriesIn m run' log_keys log_values
  pub same_back : SameBefore m past (back_step m run log_keys log_values) (back_step m run' log_keys log_values)
  pub same_again : SameBefore m past (again_step m run log_keys log_values) (again_step m run' log_keys log_values)
