-- Steps over the ground, as a crew makes them: a window is painted, the last paint held is taken back, the next one taken back is redone, each on every sheet that
-- the paint's window meets and on no other. A window may reach over the ground's edge and is clipped first. Rests on Ground, Paints and the history's calls.
use Rattle.std.specs.Prelude.{ℕ, Bool, true, cond, ◌&&◌, List, [], ◌∷◌, ◌++◌, eqb, ℤ}
use Rattle.definitions.specs.Picture.{Picture}
use Rattle.definitions.specs.Edit.{fill_window}
use Rattle.definitions.specs.declared.Window.{Window}
use Rattle.history.specs.History.{Paint, of_window, Call, painting, taking_back, redoing, emptying, Buffers, answer, after}
use Rattle.sheets.specs.Ground.{Ground, ground_window, sheet_window, meets_sheet}
use Rattle.sheets.specs.Paints.{paint_on}

-- a window with its feature, as it was dragged
pub record GroundPaint : Type 0 where
  pub row : ℤ
  pub column : ℤ
  pub height : ℕ
  pub width : ℕ
  pub feature : ℕ

pub data GroundStep : Type 0 where
  paint_step : (x : GroundPaint) → GroundStep
  back_step : GroundStep
  redo_step : GroundStep

-- the paints that can be taken back, the latest first, and those that can be redone, the next one first
pub record GroundKept : Type 0 where
  pub held : List GroundPaint
  pub undone : List GroundPaint

unfoldable pub last_back : (held undone : List GroundPaint) → GroundKept
last_back [] undone = record { held = []; undone = undone }
last_back (x ∷ held) undone = record { held = held; undone = x ∷ undone }

unfoldable pub next_again : (held undone : List GroundPaint) → GroundKept
next_again held [] = record { held = held; undone = [] }
next_again held (x ∷ undone) = record { held = x ∷ held; undone = undone }

-- a new paint drops what could be redone
unfoldable pub keep_step : (step : GroundStep) (k : GroundKept) → GroundKept
keep_step (paint_step x) k = record { held = x ∷ k.held; undone = [] }
keep_step back_step k = last_back k.held k.undone
keep_step redo_step k = next_again k.held k.undone

unfoldable pub kept_steps : (steps : List GroundStep) (k : GroundKept) → GroundKept
kept_steps [] k = k
kept_steps (t ∷ steps) k = kept_steps steps (keep_step t k)

-- the paints kept after steps from none on
abbrev pub kept_from : (steps : List GroundStep) → GroundKept
kept_from steps = kept_steps steps (record { held = []; undone = [] })

-- the ground with paints, the latest first
module _ (g : Ground) where
  -- the paint's window, clipped to the ground
  abbrev pub window_of : (x : GroundPaint) → Window
  window_of x = ground_window g x.row x.column x.height x.width

  unfoldable pub picture_after : (xs : List GroundPaint) → Picture
  picture_after [] = g.picture
  picture_after (x ∷ xs) = fill_window (window_of x) x.feature (picture_after xs)

  abbrev pub ground_after : (xs : List GroundPaint) → Ground
  ground_after xs = record { rows = g.rows; columns = g.columns; picture = picture_after xs }

-- the calls that a sheet gets
module _ (m : ℕ) (g : Ground) (i j : ℕ) where
  -- a call where the sheet has a pixel of the paint's window, and else none
  abbrev pub where_met : (x : GroundPaint) (call : Call) → List Call
  where_met x call = cond (meets_sheet m (window_of g x) i j) (call ∷ []) []

  unfoldable pub of_first : (xs : List GroundPaint) (call : Call) → List Call
  of_first [] call = []
  of_first (x ∷ xs) call = where_met x call

  unfoldable pub step_calls : (step : GroundStep) (k : GroundKept) → List Call
  step_calls (paint_step x) k = where_met x (paint_on m (window_of g x) x.feature i j)
  step_calls back_step k = of_first k.held taking_back
  step_calls redo_step k = of_first k.undone redoing

  unfoldable pub run_calls : (steps : List GroundStep) (k : GroundKept) → List Call
  run_calls [] k = []
  run_calls (t ∷ steps) k = step_calls t k ++ run_calls steps (keep_step t k)

  -- the paints of the ground on this sheet
  unfoldable pub sheet_paints : (xs : List GroundPaint) → List Paint
  sheet_paints [] = []
  sheet_paints (x ∷ xs) = cond (meets_sheet m (window_of g x) i j) (of_window (sheet_window m (window_of g x) i j) x.feature ∷ sheet_paints xs) (sheet_paints xs)

-- a paint is accepted; of another call nothing is asked
unfoldable pub paint_accepted : (call : Call) (refusal : ℕ) → Bool
paint_accepted (painting x) refusal = eqb refusal 0
paint_accepted taking_back refusal = true
paint_accepted redoing refusal = true
paint_accepted emptying refusal = true

-- each paint of a run of calls is accepted
unfoldable pub paints_accepted : (m s : ℕ) (b : Buffers) (calls : List Call) → Bool
paints_accepted m s b [] = true
paints_accepted m s b (call ∷ calls) = paint_accepted call (answer m s b call) && paints_accepted m s (after m s b call) calls

-- each call of it is
unfoldable pub all_accepted : (m s : ℕ) (b : Buffers) (calls : List Call) → Bool
all_accepted m s b [] = true
all_accepted m s b (call ∷ calls) = eqb (answer m s b call) 0 && all_accepted m s (after m s b call) calls
