-- What demand 3 claims of the buffers that a history leaves: they hold the list and the summary that a fresh build of the raster left gives, taking back is refused
-- exactly when no paint is held, and redo exactly when none is there to redo. Rests on History.
use Rattle.std.specs.Prelude.{ℕ, ◌+◌, ◌≡◌, true, false, cond, List, [], ◌∷◌, length, drop, ltb}
use Rattle.definitions.specs.Picture.{Picture, picture_of_raster}
use Rattle.definitions.specs.List.{list_of_picture, list_of_raster, keys_of, values_of}
use Rattle.definitions.specs.Read.{room, records_of, picture_of, is_list}
use Rattle.definitions.specs.Buffer.{replaced}
use Rattle.definitions.specs.Area.{summary_of, no_summary}
use Rattle.definitions.specs.Edit.{paint_in, fill_window}
use Rattle.definitions.specs.Window.{bad_window}
use Rattle.definitions.specs.declared.Window.{Window}
use Rattle.definitions.specs.Log.{entry_of, group_of, to_redo, no_log}
use Rattle.definitions.specs.Refusal.{◌gives◌, first, bad_key, bad_feature}
use Rattle.definitions.specs.Calls.Survey.{survey, survey_refusal, survey_keys, survey_bits, survey_summary}
use Rattle.history.specs.History.{Call, painting, of_block, of_window, taking_back, redoing, Buffers, Paint, Kept, answer, built, after_calls, longest_list, longest_log, kept, nothing, applied, drawn, log_of, log_after, picture_left, raster_left}

-- 11 where no paint is held, and else 0
unfoldable pub back_answer : (held : List Paint) → ℕ
back_answer [] = 11
back_answer (x ∷ xs) = 0

-- 20 where no paint is there to redo, and else 0
unfoldable pub redo_answer : (undone : List Paint) → ℕ
redo_answer [] = 20
redo_answer (x ∷ xs) = 0

-- the same in slices that may have less room than others had before them: where a paint is held, 9 if the list without the latest one has no room; the
-- paints are held on p
unfoldable pub back_answer_in : (m : ℕ) (p : Picture) (room_of_list : ℕ) (held : List Paint) → ℕ
back_answer_in m p room_of_list [] = 11
back_answer_in m p room_of_list (x ∷ xs) = cond (ltb room_of_list (length (list_of_picture m (drawn m p xs)))) 9 0

-- likewise where a paint is there to redo, 9 if the list with the next one has no room; the picture now is p
unfoldable pub redo_answer_in : (m : ℕ) (p : Picture) (room_of_list : ℕ) (undone : List Paint) → ℕ
redo_answer_in m p room_of_list [] = 20
redo_answer_in m p room_of_list (x ∷ xs) = cond (ltb room_of_list (length (list_of_picture m (applied m x p)))) 9 0

-- a paint is refused by its own key and feature, by the log's room for the entry, or by the list's room for the list of the painted picture, in
-- this order; room_of_list and room_of_log are places, in_force counts the records in force
unfoldable pub paint_answer : (m s : ℕ) (p : Picture) (room_of_list room_of_log in_force κ f : ℕ) → ℕ
paint_answer m s p room_of_list room_of_log in_force κ f =
    first
    (bad_key m κ gives 8
    ∷ bad_feature s f gives 7
    ∷ ltb room_of_log (in_force + length (entry_of m p κ f)) gives 10
    ∷ ltb room_of_list (length (list_of_picture m (paint_in m κ f p))) gives 9
    ∷ [])

-- a paint of a window likewise, by its window in the place of a key, and by the log's room for the whole group
unfoldable pub paint_window_answer : (m s : ℕ) (p : Picture) (room_of_list room_of_log in_force : ℕ) (w : Window) (f : ℕ) → ℕ
paint_window_answer m s p room_of_list room_of_log in_force w f =
    first
    (bad_window m w gives 6
    ∷ bad_feature s f gives 7
    ∷ ltb room_of_log (in_force + length (group_of m p w f)) gives 10
    ∷ ltb room_of_list (length (list_of_picture m (fill_window w f p))) gives 9
    ∷ [])

-- build was lent keys, bits and summary, and the log log_keys and log_values; the history left b, keeps the paints k, and had at most so many records in the
-- list and in the log
pub record AsBuilt (m s : ℕ) (raster keys bits summary log_keys log_values : List ℕ) (b : Buffers) (k : Kept) (in_list in_log : ℕ) : Type 0 where
  -- the first n records are the list of the picture left
  pub picture : records_of b.keys b.bits b.n ≡ list_of_picture m (picture_left m raster k)
  -- and of the raster left
  pub list : records_of b.keys b.bits b.n ≡ list_of_raster m (raster_left m raster k)
  -- the summary is that of the picture left
  pub summary_left : b.summary ≡ summary_of m s (picture_left m raster k)
  -- a fresh build of that raster into the same slices is accepted
  pub fresh : survey_refusal m s (raster_left m raster k) keys bits summary ≡ 0
  -- it gives the same count
  pub fresh_count : b.n ≡ (survey m s (raster_left m raster k) keys bits summary).count
  -- and the same records
  pub fresh_records : records_of b.keys b.bits b.n
      ≡ records_of (survey_keys m s (raster_left m raster k) keys bits summary)
      (survey_bits m s (raster_left m raster k) keys bits summary)
      (survey m s (raster_left m raster k) keys bits summary).count
  -- and the same summary
  pub fresh_summary : b.summary ≡ survey_summary m s (raster_left m raster k) keys bits summary
  -- the whole slices: past the list zeroes as far as a list of the history ever went, and then what was lent to build
  pub all_keys : b.keys ≡ replaced in_list (keys_of (list_of_raster m (raster_left m raster k))) keys
  pub all_bits : b.bits ≡ replaced in_list (values_of (list_of_raster m (raster_left m raster k))) bits
  -- refusals 4, 18 and 5 do not come
  pub is-list : is_list m s b.keys b.bits b.n ≡ true
  pub is_summary : no_summary m s (picture_of m (records_of b.keys b.bits b.n)) b.summary ≡ false
  pub is_log : no_log m s b.log_keys b.log_values b.used b.in_force ≡ false
  -- the records in force are the steps of the held paints, each of the picture that the paint found, and no others
  pub in-force : records_of b.log_keys b.log_values b.in_force ≡ log_of m (drawn m (picture_of_raster m raster) k.fixed) k.held
  -- the records to redo are the steps of the paints undone, each of the picture that it found, and no others
  pub redoable : to_redo b.log_keys b.log_values b.used b.in_force ≡ log_after m (picture_left m raster k) k.undone
  -- the counts are theirs
  pub force_count : b.in_force ≡ length (log_of m (drawn m (picture_of_raster m raster) k.fixed) k.held)
  pub used_count : b.used ≡ b.in_force + length (log_after m (picture_left m raster k) k.undone)
  -- taking back is refused, with 11, exactly when no paint is held
  pub back : answer m s b taking_back ≡ back_answer k.held
  -- redo is refused, with 20, exactly when no paint is there to redo
  pub again : answer m s b redoing ≡ redo_answer k.undone
  -- paint is refused only by key, feature or room
  pub paints : (κ f : ℕ) → answer m s b (painting (of_block κ f)) ≡ paint_answer m s (picture_left m raster k) (room keys bits) (room log_keys log_values) b.in_force κ f
  -- a paint of a window only by window, feature or room
  pub window_paints : (w : Window) (f : ℕ)
      → answer m s b (painting (of_window w f)) ≡ paint_window_answer m s (picture_left m raster k) (room keys bits) (room log_keys log_values) b.in_force w f
  -- the slices keep their lengths
  pub keys_length : length b.keys ≡ length keys
  pub bits_length : length b.bits ≡ length bits
  pub log_keys_length : length b.log_keys ≡ length log_keys
  pub log_values_length : length b.log_values ≡ length log_values
  -- the log's places stay that no log of the history reached
  pub past_log_keys : drop in_log b.log_keys ≡ drop in_log log_keys
  pub past_log_values : drop in_log b.log_values ≡ drop in_log log_values

-- demand 3
abbrev pub History : (m s : ℕ) (raster keys bits summary log_keys log_values : List ℕ) (calls : List Call) → Type 0
History m s raster keys bits summary log_keys log_values calls =
    let start = built m s raster keys bits summary log_keys log_values in
    AsBuilt m s raster keys bits summary log_keys log_values (after_calls m s start calls) (kept m s start nothing calls) (longest_list m s start calls) (longest_log m s start calls)
