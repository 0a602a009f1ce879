-- What is claimed of a history with rests, of the buffers that it leaves and the slices that were lent last. It is demand 3's record field by field, but
-- for taking back and redo: they may be refused with 9 where these slices have less room than earlier ones had. Rests on Events and Claim.
use Rattle.std.specs.Prelude.{ℕ, ◌+◌, ◌≡◌, true, false, List, length, drop}
use Rattle.definitions.specs.Picture.{picture_of_raster}
use Rattle.definitions.specs.List.{list_of_picture, list_of_raster, keys_of, values_of}
use Rattle.definitions.specs.Read.{records_of, picture_of, is_list}
use Rattle.definitions.specs.Buffer.{replaced}
use Rattle.definitions.specs.Area.{summary_of, no_summary}
use Rattle.definitions.specs.declared.Window.{Window}
use Rattle.definitions.specs.Log.{to_redo, no_log}
use Rattle.definitions.specs.Calls.Survey.{survey, survey_refusal, survey_keys, survey_bits, survey_summary}
use Rattle.history.specs.History.{painting, of_block, of_window, taking_back, redoing, Buffers, Kept, answer, drawn, log_of, log_after, picture_left, raster_left}
use Rattle.history.specs.Claim.{back_answer_in, redo_answer_in, paint_answer, paint_window_answer}
use Rattle.rests.specs.Events.{LentSlices, list_room, log_room, Reached}

-- lent are the slices lent last; the history left b, keeps the paints k, and had at most so many records in the list and in the log of these slices
pub record LeftIn (m s : ℕ) (raster : List ℕ) (lent : LentSlices) (b : Buffers) (k : Kept) (in_list in_log : ℕ) : Type 0 where
  -- the first n records are the list of the picture left
  pub picture : records_of b.keys b.bits b.n ≡ list_of_picture m (picture_left m raster k)
  -- and of the raster left
  pub list : records_of b.keys b.bits b.n ≡ list_of_raster m (raster_left m raster k)
  -- the summary is that of the picture left
  pub summary_left : b.summary ≡ summary_of m s (picture_left m raster k)
  -- a fresh build of that raster into the slices lent last is accepted
  pub fresh : survey_refusal m s (raster_left m raster k) lent.keys lent.bits lent.summary ≡ 0
  -- it gives the same count
  pub fresh_count : b.n ≡ (survey m s (raster_left m raster k) lent.keys lent.bits lent.summary).count
  -- and the same records
  pub fresh_records : records_of b.keys b.bits b.n
      ≡ records_of (survey_keys m s (raster_left m raster k) lent.keys lent.bits lent.summary)
      (survey_bits m s (raster_left m raster k) lent.keys lent.bits lent.summary)
      (survey m s (raster_left m raster k) lent.keys lent.bits lent.summary).count
  -- and the same summary
  pub fresh_summary : b.summary ≡ survey_summary m s (raster_left m raster k) lent.keys lent.bits lent.summary
  -- the whole slices: past the list zeroes as far as a list in these slices ever went, and then what they held when they were lent
  pub all_keys : b.keys ≡ replaced in_list (keys_of (list_of_raster m (raster_left m raster k))) lent.keys
  pub all_bits : b.bits ≡ replaced in_list (values_of (list_of_raster m (raster_left m raster k))) lent.bits
  -- refusals 4, 18 and 5 do not come
  pub is-list : is_list m s b.keys b.bits b.n ≡ true
  pub is_summary : no_summary m s (picture_of m (records_of b.keys b.bits b.n)) b.summary ≡ false
  pub is_log : no_log m s b.log_keys b.log_values b.used b.in_force ≡ false
  -- the records in force are the steps of the held paints, whenever they were made
  pub in-force : records_of b.log_keys b.log_values b.in_force ≡ log_of m (drawn m (picture_of_raster m raster) k.fixed) k.held
  -- the records to redo are the steps of the paints undone
  pub redoable : to_redo b.log_keys b.log_values b.used b.in_force ≡ log_after m (picture_left m raster k) k.undone
  -- the counts are theirs
  pub force_count : b.in_force ≡ length (log_of m (drawn m (picture_of_raster m raster) k.fixed) k.held)
  pub used_count : b.used ≡ b.in_force + length (log_after m (picture_left m raster k) k.undone)
  -- taking back is refused with 11 exactly when no paint is held, and else with 9 exactly when the list before the latest paint has no room
  pub back : answer m s b taking_back ≡ back_answer_in m (drawn m (picture_of_raster m raster) k.fixed) (list_room lent) k.held
  -- redo is refused with 20 exactly when no paint is there to redo, and else with 9 exactly when the list with the next one has no room
  pub again : answer m s b redoing ≡ redo_answer_in m (picture_left m raster k) (list_room lent) k.undone
  -- paint is refused only by key, feature or room
  pub paints : (κ f : ℕ) → answer m s b (painting (of_block κ f))
      ≡ paint_answer m s (picture_left m raster k) (list_room lent) (log_room lent) b.in_force κ f
  -- a paint of a window only by window, feature or room
  pub window_paints : (w : Window) (f : ℕ) → answer m s b (painting (of_window w f))
      ≡ paint_window_answer m s (picture_left m raster k) (list_room lent) (log_room lent) b.in_force w f
  -- the slices keep their lengths
  pub keys_length : length b.keys ≡ length lent.keys
  pub bits_length : length b.bits ≡ length lent.bits
  pub log_keys_length : length b.log_keys ≡ length lent.log_keys
  pub log_values_length : length b.log_values ≡ length lent.log_values
  -- the log's places stay that no log in these slices reached
  pub past_log_keys : drop in_log b.log_keys ≡ drop in_log lent.log_keys
  pub past_log_values : drop in_log b.log_values ≡ drop in_log lent.log_values

-- of where a history stands that began with this raster
abbrev pub AsLeft : (m s : ℕ) (raster : List ℕ) → Reached → Type 0
AsLeft m s raster t = LeftIn m s raster t.lent t.buffers t.paints t.in_list t.in_log
