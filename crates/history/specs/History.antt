-- Histories: any run of paints of blocks and of windows, takings back, redos and log emptyings on the lent buffers, refused calls included, by the
-- definitions that the promises of build, paint, paint a window, take back, redo and empty cite. Beside it, without a look at the buffers: the paints still in
-- the log, and the raster that is left. A paint of a window counts as one paint.
use Rattle.std.specs.Prelude.{ℕ, ◌^◌, max, List, [], ◌∷◌, ◌++◌}
use Rattle.definitions.specs.Picture.{Picture, picture_of_raster}
use Rattle.definitions.specs.Window.{features_of_rows}
use Rattle.definitions.specs.List.{Record}
use Rattle.definitions.specs.Edit.{paint_in, fill_window}
use Rattle.definitions.specs.Log.{entry_of, group_of}
use Rattle.definitions.specs.Refusal.{accepted}
use Rattle.definitions.specs.Calls.Survey.{survey, survey_keys, survey_bits, survey_summary}
use Rattle.definitions.specs.Calls.Edit.{Edit, edit_refusal, edit_answer, keys_left, bits_left, summary_left, log_keys_left, log_values_left}
use Rattle.definitions.specs.Calls.Paint.{paint}
use Rattle.definitions.specs.Calls.PaintWindow.{paint_window}
use Rattle.definitions.specs.Calls.TakeBack.{take_back}
use Rattle.definitions.specs.Calls.Redo.{redo}
use Rattle.definitions.specs.Calls.Empty.{emptied}
use Rattle.definitions.specs.declared.Window.{Window}

-- a paint of a block or of a window with a feature; key, window and feature are any
pub data Paint : Type 0 where
  of_block : (κ f : ℕ) → Paint
  of_window : (w : Window) (f : ℕ) → Paint

-- a call of a history
pub data Call : Type 0 where
  painting : (x : Paint) → Call
  taking_back : Call
  redoing : Call
  emptying : Call

-- the lent buffers and the caller's three counts
pub record Buffers : Type 0 where
  pub keys : List ℕ
  pub bits : List ℕ
  pub n : ℕ
  pub summary : List ℕ
  pub log_keys : List ℕ
  pub log_values : List ℕ
  pub used : ℕ
  pub in_force : ℕ

-- after build, with an empty log in any two slices
unfoldable pub built : (m s : ℕ) (raster keys bits summary log_keys log_values : List ℕ) → Buffers
built m s raster keys bits summary log_keys log_values =
    record {
      keys = survey_keys m s raster keys bits summary;
      bits = survey_bits m s raster keys bits summary;
      n = (survey m s raster keys bits summary).count;
      summary = survey_summary m s raster keys bits summary;
      log_keys = log_keys;
      log_values = log_values;
      used = emptied.used;
      in_force = emptied.in_force;
    }

-- an edit of the lent buffers
abbrev pub lent_to : {A : Type 0} (b : Buffers) (definition : List ℕ → List ℕ → ℕ → List ℕ → List ℕ → List ℕ → ℕ → ℕ → A) → A
lent_to b definition = definition b.keys b.bits b.n b.summary b.log_keys b.log_values b.used b.in_force

-- the refusal number that a call gives; 0 where it is accepted
unfoldable pub answer : (m s : ℕ) (b : Buffers) (call : Call) → ℕ
answer m s b (painting (of_block κ f)) = edit_refusal (lent_to b (paint m s) κ f)
answer m s b (painting (of_window w f)) = edit_refusal (lent_to b (paint_window m s) w f)
answer m s b taking_back = edit_refusal (lent_to b (take_back m s))
answer m s b redoing = edit_refusal (lent_to b (redo m s))
answer m s b emptying = 0

-- the buffers after an edit: the caller takes the counts of an accepted call's answer, and keeps his own where it is refused
abbrev pub after_edit : (b : Buffers) (e : Edit) → Buffers
after_edit b e =
    record {
      keys = keys_left e;
      bits = bits_left e;
      n = accepted (edit_refusal e) (edit_answer e).n b.n;
      summary = summary_left e;
      log_keys = log_keys_left e;
      log_values = log_values_left e;
      used = accepted (edit_refusal e) (edit_answer e).used b.used;
      in_force = accepted (edit_refusal e) (edit_answer e).in_force b.in_force;
    }

-- the buffers after a call
unfoldable pub after : (m s : ℕ) (b : Buffers) (call : Call) → Buffers
after m s b (painting (of_block κ f)) = after_edit b (lent_to b (paint m s) κ f)
after m s b (painting (of_window w f)) = after_edit b (lent_to b (paint_window m s) w f)
after m s b taking_back = after_edit b (lent_to b (take_back m s))
after m s b redoing = after_edit b (lent_to b (redo m s))
after m s b emptying =
    record { keys = b.keys; bits = b.bits; n = b.n; summary = b.summary; log_keys = b.log_keys; log_values = b.log_values; used = emptied.used; in_force = emptied.in_force }

-- the buffers after a run of calls, the first call first
unfoldable pub after_calls : (m s : ℕ) (b : Buffers) (calls : List Call) → Buffers
after_calls m s b [] = b
after_calls m s b (c ∷ cs) = after_calls m s (after m s b c) cs

-- the largest number of records that the list has in a run
unfoldable pub longest_list : (m s : ℕ) (b : Buffers) (calls : List Call) → ℕ
longest_list m s b [] = b.n
longest_list m s b (c ∷ cs) = max b.n (longest_list m s (after m s b c) cs)

-- the largest number of records that the log has in a run
unfoldable pub longest_log : (m s : ℕ) (b : Buffers) (calls : List Call) → ℕ
longest_log m s b [] = b.used
longest_log m s b (c ∷ cs) = max b.used (longest_log m s (after m s b c) cs)

-- the paints that can be taken back, the latest first; those that were taken back and can be redone, the next one first; and those that no longer can
-- be taken back, the latest first
pub record Kept : Type 0 where
  pub held : List Paint
  pub undone : List Paint
  pub fixed : List Paint

abbrev pub nothing : Kept
nothing = record { held = []; undone = []; fixed = [] }

-- the latest paint held is undone
unfoldable pub without_latest : (held undone fixed : List Paint) → Kept
without_latest [] undone fixed = record { held = []; undone = undone; fixed = fixed }
without_latest (x ∷ held) undone fixed = record { held = held; undone = x ∷ undone; fixed = fixed }

-- the next paint undone is held again, in its old position
unfoldable pub with_next : (held undone fixed : List Paint) → Kept
with_next held [] fixed = record { held = held; undone = []; fixed = fixed }
with_next held (x ∷ undone) fixed = record { held = x ∷ held; undone = undone; fixed = fixed }

-- what a call with this answer makes of the paints: an accepted paint is held and drops those that could be redone, an accepted taking back undoes the
-- latest paint held, an accepted redo holds the next one again, emptying makes all that are held fixed and drops the others, and a refused call changes
-- nothing
unfoldable pub keep : (call : Call) (refusal : ℕ) (k : Kept) → Kept
keep (painting x) refusal k = accepted refusal (record { held = x ∷ k.held; undone = []; fixed = k.fixed }) k
keep taking_back refusal k = accepted refusal (without_latest k.held k.undone k.fixed) k
keep redoing refusal k = accepted refusal (with_next k.held k.undone k.fixed) k
keep emptying refusal k = record { held = []; undone = []; fixed = k.held ++ k.fixed }

-- the paints after a run of calls
unfoldable pub kept : (m s : ℕ) (b : Buffers) (k : Kept) (calls : List Call) → Kept
kept m s b k [] = k
kept m s b k (c ∷ cs) = kept m s (after m s b c) (keep c (answer m s b c) k) cs

-- what a paint makes of a picture
unfoldable pub applied : (m : ℕ) (x : Paint) (p : Picture) → Picture
applied m (of_block κ f) p = paint_in m κ f p
applied m (of_window w f) p = fill_window w f p

-- what it logs of the picture that it found: an entry, or a group
unfoldable pub logged_by : (m : ℕ) (p : Picture) (x : Paint) → List Record
logged_by m p (of_block κ f) = entry_of m p κ f
logged_by m p (of_window w f) = group_of m p w f

-- paints, the latest first, applied to a picture one after the other
unfoldable pub drawn : (m : ℕ) (p : Picture) (paints : List Paint) → Picture
drawn m p [] = p
drawn m p (x ∷ xs) = applied m x (drawn m p xs)

-- the log of the paints, the latest first, on a picture: each has its step in the picture that it found
unfoldable pub log_of : (m : ℕ) (p : Picture) (paints : List Paint) → List Record
log_of m p [] = []
log_of m p (x ∷ xs) = log_of m p xs ++ logged_by m (drawn m p xs) x

-- the log of paints to come, the next one first, on a picture
unfoldable pub log_after : (m : ℕ) (p : Picture) (paints : List Paint) → List Record
log_after m p [] = []
log_after m p (x ∷ xs) = logged_by m p x ++ log_after m (applied m x p) xs

-- the first raster with the paints applied that were not taken back
unfoldable pub picture_left : (m : ℕ) (raster : List ℕ) (k : Kept) → Picture
picture_left m raster k = drawn m (picture_of_raster m raster) (k.held ++ k.fixed)

-- the same as a raster, row after row
unfoldable pub raster_left : (m : ℕ) (raster : List ℕ) (k : Kept) → List ℕ
raster_left m raster k = features_of_rows (picture_left m raster k) 0 0 (2 ^ m) (2 ^ m)
