-- Where histories with rests begin beside an accepted build: any buffers with a list, its summary and an empty log. The raster is then the one that the
-- list shows. Rests on Events and AsLeft.
use Rattle.std.specs.Prelude.{ℕ, ◌^◌, ◌≡◌, true, false, List}
use Rattle.definitions.specs.Window.{features_of_rows}
use Rattle.definitions.specs.Read.{records_of, picture_of, is_list}
use Rattle.definitions.specs.Area.{no_summary}
use Rattle.definitions.specs.Refusal.{bad_settings}
use Rattle.definitions.specs.Calls.FillSummary.{filled_summary}
use Rattle.definitions.specs.Calls.Empty.{emptied}
use Rattle.history.specs.History.{Buffers}
use Rattle.rests.specs.Events.{Event, Reached, begins, slices_of, after_events, AllMay}
use Rattle.rests.specs.AsLeft.{AsLeft}

-- a list at good settings: refusals 1 and 4 do not come
pub record GivesList (m s : ℕ) (keys bits : List ℕ) (n : ℕ) : Type 0 where
  pub settings : bad_settings m s ≡ false
  pub is-list : is_list m s keys bits n ≡ true

-- with its summary, so that 18 does not come, and an empty log
pub record HasList (m s : ℕ) (b : Buffers) : Type 0 where
  pub gives : GivesList m s b.keys b.bits b.n
  pub is_summary : no_summary m s (picture_of m (records_of b.keys b.bits b.n)) b.summary ≡ false
  pub none_used : b.used ≡ 0
  pub none_in_force : b.in_force ≡ 0

-- the raster that the list shows, row after row
unfoldable pub raster_shown : (m : ℕ) (b : Buffers) → List ℕ
raster_shown m b = features_of_rows (picture_of m (records_of b.keys b.bits b.n)) 0 0 (2 ^ m) (2 ^ m)

-- a history begins with them
abbrev pub found : Buffers → Reached
found b = begins (slices_of b) b

-- a list in slices, however it came there, its summary filled, and an emptied log in any two slices
abbrev pub filled_from : (m s : ℕ) (keys bits : List ℕ) (n : ℕ) (summary log_keys log_values : List ℕ) → Buffers
filled_from m s keys bits n summary log_keys log_values =
    record {
      keys = keys;
      bits = bits;
      n = n;
      summary = filled_summary m s keys bits n summary;
      log_keys = log_keys;
      log_values = log_values;
      used = emptied.used;
      in_force = emptied.in_force;
    }

-- as good a start as a build: after any calls and rests from there the buffers are as claimed
abbrev pub GoodStart : (m s : ℕ) (b : Buffers) → Type 0
GoodStart m s b = (es : List Event) → AllMay m s (found b) es → AsLeft m s (raster_shown m b) (after_events m s (found b) es)
