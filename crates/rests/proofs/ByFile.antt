-- A rest by the library's own calls is a rest: wherever a history with rests stands, and there is room, store, load and fill are accepted, and what they
-- leave, with the log laid beside it, are buffers that a rest may lead to. Rests on Given, the claim AsLeft and file's RoundTrip.
use Prim.Native.Nat.{ℕ, ◌≤◌, min}
use mathlib.Core.Path.{◌≡◌, refl, sym, ap, ap₂, subst₂, ◌∙◌}
use mathlib.Core.Bool.{Bool, false, ◌&&◌}
use mathlib.Core.List.{List}
use native.Mathlib.Omega.{arith}
use lib.ListN.{length, take, drop}
use lib.Seq.{length-take-le, take_at}
use lib.Dec.{leb}
use borrow.Author.Tests.{leb-true, not-false}
use Rattle.keys.proofs.Cases.{and_left, and_right}
use Rattle.definitions.specs.Read.{room, paired, records_of}
use Rattle.definitions.specs.Buffer.{over}
use Rattle.definitions.specs.File.{n_in}
use Rattle.definitions.specs.Log.{is_sound, to_redo, no_log}
use Rattle.definitions.specs.Calls.Store.{store_refusal}
use Rattle.definitions.specs.Calls.Load.{load_refusal, load}
use Rattle.definitions.specs.Calls.FillSummary.{fill_refusal}
use Rattle.laws.proofs.Built.{build_passed}
use Rattle.list.proofs.Accepted.{accepted_as_list}
use Rattle.file.proofs.Accepted.{store_accepted, store_accepts, load_accepted, load_gives}
use Rattle.file.proofs.RoundTrip.{LoadsList, load_after_store}
use Rattle.history.specs.History.{Buffers, raster_left}
use Rattle.rests.specs.Events.{LogBrought, Rested, LentSlices, Reached}
use Rattle.rests.specs.AsLeft.{AsLeft}
use Rattle.rests.specs.Starts.{GivesList}
use Rattle.rests.specs.ByFile.{file_from, loaded_with, leads_to, RoomToRest, RestsByFile}
use Rattle.rests.proofs.Given.{fill_accepts, fill_leaves, load_gives_list, load_keeps_room, over-length}

-- the answer's refusal is load's
pub file_refusal_of : (file keys bits : List ℕ) → (load file keys bits).refusal ≡ load_refusal file keys bits
unfolding load
file_refusal_of file keys bits = refl

module _ (m s : ℕ) (b : Buffers) (buffer : List ℕ) (kept : store_refusal m s b.keys b.bits b.n buffer ≡ 0) where
  abbrev file : List ℕ
  file = file_from m s b buffer

  -- load gives the list back in any slices with room
  load_back : (keys bits : List ℕ) → b.n ≤ room keys bits → LoadsList file keys bits m s b.n (records_of b.keys b.bits b.n)
  unfolding file_from
  load_back keys bits h = load_after_store m s b.keys b.bits b.n buffer keys bits kept h

  load_passes : (keys bits : List ℕ) → b.n ≤ room keys bits → load_refusal file keys bits ≡ 0
  load_passes keys bits h = sym (file_refusal_of file keys bits) ∙ ap (λ r. r.refusal) (load_back keys bits h).result

  -- what store took has room where it stands
  own_room : b.n ≤ room b.keys b.bits
  own_room =
      let a = accepted_as_list m s b.keys b.bits b.n (store_accepted m s b.keys b.bits b.n buffer kept).listed in
      let in_keys = a.in_keys in
      let in-bits = a.in-bits in
      omega arith

  -- load is accepted only where there is room: the file's count is n, since loading into the old slices gives n
  load_room : (keys bits : List ℕ) → load_refusal file keys bits ≡ 0 → b.n ≤ room keys bits
  load_room keys bits e =
      let same : n_in file ≡ b.n =
      ap (λ r. r.n) (sym (load_gives file b.keys b.bits (load_passes b.keys b.bits own_room)) ∙ (load_back b.keys b.bits own_room).result) in
      let roomy = (load_accepted file keys bits e).roomy in
      omega arith

  module _ (lent : LentSlices) (log_keys log_values : List ℕ) (brought : ℕ) where
    abbrev to : Buffers
    to = loaded_with m s file lent log_keys log_values brought b.in_force

    -- an accepted load leaves a list at m and s
    back_gives : load_refusal file lent.keys lent.bits ≡ 0 → GivesList m s to.keys to.bits to.n
    back_gives e =
        let result = (load_back lent.keys lent.bits (load_room lent.keys lent.bits e)).result in
        subst₂ (λ x y. GivesList x y to.keys to.bits to.n) (ap (λ r. r.m) result) (ap (λ r. r.s) result)
        (load_gives_list file lent.keys lent.bits e)

    -- where store, load and fill are accepted, and the log is brought along, what they leave are buffers that a rest may lead to
    pub accepted_rests : load_refusal file lent.keys lent.bits ≡ 0 → fill_refusal m s to.keys to.bits to.n lent.summary ≡ 0
        → LogBrought b.log_keys b.log_values brought log_keys log_values
        → Rested m s b brought to
    accepted_rests e f log =
        let back = load_back lent.keys lent.bits (load_room lent.keys lent.bits e) in
        let a = accepted_as_list m s to.keys to.bits to.n (back_gives e).is-list in
        let count : to.n ≡ b.n = ap (λ r. r.n) back.result in
        record {
          count = count;
          fits =
              let in_keys = a.in_keys in
              let in-bits = a.in-bits in
              omega arith;
          records = back.records;
          counted = fill_leaves m s to.keys to.bits to.n lent.summary f;
          log = log;
          used = refl;
          force = refl;
        }

-- the first places of a slice, laid over another one that has as many, stand first there
laid_first : (n : ℕ) (slice other : List ℕ) → n ≤ length slice → take n (over (take n slice) other) ≡ take n slice
laid_first n slice other h = take_at (take n slice) (drop (length (take n slice)) other) n (length-take-le n slice h)

-- and the other one keeps its length
laid-length : (n : ℕ) (slice other : List ℕ) → n ≤ length slice → n ≤ length other → length (over (take n slice) other) ≡ length other
laid-length n slice other h j = over-length (take n slice) other (let e = length-take-le n slice h in omega arith)

-- so the first records of a log are brought along by laying them over slices that hold them
laid_brings : (log_keys log_values : List ℕ) (brought : ℕ) (log_keys' log_values' : List ℕ) → brought ≤ room log_keys log_values → brought ≤ room log_keys' log_values'
    → LogBrought log_keys log_values brought (over (take brought log_keys) log_keys') (over (take brought log_values) log_values')
laid_brings log_keys log_values brought log_keys' log_values' h j =
    let in_keys = laid-length brought log_keys log_keys' (omega arith) (omega arith) in
    let in_values = laid-length brought log_values log_values' (omega arith) (omega arith) in
    record {
      fits = omega arith;
      records = ap₂ paired (laid_first brought log_keys log_keys' (omega arith)) (laid_first brought log_values log_values' (omega arith));
    }

-- of a list at good settings, where there is room, the three calls are accepted and lead where a rest may lead
pub file_rests : (m s : ℕ) (b : Buffers) (brought : ℕ) (buffer : List ℕ) (lent : LentSlices) → GivesList m s b.keys b.bits b.n
    → brought ≤ room b.log_keys b.log_values
    → RoomToRest m s b brought buffer lent
    → RestsByFile m s b brought buffer lent
file_rests m s b brought buffer lent given log h =
    let kept = store_accepts m s b.keys b.bits b.n buffer (record { settings = given.settings; listed = given.is-list; roomy = h.in_buffer }) in
    let to : Buffers = leads_to m s b brought buffer lent in
    let passed = load_passes m s b buffer kept lent.keys lent.bits h.in_list in
    let filled =
    fill_accepts m s to.keys to.bits to.n lent.summary (back_gives m s b buffer kept lent to.log_keys to.log_values brought passed) h.in_summary in
    let fits = h.in_log in
    record {
      stored = kept;
      loaded = (load_back m s b buffer kept lent.keys lent.bits h.in_list).result;
      filled = filled;
      rested =
          accepted_rests m s b buffer kept lent to.log_keys to.log_values brought passed filled
          (laid_brings b.log_keys b.log_values brought lent.log_keys lent.log_values log fits);
      list-room = load_keeps_room (file_from m s b buffer) lent.keys lent.bits passed;
      log-room =
          ap₂ min
          (laid-length brought b.log_keys lent.log_keys (omega arith) (omega arith))
          (laid-length brought b.log_values lent.log_values (omega arith) (omega arith));
    }

-- a log that passes its check is there, and no more is in force than there is
log_there : (m s : ℕ) (b : Buffers) → no_log m s b.log_keys b.log_values b.used b.in_force ≡ false
    → (b.used ≤ room b.log_keys b.log_values) × (b.in_force ≤ b.used)
unfolding no_log
log_there m s b e =
    let there : Bool = leb b.used (room b.log_keys b.log_values) in
    let within : Bool = leb b.in_force b.used in
    let front : Bool = is_sound m s (records_of b.log_keys b.log_values b.in_force) in
    let back : Bool = is_sound m s (to_redo b.log_keys b.log_values b.used b.in_force) in
    let both = and_left (there && within) front (and_left (there && within && front) back (not-false _ e)) in
    (leb-true _ _ (and_left there within both), leb-true _ _ (and_right there within both))

module _ {m s : ℕ} {raster : List ℕ} (t : Reached) (x : AsLeft m s raster t) (buffer : List ℕ) (lent : LentSlices) where
  -- the settings are good, for a fresh build is accepted
  left_gives : GivesList m s t.buffers.keys t.buffers.bits t.buffers.n
  left_gives =
      record {
        settings = (build_passed m s (raster_left m raster t.paints) t.lent.keys t.lent.bits t.lent.summary x.fresh).settings;
        is-list = x.is-list;
      }

  -- wherever a history stands, a rest by a file is accepted where there is room, with all records of the log
  pub file_resting : RoomToRest m s t.buffers t.buffers.used buffer lent → RestsByFile m s t.buffers t.buffers.used buffer lent
  file_resting h = file_rests m s t.buffers t.buffers.used buffer lent left_gives (log_there m s t.buffers x.is_log).0 h

  -- or with those in force
  pub file_resting_short : RoomToRest m s t.buffers t.buffers.in_force buffer lent → RestsByFile m s t.buffers t.buffers.in_force buffer lent
  file_resting_short h =
      let both = log_there m s t.buffers x.is_log in
      file_rests m s t.buffers t.buffers.in_force buffer lent left_gives (omega arith) h
