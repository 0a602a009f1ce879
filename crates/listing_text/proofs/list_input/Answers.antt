-- `list_input`: it refuses by itself, or prints what build refuses, or prints the listing of what build made. Rests on Program, Listed and Records.
use Prim.Native.Nat.{ℕ, ◌-◌, ◌≤◌, ◌<◌}
use mathlib.Core.List.{List}
use mathlib.Core.Path.{◌≡◌, refl, sym}
use native.Mathlib.Omega.{arith}
use lib.ListN.{length, take, drop}
use Rattle.definitions.specs.Listing.{listing_refusal, m_of, s_of, largest_resolution}
use Rattle.listing_text.proofs.Listed.{refused_short, refused_large}
use Rattle.definitions.proofs.Refused.{refusal_some}
use Rattle.listing_text.proofs.Records.{keys_part, bits_part, parts_hold, parts_are}
use Rattle.listing_text.proofs.Program.{raster_part, refusal_room, refuses, ProgramReads, program_told, build_refusal_room, build-refuses, records, listing_room, build_accepts}
use Rattle.listing_text.proofs.list_input.Goals as goal

-- what was read of the input
reads : (input : List ℕ) {m s : ℕ} → 2 ≤ length input → m ≡ m_of input → s ≡ s_of input → m ≤ largest_resolution
    → ProgramReads input m s (take (length input - 2) (drop 2 input))
reads input two e f small = record { two = two; m_is = e; s_is = f; raster_is = raster_part input; small = small }

-- m is above 5
large : (input : List ℕ) {m : ℕ} → 2 ≤ length input → m ≡ m_of input → largest_resolution < m → listing_refusal input ≡ 1
large input two e h = refused_large input two (omega arith)

pub put_refusal-requires : goal.put_refusal-requires
put_refusal-requires c = refusal_room c.requires 1 (omega arith)

pub returns-then-input-lt2 : goal.returns-then-input-lt2
returns-then-input-lt2 c = refuses c.requires (refused_short _ c.if-input-lt2.true) c.put_refusal.ensures

pub put_refusal-requires-then-m-gt-LARGEST_RESOLUTION : goal.put_refusal-requires-then-m-gt-LARGEST_RESOLUTION
put_refusal-requires-then-m-gt-LARGEST_RESOLUTION c = refusal_room c.requires 1 (omega arith)

pub returns-then-m-gt-LARGEST_RESOLUTION : goal.returns-then-m-gt-LARGEST_RESOLUTION
returns-then-m-gt-LARGEST_RESOLUTION c = refuses c.requires (large c.args.input.now c.if-input-lt2.false c.from-m.ensures c.if-m-gt-LARGEST_RESOLUTION.true) c.put_refusal-then-m-gt-LARGEST_RESOLUTION.ensures

pub slice_bounds-put_listing-end : goal.slice_bounds-put_listing-end
slice_bounds-put_listing-end c =
    let made = records c.requires (reads c.args.input.now c.if-input-lt2.false c.from-m.ensures c.from-s.ensures c.if-m-gt-LARGEST_RESOLUTION.false) (program_told c.in-Ok.ensures.value c.in-Ok.ensures.keys_after c.in-Ok.ensures.bits_after) refl in
    made.keys_hold

pub slice_bounds-put_listing-end-in-Ok : goal.slice_bounds-put_listing-end-in-Ok
slice_bounds-put_listing-end-in-Ok c =
    let made = records c.requires (reads c.args.input.now c.if-input-lt2.false c.from-m.ensures c.from-s.ensures c.if-m-gt-LARGEST_RESOLUTION.false) (program_told c.in-Ok.ensures.value c.in-Ok.ensures.keys_after c.in-Ok.ensures.bits_after) refl in
    sym (keys_part made)

pub slice_bounds-put_listing-end-in-Ok-2 : goal.slice_bounds-put_listing-end-in-Ok-2
slice_bounds-put_listing-end-in-Ok-2 c =
    let made = records c.requires (reads c.args.input.now c.if-input-lt2.false c.from-m.ensures c.from-s.ensures c.if-m-gt-LARGEST_RESOLUTION.false) (program_told c.in-Ok.ensures.value c.in-Ok.ensures.keys_after c.in-Ok.ensures.bits_after) refl in
    made.bits_hold

pub slice_bounds-put_listing-end-in-Ok-3 : goal.slice_bounds-put_listing-end-in-Ok-3
slice_bounds-put_listing-end-in-Ok-3 c =
    let made = records c.requires (reads c.args.input.now c.if-input-lt2.false c.from-m.ensures c.from-s.ensures c.if-m-gt-LARGEST_RESOLUTION.false) (program_told c.in-Ok.ensures.value c.in-Ok.ensures.keys_after c.in-Ok.ensures.bits_after) refl in
    sym (bits_part made)

pub put_listing-requires : goal.put_listing-requires
put_listing-requires c =
    let made = records c.requires (reads c.args.input.now c.if-input-lt2.false c.from-m.ensures c.from-s.ensures c.if-m-gt-LARGEST_RESOLUTION.false) (program_told c.in-Ok.ensures.value c.in-Ok.ensures.keys_after c.in-Ok.ensures.bits_after) refl in
    (parts_hold made, rw (parts_are made) (listing_room c.requires (reads c.args.input.now c.if-input-lt2.false c.from-m.ensures c.from-s.ensures c.if-m-gt-LARGEST_RESOLUTION.false) (program_told c.in-Ok.ensures.value c.in-Ok.ensures.keys_after c.in-Ok.ensures.bits_after) refl))

pub returns-in-Ok : goal.returns-in-Ok
returns-in-Ok c =
    let made = records c.requires (reads c.args.input.now c.if-input-lt2.false c.from-m.ensures c.from-s.ensures c.if-m-gt-LARGEST_RESOLUTION.false) (program_told c.in-Ok.ensures.value c.in-Ok.ensures.keys_after c.in-Ok.ensures.bits_after) refl in
    build_accepts c.requires (reads c.args.input.now c.if-input-lt2.false c.from-m.ensures c.from-s.ensures c.if-m-gt-LARGEST_RESOLUTION.false) (program_told c.in-Ok.ensures.value c.in-Ok.ensures.keys_after c.in-Ok.ensures.bits_after) refl (rw (parts_are made) at c.put_listing.ensures)

pub put_refusal-requires-in-Err : goal.put_refusal-requires-in-Err
put_refusal-requires-in-Err c = build_refusal_room c.requires (reads c.args.input.now c.if-input-lt2.false c.from-m.ensures c.from-s.ensures c.if-m-gt-LARGEST_RESOLUTION.false) (program_told c.in-Err.ensures.value c.in-Err.ensures.keys_after c.in-Err.ensures.bits_after)

pub returns-in-Err : goal.returns-in-Err
returns-in-Err c = build-refuses c.requires (reads c.args.input.now c.if-input-lt2.false c.from-m.ensures c.from-s.ensures c.if-m-gt-LARGEST_RESOLUTION.false) (program_told c.in-Err.ensures.value c.in-Err.ensures.keys_after c.in-Err.ensures.bits_after) (refusal_some _) c.put_refusal-in-Err.ensures
