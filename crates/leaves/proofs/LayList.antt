-- The list of a whole delivery: the root is ready, and the records below it with its own at place 0 are the list. Rests on Delivery and on build's
-- laws of writing.
use Prim.Native.Nat.{ℕ, ◌≤◌}
use mathlib.Core.Path.{◌≡◌, refl, sym, ◌∙◌, ap}
use mathlib.Core.Bool.{true, false}
use mathlib.Core.List.{List, ◌∷◌, map}
use native.Mathlib.Omega.{arith}
use lib.ListN.{length, set, length-map}
use lib.Seq.{sets}
use Rattle.keys.specs.Span.{root_span}
use Rattle.keys.specs.declared.span.KeySpan.{KeySpan}
use Rattle.keys.proofs.Powers.{five_le}
use Rattle.definitions.specs.Picture.{Picture}
use Rattle.definitions.specs.Bits.{bits_of}
use Rattle.definitions.specs.List.{Record, record_of, list_of, list_of_picture, keys_of, values_of}
use Rattle.definitions.specs.Read.{room, paired}
use Rattle.definitions.specs.Leaves.{are_leaves, picture_of_leaves}
use Rattle.definitions.specs.Buffer.{over}
use Rattle.definitions.specs.Refusal.{bad_settings, bad_pixel}
use Rattle.laws.proofs.Buffer.{sets_over}
use Rattle.list.proofs.Tests.{good_settings}
use Rattle.build.specs.BuildBlocks.{below, Written}
use Rattle.build.proofs.RasterTests.{pixels_below}
use Rattle.build.proofs.WriteBlock.{sets_front}
use Rattle.build.proofs.WrittenBlock.{own_first}
use Rattle.leaves.specs.Delivered.{LeavesAsked, LayAsked, BlockLaid}
use Rattle.leaves.specs.declared.lay.Lain.{Lain}
use Rattle.leaves.proofs.Delivery.{leaves_to, leaves_parted}

-- the root is asked for by its step
unfoldable pub root_asked : (m s : ℕ) (keys features : List ℕ) → bad_settings m s ≡ false → length features ≡ length keys → bad_pixel s features ≡ false
    → LeavesAsked keys features (root_span m)
root_asked m s keys features good same below =
    let g = good_settings m s good in
    record {
      height = m;
      deep = g.deep;
      step_is = refl;
      key_fits = let u = five_le 10 g.deep in omega arith;
      same = same;
      few = λ i. let h = pixels_below s features g.some below i in let j = g.few in omega arith;
    }

-- one of the two numbers of each record: those below the root and the root's own at place 0 are the whole list's
module _ (f : Record → ℕ) where
  root_run : (p : Picture) (m x : ℕ) (l l₁ : List ℕ) → length (list_of p m 0 0 0) ≤ length l
      → x ≡ f (record_of 0 (bits_of p m 0 0))
      → l₁ ≡ sets l 1 (map f (below p m 0 0 0))
      → set l₁ 0 x ≡ over (map f (list_of p m 0 0 0)) l
  root_run p m x l l₁ h e g =
      ap (λ q. set q 0 x) g
      ∙ sets_front (map f (below p m 0 0 0)) l 0 x
      ∙ ap (λ y. sets l 0 (y ∷ map f (below p m 0 0 0))) e
      ∙ ap (sets l 0) (sym (ap (map f) (own_first p m 0 0 0)))
      ∙ sets_over (map f (list_of p m 0 0 0)) l (rw (length-map (list_of p m 0 0 0) f) h)

module _ (m s : ℕ) (leafKeys leafFeatures keys bits : List ℕ) (same : length leafFeatures ≡ length leafKeys)
    (are : are_leaves m s leafKeys leafFeatures ≡ true) where
  abbrev pub delivered : Picture
  delivered = picture_of_leaves m (paired leafKeys leafFeatures)

  pub root_ready : bad_settings m s ≡ false → length (list_of_picture m delivered) ≤ room keys bits → {span : KeySpan} → span ≡ root_span m → LayAsked leafKeys leafFeatures span 0 0 keys bits
  unfolding root_asked
  root_ready good fits e = rw e (record {
    asked = root_asked m s leafKeys leafFeatures good same (leaves_to m s leafKeys leafFeatures are).below;
    picture = delivered;
    row = 0;
    column = 0;
    parted = leaves_parted m s leafKeys leafFeatures same (leaves_to m s leafKeys leafFeatures are);
    fits = record {
      key_fits = let u = five_le 10 (good_settings m s good).deep in omega arith;
      place_fits = omega arith;
      keys_room = λ t. omega arith;
      bits_room = λ t. omega arith;
    };
  })

  module _ {span : KeySpan} {keys' bits' : List ℕ} {x : Lain} (e : span ≡ root_span m) (l : BlockLaid leafKeys leafFeatures span 0 0 keys bits keys' bits' x)
      (fits : length (list_of_picture m delivered) ≤ room keys bits) where
    root_laid : BlockLaid leafKeys leafFeatures (root_span m) 0 0 keys bits keys' bits' x
    root_laid = rw e at l

    pub root_written : Written delivered m 0 0 0 0 keys bits keys' bits' x.below.bits x.below.next
    root_written = root_laid.written delivered m 0 0 refl (leaves_parted m s leafKeys leafFeatures same (leaves_to m s leafKeys leafFeatures are))

    pub root_keys : set keys' 0 0 ≡ over (keys_of (list_of_picture m delivered)) keys
    root_keys = root_run (λ x. x.key) delivered m 0 keys keys' (omega arith) refl root_written.keys_are

    pub root_bits : set bits' 0 x.below.bits ≡ over (values_of (list_of_picture m delivered)) bits
    root_bits = root_run (λ x. x.value) delivered m x.below.bits bits bits' (omega arith) root_written.union_is root_written.bits_are
