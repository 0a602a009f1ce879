-- A function was lent a slice that it may write, lends it on to a call, and has it back when the call's lifetime has ended: what it holds meanwhile, and
-- the step at each end. Nothing here is about rules; Lent and Slices put it to use. Rests on the logic's laws of borrowed slices alone.
use mathlib.Core.Path.{◌≡◌, sym, ap, subst}
use mathlib.Core.List.{List, [], ◌∷◌}
use Prim.Native.Nat.{ℕ}
use lib.ListN.{length}
use seplogic.Ra.Ura.{Ura}
use base.Fraction.{full_share}
use mir.Syntax.{Lifetime}
use mir.Val.{Val}
use base.Logic.{ent, sep, ex}
use base.Fml.{Lft, GName, Share, Fml, fsep, flft, fdead, fobs, fauth, flent, fobor}
use types.Logic.{Logic, sem}
use types.Kit.{‵, ◌⊛◌, some, later, ◌$◌, ◌∵◌, !, qed, move, use1, use3, drop, split, pick, fsplit, fjoin, frame, await, updating, now as at_once, show, done}
use types.SemTy.{cells, Arr}
use denote.RattleType.{RattleType}
use denote.Shadow.{pure_l, pure_i}
use denote.Memory.{mem}
use denote.Ref.{MutBor}
use denote.Slice.{slice_val, MutSlice, heres, Room, finally, mut_slice_at, coded_holeys}
use denote.Lend.{Held, lends_slice, slice_back}
use denote.Index.{row, whole_out, whole_in, opens_slice, closes_slice}

-- the slice of elements R at a place of memory, borrowed for κ under the name own; a call has it for κ'
module _ (R : RattleType) (κ κ' : Lft) (q : Share) (own : GName) (block offset : ℕ) where
  -- the slice with its present content, under a name
  abbrev slice_as : GName → List R.Denot → MutBor (List R.Denot)
  slice_as name content = record { ref_ptr = (block, offset); ghost_name = name; now = content }

  -- the right to what the call gives back
  abbrev owed : GName → ℕ → Fml
  owed name places = flent κ' (Held R places block offset name)

  -- the borrow of our own, opened
  abbrev opened : ℕ → Fml
  opened places = fobor κ q (Held R places block offset own)

  -- both halves of our own name's ghost variable
  abbrev halves : List R.Denot → Fml
  halves content = fsep (fobs own ((coded_holeys R).code (heres R content))) (fauth own ((coded_holeys R).code (heres R content)))

  -- what is held while the call has the slice
  abbrev pub HeldMeanwhile : GName → List R.Denot → Fml
  HeldMeanwhile name content = fsep (owed name (length content)) (fsep (opened (length content)) (halves content))

  module _ {M : Type 1} {𝓤 : Ura M} (𝓛 : Logic 𝓤) (ours theirs : Lifetime) (content : List R.Denot) where
    -- the slice as a value: its place and its length
    open 𝓛 use {H, A}

    abbrev value : List Val
    value = slice_val (block, offset) (length content) ∷ []

    abbrev as_ours : List R.Denot → Fml
    as_ours now = (MutSlice ours κ R).own_val (slice_as own now) value

    abbrev as_theirs : GName → Fml
    as_theirs name = (MutSlice theirs κ' R).own_val (slice_as name content) value

    -- lending on: with a share of our lifetime the call gets the slice under a new name, and we keep the rest
    pub lend_on : ent 𝓤 (sep 𝓤 (sem 𝓛 (as_ours content)) (A.lft κ q))
        (H.⇛ (ex 𝓤 (λ (name : GName). sep 𝓤 (sem 𝓛 (as_theirs name)) (sem 𝓛 (HeldMeanwhile name content)))))
    lend_on =
        qed 𝓛 (‵ (as_ours content) ∷ ‵ (flft κ q) ∷ []) ∵ updating ! $ fsplit ! $
        pure_l ! (mut_slice_at R (slice_as own content) value) (λ p. fsplit ! $
        opens_slice ! tt R content block offset $
        use1 𝓛 (‵ (cells (mem R) content block offset)) (whole_in 𝓛 R content block offset) $
        use1 𝓛 (later (some (λ (name : GName). ‵ (as_theirs name) ⊛ ‵ (owed name (length content)))))
        (lends_slice 𝓛 R theirs κ' content block offset p.1) $
        await ! tt $ pick ! (λ name. split ! $
        -- in hand now: their slice; what is owed; the opened borrow; the two halves
        at_once ! $ show ! (λ (n : GName). sep 𝓤 (sem 𝓛 (as_theirs n)) (sem 𝓛 (HeldMeanwhile n content))) name $ frame ! $
        move ! (2 ∷ 3 ∷ []) $ fjoin ! $ move ! (2 ∷ 0 ∷ []) $ fjoin ! $ move ! (1 ∷ 0 ∷ []) $ fjoin ! $ done !))

    -- having it back: their lifetime is over, and the slice is ours again with what the call left in it, of the same length
    pub get_back : (name : GName) (left : List R.Denot) → Room R (length content) → length left ≡ length content
        → ent 𝓤 (sep 𝓤 (A.dead κ') (sep 𝓤 (sem 𝓛 (HeldMeanwhile name content)) (sem 𝓛 (finally R name left))))
        (H.⇛ (sep 𝓤 (sem 𝓛 (as_ours left)) (A.lft κ q)))
    get_back name left room same =
        qed 𝓛 (‵ (fdead κ') ∷ ‵ (HeldMeanwhile name content) ∷ ‵ (finally R name left) ∷ []) ∵ updating ! $
        move ! (1 ∷ []) $ fsplit ! $ move ! (2 ∷ 0 ∷ 3 ∷ []) $
        use3 𝓛 (later (‵ ((Arr (mem R) (length content)).own_at left block offset))) (slice_back 𝓛 R κ' name left (length content) block offset) $
        await ! tt $ fsplit ! $ drop ! $
        use1 𝓛 (‵ (row R full_share left block offset)) (whole_out 𝓛 R left block offset) $
        move ! (1 ∷ []) $ fsplit ! $ move ! (1 ∷ []) $ fsplit ! $ move ! (3 ∷ 2 ∷ 0 ∷ 1 ∷ []) $
        closes_slice ! tt R content left same block offset $ at_once ! $ fjoin ! $
        pure_i ! (mut_slice_at R (slice_as own left) value) (tt, (tt, tt))
        (ap (λ (places : ℕ). slice_val (block, offset) places ∷ []) (sym same), subst (Room R) (sym same) room) $
        fjoin ! $ done !
