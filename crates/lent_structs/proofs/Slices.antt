-- A lent slice as a function is passed it, and what is owned of it: of a `&[T]`, which may be copied, and of a `&mut [T]`, which is lent again for a call
-- and comes back. It says nothing of the crate, and rests on Lent.
--     Slice R              a lent slice: its lifetime, the share of the lifetime's token, what it is at entry, and that its elements have room
--     token, val           the token, and the one machine value.        typed_slice      the value has a slice's type
--     shared               what a `&[T]` owns.        copied       it is had twice
--     mutable ys           what a `&mut [T]` owns when its elements are ys
--     lent ν δ ys, kept    what it owns once it is lent again for the lifetime ν under the name δ, and what the lender keeps meanwhile
--     lends, gets_back     the two steps: it is lent again, for a lifetime made for the call; the lifetime ends, and it comes back with other elements
use mathlib.Core.Path.{◌≡◌}
use Prim.Native.Nat.{ℕ}
use mathlib.Core.List.{List, [], ◌∷◌}
use lib.ListN.{length}
use seplogic.Ra.Ura.{Ura}
use base.Fraction.{full_share}
use package.mir.Syntax.{named}
use package.mir.Val.{Val, WT}
use base.Fml.{Lft, Share, GName, Fml, flft}
use types.Logic.{Logic}
use types.Kit.{Item, ‵, ◌⊛◌, some, later, Goal, Soaks, Seq, Step, step, ◌$◌, move, use1, use2, use3, split, pick, await}
use types.Tokens.{lft_new, lft_end}
use denote.RattleType.{RattleType, RowLaws}
use denote.Ref.{Bor, MutBor}
use denote.Slice.{slice_val, MutSlice, ShrSlice, Room, finally, shr_slice_copy}
use Rattle.lent_structs.proofs.LentOn.{HeldMeanwhile}
use Rattle.lent_structs.proofs.Lent.{lend, back}

pub record LentSlice (R : RattleType) : Type 0 where
  pub κ : Lft
  pub q : Share
  pub x : Bor (List R.Denot)
  pub name : GName
  pub room : Room R (length x.now)

module _ {R : RattleType} (s : LentSlice R) where
  abbrev pub val : Val
  val = slice_val s.x.ref_ptr (length s.x.now)

  -- it has the type of a slice, and its count fits
  pub typed_slice : Unit {0} × WT val
  typed_slice = (tt, (tt, (record { fits = s.room.0 }, tt)))

  abbrev pub token : Fml
  token = flft s.κ s.q

  abbrev pub shared : Fml
  shared = (ShrSlice (named 0) s.κ R).own_val s.x (val ∷ [])

  abbrev pub at_list : GName → List R.Denot → MutBor (List R.Denot)
  at_list δ ys = record { ref_ptr = s.x.ref_ptr; ghost_name = δ; now = ys }

  abbrev pub mutable : List R.Denot → Fml
  mutable ys = (MutSlice (named 0) s.κ R).own_val (at_list s.name ys) (val ∷ [])

  abbrev pub lent : ℕ → GName → List R.Denot → Fml
  lent ν δ ys = (MutSlice (named 0) (ν ∷ []) R).own_val (at_list δ ys) (val ∷ [])

  abbrev pub kept : ℕ → GName → List R.Denot → Fml
  kept ν δ ys = HeldMeanwhile R s.κ (ν ∷ []) s.q s.name s.x.ref_ptr.0 s.x.ref_ptr.1 δ ys

  module _ {M : Type 1} {𝓤 : Ura M} {K : Type 0} (𝓛 : Logic 𝓤) {Γ : List (Item 𝓤)} {G : Goal 𝓤 𝓛.H} where
    pub copied : RowLaws R → K → Step K 𝓛 (‵ shared ∷ ‵ shared ∷ Γ) G (‵ shared ∷ Γ) G
    copied L t = step (λ z. use1 𝓛 (‵ shared ⊛ ‵ shared) ((shr_slice_copy 𝓛 (named 0) s.κ R L).twice s.x (val ∷ [])) $ split t $ z)

    pub lends : K → Soaks G → (ys : List R.Denot) → length ys ≡ length s.x.now
        → ((ν : ℕ) (δ : GName) → Seq K 𝓛 (‵ (flft (ν ∷ []) full_share) ∷ ‵ (lent ν δ ys) ∷ ‵ (kept ν δ ys) ∷ Γ) G) → Seq K 𝓛 (‵ (mutable ys) ∷ ‵ token ∷ Γ) G
    lends t soaks ys e k =
        lft_new t soaks (λ ν. move t (1 ∷ 2 ∷ []) $ use2 𝓛 (later (some (λ (δ : GName). ‵ (lent ν δ ys) ⊛ ‵ (kept ν δ ys))))
        (lend 𝓛 R s.κ (ν ∷ []) s.q s.name s.x.ref_ptr.0 s.x.ref_ptr.1 (named 0) (named 0) (length s.x.now) ys e) $
        await t soaks $ pick t (λ δ. split t $ move t (2 ∷ []) $ k ν δ))

    pub gets_back : K → Soaks G → (ν : ℕ) (δ : GName) (ys zs : List R.Denot) → length ys ≡ length s.x.now → length zs ≡ length ys
        → Step K 𝓛 (‵ (mutable zs) ∷ ‵ token ∷ Γ) G (‵ (flft (ν ∷ []) full_share) ∷ ‵ (kept ν δ ys) ∷ ‵ (finally R δ zs) ∷ Γ) G
    gets_back t soaks ν δ ys zs e e' = step (λ z.
        lft_end t soaks $ use3 𝓛 (later (‵ (mutable zs) ⊛ ‵ token))
        (back 𝓛 R s.κ (ν ∷ []) s.q s.name s.x.ref_ptr.0 s.x.ref_ptr.1 (named 0) (named 0) (length s.x.now) δ ys zs s.room e e') $
        await t soaks $ split t $ z)
