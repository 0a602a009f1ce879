-- A `&mut [T]` that is lent again for a call and comes back, where the list may have changed since entry: the machine's count stays the length at
-- entry. Rests on LentOn.
use mathlib.Core.Path.{◌≡◌, sym, subst}
use Prim.Native.Nat.{ℕ}
use mathlib.Core.List.{List, [], ◌∷◌}
use lib.ListN.{length}
use seplogic.Ra.Ura.{Ura}
use mir.Syntax.{Lifetime}
use mir.Val.{Val}
use base.Logic.{ent, sep, ex}
use base.Fml.{Lft, GName, Share}
use types.Logic.{Logic, sem}
use denote.RattleType.{RattleType}
use denote.Ref.{MutBor}
use denote.Slice.{slice_val, MutSlice, Room, finally}
use Rattle.lent_structs.proofs.LentOn.{HeldMeanwhile, lend_on, get_back}

module _ {M : Type 1} {𝓤 : Ura M} (𝓛 : Logic 𝓤) (R : RattleType) (κ κ' : Lft) (q : Share) (γ : GName) (b o : ℕ) (ℓ ℓ' : Lifetime) (n : ℕ) where
  open 𝓛 use {H, A}

  abbrev at_list : GName → List R.Denot → MutBor (List R.Denot)
  at_list δ ys = record { ref_ptr = (b, o); ghost_name = δ; now = ys }

  abbrev vals : ℕ → List Val
  vals m = slice_val (b, o) m ∷ []

  pub lend : (ys : List R.Denot) → length ys ≡ n
      → ent 𝓤 (sep 𝓤 (sem 𝓛 ((MutSlice ℓ κ R).own_val (at_list γ ys) (vals n))) (A.lft κ q))
      (H.⇛ (ex 𝓤 (λ (γ₁ : GName). sep 𝓤 (sem 𝓛 ((MutSlice ℓ' κ' R).own_val (at_list γ₁ ys) (vals n))) (sem 𝓛 (HeldMeanwhile R κ κ' q γ b o γ₁ ys)))))
  lend ys e =
      subst
      (λ (m : ℕ). ent 𝓤 (sep 𝓤 (sem 𝓛 ((MutSlice ℓ κ R).own_val (at_list γ ys) (vals m))) (A.lft κ q))
      (H.⇛ (ex 𝓤 (λ (γ₁ : GName). sep 𝓤 (sem 𝓛 ((MutSlice ℓ' κ' R).own_val (at_list γ₁ ys) (vals m))) (sem 𝓛 (HeldMeanwhile R κ κ' q γ b o γ₁ ys))))))
      e (lend_on R κ κ' q γ b o 𝓛 ℓ ℓ' ys)

  pub back : (γ₁ : GName) (ys zs : List R.Denot) → Room R n → length ys ≡ n → length zs ≡ length ys
      → ent 𝓤 (sep 𝓤 (A.dead κ') (sep 𝓤 (sem 𝓛 (HeldMeanwhile R κ κ' q γ b o γ₁ ys)) (sem 𝓛 (finally R γ₁ zs))))
      (H.⇛ (sep 𝓤 (sem 𝓛 ((MutSlice ℓ κ R).own_val (at_list γ zs) (vals n))) (A.lft κ q)))
  back γ₁ ys zs room e l =
      subst
      (λ (m : ℕ). ent 𝓤 (sep 𝓤 (A.dead κ') (sep 𝓤 (sem 𝓛 (HeldMeanwhile R κ κ' q γ b o γ₁ ys)) (sem 𝓛 (finally R γ₁ zs))))
      (H.⇛ (sep 𝓤 (sem 𝓛 ((MutSlice ℓ κ R).own_val (at_list γ zs) (vals m))) (A.lft κ q))))
      e (get_back R κ κ' q γ b o 𝓛 ℓ ℓ' ys γ₁ zs (subst (Room R) (sym e) room) l)
