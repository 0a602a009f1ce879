-- A call that is lent two `&mut [u32]` for its time and returns a struct: it gives both back, with the elements that the callee says. It says nothing of
-- the crate, and rests on Slices and Calling.
--     TwoGiven             what such a call gives: the struct, what the two slices hold, as many elements as before, and what the callee says of the three
--     answers l l'         what is owned of the two slices, with their tokens, when they hold l and l'
--     Lending              what there is when they are lent on for the call
--     two_lent             the law: its contract has so many parameters before the two slices, and one after them
use mathlib.Core.Path.{◌≡◌, ap, ◌∙◌}
use Prim.Native.Nat.{ℕ, zero, suc}
use mathlib.Core.List.{List, [], ◌∷◌}
use lib.ListN.{length}
use seplogic.Ra.Ura.{Ura}
use base.Fraction.{full_share}
use package.mir.Syntax.{Callee}
use package.mir.Val.{Val}
use base.Logic.{SProp, ent, sep, guard}
use base.Fml.{GName, Fml, ftrue, fsep, feq, flft}
use prog.Wp.{Calls}
use types.Logic.{Logic}
use contract.Monad.{fact}
use sound.WpLaws.{FmC}
use types.Kit.{Item, ‵, raw, ◌⊛◌, some, later, mean, ⋆, Goal, Step, step, ◌$◌, ◌∵◌, !, qed, by, move, keep, drop, group, use1, split, pick, fsplit, feq_l, await, updating, now as at_once, show, check, done}
use denote.Builtin.{u32}
use denote.Laws.{Is, shows}
use denote.Slice.{finally}
use denote.Steps.{only, facts, heard}
use denote.Struct.Declared.{Declared, row}
use denote.Struct.Laws as LL
use Rattle.lent_structs.proofs.Chains.{chain, chain_after, apart, together}
use Rattle.lent_structs.proofs.Slices.{LentSlice, token, mutable, lent, kept, lends, gets_back}
use Rattle.lent_structs.proofs.Calling.{gave, Gives}

pub record TwoGiven (T : Declared) (L : LL.Laws T) (one two : LentSlice u32) (φ : T.D → List ℕ → List ℕ → Type 0) : Type 0 where
  pub result : T.D
  pub first : List ℕ
  pub second : List ℕ
  pub told : φ result first second
  pub first_length : length first ≡ length one.x.now
  pub second_length : length second ≡ length two.x.now
  pub fits : Is (row T) result (LL.vals T L result)

abbrev Last : GName → List ℕ → List ℕ → Fml
Last δ l z = fsep (finally u32 δ z) (feq ℕ (length z) (length l))

module _ {M : Type 1} {𝓤 : Ura M} {𝓛 : Logic 𝓤} {K : Type 0} {Γ : List (Item 𝓤)} {G : Goal 𝓤 𝓛.H} where
  -- the parameters of which there is nothing are passed over
  passes_over : K → (k : ℕ) {F : Fml} → Step K 𝓛 (‵ F ∷ Γ) G (‵ (chain_after k F) ∷ Γ) G
  passes_over t zero = step (λ s. s)
  passes_over t (suc k) = step (λ s. fsplit t $ drop t $ passes_over t k $ s)

module _ (one two : LentSlice u32) where
  abbrev pub each_answer : List ℕ → List ℕ → List Fml
  each_answer l l' = mutable one l ∷ token one ∷ mutable two l' ∷ token two ∷ []

  abbrev pub answers : List ℕ → List ℕ → Fml
  answers l l' = chain (each_answer l l')

  -- P, which the call takes beside the two slices, the tokens of ν and ν', and the slices
  abbrev pub Lending : {M : Type 1} (𝓤 : Ura M) (P : Item 𝓤) (l l' : List ℕ) (ν ν' : ℕ) (δ δ' : GName) → List (Item 𝓤)
  Lending 𝓤 P l l' ν ν' δ δ' = P ∷ ‵ (flft (ν ∷ []) full_share) ∷ ‵ (flft (ν' ∷ []) full_share) ∷ ‵ (lent one ν δ l) ∷ ‵ (lent two ν' δ' l') ∷ []

  -- Tk ν ν' are the tokens that the contract gives back when the slices are lent for ν and ν', and B is what they are but for those of ν and ν'. The
  -- contract binds Bound at exit, of which first_of and second_of are the last elements; k parameters stand before the two slices.
  module _ {M : Type 1} {𝓤 : Ura M} (𝓛 : Logic 𝓤) (C : Calls 𝓤 𝓛.H) (fm : FmC 𝓤 𝓛.H 𝓛.laws C) (f : Callee) (vs : List Val)
      (T : Declared) (L : LL.Laws T) (φ : T.D → List ℕ → List ℕ → Type 0) (k : ℕ) (Bound : Type 0) (first_of second_of : Bound → List ℕ)
      (P B : Item 𝓤) (Tk : ℕ → ℕ → SProp 𝓤) (l l' : List ℕ) (len : length l ≡ length one.x.now) (len' : length l' ≡ length two.x.now) where
    abbrev each_last : GName → GName → Bound → List Fml
    each_last δ δ' zs = Last δ l (first_of zs) ∷ Last δ' l' (second_of zs) ∷ ftrue ∷ []

    abbrev pub post : ℕ → ℕ → GName → GName → Val → Item 𝓤
    post ν ν' δ δ' w = later (some (λ (r : T.D). (raw (Tk ν ν') ⊛ ‵ ((row T).own_val r (w ∷ [])))
        ⊛ some (λ (zs : Bound). ‵ (chain_after k (chain (each_last δ δ' zs))) ⊛ raw (fact 𝓤 (φ r (first_of zs) (second_of zs))))))

    abbrev Result : Type 0
    Result = TwoGiven T L one two φ

    abbrev val : Result → Val
    val x = LL.val T L x.result

    abbrev back : Result → Item 𝓤
    back x = B ⊛ ‵ (answers x.first x.second)

    abbrev Kept : ℕ → ℕ → GName → GName → List (Item 𝓤)
    Kept ν ν' δ δ' = ‵ (kept one ν δ l) ∷ ‵ (kept two ν' δ' l') ∷ []

    gives_back : ((ν ν' : ℕ) → ent 𝓤 (Tk ν ν') (mean 𝓛 (B ⊛ ‵ (flft (ν ∷ []) full_share) ⊛ ‵ (flft (ν' ∷ []) full_share)))) → (ν ν' : ℕ) (δ δ' : GName) (w : Val)
        → ent 𝓤 (sep 𝓤 (mean 𝓛 (post ν ν' δ δ' w)) (⋆ 𝓛 (Kept ν ν' δ δ'))) (mean 𝓛 (gave 𝓤 Result val back w))
    gives_back tokens-back ν ν' δ δ' w =
        qed 𝓛 (post ν ν' δ δ' w ∷ Kept ν ν' δ δ') ∵ updating ! $ await ! tt $ pick ! (λ r. split ! $ move ! (1 ∷ []) $ pick ! (λ zs. split ! $ move ! (1 ∷ []) $
        heard ! (φ r (first_of zs) (second_of zs)) (λ e.
        -- of the parameters at exit there are the last elements of the two slices, and that they are as many
        passes_over ! k $ apart ! (each_last δ δ' zs) $ fsplit ! $ move ! (1 ∷ []) $ feq_l ! (λ as_many. move ! (1 ∷ []) $ fsplit ! $ move ! (1 ∷ []) $ feq_l ! (λ as-many'.
        -- [the last of the second, of the first; nothing; the tokens and the struct; what is kept of the first, of the second]
        move ! (3 ∷ []) $ split ! $ move ! (1 ∷ []) $ facts ! (row T) (Is (row T)) (shows 𝓛 (row T)) r (w ∷ []) (λ is.
        use1 𝓛 (B ⊛ ‵ (flft (ν ∷ []) full_share) ⊛ ‵ (flft (ν' ∷ []) full_share)) (tokens-back ν ν') $ split ! $ move ! (1 ∷ []) $ split ! $
        -- [ν; ν'; B; the last of the second, of the first; nothing; what is kept of the first, of the second]
        move ! (0 ∷ 6 ∷ 4 ∷ []) $ gets_back one 𝓛 ! tt ν δ l (first_of zs) len as_many $ move ! (2 ∷ 6 ∷ 4 ∷ []) $
        gets_back two 𝓛 ! tt ν' δ' l' (second_of zs) len' as-many' $ move ! (2 ∷ 3 ∷ []) $
        together ! (each_answer (first_of zs) (second_of zs)) $ keep ! (1 ∷ 0 ∷ []) $ at_once ! $
        show ! (λ (x : Result). guard 𝓤 (w ≡ val x) (mean 𝓛 (back x))) (record {
          result = r;
          first = first_of zs;
          second = second_of zs;
          told = e;
          first_length = as_many ∙ len;
          second_length = as-many' ∙ len';
          fits = LL.owes T L r (LL.owed T L r (w ∷ []) is);
        }) $ check ! (ap only (LL.tells T L r (w ∷ []) is)) $ done !))))))

    pub two_lent : ((ν ν' : ℕ) (δ δ' : GName) → ent 𝓤 (⋆ 𝓛 (Lending 𝓤 P l l' ν ν' δ δ')) (C f vs (λ w. mean 𝓛 (post ν ν' δ δ' w))))
        → ((ν ν' : ℕ) → ent 𝓤 (Tk ν ν') (mean 𝓛 (B ⊛ ‵ (flft (ν ∷ []) full_share) ⊛ ‵ (flft (ν' ∷ []) full_share))))
        → Gives 𝓛 C f vs (P ⊛ ‵ (answers l l')) Result val back
    two_lent asks tokens-back = record {
      gives = qed 𝓛 (P ∷ ‵ (answers l l') ∷ []) ∵ updating ! $ move ! (1 ∷ []) $ apart ! (each_answer l l') $ lends one 𝓛 ! tt l len (λ ν δ. move ! (3 ∷ 4 ∷ []) $
          lends two 𝓛 ! tt l' len' (λ ν' δ'. at_once ! $
          -- [ν', lent and kept of the one; ν, lent and kept of the other; P]
          move ! (6 ∷ 3 ∷ 0 ∷ 4 ∷ 1 ∷ 5 ∷ 2 ∷ []) $ group ! 5 $ use1 𝓛 (raw (C f vs (λ w. mean 𝓛 (post ν ν' δ δ' w)))) (asks ν ν' δ δ') $
          by ! (fm f vs (λ w. mean 𝓛 (post ν ν' δ δ' w)) (λ w. mean 𝓛 (gave 𝓤 Result val back w)) (⋆ 𝓛 (Kept ν ν' δ δ')) (gives_back tokens-back ν ν' δ δ'))));
    }
