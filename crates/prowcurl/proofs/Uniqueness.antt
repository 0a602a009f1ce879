-- What it means that a promise leaves one answer: two answers to a call that keep it have the same result and leave the same in all lent buffers. Where the
-- contract is an equation for each, that holds (by_equations). Rests on how Rattle reads a contract, and on nothing of the project.
use Prim.Native.Nat.{ℕ}
use mathlib.Core.Path.{◌≡◌, refl, sym, ◌∙◌}
use mathlib.Core.List.{List, [], ◌∷◌, ◌++◌}
use contract.Lifetimes.{Lfts}
use denote.Exit.{Exit, Last, unchanged, leaves}
use denote.RattleType.{Denots}
use denote.Signature.{Slot, types_at}
use denote.Triple.Entry.{Args, Res}
use denote.Triple.End.{Kepts, Fins}
use denote.Triple.Clauses.{Ended, Lasts, AtExit, at_exit}
use borrow.Fn.Claims.{AllOf, all_left, All-right}

-- what a contract tells the caller of what was lent, the result, and the parameters at exit: `Learnt`, as Rattle reads it off the `ensures`
abbrev pub Promise : Ended → Type 1
Promise T = (κs : Lfts T.signature.lifetimes) → Args T.signature κs → Res T.signature κs → AtExit T κs → Type 0

-- two answers to one call that keep the promise: the result, and what is left in the lent buffers
pub record TwoAnswers (T : Ended) (Kept : Promise T) : Type 0 where
  pub κs : Lfts T.signature.lifetimes
  pub lent : Args T.signature κs
  pub result : Res T.signature κs
  pub result' : Res T.signature κs
  pub left : Lasts T κs lent
  pub left' : Lasts T κs lent
  pub kept : Kept κs lent result (at_exit T κs lent left)
  pub kept' : Kept κs lent result' (at_exit T κs lent left')

-- any two are the same
unfoldable pub OneAnswer : (T : Ended) → Promise T → Type 0
OneAnswer T Kept = (x : TwoAnswers T Kept) → (x.result ≡ x.result') × (x.left ≡ x.left')

-- that one parameter is left the same: an equation where the call may write it, nothing to show where it only reads it
abbrev same : {D : Type 0} (e : Exit D) (x : D) → Last e x → Last e x → List (Type 0)
same unchanged x left left' = []
same (leaves L l S s r) x left left' = (left ≡ left') ∷ []

same_is : {D : Type 0} (e : Exit D) (x : D) (left left' : Last e x) → AllOf (same e x left left') → left ≡ left'
same_is unchanged x left left' shown = refl
same_is (leaves L l S s r) x left left' shown = shown

module _ {n : ℕ} (κs : Lfts n) where
  -- that all parameters are left the same: an equation for each slice that the call may write
  abbrev all_same : (ss : List (Slot n)) (ks : Kepts ss) (a : Denots (types_at ss κs)) → Fins κs ss ks a → Fins κs ss ks a → List (Type 0)
  all_same [] ks a left left' = []
  all_same (s ∷ ss) ks a left left' =
      same ((s.row κs).exit ks.0) a.0 left.0 left'.0 ++ all_same ss ks.1 a.1 left.1 left'.1

  all_same_is : (ss : List (Slot n)) (ks : Kepts ss) (a : Denots (types_at ss κs)) (left left' : Fins κs ss ks a) → AllOf (all_same ss ks a left left')
      → left ≡ left'
  all_same_is [] ks a left left' shown = refl
  all_same_is (s ∷ ss) ks a left left' shown =
      let first : List (Type 0) = same ((s.row κs).exit ks.0) a.0 left.0 left'.0 in
      let rest : List (Type 0) = all_same ss ks.1 a.1 left.1 left'.1 in
      let first_is : left.0 ≡ left'.0 = same_is ((s.row κs).exit ks.0) a.0 left.0 left'.0 (all_left first rest shown) in
      let rest_is : left.1 ≡ left'.1 = all_same_is ss ks.1 a.1 left.1 left'.1 (All-right first rest shown) in
      λ i. (first_is i, rest_is i)

-- so it is enough to show an equation for the result and one for each slice that the call may write
pub by_equations : {T : Ended} {Kept : Promise T}
    → ((x : TwoAnswers T Kept) → AllOf ((x.result ≡ x.result') ∷ all_same x.κs T.signature.params T.kept x.lent x.left x.left'))
    → OneAnswer T Kept
unfolding OneAnswer
by_equations {T} shown x =
    let first : List (Type 0) = (x.result ≡ x.result') ∷ [] in
    let rest : List (Type 0) = all_same x.κs T.signature.params T.kept x.lent x.left x.left' in (
      all_left first rest (shown x),
      all_same_is x.κs T.signature.params T.kept x.lent x.left x.left' (All-right first rest (shown x)),
    )

-- whatever promises equate with what was lent, two answers that keep them give the same: one promise, two, three, four
pub one : {A : Type 0} {a a' promised : A} → a ≡ promised → a' ≡ promised → a ≡ a'
one kept kept' = kept ∙ sym kept'

pub two : {A B : Type 0} {a a' p : A} {b b' q : B} → (a ≡ p) × (b ≡ q) → (a' ≡ p) × (b' ≡ q) → (a ≡ a') × (b ≡ b')
two kept kept' = (one kept.0 kept'.0, one kept.1 kept'.1)

pub three_fields : {A B C : Type 0} {a a' p : A} {b b' q : B} {c c' r : C} → (a ≡ p) × ((b ≡ q) × (c ≡ r)) → (a' ≡ p) × ((b' ≡ q) × (c' ≡ r))
    → (a ≡ a') × ((b ≡ b') × (c ≡ c'))
three_fields kept kept' = (one kept.0 kept'.0, two kept.1 kept'.1)

pub four_fields : {A B C D : Type 0} {a a' p : A} {b b' q : B} {c c' r : C} {d d' t : D} → (a ≡ p) × ((b ≡ q) × ((c ≡ r) × (d ≡ t)))
    → (a' ≡ p) × ((b' ≡ q) × ((c' ≡ r) × (d' ≡ t)))
    → (a ≡ a') × ((b ≡ b') × ((c ≡ c') × (d ≡ d')))
four_fields kept kept' = (one kept.0 kept'.0, three_fields kept.1 kept'.1)

-- six, each by itself, as the record of an edit's promise has them
pub six : {A B C D E F : Type 0} {a a' p : A} {b b' q : B} {c c' r : C} {d d' t : D} {e e' u : E} {f f' v : F}
    → a ≡ p → a' ≡ p → b ≡ q → b' ≡ q → c ≡ r → c' ≡ r → d ≡ t → d' ≡ t → e ≡ u → e' ≡ u → f ≡ v → f' ≡ v
    → (a ≡ a') × ((b ≡ b') × ((c ≡ c') × ((d ≡ d') × ((e ≡ e') × (f ≡ f')))))
six a a' b b' c c' d d' e e' f f' = (one a a', (one b b', (one c c', (one d d', (one e e', one f f')))))
