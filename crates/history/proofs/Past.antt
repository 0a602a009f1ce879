-- The pictures of the past and of the paints that can be redone: the log that these paints leave, and that every picture between them is legal and fits
-- the room. Such a log is sound. Rests on Fit.
use Prim.Native.Nat.{ℕ, ◌≤◌, ◌<◌}
use mathlib.Core.Path.{◌≡◌, refl, sym, ap, subst, ◌∙◌}
use mathlib.Core.Bool.{true}
use mathlib.Core.List.{List, [], ◌∷◌, ◌++◌}
use native.Mathlib.Omega.{arith}
use lib.ListN.{length, length-append}
use Rattle.definitions.specs.Picture.{Picture, features_below}
use Rattle.definitions.specs.List.{list_of_picture}
use Rattle.definitions.specs.Log.{group_mark, is_sound}
use Rattle.laws.proofs.LastStep.{step_some}
use Rattle.laws.proofs.SoundLog.{Steps, none, more, sound_exactly}
use Rattle.laws.proofs.InForce.{steps-append}
use Rattle.history.specs.History.{Paint, applied, logged_by, drawn, log_of, log_after}
use Rattle.history.proofs.Drawn.{drawn_none}
use Rattle.history.proofs.Fit.{Fit, step_is}

-- no paints leave no records
pub log_none : (m : ℕ) (p : Picture) → log_of m p [] ≡ []
unfolding log_of
log_none m p = refl

-- the latest paint's step stands last
pub log_latest : (m : ℕ) (p : Picture) (x : Paint) (xs : List Paint) → log_of m p (x ∷ xs) ≡ log_of m p xs ++ logged_by m (drawn m p xs) x
unfolding log_of
log_latest m p x xs = refl

-- a picture with features below s, whose list has room for it
pub record Legal (m s size : ℕ) (p : Picture) : Type 0 where
  pub below : features_below s p m 0 0 ≡ true
  pub fits : length (list_of_picture m p) ≤ size

-- the paints are fit, and the picture before each of them and after the last is legal
pub data Past (m s size : ℕ) (p : Picture) : List Paint → Type 0 where
  start : Legal m s size p → Past m s size p []
  later : {xs : List Paint} → Past m s size p xs → (x : Paint) → Fit m s x → Legal m s size (drawn m p (x ∷ xs))
      → Past m s size p (x ∷ xs)

-- the picture after the paints is legal
pub past_legal : {m s size : ℕ} {p : Picture} {xs : List Paint} → Past m s size p xs → Legal m s size (drawn m p xs)
past_legal {m} {s} {size} {p} (start h) = subst (λ q. Legal m s size q) (sym (drawn_none m p)) h
past_legal (later h x fit legal) = legal

-- without the latest paint it is a past too
pub past_before : {m s size : ℕ} {p : Picture} {x : Paint} {xs : List Paint} → Past m s size p (x ∷ xs) → Past m s size p xs
past_before (later h x fit legal) = h

-- the latest paint is fit
pub past_fit : {m s size : ℕ} {p : Picture} {x : Paint} {xs : List Paint} → Past m s size p (x ∷ xs) → Fit m s x
past_fit (later h x fit legal) = fit

-- the log of such paints is steps
past_steps : {m s size : ℕ} {p : Picture} {xs : List Paint} → Past m s size p xs → Steps m s (log_of m p xs)
past_steps {m} {s} {size} {p} (start h) = subst (λ l. Steps m s l) (sym (log_none m p)) none
past_steps {m} {s} {size} {p} (later {xs} h x fit legal) =
    subst (λ l. Steps m s l) (sym (log_latest m p x xs)) (more (past_steps h) (step_is (drawn m p xs) fit (past_legal h).below))

-- and sound
pub past_sound : {m s size : ℕ} {p : Picture} {xs : List Paint} → s ≤ group_mark → Past m s size p xs → is_sound m s (log_of m p xs) ≡ true
past_sound {m} {s} {size} {p} {xs} few h = (sound_exactly m s (log_of m p xs) few).1 (past_steps h)

-- with a paint the log has records
pub log_some : {m s size : ℕ} {p : Picture} (x : Paint) (xs : List Paint) → Past m s size p (x ∷ xs) → 0 < length (log_of m p (x ∷ xs))
log_some {m} {s} {size} {p} x xs h =
    let e = ap length (log_latest m p x xs) ∙ length-append (log_of m p xs) (logged_by m (drawn m p xs) x) in
    let some = step_some (step_is (drawn m p xs) (past_fit h) (past_legal (past_before h)).below) in
    omega arith

-- paints to come, the next one first: they are fit, and the picture after each is legal
pub data Future (m s size : ℕ) : Picture → List Paint → Type 0 where
  no_more : {p : Picture} → Future m s size p []
  next : {p : Picture} {xs : List Paint} → (x : Paint) → Fit m s x → Legal m s size (applied m x p)
      → Future m s size (applied m x p) xs
      → Future m s size p (x ∷ xs)

-- the next of them
pub future_fit : {m s size : ℕ} {p : Picture} {x : Paint} {xs : List Paint} → Future m s size p (x ∷ xs) → Fit m s x
future_fit (next x fit legal h) = fit

pub future_legal : {m s size : ℕ} {p : Picture} {x : Paint} {xs : List Paint} → Future m s size p (x ∷ xs) → Legal m s size (applied m x p)
future_legal (next x fit legal h) = legal

pub future_after : {m s size : ℕ} {p : Picture} {x : Paint} {xs : List Paint} → Future m s size p (x ∷ xs) → Future m s size (applied m x p) xs
future_after (next x fit legal h) = h

-- no paints to come have no records
pub after_none : (m : ℕ) (p : Picture) → log_after m p [] ≡ []
unfolding log_after
after_none m p = refl

-- the next paint's step stands first
pub after_next : (m : ℕ) (p : Picture) (x : Paint) (xs : List Paint)
    → log_after m p (x ∷ xs) ≡ logged_by m p x ++ log_after m (applied m x p) xs
unfolding log_after
after_next m p x xs = refl

-- their log is steps
pub future_steps : {m s size : ℕ} {p : Picture} {xs : List Paint} → features_below s p m 0 0 ≡ true → Future m s size p xs → Steps m s (log_after m p xs)
future_steps {m} {s} {size} {p} below no_more = subst (λ l. Steps m s l) (sym (after_none m p)) none
future_steps {m} {s} {size} {p} below (next {xs = xs} x fit legal h) =
    subst (λ l. Steps m s l) (sym (after_next m p x xs)) (steps-append (more none (step_is p fit below)) (future_steps legal.below h))

-- and sound
pub future_sound : {m s size : ℕ} {p : Picture} {xs : List Paint} → s ≤ group_mark → features_below s p m 0 0 ≡ true → Future m s size p xs
    → is_sound m s (log_after m p xs) ≡ true
future_sound {m} {s} {size} {p} {xs} few below h = (sound_exactly m s (log_after m p xs) few).1 (future_steps below h)
