-- A deed by its kind: what is known of it, what it makes of a block, and what is left of it before a key. Rests on SameBefore.
use Prim.Native.Nat.{ℕ}
use mathlib.Core.Path.{◌≡◌, sym, subst}
use mathlib.Core.List.{List}
use Rattle.keys.specs.declared.block.TreeBlock.{TreeBlock}
use Rattle.definitions.specs.declared.Window.{Window}
use Rattle.deeds.specs.declared.run.Run.{Run}
use Rattle.deeds.specs.declared.meeting.Meeting.{Meeting}
use Rattle.deeds.specs.declared.deed.Deed.{Deed}
use Rattle.deeds.specs.declared.deed.Deed.TheVariants.{Fill, Back, Again}
use Rattle.deeds.specs.Runs.{EntriesIn, back_step, again_step}
use Rattle.deeds.specs.Deed.{window_step, Painting, WindowMet, step_of, Doable, Narrowed, ShortRun}
use Rattle.deeds.specs.Meeting.{Met}
use Rattle.deeds.proofs.SameBefore.{same_itself}

module _ (m : ℕ) (ks vs : List ℕ) {deed : Deed} where
  -- what is known of it
  pub fill_known : {w : Window} {f : ℕ} → deed ≡ Fill w f → Doable m deed ks vs → Painting w f
  fill_known e d = subst (λ x. Doable m x ks vs) e d

  pub back_known : {run : Run} → deed ≡ Back run → Doable m deed ks vs → EntriesIn m run ks vs
  back_known e d = subst (λ x. Doable m x ks vs) e d

  pub again_known : {run : Run} → deed ≡ Again run → Doable m deed ks vs → EntriesIn m run ks vs
  again_known e d = subst (λ x. Doable m x ks vs) e d

  -- what it makes of a block
  module _ {b : TreeBlock} {meeting : Meeting} where
    pub fill_met : {w : Window} {f : ℕ} → deed ≡ Fill w f → WindowMet w f b meeting → Met (step_of m deed ks vs) ks vs b meeting
    fill_met e s = subst (λ x. Met (step_of m x ks vs) ks vs b meeting) (sym e) (s ks vs)

    pub back_met : {run : Run} → deed ≡ Back run → Met (back_step m run ks vs) ks vs b meeting → Met (step_of m deed ks vs) ks vs b meeting
    back_met e s = subst (λ x. Met (step_of m x ks vs) ks vs b meeting) (sym e) s

    pub again_met : {run : Run} → deed ≡ Again run → Met (again_step m run ks vs) ks vs b meeting → Met (step_of m deed ks vs) ks vs b meeting
    again_met e s = subst (λ x. Met (step_of m x ks vs) ks vs b meeting) (sym e) s

  -- what is left of it before a key: of a window all
  pub fill_narrowed : {w : Window} {f past : ℕ} → deed ≡ Fill w f → Doable m deed ks vs → Narrowed m past deed (Fill w f) ks vs
  fill_narrowed {w} {f} {past} e d =
      subst (λ x. Narrowed m past x (Fill w f) ks vs) (sym e) (record { doable = fill_known e d; same = same_itself m past (window_step w f) })

  -- of a run the entries before it
  pub back_narrowed : {run run' : Run} {past : ℕ} → deed ≡ Back run → ShortRun m past run run' ks vs → Narrowed m past deed (Back run') ks vs
  back_narrowed {run} {run'} {past} e s = subst (λ x. Narrowed m past x (Back run') ks vs) (sym e) (record { doable = s.entries; same = s.same_back })

  pub again_narrowed : {run run' : Run} {past : ℕ} → deed ≡ Again run → ShortRun m past run run' ks vs → Narrowed m past deed (Again run') ks vs
  again_narrowed {run} {run'} {past} e s = subst (λ x. Narrowed m past x (Again run') ks vs) (sym e) (record { doable = s.entries; same = s.same_again })
