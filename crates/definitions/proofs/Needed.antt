-- Only the refusal 12 tells of places that are needed. Rests on Refused.
use Prim.Native.Nat.{ℕ}
use mathlib.Core.Path.{◌≡◌, refl, ap}
use Rattle.std.specs.Prelude.{Err}
use Rattle.definitions.specs.Answered.{as_counted}
use Rattle.definitions.specs.Refused.{refusal_number, places_needed}
use Rattle.definitions.specs.declared.Counted.{Counted}
use Rattle.definitions.specs.declared.refusal.Refusal.{Refusal}
use Rattle.definitions.specs.declared.refusal.Refusal.TheVariants.{Settings, RasterLength, Pixel, List, Log, Window, Feature, Key, ListRoom, LogRoom, LogEmpty, AnswerRoom, Rules, Waivers, FileLength, FileMark, FileVersion, Summary, Leaves, NoRedo, Office, Row, BitStrings, Resolution, ClassTable}

pub none_needed : (refusal : Refusal) → (refusal_number refusal ≡ 12 → ⊥) → places_needed refusal ≡ 0
none_needed Settings other = refl
none_needed RasterLength other = refl
none_needed Pixel other = refl
none_needed List other = refl
none_needed Log other = refl
none_needed Window other = refl
none_needed Feature other = refl
none_needed Key other = refl
none_needed ListRoom other = refl
none_needed LogRoom other = refl
none_needed LogEmpty other = refl
none_needed (AnswerRoom needed) other = absurd (other refl)
none_needed Rules other = refl
none_needed Waivers other = refl
none_needed FileLength other = refl
none_needed FileMark other = refl
none_needed FileVersion other = refl
none_needed Summary other = refl
none_needed Leaves other = refl
none_needed NoRedo other = refl
none_needed Office other = refl
none_needed Row other = refl
none_needed BitStrings other = refl
none_needed Resolution other = refl
none_needed ClassTable other = refl

-- so another is told with no count
pub counted_alone : (refusal : Refusal) → (refusal_number refusal ≡ 12 → ⊥)
    → as_counted (Err refusal) ≡ record { refusal = refusal_number refusal; count = 0 }
counted_alone refusal other = ap (λ (needed : ℕ). record { refusal = refusal_number refusal; count = needed }) (none_needed refusal other)
