-- Of the refusals only that of a small answer has the number 12. No proof here needs it: it is for callers, who have the number alone. Rests on Refused of
-- definitions.
use Prim.Native.Nat.{ℕ}
use mathlib.Core.Path.{◌≡◌, refl}
use native.Mathlib.Omega.{arith}
use Rattle.definitions.specs.Refused.{refusal_number}
use Rattle.definitions.specs.declared.refusal.Refusal.{Refusal}
use Rattle.definitions.specs.declared.refusal.Refusal.TheVariants.{Settings, RasterLength, Pixel, List, Log, Window, Feature, Key, ListRoom, LogRoom, LogEmpty, AnswerRoom, Rules, Waivers, FileLength, FileMark, FileVersion, Summary, Leaves, NoRedo, Office, Row, BitStrings, Resolution, ClassTable}

pub other_number : (refusal : Refusal) → ((needed : ℕ) → refusal ≡ AnswerRoom needed → ⊥) → refusal_number refusal ≡ 12 → ⊥
other_number Settings other = λ e. omega arith
other_number RasterLength other = λ e. omega arith
other_number Pixel other = λ e. omega arith
other_number List other = λ e. omega arith
other_number Log other = λ e. omega arith
other_number Window other = λ e. omega arith
other_number Feature other = λ e. omega arith
other_number Key other = λ e. omega arith
other_number ListRoom other = λ e. omega arith
other_number LogRoom other = λ e. omega arith
other_number LogEmpty other = λ e. omega arith
other_number (AnswerRoom needed) other = λ e. other needed refl
other_number Rules other = λ e. omega arith
other_number Waivers other = λ e. omega arith
other_number FileLength other = λ e. omega arith
other_number FileMark other = λ e. omega arith
other_number FileVersion other = λ e. omega arith
other_number Summary other = λ e. omega arith
other_number Leaves other = λ e. omega arith
other_number NoRedo other = λ e. omega arith
other_number Office other = λ e. omega arith
other_number Row other = λ e. omega arith
other_number BitStrings other = λ e. omega arith
other_number Resolution other = λ e. omega arith
other_number ClassTable other = λ e. omega arith
