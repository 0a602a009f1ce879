-- No refusal has the number 0, which tells that there is none. Rests on Refused.
use mathlib.Core.Path.{◌≡◌}
use native.Mathlib.Omega.{arith}
use Rattle.definitions.specs.Refused.{refusal_number}
use Rattle.definitions.specs.declared.refusal.Refusal.{Refusal}
use Rattle.definitions.specs.declared.refusal.Refusal.TheVariants.{Settings, RasterLength, Pixel, List, Log, Window, Feature, Key, ListRoom, LogRoom, LogEmpty, AnswerRoom, Rules, Waivers, FileLength, FileMark, FileVersion, Summary, Leaves, NoRedo, Office, Row, BitStrings, Resolution, ClassTable}

pub refusal_some : (refusal : Refusal) → refusal_number refusal ≡ 0 → ⊥
refusal_some Settings = λ e. omega arith
refusal_some RasterLength = λ e. omega arith
refusal_some Pixel = λ e. omega arith
refusal_some List = λ e. omega arith
refusal_some Log = λ e. omega arith
refusal_some Window = λ e. omega arith
refusal_some Feature = λ e. omega arith
refusal_some Key = λ e. omega arith
refusal_some ListRoom = λ e. omega arith
refusal_some LogRoom = λ e. omega arith
refusal_some LogEmpty = λ e. omega arith
refusal_some (AnswerRoom needed) = λ e. omega arith
refusal_some Rules = λ e. omega arith
refusal_some Waivers = λ e. omega arith
refusal_some FileLength = λ e. omega arith
refusal_some FileMark = λ e. omega arith
refusal_some FileVersion = λ e. omega arith
refusal_some Summary = λ e. omega arith
refusal_some Leaves = λ e. omega arith
refusal_some NoRedo = λ e. omega arith
refusal_some Office = λ e. omega arith
refusal_some Row = λ e. omega arith
refusal_some BitStrings = λ e. omega arith
refusal_some Resolution = λ e. omega arith
refusal_some ClassTable = λ e. omega arith
