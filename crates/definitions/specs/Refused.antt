-- Refusals as an answer carries them: the number that C is told, the places that a call needs where its answer exceeds its room, and what is told of an
-- answer that is refused or not. Rests on the declared refusals.
use Rattle.std.specs.Prelude.{ℕ, Result, Ok, Err}
use Rattle.definitions.specs.declared.refusal.Refusal.{Refusal}
use Rattle.definitions.specs.declared.refusal.Refusal.TheVariants.{Settings, RasterLength, Pixel, List, Log, Window, Feature, Key, ListRoom, LogRoom, LogEmpty, AnswerRoom, Rules, Waivers, FileLength, FileMark, FileVersion, Summary, Leaves, NoRedo, Office, Row, BitStrings, Resolution, ClassTable}

-- the number of specification S24
abbrev pub refusal_number : Refusal → ℕ
refusal_number Settings = 1
refusal_number RasterLength = 2
refusal_number Pixel = 3
refusal_number List = 4
refusal_number Log = 5
refusal_number Window = 6
refusal_number Feature = 7
refusal_number Key = 8
refusal_number ListRoom = 9
refusal_number LogRoom = 10
refusal_number LogEmpty = 11
refusal_number (AnswerRoom needed) = 12
refusal_number Rules = 13
refusal_number Waivers = 14
refusal_number FileLength = 15
refusal_number FileMark = 16
refusal_number FileVersion = 17
refusal_number Summary = 18
refusal_number Leaves = 19
refusal_number NoRedo = 20
refusal_number Office = 21
refusal_number Row = 22
refusal_number BitStrings = 23
refusal_number Resolution = 24
refusal_number ClassTable = 25

-- how many places the answer needs, where it exceeds its room; otherwise none are told
abbrev pub places_needed : Refusal → ℕ
places_needed Settings = 0
places_needed RasterLength = 0
places_needed Pixel = 0
places_needed List = 0
places_needed Log = 0
places_needed Window = 0
places_needed Feature = 0
places_needed Key = 0
places_needed ListRoom = 0
places_needed LogRoom = 0
places_needed LogEmpty = 0
places_needed (AnswerRoom needed) = needed
places_needed Rules = 0
places_needed Waivers = 0
places_needed FileLength = 0
places_needed FileMark = 0
places_needed FileVersion = 0
places_needed Summary = 0
places_needed Leaves = 0
places_needed NoRedo = 0
places_needed Office = 0
places_needed Row = 0
places_needed BitStrings = 0
places_needed Resolution = 0
places_needed ClassTable = 0

-- what the caller is told: the number of the refusal, or 0 where there is none
abbrev pub refusal_told : {A : Type 0} → (answer : Result A Refusal) → ℕ
refusal_told (Ok _) = 0
refusal_told (Err refusal) = refusal_number refusal
