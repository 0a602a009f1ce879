-- Answers as C has them: of an accepted call the refusal 0 and what it answers, of a refused one its number, the places needed with 12, and zeros. Rests on
-- Refused.
use Rattle.std.specs.Prelude.{ℕ, Bool, cond, Result, Ok, Err}
use Rattle.keys.specs.declared.Key.{Key}
use Rattle.keys.specs.declared.Square.{Square}
use Rattle.definitions.specs.declared.Done.{Done}
use Rattle.definitions.specs.declared.Counted.{Counted}
use Rattle.definitions.specs.declared.Keyed.{Keyed}
use Rattle.definitions.specs.declared.Exists.{Exists}
use Rattle.definitions.specs.declared.Reported.{Reported}
use Rattle.definitions.specs.declared.Measured.{Measured}
use Rattle.definitions.specs.declared.Edited.{Edited}
use Rattle.definitions.specs.declared.Found.{Found}
use Rattle.definitions.specs.declared.Loaded.{Loaded}
use Rattle.definitions.specs.declared.LoadedLog.{LoadedLog}
use Rattle.definitions.specs.declared.Stands.{Stands}
use Rattle.definitions.specs.declared.Block.{Block}
use Rattle.definitions.specs.declared.Standing.{Standing}
use Rattle.definitions.specs.declared.Standing.TheVariants.{Listed, Inside}
use Rattle.definitions.specs.declared.answers.SheetCounts.{SheetCounts}
use Rattle.definitions.specs.declared.answers.FindingCounts.{FindingCounts}
use Rattle.definitions.specs.declared.answers.ListHead.{ListHead}
use Rattle.definitions.specs.declared.answers.LogHead.{LogHead}
use Rattle.definitions.specs.declared.refusal.Refusal.{Refusal}
use Rattle.definitions.specs.Refused.{refusal_number, places_needed}

abbrev pub as_done : {A : Type 0} → Result A Refusal → Done
as_done (Ok _) = record { refusal = 0 }
as_done (Err refusal) = record { refusal = refusal_number refusal }

abbrev pub as_counted : Result ℕ Refusal → Counted
as_counted (Ok count) = record { refusal = 0; count = count }
as_counted (Err refusal) = record { refusal = refusal_number refusal; count = places_needed refusal }

abbrev pub as_keyed : Result Key Refusal → Keyed
as_keyed (Ok key) = record { refusal = 0; key = key.number }
as_keyed (Err refusal) = record { refusal = refusal_number refusal; key = 0 }

abbrev pub as_exists : Result Bool Refusal → Exists
as_exists (Ok occurs) = record { refusal = 0; yes = cond occurs 1 0 }
as_exists (Err refusal) = record { refusal = refusal_number refusal; yes = 0 }

abbrev pub as_reported : Result ℕ Refusal → Reported
as_reported (Ok bits) = record { refusal = 0; bits = bits }
as_reported (Err refusal) = record { refusal = refusal_number refusal; bits = 0 }

abbrev pub as_measured : Result ℕ Refusal → Measured
as_measured (Ok pixels) = record { refusal = 0; pixels = pixels }
as_measured (Err refusal) = record { refusal = refusal_number refusal; pixels = 0 }

abbrev pub as_edited : Result SheetCounts Refusal → Edited
as_edited (Ok counts) = record { refusal = 0; n = counts.n; used = counts.used; in_force = counts.in_force }
as_edited (Err refusal) = record { refusal = refusal_number refusal; n = 0; used = 0; in_force = 0 }

abbrev pub as_found : Result FindingCounts Refusal → Found
as_found (Ok counts) = record { refusal = 0; live = counts.live; hidden = counts.hidden }
as_found (Err refusal) = record { refusal = refusal_number refusal; live = places_needed refusal; hidden = 0 }

abbrev pub as_loaded : Result ListHead Refusal → Loaded
as_loaded (Ok head) = record { refusal = 0; m = head.m; s = head.s; n = head.n }
as_loaded (Err refusal) = record { refusal = refusal_number refusal; m = 0; s = 0; n = 0 }

abbrev pub as_loaded_log : Result LogHead Refusal → LoadedLog
as_loaded_log (Ok head) = record { refusal = 0; m = head.m; s = head.s; used = head.used; in_force = head.in_force }
as_loaded_log (Err refusal) = record { refusal = refusal_number refusal; m = 0; s = 0; used = 0; in_force = 0 }

-- kind 1 is listed, kind 2 inside
abbrev pub as_stands : Result Standing Refusal → Stands
as_stands (Ok (Listed place records)) = record { refusal = 0; kind = 1; place = place; records = records; leaf = 0; level = 0 }
as_stands (Ok (Inside place leaf level)) = record { refusal = 0; kind = 2; place = place; records = 0; leaf = leaf; level = level }
as_stands (Err refusal) = record { refusal = refusal_number refusal; kind = 0; place = 0; records = 0; leaf = 0; level = 0 }

abbrev pub as_block : Result (Square × ℕ) Refusal → Block
as_block (Ok (square, level)) = record { refusal = 0; row = square.row; column = square.column; side = square.side; level = level }
as_block (Err refusal) = record { refusal = refusal_number refusal; row = 0; column = 0; side = 0; level = 0 }
