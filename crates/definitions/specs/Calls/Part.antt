-- Part: the part of the key slice that holds a block, empty exactly when standing is refused. Rests on Standing.
use Rattle.std.specs.Prelude.{ℕ, List, []}
use Rattle.definitions.specs.Read.{records_of}
use Rattle.definitions.specs.Standing.{place_of, part_length, part_of}
use Rattle.definitions.specs.Refusal.{accepted}
use Rattle.definitions.specs.Calls.Standing.{standing_refusal}
use Rattle.definitions.specs.declared.Span.{Span}

-- the handed-back part
unfoldable pub part : (m s : ℕ) (keys bits : List ℕ) (n κ : ℕ) → List ℕ
part m s keys bits n κ =
    accepted (standing_refusal m s keys bits n κ) (part_of m κ (records_of keys bits n) keys) []

-- where it starts, and how many places it has
unfoldable pub part_span : (m s : ℕ) (keys bits : List ℕ) (n κ : ℕ) → Span
part_span m s keys bits n κ =
    record {
      start = accepted (standing_refusal m s keys bits n κ) (place_of κ (records_of keys bits n)) 0;
      length = accepted (standing_refusal m s keys bits n κ) (part_length m κ (records_of keys bits n)) 0;
    }
