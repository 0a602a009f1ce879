-- What counting some blocks anew leaves in a summary, and what it asks. Only contracts need it; proofs/Renewed.antt has its laws.
use Rattle.std.specs.Prelude.{ℕ, ◌-◌, ◌*◌, ◌^◌, ◌≤◌, ◌≡◌, List, length, take, drop}
use Rattle.std.proofs.lemmas.List.Edits.{sets}
use Rattle.keys.specs.Key.{slot_limit}
use Rattle.definitions.specs.Picture.{Picture}
use Rattle.definitions.specs.Area.{summary_level, summary_length, summary_of}

-- the places of the blocks from one number on, to another that is not among them, become those of the picture's summary; the others stay
unfoldable pub blocks_renewed : ℕ → ℕ → Picture → ℕ → ℕ → List ℕ → List ℕ
blocks_renewed m s p from until summary = sets summary (from * s) (take ((until - from) * s) (drop (from * s) (summary_of m s p)))

-- the blocks are blocks of the summary, and it has the right length
pub record Renewable (m s from until : ℕ) (summary : List ℕ) : Type 0 where
  pub deep : m ≤ 10
  pub few : s ≤ slot_limit
  pub order : from ≤ until
  pub most : until ≤ 4 ^ summary_level m
  pub long : length summary ≡ summary_length m s
