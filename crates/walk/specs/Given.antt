-- What the contracts of the queries that give keys say: the keys of the records with given bits, and what writing them leaves in the answer. Only
-- contracts need these; that they are what select gives is proved in proofs/.
use Rattle.std.specs.Prelude.{ℕ, suc, cond, List, [], ◌∷◌, set, ltb, eqb}
use Rattle.definitions.specs.List.{Record}

-- the keys of the records that have exactly the given bits
unfoldable pub keys_with : ℕ → List Record → List ℕ
keys_with bits [] = []
keys_with bits (e ∷ l) = cond (eqb e.value bits) (e.key ∷ keys_with bits l) (keys_with bits l)

-- one key is written at its place, if that is below the limit
abbrev pub written_at : ℕ → List ℕ → ℕ → ℕ → List ℕ
written_at limit answer place key = cond (ltb place limit) (set answer place key) answer

-- keys are written one after the other, as far as the limit lets
unfoldable pub written : ℕ → List ℕ → ℕ → List ℕ → List ℕ
written limit answer place [] = answer
written limit answer place (key ∷ keys) = written limit (written_at limit answer place key) (suc place) keys

-- the keys of a list that are below a bound
unfoldable pub lower : ℕ → List ℕ → List ℕ
lower x [] = []
lower x (y ∷ l) = cond (ltb y x) (y ∷ lower x l) (lower x l)
