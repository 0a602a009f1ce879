-- What the contracts of sifting one rule's findings say: which keys the waivers of the rule do not cover, and what counting and writing them leaves. Only
-- contracts need these; that they are the live findings is proved in proofs/.
use Rattle.std.specs.Prelude.{ℕ, ◌+◌, ◌≤◌, ◌<◌, ◌≡◌, cond, List, [], ◌∷◌, map, length, get_or, ltb, eqb}
use Rattle.definitions.specs.List.{Record}
use Rattle.definitions.specs.Covered.{is_covered}
use Rattle.walk.specs.Given.{written}
use Rattle.finding.specs.Covering.{end_of, Waived, WaiversPassed}
use Rattle.finding.specs.declared.Sifting.{Sifting}

-- the keys of the records with exactly the given bits, before the first record whose key is at or past the end
unfoldable pub keys_until : ℕ → ℕ → List Record → List ℕ
keys_until end bits [] = []
keys_until end bits (e ∷ l) =
    cond (ltb e.key end) (cond (eqb e.value bits) (e.key ∷ keys_until end bits l) (keys_until end bits l)) []

-- the given keys whose blocks the waivers do not cover
unfoldable pub not_waived : ℕ → List ℕ → List ℕ → List ℕ
not_waived m waived [] = []
not_waived m waived (key ∷ given) = cond (is_covered m waived key) (not_waived m waived given) (key ∷ not_waived m waived given)

-- what sifting asks: the limit is within both slices, the counts are small, the rule's waivers ascend, and those that are passed begin before x
pub record SiftReady (m limit : ℕ) (waived : List ℕ) (at : Sifting) (ids keys : List ℕ) (most x : ℕ) : Type 0 where
  pub limit_ids : limit ≤ length ids
  pub limit_keys : limit ≤ length keys
  pub counts : at.live + at.hidden ≤ most
  pub waivers : Waived m 0 waived
  pub passed : WaiversPassed m waived at.passed at.furthest x

-- the same for a run along records: x is at or before the end, and at or before the keys that are still to come; no record that begins before the end
-- ends after it
pub record RunReady (m limit : ℕ) (waived : List ℕ) (at : Sifting) (ids keys : List ℕ) (most : ℕ) (record_keys : List ℕ) (n first end : ℕ) : Type 0 where
  pub x : ℕ
  pub ready : SiftReady m limit waived at ids keys most x
  pub before_end : x ≤ end
  pub before_keys : (i : ℕ) → first ≤ i → i < n → x ≤ get_or record_keys i 0
  pub whole : (i : ℕ) → first ≤ i → i < n → get_or record_keys i 0 < end → end_of m (get_or record_keys i 0) ≤ end

-- the given keys were counted as live or hidden, and the live ones written with the rule's id
pub record FindingsCounted (m limit id : ℕ) (waived given : List ℕ) (at r : Sifting) (ids ids' keys keys' : List ℕ) : Type 0 where
  pub live : r.live ≡ at.live + length (not_waived m waived given)
  pub hidden : r.hidden + length (not_waived m waived given) ≡ at.hidden + length given
  pub wrote_ids : ids' ≡ written limit ids at.live (map (λ (key : ℕ). id) (not_waived m waived given))
  pub wrote_keys : keys' ≡ written limit keys at.live (not_waived m waived given)

-- and the waivers passed begin before x
pub record Sifted (m limit id : ℕ) (waived given : List ℕ) (at r : Sifting) (ids ids' keys keys' : List ℕ) (x : ℕ) : Type 0 where
  pub counted : FindingsCounted m limit id waived given at r ids ids' keys keys'
  pub passed : WaiversPassed m waived r.passed r.furthest x
