-- Rules, findings and waivers (specification S13). Rests on Window.
use Rattle.std.specs.Prelude.{ℕ, ◌+◌, Bool, true, false, cond, not, ◌&&◌, ◌||◌, List, [], ◌∷◌, ◌++◌, map, ltb, eqb}
use Rattle.keys.specs.Key.{valid_key, height_of}
use Rattle.keys.specs.Block.{row_of, column_of, in_block}
use Rattle.definitions.specs.Picture.{Picture, every_pixel}
use Rattle.definitions.specs.Window.{is_window, select_in}
use Rattle.definitions.specs.declared.Window.{Window}
use Rattle.definitions.specs.declared.Rule.{Rule}

-- a finding, or the waiver of one: a rule's id and a block's key
pub record Finding : Type 0 where
  pub id : ℕ
  pub key : ℕ

abbrev pub finding_of : (id key : ℕ) → Finding
finding_of id key = record { id = id; key = key }

abbrev pub window_of_rule : Rule → Window
window_of_rule rule = record { row = rule.row; column = rule.column; height = rule.height; width = rule.width }

-- the findings of a rule are the blocks that select gives
unfoldable pub findings_of : (m : ℕ) (p : Picture) (rule : Rule) → List Finding
findings_of m p rule = map (finding_of rule.id) (select_in m p (window_of_rule rule) rule.feature)

unfoldable pub all_findings : (m : ℕ) (p : Picture) (rules : List Rule) → List Finding
all_findings m p [] = []
all_findings m p (rule ∷ rules) = findings_of m p rule ++ all_findings m p rules

-- the waivers of two slices, as many as the shorter holds
unfoldable pub waivers_of : (ids keys : List ℕ) → List Finding
waivers_of [] keys = []
waivers_of (id ∷ ids) [] = []
waivers_of (id ∷ ids) (κ ∷ keys) = finding_of id κ ∷ waivers_of ids keys

-- the pixel lies in the block of some waiver of the rule
unfoldable pub is_waived_at : (m : ℕ) (waivers : List Finding) (id row column : ℕ) → Bool
is_waived_at m [] id row column = false
is_waived_at m (w ∷ ws) id row column = eqb w.id id && in_block m w.key row column || is_waived_at m ws id row column

-- every pixel of the finding's block does
unfoldable pub is_hidden : (m : ℕ) (waivers : List Finding) (x : Finding) → Bool
is_hidden m waivers x = every_pixel (is_waived_at m waivers x.id) (height_of m x.key) (row_of m x.key) (column_of m x.key)

unfoldable pub live_of : (m : ℕ) (waivers findings : List Finding) → List Finding
live_of m waivers [] = []
live_of m waivers (x ∷ xs) = cond (is_hidden m waivers x) (live_of m waivers xs) (x ∷ live_of m waivers xs)

unfoldable pub hidden_count : (m : ℕ) (waivers findings : List Finding) → ℕ
hidden_count m waivers [] = 0
hidden_count m waivers (x ∷ xs) = cond (is_hidden m waivers x) 1 0 + hidden_count m waivers xs

-- the rule's window and feature are good
unfoldable pub is_rule : (m s : ℕ) (rule : Rule) → Bool
is_rule m s rule = is_window m (window_of_rule rule) && ltb rule.feature s

unfoldable pub all_rules : (m s : ℕ) (rules : List Rule) → Bool
all_rules m s [] = true
all_rules m s (rule ∷ rules) = is_rule m s rule && all_rules m s rules

-- strictly ascending: each before the next
unfoldable pub ids_ascend : List Rule → Bool
ids_ascend [] = true
ids_ascend (a ∷ []) = true
ids_ascend (a ∷ (b ∷ rules)) = ltb a.id b.id && ids_ascend (b ∷ rules)

-- 13
unfoldable pub bad_rules : (m s : ℕ) (rules : List Rule) → Bool
bad_rules m s rules = not (ids_ascend rules && all_rules m s rules)

-- by id and then key
abbrev pub comes_before : (a b : Finding) → Bool
comes_before a b = ltb a.id b.id || eqb a.id b.id && ltb a.key b.key

unfoldable pub findings_ascend : List Finding → Bool
findings_ascend [] = true
findings_ascend (a ∷ []) = true
findings_ascend (a ∷ (b ∷ xs)) = comes_before a b && findings_ascend (b ∷ xs)

unfoldable pub is_rule_id : (rules : List Rule) (id : ℕ) → Bool
is_rule_id [] id = false
is_rule_id (rule ∷ rules) id = eqb rule.id id || is_rule_id rules id

unfoldable pub all_waivers : (m : ℕ) (rules : List Rule) (waivers : List Finding) → Bool
all_waivers m rules [] = true
all_waivers m rules (w ∷ ws) = valid_key m w.key && is_rule_id rules w.id && all_waivers m rules ws

-- 14
unfoldable pub bad_waivers : (m : ℕ) (rules : List Rule) (waivers : List Finding) → Bool
bad_waivers m rules waivers = not (findings_ascend waivers && all_waivers m rules waivers)
