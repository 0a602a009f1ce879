-- A run over the rules, as the code goes: what a rule does to the state and to the two answer slices, how the first run begins, which run comes after a run,
-- and what the last answers. Only contracts need these; that the runs give the findings of specification S13 is proved in proofs/.
use Rattle.std.specs.Prelude.{ℕ, ◌+◌, ◌*◌, ◌≤◌, min, ◌≡◌, Bool, true, false, Option, Some, None, cond, not, ◌&&◌, ◌||◌, List, [], ◌∷◌, map, length, take, drop, leb, ltb, eqb}
use Rattle.keys.specs.Key.{slot_limit, valid_key, all_keys}
use Rattle.definitions.specs.Picture.{Picture}
use Rattle.definitions.specs.Read.{room, records_of, picture_of, is_list}
use Rattle.definitions.specs.Offices.{bad_office}
use Rattle.definitions.specs.Rules.{Finding, findings_of, waivers_of, live_of, hidden_count, is_rule, findings_ascend}
use Rattle.definitions.specs.declared.Rule.{Rule}
use Rattle.definitions.specs.declared.Found.{Found}
use Rattle.list.specs.First.{first_refusal}
use Rattle.offices.specs.Own.{own_of}
use Rattle.offices.specs.declared.own.OwnRows.{OwnRows}
use Rattle.walk.specs.Given.{written}
use Rattle.finding_runs.specs.declared.state.Mode.{Mode}
use Rattle.finding_runs.specs.declared.state.Mode.TheVariants.{Bounding, Walking, Resting}
use Rattle.finding_runs.specs.declared.state.RunState.{RunState}

-- how many waivers have a rule's id below x
unfoldable pub waivers_below : ℕ → List Finding → ℕ
waivers_below x [] = 0
waivers_below x (w ∷ ws) = cond (ltb w.id x) 1 0 + waivers_below x ws

-- every waiver's key is valid
unfoldable pub keys_valid : ℕ → List Finding → Bool
keys_valid m [] = true
keys_valid m (w ∷ ws) = valid_key m w.key && keys_valid m ws

-- the waivers are in order, and their keys are valid
unfoldable pub waivers_good : ℕ → List Finding → Bool
waivers_good m waivers = findings_ascend waivers && keys_valid m waivers

-- the number of a mode in a state
abbrev pub mode_number : Mode → ℕ
mode_number Bounding = 0
mode_number Walking = 1
mode_number Resting = 2

-- the asking office's rows: whether the table is good, its keys included; then where they begin, and how many they are
pub record OfficeRows : Type 0 where
  pub good : Bool
  pub offset : ℕ
  pub count : ℕ

-- no row, of a table that is good or not
abbrev pub no_rows : Bool → OfficeRows
no_rows good = record { good = good; offset = 0; count = 0 }

abbrev pub rows_told : Option OwnRows → OfficeRows
rows_told None = no_rows false
rows_told (Some own) = record { good = true; offset = own.offset; count = own.count }

abbrev pub own_told : (m office : ℕ) (offices ids waived : List ℕ) (rows : ℕ) → OfficeRows
own_told m office offices ids waived rows = rows_told (own_of m office offices ids waived rows)

-- the state, and what the two answer slices hold
pub record Progress : Type 0 where
  pub state : RunState
  pub ids : List ℕ
  pub keys : List ℕ

abbrev pub progress_of : RunState → List ℕ → List ℕ → Progress
progress_of state ids keys = record { state = state; ids = ids; keys = keys }

-- the same run, of which only what moves is told: settings, records, rows and room stay
abbrev pub moved : (st : RunState) (mode refusal next : ℕ) (faulty : Bool) (passed limit live hidden : ℕ) → RunState
moved st mode refusal next faulty passed limit live hidden =
    record {
      m = st.m;
      s = st.s;
      n = st.n;
      mode = mode;
      refusal = refusal;
      next = next;
      faulty = faulty;
      offset = st.offset;
      waivers = st.waivers;
      passed = passed;
      limit = limit;
      room = st.room;
      live = live;
      hidden = hidden;
    }

-- the run is refused with the number
abbrev pub refusing : (number : ℕ) (st : RunState) → RunState
refusing number st = moved st st.mode number st.next st.faulty st.passed st.limit st.live st.hidden

-- a waiver is wrong: from here on only the rules are looked at
abbrev pub faulty_from : (next : ℕ) (st : RunState) → RunState
faulty_from next st = moved st st.mode st.refusal next true st.passed st.limit st.live st.hidden

-- the rule's findings are counted
abbrev pub counting : (next passed live hidden : ℕ) (st : RunState) → RunState
counting next passed live hidden st = moved st st.mode st.refusal next st.faulty passed st.limit live hidden

-- the same run, which only bounds the number of findings, by the number so far
abbrev pub bounding : (live : ℕ) (st : RunState) → RunState
bounding live st = moved st 0 st.refusal st.next st.faulty st.passed st.limit live 0

-- a run that passes over all rules
abbrev pub resting : (st : RunState) → RunState
resting st = moved st 2 st.refusal st.next st.faulty st.passed st.limit st.live st.hidden

-- a run that goes through the rules from the first, and writes up to the limit
abbrev pub restarting : (limit : ℕ) (st : RunState) → RunState
restarting limit st = moved st 1 0 0 false 0 limit 0 0

-- the rule has the least id that may come, or a larger one, and is good
abbrev pub may_come : Rule → RunState → Bool
may_come rule st = leb st.next rule.id && is_rule st.m st.s rule

-- how many pixels the rule's window has
abbrev pub pixels_of : Rule → ℕ
pixels_of rule = rule.height * rule.width

module _ (keys bits waiver_ids waiver_keys : List ℕ) where
  abbrev waivers : List Finding
  waivers = waivers_of waiver_ids waiver_keys

  abbrev pub picture : RunState → Picture
  picture st = picture_of st.m (records_of keys bits st.n)

  -- some waiver's id is past the rules before this one, and before this one's
  abbrev pub is_unknown : Rule → RunState → Bool
  is_unknown rule st = ltb (waivers_below st.next waivers) (waivers_below rule.id waivers)

  abbrev pub findings_at : Rule → RunState → List Finding
  findings_at rule st = findings_of st.m (picture st) rule

  -- the rule's findings that its waivers do not hide are counted and written, the others counted
  abbrev pub gathered : Rule → Progress → Progress
  gathered rule p =
      progress_of
      (counting (rule.id + 1) (waivers_below (rule.id + 1) waivers)
      (p.state.live + length (live_of p.state.m waivers (findings_at rule p.state)))
      (p.state.hidden + hidden_count p.state.m waivers (findings_at rule p.state))
      p.state)
      (written p.state.limit p.ids p.state.live (map (λ x. x.id) (live_of p.state.m waivers (findings_at rule p.state))))
      (written p.state.limit p.keys p.state.live (map (λ x. x.key) (live_of p.state.m waivers (findings_at rule p.state))))

  -- their number is bounded by the pixels of the rule's window
  abbrev pub bounded : Rule → Progress → Progress
  bounded rule p =
      progress_of
      (counting (rule.id + 1) (waivers_below (rule.id + 1) waivers) (p.state.live + pixels_of rule) p.state.hidden p.state)
      p.ids
      p.keys

  unfoldable pub served : Rule → Progress → Progress
  served rule p = cond (eqb p.state.mode 0) (bounded rule p) (gathered rule p)

  -- one rule
  unfoldable pub rule_step : Rule → Progress → Progress
  rule_step rule p =
      cond (eqb p.state.refusal 0 && not (eqb p.state.mode 2))
      (cond (may_come rule p.state)
      (cond (p.state.faulty || is_unknown rule p.state)
      (progress_of (faulty_from (rule.id + 1) p.state) p.ids p.keys)
      (served rule p))
      (progress_of (refusing 13 p.state) p.ids p.keys))
      p

  -- all rules
  unfoldable pub rules_run : List Rule → Progress → Progress
  rules_run [] p = p
  rules_run (rule ∷ rules) p = rules_run rules (rule_step rule p)

  -- what a run that is not refused stands on
  pub record RulesFine (p : Progress) : Type 0 where
    pub level : p.state.m ≤ 10
    pub slots : p.state.s ≤ slot_limit
    pub list : is_list p.state.m p.state.s keys bits p.state.n ≡ true
    pub limit_ids : p.state.limit ≤ length p.ids
    pub limit_keys : p.state.limit ≤ length p.keys
    pub room_ids : p.state.room ≤ length p.ids
    pub room_keys : p.state.room ≤ length p.keys
    pub count : p.state.waivers ≡ room waiver_ids waiver_keys
    pub good : p.state.faulty ≡ false → waivers_good p.state.m waivers ≡ true
    pub passed : p.state.faulty ≡ false → p.state.passed ≡ waivers_below p.state.next waivers
    pub small : p.state.live + p.state.hidden ≤ p.state.next * all_keys

  pub record RulesReady (p : Progress) : Type 0 where
    pub fine : p.state.refusal ≡ 0 → RulesFine p

-- the part of a slice of the table that the asking office's rows take
abbrev pub own_part : RunState → List ℕ → List ℕ
own_part st l = take st.waivers (drop st.offset l)

module _ (keys bits ids waived : List ℕ) where
  -- one rule against the asking office's rows
  unfoldable pub table_step : Rule → Progress → Progress
  table_step rule p = rule_step keys bits (own_part p.state ids) (own_part p.state waived) rule p

  unfoldable pub table_run : List Rule → Progress → Progress
  table_run [] p = p
  table_run (rule ∷ rules) p = table_run rules (table_step rule p)

  pub record TableReady (p : Progress) : Type 0 where
    pub in_ids : p.state.offset + p.state.waivers ≤ length ids
    pub in_waived : p.state.offset + p.state.waivers ≤ length waived
    pub own : RulesReady keys bits (own_part p.state ids) (own_part p.state waived) p

-- how a counting run begins: with the refusals 21, 1 and 4 decided, and whether the table is wrong by itself
unfoldable pub begin_refusal : ℕ → ℕ → ℕ → List ℕ → List ℕ → ℕ → ℕ
begin_refusal office m s keys bits n = cond (bad_office office) 21 (first_refusal m s keys bits n)

unfoldable pub begin_of : ℕ → ℕ → List ℕ → List ℕ → ℕ → ℕ → OfficeRows → ℕ → ℕ → RunState
begin_of m s keys bits n office own room_ids room_keys =
    record {
      m = m;
      s = s;
      n = n;
      mode = 1;
      refusal = begin_refusal office m s keys bits n;
      next = 0;
      faulty = not own.good;
      offset = own.offset;
      waivers = own.count;
      passed = 0;
      limit = 0;
      room = min room_ids room_keys;
      live = 0;
      hidden = 0;
    }

-- the asking office's rows, which are looked for where nothing is refused so far
unfoldable pub own_at : ℕ → ℕ → List ℕ → List ℕ → ℕ → ℕ → List ℕ → List ℕ → List ℕ → ℕ → OfficeRows
own_at m s keys bits n office offices ids waived rows =
    cond (eqb (begin_refusal office m s keys bits n) 0) (own_told m office offices ids waived rows) (no_rows true)

-- a run is over: 14 is decided, and 12 where the findings were counted; then comes the run that counts, or that writes
unfoldable pub after_run : RunState → RunState
after_run st =
    cond (eqb st.refusal 0)
    (cond (st.faulty || ltb st.passed st.waivers) (refusing 14 st)
    (cond (eqb st.mode 0)
    (cond (ltb st.room st.live) (restarting 0 st) (resting st))
    (cond (ltb st.room st.live) (refusing 12 st) (restarting st.room st))))
    st

-- what the call answers
unfoldable pub answer_of : RunState → Found
answer_of st =
    record {
      refusal = st.refusal;
      live = cond (eqb st.refusal 0 || eqb st.refusal 12) st.live 0;
      hidden = cond (eqb st.refusal 0) st.hidden 0;
    }

-- the numbers that findings answers: 0, and its six refusals
abbrev pub is_findings_number : ℕ → Bool
is_findings_number number = eqb number 0 || (eqb number 1 || (eqb number 4 || (eqb number 12 || (eqb number 13 || (eqb number 14 || eqb number 21)))))

-- an answer of findings has one of these numbers; places are needed with 12 alone, and nothing is hidden where it is refused
pub record OfFindings (f : Found) : Type 0 where
  pub number : is_findings_number f.refusal ≡ true
  pub places : (f.refusal ≡ 0 → ⊥) → (f.refusal ≡ 12 → ⊥) → f.live ≡ 0
  pub hidden : (f.refusal ≡ 0 → ⊥) → f.hidden ≡ 0
