-- Findings after an accepted paint, of a block or of a window: they are those of the painted picture, each given exactly when some pixel of it is waived nowhere; so one that the
-- paint leaves in place is given afterwards exactly when it was given before. Rests on PaintStep and on laws' OldFault.
use Prim.Native.Nat.{ℕ}
use mathlib.Core.Path.{◌≡◌, ap, ◌∙◌}
use mathlib.Core.Logic.{◌↔◌}
use mathlib.Core.Bool.{not, ◌||◌}
use mathlib.Core.List.{List, Memᴰ}
use Rattle.definitions.specs.Picture.{Picture}
use Rattle.definitions.specs.List.{Record}
use Rattle.definitions.specs.Read.{records_of, picture_of}
use Rattle.definitions.specs.Rules.{Finding, all_findings, live_of}
use Rattle.definitions.specs.Offices.{bad_table, table_of, rows_of, row_keys_valid}
use Rattle.definitions.specs.Calls.Findings.{live_in, findings_refusal}
use Rattle.definitions.specs.declared.Rule.{Rule}
use Rattle.laws.proofs.Pixels.{Agree}
use Rattle.laws.proofs.SelectAgree.{findings_agree}
use Rattle.laws.proofs.HiddenFindings.{WaivedBy, EveryPixelOf, LeftOver}
use Rattle.laws.proofs.OldFault.{answered, answered_live, live_after, live_as_before, accepted_not_live}
use Rattle.history.specs.History.{Buffers, Paint, painting, applied, after, answer}
use Rattle.history.proofs.Shown.{shown_replaced, shown_records}
use Rattle.history.proofs.Content.{map_back}
use Rattle.history.proofs.PaintStep.{list_after, paint_done}

-- the picture that the list in the buffers shows
abbrev records_in : Buffers → List Record
records_in b = records_of b.keys b.bits b.n

abbrev pub shows : ℕ → Buffers → Picture
shows m b = picture_of m (records_in b)

module _ (m s : ℕ) (b : Buffers) (y : Paint) (done : answer m s b (painting y) ≡ 0) where
  -- the list afterwards is that of the painted picture
  records_after : records_in (after m s b (painting y)) ≡ list_after m b y
  records_after = ap records_in (paint_done m s b y done) ∙ shown_records (shown_replaced b.n (list_after m b y) b.keys b.bits)

  painted_back : Agree (picture_of m (list_after m b y)) (applied m y (shows m b)) m 0 0
  painted_back = map_back m (applied m y (shows m b))

  -- the findings after an accepted paint are those of the painted picture
  pub painted_findings : (rules : List Rule) → all_findings m (shows m (after m s b (painting y))) rules ≡ all_findings m (applied m y (shows m b)) rules
  painted_findings rules =
      ap (λ l. all_findings m (picture_of m l) rules) records_after
      ∙ findings_agree m (picture_of m (list_after m b y)) (applied m y (shows m b)) rules painted_back

-- the same office asks with the same rules and the same table; the answer slices may be any
module _ (m s office : ℕ) (rules : List Rule) (offices table_ids waived : List ℕ) (rows : ℕ) where
  -- the office's own rows
  abbrev waivers : List Finding
  waivers = rows_of office (table_of offices table_ids waived rows)

  -- the call of findings is accepted on the list in the buffers
  abbrev pub FindingsAccepted : Buffers → List ℕ → List ℕ → Type 0
  FindingsAccepted b ids keys = findings_refusal m s b.keys b.bits b.n office rules offices table_ids waived rows ids keys ≡ 0

  -- the findings that it leaves in the answer slices
  abbrev pub given : Buffers → List ℕ → List ℕ → List Finding
  given b ids keys = answered m s b.keys b.bits b.n office (bad_table offices table_ids waived rows || not (row_keys_valid m (table_of offices table_ids waived rows))) rules waivers ids keys

  -- they are those of the picture that the waivers do not hide
  given_live : (b : Buffers) (ids keys : List ℕ) → FindingsAccepted b ids keys → given b ids keys ≡ live_of m waivers (all_findings m (shows m b) rules)
  unfolding live_in
  given_live b ids keys done = answered_live m s b.keys b.bits b.n office (bad_table offices table_ids waived rows || not (row_keys_valid m (table_of offices table_ids waived rows))) rules waivers ids keys done

  module _ (b : Buffers) (y : Paint) (done : answer m s b (painting y) ≡ 0) (ids' keys' : List ℕ) (done' : FindingsAccepted (after m s b (painting y)) ids' keys') where
    -- after an accepted paint those of the painted picture
    given_painted : given (after m s b (painting y)) ids' keys' ≡ live_of m waivers (all_findings m (applied m y (shows m b)) rules)
    given_painted = given_live (after m s b (painting y)) ids' keys' done' ∙ ap (live_of m waivers) (painted_findings m s b y done rules)

    -- a finding of the painted picture is given after the paint exactly when some pixel of its block lies in no waiver of its rule, whatever blocks the
    -- pixels were waived in and wherever its record now stands
    pub given_after : {x : Finding} → Memᴰ x (all_findings m (applied m y (shows m b)) rules)
        → Memᴰ x (given (after m s b (painting y)) ids' keys') ↔ LeftOver m waivers x
    given_after found = rw given_painted (live_after m rules waivers (applied m y (shows m b)) found)

    -- The fault of the old program cannot happen: a finding that the paint leaves in place is given after it exactly when it was given before. So the
    -- waivers that hid it still do, and hide no other
    pub given_as_before : (ids keys : List ℕ) → FindingsAccepted b ids keys
        → {x : Finding} → Memᴰ x (all_findings m (shows m b) rules) → Memᴰ x (all_findings m (applied m y (shows m b)) rules)
        → Memᴰ x (given (after m s b (painting y)) ids' keys') ↔ Memᴰ x (given b ids keys)
    given_as_before ids keys done₀ before found =
        rw (given_painted, given_live b ids keys done₀) (live_as_before m rules waivers (shows m b) (applied m y (shows m b)) before found)

    -- Nor the one that specification S13.17 rules out: no finding is given of which every pixel was accepted, though the paint made one block of several
    pub accepted_not_given : {x : Finding} → EveryPixelOf m x.key (WaivedBy m waivers x.id) → Memᴰ x (given (after m s b (painting y)) ids' keys') → ⊥
    accepted_not_given every i = accepted_not_live m rules waivers (applied m y (shows m b)) every (rw given_painted at i)
