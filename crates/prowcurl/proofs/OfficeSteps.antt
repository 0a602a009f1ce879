-- The isolation of two offices is tied to the C calls: a call that adds or removes a waiver and keeps its contract, as it stands in src/, takes the step of
-- `after_ask`. So two runs of such calls in which an office asks the same leave it the same rows, refuse it by the same numbers, and a call of findings that keeps
-- its contract then gives it the same. Rests on the contracts, and at the end on the theorem of offices in history.
use Prim.Native.Nat.{ℕ}
use mathlib.Core.Path.{◌≡◌, refl, sym, ap, ap₂, ◌∙◌}
use mathlib.Core.Bool.{Bool, true, false, cond}
use mathlib.Core.List.{List, [], ◌∷◌}
use lib.Dec.{eqb}
use contract.Lifetimes.{Lfts}
use denote.Ref.{Bor}
use denote.Triple.Clauses.{at_exit}
use denote.Triple.Entry.{Args}
use Rattle.definitions.specs.Refusal.{accepted}
use Rattle.definitions.specs.Offices.{rows_of}
use Rattle.definitions.specs.Calls.AddWaiver.{add_waiver}
use Rattle.definitions.specs.Calls.RemoveWaiver.{remove_waiver}
use Rattle.definitions.specs.Calls.Findings.{findings as findings_answer, findings_ids, findings_keys}
use Rattle.definitions.specs.declared.Counted.{Counted}
use Rattle.definitions.specs.declared.Found.{Found}
use Rattle.definitions.specs.declared.Rule.{Rule}
use Rattle.history.specs.OfficeRuns.{Table, Ask, refusal_of, after_ask, after_all, own_asks, refusals_of}
use Rattle.history.proofs.OfficeIsolation.{table_in, GrownTable}
use Rattle.history.proofs.OfficeTheorem.{Empty, empty_grown, empty_share, same_rows, same_refusals, same_findings}
use Rattle.prowcurl.specs.contracts.waivers.hlq_add_waiver as add-waiver
use Rattle.prowcurl.proofs.waivers.hlq_add_waiver.Reads as add-waiver-reads
use Rattle.prowcurl.specs.contracts.waivers.hlq_remove_waiver as remove-waiver
use Rattle.prowcurl.proofs.waivers.hlq_remove_waiver.Reads as remove-waiver-reads
use Rattle.prowcurl.specs.contracts.findings.hlq_findings as findings
use Rattle.prowcurl.proofs.findings.hlq_findings.Reads as findings-reads
use Rattle.prowcurl.proofs.HistorySteps.{Slice, MutSlice}

-- a call at m that answers with this refusal takes the step of the asking a from the table t to t'
pub record AskSteps (m : ℕ) (t : Table) (a : Ask) (refusal : ℕ) (t' : Table) : Type 0 where
  pub refused : refusal ≡ refusal_of m t a
  pub left : t' ≡ after_ask m t a

-- an office adds a row, or removes one
abbrev pub asking : (adds : Bool) (office id key : ℕ) → Ask
asking adds office id key = record { adds = adds; office = office; id = id; key = key }

-- one such call: the slices and the count that it was lent, its answer, and the lists that it leaves in the slices
pub record Change : Type 0 where
  pub κs : Lfts 3
  pub offices : MutSlice
  pub ids : MutSlice
  pub waived : MutSlice
  pub rows : ℕ
  pub result : Counted
  pub offices' : List ℕ
  pub ids' : List ℕ
  pub waived' : List ℕ

-- the table that the caller had
abbrev pub table_before : Change → Table
table_before x = record { offices = x.offices.now; ids = x.ids.now; waived = x.waived.now; rows = x.rows }

-- what he has with these slices and this answer: its count if it is accepted, and else his own
abbrev counted : Change → Counted → (offices ids waived : List ℕ) → Table
counted x r offices ids waived = record { offices = offices; ids = ids; waived = waived; rows = accepted r.refusal r.count x.rows }

-- what he has after the call
abbrev pub table_after : Change → Table
table_after x = counted x x.result x.offices' x.ids' x.waived'

module _ (m : ℕ) (x : Change) (office id key : ℕ) where
  -- the contract of hlq_add_waiver holds of the call
  abbrev pub KeepsAdd : Type 0
  KeepsAdd =
      let lent : Args add-waiver.signature x.κs = (m, (office, (x.offices, (x.ids, (x.waived, (x.rows, (id, (key, tt)))))))) in
      add-waiver-reads.Learnt x.κs lent x.result
      (at_exit add-waiver.ended x.κs lent (tt, (tt, (x.offices', (x.ids', (x.waived', (tt, (tt, (tt, tt)))))))))

  -- it gives the step of an adding
  pub add_step : KeepsAdd → AskSteps m (table_before x) (asking true office id key) x.result.refusal (table_after x)
  unfolding refusal_of after_ask add_waiver
  add_step kept =
      record {
        refused = ap (λ (r : Counted). r.refusal) kept.0;
        left = λ i. counted x (kept.0 i) (kept.1 i) (kept.2 i) (kept.3 i);
      }

  -- that of hlq_remove_waiver
  abbrev pub KeepsRemove : Type 0
  KeepsRemove =
      let lent : Args remove-waiver.signature x.κs = (m, (office, (x.offices, (x.ids, (x.waived, (x.rows, (id, (key, tt)))))))) in
      remove-waiver-reads.Learnt x.κs lent x.result
      (at_exit remove-waiver.ended x.κs lent (tt, (tt, (x.offices', (x.ids', (x.waived', (tt, (tt, (tt, tt)))))))))

  -- gives the step of a removing
  pub remove_step : KeepsRemove → AskSteps m (table_before x) (asking false office id key) x.result.refusal (table_after x)
  unfolding refusal_of after_ask remove_waiver
  remove_step kept =
      record {
        refused = ap (λ (r : Counted). r.refusal) kept.0;
        left = λ i. counted x (kept.0 i) (kept.1 i) (kept.2 i) (kept.3 i);
      }

-- what was asked, and the refusal that was answered
pub record OfficeTold : Type 0 where
  pub ask : Ask
  pub refusal : ℕ

abbrev told : Ask → ℕ → OfficeTold
told a refusal = record { ask = a; refusal = refusal }

-- all that was asked, and what an office was refused with
unfoldable pub asks_in : List OfficeTold → List Ask
asks_in [] = []
asks_in (t ∷ ts) = t.ask ∷ asks_in ts

unfoldable pub told_to : (office : ℕ) → List OfficeTold → List ℕ
told_to office [] = []
told_to office (t ∷ ts) = cond (eqb t.ask.office office) (t.refusal ∷ told_to office ts) (told_to office ts)

-- calls one after the other, each of which keeps its contract and was lent what the one before it left
pub data AsksRan (m : ℕ) : Table → List OfficeTold → Table → Type 0 where
  done : {t : Table} → AsksRan m t [] t
  by_add : {t' : Table} {ts : List OfficeTold} (x : Change) (office id key : ℕ) → KeepsAdd m x office id key → AsksRan m (table_after x) ts t'
      → AsksRan m (table_before x) (told (asking true office id key) x.result.refusal ∷ ts) t'
  by_remove : {t' : Table} {ts : List OfficeTold} (x : Change) (office id key : ℕ) → KeepsRemove m x office id key → AsksRan m (table_after x) ts t'
      → AsksRan m (table_before x) (told (asking false office id key) x.result.refusal ∷ ts) t'

module _ (m : ℕ) where
  further : {t t' t'' : Table} {a : Ask} {refusal : ℕ} (ts : List OfficeTold) → AskSteps m t a refusal t' → t'' ≡ after_all m t' (asks_in ts)
      → t'' ≡ after_all m t (asks_in (told a refusal ∷ ts))
  unfolding after_all asks_in
  further ts step rest = rest ∙ ap (λ (t : Table). after_all m t (asks_in ts)) step.left

  -- they lead where the run of history leads
  pub asks_lead : {t t' : Table} {ts : List OfficeTold} → AsksRan m t ts t' → t' ≡ after_all m t (asks_in ts)
  unfolding after_all asks_in
  asks_lead done = refl
  asks_lead (by_add {ts = ts} x office id key kept rest) = further ts (add_step m x office id key kept) (asks_lead rest)
  asks_lead (by_remove {ts = ts} x office id key kept rest) = further ts (remove_step m x office id key kept) (asks_lead rest)

  module _ (office : ℕ) where
    refused_too : {t t' : Table} {a : Ask} {refusal : ℕ} (ts : List OfficeTold) → AskSteps m t a refusal t' → told_to office ts ≡ refusals_of m office t' (asks_in ts)
        → told_to office (told a refusal ∷ ts) ≡ refusals_of m office t (asks_in (told a refusal ∷ ts))
    unfolding told_to refusals_of asks_in
    refused_too {a = a} ts step rest =
        let later = rest ∙ ap (λ (t : Table). refusals_of m office t (asks_in ts)) step.left in
        ap₂ (λ r rs. cond (eqb a.office office) (r ∷ rs) rs) step.refused later

    -- and refuse an office as it does
    pub asks_refuse : {t t' : Table} {ts : List OfficeTold} → AsksRan m t ts t' → told_to office ts ≡ refusals_of m office t (asks_in ts)
    unfolding told_to refusals_of asks_in
    asks_refuse done = refl
    asks_refuse (by_add {ts = ts} x asker id key kept rest) = refused_too ts (add_step m x asker id key kept) (asks_refuse rest)
    asks_refuse (by_remove {ts = ts} x asker id key kept rest) = refused_too ts (remove_step m x asker id key kept) (asks_refuse rest)

-- one call of hlq_findings: what it was lent, its answer, and the lists that it leaves in the two slices that it may write
pub record FindingsCall : Type 0 where
  pub κs : Lfts 8
  pub keys : Slice
  pub bits : Slice
  pub n : ℕ
  pub rules : Bor (List Rule)
  pub offices : Slice
  pub ids : Slice
  pub waived : Slice
  pub rows : ℕ
  pub found_ids : MutSlice
  pub found_keys : MutSlice
  pub result : Found
  pub found_ids' : List ℕ
  pub found_keys' : List ℕ

-- the table that it was lent
abbrev pub table_lent : FindingsCall → Table
table_lent x = record { offices = x.offices.now; ids = x.ids.now; waived = x.waived.now; rows = x.rows }

-- and what else
pub record OfficeLent : Type 0 where
  pub keys : List ℕ
  pub bits : List ℕ
  pub n : ℕ
  pub rules : List Rule
  pub found_ids : List ℕ
  pub found_keys : List ℕ

abbrev pub also_lent : FindingsCall → OfficeLent
also_lent x = record { keys = x.keys.now; bits = x.bits.now; n = x.n; rules = x.rules.now; found_ids = x.found_ids.now; found_keys = x.found_keys.now }

-- what it answers and leaves
pub record OfficeOutcome : Type 0 where
  pub result : Found
  pub ids : List ℕ
  pub keys : List ℕ

abbrev pub outcome : FindingsCall → OfficeOutcome
outcome x = record { result = x.result; ids = x.found_ids'; keys = x.found_keys' }

module _ (m s office : ℕ) where
  -- what findings gives an office by its definition
  abbrev found_by : OfficeLent → Table → OfficeOutcome
  found_by q t =
      record {
        result = findings_answer m s q.keys q.bits q.n office q.rules t.offices t.ids t.waived t.rows q.found_ids q.found_keys;
        ids = findings_ids m s q.keys q.bits q.n office q.rules t.offices t.ids t.waived t.rows q.found_ids q.found_keys;
        keys = findings_keys m s q.keys q.bits q.n office q.rules t.offices t.ids t.waived t.rows q.found_ids q.found_keys;
      }

  -- the contract of hlq_findings holds of the call
  abbrev pub KeepsFindings : FindingsCall → Type 0
  KeepsFindings x =
      let lent : Args findings.signature x.κs =
      (m, (s, (x.keys, (x.bits, (x.n, (office, (x.rules, (x.offices, (x.ids, (x.waived, (x.rows, (x.found_ids, (x.found_keys, tt))))))))))))) in
      findings-reads.Learnt x.κs lent x.result
      (at_exit findings.ended x.κs lent (tt, (tt, (tt, (tt, (tt, (tt, (tt, (tt, (tt, (tt, (tt, (x.found_ids', (x.found_keys', tt))))))))))))))

  findings_kept : (x : FindingsCall) → KeepsFindings x → outcome x ≡ found_by (also_lent x) (table_lent x)
  findings_kept x kept = λ i. record { result = kept.0 i; ids = kept.1 i; keys = kept.2 i }

-- two runs of calls from tables grown at one m, in which an office has the same rows and asks the same
module _ (m office : ℕ) (T U T' U' : Table) (ts us : List OfficeTold) (g : GrownTable m T) (h : GrownTable m U) (begin : rows_of office (table_in T) ≡ rows_of office (table_in U))
    (agree : own_asks office (asks_in ts) ≡ own_asks office (asks_in us)) (ran : AsksRan m T ts T') (ran' : AsksRan m U us U') where
  -- leave it the same rows
  pub calls_rows : rows_of office (table_in T') ≡ rows_of office (table_in U')
  calls_rows =
      ap (λ (t : Table). rows_of office (table_in t)) (asks_lead m ran)
      ∙ same_rows m office T U (asks_in ts) (asks_in us) g h begin agree
      ∙ sym (ap (λ (t : Table). rows_of office (table_in t)) (asks_lead m ran'))

  -- refuse it by the same numbers
  pub calls_refusals : told_to office ts ≡ told_to office us
  calls_refusals = asks_refuse m office ran ∙ same_refusals m office T U (asks_in ts) (asks_in us) g h begin agree ∙ sym (asks_refuse m office ran')

  -- and calls of findings that are lent the two tables, and else the same, give it the same
  pub calls_findings : (s : ℕ) (x y : FindingsCall) → KeepsFindings m s office x → KeepsFindings m s office y → table_lent x ≡ T' → table_lent y ≡ U'
      → also_lent x ≡ also_lent y → outcome x ≡ outcome y
  calls_findings s x y kept kept' table table' same =
      let q = also_lent y in
      let all = same_findings m office T U (asks_in ts) (asks_in us) g h begin agree s q.keys q.bits q.n q.rules q.found_ids q.found_keys in
      let alike : found_by m s office q (after_all m T (asks_in ts)) ≡ found_by m s office q (after_all m U (asks_in us)) = λ i. record {
        result = all.0 i;
        ids = all.1 i;
        keys = all.2 i;
      } in
      findings_kept m s office x kept
      ∙ ap₂ (found_by m s office) same (table ∙ asks_lead m ran)
      ∙ alike
      ∙ ap (found_by m s office q) (sym (table' ∙ asks_lead m ran'))
      ∙ sym (findings_kept m s office y kept')

-- an office sees the same after two runs
pub record SeesTheSame (m office : ℕ) (T' U' : Table) (ts us : List OfficeTold) : Type 0 where
  pub rows : rows_of office (table_in T') ≡ rows_of office (table_in U')
  pub refusals : told_to office ts ≡ told_to office us
  pub found : (s : ℕ) (x y : FindingsCall) → KeepsFindings m s office x → KeepsFindings m s office y → table_lent x ≡ T' → table_lent y ≡ U' → also_lent x ≡ also_lent y
      → outcome x ≡ outcome y

-- so it does where both begin with an empty table and it asks the same, whatever the other office asks in between
pub calls_isolated : (m office : ℕ) (T U T' U' : Table) (ts us : List OfficeTold) → Empty T → Empty U → own_asks office (asks_in ts) ≡ own_asks office (asks_in us)
    → AsksRan m T ts T' → AsksRan m U us U' → SeesTheSame m office T' U' ts us
calls_isolated m office T U T' U' ts us e f agree ran ran' =
    let g = empty_grown m T e in
    let h = empty_grown m U f in
    let begin = empty_share office T e ∙ sym (empty_share office U f) in
    record {
      rows = calls_rows m office T U T' U' ts us g h begin agree ran ran';
      refusals = calls_refusals m office T U T' U' ts us g h begin agree ran ran';
      found = calls_findings m office T U T' U' ts us g h begin agree ran ran';
    }
