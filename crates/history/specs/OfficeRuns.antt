-- Runs of adding and removing calls on one table at one m (specification S14.18): what a call asks, what the table is after it, and an office's own calls.
use Rattle.std.specs.Prelude.{ℕ, Bool, cond, List, [], ◌∷◌, eqb}
use Rattle.definitions.specs.Refusal.{accepted}
use Rattle.definitions.specs.Calls.AddWaiver.{add_refusal, add_waiver, add_offices, add_ids, add_keys}
use Rattle.definitions.specs.Calls.RemoveWaiver.{remove_refusal, remove_waiver, remove_offices, remove_ids, remove_keys}

-- a table in its three slices
pub record Table : Type 0 where
  pub offices : List ℕ
  pub ids : List ℕ
  pub waived : List ℕ
  pub rows : ℕ

-- a call: an office adds a row, or removes one
pub record Ask : Type 0 where
  pub adds : Bool
  pub office : ℕ
  pub id : ℕ
  pub key : ℕ

-- its refusal
unfoldable pub refusal_of : (m : ℕ) (t : Table) (a : Ask) → ℕ
refusal_of m t a =
    cond a.adds
    (add_refusal m a.office t.offices t.ids t.waived t.rows a.id a.key)
    (remove_refusal m a.office t.offices t.ids t.waived t.rows a.id a.key)

abbrev adding : (m : ℕ) (t : Table) (a : Ask) → Table
adding m t a =
    record {
      offices = add_offices m a.office t.offices t.ids t.waived t.rows a.id a.key;
      ids = add_ids m a.office t.offices t.ids t.waived t.rows a.id a.key;
      waived = add_keys m a.office t.offices t.ids t.waived t.rows a.id a.key;
      rows = accepted (add_refusal m a.office t.offices t.ids t.waived t.rows a.id a.key)
          (add_waiver m a.office t.offices t.ids t.waived t.rows a.id a.key).count t.rows;
    }

abbrev removing : (m : ℕ) (t : Table) (a : Ask) → Table
removing m t a =
    record {
      offices = remove_offices m a.office t.offices t.ids t.waived t.rows a.id a.key;
      ids = remove_ids m a.office t.offices t.ids t.waived t.rows a.id a.key;
      waived = remove_keys m a.office t.offices t.ids t.waived t.rows a.id a.key;
      rows = accepted (remove_refusal m a.office t.offices t.ids t.waived t.rows a.id a.key)
          (remove_waiver m a.office t.offices t.ids t.waived t.rows a.id a.key).count t.rows;
    }

-- the table after the call: the slices as it leaves them, and the count that it gives, or the old one where it is refused
unfoldable pub after_ask : (m : ℕ) (t : Table) (a : Ask) → Table
after_ask m t a = cond a.adds (adding m t a) (removing m t a)

-- after all calls, one after the other
unfoldable pub after_all : (m : ℕ) (t : Table) (asks : List Ask) → Table
after_all m t [] = t
after_all m t (a ∷ asks) = after_all m (after_ask m t a) asks

-- the calls of an office, and what they are refused with along the run
unfoldable pub own_asks : (office : ℕ) (asks : List Ask) → List Ask
own_asks office [] = []
own_asks office (a ∷ asks) = cond (eqb a.office office) (a ∷ own_asks office asks) (own_asks office asks)

unfoldable pub refusals_of : (m office : ℕ) (t : Table) (asks : List Ask) → List ℕ
refusals_of m office t [] = []
refusals_of m office t (a ∷ asks) =
    cond (eqb a.office office) (refusal_of m t a ∷ refusals_of m office (after_ask m t a) asks) (refusals_of m office (after_ask m t a) asks)
