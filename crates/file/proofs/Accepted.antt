-- What holds where store and load are not refused, row by row of their tables, and what they give and leave there (specification S24).
-- Rests on the laws of tables.
use Prim.Native.Nat.{ℕ, ◌≤◌}
use mathlib.Core.Path.{◌≡◌, refl, ap}
use mathlib.Core.Bool.{true, false, cond, not}
use mathlib.Core.List.{List}
use lib.ListN.{length}
use lib.Dec.{eqb}
use borrow.Author.Tests.{ltb-false, le-ltb, not-false}
use Rattle.keys.specs.Key.{root_key}
use Rattle.definitions.specs.List.{keys_of, values_of}
use Rattle.definitions.specs.Read.{room, is_list, is_list_of_block}
use Rattle.definitions.specs.Buffer.{over}
use Rattle.definitions.specs.File.{m_in, s_in, n_in, records_in_file, too_short, wrong_mark, wrong_version, wrong_settings, wrong_length}
use Rattle.definitions.specs.Refusal.{bad_settings}
use Rattle.definitions.specs.Calls.Store.{stored, store_refusal, store, store_file}
use Rattle.definitions.specs.Calls.Load.{load_refusal, load, load_keys, load_bits}
use Rattle.laws.proofs.First.{first_none, none_first, accepted_done}

-- store's rows
pub record StoreAccepted (m s : ℕ) (keys bits : List ℕ) (n : ℕ) (file : List ℕ) : Type 0 where
  pub settings : bad_settings m s ≡ false
  pub listed : is_list m s keys bits n ≡ true
  pub roomy : length (stored m s keys bits n) ≤ length file

module _ (m s : ℕ) (keys bits : List ℕ) (n : ℕ) (file : List ℕ) where
  -- where store gives 0, no row of its table holds
  pub store_accepted : store_refusal m s keys bits n file ≡ 0 → StoreAccepted m s keys bits n file
  unfolding store_refusal
  store_accepted e =
      let none = first_none _ refl e in
      record { settings = none.0; listed = not-false _ none.1.0; roomy = ltb-false _ _ none.1.1.0 }

  -- where none holds, store gives 0
  pub store_accepts : StoreAccepted m s keys bits n file → store_refusal m s keys bits n file ≡ 0
  unfolding store_refusal
  store_accepts a = none_first _ (a.settings, (ap not a.listed, (le-ltb _ _ a.roomy, tt)))

  -- accepted, store gives the number of bytes
  pub store_count : store_refusal m s keys bits n file ≡ 0 → store m s keys bits n file ≡ record { refusal = 0; count = length (stored m s keys bits n) }
  unfolding store
  store_count e =
      let bytes = length (stored m s keys bits n) in
      λ i. record { refusal = e i; count = accepted_done bytes (cond (eqb (store_refusal m s keys bits n file) 12) bytes 0) e i }

  -- and leaves them over what was lent
  pub store_leaves : store_refusal m s keys bits n file ≡ 0 → store_file m s keys bits n file ≡ over (stored m s keys bits n) file
  unfolding store_file
  store_leaves e = accepted_done _ _ e

-- load's rows
pub record LoadAccepted (file keys bits : List ℕ) : Type 0 where
  pub long : too_short file ≡ false
  pub marked : wrong_mark file ≡ false
  pub versioned : wrong_version file ≡ false
  pub settings : wrong_settings file ≡ false
  pub exact : wrong_length file ≡ false
  pub listed : is_list_of_block (m_in file) (s_in file) (m_in file) 0 0 root_key (records_in_file file) ≡ true
  pub roomy : n_in file ≤ room keys bits

module _ (file keys bits : List ℕ) where
  -- where load gives 0, no row of its table holds
  pub load_accepted : load_refusal file keys bits ≡ 0 → LoadAccepted file keys bits
  unfolding load_refusal
  load_accepted e =
      let none = first_none _ refl e in
      let late = none.1.1.1.1 in
      record {
        long = none.0;
        marked = none.1.0;
        versioned = none.1.1.0;
        settings = none.1.1.1.0;
        exact = late.0;
        listed = not-false _ late.1.0;
        roomy = ltb-false _ _ late.1.1.0;
      }

  -- where none holds, load gives 0
  pub load_accepts : LoadAccepted file keys bits → load_refusal file keys bits ≡ 0
  unfolding load_refusal
  load_accepts a =
      none_first _
      (a.long, (a.marked, (a.versioned, (a.settings, (a.exact, (ap not a.listed, (le-ltb _ _ a.roomy, tt)))))))

  -- accepted, load gives the file's numbers
  pub load_gives : load_refusal file keys bits ≡ 0 → load file keys bits ≡ record { refusal = 0; m = m_in file; s = s_in file; n = n_in file }
  unfolding load
  load_gives e = λ i. record {
    refusal = e i;
    m = accepted_done (m_in file) 0 e i;
    s = accepted_done (s_in file) 0 e i;
    n = accepted_done (n_in file) 0 e i;
  }

  -- and leaves the file's records over what was lent
  pub load_leaves : load_refusal file keys bits ≡ 0
      → (load_keys file keys bits ≡ over (keys_of (records_in_file file)) keys) × (load_bits file keys bits ≡ over (values_of (records_in_file file)) bits)
  unfolding load_keys load_bits
  load_leaves e = (accepted_done _ _ e, accepted_done _ _ e)
