-- A deed that is known to be one that can be done, by some proof: which proof does not matter, so it can be had back. A test tells whether the places between
-- two places of a log divide into entries. Rests on Chains.
use Prim.Native.Nat.{ℕ, zero, suc, ◌≤◌}
use mathlib.Core.Path.{◌≡◌, refl}
use mathlib.Core.Bool.{Bool, true, false, ◌&&◌, ◌||◌}
use mathlib.Core.List.{List}
use mathlib.Core.Logic.{∥∥₁_elim, ∥∥₁_prop}
use native.Mathlib.Nat.{le_refl}
use native.Mathlib.Bridge.{le_prop}
use native.Mathlib.Omega.{arith}
use lib.ListN.{length}
use lib.Dec.{leb, eqb, ltb}
use borrow.Author.Tests.{leb-true, le-leb, ltb-true, lt-ltb, eqb-true, eqb-false, eq-eqb}
use denote.Struct.Props.{≡_prop}
use Rattle.std.specs.Coded.{coded_bool}
use Rattle.keys.specs.Key.{slot_limit}
use Rattle.keys.proofs.Cases.{decide, and_left, and_right, and_both}
use Rattle.definitions.specs.Read.{records_of}
use Rattle.definitions.specs.Log.{last_is_entry}
use Rattle.definitions.specs.declared.Window.{Window}
use Rattle.laws.proofs.LogEntries.{ends_in_entry, entry_ends}
use Rattle.edit_log.specs.Entries.{last_entry}
use Rattle.deeds.specs.declared.run.Run.{Run}
use Rattle.deeds.specs.declared.deed.Deed.{Deed}
use Rattle.deeds.specs.declared.deed.Deed.TheVariants.{Fill, Back, Again}
use Rattle.deeds.specs.Runs.{Chain, done, more, Between, EntriesIn}
use Rattle.deeds.specs.Deed.{Painting, Doable}
use Rattle.deeds.proofs.Chains.{ends_less}

-- some number up to a limit passes a test
passes_below : ℕ → (ℕ → Bool) → Bool
passes_below zero test = test 0
passes_below (suc n) test = test (suc n) || passes_below n test

record Passing (limit : ℕ) (test : ℕ → Bool) : Type 0 where
  at : ℕ
  low : at ≤ limit
  passes : test at ≡ true

or_left : (a b : Bool) → a ≡ true → a || b ≡ true
or_left true b e = refl
or_left false b e = absurd (cc)

or_right : (a b : Bool) → b ≡ true → a || b ≡ true
or_right true b e = refl
or_right false b e = e

or_else : (a b : Bool) → a || b ≡ true → a ≡ false → b ≡ true
or_else true b e f = absurd (cc)
or_else false b e f = e

passed_below : (n : ℕ) (test : ℕ → Bool) → passes_below n test ≡ true → Passing n test
unfolding passes_below
passed_below zero test e = record { at = 0; low = omega arith; passes = e }
passed_below (suc n) test e =
    decide (test (suc n))
    (λ yes'. record { at = suc n; low = le_refl _; passes = yes' })
    (λ no'. let p = passed_below n test (or_else (test (suc n)) _ e no') in record { at = p.at; low = omega (arith, p.low); passes = p.passes })

below_passes : (n : ℕ) (test : ℕ → Bool) (s : ℕ) → s ≤ n → test s ≡ true → passes_below n test ≡ true
unfolding passes_below
below_passes zero test s low e = let z : s ≡ 0 = omega arith in rw z at e
below_passes (suc n) test s low e =
    decide (eqb s (suc n))
    (λ last. or_left (test (suc n)) _ (rw (eqb-true s (suc n) last) at e))
    (λ other. or_right (test (suc n)) _ (below_passes n test s (let ne = eqb-false s (suc n) other in omega arith) e))

-- an entry ends at the later of two places
ends_there : (m s : ℕ) (ks vs : List ℕ) (start end : ℕ) → Bool
ends_there m s ks vs start end = (ltb start end && (leb end (length ks) && leb end (length vs))) && last_is_entry m s (records_of ks vs end)

-- the places between them divide into entries, of at most so many
divides : (turns m : ℕ) (ks vs : List ℕ) (start end s : ℕ) → Bool
divides zero m ks vs start end s = eqb end start
divides (suc turns) m ks vs start end s =
    eqb end start || (ends_there m s ks vs start end && divides turns m ks vs start (last_entry (records_of ks vs end)).start s)

chain_divides : {m s : ℕ} {ks vs : List ℕ} {start end : ℕ} → Chain m s ks vs start end → (turns : ℕ) → end ≤ turns → divides turns m ks vs start end s ≡ true
unfolding divides ends_there
chain_divides {start = start} done zero h = eq-eqb start start refl
chain_divides {start = start} done (suc turns) h = or_left (eqb start start) _ (eq-eqb start start refl)
chain_divides (more some x y e rest) zero h = absurd (omega arith)
chain_divides {m} {s} {ks} {vs} {start} (more {end} some x y e rest) (suc turns) h =
    let less = ends_less (record { in_keys = x; in_values = y; ends = e; rest = rest }) in
    or_right (eqb end start) _
    (and_both (ends_there m s ks vs start end) _
    (and_both (ltb start end && (leb end (length ks) && leb end (length vs))) (last_is_entry m s (records_of ks vs end))
    (and_both (ltb start end) _ (lt-ltb _ _ some) (and_both (leb end (length ks)) _ (le-leb _ _ x) (le-leb _ _ y)))
    (entry_ends m s (records_of ks vs end) e))
    (chain_divides rest turns (omega arith)))

no_entries : {m s : ℕ} {ks vs : List ℕ} {start end : ℕ} → end ≡ start → Chain m s ks vs start end
no_entries {m} {s} {ks} {vs} {start} e = rw e done

divided : (turns m : ℕ) (ks vs : List ℕ) (start end s : ℕ) → divides turns m ks vs start end s ≡ true → Chain m s ks vs start end
unfolding divides ends_there
divided zero m ks vs start end s e = no_entries (eqb-true end start e)
divided (suc turns) m ks vs start end s e =
    decide (eqb end start)
    (λ none. no_entries (eqb-true end start none))
    (λ some.
    let both = or_else (eqb end start) _ e some in
    let one = and_left (ends_there m s ks vs start end) _ both in
    let there = and_left (ltb start end && (leb end (length ks) && leb end (length vs))) (last_is_entry m s (records_of ks vs end)) one in
    let sizes = and_right (ltb start end) (leb end (length ks) && leb end (length vs)) there in
    more
    (ltb-true start end (and_left (ltb start end) _ there))
    (leb-true end (length ks) (and_left (leb end (length ks)) _ sizes))
    (leb-true end (length vs) (and_right (leb end (length ks)) _ sizes))
    (ends_in_entry m s (records_of ks vs end) (and_right (ltb start end && (leb end (length ks) && leb end (length vs))) _ one))
    (divided turns m ks vs start (last_entry (records_of ks vs end)).start s (and_right (ends_there m s ks vs start end) _ both)))

open_painting : {w : Window} {feature : ℕ} → ∥ Painting w feature ∥₁ → Painting w feature
open_painting h = record {
  low = ∥∥₁_elim h le_prop (λ x. x.low);
  narrow = ∥∥₁_elim h le_prop (λ x. x.narrow);
  slot = ∥∥₁_elim h le_prop (λ x. x.slot);
}

module _ {m : ℕ} {ks vs : List ℕ} where
  open_between : {start end : ℕ} → ∥ Between m start end ks vs ∥₁ → Between m start end ks vs
  open_between {start} {end} h =
      let test : ℕ → Bool = divides end m ks vs start end in
      let passes : passes_below slot_limit test ≡ true =
      ∥∥₁_elim h (≡_prop coded_bool _ _) (λ b. below_passes slot_limit test b.s b.few (chain_divides b.chain end (le_refl _))) in
      let p = passed_below slot_limit test passes in
      record { s = p.at; few = p.low; chain = divided end m ks vs start end p.at p.passes }

  open_entries : {run : Run} → ∥ EntriesIn m run ks vs ∥₁ → EntriesIn m run ks vs
  open_entries h = record {
    between = open_between (∥∥₁_elim h ∥∥₁_prop (λ x. ∣ x.between ∣₁));
    told = λ o. ∥∥₁_elim h (≡_prop coded_bool _ _) (λ x. x.told o);
  }

module _ (m : ℕ) (ks vs : List ℕ) where
  pub open_doable : (deed : Deed) → ∥ Doable m deed ks vs ∥₁ → Doable m deed ks vs
  open_doable (Fill window feature) h = open_painting h
  open_doable (Back run) h = open_entries h
  open_doable (Again run) h = open_entries h
