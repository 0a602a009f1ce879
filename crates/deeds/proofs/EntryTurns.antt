-- One entry of a run after the other, from the last: what it makes of a block, and when those before it need not be asked. Rests on Chains and Turned.
use Prim.Native.Nat.{ℕ, ◌+◌, ◌-◌, ◌^◌, ◌≤◌, ◌<◌}
use mathlib.Core.Path.{◌≡◌, sym, ◌∙◌, ap, ap₂, subst}
use mathlib.Core.Bool.{Bool, true, false, ◌&&◌}
use mathlib.Core.List.{List, [], ◌∷◌}
use native.Mathlib.Omega.{arith}
use lib.ListN.{get_or}
use lib.Dec.{leb, ltb}
use borrow.Author.Tests.{le-leb, lt-leb, lt-ltb, le-ltb, eq-eqb, ne_eqb}
use Rattle.keys.specs.Key.{valid_key, height_of}
use Rattle.keys.specs.Block.{in_interval}
use Rattle.keys.proofs.Cases.{split}
use Rattle.keys.proofs.Powers.{five_pos}
use Rattle.definitions.specs.Read.{records_of}
use Rattle.list.specs.Check.{one_slot}
use Rattle.edit_log.specs.declared.entry.Entry.{Entry}
use Rattle.edit_log.specs.Entries.{last_entry}
use Rattle.deeds.specs.Runs.{last_first, first_first, descends, Between, EntriesIn, back_bits, whole_of, given_by, met_by, meeting_by, Held, Asking}
use Rattle.deeds.specs.declared.meeting.Meeting.{Meeting}
use Rattle.deeds.specs.declared.meeting.Meeting.TheVariants.{Leaf, Content, Cut}
use Rattle.deeds.proofs.Chains.{last_none, first_onto, onto, onto-none, descends_none, descends_some, descends_first, descends_rest, run_ends, run_more, run_rest, last_valid, last_slot, last_within, last_less, between_rest}
use Rattle.deeds.proofs.Turned.{meeting_none, meeting_some, meeting_turn}
use Rattle.deeds.proofs.Lookups.{last_held}

-- a key in an interval, by the test of the code
pub not_from : (m outer inner : ℕ) → inner < outer → false ≡ in_interval m outer inner
unfolding in_interval
not_from m outer inner h = rw (lt-leb outer inner h)

pub from_so : (m outer inner step : ℕ) → outer ≤ inner → step ≡ 5 ^ height_of m outer → ltb (inner - outer) step ≡ in_interval m outer inner
unfolding in_interval
from_so m outer inner step h e =
    rw (le-leb outer inner h)
    (split inner (outer + 5 ^ height_of m outer)
    (λ lt. lt-ltb (inner - outer) step (omega arith) ∙ sym (lt-ltb inner (outer + 5 ^ height_of m outer) lt))
    (λ ge. le-ltb (inner - outer) step (omega arith) ∙ sym (le-ltb inner (outer + 5 ^ height_of m outer) ge)))

-- a block that ends at or before a key does not hold it
pub ends_before : (m x κ : ℕ) → x + 5 ^ height_of m x ≤ κ → in_interval m x κ ≡ false
unfolding in_interval
ends_before m x κ h = rw (le-leb x κ (omega arith), le-ltb κ (x + 5 ^ height_of m x) h)

-- what an entry makes of its own block: a leaf, or a content of several records
module _ (vs : List ℕ) (e : Entry) where
  pub whole_leaf : e.count ≡ 1 → Leaf (get_or vs e.start 0) ≡ whole_of vs e
  unfolding whole_of
  whole_leaf h = rw (eq-eqb e.count 1 h)

  pub whole_content : (e.count ≡ 1 → ⊥) → Content e.start e.count ≡ whole_of vs e
  unfolding whole_of
  whole_content h = rw (ne_eqb e.count 1 h)

-- what it makes of a block that its own holds
module _ (ks vs : List ℕ) (κ : ℕ) (e : Entry) where
  pub given_again : {bits : ℕ} → bits ≡ 2 ^ e.feature → Leaf bits ≡ given_by false ks vs κ e
  unfolding given_by
  given_again is = ap Leaf is

  pub given_whole : e.key ≡ κ → whole_of vs e ≡ given_by true ks vs κ e
  unfolding given_by
  given_whole i = rw (eq-eqb e.key κ i)

  module _ (i : e.key ≡ κ → ⊥) (bits : ℕ) (is : bits ≡ back_bits ks vs κ e) where
    pub given_one : one_slot bits ≡ true → Leaf bits ≡ given_by true ks vs κ e
    unfolding given_by
    given_one one = rw (ne_eqb e.key κ i, ← is, one)

    pub given_cut : one_slot bits ≡ false → Cut ≡ given_by true ks vs κ e
    unfolding given_by
    given_cut several = rw (ne_eqb e.key κ i, ← is, several)

-- what one entry makes of a block
module _ (m κ : ℕ) (gives : Entry → Meeting) (e : Entry) (others : Meeting) where
  pub met_holds : in_interval m e.key κ ≡ true → gives e ≡ met_by m κ gives e others
  unfolding met_by
  met_holds h = rw h

  pub met_parted : in_interval m e.key κ ≡ false → in_interval m κ e.key ≡ true → Cut ≡ met_by m κ gives e others
  unfolding met_by
  met_parted h i = rw (h, i)

  pub met_apart : in_interval m e.key κ ≡ false → in_interval m κ e.key ≡ false → others ≡ met_by m κ gives e others
  unfolding met_by
  met_apart h i = rw (h, i)

-- entries that descend below a limit at or before a block's key are all apart from it
pub none_met : (m : ℕ) (others : Meeting) (κ limit : ℕ) (gives : Entry → Meeting) (es : List Entry) → descends m limit es ≡ true → limit ≤ κ → meeting_by m others κ gives es ≡ others
none_met m others κ limit gives [] d h = meeting_none m others κ gives
none_met m others κ limit gives (e ∷ es) d h =
    let f = descends_first m limit e es d in
    let p = five_some (height_of m e.key) in
    meeting_some m others κ gives e es
    ∙ sym (met_apart m κ gives e (meeting_by m others κ gives es) (ends_before m e.key κ (omega arith)) (sym (not_from m κ e.key (omega arith))))
    ∙ none_met m others κ e.key gives es (descends_rest m limit e es d) (omega arith)
  where
    five_some : (k : ℕ) → 0 < 5 ^ k
    five_some k = five_pos k

-- the last entry of what is left, as it was read
module _ {m start end : ℕ} {ks vs : List ℕ} (d : Between m start end ks vs) (some : start < end) (e : Entry) (found : e ≡ last_entry (records_of ks vs end)) where
  pub turn_less : e.start < end
  turn_less = subst (λ x. x.start < end) (sym found) (last_less d some)

  pub turn_rest : Between m start e.start ks vs
  turn_rest = subst (λ x. Between m start x.start ks vs) (sym found) (between_rest d some)

  pub turn_more : last_first end ks vs start end ≡ e ∷ last_first e.start ks vs start e.start
  turn_more = subst (λ x. last_first end ks vs start end ≡ x ∷ last_first x.start ks vs start x.start) (sym found) (run_more d some)

  pub turn_valid : valid_key m e.key ≡ true
  turn_valid = subst (λ x. valid_key m x.key ≡ true) (sym found) (last_valid d some)

  pub turn_within : e.key + 5 ^ height_of m e.key ≤ 5 ^ m
  turn_within = subst (λ x. x.key + 5 ^ height_of m x.key ≤ 5 ^ m) (sym found) (last_within d some)

  pub turn_slot : e.feature ≤ 31
  turn_slot = subst (λ x. x.feature ≤ 31) (sym found) (last_slot d some)

  pub turn_held : (κ : ℕ) → in_interval m e.key κ ≡ true → Held e ks vs κ
  turn_held κ = subst (λ x. in_interval m x.key κ ≡ true → Held x ks vs κ) (sym found) (last_held (run_ends d some))

  pub turn_asking : (κ : ℕ) → Asking m e ks vs κ
  turn_asking κ = record { valid = turn_valid; slot = turn_slot; held = turn_held κ }

  -- the first decides: it has met the block, and those before it are left
  pub first_turns : (answer answer' : Meeting) (κ : ℕ) (gives : Entry → Meeting) {whole : Meeting}
      → meeting_by m answer κ gives (first_first end ks vs start end []) ≡ whole
      → answer' ≡ met_by m κ gives e answer
      → meeting_by m answer' κ gives (first_first e.start ks vs start e.start []) ≡ whole
  first_turns answer answer' κ gives inv is =
      ap₂ (λ a l. meeting_by m a κ gives l) is (first_onto e.start ks vs start e.start [])
      ∙ meeting_turn m answer κ gives e (last_first e.start ks vs start e.start)
      ∙ ap (λ l. meeting_by m answer κ gives (onto l [])) (sym turn_more)
      ∙ ap (meeting_by m answer κ gives) (sym (first_onto end ks vs start end []))
      ∙ inv

  -- the last decides: it holds the block, or lies inside it, or those before it are asked
  module _ (others : Meeting) (κ : ℕ) (gives : Entry → Meeting) where
    by_turn : meeting_by m others κ gives (last_first end ks vs start end) ≡ met_by m κ gives e (meeting_by m others κ gives (last_first e.start ks vs start e.start))
    by_turn = ap (meeting_by m others κ gives) turn_more ∙ meeting_some m others κ gives e (last_first e.start ks vs start e.start)

    pub last_holds : in_interval m e.key κ ≡ true → gives e ≡ meeting_by m others κ gives (last_first end ks vs start end)
    last_holds h = met_holds m κ gives e _ h ∙ sym by_turn

    pub last_parted : in_interval m e.key κ ≡ false → in_interval m κ e.key ≡ true → Cut ≡ meeting_by m others κ gives (last_first end ks vs start end)
    last_parted h i = met_parted m κ gives e _ h i ∙ sym by_turn

    pub last_apart : in_interval m e.key κ ≡ false → in_interval m κ e.key ≡ false
        → meeting_by m others κ gives (last_first e.start ks vs start e.start) ≡ meeting_by m others κ gives (last_first end ks vs start end)
    last_apart h i = met_apart m κ gives e _ h i ∙ sym by_turn

    -- of ordered ones none before one that ends before the block
    pub last_stops : descends m (5 ^ m) (last_first end ks vs start end) ≡ true → in_interval m e.key κ ≡ false → in_interval m κ e.key ≡ false → e.key < κ
        → others ≡ meeting_by m others κ gives (last_first end ks vs start end)
    last_stops o h i less =
        let all : descends m (5 ^ m) (e ∷ last_first e.start ks vs start e.start) ≡ true = sym (ap (descends m (5 ^ m)) turn_more) ∙ o in
        sym (none_met m others κ e.key gives (last_first e.start ks vs start e.start) (descends_rest m (5 ^ m) e _ all) (omega arith)) ∙ last_apart h i

  -- whether they descend, told by the last and those before it
  module _ (limit : ℕ) where
    descends_turn : descends m limit (last_first end ks vs start end)
        ≡ (leb (e.key + 5 ^ height_of m e.key) limit && descends m e.key (last_first e.start ks vs start e.start))
    descends_turn = ap (descends m limit) turn_more ∙ descends_some m limit e _

    pub descends_on : e.key + 5 ^ height_of m e.key ≤ limit
        → descends m e.key (last_first e.start ks vs start e.start) ≡ descends m limit (last_first end ks vs start end)
    descends_on h = sym (descends_turn ∙ ap (λ b. b && descends m e.key (last_first e.start ks vs start e.start)) (le-leb (e.key + 5 ^ height_of m e.key) limit h))

    pub descends_not : limit < e.key + 5 ^ height_of m e.key → false ≡ descends m limit (last_first end ks vs start end)
    descends_not h = sym (descends_turn ∙ ap (λ b. b && descends m e.key (last_first e.start ks vs start e.start)) (lt-leb (e.key + 5 ^ height_of m e.key) limit h))

-- a run without its last entry, as that was read
pub turn_entries : {m start end : ℕ} {ordered : Bool} {ks vs : List ℕ} → EntriesIn m (record { start = start; end = end; ordered = ordered }) ks vs → start < end
    → (e : Entry) → e ≡ last_entry (records_of ks vs end) → EntriesIn m (record { start = start; end = e.start; ordered = ordered }) ks vs
turn_entries {m} {start} {end} {ordered} {ks} {vs} d some e found =
    subst (λ x. EntriesIn m (record { start = start; end = x.start; ordered = ordered }) ks vs) (sym found) (run_rest d some)

pub limit_is : (m limit : ℕ) (es : List Entry) → limit ≡ 5 ^ m → descends m limit es ≡ descends m (5 ^ m) es
limit_is m limit es e = ap (λ x. descends m x es) e

-- no entry is left
pub last_over : (m : ℕ) (others : Meeting) (κ : ℕ) (gives : Entry → Meeting) (ks vs : List ℕ) (start end : ℕ) → end ≤ start → others ≡ meeting_by m others κ gives (last_first end ks vs start end)
last_over m others κ gives ks vs start end h = sym (ap (meeting_by m others κ gives) (last_none end ks vs start end h) ∙ meeting_none m others κ gives)

pub first_over : (m : ℕ) (others : Meeting) (κ : ℕ) (gives : Entry → Meeting) (ks vs : List ℕ) (start end : ℕ) → end ≤ start → others ≡ meeting_by m others κ gives (first_first end ks vs start end [])
first_over m others κ gives ks vs start end h =
    sym (ap (meeting_by m others κ gives) (first_onto end ks vs start end [] ∙ ap (λ l. onto l []) (last_none end ks vs start end h) ∙ onto-none []) ∙ meeting_none m others κ gives)

pub descends_over : (m limit : ℕ) (ks vs : List ℕ) (start end : ℕ) → end ≤ start → true ≡ descends m limit (last_first end ks vs start end)
descends_over m limit ks vs start end h = sym (ap (descends m limit) (last_none end ks vs start end h) ∙ descends_none m limit)
