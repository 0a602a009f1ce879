-- The entries between two places of a log, one after the other from the end. Rests on the laws of the log's last entry.
use Prim.Native.Nat.{ℕ, zero, suc, ◌+◌, ◌^◌, ◌≤◌, ◌<◌}
use mathlib.Core.Path.{◌≡◌, refl, sym, ◌∙◌, ap}
use mathlib.Core.Bool.{Bool, true, ◌&&◌}
use mathlib.Core.List.{List, [], ◌∷◌}
use native.Mathlib.Nat.{le_refl}
use native.Mathlib.Omega.{arith}
use lib.ListN.{length}
use lib.Dec.{leb}
use borrow.Author.Tests.{le-leb, lt-leb, leb-true}
use Rattle.keys.specs.Key.{height_of, valid_key}
use Rattle.keys.proofs.Cases.{decide, and_left, and_right, and_both}
use Rattle.keys.proofs.Valid.{valid_block, valid_below}
use Rattle.keys.proofs.Interval.{within}
use Rattle.definitions.specs.Read.{records_of}
use Rattle.definitions.specs.Log.{EndsInEntry}
use Rattle.laws.proofs.Records.{records-length}
use Rattle.edit_log.specs.declared.entry.Entry.{Entry}
use Rattle.edit_log.specs.Entries.{last_entry, Ended}
use Rattle.edit_log.proofs.Last.{entry_places}
use Rattle.deeds.specs.Runs.{last_first, first_first, Chain, done, more, descends, Between, EntriesIn}

-- the last entry between two places, and those before it
pub record Ends (m s : ℕ) (ks vs : List ℕ) (start end : ℕ) : Type 0 where
  pub in_keys : end ≤ length ks
  pub in_values : end ≤ length vs
  pub ends : EndsInEntry m s (records_of ks vs end)
  pub rest : Chain m s ks vs start (last_entry (records_of ks vs end)).start

pub chain_ends : {m s : ℕ} {ks vs : List ℕ} {start end : ℕ} → Chain m s ks vs start end → start < end → Ends m s ks vs start end
chain_ends done h = absurd (omega arith)
chain_ends (more some a b e rest) h = record { in_keys = a; in_values = b; ends = e; rest = rest }

module _ {m s : ℕ} {ks vs : List ℕ} {start end : ℕ} (e : Ends m s ks vs start end) where
  pub ends_ended : Ended ks vs end
  ends_ended =
      let size = records-length ks vs end e.in_keys e.in_values in
      record { in_keys = e.in_keys; in_values = e.in_values; all_there = omega (arith, e.ends.all_there) }

  pub ends_less : (last_entry (records_of ks vs end)).start < end
  ends_less = let p = entry_places ends_ended in omega arith

-- no entries, or one and those before it
pub last_none : (turns : ℕ) (ks vs : List ℕ) (start end : ℕ) → end ≤ start → last_first turns ks vs start end ≡ []
unfolding last_first
last_none zero ks vs start end h = refl
last_none (suc turns) ks vs start end h = rw (le-leb end start h)

pub last_some : (turns : ℕ) (ks vs : List ℕ) (start end : ℕ) → start < end
    → last_first (suc turns) ks vs start end ≡ last_entry (records_of ks vs end) ∷ last_first turns ks vs start (last_entry (records_of ks vs end)).start
unfolding last_first
last_some turns ks vs start end h = rw (lt-leb end start h)

-- more turns than places change nothing
pub last_turns : {m s : ℕ} {ks vs : List ℕ} {start end : ℕ} → Chain m s ks vs start end → (a b : ℕ) → end ≤ a → end ≤ b
    → last_first a ks vs start end ≡ last_first b ks vs start end
last_turns {ks = ks} {vs} {start} done a b h i = last_none a ks vs start start (le_refl _) ∙ sym (last_none b ks vs start start (le_refl _))
last_turns (more some x y e rest) zero b h i = absurd (omega arith)
last_turns (more some x y e rest) (suc a) zero h i = absurd (omega arith)
last_turns {ks = ks} {vs} {start} (more {end} some x y e rest) (suc a) (suc b) h i =
    let less = ends_less (record { in_keys = x; in_values = y; ends = e; rest = rest }) in
    last_some a ks vs start end some
    ∙ ap (λ l. last_entry (records_of ks vs end) ∷ l) (last_turns rest a b (omega arith) (omega arith))
    ∙ sym (last_some b ks vs start end some)

-- a run with entries: its last one, and those before it, by their places
pub chain_more : {m s : ℕ} {ks vs : List ℕ} {start : ℕ} (end : ℕ) → Chain m s ks vs start end → start < end
    → last_first end ks vs start end
    ≡ last_entry (records_of ks vs end) ∷ last_first (last_entry (records_of ks vs end)).start ks vs start (last_entry (records_of ks vs end)).start
chain_more zero c h = absurd (omega arith)
chain_more {ks = ks} {vs} {start} (suc end) c h =
    let e = chain_ends c h in
    let less = ends_less e in
    last_some end ks vs start (suc end) h
    ∙ ap (λ l. last_entry (records_of ks vs (suc end)) ∷ l) (last_turns e.rest end _ (omega arith) (le_refl _))

-- a list laid on another, the last first
unfoldable pub onto {ℓ} : {A : Type ℓ} → List A → List A → List A
onto [] ys = ys
onto (x ∷ xs) ys = onto xs (x ∷ ys)

pub onto-none {ℓ} : {A : Type ℓ} (ys : List A) → onto [] ys ≡ ys
unfolding onto
onto-none ys = refl

pub onto-some {ℓ} : {A : Type ℓ} (x : A) (xs ys : List A) → onto (x ∷ xs) ys ≡ onto xs (x ∷ ys)
unfolding onto
onto-some x xs ys = refl

-- the first first is the last first, turned round
pub first_onto : (turns : ℕ) (ks vs : List ℕ) (start end : ℕ) (others : List Entry)
    → first_first turns ks vs start end others ≡ onto (last_first turns ks vs start end) others
unfolding first_first last_first onto
first_onto zero ks vs start end others = refl
first_onto (suc turns) ks vs start end others =
    decide (leb end start)
    (λ h. rw h)
    (λ h. rw h (first_onto turns ks vs start (last_entry (records_of ks vs end)).start (last_entry (records_of ks vs end) ∷ others)))

-- what descends below a limit, entry by entry
pub descends_none : (m limit : ℕ) → descends m limit [] ≡ true
unfolding descends
descends_none m limit = refl

pub descends_some : (m limit : ℕ) (e : Entry) (es : List Entry) → descends m limit (e ∷ es) ≡ (leb (e.key + 5 ^ height_of m e.key) limit && descends m e.key es)
unfolding descends
descends_some m limit e es = refl

pub descends_first : (m limit : ℕ) (e : Entry) (es : List Entry) → descends m limit (e ∷ es) ≡ true → e.key + 5 ^ height_of m e.key ≤ limit
descends_first m limit e es h = leb-true _ _ (and_left (leb (e.key + 5 ^ height_of m e.key) limit) (descends m e.key es) (sym (descends_some m limit e es) ∙ h))

pub descends_rest : (m limit : ℕ) (e : Entry) (es : List Entry) → descends m limit (e ∷ es) ≡ true → descends m e.key es ≡ true
descends_rest m limit e es h = and_right (leb (e.key + 5 ^ height_of m e.key) limit) (descends m e.key es) (sym (descends_some m limit e es) ∙ h)

-- and so below a higher one
pub descends_wider : (m low high : ℕ) (es : List Entry) → low ≤ high → descends m low es ≡ true → descends m high es ≡ true
descends_wider m low high [] h d = descends_none m high
descends_wider m low high (e ∷ es) h d =
    let f = descends_first m low e es d in
    descends_some m high e es ∙ and_both (leb (e.key + 5 ^ height_of m e.key) high) (descends m e.key es) (le-leb (e.key + 5 ^ height_of m e.key) high (omega arith)) (descends_rest m low e es d)

-- two places with entries between them
module _ {m start end : ℕ} {ks vs : List ℕ} (d : Between m start end ks vs) (some : start < end) where
  abbrev pub last : Entry
  last = last_entry (records_of ks vs end)

  pub run_ends : Ends m d.s ks vs start end
  run_ends = chain_ends d.chain some

  pub run_ended : Ended ks vs end
  run_ended = ends_ended run_ends

  pub run_more : last_first end ks vs start end ≡ last ∷ last_first last.start ks vs start last.start
  run_more = chain_more end d.chain some

  pub last_valid : valid_key m last.key ≡ true
  last_valid = run_ends.ends.valid

  pub last_slot : last.feature ≤ 31
  last_slot = let a = run_ends.ends.below in let b = d.few in omega arith

  -- its block ends before the map's keys do
  pub last_within : last.key + 5 ^ height_of m last.key ≤ 5 ^ m
  last_within = let w = within (valid_block m last.key last_valid) in omega (arith, w.until)

  pub last_less : last.start < end
  last_less = ends_less run_ends

  -- those before the last
  pub between_rest : Between m start last.start ks vs
  between_rest = record { s = d.s; few = d.few; chain = run_ends.rest }

-- a run without its last entry
pub run_rest : {m start end : ℕ} {ordered : Bool} {ks vs : List ℕ} → EntriesIn m (record { start = start; end = end; ordered = ordered }) ks vs → start < end
    → EntriesIn m (record { start = start; end = (last_entry (records_of ks vs end)).start; ordered = ordered }) ks vs
run_rest {m} {start} {end} {ordered} {ks} {vs} d some =
    let e : Entry = last_entry (records_of ks vs end) in
    let es : List Entry = last_first e.start ks vs start e.start in
    record {
      between = between_rest d.between some;
      told = λ o.
          let all : descends m (5 ^ m) (e ∷ es) ≡ true = sym (ap (descends m (5 ^ m)) (run_more d.between some)) ∙ d.told o in
          let w = valid_below m e.key (last_valid d.between some) in
          descends_wider m e.key (5 ^ m) es (omega arith) (descends_rest m (5 ^ m) e es all);
    }
