-- What taking a run's entries back, or painting them again, makes of a block. Rests on Gifts, Turned and Lookups.
use Prim.Native.Nat.{ℕ, ◌^◌}
use mathlib.Core.Path.{◌≡◌, refl, sym, subst}
use mathlib.Core.Bool.{true, false}
use mathlib.Core.List.{List, [], ◌∷◌, map}
use native.Mathlib.Nat.{le_refl}
use Rattle.definitions.specs.Read.{records_of}
use Rattle.list.proofs.OneSlot.{power_slot}
use Rattle.edit_log.specs.declared.entry.Entry.{Entry}
use Rattle.edit_log.specs.Entries.{last_entry}
use Rattle.deeds.specs.declared.run.Run.{Run}
use Rattle.deeds.specs.declared.meeting.Meeting.{Meeting}
use Rattle.deeds.specs.declared.meeting.Meeting.TheVariants.{Apart}
use Rattle.deeds.specs.Step.{Step, plain}
use Rattle.deeds.specs.Meeting.{block_at, BlockAsked, Met}
use Rattle.deeds.specs.Runs.{Gift, gifts_step, back_gift, again_gift, given_by, meeting_by, last_first, Chain, done, more, EntriesIn, last_of_run, first_of_run, back_step, again_step}
use Rattle.deeds.proofs.Meetings.{Covers, covers_leaf, plain_bits, met_same}
use Rattle.deeds.proofs.Gifts.{Tells, AllTell, entries_meet}
use Rattle.deeds.proofs.Chains.{Ends, last_none, chain_more, onto, first_onto}
use Rattle.deeds.proofs.Turned.{AllValid, same_turned}
use Rattle.deeds.proofs.Lookups.{back_meets}

module _ (m : ℕ) (gift : Entry → Gift) (same_key : (e : Entry) → (gift e).key ≡ e.key) (gives : Entry → Meeting) (k r c κ : ℕ) (ks vs : List ℕ) where
  -- every entry tells, if each at the end of the records does
  chain_tells : {s start end : ℕ} → ((start end : ℕ) → Ends m s ks vs start end → Tells m gift same_key gives ks vs k r c κ (last_entry (records_of ks vs end)))
      → Chain m s ks vs start end → AllTell m gift same_key gives ks vs k r c κ (last_first end ks vs start end)
  chain_tells {start = start} tell done =
      subst (AllTell m gift same_key gives ks vs k r c κ) (sym (last_none start ks vs start start (le_refl _))) tt
  chain_tells {start = start} tell (more {end} some x y e rest) =
      subst (AllTell m gift same_key gives ks vs k r c κ) (sym (chain_more end (more some x y e rest) some))
      (tell start end (record { in_keys = x; in_values = y; ends = e; rest = rest }), chain_tells tell rest)

  tells_onto : (es others : List Entry) → AllTell m gift same_key gives ks vs k r c κ es → AllTell m gift same_key gives ks vs k r c κ others
      → AllTell m gift same_key gives ks vs k r c κ (onto es others)
  unfolding onto
  tells_onto [] others h i = i
  tells_onto (e ∷ es) others h i = tells_onto es (e ∷ others) h.1 (h.0, i)

-- so have valid keys
pub chain_valid : {m s : ℕ} {ks vs : List ℕ} {start end : ℕ} → Chain m s ks vs start end → AllValid m (last_first end ks vs start end)
chain_valid {m} {ks = ks} {vs} {start} done = subst (AllValid m) (sym (last_none start ks vs start start (le_refl _))) tt
chain_valid {m} (more {end} some x y e rest) = subst (AllValid m) (sym (chain_more end (more some x y e rest) some)) (e.valid, chain_valid rest)

pub back_key : (m : ℕ) (ks vs : List ℕ) (e : Entry) → (back_gift m ks vs e).key ≡ e.key
back_key m ks vs e = refl

pub again_key : (e : Entry) → (again_gift e).key ≡ e.key
again_key e = refl

-- an entry that is painted again makes one leaf of every block that its own holds
again_meets : (ks vs : List ℕ) (k r c κ : ℕ) (e : Entry) (t : Step) → Covers t (plain e.feature) k r c → Met t ks vs (block_at k r c κ) (given_by false ks vs κ e)
unfolding given_by
again_meets ks vs k r c κ e t over = record { told = covers_leaf t (plain e.feature) over (plain_bits e.feature k r c) (power_slot e.feature) }

module _ {m : ℕ} {run : Run} {ks vs : List ℕ} {k r c κ : ℕ} (d : EntriesIn m run ks vs) (a : BlockAsked m (block_at k r c κ)) where
  back_tells : AllTell m (back_gift m ks vs) (back_key m ks vs) (given_by true ks vs κ) ks vs k r c κ (last_of_run run ks vs)
  back_tells =
      chain_tells m (back_gift m ks vs) (back_key m ks vs) (given_by true ks vs κ) k r c κ ks vs
      (λ start end x. record { valid = x.ends.valid; told = back_meets x a.block })
      d.between.chain

  again_tells : AllTell m again_gift again_key (given_by false ks vs κ) ks vs k r c κ (last_of_run run ks vs)
  again_tells =
      chain_tells m again_gift again_key (given_by false ks vs κ) k r c κ ks vs
      (λ start end x. record { valid = x.ends.valid; told = λ h t over. again_meets ks vs k r c κ (last_entry (records_of ks vs end)) t over })
      d.between.chain

  -- the first entry decides where they are taken back
  pub back_by_first : {meeting : Meeting} → meeting ≡ meeting_by m Apart κ (given_by true ks vs κ) (first_of_run run ks vs) → Met (back_step m run ks vs) ks vs (block_at k r c κ) meeting
  back_by_first e =
      subst (Met (back_step m run ks vs) ks vs (block_at k r c κ)) (sym e)
      (entries_meet m (back_gift m ks vs) (back_key m ks vs) (given_by true ks vs κ) ks vs a.block (first_of_run run ks vs)
      (subst (AllTell m (back_gift m ks vs) (back_key m ks vs) (given_by true ks vs κ) ks vs k r c κ) (sym (first_onto run.end ks vs run.start run.end []))
      (tells_onto m (back_gift m ks vs) (back_key m ks vs) (given_by true ks vs κ) k r c κ ks vs (last_of_run run ks vs) [] back_tells tt)))

  -- and the last as well, where they are ordered
  pub back_by_last : {meeting : Meeting} → run.ordered ≡ true → meeting ≡ meeting_by m Apart κ (given_by true ks vs κ) (last_of_run run ks vs)
      → Met (back_step m run ks vs) ks vs (block_at k r c κ) meeting
  back_by_last {meeting} o e =
      subst (λ l. Met (gifts_step m (map (back_gift m ks vs) l)) ks vs (block_at k r c κ) meeting) (sym (first_onto run.end ks vs run.start run.end []))
      (met_same (same_turned m (back_gift m ks vs) (back_key m ks vs) (5 ^ m) (last_of_run run ks vs) (chain_valid d.between.chain) (d.told o) k r c)
      (subst (Met (gifts_step m (map (back_gift m ks vs) (last_of_run run ks vs))) ks vs (block_at k r c κ)) (sym e)
      (entries_meet m (back_gift m ks vs) (back_key m ks vs) (given_by true ks vs κ) ks vs a.block (last_of_run run ks vs) back_tells)))

  -- the last decides where they are painted again
  pub again_by_last : {meeting : Meeting} → meeting ≡ meeting_by m Apart κ (given_by false ks vs κ) (last_of_run run ks vs) → Met (again_step m run ks vs) ks vs (block_at k r c κ) meeting
  again_by_last e =
      subst (Met (again_step m run ks vs) ks vs (block_at k r c κ)) (sym e)
      (entries_meet m again_gift again_key (given_by false ks vs κ) ks vs a.block (last_of_run run ks vs) again_tells)
