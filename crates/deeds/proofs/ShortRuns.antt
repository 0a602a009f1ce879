-- A run without its last entries does the same to every pixel before their keys. Rests on Chains and Turned.
use Prim.Native.Nat.{ℕ, ◌≤◌, ◌<◌}
use mathlib.Core.Path.{◌≡◌, sym, ◌∙◌, ap, subst}
use mathlib.Core.Bool.{Bool, true, false, ◌||◌}
use mathlib.Core.List.{List, [], ◌∷◌, map}
use native.Mathlib.Omega.{arith}
use Rattle.keys.specs.Key.{valid_key}
use Rattle.keys.specs.Block.{in_block, pixel_key}
use Rattle.definitions.specs.Read.{records_of}
use Rattle.edit_log.specs.declared.entry.Entry.{Entry}
use Rattle.edit_log.specs.Entries.{last_entry}
use Rattle.deeds.specs.declared.run.Run.{Run}
use Rattle.deeds.specs.Step.{Step}
use Rattle.deeds.specs.Deed.{SameBefore, ShortRun}
use Rattle.deeds.specs.Runs.{Gift, touched, given, gifts_step, back_gift, again_gift, last_first, first_first, EntriesIn, back_step, again_step}
use Rattle.deeds.proofs.Gifts.{touched_cons, given_later}
use Rattle.deeds.proofs.SameBefore.{same_itself}
use Rattle.deeds.proofs.Chains.{onto, onto-some, first_onto}
use Rattle.deeds.proofs.Turned.{pixel_before, touched_onto, given_onto}
use Rattle.deeds.proofs.EntryTurns.{turn_entries, turn_more, turn_valid}
use Rattle.deeds.proofs.ByEntries.{back_key, again_key}

pub same_then : {m past : ℕ} {t t' t'' : Step} → SameBefore m past t t' → SameBefore m past t' t'' → SameBefore m past t t''
same_then s u = record {
  touches = λ row column h. u.touches row column h ∙ s.touches row column h;
  gives = λ row column h. u.gives row column h ∙ s.gives row column h;
}

-- one entry at or past a key, before others and behind others
module _ (m past : ℕ) (gift : Entry → Gift) (same_key : (e : Entry) → (gift e).key ≡ e.key) (e : Entry) (valid : valid_key m e.key ≡ true) (late : past ≤ e.key) where
  out : (a b : ℕ) → pixel_key m a b < past → in_block m (gift e).key a b ≡ false
  out a b h = ap (λ x. in_block m x a b) (same_key e) ∙ pixel_before m e.key a b valid (omega arith)

  touched_less : (es : List Entry) (a b : ℕ) → pixel_key m a b < past → touched m (map gift es) a b ≡ touched m (map gift (e ∷ es)) a b
  touched_less es a b h = sym (touched_cons m (gift e) (map gift es) a b ∙ ap (λ x. x || touched m (map gift es) a b) (out a b h))

  given_less : (es : List Entry) (a b : ℕ) → pixel_key m a b < past → given m (map gift es) a b ≡ given m (map gift (e ∷ es)) a b
  given_less es a b h = sym (given_later m (gift e) (map gift es) a b (out a b h))

  less_last : (es : List Entry) → SameBefore m past (gifts_step m (map gift (e ∷ es))) (gifts_step m (map gift es))
  less_last es = record { touches = λ a b h. touched_less es a b h; gives = λ a b h. given_less es a b h }

  less_first : (es : List Entry) → SameBefore m past (gifts_step m (map gift (onto (e ∷ es) []))) (gifts_step m (map gift (onto es [])))
  less_first es = record {
    touches = λ a b h. touched_onto m gift es [] (e ∷ []) a b (touched_less [] a b h) ∙ ap (λ l. touched m (map gift l) a b) (sym (onto-some e es []));
    gives = λ a b h. given_onto m gift es [] (e ∷ []) a b (given_less [] a b h) ∙ ap (λ l. given m (map gift l) a b) (sym (onto-some e es []));
  }

-- at first nothing is left out
pub short_begins : {m : ℕ} (past : ℕ) {run : Run} {ks vs : List ℕ} → EntriesIn m run ks vs → ShortRun m past run run ks vs
short_begins {m} past {run} {ks} {vs} d = record {
  entries = d;
  same_back = same_itself m past (back_step m run ks vs);
  same_again = same_itself m past (again_step m run ks vs);
}

-- an entry more is left out
pub short_turns : {m past start end : ℕ} {ordered : Bool} {run : Run} {ks vs : List ℕ}
    → ShortRun m past run (record { start = start; end = end; ordered = ordered }) ks vs
    → start < end → (e : Entry) → e ≡ last_entry (records_of ks vs end) → past ≤ e.key
    → ShortRun m past run (record { start = start; end = e.start; ordered = ordered }) ks vs
short_turns {m} {past} {start} {end} {ordered} {run} {ks} {vs} s some e found late =
    let d = s.entries.between in
    let es : List Entry = last_first e.start ks vs start e.start in
    let v = turn_valid d some e found in
    let parts = turn_more d some e found in
    let turned : first_first end ks vs start end [] ≡ onto (e ∷ es) [] = first_onto end ks vs start end [] ∙ ap (λ l. onto l []) parts in
    record {
      entries = turn_entries s.entries some e found;
      same_back = same_then s.same_back
          (subst (λ l. SameBefore m past (gifts_step m (map (back_gift m ks vs) l)) (gifts_step m (map (back_gift m ks vs) (first_first e.start ks vs start e.start [])))) (sym turned)
          (subst (λ l. SameBefore m past (gifts_step m (map (back_gift m ks vs) (onto (e ∷ es) []))) (gifts_step m (map (back_gift m ks vs) l))) (sym (first_onto e.start ks vs start e.start []))
          (less_first m past (back_gift m ks vs) (back_key m ks vs) e v late es)));
      same_again = same_then s.same_again
          (subst (λ l. SameBefore m past (gifts_step m (map again_gift l)) (gifts_step m (map again_gift es))) (sym parts) (less_last m past again_gift again_key e v late es));
    }

-- a key by another name
pub short_by : {m past past' : ℕ} {run run' : Run} {ks vs : List ℕ} → past ≡ past' → ShortRun m past run run' ks vs → ShortRun m past' run run' ks vs
short_by {m} {run = run} {run'} {ks} {vs} e s = subst (λ x. ShortRun m x run run' ks vs) e s
