-- The calls of a rest, as their promises tell them, lead where a rest may lead: what was answered and left is what the definitions say. Rests on ByFile.
use Prim.Native.Nat.{ℕ}
use mathlib.Core.Path.{◌≡◌, refl, sym, ap, subst, ◌∙◌}
use mathlib.Core.List.{List}
use lib.ListN.{take}
use Rattle.definitions.specs.Calls.Store.{store_refusal, store}
use Rattle.definitions.specs.Calls.Load.{load, load_keys, load_bits}
use Rattle.definitions.specs.Calls.FillSummary.{fill_refusal, fill_summary, filled_summary}
use Rattle.history.specs.History.{Buffers}
use Rattle.rests.specs.Events.{LogBrought, Rested, LentSlices}
use Rattle.rests.specs.ByFile.{file_from, loaded_with, RestCalls, comes_to}
use Rattle.rests.proofs.ByFile.{file_refusal_of, accepted_rests}

-- the refusals in the answers
store_refusal_of : (m s : ℕ) (keys bits : List ℕ) (n : ℕ) (buffer : List ℕ) → (store m s keys bits n buffer).refusal ≡ store_refusal m s keys bits n buffer
unfolding store
store_refusal_of m s keys bits n buffer = refl

fill_refusal_of : (m s : ℕ) (keys bits : List ℕ) (n : ℕ) (summary : List ℕ) → (fill_summary m s keys bits n summary).refusal ≡ fill_refusal m s keys bits n summary
unfolding fill_summary
fill_refusal_of m s keys bits n summary = refl

module _ {m s : ℕ} {b : Buffers} {buffer : List ℕ} {lent : LentSlices} (x : RestCalls m s b buffer lent) (log_keys log_values : List ℕ) (brought : ℕ) where
  -- the file is that of the definitions
  file_is : x.file ≡ file_from m s b buffer
  unfolding file_from
  file_is = x.same_file ∙ (λ i. take (x.store_answer i).count (x.store_leaves i))

  -- and so are the slices and the answer
  keys_are : x.keys' ≡ load_keys (file_from m s b buffer) lent.keys lent.bits
  keys_are = x.load-keys ∙ ap (λ l. load_keys l lent.keys lent.bits) file_is

  bits_are : x.bits' ≡ load_bits (file_from m s b buffer) lent.keys lent.bits
  bits_are = x.load-bits ∙ ap (λ l. load_bits l lent.keys lent.bits) file_is

  answer_is : x.loaded ≡ load (file_from m s b buffer) lent.keys lent.bits
  answer_is = x.load_answer ∙ ap (λ l. load l lent.keys lent.bits) file_is

  abbrev meant : Buffers
  meant = loaded_with m s (file_from m s b buffer) lent log_keys log_values brought b.in_force

  summary_is : x.summary' ≡ meant.summary
  summary_is = x.fill_leaves ∙ (λ i. filled_summary m s (keys_are i) (bits_are i) (answer_is i).n lent.summary)

  comes_as_meant : comes_to x log_keys log_values brought b.in_force ≡ meant
  comes_as_meant =
      λ i. record {
        keys = keys_are i;
        bits = bits_are i;
        n = (answer_is i).n;
        summary = summary_is i;
        log_keys = log_keys;
        log_values = log_values;
        used = brought;
        in_force = b.in_force;
      }

  fill_passes : fill_refusal m s meant.keys meant.bits meant.n lent.summary ≡ 0
  fill_passes =
      sym (fill_refusal_of m s meant.keys meant.bits meant.n lent.summary)
      ∙ sym (ap (λ r. r.refusal) (x.fill_answer ∙ (λ i. fill_summary m s (keys_are i) (bits_are i) (answer_is i).n lent.summary)))
      ∙ x.fill_passed

  -- with the log brought along they lead where a rest may lead
  pub calls_rest : LogBrought b.log_keys b.log_values brought log_keys log_values → Rested m s b brought (comes_to x log_keys log_values brought b.in_force)
  calls_rest log =
      subst (λ to. Rested m s b brought to) (sym comes_as_meant)
      (accepted_rests m s b buffer
      (sym (store_refusal_of m s b.keys b.bits b.n buffer) ∙ sym (ap (λ r. r.refusal) x.store_answer) ∙ x.store_passed)
      lent log_keys log_values brought
      (sym (file_refusal_of (file_from m s b buffer) lent.keys lent.bits) ∙ sym (ap (λ r. r.refusal) answer_is) ∙ x.load_passed)
      fill_passes
      log)
