-- The step of a run over a picture is the picture with the run's entries put back, one after the other, or painted again. Rests on Gifts and Chains.
use Prim.Native.Nat.{ℕ, zero, suc}
use mathlib.Core.Path.{◌≡◌, refl, sym, ◌∙◌, ap, ap₂, fun_ext}
use mathlib.Core.Bool.{◌||◌}
use mathlib.Core.List.{List, [], ◌∷◌, map}
use native.Mathlib.Nat.{le_refl}
use native.Mathlib.Omega.{arith}
use lib.ListN.{length}
use Rattle.keys.specs.Block.{in_block}
use Rattle.keys.proofs.Cases.{decide, or_left}
use Rattle.definitions.specs.Picture.{Picture}
use Rattle.definitions.specs.List.{Record}
use Rattle.definitions.specs.Read.{records_of, picture_of}
use Rattle.definitions.specs.Edit.{put, paint_in}
use Rattle.definitions.specs.Log.{last_key, last_feature, last_content, before_last, put_back, paint_again}
use Rattle.laws.proofs.Put.{put_in, put_out}
use Rattle.laws.proofs.LastEntry.{before_place}
use Rattle.laws.proofs.Records.{records_first}
use Rattle.edit_log.specs.declared.entry.Entry.{Entry}
use Rattle.edit_log.specs.Entries.{last_entry}
use Rattle.edit_log.proofs.Last.{content_run}
use Rattle.deeds.specs.declared.run.Run.{Run}
use Rattle.deeds.specs.declared.deed.Deed.TheVariants.{Back, Again}
use Rattle.deeds.specs.Step.{step_over, plain}
use Rattle.deeds.specs.Deed.{step_of}
use Rattle.deeds.specs.Runs.{Gift, touched, gifts_step, back_gift, again_gift, last_first, first_first, Chain, done, more, EntriesIn, last_of_run}
use Rattle.deeds.proofs.Pruned.{over_in, over_out}
use Rattle.deeds.proofs.Gifts.{touched_cons, touched_none, given_this, given_later}
use Rattle.deeds.proofs.Chains.{Ends, ends_ended, ends_less, chain_more, last_none, onto, first_onto}

-- gifts laid on a picture one after the other, the head last, so that it decides
unfoldable laid : (m : ℕ) → List Gift → Picture → Picture
laid m [] p = p
laid m (g ∷ gs) p = put m g.key g.content (laid m gs p)

laid_some : (m : ℕ) (g : Gift) (gs : List Gift) (p : Picture) → laid m (g ∷ gs) p ≡ put m g.key g.content (laid m gs p)
unfolding laid
laid_some m g gs p = refl

laid_none : (m : ℕ) (p : Picture) → laid m [] p ≡ p
unfolding laid
laid_none m p = refl

-- that is the step of the gifts
over_laid : (m : ℕ) (gs : List Gift) (p : Picture) (a b : ℕ) → step_over (gifts_step m gs) p a b ≡ laid m gs p a b
over_laid m [] p a b = over_out (gifts_step m []) p a b (touched_none m a b) ∙ ap (λ q. q a b) (sym (laid_none m p))
over_laid m (g ∷ gs) p a b =
    decide (in_block m g.key a b)
    (λ h. over_in (gifts_step m (g ∷ gs)) p a b (touched_cons m g gs a b ∙ or_left _ _ h)
    ∙ given_this m g gs a b h
    ∙ sym (put_in m g.key g.content (laid m gs p) a b h))
    (λ h.
    let same : touched m (g ∷ gs) a b ≡ touched m gs a b = touched_cons m g gs a b ∙ ap (λ x. x || touched m gs a b) h in
    decide (touched m gs a b)
    (λ t. over_in (gifts_step m (g ∷ gs)) p a b (same ∙ t) ∙ given_later m g gs a b h ∙ sym (over_in (gifts_step m gs) p a b t))
    (λ t. over_out (gifts_step m (g ∷ gs)) p a b (same ∙ t) ∙ sym (over_out (gifts_step m gs) p a b t))
    ∙ over_laid m gs p a b
    ∙ sym (put_out m g.key g.content (laid m gs p) a b h))
    ∙ ap (λ q. q a b) (sym (laid_some m g gs p))

-- turned entries: what stands behind is laid first
laid_onto : (m : ℕ) (gift : Entry → Gift) (es others : List Entry) (p : Picture)
    → laid m (map gift (onto es others)) p ≡ laid m (map gift (onto es [])) (laid m (map gift others) p)
unfolding onto laid
laid_onto m gift [] others p = refl
laid_onto m gift (e ∷ es) others p =
    laid_onto m gift es (e ∷ others) p ∙ sym (laid_onto m gift es (e ∷ []) (laid m (map gift others) p))

-- what stands before the last entry of the records, and what that holds
module _ {m s : ℕ} {ks vs : List ℕ} {start end : ℕ} (x : Ends m s ks vs start end) where
  before_records : before_last (records_of ks vs end) ≡ records_of ks vs (last_entry (records_of ks vs end)).start
  before_records =
      let less = ends_less x in
      before_place (records_of ks vs end) ∙ records_first ks vs end (length (before_last (records_of ks vs end))) (omega arith)

  content_picture : picture_of m (last_content (records_of ks vs end)) ≡ (back_gift m ks vs (last_entry (records_of ks vs end))).content
  content_picture = ap (picture_of m) (content_run (ends_ended x))

back_some : (count m : ℕ) (log : List Record) (p : Picture)
    → put_back (suc count) m log p ≡ put_back count m (before_last log) (put m (last_key log) (picture_of m (last_content log)) p)
unfolding put_back
back_some count m log p = refl

back_none : (m : ℕ) (log : List Record) (p : Picture) → put_back zero m log p ≡ p
unfolding put_back
back_none m log p = refl

again_some : (count m : ℕ) (log : List Record) (p : Picture)
    → paint_again (suc count) m log p ≡ put m (last_key log) (plain (last_feature log)) (paint_again count m (before_last log) p)
unfolding paint_again paint_in
again_some count m log p = refl

again_none : (m : ℕ) (log : List Record) (p : Picture) → paint_again zero m log p ≡ p
unfolding paint_again
again_none m log p = refl

-- the entries of a chain put back
chain_back : {m s : ℕ} {ks vs : List ℕ} {start end : ℕ} → Chain m s ks vs start end → (p : Picture)
    → laid m (map (back_gift m ks vs) (onto (last_first end ks vs start end) [])) p ≡ put_back (length (last_first end ks vs start end)) m (records_of ks vs end) p
unfolding onto
chain_back {m} {s} {ks} {vs} {start} done p =
    let none = last_none start ks vs start start (le_refl _) in
    ap (λ l. laid m (map (back_gift m ks vs) (onto l [])) p) none
    ∙ laid_none m p
    ∙ sym (ap (λ l. put_back (length l) m (records_of ks vs start) p) none ∙ back_none m (records_of ks vs start) p)
chain_back {m} {s} {ks} {vs} {start} (more {end} some i j ends rest) p =
    let x : Ends m s ks vs start end = record { in_keys = i; in_values = j; ends = ends; rest = rest } in
    let e : Entry = last_entry (records_of ks vs end) in
    let es : List Entry = last_first e.start ks vs start e.start in
    let parts : last_first end ks vs start end ≡ e ∷ es = chain_more end (more some i j ends rest) some in
    let q : Picture = put m e.key (back_gift m ks vs e).content p in
    ap (λ l. laid m (map (back_gift m ks vs) (onto l [])) p) parts
    ∙ laid_onto m (back_gift m ks vs) es (e ∷ []) p
    ∙ ap (laid m (map (back_gift m ks vs) (onto es []))) (laid_some m (back_gift m ks vs e) [] p ∙ ap (put m e.key (back_gift m ks vs e).content) (laid_none m p))
    ∙ chain_back rest q
    ∙ ap₂ (λ l c. put_back (length es) m l (put m e.key c p)) (sym (before_records x)) (sym (content_picture x))
    ∙ sym (ap (λ l. put_back (length l) m (records_of ks vs end) p) parts ∙ back_some (length es) m (records_of ks vs end) p)

-- and painted again
chain_again : {m s : ℕ} {ks vs : List ℕ} {start end : ℕ} → Chain m s ks vs start end → (p : Picture)
    → laid m (map again_gift (last_first end ks vs start end)) p ≡ paint_again (length (last_first end ks vs start end)) m (records_of ks vs end) p
chain_again {m} {s} {ks} {vs} {start} done p =
    let none = last_none start ks vs start start (le_refl _) in
    ap (λ l. laid m (map again_gift l) p) none
    ∙ laid_none m p
    ∙ sym (ap (λ l. paint_again (length l) m (records_of ks vs start) p) none ∙ again_none m (records_of ks vs start) p)
chain_again {m} {s} {ks} {vs} {start} (more {end} some i j ends rest) p =
    let x : Ends m s ks vs start end = record { in_keys = i; in_values = j; ends = ends; rest = rest } in
    let e : Entry = last_entry (records_of ks vs end) in
    let es : List Entry = last_first e.start ks vs start e.start in
    let parts : last_first end ks vs start end ≡ e ∷ es = chain_more end (more some i j ends rest) some in
    ap (λ l. laid m (map again_gift l) p) parts
    ∙ laid_some m (again_gift e) (map again_gift es) p
    ∙ ap (put m e.key (plain e.feature)) (chain_again rest p ∙ ap (λ l. paint_again (length es) m l p) (sym (before_records x)))
    ∙ sym (ap (λ l. paint_again (length l) m (records_of ks vs end) p) parts ∙ again_some (length es) m (records_of ks vs end) p)

-- THE LAWS: a run of count entries at the end of a log
module _ {m : ℕ} {run : Run} {ks vs : List ℕ} (d : EntriesIn m run ks vs) {count : ℕ} {log : List Record}
    (many : length (last_of_run run ks vs) ≡ count) (is : log ≡ records_of ks vs run.end) where
  -- pixel by pixel
  pub back_over : (p : Picture) (row column : ℕ) → step_over (step_of m (Back run) ks vs) p row column ≡ put_back count m log p row column
  back_over p row column =
      over_laid m (map (back_gift m ks vs) (first_first run.end ks vs run.start run.end [])) p row column
      ∙ ap (λ l. laid m (map (back_gift m ks vs) l) p row column) (first_onto run.end ks vs run.start run.end [])
      ∙ ap (λ q. q row column) (chain_back d.between.chain p)
      ∙ ap₂ (λ n l. put_back n m l p row column) many (sym is)

  pub again_over : (p : Picture) (row column : ℕ) → step_over (step_of m (Again run) ks vs) p row column ≡ paint_again count m log p row column
  again_over p row column =
      over_laid m (map again_gift (last_of_run run ks vs)) p row column
      ∙ ap (λ q. q row column) (chain_again d.between.chain p)
      ∙ ap₂ (λ n l. paint_again n m l p row column) many (sym is)

  -- as pictures
  pub back_picture : (p : Picture) → step_over (step_of m (Back run) ks vs) p ≡ put_back count m log p
  back_picture p = fun_ext (λ row. fun_ext (λ column. back_over p row column))

  pub again_picture : (p : Picture) → step_over (step_of m (Again run) ks vs) p ≡ paint_again count m log p
  again_picture p = fun_ext (λ row. fun_ext (λ column. again_over p row column))
