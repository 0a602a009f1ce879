-- A batch is as good as its questions asked one by one: at each question's place stand the refusal and the value of the clipped single call, the places
-- past the questions stay, and of an accepted list a question is refused by 6 or 7 alone, report by 6 alone. Rests on First.
use Prim.Native.Nat.{ℕ, ◌+◌, ◌-◌, ◌≤◌, ◌<◌}
use mathlib.Core.Path.{◌≡◌, sym, ap, ◌∙◌}
use mathlib.Core.Bool.{true, false, cond}
use mathlib.Core.List.{List, map}
use mathlib.Core.Logic.{◌⊎◌, inl, inr}
use native.Mathlib.Omega.{arith}
use lib.ListN.{length, get_or, drop, length-map, get_or-append, get_or-map}
use lib.Seq.{get_or-drop, get_or-append-add}
use lib.IntN.{pos}
use borrow.Author.Tests.{eq-eqb, ne_eqb}
use Rattle.keys.proofs.Cases.{decide, equal}
use Rattle.definitions.specs.Read.{is_list}
use Rattle.definitions.specs.Buffer.{over}
use Rattle.definitions.specs.Refusal.{first, bad_settings, bad_feature}
use Rattle.definitions.specs.Window.{bad_window}
use Rattle.definitions.specs.Clip.{clipped_window}
use Rattle.definitions.specs.Calls.Exist.{exist_refusal, exist}
use Rattle.definitions.specs.Calls.Report.{report_refusal, report}
use Rattle.definitions.specs.Calls.Clipped.{exist_clipped, report_clipped}
use Rattle.definitions.specs.Calls.Batch.{refusal_to, value_to, batch_refusal, batch_refusals, batch_values}
use Rattle.definitions.specs.declared.Window.{Window}
use Rattle.definitions.specs.declared.Exists.{Exists}
use Rattle.definitions.specs.declared.Reported.{Reported}
use Rattle.definitions.specs.declared.Question.{Question}
use Rattle.laws.proofs.First.{accepted_done, accepted_left}

-- a question to stand where there is none
abbrev pub no_question : Question
no_question = record { report = 0; row = pos 0; column = pos 0; height = 0; width = 0; feature = 0 }

-- what stands over old content: the new elements, and past them the old
over_new : (f : Question → ℕ) (qs : List Question) (old : List ℕ) (i : ℕ) → i < length qs → get_or (over (map f qs) old) i (f no_question) ≡ f (get_or qs i no_question)
over_new f qs old i h =
    let e = length-map qs f in
    get_or-append (map f qs) (drop (length (map f qs)) old) (f no_question) i (omega arith) ∙ get_or-map f qs i no_question

over_old : (new old : List ℕ) (i : ℕ) → length new ≤ i → get_or (over new old) i 0 ≡ get_or old i 0
over_old new old i h =
    let k : length new + (i - length new) ≡ i = omega arith in
    sym (ap (λ j. get_or (over new old) j 0) k)
    ∙ get_or-append-add new (drop (length new) old) (i - length new) 0
    ∙ get_or-drop (length new) old (i - length new) 0
    ∙ ap (λ j. get_or old j 0) k

module _ (m s : ℕ) (keys bits : List ℕ) (n : ℕ) where
  -- the clipped single calls that a question stands for
  abbrev as_exist : Question → Exists
  as_exist q = exist_clipped m s keys bits n q.row q.column q.height q.width q.feature

  abbrev as_report : Question → Reported
  as_report q = report_clipped m s keys bits n q.row q.column q.height q.width

  pub asks_exist : (q : Question) → q.report ≡ 0 → (refusal_to m s keys bits n q ≡ (as_exist q).refusal) × (value_to m s keys bits n q ≡ (as_exist q).yes)
  unfolding refusal_to value_to
  asks_exist q e = let t = eq-eqb q.report 0 e in (rw t, rw t)

  pub asks_report : (q : Question) → (q.report ≡ 0 → ⊥) → (refusal_to m s keys bits n q ≡ (as_report q).refusal) × (value_to m s keys bits n q ≡ (as_report q).bits)
  unfolding refusal_to value_to
  asks_report q h = let t = ne_eqb q.report 0 h in (rw t, rw t)

  -- past 1 and 4 the window decides, and then the feature
  report_table : (w : Window) → bad_settings m s ≡ false → is_list m s keys bits n ≡ true → (report m s keys bits n w).refusal ≡ cond (bad_window m w) 6 0
  unfolding report report_refusal first
  report_table w good list = rw (good, list)

  exist_table : (w : Window) (f : ℕ) → bad_settings m s ≡ false → is_list m s keys bits n ≡ true
      → (exist m s keys bits n w f).refusal ≡ cond (bad_window m w) 6 (cond (bad_feature s f) 7 0)
  unfolding exist exist_refusal first
  exist_table w f good list = rw (good, list)

  -- a refused question has the value 0
  exist_nothing : (q : Question) → ((as_exist q).refusal ≡ 0 → ⊥) → (as_exist q).yes ≡ 0
  unfolding exist
  exist_nothing q h = accepted_left _ 0 h

  report_nothing : (q : Question) → ((as_report q).refusal ≡ 0 → ⊥) → (as_report q).bits ≡ 0
  unfolding report
  report_nothing q h = accepted_left _ 0 h

  pub refused_nothing : (q : Question) → (refusal_to m s keys bits n q ≡ 0 → ⊥) → value_to m s keys bits n q ≡ 0
  refused_nothing q h =
      equal q.report 0
      (λ e. let a = asks_exist q e in a.1 ∙ exist_nothing q (λ z. h (a.0 ∙ z)))
      (λ e. let a = asks_report q e in a.1 ∙ report_nothing q (λ z. h (a.0 ∙ z)))

  -- of an accepted list a question is refused by 6 or 7
  module _ (good : bad_settings m s ≡ false) (list : is_list m s keys bits n ≡ true) where
    pub report_six : (q : Question) → (q.report ≡ 0 → ⊥) → (refusal_to m s keys bits n q ≡ 0) ⊎ (refusal_to m s keys bits n q ≡ 6)
    report_six q h =
        let is = (asks_report q h).0 ∙ report_table _ good list in
        decide (bad_window m (clipped_window m q.row q.column q.height q.width))
        (λ bad. inr (is ∙ ap (λ t. cond t 6 0) bad))
        (λ fine. inl (is ∙ ap (λ t. cond t 6 0) fine))

    pub exist_six_seven : (q : Question) → q.report ≡ 0
        → (refusal_to m s keys bits n q ≡ 0) ⊎ ((refusal_to m s keys bits n q ≡ 6) ⊎ (refusal_to m s keys bits n q ≡ 7))
    exist_six_seven q h =
        let is = (asks_exist q h).0 ∙ exist_table _ q.feature good list in
        decide (bad_window m (clipped_window m q.row q.column q.height q.width))
        (λ bad. inr (inl (is ∙ rw bad)))
        (λ fine. decide (bad_feature s q.feature) (λ high. inr (inr (is ∙ rw (fine, high)))) (λ low. inl (is ∙ rw (fine, low))))

  module _ (questions : List Question) (refusals values : List ℕ) (none : batch_refusal m s keys bits n questions refusals values ≡ 0) where
    -- at each question's place stands what the single call gives
    pub refusal_at : (i : ℕ) → i < length questions
        → get_or (batch_refusals m s keys bits n questions refusals values) i (refusal_to m s keys bits n no_question) ≡ refusal_to m s keys bits n (get_or questions i no_question)
    unfolding batch_refusals
    refusal_at i h =
        ap (λ l. get_or l i (refusal_to m s keys bits n no_question)) (accepted_done _ refusals none) ∙ over_new (refusal_to m s keys bits n) questions refusals i h

    pub value-at : (i : ℕ) → i < length questions
        → get_or (batch_values m s keys bits n questions refusals values) i (value_to m s keys bits n no_question) ≡ value_to m s keys bits n (get_or questions i no_question)
    unfolding batch_values
    value-at i h =
        ap (λ l. get_or l i (value_to m s keys bits n no_question)) (accepted_done _ values none) ∙ over_new (value_to m s keys bits n) questions values i h

    -- and past the questions what stood there
    pub refusal_past : (i : ℕ) → length questions ≤ i → get_or (batch_refusals m s keys bits n questions refusals values) i 0 ≡ get_or refusals i 0
    unfolding batch_refusals
    refusal_past i h =
        let e = length-map questions (refusal_to m s keys bits n) in
        ap (λ l. get_or l i 0) (accepted_done _ refusals none) ∙ over_old (map (refusal_to m s keys bits n) questions) refusals i (omega arith)

    pub value_past : (i : ℕ) → length questions ≤ i → get_or (batch_values m s keys bits n questions refusals values) i 0 ≡ get_or values i 0
    unfolding batch_values
    value_past i h =
        let e = length-map questions (value_to m s keys bits n) in
        ap (λ l. get_or l i 0) (accepted_done _ values none) ∙ over_old (map (value_to m s keys bits n) questions) values i (omega arith)
