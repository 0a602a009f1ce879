-- The last entry of a log: its key, count and content, and what stands before it; and a log that ends in one is put together of these. Rests on the
-- laws of lists.
use Prim.Native.Nat.{ℕ, suc, ◌+◌, ◌-◌, ◌≤◌}
use mathlib.Core.Path.{◌≡◌, refl, sym, ap, ap₂, ◌∙◌}
use mathlib.Core.List.{List, [], ◌∷◌, ◌++◌, append_assoc}
use native.Mathlib.Omega.{arith}
use lib.ListN.{length, get_or, take, drop, length-append, length-take, length-drop, take-append-drop}
use lib.Seq.{length-take-le, take_at, drop_at, get_or_at, drop-cons, drop-drop, drop-length}
use Rattle.definitions.specs.List.{Record, record_of}
use Rattle.definitions.specs.Log.{closed, closing_places, count_record, last_record, last_key, last_feature, last_count, before_last, last_content}

-- an entry has its content, and what closes it
pub length-closed : (κ : ℕ) (content : List Record) (f : ℕ) → length (closed κ content f) ≡ length content + closing_places
unfolding closed
length-closed κ content f = length-append content _

module _ (log : List Record) (κ : ℕ) (content : List Record) (f : ℕ) where
  -- an entry adds its content and what closes it
  pub length-with_entry : length (log ++ closed κ content f) ≡ length log + (length content + closing_places)
  length-with_entry = length-append log (closed κ content f) ∙ ap (λ n. length log + n) (length-closed κ content f)

  -- the log, the content, and the closing records
  abbrev front : List Record
  front = log ++ content

  joined : log ++ closed κ content f ≡ front ++ (record_of κ (length content) ∷ record_of κ f ∷ [])
  unfolding closed
  joined = sym (append_assoc log content _)

  -- the first closing record has the key and the number of content records
  pub count-record : count_record (log ++ closed κ content f) ≡ record_of κ (length content)
  unfolding count_record
  count-record =
      let all = length-with_entry in
      let size = length-append log content in
      ap (λ l. get_or l (length (log ++ closed κ content f) - 2) (record_of 0 0)) joined
      ∙ get_or_at front (record_of κ (length content)) (record_of κ f ∷ []) (record_of 0 0) (length (log ++ closed κ content f) - 2) (omega arith)

  -- the second one the key and the feature
  pub last-record : last_record (log ++ closed κ content f) ≡ record_of κ f
  unfolding last_record
  last-record =
      let all = length-with_entry in
      let size = length-append log content in
      let more = length-append front (record_of κ (length content) ∷ []) in
      ap (λ l. get_or l (length (log ++ closed κ content f) - 1) (record_of 0 0))
      (joined ∙ sym (append_assoc front (record_of κ (length content) ∷ []) (record_of κ f ∷ [])))
      ∙ get_or_at (front ++ (record_of κ (length content) ∷ [])) (record_of κ f) [] (record_of 0 0) (length (log ++ closed κ content f) - 1) (omega arith)

  -- so the key is the closing key
  pub last-key : last_key (log ++ closed κ content f) ≡ κ
  unfolding last_key
  last-key = ap (λ x. x.key) last-record

  -- the feature the one that was painted
  pub last-feature : last_feature (log ++ closed κ content f) ≡ f
  unfolding last_feature
  last-feature = ap (λ x. x.value) last-record

  -- and the count the number of content records
  pub last-count : last_count (log ++ closed κ content f) ≡ length content
  unfolding last_count
  last-count = ap (λ x. x.value) count-record

  before-length : length log ≡ length (log ++ closed κ content f) - (last_count (log ++ closed κ content f) + closing_places)
  before-length = let all = length-with_entry in let count = last-count in omega arith

  -- what stands before it is the log
  pub before_last_entry : before_last (log ++ closed κ content f) ≡ log
  unfolding before_last
  before_last_entry = take_at log (closed κ content f) _ before-length

  -- its content is the content
  pub last-content : last_content (log ++ closed κ content f) ≡ content
  unfolding last_content closed
  last-content =
      ap₂ (λ n l. take n l) last-count (drop_at log (closed κ content f) _ before-length) ∙ take_at content (record_of κ (length content) ∷ record_of κ f ∷ []) _ refl

-- less stands before the last entry than with it
pub before_less : (log : List Record) → length (before_last log) ≤ length log - closing_places
unfolding before_last
before_less log = let e = length-take (length log - (last_count log + closing_places)) log in omega arith

-- before the last entry stand the first records, so many as there are
pub before_place : (log : List Record) → before_last log ≡ take (length (before_last log)) log
unfolding before_last
before_place log =
    let n : ℕ = length log - (last_count log + closing_places) in
    let e : n ≡ length (take n log) = let f = length-take n log in omega arith in
    ap (λ i. take i log) e

-- the last entry of a log, where all of it is there
module _ (log : List Record) (there : last_count log + closing_places ≤ length log) where
  -- it takes the places past what stands before it
  pub length_before : length (before_last log) + (last_count log + closing_places) ≡ length log
  unfolding before_last
  length_before = let e = length-take (length log - (last_count log + closing_places)) log in omega arith

  -- its content stands first in them
  pub content_place : last_content log ≡ take (last_count log) (drop (length (before_last log)) log)
  unfolding last_content
  content_place =
      let e = length_before in
      let start : length log - (last_count log + closing_places) ≡ length (before_last log) = omega arith in
      ap (λ n. take (last_count log) (drop n log)) start

  -- and has as many records as its count says
  pub length-content : length (last_content log) ≡ last_count log
  length-content =
      let e = length_before in
      let f = length-drop (length (before_last log)) log in
      ap length content_place ∙ length-take-le (last_count log) _ (omega arith)

-- from the last place but one on there are the last two records
last_two : (log : List Record) → 2 ≤ length log → drop (length log - 2) log ≡ count_record log ∷ last_record log ∷ []
unfolding count_record last_record
last_two log room =
    let next : suc (length log - 2) ≡ length log - 1 = omega arith in
    let after : suc (length log - 1) ≡ length log = omega arith in
    drop-cons log (length log - 2) (record_of 0 0) (omega arith)
    ∙ ap (λ l. get_or log (length log - 2) (record_of 0 0) ∷ l)
    (ap (λ n. drop n log) next
    ∙ drop-cons log (length log - 1) (record_of 0 0) (omega arith)
    ∙ ap (λ l. get_or log (length log - 1) (record_of 0 0) ∷ l) (ap (λ n. drop n log) after ∙ drop-length log))

-- two records behind others: the last two are they, and before them stand the others
module _ (front : List Record) (x y : Record) where
  two_more : length (front ++ (x ∷ y ∷ [])) ≡ length front + closing_places
  two_more = length-append front (x ∷ y ∷ [])

  pub two_count : count_record (front ++ (x ∷ y ∷ [])) ≡ x
  unfolding count_record
  two_count = let size = two_more in get_or_at front x (y ∷ []) (record_of 0 0) (length (front ++ (x ∷ y ∷ [])) - 2) (omega arith)

  pub two_last : last_record (front ++ (x ∷ y ∷ [])) ≡ y
  unfolding last_record
  two_last =
      let size = two_more in
      let more = length-append front (x ∷ []) in
      ap (λ l. get_or l (length (front ++ (x ∷ y ∷ [])) - 1) (record_of 0 0)) (sym (append_assoc front (x ∷ []) (y ∷ [])))
      ∙ get_or_at (front ++ (x ∷ [])) y [] (record_of 0 0) (length (front ++ (x ∷ y ∷ [])) - 1) (omega arith)

  pub two_front : take (length (front ++ (x ∷ y ∷ [])) - closing_places) (front ++ (x ∷ y ∷ [])) ≡ front
  two_front = let size = two_more in take_at front (x ∷ y ∷ []) (length (front ++ (x ∷ y ∷ [])) - closing_places) (omega arith)

-- a log of two records and more is what stands before the last two, and then these
pub log_with_two : (log : List Record) → 2 ≤ length log → log ≡ take (length log - closing_places) log ++ (count_record log ∷ last_record log ∷ [])
log_with_two log room = sym (take-append-drop (length log - closing_places) log) ∙ ap (λ l. take (length log - closing_places) log ++ l) (last_two log room)

-- what the last entry closes with
closing : (log : List Record) → last_record log ≡ record_of (last_key log) (last_feature log)
unfolding last_key last_feature
closing log = refl

closing_count : (log : List Record) → (count_record log).key ≡ last_key log → count_record log ≡ record_of (last_key log) (last_count log)
unfolding last_count
closing_count log same = ap (λ κ. record_of κ (count_record log).value) same

-- a log that ends in an entry is what stands before it and then the entry
pub log_with_entry : (log : List Record) → last_count log + closing_places ≤ length log → (count_record log).key ≡ last_key log
    → log ≡ before_last log ++ closed (last_key log) (last_content log) (last_feature log)
unfolding closed before_last last_content
log_with_entry log room same =
    let a : ℕ = length log - (last_count log + closing_places) in
    let e : a + last_count log ≡ length log - 2 = omega arith in
    let last : drop (last_count log) (drop a log)
    ≡ record_of (last_key log) (length (last_content log)) ∷ record_of (last_key log) (last_feature log) ∷ []
    = drop-drop (last_count log) a log ∙ ap (λ n. drop n log) e ∙ last_two log (omega arith)
    ∙ ap₂ (λ x y. x ∷ y ∷ []) (closing_count log same ∙ ap (λ n. record_of (last_key log) n) (sym (length-content log room))) (closing log) in
    sym (take-append-drop a log) ∙ ap (λ l. take a log ++ l) (sym (take-append-drop (last_count log) (drop a log)) ∙ ap (λ l. last_content log ++ l) last)
