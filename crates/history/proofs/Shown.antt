-- Records in two slices: that the first n places hold them, how they are read back, and what the slices hold after a list is replaced and after
-- an entry is put behind the records in force. Rests on the laws of lists.
use Prim.Native.Nat.{ℕ, ◌+◌, ◌-◌, ◌≤◌}
use mathlib.Core.Path.{◌≡◌, refl, sym, ap, ap₂, ◌∙◌}
use mathlib.Core.List.{List, [], ◌∷◌, ◌++◌, map, append_assoc}
use native.Mathlib.Omega.{arith}
use lib.ListN.{length, take, drop, replicate, length-append, length-take, length-map}
use lib.Seq.{take_at, take-take}
use Rattle.definitions.specs.List.{Record, keys_of, values_of}
use Rattle.definitions.specs.Read.{room, paired, records_of}
use Rattle.definitions.specs.Buffer.{replaced}
use Rattle.definitions.specs.Calls.Paint.{logged}
use Rattle.laws.proofs.Records.{paired_back}

-- the records are the first n of the two slices
pub record ShownInSlices (l : List Record) (n : ℕ) (keys values : List ℕ) : Type 0 where
  pub count : n ≡ length l
  pub in_keys : take n keys ≡ keys_of l
  pub in_values : take n values ≡ values_of l

-- the first n records are those that are shown
pub shown_records : {l : List Record} {n : ℕ} {keys values : List ℕ} → ShownInSlices l n keys values → records_of keys values n ≡ l
shown_records {l} h = ap₂ paired h.in_keys h.in_values ∙ paired_back l

-- places that are all there lie within the slice
within_slice : (f : Record → ℕ) (l : List Record) (n : ℕ) (slice : List ℕ) → n ≡ length l → take n slice ≡ map f l → n ≤ length slice
within_slice f l n slice e h =
    let all : length (take n slice) ≡ length (map f l) = ap length h in
    omega (arith, length-take n slice, length-map l f)

-- they lie within the room
pub shown_room : {l : List Record} {n : ℕ} {keys values : List ℕ} → ShownInSlices l n keys values → n ≤ room keys values
shown_room {l} {n} {keys} {values} h =
    let a = within_slice (λ x. x.key) l n keys h.count h.in_keys in
    let b = within_slice (λ x. x.value) l n values h.count h.in_values in
    omega arith

take-new : (f : Record → ℕ) (l : List Record) (n : ℕ) (slice : List ℕ) → take (length l) (replaced n (map f l) slice) ≡ map f l
take-new f l n slice = take_at (map f l) _ (length l) (length-map l f)

-- a list that replaces another is shown
pub shown_replaced : (n : ℕ) (l : List Record) (keys values : List ℕ)
    → ShownInSlices l (length l) (replaced n (keys_of l) keys) (replaced n (values_of l) values)
shown_replaced n l keys values = record {
  count = refl;
  in_keys = take-new (λ x. x.key) l n keys;
  in_values = take-new (λ x. x.value) l n values;
}

map-append : (f : Record → ℕ) (l l' : List Record) → map f (l ++ l') ≡ map f l ++ map f l'
map-append f [] l' = refl
map-append f (x ∷ l) l' = ap (λ rest. f x ∷ rest) (map-append f l l')

-- of two runs of records the first stands first
take_less : (f : Record → ℕ) (front back : List Record) (used k : ℕ) (slice : List ℕ) → k ≡ length front → k ≤ used
    → take used slice ≡ map f (front ++ back) → take k slice ≡ map f front
take_less f front back used k slice e h e' =
    sym (take-take k used slice h)
    ∙ ap (λ l. take k l) (e' ∙ map-append f front back)
    ∙ take_at (map f front) (map f back) k (length-map front f ∙ sym e)

pub shown_first : (front back : List Record) {used : ℕ} {keys values : List ℕ} (k : ℕ) → k ≡ length front → ShownInSlices (front ++ back) used keys values → ShownInSlices front k keys values
shown_first front back {used} {keys} {values} k e h =
    let both = length-append front back in
    let all = h.count in
    record {
      count = e;
      in_keys = take_less (λ x. x.key) front back used k keys e (omega arith) h.in_keys;
      in_values = take_less (λ x. x.value) front back used k values e (omega arith) h.in_values;
    }

take_more : (f : Record → ℕ) (log entry : List Record) (used count : ℕ) (slice : List ℕ) → count ≤ length slice → take count slice ≡ map f log
    → take (count + length entry) (logged used count (map f entry) slice) ≡ map f (log ++ entry)
take_more f log entry used count slice h e =
    let zeroes : List ℕ = replicate (used - (count + length (map f entry))) 0 in
    let size = length-map entry f in
    let front = length-append (take count slice) (map f entry) in
    let first = length-take count slice in
    ap (λ l. take (count + length entry) (take count slice ++ l))
    (append_assoc (map f entry) zeroes (drop (count + length (map f entry ++ zeroes)) slice))
    ∙ ap (take (count + length entry)) (sym (append_assoc (take count slice) (map f entry) _))
    ∙ take_at (take count slice ++ map f entry) _ (count + length entry) (omega arith)
    ∙ ap (λ l. l ++ map f entry) e
    ∙ sym (map-append f log entry)

-- an entry written behind a log is shown with it
pub shown_logged : {log : List Record} {count : ℕ} {keys values : List ℕ} (used : ℕ) (entry : List Record) → ShownInSlices log count keys values
    → ShownInSlices (log ++ entry) (count + length entry) (logged used count (keys_of entry) keys) (logged used count (values_of entry) values)
shown_logged {log} {count} {keys} {values} used entry h =
    let inside = shown_room h in
    record {
      count = ap (λ x. x + length entry) h.count ∙ sym (length-append log entry);
      in_keys = take_more (λ x. x.key) log entry used count keys (omega arith) h.in_keys;
      in_values = take_more (λ x. x.value) log entry used count values (omega arith) h.in_values;
    }

-- no records are shown by any slices
pub shown_none : (keys values : List ℕ) → ShownInSlices [] 0 keys values
shown_none keys values = record { count = refl; in_keys = refl; in_values = refl }
