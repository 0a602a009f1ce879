-- The slices of the list in a history: what they hold exactly, by what was lent at first, after build and after an edit. Rests on Buffers and Shown.
use Prim.Native.Nat.{ℕ, ◌≤◌, max}
use mathlib.Core.Path.{◌≡◌, refl, sym, ap, ◌∙◌}
use mathlib.Core.List.{List, map}
use native.Mathlib.Omega.{arith}
use native.Mathlib.Nat.{le_refl}
use lib.ListN.{length, length-map}
use Rattle.definitions.specs.List.{Record, keys_of, values_of}
use Rattle.definitions.specs.Read.{room}
use Rattle.definitions.specs.Buffer.{over, replaced}
use Rattle.history.proofs.Buffers.{length-replaced, over_replaced, replaced_again}
use Rattle.history.proofs.Shown.{ShownInSlices, shown_replaced}

-- lent keys and bits, the slices hold the list, then zeroes as far as a list ever went, and then what was lent
pub record HoldsList (l : List Record) (longest : ℕ) (keys bits keys' bits' : List ℕ) (n : ℕ) : Type 0 where
  pub count : n ≡ length l
  pub all_keys : keys' ≡ replaced longest (keys_of l) keys
  pub all_bits : bits' ≡ replaced longest (values_of l) bits
  pub short : n ≤ longest
  pub fits : longest ≤ room keys bits

keeps : (f : Record → ℕ) (l : List Record) (longest : ℕ) (slice : List ℕ) → length l ≤ longest → longest ≤ length slice
    → length (replaced longest (map f l) slice) ≡ length slice
keeps f l longest slice h j = let e = length-map l f in length-replaced longest (map f l) slice j (omega arith)

module _ {l : List Record} {longest : ℕ} {keys bits keys' bits' : List ℕ} {n : ℕ} (h : HoldsList l longest keys bits keys' bits' n) where
  -- the first n records are the list
  pub list_shown : ShownInSlices l n keys' bits'
  list_shown = rw (h.count, h.all_keys, h.all_bits) (shown_replaced longest l keys bits)

  -- the slice of keys keeps its length
  pub list_keys-length : length keys' ≡ length keys
  list_keys-length = let e = h.count in ap length h.all_keys ∙ keeps (λ x. x.key) l longest keys (omega arith) (omega arith)

  -- so does that of bits
  pub list_bits-length : length bits' ≡ length bits
  list_bits-length = let e = h.count in ap length h.all_bits ∙ keeps (λ x. x.value) l longest bits (omega arith) (omega arith)

  -- and so the room
  pub list-room : room keys' bits' ≡ room keys bits
  list-room = let e = list_keys-length in let f = list_bits-length in omega arith

  -- no list was longer than the longest
  pub list_longest : longest ≡ max longest n
  list_longest = omega arith

again : (f : Record → ℕ) (l l' : List Record) (n longest : ℕ) (slice slice' : List ℕ) → n ≡ length l → n ≤ longest → slice' ≡ replaced longest (map f l) slice
    → replaced n (map f l') slice' ≡ replaced (max longest (length l')) (map f l') slice
again f l l' n longest slice slice' e h all =
    ap (λ x. replaced n (map f l') x) all
    ∙ replaced_again n longest (map f l) (map f l') slice (length-map l f ∙ sym e) h
    ∙ ap (λ x. replaced (max longest x) (map f l') slice) (length-map l' f)

-- after an edit whose list fits they hold that list
pub list_replaced : {l : List Record} {longest : ℕ} {keys bits keys' bits' : List ℕ} {n : ℕ} (l' : List Record)
    → HoldsList l longest keys bits keys' bits' n
    → length l' ≤ room keys bits
    → HoldsList l' (max longest (length l')) keys bits (replaced n (keys_of l') keys') (replaced n (values_of l') bits') (length l')
list_replaced {l} {longest} {keys} {bits} {keys'} {bits'} {n} l' h room' = record {
  count = refl;
  all_keys = again (λ x. x.key) l l' n longest keys keys' h.count h.short h.all_keys;
  all_bits = again (λ x. x.value) l l' n longest bits bits' h.count h.short h.all_bits;
  short = omega arith;
  fits = let f = h.fits in omega arith;
}

-- after a build whose list fits they hold it
pub list_built : (l : List Record) (keys bits : List ℕ) → length l ≤ room keys bits
    → HoldsList l (length l) keys bits (over (keys_of l) keys) (over (values_of l) bits) (length l)
list_built l keys bits h = record {
  count = refl;
  all_keys = over_replaced (length l) (keys_of l) keys (length-map l (λ x. x.key));
  all_bits = over_replaced (length l) (values_of l) bits (length-map l (λ x. x.value));
  short = le_refl (length l);
  fits = h;
}
