-- The answers of reading bit strings, one for each way out of the code: its result and what it leaves in the two slices. Rests on the laws of tables
-- and Passing.
use Prim.Native.Nat.{ℕ, ◌≤◌}
use mathlib.Core.Path.{◌≡◌, refl, sym, ap, ◌∙◌}
use Rattle.std.specs.Prelude.{Some, None}
use mathlib.Core.Bool.{true, false, cond, not, ◌||◌, true≢false}
use mathlib.Core.Logic.{⊎_elim}
use mathlib.Core.List.{List}
use native.Mathlib.Nat.{one-le-pow}
use native.Mathlib.Omega.{arith}
use lib.ListN.{length}
use lib.Dec.{ltb, eqb}
use borrow.Author.Tests.{eq-eqb, ne_eqb, ltb-false}
use Rattle.keys.proofs.Cases.{decide}
use Rattle.definitions.specs.List.{keys_of, values_of}
use Rattle.definitions.specs.Read.{room}
use Rattle.definitions.specs.Buffer.{over}
use Rattle.definitions.specs.BitStrings.{bits_in, is_pair, records_of_pair}
use Rattle.definitions.specs.Refusal.{accepted, bad_settings}
use Rattle.definitions.specs.Calls.ReadBitStrings.{read_strings_refusal, read_strings, read_keys, read_bits}
use Rattle.definitions.specs.declared.Counted.{Counted}
use Rattle.laws.proofs.First.{this, later, holds_first, none_first}
use Rattle.list.proofs.Tests.{good_settings}
use Rattle.bit_strings.specs.Steps.{pair_length, Fits}
use Rattle.bit_strings.proofs.Passing.{step}

-- a pair has at least the root's record
pub pair_some : (m : ℕ) (nodes leaves : List ℕ) → is_pair m nodes leaves ≡ true → 1 ≤ length (records_of_pair m nodes leaves)
unfolding is_pair records_of_pair
pair_some m nodes leaves e =
    ⊎_elim
    (λ s. absurd (true≢false (sym e ∙ s.refused)))
    (λ g. let r = g.on.records in omega arith)
    (step m 0 (bits_in nodes) (bits_in leaves) (one-le-pow m 5 (omega arith)))

module _ (m : ℕ) (nodes leaves : List ℕ) where
  -- none is counted where there is no pair
  pub no_pair : None ≡ pair_length m nodes leaves → is_pair m nodes leaves ≡ false
  unfolding pair_length
  no_pair is =
      decide (is_pair m nodes leaves)
      (λ e. absurd (let h = is ∙ ap (λ b. cond b (Some (length (records_of_pair m nodes leaves))) None) e in cc))
      (λ e. e)

  module _ (n : ℕ) (is : Some n ≡ pair_length m nodes leaves) where
    pub a_pair : is_pair m nodes leaves ≡ true
    unfolding pair_length
    a_pair =
        decide (is_pair m nodes leaves) (λ e. e)
        (λ e. absurd (let h = is ∙ ap (λ b. cond b (Some (length (records_of_pair m nodes leaves))) None) e in cc))

    pub many : n ≡ length (records_of_pair m nodes leaves)
    unfolding pair_length
    many = let h = is ∙ ap (λ b. cond b (Some (length (records_of_pair m nodes leaves))) None) a_pair in cc

module _ (m s : ℕ) (nodes leaves keys bits : List ℕ) where
  -- what reading promises of its result and of the two slices
  abbrev pub ReadAs : Counted → List ℕ → List ℕ → Type 0
  ReadAs r keys' bits' =
      (r ≡ read_strings m s nodes leaves keys bits)
      × ((keys' ≡ read_keys m s nodes leaves keys bits) × (bits' ≡ read_bits m s nodes leaves keys bits))

  -- all by the number that the table gives
  by_number : (k : ℕ) → read_strings_refusal m s nodes leaves keys bits ≡ k
      → ReadAs (record { refusal = k; count = accepted k (length (records_of_pair m nodes leaves)) 0 })
      (accepted k (over (keys_of (records_of_pair m nodes leaves)) keys) keys)
      (accepted k (over (values_of (records_of_pair m nodes leaves)) bits) bits)
  unfolding read_strings read_keys read_bits
  by_number k e = (
    sym (λ i. record { refusal = e i; count = accepted (e i) (length (records_of_pair m nodes leaves)) 0 }),
    (
      sym (λ i. accepted (e i) (over (keys_of (records_of_pair m nodes leaves)) keys) keys),
      sym (λ i. accepted (e i) (over (values_of (records_of_pair m nodes leaves)) bits) bits),
    ),
  )

  -- 1
  pub bad-settings : bad_settings m s ≡ true → ReadAs (record { refusal = 1; count = 0 }) keys bits
  unfolding read_strings_refusal
  bad-settings e = by_number 1 (holds_first (this e refl))

  module _ (good : bad_settings m s ≡ false) where
    -- 23, the slots
    pub not_two : (s ≡ 2 → ⊥) → ReadAs (record { refusal = 23; count = 0 }) keys bits
    unfolding read_strings_refusal
    not_two e = by_number 23 (holds_first (later good (this (ap (λ b. not b || not (is_pair m nodes leaves)) (ne_eqb s 2 e)) refl)))

    module _ (two : s ≡ 2) where
      by_pair : not (eqb s 2) || not (is_pair m nodes leaves) ≡ not (is_pair m nodes leaves)
      by_pair = ap (λ b. not b || not (is_pair m nodes leaves)) (eq-eqb s 2 two)

      -- 23, the pair
      pub refused_pair : None ≡ pair_length m nodes leaves → ReadAs (record { refusal = 23; count = 0 }) keys bits
      unfolding read_strings_refusal
      refused_pair is = by_number 23 (holds_first (later good (this (by_pair ∙ ap not (no_pair m nodes leaves is)) refl)))

      module _ (n : ℕ) (is : Some n ≡ pair_length m nodes leaves) where
        accepted_pair : not (eqb s 2) || not (is_pair m nodes leaves) ≡ false
        accepted_pair = by_pair ∙ ap not (a_pair m nodes leaves n is)

        by_count : ltb (room keys bits) (length (records_of_pair m nodes leaves)) ≡ ltb (room keys bits) n
        by_count = ap (ltb (room keys bits)) (sym (many m nodes leaves n is))

        -- 9
        pub no_room : ltb (room keys bits) n ≡ true → ReadAs (record { refusal = 9; count = 0 }) keys bits
        unfolding read_strings_refusal
        no_room e = by_number 9 (holds_first (later good (later accepted_pair (this (by_count ∙ e) refl))))

        module _ (room-is : ltb (room keys bits) n ≡ false) where
          pub fitting : Fits m nodes leaves n keys bits
          fitting = record {
            deep = (good_settings m s good).deep;
            many = many m nodes leaves n is;
            roomy = ltb-false (room keys bits) n room-is;
          }

          -- the records that were written are what reading leaves
          pub all_read : (keys' bits' : List ℕ) → keys' ≡ over (keys_of (records_of_pair m nodes leaves)) keys
              → bits' ≡ over (values_of (records_of_pair m nodes leaves)) bits → ReadAs (record { refusal = 0; count = n }) keys' bits'
          unfolding read_strings_refusal
          all_read keys' bits' e f =
              let told = by_number 0 (none_first _ (good, (accepted_pair, (by_count ∙ room-is, tt)))) in
              ((λ i. record { refusal = 0; count = many m nodes leaves n is i }) ∙ told.0, (e ∙ told.1.0, f ∙ told.1.1))
