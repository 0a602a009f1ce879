-- The answers of load, one for each way out of the code: the number that its table gives, its result, and what it leaves in the two slices. Rests on
-- the laws of tables, Accepted and HeadAnswers.
use Prim.Native.Nat.{ℕ, ◌≤◌, ◌<◌}
use mathlib.Core.Path.{◌≡◌, refl, sym, ap, ap₂, ◌∙◌}
use mathlib.Core.Bool.{true, false, not}
use mathlib.Core.List.{List}
use native.Mathlib.Omega.{arith}
use lib.ListN.{length}
use borrow.Author.Tests.{lt-ltb, eqb-true, not-false}
use Rattle.keys.specs.Key.{root_key}
use Rattle.definitions.specs.List.{keys_of, values_of}
use Rattle.definitions.specs.Read.{room, is_list_of_block}
use Rattle.definitions.specs.Buffer.{over}
use Rattle.definitions.specs.File.{bit_bytes, file_length, m_in, s_in, n_in, records_in_file}
use Rattle.definitions.specs.Refusal.{accepted}
use Rattle.definitions.specs.Calls.Load.{load_refusal, load, load_keys, load_bits}
use Rattle.definitions.specs.declared.Loaded.{Loaded}
use Rattle.definitions.specs.declared.answers.ListHead.{ListHead}
use Rattle.definitions.specs.declared.refusal.Refusal.{Refusal}
use Rattle.definitions.specs.Refused.{refusal_number}
use Rattle.definitions.specs.Answered.{as_loaded}
use Rattle.definitions.proofs.Refused.{refusal_some}
use Rattle.std.specs.Prelude.{Ok, Err}
use Rattle.laws.proofs.First.{this, later, holds_first, accepted_left}
use Rattle.laws.proofs.FileOf.{width_of}
use Rattle.file.specs.Head.{head_refusal, HeadIn}
use Rattle.file.specs.Layout.{keys_at, values_at}
use Rattle.file.specs.Room.{RoomFor}
use Rattle.file.proofs.Accepted.{LoadAccepted, load_accepted, load_accepts}
use Rattle.file.proofs.HeadAnswers.{HeadAccepted, head_accepted}

-- the table, once the head is accepted
module _ {file : List ℕ} {head : ListHead} (none : 0 ≡ head_refusal file) (is : HeadIn file head) (keys bits : List ℕ) where
  a : HeadAccepted file
  a = head_accepted file (sym none)

  list_is : is_list_of_block (m_in file) (s_in file) (m_in file) 0 0 root_key (records_in_file file)
      ≡ is_list_of_block head.m head.s head.m 0 0 root_key (records_in_file file)
  list_is = sym (λ i. is_list_of_block (is.m_is i) (is.s_is i) (is.m_is i) 0 0 root_key (records_in_file file))

  -- 4
  pub no_list : is_list_of_block head.m head.s head.m 0 0 root_key (records_in_file file) ≡ false → 4 ≡ load_refusal file keys bits
  unfolding load_refusal
  no_list bad =
      sym (holds_first (later a.long (later a.marked (later a.versioned (later a.settings (later a.exact (this (ap not (list_is ∙ bad)) refl)))))))

  module _ (list : is_list_of_block head.m head.s head.m 0 0 root_key (records_in_file file) ≡ true) where
    -- 9
    pub no_room : room keys bits < head.n → 9 ≡ load_refusal file keys bits
    unfolding load_refusal
    no_room h =
        let full = lt-ltb (room keys bits) (n_in file) (omega (arith, is.n-is)) in
        sym (holds_first
        (later a.long
        (later a.marked (later a.versioned (later a.settings (later a.exact (later (ap not (list_is ∙ list)) (this full refl))))))))

    -- none
    pub all_good : head.n ≤ room keys bits → 0 ≡ load_refusal file keys bits
    all_good h = sym (load_accepts file keys bits (record {
      long = a.long;
      marked = a.marked;
      versioned = a.versioned;
      settings = a.settings;
      exact = a.exact;
      listed = list_is ∙ list;
      roomy = omega (arith, is.n-is);
    }))

module _ (file keys bits : List ℕ) where
  -- what load promises of its result and of the two slices
  abbrev pub LoadedAs : Loaded → List ℕ → List ℕ → Type 0
  LoadedAs r keys' bits' = (r ≡ load file keys bits) × ((keys' ≡ load_keys file keys bits) × (bits' ≡ load_bits file keys bits))

  -- all by the number that the table gives
  by_number : (k : ℕ) → load_refusal file keys bits ≡ k
      → LoadedAs (record { refusal = k; m = accepted k (m_in file) 0; s = accepted k (s_in file) 0; n = accepted k (n_in file) 0 })
      (accepted k (over (keys_of (records_in_file file)) keys) keys)
      (accepted k (over (values_of (records_in_file file)) bits) bits)
  unfolding load load_keys load_bits
  by_number k e = (
    sym (λ i. record { refusal = e i; m = accepted (e i) (m_in file) 0; s = accepted (e i) (s_in file) 0; n = accepted (e i) (n_in file) 0 }),
    (
      sym (λ i. accepted (e i) (over (keys_of (records_in_file file)) keys) keys),
      sym (λ i. accepted (e i) (over (values_of (records_in_file file)) bits) bits),
    ),
  )

  -- a refusal gives its number alone and leaves what was lent
  pub refused : (refusal : Refusal) → refusal_number refusal ≡ load_refusal file keys bits → LoadedAs (as_loaded (Err refusal)) keys bits
  refused refusal e =
      let k : ℕ = refusal_number refusal in
      let not-zero : k ≡ 0 → ⊥ = refusal_some refusal in
      let told = by_number k (sym e) in
      let nothing : (x : ℕ) → accepted k x 0 ≡ 0 = λ x. accepted_left x 0 not-zero in (
        sym (λ i. record { refusal = k; m = nothing (m_in file) i; s = nothing (s_in file) i; n = nothing (n_in file) i }) ∙ told.0,
        (
          sym (accepted_left (over (keys_of (records_in_file file)) keys) keys not-zero) ∙ told.1.0,
          sym (accepted_left (over (values_of (records_in_file file)) bits) bits not-zero) ∙ told.1.1,
        ),
      )

  module _ (none : 0 ≡ load_refusal file keys bits) where
    b : LoadAccepted file keys bits
    b = load_accepted file keys bits (sym none)

    -- the records of an accepted file have room
    pub room_for : (head : ListHead) (w : ℕ) → HeadIn file head → w ≡ bit_bytes head.s → RoomFor w head.n keys bits file
    room_for head w is w-is =
        let h = b.roomy in
        let same : w ≡ bit_bytes (s_in file) = w-is ∙ ap bit_bytes is.s_is in
        let ends : length file ≡ file_length (bit_bytes (s_in file)) (n_in file) = eqb-true _ _ (not-false _ b.exact) in
        record {
          in_keys = omega (arith, is.n-is);
          in-bits = omega (arith, is.n-is);
          in_file = rw (same, is.n-is) (record { width_is = width_of (s_in file); there = omega arith });
        }

    -- the records read are what load leaves
    pub all_loaded : (head : ListHead) (w : ℕ) (keys' bits' : List ℕ) → HeadIn file head → w ≡ bit_bytes head.s
        → keys' ≡ over (keys_at w head.n file) keys
        → bits' ≡ over (values_at w head.n file) bits
        → LoadedAs (as_loaded (Ok head)) keys' bits'
    unfolding records_in_file
    all_loaded head w keys' bits' is w-is e f =
        let told = by_number 0 (sym none) in
        let same : w ≡ bit_bytes (s_in file) = w-is ∙ ap bit_bytes is.s_is in (
          (λ i. record { refusal = 0; m = is.m_is i; s = is.s_is i; n = is.n-is i }) ∙ told.0,
          (
            e ∙ ap₂ (λ w n. over (keys_at w n file) keys) same is.n-is ∙ told.1.0,
            f ∙ ap₂ (λ w n. over (values_at w n file) bits) same is.n-is ∙ told.1.1,
          ),
        )
