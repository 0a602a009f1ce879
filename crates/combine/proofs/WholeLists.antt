-- Both whole lists: they stand at the root, the combined list has fewer records than the two together, and the records below the root with the
-- root's own are the list. Rests on laws' Combined, list's Shown and build's BuildCall.
use Prim.Native.Nat.{ℕ, ◌+◌, ◌^◌, ◌≤◌, ◌<◌}
use mathlib.Core.Path.{◌≡◌, refl, sym, ap, ◌∙◌}
use mathlib.Core.Bool.{cond}
use mathlib.Core.List.{List}
use native.Mathlib.Omega.{arith}
use native.Mathlib.Nat.{zero-add}
use lib.ListN.{length, set}
use borrow.Author.Tests.{lt-ltb, le-ltb}
use Rattle.keys.specs.Span.{root_span}
use Rattle.keys.specs.declared.span.KeySpan.{KeySpan}
use Rattle.keys.proofs.Powers.{five_le}
use Rattle.definitions.specs.Read.{room}
use Rattle.definitions.specs.Combine.{combined}
use Rattle.laws.proofs.Combined.{combined_most}
use Rattle.laws.proofs.ListOf.{list_some}
use Rattle.list.specs.Own.{shown_by}
use Rattle.list.proofs.Own.{own-length}
use Rattle.list.proofs.Shown.{root_shown}
use Rattle.build.specs.BuildBlocks.{Written}
use Rattle.build.proofs.CountBlock.{list_five}
use Rattle.build.proofs.FittingBlock.{keys_length, bits_length}
use Rattle.build.proofs.BuildCall.{root_run}
use Rattle.combine.specs.Combining.{Seen, both_roots, CombineAsked, CombineWriteAsked, CombinedCounted, Made}
use Rattle.combine.specs.declared.cursor.Pair.{Pair}
use Rattle.combine.specs.Ready.{CombineReady, result_of, Answered}

module _ {m : ℕ} {keys₁ bits₁ : List ℕ} {n₁ : ℕ} {keys₂ bits₂ : List ℕ} {n₂ : ℕ} {table : List ℕ} {s₂ : ℕ} (y : CombineReady m keys₁ bits₁ n₁ keys₂ bits₂ n₂ table s₂) where
  -- the root is listed first in both
  root_seen : {step : ℕ} → step ≡ 5 ^ m → Seen (shown_by m keys₁ bits₁ n₁) (shown_by m keys₂ bits₂ n₂) m 0 0 0 bits₁ bits₂ step both_roots
  root_seen e = record {
    step_is = e;
    first_at = record { inside = λ b h. absurd (let f = h in cc); listed = λ z. root_shown y.first_own };
    second_at = record { inside = λ b h. absurd (let f = h in cc); listed = λ z. root_shown y.second_own };
  }

  first_asked : {step : ℕ} → step ≡ 5 ^ m → CombineAsked bits₁ bits₂ table s₂ step both_roots
  first_asked e = record {
    first = shown_by m keys₁ bits₁ n₁;
    second = shown_by m keys₂ bits₂ n₂;
    height = m;
    row = 0;
    column = 0;
    key = 0;
    deep = y.deep;
    seen = root_seen e;
    named = y.named;
  }

  pub root_asked : {step : ℕ} {x : Pair} → step ≡ 5 ^ m → x ≡ both_roots → CombineAsked bits₁ bits₂ table s₂ step x
  root_asked e f = rw f (first_asked e)

  pub root_count : {step u n : ℕ} {x y : Pair} → step ≡ 5 ^ m → x ≡ both_roots → CombinedCounted bits₁ bits₂ table s₂ step x u n y
      → n ≡ length (result_of m keys₁ bits₁ n₁ keys₂ bits₂ n₂ table s₂)
  root_count e f h = ((rw f at h).tallied _ _ _ _ _ _ (root_seen e)).count-is

  -- the numbers of records are small, and not 0
  pub few_records : (n₁ ≤ 5 ^ 10) × (n₂ ≤ 5 ^ 10)
  few_records =
      let a = list_five (shown_by m keys₁ bits₁ n₁) m 0 0 0 in
      let b = list_five (shown_by m keys₂ bits₂ n₂) m 0 0 0 in
      let h = five_le 10 y.deep in
      (omega (arith, own-length y.first_own), omega (arith, own-length y.second_own))

  -- the result has fewer than the two together
  pub result_most : length (result_of m keys₁ bits₁ n₁ keys₂ bits₂ n₂ table s₂) < n₁ + n₂
  result_most =
      let h = combined_most (shown_by m keys₁ bits₁ n₁) (shown_by m keys₂ bits₂ n₂) table s₂ m 0 0 0 in
      omega (arith, own-length y.first_own, own-length y.second_own)

  module _ {keys bits : List ℕ} where
    pub no_room : room keys bits < length (result_of m keys₁ bits₁ n₁ keys₂ bits₂ n₂ table s₂)
        → Answered (result_of m keys₁ bits₁ n₁ keys₂ bits₂ n₂ table s₂) keys bits keys bits (record { refusal = 9; count = 0 })
    no_room h = record {
      refusal_is = sym (ap (λ t. cond t 9 0) (lt-ltb (room keys bits) (length (result_of m keys₁ bits₁ n₁ keys₂ bits₂ n₂ table s₂)) h));
      count-is = refl;
      keys_are = refl;
      bits_are = refl;
    }

    module _ (fits : length (result_of m keys₁ bits₁ n₁ keys₂ bits₂ n₂ table s₂) ≤ room keys bits) where
      first_fits : CombineWriteAsked bits₁ bits₂ table s₂ (root_span m) both_roots 0 keys bits
      unfolding first_asked
      first_fits = record {
        asked = first_asked refl;
        fits = record {
          key_fits = let u = five_le 10 y.deep in omega arith;
          place_fits = omega arith;
          keys_room = λ t. omega arith;
          bits_room = λ t. omega arith;
        };
      }

      pub root_fits : {span : KeySpan} {x : Pair} → span ≡ root_span m → x ≡ both_roots → CombineWriteAsked bits₁ bits₂ table s₂ span x 0 keys bits
      root_fits e f = rw (e, f) first_fits

      module _ {span : KeySpan} {x z : Pair} (e : span ≡ root_span m) (f : x ≡ both_roots) {keys' bits' : List ℕ} {b n : ℕ}
          (w : Made bits₁ bits₂ table s₂ span x 0 keys bits keys' bits' b n z) where
        root_made : Made bits₁ bits₂ table s₂ (root_span m) both_roots 0 keys bits keys' bits' b n z
        root_made = rw (e, f) at w

        root_written : Written (combined (shown_by m keys₁ bits₁ n₁) (shown_by m keys₂ bits₂ n₂) table s₂) m 0 0 0 0 keys bits keys' bits' b n
        root_written = root_made.written _ _ _ _ _ _ (root_seen refl)

        -- the root's own place is there
        pub root_places : (0 < length keys') × (0 < length bits')
        root_places =
            let h = list_some (combined (shown_by m keys₁ bits₁ n₁) (shown_by m keys₂ bits₂ n₂) table s₂) m 0 0 0 in
            (omega (arith, keys_length root_written), omega (arith, bits_length root_written))

        pub has_answer : Answered (result_of m keys₁ bits₁ n₁ keys₂ bits₂ n₂ table s₂) keys bits (set keys' 0 0) (set bits' 0 b) (record { refusal = 0; count = n })
        has_answer =
            let v = root_written in
            record {
              refusal_is = sym (ap (λ t. cond t 9 0) (le-ltb (room keys bits) (length (result_of m keys₁ bits₁ n₁ keys₂ bits₂ n₂ table s₂)) fits));
              count-is = v.next-is ∙ zero-add (length (result_of m keys₁ bits₁ n₁ keys₂ bits₂ n₂ table s₂));
              keys_are = root_run (λ x. x.key) (combined (shown_by m keys₁ bits₁ n₁) (shown_by m keys₂ bits₂ n₂) table s₂) m 0 keys keys' (omega arith) refl v.keys_are;
              bits_are = root_run (λ x. x.value) (combined (shown_by m keys₁ bits₁ n₁) (shown_by m keys₂ bits₂ n₂) table s₂) m b bits bits' (omega arith) v.union_is v.bits_are;
            }
