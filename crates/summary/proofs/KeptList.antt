-- The list that is checked by the pass, and the counts of its blocks from what the pass kept: the root is a node of sixteen blocks, and a block whose
-- place is kept has the counts that stand there. Rests on list's Content, and on CountBlock and BlockNumbers.
use Prim.Native.Nat.{ℕ, suc, ◌+◌, ◌-◌, ◌^◌, ◌≤◌, ◌<◌, zero}
use mathlib.Core.Path.{◌≡◌, refl, sym, ◌∙◌, ap}
use mathlib.Core.Bool.{true, false}
use mathlib.Core.List.{List}
use native.Mathlib.Nat.{pow-suc, pow-le-pow_right}
use native.Mathlib.Omega.{arith}
use lib.Dec.{eqb, lit<}
use lib.ListN.{get_or, take, replicate, length-replicate}
use lib.Seq.{get_or-take}
use Rattle.keys.specs.Key.{root_key}
use Rattle.keys.specs.Block.{row_of, column_of}
use Rattle.keys.proofs.Digits.{height_zero}
use Rattle.keys.proofs.Powers.{five_le}
use Rattle.definitions.specs.Read.{is_list}
use Rattle.definitions.specs.Area.{counts_of, summary_level, summary_height, block_key}
use Rattle.list.specs.Check.{step_under}
use Rattle.list.specs.declared.accepted_list.Accepted.{Accepted}
use Rattle.list.specs.Taken.{picture_listed, place_listed}
use Rattle.summary.specs.Counts.{block_counts}
use Rattle.list.proofs.Content.{Stand, keys_length, bits_length, root_valid, root_list, many_records}
use Rattle.std.specs.Prelude.{Option, Some, None, unwrap_or}
use borrow.Author.Tests.{eq-eqb, ne_eqb}
use Rattle.summary.specs.declared.kept.KeptBlock.{KeptBlock}
use Rattle.summary.specs.Kept.{RowKept, RowsKept, SharedArea, KeepingAsked, KeepingAnswered, FirstNode}
use Rattle.summary.proofs.CountBlock.{row_counts}
use Rattle.summary.proofs.BlockNumbers.{number_most, key_valid, key_height}
use Rattle.summary.proofs.PassTurn.{step_of_height}

-- at first nothing is kept
abbrev nothing : Option KeptBlock
nothing = None

none_among : (n b : ℕ) → get_or (replicate n nothing) b None ≡ nothing
none_among zero b = refl
none_among (suc n) zero = refl
none_among (suc n) (suc b) = none_among n b

pub none_kept : (bits : List ℕ) (area : ℕ) → RowsKept bits area (replicate 16 None)
none_kept bits area = record {
  long = length-replicate {A = Option KeptBlock} 16 None;
  known = λ b block e. let none = none_among 16 b in cc;
}

-- the root is a node of sixteen blocks
root_shared : (m step area : ℕ) → 4 ≤ m → m ≤ 10 → step ≡ 5 ^ (m - 1) → area ≡ 4 ^ summary_height m → SharedArea step area 16
root_shared m step area h deep e f =
    let up : m - 1 ≡ 2 + suc (m - 4) = omega arith in
    let low : summary_height m ≡ suc (suc (m - 4)) = omega arith in
    record {
      up = 2;
      height = m - 4;
      blocks = refl;
      steps = e ∙ ap (λ x. 5 ^ x) up;
      pixels = f ∙ ap (λ x. 4 ^ x) low;
      small = let g = pow-le-pow_right {n = 4} (lit< tt) {i = summary_height m} {j = 10} (omega arith) in omega arith;
    }

module _ {m s : ℕ} {K B : List ℕ} {n : ℕ} (first : FirstNode s K B n) where
  pub first_stand : Stand m root_key K B n
  first_stand = record { some = first.some; in_keys = first.in_keys; in-bits = first.in-bits; valid = root_valid m }

  module _ {step area : ℕ} (low : 4 ≤ m) (deep : m ≤ 10) (e : step ≡ 5 ^ (m - 1)) (f : area ≡ 4 ^ summary_height m) where
    pub root_asked : {kept : List (Option KeptBlock)} → RowsKept (take n B) (4 ^ summary_height m) kept
        → KeepingAsked (take n K) (take n B) kept 0 0 (get_or B 0 0) step area 0 16
    root_asked k =
        let a = keys_length (first_stand) in
        let b = bits_length (first_stand) in
        let z = first.some in
        let up : m ≡ suc (m - 1) = omega arith in
        let five = ap (λ x. 5 ^ x) up ∙ pow-suc 5 (m - 1) in
        let most = five_le {k = m} 10 deep in
        record {
          node = record {
            size = a ∙ sym b;
            there = omega arith;
            own_is = sym (get_or-take n B 0 0 (omega arith));
            several = first.several;
            fits = omega arith;
          };
          shared = root_shared m step area low deep e f;
          most = omega arith;
          holds = rw f k;
        }

    pub root_checked : {kept : List (Option KeptBlock)} {answer : Option ℕ} → KeepingAnswered (take n K) (take n B) kept 0 0 (get_or B 0 0) step area answer
        → eqb (unwrap_or answer 0) n ≡ is_list m s K B n
    root_checked {answer = answer} x =
        let up : m ≡ suc (m - 1) = omega arith in
        root_list m s K B n (eqb (unwrap_or answer 0) n)
        (many_records first_stand s first.root first.small (unwrap_or answer 0) first.several
        (x.checked _ (step_of_height (m - 1) step e ∙ ap step_under (sym up ∙ sym (height_zero m)))))

    -- the answer is no place, or the one after all records, or another
    pub root_refused : {kept : List (Option KeptBlock)} → KeepingAnswered (take n K) (take n B) kept 0 0 (get_or B 0 0) step area None → false ≡ is_list m s K B n
    root_refused x = sym (ne_eqb 0 n (λ e. first.some (sym e))) ∙ root_checked x

    pub root_passed : {kept : List (Option KeptBlock)} {place : ℕ}
        → KeepingAnswered (take n K) (take n B) kept 0 0 (get_or B 0 0) step area (Some place)
        → place ≡ n
        → true ≡ is_list m s K B n
    root_passed {place = place} x e = sym (eq-eqb place n e) ∙ root_checked x

    pub root_short : {kept : List (Option KeptBlock)} {place : ℕ}
        → KeepingAnswered (take n K) (take n B) kept 0 0 (get_or B 0 0) step area (Some place)
        → (place ≡ n → ⊥)
        → false ≡ is_list m s K B n
    root_short {place = place} x ne = sym (ne_eqb place n ne) ∙ root_checked x

    pub root_kept : {kept : List (Option KeptBlock)} {answer : Option ℕ} → KeepingAnswered (take n K) (take n B) kept 0 0 (get_or B 0 0) step area answer
        → RowsKept (take n B) (4 ^ summary_height m) kept
    root_kept x = rw f at x.holds

-- what is kept of a block are its counts
pub kept_counts : (list : Accepted) {b key at : ℕ} {row : List ℕ} → b < 4 ^ summary_level list.m → key ≡ block_key list.m b → at ≡ place_listed list key
    → RowKept list.bits.now (4 ^ summary_height list.m) at row
    → row ≡ block_counts list b
kept_counts list {b} {key} {at} {row} h e is x =
    let m = list.m in
    let height = key_height m b h in
    row_counts list.own (block_key m b) (is ∙ ap (place_listed list) e) (key_valid m b h) (ap (λ k. 4 ^ k) (sym height)) x.several row x.long x.counted
    ∙ ap (λ k. counts_of 32 (picture_listed list) k (row_of m (block_key m b)) (column_of m (block_key m b))) height

-- a block's number is small
pub block_few : (m b : ℕ) → b < 4 ^ summary_level m → b < 16
block_few m b h = let e = number_most m in omega arith
