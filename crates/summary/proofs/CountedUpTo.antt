-- A summary of which the first blocks are counted anew, and the others are as they were: from none to all, a block counted anew or left at each turn. Rests
-- on Renewed, laws' SummaryOf and slices' Sets.
use Prim.Native.Nat.{ℕ, ◌+◌, ◌-◌, ◌*◌, ◌^◌, ◌≤◌, ◌<◌}
use mathlib.Core.Path.{◌≡◌, sym, ◌∙◌, ap, ap₂}
use mathlib.Core.List.{List, ◌++◌, append_assoc, append-nil}
use native.Mathlib.Nat.{zero-mul, suc-mul, mul-le-mul_right}
use native.Mathlib.Numerals.{add-one}
use native.Mathlib.Omega.{arith}
use lib.ListN.{length, take, drop, take-append-drop, length-append, length-drop, drop_of_length-le}
use lib.Seq.{sets, take-add, drop-drop, take_all, take_at, drop_at, length-take-le}
use Rattle.slices.proofs.Sets.{sets_parts}
use Rattle.keys.specs.Block.{row_of, column_of}
use Rattle.definitions.specs.Picture.{Picture}
use Rattle.definitions.specs.Area.{summary_level, summary_height, summary_length, summary_of, block_key}
use Rattle.laws.proofs.Pixels.{Agree}
use Rattle.laws.proofs.SummaryOf.{counts_agree, summary-length, summary_counts}
use Rattle.summary.specs.Renew.{blocks_renewed}
use Rattle.summary.proofs.Renewed.{block_places_in}

-- the places of a part written anew, behind those that already are
part_renewed : (new old : List ℕ) (at s : ℕ) → at + s ≤ length new → at + s ≤ length old
    → sets (take at new ++ drop at old) at (take s (drop at new)) ≡ take (at + s) new ++ drop (at + s) old
part_renewed new old at s h j =
    let first : length (take at new) ≡ at = length-take-le at new (omega arith) in
    let rest = length-drop at new in
    let part : length (take s (drop at new)) ≡ s = length-take-le s (drop at new) (omega arith) in
    let left = length-drop at old in
    let both = length-append (take at new) (drop at old) in
    sets_parts (take at new ++ drop at old) at (take s (drop at new)) (omega arith)
    ∙ ap₂ (λ x n. x ++ (take s (drop at new) ++ drop (at + n) (take at new ++ drop at old))) (take_at (take at new) (drop at old) at first) part
    ∙ ap (λ l. take at new ++ (take s (drop at new) ++ l)) (sym (drop-drop s at (take at new ++ drop at old)) ∙ ap (drop s) (drop_at (take at new) (drop at old) at first) ∙ drop-drop s at old)
    ∙ sym (append_assoc (take at new) (take s (drop at new)) (drop (at + s) old))
    ∙ ap (λ l. l ++ drop (at + s) old) (sym (take-add at s new))

-- or left, where they are the same
part_kept : (new old : List ℕ) (at s : ℕ) → take s (drop at new) ≡ take s (drop at old) → take at new ++ drop at old ≡ take (at + s) new ++ drop (at + s) old
part_kept new old at s e =
    ap (λ l. take at new ++ l) (sym (take-append-drop s (drop at old)) ∙ ap₂ (λ x y. x ++ y) (sym e) (drop-drop s at old))
    ∙ sym (append_assoc (take at new) (take s (drop at new)) (drop (at + s) old))
    ∙ ap (λ l. l ++ drop (at + s) old) (sym (take-add at s new))

-- the places of the first b blocks are those of the picture's summary, the others as they were
pub record CountedUpTo (m s : ℕ) (p : Picture) (old now : List ℕ) (b : ℕ) : Type 0 where
  pub places : now ≡ take (b * s) (summary_of m s p) ++ drop (b * s) old

module _ (m s : ℕ) (p : Picture) (old : List ℕ) (long : length old ≡ summary_length m s) where
  -- at first none is
  pub counted_none : CountedUpTo m s p old old 0
  counted_none = record { places = sym (ap (λ n. take n (summary_of m s p) ++ drop n old) (zero-mul s)) }

  -- the length stays
  pub counted_long : {now : List ℕ} {b : ℕ} → b ≤ 4 ^ summary_level m → CountedUpTo m s p old now b → length now ≡ summary_length m s
  counted_long {now} {b} h x =
      let room = mul-le-mul_right {m = b} {n = 4 ^ summary_level m} s h in
      let size = summary-length m s p in
      let first = length-take-le (b * s) (summary_of m s p) (omega arith) in
      let rest = length-drop (b * s) old in
      let both = ap length x.places ∙ length-append (take (b * s) (summary_of m s p)) (drop (b * s) old) in
      omega arith

  -- at the end all are
  pub counted_all : {now : List ℕ} {b : ℕ} → b ≡ 4 ^ summary_level m → CountedUpTo m s p old now b → now ≡ summary_of m s p
  counted_all {now} {b} e x =
      let all : b * s ≡ summary_length m s = ap (λ n. n * s) e in
      let size = summary-length m s p in
      x.places
      ∙ ap₂ (λ y z. y ++ z) (take_all (b * s) (summary_of m s p) (omega arith)) (let over : length old ≤ b * s = omega arith in drop_of_length-le old over)
      ∙ append-nil (summary_of m s p)

  module _ {now : List ℕ} {b : ℕ} (h : b < 4 ^ summary_level m) (x : CountedUpTo m s p old now b) where
    next : (b + 1) * s ≡ b * s + s
    next = ap (λ n. n * s) (add-one b) ∙ suc-mul b s

    -- a block counted anew
    pub counted_renewed : (after : List ℕ) → after ≡ blocks_renewed m s p b (b + 1) now → CountedUpTo m s p old after (b + 1)
    unfolding blocks_renewed
    counted_renewed after is =
        let one : b + 1 - b ≡ 1 = omega arith in
        let here : (b + 1 - b) * s ≡ s = ap (λ n. n * s) one ∙ omega arith in
        let room = block_places_in m s b h in
        let size = summary-length m s p in
        record {
          places = is
              ∙ ap₂ (λ l n. sets l (b * s) (take n (drop (b * s) (summary_of m s p)))) x.places here
              ∙ part_renewed (summary_of m s p) old (b * s) s (omega arith) (omega arith)
              ∙ sym (ap (λ n. take n (summary_of m s p) ++ drop n old) next);
        }

    -- a block whose counts are as they were
    pub counted_kept : take s (drop (b * s) (summary_of m s p)) ≡ take s (drop (b * s) old) → CountedUpTo m s p old now (b + 1)
    counted_kept same = record {
      places = x.places
          ∙ part_kept (summary_of m s p) old (b * s) s same
          ∙ sym (ap (λ n. take n (summary_of m s p) ++ drop n old) next);
    }

-- a block on which two pictures agree has the same counts in the summaries of both
pub same_counts : (m s : ℕ) (p q : Picture) (b : ℕ) → b < 4 ^ summary_level m
    → Agree p q (summary_height m) (row_of m (block_key m b)) (column_of m (block_key m b))
    → take s (drop (b * s) (summary_of m s p)) ≡ take s (drop (b * s) (summary_of m s q))
same_counts m s p q b h agree =
    summary_counts m s p b h
    ∙ counts_agree p q (summary_height m) (row_of m (block_key m b)) (column_of m (block_key m b)) 0 s agree
    ∙ sym (summary_counts m s q b h)
