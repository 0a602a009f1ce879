-- The summary block by block: at place b * s stand the s counts of block number b, whose key is that of the b-th block of the summary's level. Counts
-- depend only on the block's pixels. Rests on CountOf and the laws of blocks.
use Prim.Native.Nat.{ℕ, zero, suc, ◌+◌, ◌*◌, ◌/◌, ◌%◌, ◌^◌, ◌≤◌, ◌<◌}
use mathlib.Core.Path.{◌≡◌, refl, sym, ◌∙◌, ap, ap₂, subst}
use mathlib.Core.List.{List, [], ◌∷◌, ◌++◌, append_assoc, append-nil}
use native.Mathlib.Nat.{zero-mul, zero-add, add-zero, add-suc, suc-add, pow-suc, add-mul, mul_comm, mul_assoc, add_assoc, one-le-pow, div-add-mod', div-lt_iff_lt-mul, mod-lt}
use native.Mathlib.Omega.{arith}
use lib.ListN.{length, get_or, take, drop, length-append}
use lib.Seq.{take_at, drop_at, get_or-take, get_or-drop}
use Rattle.keys.specs.Key.{child_key}
use Rattle.keys.specs.Block.{row_of, column_of}
use Rattle.keys.specs.Under.{Under, here, nw, ne, sw, se, MapBlock}
use Rattle.keys.proofs.Under.{under_trans}
use Rattle.keys.proofs.Interval.{same_key}
use Rattle.keys.proofs.Valid.{block_valid}
use Rattle.definitions.specs.Picture.{Picture}
use Rattle.definitions.specs.Area.{pixels_with, counts_from, counts_of, summary_level, summary_height, summary_below, summary_of, key_below, block_key, summary_length}
use Rattle.laws.proofs.Pixels.{Agree, agree_nw, agree_ne, agree_sw, agree_se}
use Rattle.laws.proofs.CountOf.{pixels_agree}

module _ (p : Picture) (k r c : ℕ) where
  pub counts-length : (f more : ℕ) → length (counts_from p k r c f more) ≡ more
  unfolding counts_from
  counts-length f zero = refl
  counts-length f (suc more) = ap suc (counts-length (suc f) more)

  -- the count at a place
  pub counts_at : (f more i : ℕ) → i < more → get_or (counts_from p k r c f more) i 0 ≡ pixels_with p k r c (f + i)
  unfolding counts_from
  counts_at f zero i h = absurd (omega arith)
  counts_at f (suc more) zero h = ap (pixels_with p k r c) (sym (add-zero f))
  counts_at f (suc more) (suc i) h = counts_at (suc f) more i (omega arith) ∙ ap (pixels_with p k r c) (suc-add f i ∙ sym (add-suc f i))

  -- the count of feature f among the s counts of a block
  pub count_of : (s f : ℕ) → f < s → get_or (counts_of s p k r c) f 0 ≡ pixels_with p k r c f
  count_of s f h = counts_at 0 s f h ∙ ap (pixels_with p k r c) (zero-add f)

-- the first of more counts
pub counts_first : (p : Picture) (k r c f s more : ℕ) → s ≤ more → take s (counts_from p k r c f more) ≡ counts_from p k r c f s
unfolding counts_from
counts_first p k r c f zero more h = refl
counts_first p k r c f (suc s) zero h = absurd (omega arith)
counts_first p k r c f (suc s) (suc more) h = ap (λ l. pixels_with p k r c f ∷ l) (counts_first p k r c (suc f) s more (omega arith))

-- pictures that agree on a block have the same counts there
pub counts_agree : (p q : Picture) (k r c f more : ℕ) → Agree p q k r c → counts_from p k r c f more ≡ counts_from q k r c f more
unfolding counts_from
counts_agree p q k r c f zero h = refl
counts_agree p q k r c f (suc more) h = ap₂ (λ x l. x ∷ l) (pixels_agree p q k r c f h) (counts_agree p q k r c (suc f) more h)

module _ (s : ℕ) (p : Picture) (k : ℕ) where
  pub summary_zero : (r c : ℕ) → summary_below s p k zero r c ≡ counts_of s p k r c
  unfolding summary_below
  summary_zero r c = refl

  pub summary_suc : (d r c : ℕ)
      → summary_below s p k (suc d) r c
      ≡ summary_below s p k d r c
      ++ (summary_below s p k d r (c + 2 ^ (k + d))
      ++ (summary_below s p k d (r + 2 ^ (k + d)) c ++ summary_below s p k d (r + 2 ^ (k + d)) (c + 2 ^ (k + d))))
  unfolding summary_below
  summary_suc d r c = refl

-- pictures that agree on a block have the same counts of the blocks below it
below_agree : (s : ℕ) (p q : Picture) (k d r c : ℕ) → Agree p q (k + d) r c → summary_below s p k d r c ≡ summary_below s q k d r c
below_agree s p q k zero r c h =
    summary_zero s p k r c ∙ counts_agree p q k r c 0 s (subst (λ x. Agree p q x r c) (add-zero k) h) ∙ sym (summary_zero s q k r c)
below_agree s p q k (suc d) r c h =
    let all : Agree p q (suc (k + d)) r c = subst (λ x. Agree p q x r c) (add-suc k d) h in
    summary_suc s p k d r c
    ∙ ap₂ (λ x y. x ++ y) (below_agree s p q k d r c (agree_nw {p = p} {q = q} all))
    (ap₂ (λ x y. x ++ y) (below_agree s p q k d r (c + 2 ^ (k + d)) (agree_ne {p = p} {q = q} all))
    (ap₂ (λ x y. x ++ y) (below_agree s p q k d (r + 2 ^ (k + d)) c (agree_sw {p = p} {q = q} all))
    (below_agree s p q k d (r + 2 ^ (k + d)) (c + 2 ^ (k + d)) (agree_se {p = p} {q = q} all))))
    ∙ sym (summary_suc s q k d r c)

four_lengths : (a b c d : List ℕ) (n : ℕ) → length a ≡ n → length b ≡ n → length c ≡ n → length d ≡ n → length (a ++ (b ++ (c ++ d))) ≡ 4 * n
four_lengths a b c d n e f g h = simp length-append (omega arith)

-- four times as many for each level
times_four : (d s : ℕ) → 4 * (4 ^ d * s) ≡ 4 ^ suc d * s
times_four d s = sym (mul_assoc 4 (4 ^ d) s) ∙ ap (λ x. x * s) (mul_comm 4 (4 ^ d) ∙ sym (pow-suc 4 d))

last_part : (a b c d : List ℕ) → a ++ (b ++ (c ++ d)) ≡ (a ++ (b ++ c)) ++ (d ++ [])
last_part a b c d = sym (simp (append_assoc, append-nil))

join_parts : (l a b x c d y : List ℕ) → l ≡ a ++ (y ++ b) → y ≡ c ++ (x ++ d) → l ≡ (a ++ c) ++ (x ++ (d ++ b))
join_parts l a b x c d y e f = e ∙ ap (λ z. a ++ (z ++ b)) f ∙ simp append_assoc

-- q whole parts of n blocks and then x blocks are b blocks, of s places each
whole_parts : (q n x s b : ℕ) → q * n + x ≡ b → q * (n * s) + x * s ≡ b * s
whole_parts q n x s b e = ap (λ y. y + x * s) (sym (mul_assoc q n s)) ∙ sym (add-mul (q * n) x s) ∙ ap (λ y. y * s) e

module _ (s : ℕ) (p : Picture) (k : ℕ) where
  pub below_length : (d r c : ℕ) → length (summary_below s p k d r c) ≡ 4 ^ d * s
  below_length zero r c = ap length (summary_zero s p k r c) ∙ counts-length p k r c 0 s ∙ omega arith
  below_length (suc d) r c =
      ap length (summary_suc s p k d r c)
      ∙ four_lengths (summary_below s p k d r c)
      (summary_below s p k d r (c + 2 ^ (k + d)))
      (summary_below s p k d (r + 2 ^ (k + d)) c)
      (summary_below s p k d (r + 2 ^ (k + d)) (c + 2 ^ (k + d)))
      (4 ^ d * s)
      (below_length d r c)
      (below_length d r (c + 2 ^ (k + d)))
      (below_length d (r + 2 ^ (k + d)) c)
      (below_length d (r + 2 ^ (k + d)) (c + 2 ^ (k + d)))
      ∙ times_four d s

  -- the part of quadrant number q
  record PartOf (d r c κ q : ℕ) : Type 0 where
    row : ℕ
    column : ℕ
    before : List ℕ
    after : List ℕ
    splits : summary_below s p k (suc d) r c ≡ before ++ (summary_below s p k d row column ++ after)
    long : length before ≡ q * (4 ^ d * s)
    under : Under (suc (k + d)) r c κ (k + d) row column (child_key κ (k + d) (q + 1))

  part_of : (d r c κ q : ℕ) → q < 4 → PartOf d r c κ q
  part_of d r c κ zero h = record {
    row = r;
    column = c;
    before = [];
    after = _;
    splits = summary_suc s p k d r c;
    long = sym (zero-mul (4 ^ d * s));
    under = nw here;
  }
  part_of d r c κ (suc zero) h = record {
    row = r;
    column = c + 2 ^ (k + d);
    before = summary_below s p k d r c;
    after = _;
    splits = summary_suc s p k d r c;
    long = below_length d r c ∙ omega arith;
    under = ne here;
  }
  part_of d r c κ (suc (suc zero)) h = record {
    row = r + 2 ^ (k + d);
    column = c;
    before = summary_below s p k d r c ++ summary_below s p k d r (c + 2 ^ (k + d));
    after = _;
    splits = summary_suc s p k d r c ∙ sym (append_assoc (summary_below s p k d r c) _ _);
    long = length-append (summary_below s p k d r c) _ ∙ ap₂ (λ x y. x + y) (below_length d r c) (below_length d r (c + 2 ^ (k + d))) ∙ omega arith;
    under = sw here;
  }
  part_of d r c κ (suc (suc (suc zero))) h = record {
    row = r + 2 ^ (k + d);
    column = c + 2 ^ (k + d);
    before = summary_below s p k d r c ++ (summary_below s p k d r (c + 2 ^ (k + d)) ++ summary_below s p k d (r + 2 ^ (k + d)) c);
    after = [];
    splits = summary_suc s p k d r c ∙ last_part (summary_below s p k d r c)
        (summary_below s p k d r (c + 2 ^ (k + d)))
        (summary_below s p k d (r + 2 ^ (k + d)) c)
        (summary_below s p k d (r + 2 ^ (k + d)) (c + 2 ^ (k + d)));
    long = simp length-append
        (let e = below_length d r c in
        let f = below_length d r (c + 2 ^ (k + d)) in
        let g = below_length d (r + 2 ^ (k + d)) c in
        omega arith);
    under = se here;
  }
  part_of d r c κ (suc (suc (suc (suc q)))) h = absurd (omega arith)

  -- block number b: its counts in the summary, and its key
  pub record CountedBlock (d r c κ b : ℕ) : Type 0 where
    pub row : ℕ
    pub column : ℕ
    pub before : List ℕ
    pub after : List ℕ
    pub splits : summary_below s p k d r c ≡ before ++ (counts_of s p k row column ++ after)
    pub long : length before ≡ b * s
    pub under : Under (k + d) r c κ k row column (κ + key_below k d b)

  in_part : {d r c κ b : ℕ} (q : PartOf d r c κ (b / 4 ^ d)) → CountedBlock d q.row q.column (child_key κ (k + d) (b / 4 ^ d + 1)) (b % 4 ^ d) → CountedBlock (suc d) r c κ b
  unfolding key_below
  in_part {d} {r} {c} {κ} {b} q x = record {
    row = x.row;
    column = x.column;
    before = q.before ++ x.before;
    after = x.after ++ q.after;
    splits = join_parts _ q.before q.after (counts_of s p k x.row x.column) x.before x.after _ q.splits x.splits;
    long = length-append q.before x.before ∙ ap₂ (λ y z. y + z) q.long x.long ∙ whole_parts (b / 4 ^ d) (4 ^ d) (b % 4 ^ d) s b (div-add-mod' b (4 ^ d));
    under = rw (add-suc k d) (same_key (under_trans q.under x.under) (add_assoc κ ((b / 4 ^ d + 1) * 5 ^ (k + d)) (key_below k d (b % 4 ^ d))));
  }

  block_in : (d r c κ b : ℕ) → b < 4 ^ d → CountedBlock d r c κ b
  unfolding key_below
  block_in zero r c κ b h = record {
    row = r;
    column = c;
    before = [];
    after = [];
    splits = summary_zero s p k r c ∙ sym (append-nil (counts_of s p k r c));
    long = let e : b ≡ 0 = omega arith in sym (ap (λ x. x * s) e ∙ zero-mul s);
    under = rw (add-zero k, add-zero κ) here;
  }
  block_in (suc d) r c κ b h =
      let pos = one-le-pow d 4 (omega arith) in
      let e = pow-suc 4 d in
      let q = part_of d r c κ (b / 4 ^ d) ((div-lt_iff_lt-mul pos).1 (omega arith)) in
      in_part q (block_in d q.row q.column (child_key κ (k + d) (b / 4 ^ d + 1)) (b % 4 ^ d) (mod-lt b pos))

-- block number b of a picture's summary
module _ (m s : ℕ) (p : Picture) where
  heights : summary_height m + summary_level m ≡ m
  heights = omega arith

  pub summary-length : length (summary_of m s p) ≡ summary_length m s
  unfolding summary_of
  summary-length = below_length s p (summary_height m) (summary_level m) 0 0

  module _ (b : ℕ) (h : b < 4 ^ summary_level m) where
    found : CountedBlock s p (summary_height m) (summary_level m) 0 0 0 b
    found = block_in s p (summary_height m) (summary_level m) 0 0 0 b h

    found_block : MapBlock m (summary_height m) found.row found.column (block_key m b)
    unfolding block_key
    found_block = rw heights at (same_key found.under (zero-add _))

    -- it is a block of the map, and has the summary's height
    pub summary_block : MapBlock m (summary_height m) (row_of m (block_key m b)) (column_of m (block_key m b)) (block_key m b)
    summary_block = let i = block_valid found_block in rw (i.row, i.column) found_block

    -- its counts stand from place b * s on
    pub summary_counts : take s (drop (b * s) (summary_of m s p)) ≡ counts_of s p (summary_height m) (row_of m (block_key m b)) (column_of m (block_key m b))
    unfolding summary_of
    summary_counts =
        let i = block_valid found_block in
        ap (λ l. take s (drop (b * s) l)) found.splits
        ∙ ap (take s) (drop_at found.before _ (b * s) found.long)
        ∙ take_at (counts_of s p (summary_height m) found.row found.column) found.after s (counts-length p (summary_height m) found.row found.column 0 s)
        ∙ sym (ap₂ (λ r c. counts_of s p (summary_height m) r c) i.row i.column)

    -- so place b * s + f has the count of feature f
    pub summary_place : (f : ℕ) → f < s → get_or (summary_of m s p) (b * s + f) 0 ≡ pixels_with p (summary_height m) (row_of m (block_key m b)) (column_of m (block_key m b)) f
    summary_place f i =
        sym (get_or-drop (b * s) (summary_of m s p) f 0)
        ∙ sym (get_or-take s (drop (b * s) (summary_of m s p)) f 0 i)
        ∙ ap (λ l. get_or l f 0) summary_counts
        ∙ count_of p (summary_height m) (row_of m (block_key m b)) (column_of m (block_key m b)) s f i

-- pictures that agree on the map have the same summary
pub summary_agree : (m s : ℕ) (p q : Picture) → Agree p q m 0 0 → summary_of m s p ≡ summary_of m s q
unfolding summary_of
summary_agree m s p q h = below_agree s p q (summary_height m) (summary_level m) 0 0 (subst (λ x. Agree p q x 0 0) (sym (heights m s p)) h)
