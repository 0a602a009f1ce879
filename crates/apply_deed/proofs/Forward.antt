-- Numbers that are put forward in a slice, nearer to its start: one after the other they are one run, a number can be put in front of them, and a run can
-- be moved as it is. Rests on the laws of lists.
use Prim.Native.Nat.{ℕ, suc, ◌+◌, ◌≤◌, ◌<◌}
use mathlib.Core.Path.{◌≡◌, refl, sym, ◌∙◌, ap}
use mathlib.Core.List.{List, [], ◌∷◌, ◌++◌, append_assoc, append-nil}
use native.Mathlib.Omega.{arith}
use lib.ListN.{length, get_or, take, drop, set, length-append, length-drop, length-set}
use lib.Seq.{sets, length-sets, length-take-le, take-suc, take-set-lt, take_at, take-take, drop-set-lt, set_at}
use Rattle.slices.proofs.Sets.{sets_parts}
use Rattle.apply_deed.specs.Shrink.{Forward}
use Rattle.apply_deed.proofs.Runs.{drop-sets_after, drop-later}

-- the first of the numbers
forward_first : (a b : List ℕ) {l l' : List ℕ} {i n : ℕ} → i ≤ length l → Forward (a ++ b) l i n l' → Forward a l i n l'
forward_first a b {l} {l'} {i} {n} h f =
    let two = length-append a b in
    let t : length (take i l) ≡ i = length-take-le i l h in
    let e = length-append (take i l) a in
    record {
      size = f.size;
      front = sym (take-take (i + length a) (i + length (a ++ b)) l' (omega arith))
          ∙ ap (take (i + length a)) (f.front ∙ sym (append_assoc (take i l) a b))
          ∙ take_at (take i l ++ a) b (i + length a) (omega arith);
      behind = f.behind;
    }

-- some and then others
forward_then : (a b : List ℕ) {l l₁ l₂ : List ℕ} {i j n n' : ℕ} → Forward a l i n l₁ → Forward b l₁ j n' l₂ → j ≡ i + length a → n ≤ n' → Forward (a ++ b) l i n' l₂
forward_then a b {l} {l₁} {l₂} {i} {j} {n} {n'} f g e h =
    let two = length-append a b in
    let s : i + length (a ++ b) ≡ j + length b = omega arith in
    record {
      size = g.size ∙ f.size;
      front = ap (λ x. take x l₂) s
          ∙ g.front
          ∙ ap (λ x. take x l₁ ++ b) e
          ∙ ap (λ x. x ++ b) f.front
          ∙ append_assoc (take i l) a b;
      behind = g.behind ∙ drop-later l₁ l n n' h f.behind;
    }

pub forward_four : (a b c d : List ℕ) {l l₁ l₂ l₃ l₄ : List ℕ} {i i₁ i₂ i₃ n₁ n₂ n₃ n₄ : ℕ}
    → Forward a l i n₁ l₁ → Forward b l₁ i₁ n₂ l₂ → Forward c l₂ i₂ n₃ l₃ → Forward d l₃ i₃ n₄ l₄
    → i₁ ≡ i + length a → i₂ ≡ i₁ + length b → i₃ ≡ i₂ + length c → n₁ ≤ n₂ → n₂ ≤ n₃ → n₃ ≤ n₄
    → Forward (a ++ (b ++ (c ++ d))) l i n₄ l₄
forward_four a b c d f g h k e₁ e₂ e₃ m₁ m₂ m₃ =
    forward_then a (b ++ (c ++ d)) f (forward_then b (c ++ d) g (forward_then c d h k e₃ m₃) e₂ (omega arith)) e₁ (omega arith)

-- a number in front of them
pub forward_own : (x : ℕ) (new : List ℕ) {l l' : List ℕ} {i n : ℕ} → i < n → i < length l → Forward new l (i + 1) n l' → Forward (x ∷ new) l i n (set l' i x)
forward_own x new {l} {l'} {i} {n} h r f =
    let one : i + 1 ≡ suc i = omega arith in
    let s : i + length (x ∷ new) ≡ (i + 1) + length new = omega arith in
    let t : length (take i l) ≡ i = length-take-le i l (omega arith) in
    record {
      size = length-set l' i x ∙ f.size;
      front = take-set-lt (i + length (x ∷ new)) l' i x (omega arith)
          ∙ ap (λ j. set (take j l') i x) s
          ∙ ap (λ z. set z i x) (f.front ∙ ap (λ j. take j l ++ new) one ∙ ap (λ z. z ++ new) (take-suc l i 0 r) ∙ append_assoc (take i l) (get_or l i 0 ∷ []) new)
          ∙ set_at (take i l) (get_or l i 0) new x i t;
      behind = drop-set-lt n l' i x h ∙ f.behind;
    }

-- a number for them
pub forward_alone : (x : ℕ) (new : List ℕ) {l l' : List ℕ} {i n : ℕ} → i < n → i < length l → Forward new l (i + 1) n l' → Forward (x ∷ []) l i n (set l' i x)
forward_alone x new h r f = forward_first (x ∷ []) new (omega arith) (forward_own x new h r f)

-- none
forward_none : (l : List ℕ) (i n : ℕ) → Forward [] l i n l
forward_none l i n = record { size = refl; front = let e : i + 0 ≡ i = omega arith in ap (λ j. take j l) e ∙ sym (append-nil (take i l)); behind = refl }

-- a number alone
pub forward_one : (x : ℕ) {l : List ℕ} {i n : ℕ} → i < n → i < length l → Forward (x ∷ []) l i n (set l i x)
forward_one x {l} {i} {n} h r = forward_own x [] h r (forward_none l (i + 1) n)

-- a run as it is
pub forward_run : (l : List ℕ) (from count to : ℕ) → to ≤ from → from + count ≤ length l
    → Forward (take count (drop from l)) l to (from + count) (sets l to (take count (drop from l)))
forward_run l from count to h r =
    let size : length (take count (drop from l)) ≡ count = length-take-le count (drop from l) (let d = length-drop from l in omega arith) in
    let t : length (take to l) ≡ to = length-take-le to l (omega arith) in
    let e = length-append (take to l) (take count (drop from l)) in
    record {
      size = length-sets l to (take count (drop from l));
      front = ap (take (to + length (take count (drop from l)))) (sets_parts l to (take count (drop from l)) (omega arith) ∙ sym (append_assoc (take to l) (take count (drop from l)) _))
          ∙ take_at (take to l ++ take count (drop from l)) _ (to + length (take count (drop from l))) (omega arith);
      behind = drop-sets_after (from + count) l to (take count (drop from l)) (omega arith);
    }
