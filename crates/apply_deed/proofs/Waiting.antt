-- Records that wait to grow, the last of them first: what is asked for the last of them, and how the others wait once those have grown. Rests on the
-- laws of records in two slices.
use Prim.Native.Nat.{ℕ, ◌+◌, ◌-◌, ◌≤◌, ◌<◌}
use mathlib.Core.Path.{◌≡◌, sym, ◌∙◌, ap, ap₂}
use mathlib.Core.List.{List, [], ◌∷◌, ◌++◌, append_assoc}
use native.Mathlib.Omega.{arith}
use lib.ListN.{length, get_or, set, take, length-append}
use lib.Seq.{sets, length-sets, take_at, get_or-append_seam}
use Rattle.slices.proofs.Sets.{sets_front, sets_join_back}
use Rattle.definitions.specs.List.{Record, record_of}
use Rattle.definitions.specs.Read.{paired}
use Rattle.laws.proofs.Records.{records-length, records_at, records_first}
use Rattle.apply_deed.specs.Passes.{Ending, Waiting}
use Rattle.apply_deed.proofs.Runs.{take-sets_before}

pub ending-length : {l : List Record} {ks bs : List ℕ} {read : ℕ} (s : Ending l ks bs read) → length s.front + length l ≡ read
ending-length {l} {ks} {bs} {read} s = sym (length-append s.front l) ∙ ap length (sym s.is) ∙ records-length ks bs read s.in_keys s.in-bits

-- records known by another name
pub ending_at : {l l' : List Record} {ks bs : List ℕ} {read : ℕ} → l ≡ l' → Ending l ks bs read → Ending l' ks bs read
ending_at e s = rw e at s

pub waiting_at : {κ count count' : ℕ} {l l' : List Record} {ks bs : List ℕ} {read write : ℕ} → l ≡ l' → count ≡ count' → Waiting κ l count ks bs read write
    → Waiting κ l' count' ks bs read write
waiting_at e f s = rw (e, f) at s

-- the last records
pub ending_right : (a b : List Record) {ks bs : List ℕ} {read : ℕ} → Ending (a ++ b) ks bs read → Ending b ks bs read
ending_right a b s = record {
  front = s.front ++ a;
  in_keys = s.in_keys;
  in-bits = s.in-bits;
  is = s.is ∙ sym (append_assoc s.front a b);
}

-- those before them, when something was stored behind
pub ending_left : (a b : List Record) {ks bs : List ℕ} {read : ℕ} (read' at : ℕ) (xs ys : List ℕ) → Ending (a ++ b) ks bs read → read' + length b ≡ read → read' ≤ at
    → Ending a (sets ks at xs) (sets bs at ys) read'
ending_left a b {ks} {bs} {read} read' at xs ys s e h =
    let all = ending-length s in
    let two = length-append a b in
    let before = length-append s.front a in
    record {
      front = s.front;
      in_keys = let z = length-sets ks at xs in omega (arith, s.in_keys);
      in-bits = let z = length-sets bs at ys in omega (arith, s.in-bits);
      is = ap₂ paired (take-sets_before read' ks at xs h) (take-sets_before read' bs at ys h)
          ∙ sym (records_first ks bs read read' (omega arith))
          ∙ ap (take read') (s.is ∙ sym (append_assoc s.front a b))
          ∙ take_at (s.front ++ a) b read' (omega arith);
    }

-- the last record of all
pub ending_some : (a : List Record) (x : Record) {ks bs : List ℕ} {read : ℕ} → Ending (a ++ (x ∷ [])) ks bs read → 0 < read
ending_some a x s = let all = ending-length s in let two = length-append a (x ∷ []) in omega arith

pub ending_last : (a : List Record) (x : Record) {ks bs : List ℕ} {read : ℕ} → Ending (a ++ (x ∷ [])) ks bs read
    → record_of (get_or ks (read - 1) 0) (get_or bs (read - 1) 0) ≡ x
ending_last a x {ks} {bs} {read} s =
    let all = ending-length s in
    let two = length-append a (x ∷ []) in
    let before = length-append s.front a in
    let e : read - 1 ≡ length (s.front ++ a) = omega arith in
    sym (records_at ks bs read s.in_keys s.in-bits (read - 1) (omega arith))
    ∙ ap (λ l. get_or l (read - 1) (record_of 0 0)) (s.is ∙ sym (append_assoc s.front a (x ∷ [])))
    ∙ ap (λ i. get_or ((s.front ++ a) ++ (x ∷ [])) i (record_of 0 0)) e
    ∙ get_or-append_seam (s.front ++ a) x [] (record_of 0 0)

-- what is asked for the last records, whose key the places in front of them do not reach
pub waits_last : {κ : ℕ} (κ' : ℕ) (a b : List Record) (count count' : ℕ) {ks bs : List ℕ} {read write : ℕ} → Waiting κ (a ++ b) (count + count') ks bs read write
    → length a ≤ count → κ + count ≤ κ' → Waiting κ' b count' ks bs read write
waits_last κ' a b count count' w h i =
    let two = length-append a b in
    record {
      ending = ending_right a b w.ending;
      apart = omega (arith, w.apart);
      early = omega (arith, w.early);
      in_keys = w.in_keys;
      in-bits = w.in-bits;
    }

-- the others, once those have grown
pub waits_rest : {κ : ℕ} (a b : List Record) (count count' : ℕ) {ks bs ks' bs' : List ℕ} {read write read' write' : ℕ} (xs ys : List ℕ)
    → Waiting κ (a ++ b) (count + count') ks bs read write → length a ≤ count
    → read' + length b ≡ read → write' + count' ≡ write → ks' ≡ sets ks write' xs → bs' ≡ sets bs write' ys
    → Waiting κ a count ks' bs' read' write'
waits_rest a b count count' {ks} {bs} {ks'} {bs'} {read} {write} {read'} {write'} xs ys w h e f g i =
    let two = length-append a b in
    let x = ap length g ∙ length-sets ks write' xs in
    let y = ap length i ∙ length-sets bs write' ys in
    record {
      ending = rw (g, i) (ending_left a b read' write' xs ys w.ending e (omega (arith, w.apart)));
      apart = omega (arith, w.apart);
      early = omega (arith, w.early);
      in_keys = omega (arith, w.in_keys);
      in-bits = omega (arith, w.in-bits);
    }

-- four runs, the last of them first, and a number in front of them, are one run
pub four_back : (l : List ℕ) {l₁ l₂ l₃ l₄ l' : List ℕ} (x w₁ w₂ w₃ w₄ : ℕ) (a b c d : List ℕ)
    → l₁ ≡ sets l w₁ d → l₂ ≡ sets l₁ w₂ c → l₃ ≡ sets l₂ w₃ b → l₄ ≡ sets l₃ w₄ a → l' ≡ set l₄ (w₄ - 1) x
    → w₂ + length c ≡ w₁ → w₃ + length b ≡ w₂ → w₄ + length a ≡ w₃ → 0 < w₄
    → l' ≡ sets l (w₄ - 1) (x ∷ (a ++ (b ++ (c ++ d))))
four_back l {l₁} {l₂} {l₃} {l₄} {l'} x w₁ w₂ w₃ w₄ a b c d h₁ h₂ h₃ h₄ h e₂ e₃ e₄ some =
    let two : sets (sets l w₁ d) w₂ c ≡ sets l w₂ (c ++ d) = ap (λ n. sets (sets l n d) w₂ c) (sym e₂) ∙ sets_join_back l w₂ c d in
    let three : sets (sets l w₂ (c ++ d)) w₃ b ≡ sets l w₃ (b ++ (c ++ d)) = ap (λ n. sets (sets l n (c ++ d)) w₃ b) (sym e₃) ∙ sets_join_back l w₃ b (c ++ d) in
    let four : sets (sets l w₃ (b ++ (c ++ d))) w₄ a ≡ sets l w₄ (a ++ (b ++ (c ++ d)))
    = ap (λ n. sets (sets l n (b ++ (c ++ d))) w₄ a) (sym e₄) ∙ sets_join_back l w₄ a (b ++ (c ++ d)) in
    let up : w₄ ≡ (w₄ - 1) + 1 = omega arith in
    let front : set (sets l w₄ (a ++ (b ++ (c ++ d)))) (w₄ - 1) x ≡ sets l (w₄ - 1) (x ∷ (a ++ (b ++ (c ++ d))))
    = ap (λ n. set (sets l n (a ++ (b ++ (c ++ d)))) (w₄ - 1) x) up ∙ sets_front l (w₄ - 1) x (a ++ (b ++ (c ++ d))) in
    let all : l₄ ≡ sets l w₄ (a ++ (b ++ (c ++ d)))
    = h₄ ∙ ap (λ z. sets z w₄ a) (h₃ ∙ ap (λ z. sets z w₃ b) (h₂ ∙ ap (λ z. sets z w₂ c) h₁ ∙ two) ∙ three) ∙ four in
    h ∙ ap (λ z. set z (w₄ - 1) x) all ∙ front
