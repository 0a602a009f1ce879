-- The plan that the code finds is the model's for every content of which it was told the truth, and so is the length afterwards. Rests on Bounds.
use Prim.Native.Nat.{ℕ, ◌+◌, ◌-◌, ◌*◌, ◌≤◌}
use mathlib.Core.Path.{◌≡◌, refl, sym, ◌∙◌, ap, ap₂}
use mathlib.Core.Bool.{Bool, true, false, cond}
use mathlib.Core.List.{List}
use native.Mathlib.Omega.{arith}
use lib.ListN.{length}
use Rattle.std.specs.Prelude.{Option, None, Some}
use Rattle.keys.specs.Key.{height_of}
use Rattle.keys.proofs.Cases.{decide}
use Rattle.keys.proofs.Powers.{height_le}
use Rattle.definitions.specs.List.{Record}
use Rattle.definitions.specs.Read.{records_of}
use Rattle.list.specs.Own.{OwnList}
use Rattle.list.proofs.Own.{own-length}
use Rattle.replace.specs.Climb.{climb}
use Rattle.replace.specs.Put.{is_one_record, first_bits, top_of, top_for, top_with, one_told, plan_at, plan_of, length_after}
use Rattle.replace.specs.declared.plan.Plan.{Plan}
use Rattle.replace.proofs.Bounds.{climb_bounds}

-- for a content of one record climbing decides
pub top_leaf : (m : ℕ) (l : List Record) (κ b : ℕ) (leaf : Bool) → leaf ≡ true → climb l κ b (m - height_of m κ) (height_of m κ) ≡ top_for m l κ leaf b
unfolding top_for
top_leaf m l κ b leaf e = sym (ap (λ t. cond t (climb l κ b (m - height_of m κ) (height_of m κ)) (height_of m κ)) e)

-- as climbing from its own height found it
pub top_climbed : (m : ℕ) (l : List Record) (κ b : ℕ) (leaf : Bool) (low top : ℕ) → top ≡ climb l κ b (m - low) low → low ≡ height_of m κ → leaf ≡ true → top ≡ top_for m l κ leaf b
top_climbed m l κ b leaf low top e f t = e ∙ ap (λ h. climb l κ b (m - h) h) f ∙ top_leaf m l κ b leaf t

-- for any other the block itself is filled
pub top_own : (m : ℕ) (l : List Record) (κ b : ℕ) (leaf : Bool) → leaf ≡ false → height_of m κ ≡ top_for m l κ leaf b
unfolding top_for
top_own m l κ b leaf e = sym (ap (λ t. cond t (climb l κ b (m - height_of m κ) (height_of m κ)) (height_of m κ)) e)

-- the filled block is from the block itself up to the root
pub top_bounds : (m : ℕ) (l : List Record) (κ b : ℕ) (leaf : Bool) → (height_of m κ ≤ top_for m l κ leaf b) × (top_for m l κ leaf b ≤ m)
top_bounds m l κ b leaf =
    let h = height_le m κ in
    let i = climb_bounds l κ b (m - height_of m κ) (height_of m κ) in
    decide leaf (λ t. let e = top_leaf m l κ b leaf t in omega arith) (λ t. let e = top_own m l κ b leaf t in omega arith)

-- so its step can be had
pub top_fits : (m : ℕ) (l : List Record) (κ b : ℕ) (leaf : Bool) (top : ℕ) → top ≡ top_for m l κ leaf b → m ≤ 10 → top ≤ 11
top_fits m l κ b leaf top e deep = let h = top_bounds m l κ b leaf in omega arith

-- what is told of a content is true: the plan is that of the content
pub plan_for : (m : ℕ) (l : List Record) (κ : ℕ) (content : List Record) (leaf : Bool) (b : ℕ) → is_one_record content ≡ leaf → first_bits content ≡ b
    → plan_at m l κ (top_for m l κ leaf b) ≡ plan_of m l κ content
unfolding plan_of top_of
plan_for m l κ content leaf b e f = ap₂ (λ t x. plan_at m l κ (top_for m l κ t x)) (sym e) (sym f)

-- by what is told of it
pub plan_with : (m : ℕ) (l : List Record) (κ : ℕ) (content : List Record) (one : Option ℕ) → one ≡ one_told content
    → plan_at m l κ (top_with m l κ one) ≡ plan_of m l κ content
plan_with m l κ content one e =
    decide (is_one_record content)
    (λ t. let told : one_told content ≡ Some (first_bits content) = rw t in
    rw (e, told) (plan_for m l κ content true (first_bits content) t refl))
    (λ f. let told : one_told content ≡ None = rw f in
    rw (e, told) (ap (plan_at m l κ) (sym (top_own m l κ 0 false refl) ∙ top_own m l κ (first_bits content) false refl) ∙ plan_for m l κ content false (first_bits content) f refl))

-- an accepted list has as many records as it says
pub records-length : {m n : ℕ} {keys bits : List ℕ} → OwnList m keys bits n → length (records_of keys bits n) ≡ n
records-length own = ap length own.own ∙ own-length own

-- the length afterwards, by the numbers of records
pub length-for : (n count : ℕ) (l content : List Record) (plan : Plan) → n ≡ length l → count ≡ length content
    → n - plan.old + (4 * plan.levels + count) ≡ length_after l content plan
unfolding length_after
length-for n count l content plan e f = ap₂ (λ a c. a - plan.old + (4 * plan.levels + c)) e f
