-- Writing keys one after the other, as far as a limit lets: one key, two runs, none with the limit 0, and all with a limit that reaches. Rests on
-- the definitions alone.
use Prim.Native.Nat.{ℕ, suc, ◌+◌, ◌≤◌, ◌<◌}
use mathlib.Core.Path.{◌≡◌, refl, sym, ◌∙◌, ap, ap₂}
use mathlib.Core.Bool.{Bool, true, false, cond}
use mathlib.Core.List.{List, [], ◌∷◌, ◌++◌}
use native.Mathlib.Nat.{add-zero, zero-add}
use native.Mathlib.Omega.{arith}
use lib.ListN.{length, set, drop, length-set}
use lib.Seq.{sets, sets-eq}
use lib.Dec.{ltb}
use borrow.Author.Tests.{lt-ltb, le-ltb}
use Rattle.definitions.specs.Buffer.{over}
use Rattle.walk.specs.Given.{written_at, written}

pub written_none : (limit : ℕ) (answer : List ℕ) (place : ℕ) → written limit answer place [] ≡ answer
unfolding written
written_none limit answer place = refl

pub written_one_key : (limit : ℕ) (answer : List ℕ) (place key : ℕ) (keys : List ℕ)
    → written limit answer place (key ∷ keys) ≡ written limit (written_at limit answer place key) (suc place) keys
unfolding written
written_one_key limit answer place key keys = refl

-- the test of the limit decides
at_below : (limit : ℕ) (answer : List ℕ) (place key : ℕ) → place < limit → written_at limit answer place key ≡ set answer place key
at_below limit answer place key h = ap (λ t. cond t (set answer place key) answer) (lt-ltb place limit h)

at_past : (limit : ℕ) (answer : List ℕ) (place key : ℕ) → limit ≤ place → written_at limit answer place key ≡ answer
at_past limit answer place key h = ap (λ t. cond t (set answer place key) answer) (le-ltb place limit h)

length-cond : (t : Bool) (a b : List ℕ) → length a ≡ length b → length (cond t a b) ≡ length b
length-cond true a b e = e
length-cond false a b e = refl

-- the answer keeps its length
pub length-written_at : (limit : ℕ) (answer : List ℕ) (place key : ℕ) → length (written_at limit answer place key) ≡ length answer
length-written_at limit answer place key = length-cond (ltb place limit) _ _ (length-set answer place key)

pub length-written : (limit : ℕ) (answer : List ℕ) (place : ℕ) (keys : List ℕ) → length (written limit answer place keys) ≡ length answer
length-written limit answer place [] = ap length (written_none limit answer place)
length-written limit answer place (key ∷ keys) =
    ap length (written_one_key limit answer place key keys)
    ∙ length-written limit (written_at limit answer place key) (suc place) keys
    ∙ length-written_at limit answer place key

-- two runs, one after the other
pub written-append : (limit : ℕ) (answer : List ℕ) (place : ℕ) (a b : List ℕ)
    → written limit answer place (a ++ b) ≡ written limit (written limit answer place a) (place + length a) b
written-append limit answer place [] b = ap₂ (λ x i. written limit x i b) (sym (written_none limit answer place)) (sym (add-zero place))
written-append limit answer place (key ∷ a) b =
    written_one_key limit answer place key (a ++ b)
    ∙ written-append limit (written_at limit answer place key) (suc place) a b
    ∙ ap₂ (λ x i. written limit x i b) (sym (written_one_key limit answer place key a)) (omega arith)

-- with the limit 0 nothing is written
pub written_nothing : (answer : List ℕ) (place : ℕ) (keys : List ℕ) → written 0 answer place keys ≡ answer
written_nothing answer place [] = written_none 0 answer place
written_nothing answer place (key ∷ keys) =
    written_one_key 0 answer place key keys
    ∙ ap (λ x. written 0 x (suc place) keys) (at_past 0 answer place key (omega arith))
    ∙ written_nothing answer (suc place) keys

-- with a limit that reaches all is written
pub written_sets : (limit : ℕ) (answer : List ℕ) (place : ℕ) (keys : List ℕ) → place + length keys ≤ limit → written limit answer place keys ≡ sets answer place keys
written_sets limit answer place [] h = written_none limit answer place
written_sets limit answer place (key ∷ keys) h =
    written_one_key limit answer place key keys
    ∙ ap (λ x. written limit x (suc place) keys) (at_below limit answer place key (omega arith))
    ∙ written_sets limit (set answer place key) (suc place) keys (omega arith)

-- from place 0 on: the answer's first places, and those past them stay
pub written_over : (limit : ℕ) (answer keys : List ℕ) → length keys ≤ limit → length keys ≤ length answer → written limit answer 0 keys ≡ over keys answer
written_over limit answer keys h room =
    written_sets limit answer 0 keys (omega arith)
    ∙ sets-eq keys answer 0 (omega arith)
    ∙ ap (λ i. keys ++ drop i answer) (zero-add (length keys))
