-- Settling one block along a slice of waivers: at each place what is left over the rest is what it was at the start. Rests on Covered.
use Prim.Native.Nat.{ℕ, zero, suc, ◌+◌, ◌-◌, ◌≤◌, ◌<◌}
use native.Mathlib.Omega.{arith}
use native.Mathlib.Numerals.{add-one}
use mathlib.Core.Path.{◌≡◌, sym, ap, ◌∙◌, subst}
use mathlib.Core.Bool.{true, false}
use mathlib.Core.List.{List, [], ◌∷◌, ◌++◌}
use lib.ListN.{length, get_or, take, drop, take-append-drop, drop_of_length-le, length-drop}
use lib.Seq.{take-suc, drop-cons, take_all, get_or-drop}
use lib.Dec.{leb}
use borrow.Author.Tests.{lt-leb}
use Rattle.keys.specs.Key.{valid_key, height_of}
use Rattle.keys.proofs.Powers.{five_pos}
use Rattle.keys.proofs.Valid.{valid_block}
use Rattle.definitions.specs.Covered.{is_covered}
use Rattle.finding.specs.Covering.{end_of, first_pixel, next_over, next_of, further, furthest_of, start_of, Waived, none, one, AllBefore, no_waiver, waiver, WaiversPassed}
use Rattle.finding.proofs.FirstPixel.{first_until}
use Rattle.finding.proofs.OneWaiver.{start_short}
use Rattle.finding.proofs.Covered.{next_none, next_cons, furthest_none, furthest_cons, waived_right, covered_merge, covered_stop}

pub waived_at : {m lo : ℕ} {ws : List ℕ} → Waived m lo ws → (i : ℕ) → i < length ws → valid_key m (get_or ws i 0) ≡ true
waived_at none i h = absurd (omega arith)
waived_at (one low v t) zero h = v
waived_at (one low v t) (suc i) h = waived_at t i (omega arith)

pub waived-drop : {m lo : ℕ} {ws : List ℕ} → Waived m lo ws → (i : ℕ) → Waived m lo (drop i ws)
waived-drop {m} {lo} {ws} t i = waived_right (take i ws) (drop i ws) (subst (λ (l : List ℕ). Waived m lo l) (sym (take-append-drop i ws)) t)

waived_from : {m lo w : ℕ} {ws : List ℕ} (x : ℕ) → x ≤ w → Waived m lo (w ∷ ws) → Waived m x (w ∷ ws)
waived_from x h (one low v t) = one h v t

-- one more at the end
furthest_more : (m far w : ℕ) (ws : List ℕ) → furthest_of m far (ws ++ (w ∷ [])) ≡ further (furthest_of m far ws) (end_of m w)
furthest_more m far w [] = furthest_cons m far w [] ∙ furthest_none m (further far (end_of m w)) ∙ ap (λ x. further x (end_of m w)) (sym (furthest_none m far))
furthest_more m far w (v ∷ ws) =
    furthest_cons m far v (ws ++ (w ∷ [])) ∙ furthest_more m (further far (end_of m v)) w ws ∙ ap (λ x. further x (end_of m w)) (sym (furthest_cons m far v ws))

before_more : {x w : ℕ} {ws : List ℕ} → AllBefore x ws → w < x → AllBefore x (ws ++ (w ∷ []))
before_more no_waiver h = waiver h no_waiver
before_more (waiver g t) h = waiver g (before_more t h)

before_later : {x y : ℕ} {ws : List ℕ} → x ≤ y → AllBefore x ws → AllBefore y ws
before_later h no_waiver = no_waiver
before_later {y = y} h (waiver {w} g t) = let i : w < y = omega arith in waiver i (before_later h t)

-- passed before x, and so before a later one
pub passed_widen : {m : ℕ} {waived : List ℕ} {place far x : ℕ} (y : ℕ) → WaiversPassed m waived place far x → x ≤ y → WaiversPassed m waived place far y
passed_widen y p h = record { room = p.room; before = before_later h p.before; furthest = p.furthest }

-- none is passed at the start
pub none_passed : (m : ℕ) (waived : List ℕ) (x : ℕ) → WaiversPassed m waived 0 0 x
none_passed m waived x = record { room = omega arith; before = no_waiver; furthest = sym (furthest_none m 0) }

-- the slice from a place on, by places of the whole
later_whole : (l : List ℕ) (from : ℕ) → take (length l - from) (drop from l) ≡ drop from l
later_whole l from = take_all (length l - from) (drop from l) (let size = length-drop from l in omega arith)

pub later_at : (l : List ℕ) (from i : ℕ) → get_or (take (length l - from) (drop from l)) i 0 ≡ get_or l (from + i) 0
later_at l from i = ap (λ x. get_or x i 0) (later_whole l from) ∙ get_or-drop from l i 0

pub later_length : (l : List ℕ) (from : ℕ) → from ≤ length l → length (take (length l - from) (drop from l)) + from ≡ length l
later_length l from h = let whole = ap length (later_whole l from) in let size = length-drop from l in omega arith

-- along the slice: the waivers before the place are passed, and what is left over the rest is what it was at the start
pub record SettlingGoes (m : ℕ) (waived : List ℕ) (first from end place far next : ℕ) : Type 0 where
  pub passed : WaiversPassed m waived place far end
  pub left : next_of m next (drop place waived) ≡ next_of m first (drop from waived)

module _ {m : ℕ} (waived : List ℕ) where
  pub begins : {from far : ℕ} (key first next end : ℕ) → next ≡ first → key ≤ end → WaiversPassed m waived from far key → SettlingGoes m waived first from end from far next
  begins {from} key first next end e h p =
      record {
        passed = passed_widen end p h;
        left = ap (λ x. next_of m x (drop from waived)) e;
      }

  -- past one waiver more
  pub goes : {first from end place far next : ℕ} → SettlingGoes m waived first from end place far next → place < length waived
      → (w far₁ next₁ : ℕ) → w ≡ get_or waived place 0 → w < end → far₁ ≡ further far (end_of m w) → next₁ ≡ next_over m next w
      → SettlingGoes m waived first from end (place + 1) far₁ next₁
  goes {end = end} {place} {far} {next} g room w far₁ next₁ is below e f =
      let took : take (place + 1) waived ≡ take place waived ++ (w ∷ []) = ap (λ i. take i waived) (add-one place) ∙ take-suc waived place 0 room ∙ ap (λ x. take place waived ++ (x ∷ [])) (sym is) in
      let rest : drop place waived ≡ w ∷ drop (place + 1) waived = drop-cons waived place 0 room ∙ ap (λ x. x ∷ drop (suc place) waived) (sym is) ∙ ap (λ i. w ∷ drop i waived) (sym (add-one place)) in
      record {
        passed = record {
          room = omega arith;
          before = subst (λ (l : List ℕ). AllBefore end l) (sym took) (before_more g.passed.before below);
          furthest = e ∙ ap (λ x. further x (end_of m w)) g.passed.furthest ∙ sym (ap (furthest_of m 0) took ∙ furthest_more m 0 w (take place waived));
        };
        left = ap (λ x. next_of m x (drop (place + 1) waived)) f ∙ sym (next_cons m next w (drop (place + 1) waived)) ∙ ap (next_of m next) (sym rest) ∙ g.left;
      }

  -- what is left past the end of the block says whether it is covered
  pub settled : {from far₀ place far next : ℕ} (key : ℕ) → valid_key m key ≡ true → Waived m 0 waived → WaiversPassed m waived from far₀ key
      → SettlingGoes m waived (start_of m far₀ key) from (end_of m key) place far next
      → Waived m (end_of m key) (drop place waived)
      → leb (end_of m key) next ≡ is_covered m waived key
  settled {from} {far₀} {place} {far} {next} key v t p g rest =
      let end = end_of m key in
      sym (covered_stop rest end next (omega arith))
      ∙ ap (leb end) g.left
      ∙ ap (λ x. leb end (next_of m (start_of m x key) (drop from waived))) p.furthest
      ∙ sym (covered_merge (valid_block m key v) (take from waived) (drop from waived) (subst (λ (l : List ℕ). Waived m 0 l) (sym (take-append-drop from waived)) t) p.before)
      ∙ ap (λ l. is_covered m l key) (take-append-drop from waived)

  -- where no waiver is left and none that is passed reaches the block, it is not covered
  pub settled_past : {from far : ℕ} (key : ℕ) → valid_key m key ≡ true → Waived m 0 waived → WaiversPassed m waived from far key → length waived ≤ from → far ≤ key
      → is_covered m waived key ≡ false
  settled_past {from} {far} key v t p past low =
      let end = end_of m key in
      let b = valid_block m key v in
      let over = five_pos (height_of m key) in
      ap (λ l. is_covered m l key) (sym (take-append-drop from waived))
      ∙ covered_merge b (take from waived) (drop from waived) (subst (λ (l : List ℕ). Waived m 0 l) (sym (take-append-drop from waived)) t) p.before
      ∙ ap (λ x. leb end (next_of m (start_of m x key) (drop from waived))) (sym p.furthest)
      ∙ ap (λ l. leb end (next_of m (start_of m far key) l)) (drop_of_length-le waived past)
      ∙ ap (leb end) (next_none m (start_of m far key) ∙ sym (start_short m far key (omega arith)))
      ∙ lt-leb end (first_pixel m key) (first_until b)

  -- where the loop ends
  pub none_left : (place x : ℕ) → length waived ≤ place → Waived m x (drop place waived)
  none_left place x h = subst (λ (l : List ℕ). Waived m x l) (sym (drop_of_length-le waived h)) none

  pub late_left : (place x w : ℕ) → Waived m 0 waived → place < length waived → w ≡ get_or waived place 0 → x ≤ w → Waived m x (drop place waived)
  late_left place x w t room is h =
      let rest = drop-cons waived place 0 room in
      subst (λ (l : List ℕ). Waived m x l) (sym rest)
      (waived_from x (omega arith) (subst (λ (l : List ℕ). Waived m 0 l) rest (waived-drop t place)))
