-- `put_key`: "-" where there are no digits, else the digits.
use Prim.Native.Nat.{ℕ}
use mathlib.Core.Path.{◌≡◌, sym, ap, subst}
use mathlib.Core.Bool.{Bool, cond}
use mathlib.Core.List.{List, [], ◌∷◌}
use borrow.Author.Tests.{eq-eqb, ne_eqb}
use Rattle.definitions.specs.Listing.{dash, digits_text, key_text}
use Rattle.listing_text.specs.Put.{Put, BytesFit}
use Rattle.listing_text.proofs.line.put_key.Goals as goal

-- no digits
none : (m key : ℕ) → m ≡ 0 → key_text m key ≡ dash ∷ []
unfolding key_text
none m key e = ap (λ (b : Bool). cond b (dash ∷ []) (digits_text m key)) (eq-eqb m 0 e)

-- some digits
some : (m key : ℕ) → (m ≡ 0 → ⊥) → key_text m key ≡ digits_text m key
unfolding key_text
some m key h = ap (λ (b : Bool). cond b (dash ∷ []) (digits_text m key)) (ne_eqb m 0 h)

-- the same bytes have the same room, and stand the same
same_room : (x y : List ℕ) (place : ℕ) (old : List ℕ) → x ≡ y → BytesFit x place old → BytesFit y place old
same_room x y place old e r = subst (λ (l : List ℕ). BytesFit l place old) e r

same_put : {x y : List ℕ} {place : ℕ} {old later : List ℕ} {next : ℕ} → x ≡ y → Put y place old later next → Put x place old later next
same_put {place = place} {old} {later} {next} e p = subst (λ (l : List ℕ). Put l place old later next) (sym e) p

pub put_byte-requires : goal.put_byte-requires
put_byte-requires c = same_room _ _ _ _ (none _ _ c.if-m-eq0.true) c.requires.2

pub returns-then-m-eq0 : goal.returns-then-m-eq0
returns-then-m-eq0 c = same_put (none _ _ c.if-m-eq0.true) c.put_byte.ensures

pub put_digits-requires : goal.put_digits-requires
put_digits-requires c =
    let asked = c.requires in
    (asked.0, asked.1, same_room _ _ _ _ (some _ _ c.if-m-eq0.false) asked.2)

pub returns-else-m-eq0 : goal.returns-else-m-eq0
returns-else-m-eq0 c = same_put (some _ _ c.if-m-eq0.false) c.put_digits.ensures
