-- The blocks that select gives in a leaf, without asking the list: each largest block of the window there is given itself. Rests on Below and the laws of
-- written keys.
use Prim.Native.Nat.{ℕ, ◌+◌, ◌/◌, ◌^◌, ◌≤◌, ◌<◌}
use mathlib.Core.Path.{◌≡◌, refl, sym, ◌∙◌, ap, ap₂, subst}
use mathlib.Core.Bool.{true, false, true≢false}
use mathlib.Core.List.{List, [], ◌∷◌, ◌++◌, append_assoc, append-nil}
use native.Mathlib.Omega.{arith}
use lib.ListN.{length, length-append}
use Rattle.keys.specs.Under.{InSquare}
use Rattle.keys.proofs.Interval.{within, nest}
use Rattle.keys.proofs.Pixel.{inside}
use Rattle.definitions.specs.Picture.{Picture}
use Rattle.definitions.specs.List.{record_of}
use Rattle.definitions.specs.Window.{select_in}
use Rattle.definitions.specs.declared.Window.{Window}
use Rattle.definitions.specs.Edit.{content_of}
use Rattle.laws.proofs.Within.{first_within}
use Rattle.laws.proofs.Features.{one_from_leaf}
use Rattle.laws.proofs.ListOf.{list_one}
use Rattle.walk.specs.declared.Spot.{Spot}
use Rattle.std.specs.Prelude.{Option, Some, None}
use Rattle.walk.specs.Walk.{BlockSpot, Walking, Follows, is_within, is_apart, first_quadrant}
use Rattle.walk.specs.Given.{keys_with, written_at, written, lower}
use Rattle.walk.proofs.Steps.{Parent, some_keys, first_stands, parting_first, walking_after}
use Rattle.walk.proofs.Content.{content_at_spot, with_none, with_give}
use Rattle.walk.proofs.Written.{written_none, written_one_key, written-append, length-written}
use Rattle.walk.proofs.Below.{lower_block, lower_apart, lower_enter}
use Rattle.window.specs.Gather.{Gave, AllHave, GaveFrom, Comes, Onward}

-- one key is given
pub gives_one : (limit count : ℕ) (before after : List ℕ) (key : ℕ) → after ≡ written_at limit before count key → Gave (key ∷ []) limit count before after (count + 1)
gives_one limit count before after key f =
    record { counted = refl; wrote = f ∙ sym (written_none limit _ _) ∙ sym (written_one_key limit before count key []) }

-- more is given after what was given
gives_more : {a b : List ℕ} {limit count between r : ℕ} {before middle after : List ℕ} → Gave a limit count before middle between → Gave b limit between middle after r
    → Gave (a ++ b) limit count before after r
gives_more {a} {b} {limit} {count} {before = before} g h =
    record {
      counted = let e = length-append a b in omega (arith, g.counted, h.counted);
      wrote = h.wrote ∙ ap₂ (λ l i. written limit l i b) g.wrote g.counted ∙ sym (written-append limit before count a b);
    }

module _ (m : ℕ) (p : Picture) (w : Window) (f : ℕ) where
  -- nothing yet
  pub gave_none : (x limit count : ℕ) (answer : List ℕ) → GaveFrom m p w f x x limit count answer answer count
  gave_none x limit count answer =
      record { more = []; adds = sym (append-nil _); gave = record { counted = omega arith; wrote = sym (written_none limit answer count) } }

  -- a block of one feature is its own leaf
  one_leaf : {s : Spot} (h : BlockSpot m s) → AllHave m p f s.key (s.key + s.step) → keys_with (2 ^ f) (content_of m p s.key) ≡ s.key ∷ []
  one_leaf {s} h all =
      let has : (row column : ℕ) → InSquare h.height s.row s.column row column → p row column ≡ f
      = λ row column i.
      let x = inside {row = row} {column = column} h.block i in
      let v = within h.block in
      all row column (omega arith) (omega arith) x.from (omega (arith, h.step, x.until)) in
      let one = one_from_leaf p f h.height s.row s.column has in
      let same = has s.row s.column (first_within h.height s.row s.column) in
      ap (keys_with (2 ^ f)) (content_at_spot p h ∙ list_one p h.height s.row s.column s.key one)
      ∙ with_give (2 ^ f) (record_of s.key (2 ^ p s.row s.column)) [] (ap (λ g. 2 ^ g) same)
      ∙ ap (λ l. s.key ∷ l) (with_none (2 ^ f))

  module _ {x limit count given : ℕ} {before answer : List ℕ} where
    -- nothing on the way
    pub gave_nothing : (y z : ℕ) → lower y (select_in m p w f) ≡ lower z (select_in m p w f) → GaveFrom m p w f x y limit count before answer given
        → GaveFrom m p w f x z limit count before answer given
    gave_nothing y z e g = record { more = g.more; adds = sym e ∙ g.adds; gave = g.gave }

    -- so the window's block in a leaf is given itself
    pub gave_block : {s : Spot} → Walking m w s → is_within s w ≡ true → AllHave m p f s.key (s.key + s.step)
        → GaveFrom m p w f x s.key limit count before answer given
        → (after : List ℕ) → after ≡ written_at limit answer given s.key
        → GaveFrom m p w f x (s.key + s.step) limit count before after (given + 1)
    gave_block {s} h e all g after is =
        record {
          more = g.more ++ (s.key ∷ []);
          adds = lower_block m p w f h e ∙ ap₂ ◌++◌ g.adds (one_leaf h.stands all) ∙ append_assoc (lower x (select_in m p w f)) g.more (s.key ∷ []);
          gave = gives_more g.gave (gives_one limit given answer after s.key is);
        }

-- where the walk comes to
module _ {m : ℕ} {w : Window} {s : Spot} (h : Walking m w s) where
  -- past a block that the window holds
  pub comes_held : is_within s w ≡ true → (y : ℕ) → y ≡ s.key + s.step → Comes m w s y
  comes_held e y is =
      let k = some_keys h.stands in
      record { rise = omega arith; most = omega arith; held = λ e. is; nothing = λ no-e. absurd (true≢false (sym e ∙ no-e)) }

  -- past one apart from it
  pub comes_apart : is_apart s w ≡ true → is_within s w ≡ false → (y : ℕ) → y ≡ s.key + s.step → Comes m w s y
  comes_apart e cut y is =
      let k = some_keys h.stands in
      record {
        rise = omega arith;
        most = omega arith;
        held = λ e. is;
        nothing = λ e' p f. lower_apart m p w f h.stands e ∙ ap (λ x. lower x (select_in m p w f)) (sym is);
      }

  -- into one that it cuts
  pub comes_first : is_within s w ≡ false → Parent m s → (y : ℕ) → y ≡ s.key + s.step / 5 → Comes m w s y
  comes_first cut q y is =
      let k = some_keys h.stands in
      let l = first_stands q in
      record {
        rise = omega (arith, some_keys l);
        most = omega arith;
        held = λ e. absurd (true≢false (sym e ∙ cut));
        nothing = λ e p f. lower_enter m p w f h.stands q cut ∙ ap (λ x. lower x (select_in m p w f)) (sym is);
      }

  -- what comes after the block
  pub onward_after : (r : Option Spot) → Follows m (s.key + s.step) r → ((y : ℕ) → y ≡ s.key + s.step → Comes m w s y) → Onward m w s r
  onward_after (Some t) f comes = (walking_after h t f.0 f.1, comes t.key f.1)
  onward_after None f comes = comes (5 ^ m) (sym f)

  -- and its first quadrant
  pub onward_first : is_within s w ≡ false → Parent m s → Onward m w s (Some (first_quadrant s))
  onward_first cut q = (record { stands = first_stands q; parting = parting_first h q cut }, comes_first cut q _ refl)

-- the run through a leaf, from the key x on: what was given below the key y, whatever the picture, as long as it has the feature from x to the leaf's end
module _ (m : ℕ) (w : Window) (limit end x count : ℕ) (before : List ℕ) where
  pub record Reached (y : ℕ) (answer : List ℕ) (given : ℕ) : Type 0 where
    pub few : given + x ≤ count + y
    pub size : length answer ≡ length before
    pub gave : (p : Picture) (f : ℕ) → AllHave m p f x end → GaveFrom m p w f x y limit count before answer given

  -- at a block of it
  pub record Running (leaf : ℕ) (s : Spot) (answer : List ℕ) (given : ℕ) : Type 0 where
    pub walking : Walking m w s
    pub from : leaf ≤ s.key
    pub until : s.key + s.step ≤ end
    pub rise : x ≤ s.key
    pub reached : Reached s.key answer given

  pub reached_none : Reached x before count
  reached_none = record { few = omega arith; size = refl; gave = λ p f all. gave_none m p w f x limit count before }

  -- by other names
  pub reached_named : {y given : ℕ} {answer : List ℕ} → Reached y answer given → (answer₁ : List ℕ) (given₁ : ℕ) → answer₁ ≡ answer → given₁ ≡ given → Reached y answer₁ given₁
  reached_named r answer₁ given₁ e h = rw (e, h) r

  module _ {leaf given : ℕ} {s : Spot} {answer : List ℕ} (r : Running leaf s answer given) {y : ℕ} (c : Comes m w s y) where
    -- past a block that is given
    pub reached_held : is_within s w ≡ true → (after : List ℕ) → after ≡ written_at limit answer given s.key → Reached y after (given + 1)
    reached_held e after is =
        let there = c.held e in
        let one = gives_one limit given answer after s.key is in
        record {
          few = let few = r.reached.few in omega (arith, c.rise);
          size = ap length one.wrote ∙ length-written limit answer given (s.key ∷ []) ∙ r.reached.size;
          gave = λ p f all.
              subst (λ (z : ℕ). GaveFrom m p w f x z limit count before after (given + 1)) (sym there)
              (gave_block m p w f r.walking e (λ row column i j k l. all row column i j (omega (arith, r.rise)) (omega (arith, r.until)))
              (r.reached.gave p f all) after is);
        }

    -- or on the way from one that is not
    pub reached_not : is_within s w ≡ false → Reached y answer given
    reached_not e =
        record {
          few = let few = r.reached.few in omega (arith, c.rise);
          size = r.reached.size;
          gave = λ p f all. gave_nothing m p w f s.key y (c.nothing e p f) (r.reached.gave p f all);
        }

    -- on to a block of the leaf
    pub running_on : {after : List ℕ} {more : ℕ} (t : Spot) → y ≡ t.key → Walking m w t → (v : Spot) → BlockSpot m v → v.key ≡ leaf → v.key + v.step ≡ end → t.key < end
        → Reached y after more
        → Running leaf t after more
    running_on {after} {more} t is h v j first last inner reached =
        let n = within (nest j.block h.stands.block (omega (arith, r.from, c.rise)) (omega (arith, j.step))) in
        record {
          walking = h;
          from = omega (arith, r.from, c.rise);
          until = omega (arith, j.step, h.stands.step);
          rise = omega (arith, r.rise, c.rise);
          reached = subst (λ (z : ℕ). Reached z after more) is reached;
        }

    -- or to its end
    pub running_end : {after : List ℕ} {more : ℕ} → end ≤ y → Reached y after more → Reached end after more
    running_end {after} {more} past reached =
        let same : y ≡ end = omega (arith, c.most, r.until) in
        subst (λ (z : ℕ). Reached z after more) same reached
