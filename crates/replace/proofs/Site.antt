-- The site of the exchange: the block whose records the plan exchanges, which is the filled block where that is listed, else the leaf around it.
-- Both lists are this block's own in one context, but for the bits of the blocks around it. Rests on Choice, Standing and Field.
use Prim.Native.Nat.{ℕ, zero, ◌+◌, ◌-◌, ◌*◌, ◌^◌, ◌≤◌, ◌<◌}
use mathlib.Core.Path.{◌≡◌, refl, sym, ◌∙◌, ap, ap₂, subst, subst₂}
use mathlib.Core.Bool.{true}
use mathlib.Core.List.{List, ◌++◌, append-nil}
use mathlib.Core.Logic.{◌⊎◌, inl, inr}
use native.Mathlib.Omega.{arith}
use lib.Bits.{bit_or}
use lib.ListN.{length, get_or}
use Rattle.keys.specs.Key.{height_of}
use Rattle.keys.specs.Under.{Under}
use Rattle.keys.proofs.Interval.{nest, one_block}
use Rattle.keys.proofs.Valid.{block_valid}
use Rattle.keys.proofs.Pixel.{InKeys}
use Rattle.definitions.specs.Picture.{Picture, one_feature}
use Rattle.definitions.specs.Bits.{bits_of}
use Rattle.definitions.specs.List.{Record, list_of, keys_of, values_of}
use Rattle.definitions.specs.Standing.{place_of, part_length}
use Rattle.laws.proofs.ListOf.{list_one}
use Rattle.replace.specs.Family.{around, block_bits}
use Rattle.replace.specs.Plant.{front, back}
use Rattle.replace.specs.Put.{first_bits, plan_at, plan_of, filling, inserted}
use Rattle.replace.specs.declared.plan.Plan.{Plan}
use Rattle.replace.proofs.Way.{Way, there, up, under_of, steps, steps_up, steps_height}
use Rattle.replace.proofs.Outside.{Outside, outside_up}
use Rattle.replace.proofs.Context.{before_hole, Open, open_up}
use Rattle.replace.proofs.Standing.{LeafAround, ListedOrInside, listed, inside, stands, place_listed, key_listed, part_listed, place_inside, bits_inside, key_inside, part_inside, leaf_several}
use Rattle.replace.proofs.Family.{around_is, keys_up}
use Rattle.replace.proofs.Field.{Planted, planted_none, planted_all, planted-length}
use Rattle.replace.proofs.Inside.{inside_own, same_list}
use Rattle.replace.proofs.Choice.{Chosen, chosen}

-- the new list of the plan's block: the content itself, or one record, or the content planted in a leaf of the old picture, n levels above it
pub data NewList (p p' : Picture) (κ : ℕ) (content : List Record) (h r c x : ℕ) : Type 0 where
  own : list_of p' h r c x ≡ content → NewList p p' κ content h r c x
  merged : one_feature p' h r c ≡ true → NewList p p' κ content h r c x
  planted : {k n : ℕ}
      → one_feature p h r c ≡ true
      → 1 ≤ n
      → Planted p' κ (2 ^ p r c) (bit_or (2 ^ p r c) (first_bits content)) k n content h r c x
      → NewList p p' κ content h r c x

-- the plan's block: the old list has it in a context, and the records put in are its new list
pub record Site (p p' : Picture) (m κ : ℕ) (content : List Record) (plan : Plan) : Type 0 where
  pub height : ℕ
  pub row : ℕ
  pub column : ℕ
  pub key : ℕ
  pub way : Way m 0 0 0 height row column key
  pub holds : InKeys height key κ
  pub out : Outside p p' height row column
  pub old_opens : Open p way
  pub new_opens : Open p' way
  pub start_is : plan.start ≡ length (before_hole p way)
  pub old_is : plan.old ≡ length (list_of p height row column key)
  pub height_is : plan.top + plan.levels ≡ height
  pub new_is : inserted (list_of p m 0 0 0) κ content plan ≡ list_of p' height row column key
  pub new_length : length (list_of p' height row column key) ≡ 4 * plan.levels + length content
  pub kind : NewList p p' κ content height row column key
  pub split_own : 1 ≤ plan.levels → plan.top ≡ height_of m κ

-- the parts of a plan whose filled block has the key x
plan_start : (m κ top x : ℕ) (l : List Record) → around top κ ≡ x → (plan_at m l κ top).start ≡ place_of x l
unfolding plan_at
plan_start m κ top x l e = ap (λ y. place_of y l) e

plan_old : (m κ top x : ℕ) (l : List Record) → around top κ ≡ x → (plan_at m l κ top).old ≡ part_length m x l
unfolding plan_at
plan_old m κ top x l e = ap (λ y. part_length m y l) e

plan_levels : (m κ top x y : ℕ) (l : List Record) → around top κ ≡ x → get_or (keys_of l) (place_of x l) 0 ≡ y → (plan_at m l κ top).levels ≡ height_of m y - top
unfolding plan_at
plan_levels m κ top x y l e f = ap (λ z. height_of m (get_or (keys_of l) (place_of z l) 0) - top) e ∙ ap (λ z. height_of m z - top) f

plan_bits : (m κ top x : ℕ) (l : List Record) → around top κ ≡ x → get_or (values_of l) (plan_at m l κ top).start 0 ≡ block_bits x l
unfolding block_bits
plan_bits m κ top x l e = ap (λ i. get_or (values_of l) i 0) (plan_start m κ top x l e)

-- what is put in, for the plan's numbers
abbrev shape : ℕ → List Record → ℕ → ℕ → ℕ → ℕ → List Record
shape κ content g b top n = front κ g (bit_or g b) top n ++ (filling κ content top ++ back κ g top n)

inserted_by : (m κ top : ℕ) (l content : List Record) {g b n : ℕ}
    → get_or (values_of l) (plan_at m l κ top).start 0 ≡ g
    → first_bits content ≡ b
    → (plan_at m l κ top).levels ≡ n
    → inserted l κ content (plan_at m l κ top) ≡ shape κ content g b top n
unfolding inserted plan_at
inserted_by m κ top l content {g} {b} old new levels =
    ap₂ (λ u v. shape κ content u v top (plan_at m l κ top).levels) old new ∙ ap (λ n. shape κ content g b top n) levels

plan_top : (m κ top : ℕ) (l : List Record) → (plan_at m l κ top).top ≡ top
unfolding plan_at
plan_top m κ top l = refl

shape_none : (κ : ℕ) (content : List Record) (g b top : ℕ) → shape κ content g b top zero ≡ filling κ content top
unfolding front back
shape_none κ content g b top = append-nil _

kind_listed : (p p' : Picture) (κ : ℕ) (content : List Record) (h r c x : ℕ)
    → (x ≡ κ → list_of p' h r c x ≡ content)
    → (x ≡ κ) ⊎ (one_feature p' h r c ≡ true)
    → NewList p p' κ content h r c x
kind_listed p p' κ content h r c x same (inl e) = own (same e)
kind_listed p p' κ content h r c x same (inr e) = merged e

-- to a block with another key it is at least one step
some_steps : {K R C Κ k r c κ : ℕ} (w : Way K R C Κ k r c κ) → Κ < κ → 1 ≤ 0 + steps w
some_steps there h = absurd (omega arith)
some_steps (up q w) h = let e = steps_up q w in omega arith

module _ (p p' : Picture) {m k r c κ : ℕ} (w : Way m 0 0 0 k r c κ) (out : Outside p p' k r c) (content : List Record) (is : list_of p' k r c κ ≡ content) (y : Chosen p' m κ (list_of p m 0 0 0) content) where
  filled_is : around y.height κ ≡ y.key
  filled_is = around_is (under_of y.way) y.holds

  filled_under : Under y.height y.row y.column y.key k r c κ
  filled_under = nest (under_of y.way) (under_of w) y.holds.from y.holds.until

  filled_own : y.key ≡ κ → list_of p' y.height y.row y.column y.key ≡ content
  filled_own e = same_list p' (under_of y.way) (under_of w) e ∙ is

  -- inside a leaf the filled block is the one with key κ
  inside_key : LeafAround p y.way → (y.key ≡ κ) ⊎ (one_feature p' y.height y.row y.column ≡ true) → y.key ≡ κ
  inside_key x (inl e) = e
  inside_key x (inr one) = inside_own p p' x y.opens filled_under out one

  -- the filled block is listed: its records are exchanged
  site_listed : Open p y.way → Site p p' m κ content (plan_at m (list_of p m 0 0 0) κ y.height)
  site_listed o =
      let l = list_of p m 0 0 0 in
      let height = (block_valid (under_of y.way)).height in
      let none : (plan_at m l κ y.height).levels ≡ 0 = plan_levels m κ y.height y.key y.key l filled_is (key_listed p y.way o) ∙ omega arith in
      let top = plan_top m κ y.height l in
      let long = y.as_long in
      record {
        height = y.height;
        row = y.row;
        column = y.column;
        key = y.key;
        way = y.way;
        holds = y.holds;
        out = outside_up filled_under out;
        old_opens = o;
        new_opens = y.opens;
        start_is = plan_start m κ y.height y.key l filled_is ∙ place_listed p y.way o;
        old_is = plan_old m κ y.height y.key l filled_is ∙ part_listed p y.way o m height;
        height_is = omega arith;
        new_is =
            inserted_by m κ y.height l content refl refl none
            ∙ shape_none κ content _ _ y.height
            ∙ y.fills;
        new_length = omega arith;
        kind = kind_listed p p' κ content y.height y.row y.column y.key filled_own y.kind;
        split_own = λ some. absurd (omega arith);
      }

  -- it lies inside a leaf: the leaf's record is exchanged for a field of its feature with the content in it
  site_inside : LeafAround p y.way → Site p p' m κ content (plan_at m (list_of p m 0 0 0) κ y.height)
  site_inside x =
      let l = list_of p m 0 0 0 in
      let g = 2 ^ p x.row x.column in
      let outside = outside_up filled_under out in
      let height = (block_valid (under_of x.way)).height in
      let up_to_lem = steps_height x.under in
      let field =
      planted_all p p' x.one (under_of x.way) x.under outside (x.still p' y.opens) y.holds
      (planted_none p' κ g y.height y.row y.column y.key) in
      let levels : (plan_at m l κ y.height).levels ≡ 0 + steps x.under =
      plan_levels m κ y.height y.key x.key l filled_is (key_inside p x) ∙ omega arith in
      let top = plan_top m κ y.height l in
      let long = y.as_long in
      let total = planted-length p' field in
      let key = inside_key x y.kind in
      record {
        height = x.height;
        row = x.row;
        column = x.column;
        key = x.key;
        way = x.way;
        holds = keys_up (under_of x.under) y.holds;
        out = outside_up (under_of x.under) outside;
        old_opens = x.opens;
        new_opens = open_up p' x.way (leaf_several p p' x y.opens);
        start_is = plan_start m κ y.height y.key l filled_is ∙ place_inside p x;
        old_is =
            plan_old m κ y.height y.key l filled_is
            ∙ part_inside p x m
            ∙ sym (ap length (list_one p x.height x.row x.column x.key x.one));
        height_is = omega arith;
        new_is =
            inserted_by m κ y.height l content (plan_bits m κ y.height y.key l filled_is ∙ bits_inside p x) y.bits_are levels
            ∙ ap (λ f. front κ g (bit_or g (bits_of p' y.height y.row y.column)) y.height (0 + steps x.under) ++ (f ++ back κ g y.height (0 + steps x.under))) y.fills
            ∙ sym field.list;
        new_length = omega arith;
        kind =
            planted x.one (some_steps x.under x.first)
            (subst₂ (λ b core. Planted p' κ g (bit_or g b) y.height (0 + steps x.under) core x.height x.row x.column x.key) (sym y.bits_are) (filled_own key) field);
        split_own = λ some. top ∙ (one_block (under_of y.way) (under_of w) key).heights ∙ sym (block_valid (under_of w)).height;
      }

  site_at : ListedOrInside p y.way → Site p p' m κ content (plan_at m (list_of p m 0 0 0) κ y.height)
  site_at (listed o) = site_listed o
  site_at (inside x) = site_inside x

-- the plan for a content that is the new picture's list of the block with key κ, outside which the pictures are equal
pub site : (p p' : Picture) {m k r c κ : ℕ} → Way m 0 0 0 k r c κ → Outside p p' k r c
    → Site p p' m κ (list_of p' k r c κ) (plan_of m (list_of p m 0 0 0) κ (list_of p' k r c κ))
unfolding plan_of
site p p' {m} {k} {r} {c} {κ} w out =
    let y = chosen p p' w out in
    subst (λ h. Site p p' m κ (list_of p' k r c κ) (plan_at m (list_of p m 0 0 0) κ h)) (sym y.top_is)
    (site_at p p' w out (list_of p' k r c κ) refl y (stands p y.way))
