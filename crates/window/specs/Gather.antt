-- What the contracts of select's inner functions say of the keys that they were given, and of the walk in a leaf. Only contracts need these.
use Rattle.std.specs.Prelude.{ℕ, ◌+◌, ◌^◌, ◌≤◌, ◌<◌, ◌≡◌, true, false, Option, Some, None, List, ◌++◌, length}
use Rattle.keys.specs.Block.{pixel_key}
use Rattle.definitions.specs.Picture.{Picture}
use Rattle.definitions.specs.Window.{select_in}
use Rattle.definitions.specs.declared.Window.{Window}
use Rattle.walk.specs.declared.Spot.{Spot}
use Rattle.walk.specs.Walk.{BlockSpot, Walking, is_within}
use Rattle.walk.specs.Given.{written, lower}

-- the keys that were given were counted, and written into the answer
pub record Gave (given : List ℕ) (limit count : ℕ) (before after : List ℕ) (r : ℕ) : Type 0 where
  pub counted : r ≡ count + length given
  pub wrote : after ≡ written limit before count given

-- every pixel whose key lies from x on and before y has the feature
abbrev pub AllHave : ℕ → Picture → ℕ → ℕ → ℕ → Type 0
AllHave m p f x y = (row column : ℕ) → row < 2 ^ m → column < 2 ^ m → x ≤ pixel_key m row column → pixel_key m row column < y → p row column ≡ f

-- what select gives from the key x on and before y was given
pub record GaveFrom (m : ℕ) (p : Picture) (w : Window) (f x y limit count : ℕ) (before after : List ℕ) (r : ℕ) : Type 0 where
  pub more : List ℕ
  pub adds : lower y (select_in m p w f) ≡ lower x (select_in m p w f) ++ more
  pub gave : Gave more limit count before after r

-- the walk can stand at a block, which lies in a leaf
pub record InLeaf (m : ℕ) (w : Window) (leaf s : Spot) : Type 0 where
  pub block : BlockSpot m leaf
  pub walking : Walking m w s
  pub from : leaf.key ≤ s.key
  pub until : s.key + s.step ≤ leaf.key + leaf.step

-- whatever picture has the feature in all of a leaf, what select gives of it from a block on was given
abbrev pub GaveLeaf : ℕ → Window → Spot → Spot → ℕ → ℕ → List ℕ → List ℕ → ℕ → Type 0
GaveLeaf m w leaf s limit count before after r =
    (p : Picture) (f : ℕ) → AllHave m p f s.key (leaf.key + leaf.step) → GaveFrom m p w f s.key (leaf.key + leaf.step) limit count before after r

-- the walk comes from a block to the key y: past the block where the window holds it, and else with nothing that select gives on the way
pub record Comes (m : ℕ) (w : Window) (s : Spot) (y : ℕ) : Type 0 where
  pub rise : s.key < y
  pub most : y ≤ s.key + s.step
  pub held : is_within s w ≡ true → y ≡ s.key + s.step
  pub nothing : is_within s w ≡ false → (p : Picture) (f : ℕ) → lower s.key (select_in m p w f) ≡ lower y (select_in m p w f)

abbrev pub Onward : ℕ → Window → Spot → Option Spot → Type 0
Onward m w s (Some t) = Walking m w t × Comes m w s t.key
Onward m w s None = Comes m w s (5 ^ m)
