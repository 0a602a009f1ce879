-- The walk over the bitstrings of a node's four quadrants: what is left of them at each turn, that each shows its quadrant, and one turn more.
-- Rests on Rectangle and the laws of lists.
use Prim.Native.Nat.{ℕ, zero, suc, ◌+◌, ◌^◌, ◌<◌}
use mathlib.Core.Path.{◌≡◌, sym, ◌∙◌, ap}
use mathlib.Core.List.{List, ◌++◌, append_assoc, map-append}
use native.Mathlib.Omega.{arith}
use lib.ListN.{length, drop, length-append}
use Rattle.definitions.specs.Picture.{Picture}
use Rattle.definitions.specs.List.{Record, values_of, list_of}
use Rattle.list.specs.Quadrants.{quadrant_row, quadrant_column}
use Rattle.list.proofs.ShownQuadrants.{quadrant_list, lists_from}
use Rattle.read.specs.Fill.{rectangle_painted}
use Rattle.read.proofs.Rectangle.{four_painted}

-- the quadrants painted from one on
abbrev pub quadrant_painted : ℕ → Picture → ℕ → ℕ → ℕ → ℕ → List ℕ → List ℕ
quadrant_painted wide p half r c d x = rectangle_painted wide p (quadrant_row d r half) (quadrant_column d c half) half half x

unfoldable pub paints_from : ℕ → Picture → ℕ → ℕ → ℕ → ℕ → ℕ → List ℕ → List ℕ
paints_from wide p half r c d zero x = x
paints_from wide p half r c d (suc left) x = paints_from wide p half r c (suc d) left (quadrant_painted wide p half r c d x)

pub paints_all : (wide : ℕ) (p : Picture) (half side r c : ℕ) (x : List ℕ) → side ≡ half + half → paints_from wide p half r c 0 4 x ≡ rectangle_painted wide p r c side side x
unfolding paints_from quadrant_row quadrant_column
paints_all wide p half side r c x e = four_painted wide p r c half side x e

-- after some turns: the quadrants that are left follow in the bitstrings, and once they are painted the node is
pub record QuadrantsPassed (p : Picture) (k r c κ : ℕ) (bits : List ℕ) (at wide side : ℕ) (raster₀ raster : List ℕ) (next d : ℕ) : Type 0 where
  pub left : ℕ
  pub count : d + left ≡ 4
  pub rest : List ℕ
  pub values : drop next bits ≡ values_of (lists_from p k r c κ d left) ++ rest
  pub ends : next + length (lists_from p k r c κ d left) ≡ at + length (list_of p (suc k) r c κ)
  pub paints : paints_from wide p (2 ^ k) r c d left raster ≡ rectangle_painted wide p r c side side raster₀
  pub long : length raster ≡ length raster₀

-- the same with the next quadrant apart
pub record Opened (p : Picture) (k r c κ : ℕ) (bits : List ℕ) (at wide side : ℕ) (raster₀ raster : List ℕ) (next d : ℕ) : Type 0 where
  pub left : ℕ
  pub count : d + suc left ≡ 4
  pub rest : List ℕ
  pub values : drop next bits ≡ values_of (quadrant_list p k r c κ d) ++ (values_of (lists_from p k r c κ (suc d) left) ++ rest)
  pub ends : next + (length (quadrant_list p k r c κ d) + length (lists_from p k r c κ (suc d) left)) ≡ at + length (list_of p (suc k) r c κ)
  pub paints : paints_from wide p (2 ^ k) r c (suc d) left (quadrant_painted wide p (2 ^ k) r c d raster) ≡ rectangle_painted wide p r c side side raster₀
  pub long : length raster ≡ length raster₀

two_values : (a b : List Record) (rest : List ℕ) → values_of (a ++ b) ++ rest ≡ values_of a ++ (values_of b ++ rest)
two_values a b rest = ap (λ l. l ++ rest) (map-append (λ x. x.value) a b) ∙ append_assoc (values_of a) (values_of b) rest

module _ (p : Picture) (k r c κ : ℕ) (bits : List ℕ) (at wide side : ℕ) (raster₀ raster : List ℕ) (next d : ℕ) where
  open_left : (left : ℕ) (rest : List ℕ)
      → d + left ≡ 4
      → d < 4
      → drop next bits ≡ values_of (lists_from p k r c κ d left) ++ rest
      → next + length (lists_from p k r c κ d left) ≡ at + length (list_of p (suc k) r c κ)
      → paints_from wide p (2 ^ k) r c d left raster ≡ rectangle_painted wide p r c side side raster₀
      → length raster ≡ length raster₀
      → Opened p k r c κ bits at wide side raster₀ raster next d
  unfolding lists_from paints_from
  open_left zero rest count h values ends paints long = absurd (omega arith)
  open_left (suc left) rest count h values ends paints long =
      record {
        left = left;
        count = count;
        rest = rest;
        values = values ∙ two_values (quadrant_list p k r c κ d) (lists_from p k r c κ (suc d) left) rest;
        ends = ap (λ n. next + n) (sym (length-append (quadrant_list p k r c κ d) (lists_from p k r c κ (suc d) left))) ∙ ends;
        paints = paints;
        long = long;
      }

pub open_next : {p : Picture} {k r c κ : ℕ} {bits : List ℕ} {at wide side : ℕ} {raster₀ raster : List ℕ} {next d : ℕ}
    → QuadrantsPassed p k r c κ bits at wide side raster₀ raster next d
    → d < 4
    → Opened p k r c κ bits at wide side raster₀ raster next d
open_next {p} {k} {r} {c} {κ} {bits} {at} {wide} {side} {raster₀} {raster} {next} {d} x h =
    open_left p k r c κ bits at wide side raster₀ raster next d x.left x.rest x.count h x.values x.ends x.paints x.long
