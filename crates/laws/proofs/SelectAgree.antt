-- Select depends on nothing but the pixels of the block: pictures that agree there give the same keys, and so rules the same findings. Rests on BlocksFrom.
use Prim.Native.Nat.{ℕ}
use mathlib.Core.Path.{◌≡◌, refl, ap, ap₂}
use mathlib.Core.Bool.{◌&&◌}
use mathlib.Core.List.{List, [], ◌∷◌, ◌++◌, map}
use lib.Dec.{eqb}
use Rattle.keys.specs.Key.{root_key}
use Rattle.definitions.specs.Picture.{Picture}
use Rattle.definitions.specs.Window.{in_window, has_in, select_from, select_in}
use Rattle.definitions.specs.Rules.{finding_of, window_of_rule, findings_of, all_findings}
use Rattle.definitions.specs.declared.Window.{Window}
use Rattle.definitions.specs.declared.Rule.{Rule}
use Rattle.laws.proofs.Pixels.{Agree}
use Rattle.laws.proofs.BlocksFrom.{blocks_same}

-- pictures that agree on the block's pixels give the same keys
pub select_agree : (p q : Picture) (w : Window) (f k r c κ : ℕ) → Agree p q k r c → select_from p w f k r c κ ≡ select_from q w f k r c κ
select_agree p q w f k r c κ same =
    blocks_same (has_in p w f) (has_in q w f) k r c κ (λ row column h. ap (λ x. in_window w row column && eqb x f) (same row column h))

-- pictures that agree on the map's pixels have the same findings
pub findings_agree : (m : ℕ) (p q : Picture) (rules : List Rule) → Agree p q m 0 0 → all_findings m p rules ≡ all_findings m q rules
unfolding all_findings findings_of select_in
findings_agree m p q [] same = refl
findings_agree m p q (rule ∷ rules) same =
    ap₂ (λ keys rest. map (finding_of rule.id) keys ++ rest) (select_agree p q (window_of_rule rule) rule.feature m 0 0 root_key same) (findings_agree m p q rules same)
