-- The plan to put a content into a block, and how long the list is afterwards, by what is told of the content. Only contracts need these. Rests on Put of
-- replace.
use Rattle.std.specs.Prelude.{ℕ, ◌+◌, ◌-◌, ◌*◌, ◌≤◌, ◌<◌, ◌≡◌, Option, length}
use Rattle.definitions.specs.Refused.{refusal_number}
use Rattle.definitions.specs.declared.refusal.Refusal.{Refusal}
use Rattle.list.specs.declared.accepted_list.Accepted.{Accepted}
use Rattle.list.specs.Taken.{records_listed}
use Rattle.replace.specs.Put.{top_with, plan_at}
use Rattle.replace.specs.declared.plan.Plan.{Plan}

abbrev pub plan_told : Accepted → (κ : ℕ) (one : Option ℕ) → Plan
plan_told list κ one = plan_at list.m (records_listed list) κ (top_with list.m (records_listed list) κ one)

abbrev pub length_told : Accepted → (κ count : ℕ) (one : Option ℕ) → ℕ
length_told list κ count one = length list.keys.now - (plan_told list κ one).old + (4 * (plan_told list κ one).levels + count)

-- that plan, where there is room
abbrev pub PlanFits : Accepted → (room κ count : ℕ) (one : Option ℕ) → Plan → Type 0
PlanFits list room κ count one plan = (plan ≡ plan_told list κ one) × (length_told list κ count one ≤ room)

-- or 9
abbrev pub NoRoom : Accepted → (room κ count : ℕ) (one : Option ℕ) → Refusal → Type 0
NoRoom list room κ count one refusal = (refusal_number refusal ≡ 9) × (room < length_told list κ count one)
