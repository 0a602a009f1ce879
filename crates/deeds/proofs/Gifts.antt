-- What a list of entries makes of a block: the first entry that is not apart from it decides. Rests on Meetings and the laws of keys.
use Prim.Native.Nat.{ℕ, zero, suc, ◌<◌}
use mathlib.Core.Path.{◌≡◌, refl, sym, ◌∙◌, ap}
use mathlib.Core.Bool.{true, false, ◌||◌, true≢false}
use mathlib.Core.List.{List, [], ◌∷◌, map}
use native.Mathlib.Omega.{arith}
use Rattle.keys.specs.Key.{valid_key, height_of}
use Rattle.keys.specs.Block.{in_block, in_interval}
use Rattle.keys.proofs.Cases.{decide, or_left}
use Rattle.keys.specs.Under.{MapBlock, Every}
use Rattle.keys.proofs.Valid.{valid_block}
use Rattle.keys.proofs.Interval.{within, intervals-apart}
use Rattle.keys.proofs.Powers.{five_pos}
use Rattle.keys.proofs.Pixel.{inside}
use Rattle.keys.proofs.InBlock.{in_block_iff, in_interval-iff}
use Rattle.keys.proofs.Ancestor.{interval_iff}
use Rattle.laws.proofs.Within.{under_within}
use Rattle.edit_log.specs.declared.entry.Entry.{Entry}
use Rattle.deeds.specs.Step.{Step}
use Rattle.deeds.specs.Meeting.{block_at, Met}
use Rattle.deeds.specs.Runs.{Gift, touched, given, gifts_step, meeting_by, met_by}
use Rattle.deeds.specs.declared.meeting.Meeting.{Meeting}
use Rattle.deeds.specs.declared.meeting.Meeting.TheVariants.{Apart}
use Rattle.deeds.proofs.Meetings.{Covers, met_same}

pub touched_cons : (m : ℕ) (g : Gift) (gs : List Gift) (a b : ℕ) → touched m (g ∷ gs) a b ≡ in_block m g.key a b || touched m gs a b
unfolding touched
touched_cons m g gs a b = refl

pub touched_none : (m a b : ℕ) → touched m [] a b ≡ false
unfolding touched
touched_none m a b = refl

pub given_this : (m : ℕ) (g : Gift) (gs : List Gift) (a b : ℕ) → in_block m g.key a b ≡ true → given m (g ∷ gs) a b ≡ g.content a b
unfolding given
given_this m g gs a b h = rw h

pub given_later : (m : ℕ) (g : Gift) (gs : List Gift) (a b : ℕ) → in_block m g.key a b ≡ false → given m (g ∷ gs) a b ≡ given m gs a b
unfolding given
given_later m g gs a b h = rw h

-- an entry apart from the block has none of its pixels
pub apart_none : (m : ℕ) {k r c κ : ℕ} (x : ℕ) → MapBlock m k r c κ → valid_key m x ≡ true → in_interval m x κ ≡ false → in_interval m κ x ≡ false
    → Every (λ a b. in_block m x a b ≡ false) k r c
apart_none m {k} {r} {c} {κ} x u valid e f a b w =
    decide (in_block m x a b)
    (λ t.
    let v = valid_block m x valid in
    let i = inside v ((in_block_iff a b v).0 t) in
    let j = inside u w in
    intervals-apart u v
    (λ h. absurd (true≢false (sym ((interval_iff u v).1 h) ∙ f)))
    (λ h. absurd (true≢false (sym ((interval_iff v u).1 h) ∙ e)))
    (λ h. absurd (omega arith))
    (λ h. absurd (omega arith)))
    (λ t. t)

-- a block that holds another is no pixel
higher : {m : ℕ} (k r c κ x : ℕ) → MapBlock m k r c κ → valid_key m x ≡ true → in_interval m x κ ≡ false → in_interval m κ x ≡ true → 0 < k
higher {m} zero r c κ x u valid h i =
    let z = five_pos (height_of m x) in
    let v = valid_block m x valid in
    let w = within ((interval_iff u v).0 i) in
    absurd (true≢false (sym ((in_interval-iff κ v).1 (omega arith)) ∙ h))
higher (suc k) r c κ x u valid h i = omega arith

module _ (m : ℕ) (gift : Entry → Gift) (same_key : (e : Entry) → (gift e).key ≡ e.key) (gives : Entry → Meeting) (ks vs : List ℕ) where
  -- an entry's key is valid, and where its block holds the one with key κ, it tells what a step makes of that which gives it the content
  pub record Tells (k r c κ : ℕ) (e : Entry) : Type 0 where
    pub valid : valid_key m e.key ≡ true
    pub told : in_interval m e.key κ ≡ true → (t : Step) → Covers t (gift e).content k r c → Met t ks vs (block_at k r c κ) (gives e)

  abbrev pub AllTell : (k r c κ : ℕ) → List Entry → Type 0
  AllTell k r c κ [] = Unit {0}
  AllTell k r c κ (e ∷ es) = Tells k r c κ e × AllTell k r c κ es

  key_valid : {k r c κ : ℕ} (e : Entry) → Tells k r c κ e → valid_key m (gift e).key ≡ true
  key_valid e tells = ap (valid_key m) (same_key e) ∙ tells.valid

  module _ {k r c κ : ℕ} (u : MapBlock m k r c κ) where
    module _ (e : Entry) (es : List Entry) (tells : Tells k r c κ e) where
      -- the entry's block holds this one
      holds : in_interval m e.key κ ≡ true → Met (gifts_step m (gift e ∷ map gift es)) ks vs (block_at k r c κ) (gives e)
      holds h =
          let v = valid_block m (gift e).key (key_valid e tells) in
          let h' : in_interval m (gift e).key κ ≡ true = ap (λ x. in_interval m x κ) (same_key e) ∙ h in
          tells.told h (gifts_step m (gift e ∷ map gift es))
          (λ a b w.
          let t = (in_block_iff a b v).1 (under_within ((interval_iff v u).0 h') w) in
          (touched_cons m (gift e) (map gift es) a b ∙ or_left _ _ t, given_this m (gift e) (map gift es) a b t))

      -- the two are apart: the later entries decide
      later : {meeting : Meeting} → in_interval m e.key κ ≡ false → in_interval m κ e.key ≡ false → Met (gifts_step m (map gift es)) ks vs (block_at k r c κ) meeting
          → Met (gifts_step m (gift e ∷ map gift es)) ks vs (block_at k r c κ) meeting
      later h i =
          let out = apart_none m e.key u tells.valid h i in
          met_same (λ a b w.
          let z : in_block m (gift e).key a b ≡ false = ap (λ x. in_block m x a b) (same_key e) ∙ out a b w in (
            sym (touched_cons m (gift e) (map gift es) a b ∙ ap (λ x. x || touched m (map gift es) a b) z),
            sym (given_later m (gift e) (map gift es) a b z),
          ))

    -- where this block holds the entry's, its quadrants have to be asked
    pub entries_meet : (es : List Entry) → AllTell k r c κ es → Met (gifts_step m (map gift es)) ks vs (block_at k r c κ) (meeting_by m Apart κ gives es)
    unfolding meeting_by met_by
    entries_meet [] all = record { told = λ a b w. touched_none m a b }
    entries_meet (e ∷ es) all =
        decide (in_interval m e.key κ)
        (λ h. rw h (holds e es all.0 h))
        (λ h. decide (in_interval m κ e.key)
        (λ i. rw (h, i) (record { told = higher k r c κ e.key u all.0.valid h i }))
        (λ i. rw (h, i) (later e es all.0 h i (entries_meet es all.1))))
