-- Entries in one order and in the other: what the pixels get, and what is made of a block. Rests on Gifts and Chains.
use Prim.Native.Nat.{ℕ, ◌+◌, ◌^◌, ◌≤◌, ◌<◌}
use mathlib.Core.Path.{◌≡◌, refl, sym, ◌∙◌, ap, ap₂}
use mathlib.Core.Bool.{Bool, true, false, cond, ◌||◌}
use mathlib.Core.List.{List, [], ◌∷◌, map}
use native.Mathlib.Omega.{arith}
use Rattle.keys.specs.Key.{valid_key, height_of}
use Rattle.keys.specs.Block.{in_block, pixel_key}
use Rattle.keys.proofs.Cases.{decide, neither_left, neither_right}
use Rattle.keys.proofs.Valid.{valid_block}
use Rattle.keys.proofs.Pixel.{inside}
use Rattle.keys.proofs.InBlock.{in_block_iff}
use Rattle.edit_log.specs.declared.entry.Entry.{Entry}
use Rattle.deeds.specs.Runs.{Gift, touched, given, gifts_step, met_by, meeting_by, descends}
use Rattle.deeds.specs.declared.meeting.Meeting.{Meeting}
use Rattle.deeds.proofs.Gifts.{touched_cons, touched_none, given_this, given_later}
use Rattle.deeds.proofs.Meetings.{Same}
use Rattle.deeds.proofs.Chains.{onto, onto-some, descends_first, descends_rest}

-- a pixel of a block has a key of its interval
pub pixel_keys : (m x a b : ℕ) → valid_key m x ≡ true → in_block m x a b ≡ true → (x ≤ pixel_key m a b) × (pixel_key m a b < x + 5 ^ height_of m x)
pixel_keys m x a b valid h =
    let v = valid_block m x valid in
    let i = inside v ((in_block_iff a b v).0 h) in
    (i.from, i.until)

-- a pixel before a block's key is none of its
pub pixel_before : (m x a b : ℕ) → valid_key m x ≡ true → pixel_key m a b < x → in_block m x a b ≡ false
pixel_before m x a b valid h = decide (in_block m x a b) (λ t. let k = pixel_keys m x a b valid t in absurd (omega arith)) (λ t. t)

-- no entry, and one more
pub meeting_none : (m : ℕ) (others : Meeting) (κ : ℕ) (gives : Entry → Meeting) → meeting_by m others κ gives [] ≡ others
unfolding meeting_by
meeting_none m others κ gives = refl

pub meeting_some : (m : ℕ) (others : Meeting) (κ : ℕ) (gives : Entry → Meeting) (e : Entry) (es : List Entry)
    → meeting_by m others κ gives (e ∷ es) ≡ met_by m κ gives e (meeting_by m others κ gives es)
unfolding meeting_by
meeting_some m others κ gives e es = refl

-- what stands behind turned entries matters only by what it makes of the block
pub meeting_onto : (m : ℕ) (x x' : Meeting) (κ : ℕ) (gives : Entry → Meeting) (es others others' : List Entry) → meeting_by m x κ gives others ≡ meeting_by m x' κ gives others'
    → meeting_by m x κ gives (onto es others) ≡ meeting_by m x' κ gives (onto es others')
unfolding onto
meeting_onto m x x' κ gives [] others others' h = h
meeting_onto m x x' κ gives (e ∷ es) others others' h =
    meeting_onto m x x' κ gives es (e ∷ others) (e ∷ others')
    (meeting_some m x κ gives e others ∙ ap (met_by m κ gives e) h ∙ sym (meeting_some m x' κ gives e others'))

-- one entry taken off the end: it has met the block
pub meeting_turn : (m : ℕ) (x : Meeting) (κ : ℕ) (gives : Entry → Meeting) (e : Entry) (es : List Entry)
    → meeting_by m (met_by m κ gives e x) κ gives (onto es []) ≡ meeting_by m x κ gives (onto (e ∷ es) [])
meeting_turn m x κ gives e es =
    meeting_onto m (met_by m κ gives e x) x κ gives es [] (e ∷ [])
    (meeting_none m (met_by m κ gives e x) κ gives ∙ sym (meeting_some m x κ gives e [] ∙ ap (met_by m κ gives e) (meeting_none m x κ gives)))
    ∙ ap (meeting_by m x κ gives) (sym (onto-some e es []))

-- entries with valid keys
abbrev pub AllValid : (m : ℕ) → List Entry → Type 0
AllValid m [] = Unit {0}
AllValid m (e ∷ es) = (valid_key m e.key ≡ true) × AllValid m es

-- a pixel of no block is given nothing
given_untouched : (m : ℕ) (gs : List Gift) (a b : ℕ) → touched m gs a b ≡ false → given m gs a b ≡ given m [] a b
given_untouched m [] a b h = refl
given_untouched m (g ∷ gs) a b h =
    let both : in_block m g.key a b || touched m gs a b ≡ false = sym (touched_cons m g gs a b) ∙ h in
    given_later m g gs a b (neither_left (in_block m g.key a b) (touched m gs a b) both)
    ∙ given_untouched m gs a b (neither_right (in_block m g.key a b) (touched m gs a b) both)

module _ (m : ℕ) (gift : Entry → Gift) where
  -- pixel by pixel too: what stands behind matters only by what it does to the pixel
  pub touched_onto : (es others others' : List Entry) (a b : ℕ) → touched m (map gift others) a b ≡ touched m (map gift others') a b
      → touched m (map gift (onto es others)) a b ≡ touched m (map gift (onto es others')) a b
  unfolding onto
  touched_onto [] others others' a b h = h
  touched_onto (e ∷ es) others others' a b h =
      touched_onto es (e ∷ others) (e ∷ others') a b
      (touched_cons m (gift e) (map gift others) a b ∙ ap (λ x. in_block m (gift e).key a b || x) h ∙ sym (touched_cons m (gift e) (map gift others') a b))

  pub given_onto : (es others others' : List Entry) (a b : ℕ) → given m (map gift others) a b ≡ given m (map gift others') a b
      → given m (map gift (onto es others)) a b ≡ given m (map gift (onto es others')) a b
  unfolding onto
  given_onto [] others others' a b h = h
  given_onto (e ∷ es) others others' a b h =
      given_onto es (e ∷ others) (e ∷ others') a b
      (decide (in_block m (gift e).key a b)
      (λ t. given_this m (gift e) (map gift others) a b t ∙ sym (given_this m (gift e) (map gift others') a b t))
      (λ t. given_later m (gift e) (map gift others) a b t ∙ h ∙ sym (given_later m (gift e) (map gift others') a b t)))

  -- the pixels of turned entries are those of the entries and of what stands behind them
  pub touched_turned : (es others : List Entry) (a b : ℕ) → touched m (map gift (onto es others)) a b ≡ touched m (map gift es) a b || touched m (map gift others) a b
  unfolding onto
  touched_turned [] others a b = ap (λ x. x || touched m (map gift others) a b) (sym (touched_none m a b))
  touched_turned (e ∷ es) others a b =
      touched_turned es (e ∷ others) a b
      ∙ ap (λ x. touched m (map gift es) a b || x) (touched_cons m (gift e) (map gift others) a b)
      ∙ swapped (touched m (map gift es) a b) (in_block m (gift e).key a b) (touched m (map gift others) a b)
      ∙ ap (λ x. x || touched m (map gift others) a b) (sym (touched_cons m (gift e) (map gift es) a b))
    where
      swapped : (x y z : Bool) → x || (y || z) ≡ (y || x) || z
      swapped true true z = refl
      swapped true false z = refl
      swapped false true z = refl
      swapped false false z = refl

  module _ (same_key : (e : Entry) → (gift e).key ≡ e.key) where
    in_same : (e : Entry) (a b : ℕ) → in_block m (gift e).key a b ≡ in_block m e.key a b
    in_same e a b = ap (λ x. in_block m x a b) (same_key e)

    -- entries that descend below a limit have no pixel from there on
    none_past : (limit : ℕ) (es : List Entry) (a b : ℕ) → AllValid m es → descends m limit es ≡ true → limit ≤ pixel_key m a b → touched m (map gift es) a b ≡ false
    none_past limit [] a b v d h = touched_none m a b
    none_past limit (e ∷ es) a b v d h =
        let f = descends_first m limit e es d in
        let out : in_block m e.key a b ≡ false = decide (in_block m e.key a b) (λ t. let k = pixel_keys m e.key a b v.0 t in absurd (omega arith)) (λ t. t) in
        touched_cons m (gift e) (map gift es) a b
        ∙ ap (λ x. x || touched m (map gift es) a b) (in_same e a b ∙ out)
        ∙ none_past e.key es a b v.1 (descends_rest m limit e es d) (omega arith)

    -- so a pixel gets the same from them in either order
    pub given_turned : (limit : ℕ) (es others : List Entry) (a b : ℕ) → AllValid m es → descends m limit es ≡ true
        → given m (map gift (onto es others)) a b ≡ cond (touched m (map gift es) a b) (given m (map gift es) a b) (given m (map gift others) a b)
    unfolding onto
    given_turned limit [] others a b v d = sym (ap (λ x. cond x (given m (map gift []) a b) (given m (map gift others) a b)) (touched_none m a b))
    given_turned limit (e ∷ es) others a b v d =
        given_turned e.key es (e ∷ others) a b v.1 (descends_rest m limit e es d)
        ∙ decide (in_block m (gift e).key a b)
        (λ t.
        let k = pixel_keys m e.key a b v.0 (sym (in_same e a b) ∙ t) in
        let none = none_past e.key es a b v.1 (descends_rest m limit e es d) k.0 in
        ap (λ x. cond x (given m (map gift es) a b) (given m (map gift (e ∷ others)) a b)) none
        ∙ given_this m (gift e) (map gift others) a b t
        ∙ sym (ap (λ x. cond x (given m (map gift (e ∷ es)) a b) (given m (map gift others) a b)) (touched_cons m (gift e) (map gift es) a b ∙ ap (λ x. x || touched m (map gift es) a b) t)
        ∙ given_this m (gift e) (map gift es) a b t))
        (λ t.
        ap (λ y. cond (touched m (map gift es) a b) (given m (map gift es) a b) y) (given_later m (gift e) (map gift others) a b t)
        ∙ sym (ap₂ (λ x y. cond x y (given m (map gift others) a b)) (touched_cons m (gift e) (map gift es) a b ∙ ap (λ x. x || touched m (map gift es) a b) t) (given_later m (gift e) (map gift es) a b t)))

    -- the steps are the same at every pixel
    pub same_turned : (limit : ℕ) (es : List Entry) → AllValid m es → descends m limit es ≡ true → (k r c : ℕ)
        → Same (gifts_step m (map gift es)) (gifts_step m (map gift (onto es []))) k r c
    same_turned limit es v d k r c a b w = (
      sym (touched_turned es [] a b ∙ ap (λ x. touched m (map gift es) a b || x) (touched_none m a b) ∙ or_none (touched m (map gift es) a b)),
      sym (given_turned limit es [] a b v d ∙ none_given es a b),
    )
      where
        or_none : (x : Bool) → x || false ≡ x
        or_none true = refl
        or_none false = refl

        none_given : (es : List Entry) (a b : ℕ) → cond (touched m (map gift es) a b) (given m (map gift es) a b) (given m [] a b) ≡ given m (map gift es) a b
        none_given es a b =
            decide (touched m (map gift es) a b)
            (λ t. ap (λ x. cond x (given m (map gift es) a b) (given m [] a b)) t)
            (λ t. ap (λ x. cond x (given m (map gift es) a b) (given m [] a b)) t ∙ sym (given_untouched m (map gift es) a b t))
