-- The program's room is enough: a raster of up to 32 by 32 has at most 1,365 records, so that refusal 9 never comes, and the bytes past the first
-- 1,027 change nothing, so that reading no more still finds every raster that is too long. Rests on Listed.
use Prim.Native.Nat.{ℕ, suc, ◌*◌, ◌^◌, ◌≤◌, ◌<◌, min}
use mathlib.Core.Path.{◌≡◌, refl, sym, ap, ap₂, ◌∙◌}
use mathlib.Core.Bool.{cond, not}
use mathlib.Core.List.{List}
use native.Mathlib.Omega.{arith}
use native.Mathlib.Nat.{pow-le-pow_right, mul-le-mul}
use lib.Dec.{lit<}
use lib.ListN.{length, take, length-drop, length-replicate}
use lib.Seq.{take_all, get_or-take, length-take-le}
use borrow.Author.Tests.{le-ltb, ne_eqb}
use Rattle.keys.specs.Key.{root_key}
use Rattle.keys.proofs.Cases.{decide, split}
use Rattle.keys.proofs.Powers.{two_le}
use Rattle.definitions.specs.Picture.{picture_of_raster}
use Rattle.definitions.specs.List.{list_of_raster}
use Rattle.definitions.specs.Read.{room}
use Rattle.definitions.specs.Refusal.{first, bad_settings, bad_length, bad_pixel}
use Rattle.definitions.specs.Calls.Build.{build_refusal}
use Rattle.laws.proofs.ListOf.{list_most}
use Rattle.definitions.specs.Listing.{largest_resolution, record_room, m_of, s_of, raster_of, build_refuses, listing_refusal, listed}
use Rattle.listing_text.proofs.Listed.{refused_short, refused_large, refused_build, prints_refusal}

-- the list of a raster of up to 32 by 32
pub few_records : (m : ℕ) (raster : List ℕ) → m ≤ largest_resolution → length (list_of_raster m raster) ≤ 1365
few_records m raster h =
    let e = list_most (picture_of_raster m raster) m 0 0 root_key in
    let p = pow-le-pow_right {n = 4} (lit< tt) {i = suc m} {j = 6} (omega arith) in
    omega arith

record-room : room record_room record_room ≡ 1365
record-room = ap₂ min (length-replicate {A = ℕ} 1365 0) (length-replicate {A = ℕ} 1365 0)

-- build's room is enough
build_few : (m s : ℕ) (raster : List ℕ) → m ≤ largest_resolution → build_refusal m s raster record_room record_room ≤ 3
unfolding build_refusal first
build_few m s raster small =
    let n = few_records m raster small in
    let r = record-room in
    let fits = le-ltb (room record_room record_room) (length (list_of_raster m raster)) (omega arith) in
    decide (bad_settings m s) (λ e. rw e (omega arith))
    (λ e.
    rw e
    (decide (bad_length m raster) (λ f. rw f (omega arith))
    (λ f. rw f (decide (bad_pixel s raster) (λ g. rw g (omega arith)) (λ g. rw (g, fits) (omega arith))))))

-- the program refuses with 1, 2 or 3 alone
pub never_nine : (input : List ℕ) → listing_refusal input ≤ 3
unfolding build_refuses
never_nine input =
    split (length input) 2
    (λ short. let e = refused_short input short in omega arith)
    (λ two.
    split largest_resolution (m_of input)
    (λ large. let e = refused_large input two large in omega arith)
    (λ small.
    let e = refused_build input two small in
    let f = build_few (m_of input) (s_of input) (raster_of input) small in
    omega arith))

-- more than 1,024 pixels are too many at every resolution up to 5
long_raster : (m s : ℕ) (raster keys bits : List ℕ) → m ≤ largest_resolution → 1024 < length raster
    → build_refusal m s raster keys bits ≡ cond (bad_settings m s) 1 2
unfolding build_refusal first bad_length
long_raster m s raster keys bits small long =
    let p = two_le 5 small in
    let q = mul-le-mul p p in
    let e = ap not (ne_eqb (length raster) (2 ^ m * 2 ^ m) (λ z. omega arith)) in
    decide (bad_settings m s) (λ b. rw b) (λ b. rw (b, e))

-- two inputs that are refused with the same number print the same
same_print : (a b : List ℕ) (k : ℕ) → (k ≡ 0 → ⊥) → listing_refusal a ≡ k → listing_refusal b ≡ k → listed a ≡ listed b
same_print a b k not-zero e f = prints_refusal a k e not-zero ∙ sym (prints_refusal b k f not-zero)

module _ (input : List ℕ) (long : 1026 < length input) where
  abbrev read : List ℕ
  read = take 1027 input

  read_length : length read ≡ 1027
  read_length = length-take-le 1027 input long

  same_m : m_of read ≡ m_of input
  same_m = get_or-take 1027 input 0 0 (omega arith)

  same_s : s_of read ≡ s_of input
  same_s = get_or-take 1027 input 1 0 (omega arith)

  -- what a raster that is too long is refused with
  abbrev number : ℕ
  number = cond (bad_settings (m_of input) (s_of input)) 1 2

  number_some : number ≡ 0 → ⊥
  number_some = decide (bad_settings (m_of input) (s_of input)) (λ e. rw e (λ z. omega arith)) (λ e. rw e (λ z. omega arith))

  long_refused : (other : List ℕ) → 1026 < length other → m_of other ≡ m_of input → s_of other ≡ s_of input → m_of input ≤ largest_resolution
      → listing_refusal other ≡ number
  unfolding build_refuses
  long_refused other h em es small =
      refused_build other (omega arith) (omega arith)
      ∙ long_raster (m_of other) (s_of other) (raster_of other) record_room record_room (omega arith) (let d = length-drop 2 other in omega arith)
      ∙ ap₂ (λ m s. cond (bad_settings m s) 1 2) em es

  long_same : listed read ≡ listed input
  long_same =
      let l = read_length in
      let em = same_m in
      split largest_resolution (m_of input)
      (λ large. same_print read input 1 (λ z. omega arith) (refused_large read (omega arith) (omega arith)) (refused_large input (omega arith) large))
      (λ small. same_print read input number number_some (long_refused read (omega arith) same_m same_s small) (long_refused input long refl refl small))

-- the bytes past the first 1,027 change nothing
pub read_enough : (input : List ℕ) → listed (take 1027 input) ≡ listed input
read_enough input = split 1026 (length input) (λ long. long_same input long) (λ short. ap listed (take_all 1027 input (omega arith)))
