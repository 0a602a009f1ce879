-- The list after a change: an accepted list of the changed picture. After a content was put into a block the summary is to be counted anew in that block alone.
-- Rests on laws' ReadBack and SummaryOf.
use Prim.Native.Nat.{ℕ, ◌^◌, ◌≤◌, ◌<◌}
use mathlib.Core.Path.{◌≡◌, sym, ◌∙◌, ap, ap₂}
use mathlib.Core.Bool.{true, false}
use mathlib.Core.List.{List, map}
use native.Mathlib.Omega.{arith}
use lib.ListN.{length, take, length-take, length-map}
use lib.Seq.{take_at}
use Rattle.keys.specs.Key.{slot_limit, root_key, valid_key}
use Rattle.keys.specs.Block.{in_block}
use Rattle.definitions.specs.Picture.{Picture}
use Rattle.definitions.specs.List.{Record, keys_of, values_of, list_of_picture}
use Rattle.definitions.specs.Read.{paired, records_of, picture_of}
use Rattle.definitions.specs.Buffer.{replaced}
use Rattle.definitions.specs.Edit.{put}
use Rattle.definitions.specs.Area.{summary_of}
use Rattle.laws.proofs.Pixels.{Agree}
use Rattle.laws.proofs.ListOf.{list_agree}
use Rattle.laws.proofs.ReadBack.{root_keys, block_back, picture_back}
use Rattle.laws.proofs.Records.{paired_back}
use Rattle.laws.proofs.Put.{put_out}
use Rattle.laws.proofs.SummaryOf.{summary_agree}
use Rattle.list.specs.Own.{OwnList, shown_by}
use Rattle.list.specs.declared.accepted_list.Accepted.{Accepted}
use Rattle.list.specs.Taken.{Taken, picture_listed}
use Rattle.list.proofs.Taken.{taken_picture}
use Rattle.replace.specs.Putting.{Replaced}
use Rattle.edit.specs.Recount.{Outdated}

-- the new list stands at the front of a slice that it replaced a list in
front : (f : Record → ℕ) (l : List Record) (n r : ℕ) (slice slice' : List ℕ) → r ≡ length l → slice' ≡ replaced n (map f l) slice → take r slice' ≡ map f l
front f l n r slice slice' e is = ap (take r) is ∙ take_at (map f l) _ r (length-map l f ∙ sym e)

there : (f : Record → ℕ) (l : List Record) (r : ℕ) (slice : List ℕ) → r ≡ length l → take r slice ≡ map f l → r ≤ length slice
there f l r slice e is = let all = ap length is in omega (arith, length-take r slice, length-map l f)

module _ (m : ℕ) {n : ℕ} {keys bits keys' bits' : List ℕ} {r : ℕ} (p : Picture) (made : Replaced n (list_of_picture m p) keys bits keys' bits' r) where
  keys_front : take r keys' ≡ keys_of (list_of_picture m p)
  keys_front = front (λ x. x.key) (list_of_picture m p) n r keys keys' made.length-is made.keys_are

  values_front : take r bits' ≡ values_of (list_of_picture m p)
  values_front = front (λ x. x.value) (list_of_picture m p) n r bits bits' made.length-is made.values_are

  new_records : records_of keys' bits' r ≡ list_of_picture m p
  new_records = ap₂ paired keys_front values_front ∙ paired_back (list_of_picture m p)

  -- it shows the picture
  pub new_shows : Agree (shown_by m keys' bits' r) p m 0 0
  new_shows a c w = ap (λ l. picture_of m l a c) new_records ∙ block_back m p m 0 0 root_key (root_keys m) a c w

  -- and is the list of what it shows
  pub new_own : OwnList m keys' bits' r
  new_own =
      let a = there (λ x. x.key) (list_of_picture m p) r keys' made.length-is keys_front in
      let b = there (λ x. x.value) (list_of_picture m p) r bits' made.length-is values_front in
      record { fits = omega arith; own = new_records ∙ sym (list_agree (shown_by m keys' bits' r) p m 0 0 root_key new_shows) }

  -- so its summary is the picture's
  pub new_summary : (s : ℕ) (summary' : List ℕ) → summary' ≡ summary_of m s (shown_by m keys' bits' r) → summary' ≡ summary_of m s p
  new_summary s summary' e = e ∙ summary_agree m s (shown_by m keys' bits' r) p new_shows

module _ (m s κ : ℕ) {n : ℕ} {keys bits keys' bits' : List ℕ} {r : ℕ} (q : Picture)
    (made : Replaced n (list_of_picture m (put m κ q (shown_by m keys bits n))) keys bits keys' bits' r) where
  -- the summary from before is right outside the block
  module _ {list : Accepted} (t : Taken m keys' bits' r list) where
    pub put_outdated : (summary : List ℕ) → s ≤ slot_limit → valid_key m κ ≡ true → summary ≡ summary_of m s (shown_by m keys bits n) → Outdated list s summary κ
    put_outdated summary few valid counts = record {
      few = few;
      valid = ap (λ k. valid_key k κ) t.map ∙ valid;
      before = shown_by m keys bits n;
      counts = counts ∙ ap (λ k. summary_of k s (shown_by m keys bits n)) (sym t.map);
      outside = λ a c h j o.
          let row : a < 2 ^ m = rw t.map at h in
          let column : c < 2 ^ m = rw t.map at j in
          let out : in_block m κ a c ≡ false = rw t.map at o in
          ap (λ p. p a c) (taken_picture t)
          ∙ ap (λ l. picture_of m l a c) (new_records m (put m κ q (shown_by m keys bits n)) made)
          ∙ picture_back m (put m κ q (shown_by m keys bits n)) a c row column
          ∙ put_out m κ q (shown_by m keys bits n) a c out;
    }

    -- and counted anew it is that of the changed picture
    pub put_counted : (summary' : List ℕ) → summary' ≡ summary_of list.m s (picture_listed list)
        → summary' ≡ summary_of m s (put m κ q (shown_by m keys bits n))
    put_counted summary' e =
        new_summary m (put m κ q (shown_by m keys bits n)) made s summary' (e ∙ ap₂ (λ k p. summary_of k s p) t.map (taken_picture t))
