-- The records below a leaf, laid by its meeting with the step: a content is copied as it stands in the log, and otherwise there are none. Rests on Known and
-- LeafWritten.
use Prim.Native.Nat.{ℕ, ◌+◌, ◌-◌, ◌≤◌}
use mathlib.Core.Path.{◌≡◌, refl, sym, ◌∙◌, ap}
use mathlib.Core.Bool.{true, false, true≢false}
use mathlib.Core.List.{List, [], ◌∷◌}
use native.Mathlib.Omega.{arith}
use lib.ListN.{length, get_or, take, drop}
use lib.Seq.{sets, drop-drop}
use Rattle.slices.proofs.Parts.{drop-take}
use Rattle.keys.proofs.Cases.{decide}
use Rattle.definitions.specs.Picture.{Picture, one_feature}
use Rattle.definitions.specs.Bits.{feature_of}
use Rattle.definitions.specs.List.{Record, keys_of, values_of}
use Rattle.definitions.specs.Read.{room}
use Rattle.laws.proofs.ListOf.{list_one}
use Rattle.list.specs.Check.{one_slot}
use Rattle.edit_log.specs.Entries.{records_from_place}
use Rattle.edit_log.proofs.Places.{run_keys, run_values}
use Rattle.build.specs.BuildBlocks.{below, Tallied}
use Rattle.deeds.specs.Step.{Step, step_over, plain}
use Rattle.deeds.specs.Meeting.{block_at, ContentGiven, Met, is_cut}
use Rattle.deeds.specs.declared.meeting.Meeting.{Meeting}
use Rattle.deeds.specs.declared.meeting.Meeting.TheVariants.{Apart, Leaf, Content, Cut}
use Rattle.deeds.proofs.Meetings.{met_content}
use Rattle.apply_deed.specs.Passes.{known_of, FittingBefore, WrittenBefore, ContentFits, Layable, LeafLaid}
use Rattle.apply_deed.proofs.Known.{content_count, content_first, known_tallied, own_leaf_bits, leaf_records}
use Rattle.apply_deed.proofs.LeafWritten.{before_one, single}

-- what was laid, kind by kind
module _ {meeting : Meeting} (own : ℕ) (lk lv : List ℕ) (end : ℕ) (ks bs : List ℕ) {place : ℕ} where
  pub laid_apart : meeting ≡ Apart → place ≡ end - 1 → LeafLaid meeting own lk lv end ks bs ks bs own place
  laid_apart e i = rw e (record { keys_are = refl; bits_are = refl; union_is = refl; place_is = λ h. i })

  pub laid_leaf : {b : ℕ} → meeting ≡ Leaf b → place ≡ end - 1 → LeafLaid meeting own lk lv end ks bs ks bs b place
  laid_leaf e i = rw e (record { keys_are = refl; bits_are = refl; union_is = refl; place_is = λ h. i })

  pub laid_cut : meeting ≡ Cut → LeafLaid meeting own lk lv end ks bs ks bs 0 place
  laid_cut e = rw e (record { keys_are = refl; bits_are = refl; union_is = refl; place_is = λ h. absurd (true≢false h) })

-- a content ends before the place
pub laid_content : {meeting : Meeting} (own : ℕ) (lk lv : List ℕ) (end : ℕ) (ks bs : List ℕ) {start count : ℕ} {ks' bs' : List ℕ} → meeting ≡ Content start count
    → ks' ≡ sets ks (end - count + 1) (take (count - 1) (drop (start + 1) lk)) → bs' ≡ sets bs (end - count + 1) (take (count - 1) (drop (start + 1) lv))
    → LeafLaid meeting own lk lv end ks bs ks' bs' (get_or lv start 0) (end - count)
laid_content own lk lv end ks bs e i j = rw e (record { keys_are = i; bits_are = j; union_is = refl; place_is = λ h. refl })

-- all but the first of some numbers
keys_below : (l : List Record) → keys_of (drop 1 l) ≡ drop 1 (keys_of l)
keys_below [] = refl
keys_below (x ∷ l) = refl

values_below : (l : List Record) → values_of (drop 1 l) ≡ drop 1 (values_of l)
values_below [] = refl
values_below (x ∷ l) = refl

behind_first : (l : List ℕ) (start count : ℕ) → drop 1 (take count (drop start l)) ≡ take (count - 1) (drop (start + 1) l)
behind_first l start count = drop-take 1 count (drop start l) ∙ ap (take (count - 1)) (drop-drop 1 start l)

-- a content
module _ {t : Step} {lk lv : List ℕ} {k r c κ start count : ℕ} (x : ContentGiven t lk lv k r c κ start count) (p : Picture) where
  there : start + count ≤ room lk lv
  there = omega (arith, x.in_keys, x.in_values)

  content_several : one_feature (step_over t p) k r c ≡ false
  content_several =
      decide (one_feature (step_over t p) k r c)
      (λ one. let e = content_count x p in let l = ap length (list_one (step_over t p) k r c κ one) in absurd (omega (arith, x.several)))
      (λ several. several)

  pub content_fits : {end : ℕ} {ks bs : List ℕ} → FittingBefore (step_over t p) (block_at k r c κ) end ks bs → ContentFits lk lv end ks bs start count
  content_fits f = record {
    some = omega (arith, x.several);
    from_keys = x.in_keys;
    from_values = x.in_values;
    low = let e = content_count x p in let h = f.low content_several in omega arith;
    in_keys = f.keys_room content_several;
    in-bits = f.bits_room content_several;
  }

  below_keys : keys_of (below (step_over t p) k r c κ) ≡ take (count - 1) (drop (start + 1) lk)
  below_keys = ap (λ l. keys_of (drop 1 l)) (sym (x.is p)) ∙ keys_below (records_from_place lk lv start count) ∙ ap (drop 1) (run_keys lk lv start count there) ∙ behind_first lk start count

  below_values : values_of (below (step_over t p) k r c κ) ≡ take (count - 1) (drop (start + 1) lv)
  below_values = ap (λ l. values_of (drop 1 l)) (sym (x.is p)) ∙ values_below (records_from_place lk lv start count) ∙ ap (drop 1) (run_values lk lv start count there) ∙ behind_first lv start count

  pub content_written : {end place union : ℕ} {ks bs ks' bs' : List ℕ}
      → ks' ≡ sets ks (place + 1) (take (count - 1) (drop (start + 1) lk)) → bs' ≡ sets bs (place + 1) (take (count - 1) (drop (start + 1) lv))
      → union ≡ get_or lv start 0 → place ≡ end - count
      → WrittenBefore (step_over t p) (block_at k r c κ) end ks bs ks' bs' union place
  content_written {end} {place} {ks = ks} {bs} i j u n = record {
    place_is = n ∙ ap (λ l. end - l) (content_count x p);
    written = record {
      union_is = u ∙ content_first x p;
      next-is = refl;
      keys_are = i ∙ ap (sets ks (place + 1)) (sym below_keys);
      bits_are = j ∙ ap (sets bs (place + 1)) (sym below_values);
    };
  }

-- a leaf is laid as its meeting tells
module _ {t : Step} {lk lv : List ℕ} {k r c κ end : ℕ} {ks bs : List ℕ} {meeting : Meeting} (x : Met t lk lv (block_at k r c κ) meeting) where
  pub met_layable : (p : Picture) → FittingBefore (step_over t p) (block_at k r c κ) end ks bs → Layable meeting lk lv end ks bs
  met_layable p f = record { fits = λ start count e. content_fits (met_content x e) p f }

-- nothing is laid below one record
one_written : {q : Picture} {k r c b : ℕ} (κ : ℕ) {ks bs ks' bs' : List ℕ} {end union place : ℕ} → Tallied q k r c b 1 → ks' ≡ ks → bs' ≡ bs → union ≡ b → place ≡ end - 1
    → WrittenBefore q (block_at k r c κ) end ks bs ks' bs' union place
one_written κ t e f g h = before_one κ (single t) (g ∙ t.bits_are) h e f

written_cases : (t : Step) (lk lv : List ℕ) (k r c κ end : ℕ) (ks bs ks' bs' : List ℕ) (own union place : ℕ) → one_slot own ≡ true
    → (meeting : Meeting) → Met t lk lv (block_at k r c κ) meeting → is_cut meeting ≡ false → LeafLaid meeting own lk lv end ks bs ks' bs' union place
    → WrittenBefore (step_over t (plain (feature_of own))) (block_at k r c κ) end ks bs ks' bs' union place
written_cases t lk lv k r c κ end ks bs ks' bs' own union place one Apart x cut l =
    one_written κ (known_tallied {tally = known_of Apart own 1 lv} (plain (feature_of own)) (own_leaf_bits own k r c one) (leaf_records (feature_of own) k r c κ) x cut refl)
    l.keys_are l.bits_are l.union_is (l.place_is cut)
written_cases t lk lv k r c κ end ks bs ks' bs' own union place one (Leaf b) x cut l =
    one_written κ (x.told (plain (feature_of own))) l.keys_are l.bits_are l.union_is (l.place_is cut)
written_cases t lk lv k r c κ end ks bs ks' bs' own union place one (Content start count) x cut l =
    content_written x.told (plain (feature_of own)) l.keys_are l.bits_are l.union_is (l.place_is cut)
written_cases t lk lv k r c κ end ks bs ks' bs' own union place one Cut x cut l = absurd (true≢false cut)

-- THE LAW
pub laid_written : {t : Step} {lk lv : List ℕ} {k r c κ end own union place : ℕ} {ks bs ks' bs' : List ℕ} {meeting : Meeting} → one_slot own ≡ true
    → Met t lk lv (block_at k r c κ) meeting → is_cut meeting ≡ false → LeafLaid meeting own lk lv end ks bs ks' bs' union place
    → WrittenBefore (step_over t (plain (feature_of own))) (block_at k r c κ) end ks bs ks' bs' union place
laid_written {t} {lk} {lv} {k} {r} {c} {κ} {end} {own} {union} {place} {ks} {bs} {ks'} {bs'} {meeting} one x cut l =
    written_cases t lk lv k r c κ end ks bs ks' bs' own union place one meeting x cut l
