-- What the steps of an exchange need and give, from one to the next: room for each run, and at the end the exchanged records. Rests on
-- ExchangeFilling and ExchangeSlice.
use Prim.Native.Nat.{ℕ, ◌+◌, ◌-◌, ◌*◌, ◌≤◌}
use mathlib.Core.Path.{◌≡◌, sym, ◌∙◌, ap, ap₂}
use mathlib.Core.List.{List, ◌++◌}
use native.Mathlib.Omega.{arith}
use lib.ListN.{length, get_or, take, drop, length-map}
use lib.Seq.{sets}
use lib.Bits.{bit_or}
use Rattle.definitions.specs.List.{Record, keys_of, values_of}
use Rattle.definitions.specs.Read.{room, records_of}
use Rattle.definitions.specs.Buffer.{over}
use Rattle.laws.proofs.Records.{records-length, value-at}
use Rattle.list.proofs.Among.{keys_of_records, values_of_records}
use Rattle.replace.specs.Plant.{front, back}
use Rattle.replace.specs.Put.{filling, inserted, exchanged}
use Rattle.replace.specs.declared.plan.Plan.{Plan}
use Rattle.replace.specs.Planting.{WroteFrom, Roomy}
use Rattle.replace.specs.Exchanging.{inserted_for, Copyable, Insertable, Exchangeable, SlicesHold}
use Rattle.replace.proofs.ByKeys.{exchanged_as_keys, exchanged_as_values}
use Rattle.replace.proofs.ExchangeLevel.{wrote-keys, wrote_bits}
use Rattle.replace.proofs.ExchangeFilling.{level_places, inserted-length, inserted-for, inserted_wrote}
use Rattle.replace.proofs.ExchangeSlice.{traded_is}

module _ {keys bits : List ℕ} {κ : ℕ} {plan : Plan} {content_keys content_bits : List ℕ} {count : ℕ}
    (i : Insertable keys bits κ plan content_keys content_bits count) (g v : ℕ) where
  -- there is room for the records before the content
  pub insert_front : Roomy (front κ g v plan.top plan.levels) plan.start keys bits
  insert_front =
      let p = level_places g v i.deep in
      let f = i.fits in
      record { in_keys = omega arith; in-bits = omega arith }

  module _ {keys₁ bits₁ : List ℕ} {at : ℕ} (w : WroteFrom (front κ g v plan.top plan.levels) plan.start keys bits keys₁ bits₁ at) where
    -- then for the content
    pub insert_filling : Copyable at keys₁ bits₁ content_keys content_bits count
    insert_filling =
        let p = level_places g v i.deep in
        let f = i.fits in
        let e = w.end in
        let k = wrote-keys w in
        let b = wrote_bits w in
        record { some = i.some; content_fits = i.content_fits; fits = omega arith }

    module _ {keys₂ bits₂ : List ℕ}
        (u : WroteFrom (filling κ (records_of content_keys content_bits count) plan.top) at keys₁ bits₁ keys₂ bits₂ (at + count)) where
      -- and then for the records after it
      pub insert_back : Roomy (back κ g plan.top plan.levels) (at + count) keys₂ bits₂
      insert_back =
          let p = level_places g v i.deep in
          let f = i.fits in
          let e = w.end in
          let k = wrote-keys w in
          let b = wrote_bits w in
          let k' = wrote-keys u in
          let b' = wrote_bits u in
          record { in_keys = omega arith; in-bits = omega arith }

      -- all of it is put in
      pub insert_done : {keys₃ bits₃ : List ℕ} {r : ℕ} → v ≡ bit_or g (get_or content_bits 0 0)
          → WroteFrom (back κ g plan.top plan.levels) (at + count) keys₂ bits₂ keys₃ bits₃ r
          → WroteFrom (inserted_for g κ (records_of content_keys content_bits count) plan) plan.start keys bits keys₃ bits₃ (plan.start + (4 * plan.levels + count))
      insert_done is t =
          let p = level_places g v i.deep in
          let e = w.end in
          let h = t.end in
          inserted_wrote g v κ (records_of content_keys content_bits count) plan (plan.start + (4 * plan.levels + count))
          (is ∙ ap (bit_or g) (sym (value-at content_keys content_bits count (omega (arith, i.content_fits)) (omega (arith, i.content_fits)) 0 i.some)))
          w u t (omega arith)

module _ {keys bits : List ℕ} {n κ : ℕ} {plan : Plan} {content_keys content_bits : List ℕ} {count : ℕ}
    (i : Exchangeable keys bits n κ plan content_keys content_bits count) where
  -- the tail moves to a place that is there
  pub exchange_tail : (plan.start + plan.old + (n - (plan.start + plan.old)) ≤ room keys bits)
      × (plan.start + (4 * plan.levels + count) + (n - (plan.start + plan.old)) ≤ room keys bits)
  exchange_tail =
      let a = i.within in
      let b = i.list_fits in
      let c = i.fits in
      omega arith

  module _ {keys₁ bits₁ : List ℕ} (keys_size : length keys₁ ≡ length keys) (bits_size : length bits₁ ≡ length bits) where
    -- and then there is room for what is put in
    pub exchange_insert : Insertable keys₁ bits₁ κ plan content_keys content_bits count
    exchange_insert =
        let t = exchange_tail in
        record { deep = i.deep; some = i.some; content_fits = i.content_fits; fits = omega arith }

  abbrev list : List Record
  list = records_of keys bits n

  abbrev content : List Record
  content = records_of content_keys content_bits count

  -- both slices begin with the exchanged records
  pub exchange_done : {keys₁ bits₁ keys₂ bits₂ : List ℕ}
      → keys₁ ≡ sets keys (plan.start + (4 * plan.levels + count)) (take (n - (plan.start + plan.old)) (drop (plan.start + plan.old) keys))
      → bits₁ ≡ sets bits (plan.start + (4 * plan.levels + count)) (take (n - (plan.start + plan.old)) (drop (plan.start + plan.old) bits))
      → WroteFrom (inserted_for (get_or bits plan.start 0) κ content plan) plan.start keys₁ bits₁ keys₂ bits₂ (plan.start + (4 * plan.levels + count))
      → SlicesHold (exchanged list κ content plan) keys bits keys₂ bits₂
  exchange_done {keys₁} {bits₁} e f w =
      let within = i.within in
      let fits = i.list_fits in
      let taken = i.taken in
      let tail = exchange_tail in
      let g : ℕ = get_or bits plan.start 0 in
      let new : List Record = inserted_for g κ content plan in
      let is : new ≡ inserted list κ content plan =
      inserted-for list κ content plan g (sym (value-at keys bits n (omega arith) (omega arith) plan.start (omega arith))) in
      let size = inserted-length g κ content plan i.deep in
      let count-is = records-length content_keys content_bits count (omega (arith, i.content_fits)) (omega (arith, i.content_fits)) in
      let k = length-map new (λ x. x.key) in
      let b = length-map new (λ x. x.value) in
      record {
        keys_are =
            w.in_keys
            ∙ ap (λ l. sets l plan.start (keys_of new)) e
            ∙ traded_is keys n plan.start (plan.start + plan.old) (plan.start + (4 * plan.levels + count)) (keys_of new)
            (omega arith) within (omega arith) (omega arith) (omega arith)
            ∙ ap₂ (λ l s. over (take plan.start l ++ (keys_of s ++ drop (plan.start + plan.old) l)) keys) (sym (keys_of_records keys bits n fits)) is
            ∙ ap (λ l. over l keys) (sym (exchanged_as_keys list κ content plan));
        values_are =
            w.in-bits
            ∙ ap (λ l. sets l plan.start (values_of new)) f
            ∙ traded_is bits n plan.start (plan.start + plan.old) (plan.start + (4 * plan.levels + count)) (values_of new)
            (omega arith) within (omega arith) (omega arith) (omega arith)
            ∙ ap₂ (λ l s. over (take plan.start l ++ (values_of s ++ drop (plan.start + plan.old) l)) bits) (sym (values_of_records keys bits n fits)) is
            ∙ ap (λ l. over l bits) (sym (exchanged_as_values list κ content plan));
      }
