-- Bytes written one piece after another: what stands already, and what is still to come. Rests on lib.Seq's runs of stores.
use Prim.Native.Nat.{ℕ, suc, ◌+◌}
use mathlib.Core.Path.{◌≡◌, refl, sym, ap, ◌∙◌}
use mathlib.Core.List.{List, [], ◌∷◌, ◌++◌, append_assoc, append-nil}
use native.Mathlib.Nat.{add-zero, add-suc, suc-add, zero-add}
use native.Mathlib.Omega.{arith}
use lib.ListN.{length, drop, set, length-append}
use lib.Seq.{sets, length-sets, sets-eq}
use Rattle.definitions.specs.Buffer.{over}
use Rattle.listing_text.specs.Put.{Put, BytesFit}

-- two runs of stores, one after the other, are one
sets-append : (l : List ℕ) (i : ℕ) (us vs : List ℕ) → sets (sets l i us) (i + length us) vs ≡ sets l i (us ++ vs)
sets-append l i [] vs = ap (λ (k : ℕ). sets l k vs) (add-zero i)
sets-append l i (a ∷ us) vs =
    ap (λ (k : ℕ). sets (sets (set l i a) (suc i) us) k vs) (add-suc i (length us) ∙ sym (suc-add i (length us)))
    ∙ sets-append (set l i a) (suc i) us vs

-- of the whole, the bytes done stand from the first place on, and what remains comes at place
pub record Going (whole remaining : List ℕ) (start : ℕ) (old later : List ℕ) (place : ℕ) : Type 0 where
  pub done : List ℕ
  pub splits : whole ≡ done ++ remaining
  pub put : Put done start old later place

-- nothing is written, all of it remains
pub line_begins : (whole : List ℕ) (start : ℕ) (old : List ℕ) → Going whole whole start old old start
line_begins whole start old = record { done = []; splits = refl; put = record { content = refl; after = sym (add-zero start) } }

module _ {whole : List ℕ} {start : ℕ} {old later : List ℕ} {place : ℕ} where
  -- what remains is said in another way
  pub renamed : {remaining other : List ℕ} → Going whole remaining start old later place → remaining ≡ other → Going whole other start old later place
  renamed g e = record { done = g.done; splits = g.splits ∙ ap (λ r. g.done ++ r) e; put = g.put }

  -- one more piece is written
  pub goes : (piece : List ℕ) {rest last : List ℕ} {next : ℕ} → Going whole (piece ++ rest) start old later place → Put piece place later last next
      → Going whole rest start old last next
  goes piece {rest} {last} {next} g p =
      record {
        done = g.done ++ piece;
        splits = g.splits ∙ sym (append_assoc g.done piece rest);
        put = record {
          content = p.content
              ∙ ap (λ (l : List ℕ). sets l place piece) g.put.content
              ∙ ap (λ (k : ℕ). sets (sets old start g.done) k piece) g.put.after
              ∙ sets-append old start g.done piece;
          after = let h = length-append g.done piece in omega (arith, g.put.after, p.after);
        };
      }

  -- nothing remains
  pub ends : Going whole [] start old later place → Put whole start old later place
  ends g =
      let e : g.done ≡ whole = sym (g.splits ∙ append-nil g.done) in
      record {
        content = g.put.content ∙ ap (λ (l : List ℕ). sets old start l) e;
        after = g.put.after ∙ ap (λ (l : List ℕ). start + length l) e;
      }

  -- the slice keeps its length
  pub same_length : {remaining : List ℕ} → Going whole remaining start old later place → length later ≡ length old
  same_length g = ap length g.put.content ∙ length-sets old start g.done

  -- where the whole has room, what remains has
  pub room : (remaining : List ℕ) → Going whole remaining start old later place → BytesFit whole start old → BytesFit remaining place later
  room remaining g h =
      let l = ap length g.splits ∙ length-append g.done remaining in
      let k = same_length g in
      record { fits = omega (arith, g.put.after) }

  -- and so has its next piece
  pub piece_room : (piece rest : List ℕ) → Going whole (piece ++ rest) start old later place → BytesFit whole start old → BytesFit piece place later
  piece_room piece rest g h =
      let q = room (piece ++ rest) g h in
      let l = length-append piece rest in
      record { fits = omega arith }

-- the last piece is written
pub finishes : {whole : List ℕ} {start : ℕ} {old later : List ℕ} {place : ℕ} (piece : List ℕ) {last : List ℕ} {next : ℕ}
    → Going whole piece start old later place → Put piece place later last next → Put whole start old last next
finishes piece g p = ends (goes piece (renamed g (sym (append-nil piece))) p)

-- bytes from the first place on: they, and then the places past them
pub put_over : (bytes old later : List ℕ) (next : ℕ) → BytesFit bytes 0 old → Put bytes 0 old later next → later ≡ over bytes old
put_over bytes old later next h p =
    p.content ∙ sets-eq bytes old 0 h.fits ∙ ap (λ (k : ℕ). bytes ++ drop k old) (zero-add (length bytes))

pub put-length : (bytes : List ℕ) {old later : List ℕ} {next : ℕ} → Put bytes 0 old later next → next ≡ length bytes
put-length bytes p = p.after ∙ zero-add (length bytes)

-- a slice that was written to keeps its length
pub bytes_kept : {bytes : List ℕ} {place : ℕ} {old later : List ℕ} {next : ℕ} → Put bytes place old later next → length later ≡ length old
bytes_kept {bytes} {place} {old} p = ap length p.content ∙ length-sets old place bytes
