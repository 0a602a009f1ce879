-- What the listing program prints for an input (specification S26), as bytes. A number is in decimal, characters are those of
-- ASCII, and a line ends with a line feed. Rests on the definitions of build.
use Rattle.std.specs.Prelude.{ℕ, zero, suc, ◌+◌, ◌/◌, ◌%◌, true, false, cond, not, List, [], ◌∷◌, ◌++◌, map, length, get_or, drop, replicate, ltb, eqb}
use Rattle.keys.specs.Key.{digits_of}
use Rattle.definitions.specs.Bits.{has_slot}
use Rattle.definitions.specs.List.{Record, list_of_raster, keys_of, values_of}
use Rattle.definitions.specs.Buffer.{over}
use Rattle.definitions.specs.Refusal.{◌gives◌, first, accepted}
use Rattle.definitions.specs.Calls.Build.{build_refusal}

-- the character of a digit
abbrev pub character_of : ℕ → ℕ
character_of digit = 48 + digit

abbrev pub blank : ℕ
blank = 32

abbrev pub line_end : ℕ
line_end = 10

-- "-"
abbrev pub dash : ℕ
dash = 45

-- "refused"
abbrev pub refused : List ℕ
refused = 0x72 ∷ 0x65 ∷ 0x66 ∷ 0x75 ∷ 0x73 ∷ 0x65 ∷ 0x64 ∷ []

-- a number in decimal, with no zero in front: its tenth, taken at most so many times, and then its last digit
unfoldable pub decimal_in : ℕ → ℕ → List ℕ
decimal_in zero x = character_of x ∷ []
decimal_in (suc fuel) x =
    elim (ltb x 10) [ true ↦ character_of x ∷ [] | false ↦ decimal_in fuel (x / 10) ++ (character_of (x % 10) ∷ []) ]

-- as many times as the number says is enough
unfoldable pub decimal : ℕ → List ℕ
decimal x = decimal_in x x

-- the m digits of a key
abbrev pub digits_text : ℕ → ℕ → List ℕ
digits_text m κ = map character_of (digits_of m κ)

-- a key: its m digits, or "-" at m = 0
unfoldable pub key_text : ℕ → ℕ → List ℕ
key_text m κ = cond (eqb m 0) (dash ∷ []) (digits_text m κ)

-- a character 0 or 1 for each of so many slots, slot i leftmost
unfoldable pub slots_from : ℕ → ℕ → ℕ → List ℕ
slots_from i zero bits = []
slots_from i (suc left) bits = character_of (cond (has_slot bits i) 1 0) ∷ slots_from (suc i) left bits

-- s characters, slot 0 leftmost
abbrev pub slots_text : ℕ → ℕ → List ℕ
slots_text s bits = slots_from 0 s bits

-- a record's line: its key, a blank, its slots
unfoldable pub line_of : ℕ → ℕ → Record → List ℕ
line_of m s e = key_text m e.key ++ (blank ∷ (slots_text s e.value ++ (line_end ∷ [])))

-- a line per record
unfoldable pub lines_of : ℕ → ℕ → List Record → List ℕ
lines_of m s [] = []
lines_of m s (e ∷ l) = line_of m s e ++ lines_of m s l

-- the line with m, s, n
unfoldable pub head_line : ℕ → ℕ → ℕ → List ℕ
head_line m s n = decimal m ++ (blank ∷ (decimal s ++ (blank ∷ (decimal n ++ (line_end ∷ [])))))

-- the lines of an accepted input
unfoldable pub listing : ℕ → ℕ → List Record → List ℕ
listing m s l = head_line m s (length l) ++ lines_of m s l

-- the one line of a refused input
unfoldable pub refusal_line : ℕ → List ℕ
refusal_line number = refused ++ (blank ∷ (decimal number ++ (line_end ∷ [])))

-- the program's room: rasters up to 32 by 32, which is 1,024 pixels, and 1,365 records
abbrev pub largest_resolution : ℕ
largest_resolution = 5

abbrev pub record_room : List ℕ
record_room = replicate 1365 0

-- an input is m, s, then the raster
abbrev pub m_of : List ℕ → ℕ
m_of input = get_or input 0 0

abbrev pub s_of : List ℕ → ℕ
s_of input = get_or input 1 0

abbrev pub raster_of : List ℕ → List ℕ
raster_of input = drop 2 input

-- what build refuses in the program's room
unfoldable pub build_refuses : List ℕ → ℕ
build_refuses input = build_refusal (m_of input) (s_of input) (raster_of input) record_room record_room

-- fewer than two bytes, or m above 5, is 1; then build's own order
unfoldable pub listing_refusal : List ℕ → ℕ
listing_refusal input =
    first
    (ltb (length input) 2 gives 1
    ∷ ltb largest_resolution (m_of input) gives 1
    ∷ not (eqb (build_refuses input) 0) gives build_refuses input
    ∷ [])

abbrev pub list_in : List ℕ → List Record
list_in input = list_of_raster (m_of input) (raster_of input)

-- what the program prints
unfoldable pub listed : List ℕ → List ℕ
listed input =
    accepted (listing_refusal input) (listing (m_of input) (s_of input) (list_in input)) (refusal_line (listing_refusal input))

-- what its own slices hold afterwards
unfoldable pub listed_keys : List ℕ → List ℕ → List ℕ
listed_keys input keys = accepted (listing_refusal input) (over (keys_of (list_in input)) keys) keys

unfoldable pub listed_bits : List ℕ → List ℕ → List ℕ
listed_bits input bits = accepted (listing_refusal input) (over (values_of (list_in input)) bits) bits
