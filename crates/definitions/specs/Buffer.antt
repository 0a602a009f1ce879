-- What a lent buffer holds after a call (specification S1.16, S1.17: which places are written, which become zero and which stay). Assumes nothing.
use Rattle.std.specs.Prelude.{ℕ, ◌+◌, ◌-◌, max, List, ◌++◌, length, take, drop, replicate}

-- what is new from place 0 on; the places past it stay
abbrev pub over : (new old : List ℕ) → List ℕ
over new old = new ++ drop (length new) old

-- what is new from a place on; all other places stay
abbrev pub over_at : (place : ℕ) (new old : List ℕ) → List ℕ
over_at place new old = take place old ++ (new ++ drop (place + length new) old)

-- a list of n places is replaced: the places given up become zero, and all places beyond both counts stay
abbrev pub replaced : (n : ℕ) (new old : List ℕ) → List ℕ
replaced n new old = new ++ (replicate (n - length new) 0 ++ drop (max n (length new)) old)
