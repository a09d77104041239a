-- Hashes of rows: a number for each row, which rows with the same values at some positions have in common.
--     mixed      a hash that goes on with a number
--     value_hash, hash_of      the hash of a value, and of a row's values at positions
--     HashList, AreHashesOf      positions, and a hash for each of some rows
use Rattle.std.specs.Prelude.{◌≡◌, ℕ, ◌+◌, ◌*◌, ◌^◌, ◌%◌, Bool, true, false, List, map, fold}
use Rattle.std.specs.Int.{w64, cast_unsigned}
use Rattle.value_core.specs.Values.{Value, truth, text, point, interval, Row}
use Rattle.relation_core.specs.Agreement.{part_of}

-- the hash, taken many times, and the number: what leaves 64 bits is lost
unfoldable pub mixed : ℕ → ℕ → ℕ
mixed hash n = ((hash * 1000003) % 2 ^ 64 + n) % 2 ^ 64

-- that of a truth value is 0 or 1
abbrev pub truth_hash : Bool → ℕ
truth_hash false = 0
truth_hash true = 1

-- a text's is that of its bytes one after the other, and an interval's that of its ends
abbrev pub value_hash : Value → ℕ
value_hash (truth b) = truth_hash b
value_hash (text bytes) = fold (λ hash byte. mixed hash byte) 0 bytes
value_hash (point l p) = cast_unsigned w64 p
value_hash (interval l i) = mixed (cast_unsigned w64 i.0) (cast_unsigned w64 i.1)

-- that of the values one after the other
abbrev pub row_hash : Row → ℕ
row_hash row = fold (λ hash v. mixed hash (value_hash v)) 0 row

-- that of the row's values at the positions, and of nothing else
abbrev pub hash_of : List ℕ → Row → ℕ
hash_of positions row = row_hash (part_of positions row)

-- positions, and hashes of rows there
pub record HashList : Type 0 where
  pub positions : List ℕ
  pub list : List ℕ

-- the hashes are those of the rows, in their order
abbrev pub AreHashesOf : List Row → HashList → Type 0
AreHashesOf rows hashes = hashes.list ≡ map (hash_of hashes.positions) rows
