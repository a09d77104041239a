-- Marks: a table in which each hash has a place. What has no mark at its place is none of those that the table is for.
--     place      where a hash has its place among so many
--     is_marked      whether there is a mark at the place; past the end there is one
use Rattle.std.specs.Prelude.{ℕ, ◌*◌, ◌-◌, ◌^◌, ◌/◌, ◌%◌, Bool, true, List, length, slice_index_or}
use Rattle.std.specs.Int.Bits.{bit_and}

-- the high bits of a product of 64 bits, of which as many are taken as tell so many places apart
unfoldable pub place : ℕ → ℕ → ℕ
place many hash = bit_and (((hash * 11400714819323198485) % 2 ^ 64) / 2 ^ 32) (many - 1)

abbrev pub is_marked : List Bool → ℕ → Bool
is_marked marks hash = slice_index_or marks (place (length marks) hash) true
