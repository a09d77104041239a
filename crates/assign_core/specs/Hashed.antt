-- Hashes of the rows of base relvars, which are kept beside the relvars.
--     IsHashesOf      what is asked of hashes of a relation's rows
--     AreHashesIn, AreHashesAt      the same of hashes for a relvar, and for the one at a place
--     IsHashed      hashes that are kept are those of the rows of the relvar at their place
--     AreHashed, IsUnmarkedAt      the same of all hashes that are kept, and that none are kept for a place
use Rattle.std.specs.Prelude.{◌≢◌, ℕ, zero, suc, ◌<◌, List, [], ◌∷◌, length}
use Rattle.std.specs.List.{All}
use Rattle.value_core.specs.Values.{Row, Heading}
use Rattle.tree_core.specs.Relvars.{PlainRelvar, base, view, Entries, log}
use Rattle.relation_core.specs.Hashes.{HashList, AreHashesOf}
use Rattle.assign_core.specs.declared.hashed.Hashed.{Hashed}
use Rattle.assign_core.specs.declared.hashed.HashedRelvar.{HashedRelvar}

-- a hash for each row, in their order, at positions of the heading
pub record IsHashesOf (heading : Heading) (rows : List Row) (m : HashList) : Type 0 where
  pub are : AreHashesOf rows m
  pub within : All (λ (i : ℕ). i < length heading) m.positions

-- of a view nothing is asked: it has no rows of its own
abbrev pub AreHashesIn : List HashList → PlainRelvar → Type 0
AreHashesIn ms (base value constraints) = All (IsHashesOf value.heading value.rows) ms
AreHashesIn ms (view t kind) = Unit {0}
AreHashesIn ms (log of side last w) = Unit {0}

-- of the relvar at the place
abbrev pub AreHashesAt : ℕ → List HashList → Entries → Type 0
AreHashesAt i ms [] = Unit {0}
AreHashesAt zero ms (r ∷ rest) = AreHashesIn ms r.1
AreHashesAt (suc i) ms (r ∷ rest) = AreHashesAt i ms rest

abbrev pub IsHashed : Entries → HashedRelvar → Type 0
IsHashed es r = AreHashesAt r.at r.list.items es

abbrev pub AreHashed : Hashed → Entries → Type 0
AreHashed m es = All (IsHashed es) m.entries.items

abbrev pub IsUnmarkedAt : ℕ → Hashed → Type 0
IsUnmarkedAt i m = All (λ (r : HashedRelvar). r.at ≢ i) m.entries.items
