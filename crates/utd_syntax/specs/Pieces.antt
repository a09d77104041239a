-- Tokens as plain data: without where their bytes lie in memory.
use Rattle.std.specs.Prelude.{ℕ, List, [], ◌∷◌}
use Rattle.point_core.specs.declared.fault.Place.{Place}
use Rattle.utd_syntax.specs.declared.terminal.Terminal.{Terminal}
use Rattle.utd_syntax.specs.declared.terminal.Terminal.TheVariants.{Finish}

-- what a token is to the grammar, where it begins, and its bytes; of a text they are those between its quotes, with
-- one quote for each two
pub record Piece : Type 0 where
  pub terminal : Terminal
  pub place : Place
  pub bytes : List ℕ

-- what the next token is to the grammar
abbrev pub first : List Piece → Terminal
first [] = Finish
first (t ∷ ts) = t.terminal

-- and the one behind it
abbrev pub second : List Piece → Terminal
second [] = Finish
second (t ∷ ts) = first ts

-- where the next token stands, and its bytes
abbrev pub place_of : List Piece → Place
place_of [] = record { line = 0; column = 0 }
place_of (t ∷ ts) = t.place

abbrev pub bytes_of : List Piece → List ℕ
bytes_of [] = []
bytes_of (t ∷ ts) = t.bytes
