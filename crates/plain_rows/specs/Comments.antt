-- Comments of ASCII.
--     IsBehindLine, IsBehindBlock      what is behind the end of a line, and behind the end of a comment
--     IsLinePart, IsBlockPart      what is left of them behind some bytes
use Rattle.std.specs.Prelude.{◌≡◌, ℕ, List, [], ◌∷◌, ◌++◌, Bool, false, ◌==◌, ◌&&◌}
use Rattle.std.specs.Str.{IsAscii}
use Rattle.utd_lexer.specs.Parts.{Lacks, LacksEnd}

-- whether a `*` and a `/` stand here
abbrev pub is_end : List ℕ → Bool
is_end [] = false
is_end (x ∷ []) = false
is_end (x ∷ y ∷ ys) = (x == 42) && (y == 47)

-- the bytes are a line, the byte 10 and these
pub record IsBehindLine (bytes rest : List ℕ) : Type 0 where
  pub line : List ℕ
  pub is : bytes ≡ line ++ 10 ∷ rest
  pub small : IsAscii line
  pub lacks : Lacks 10 line

-- the bytes are some of the line, and these
pub record IsLinePart (bytes rest : List ℕ) : Type 0 where
  pub line : List ℕ
  pub is : bytes ≡ line ++ rest
  pub small : IsAscii line
  pub lacks : Lacks 10 line

-- the bytes are a comment without its beginning, and these
pub record IsBehindBlock (bytes rest : List ℕ) : Type 0 where
  pub block : List ℕ
  pub is : bytes ≡ block ++ 42 ∷ 47 ∷ rest
  pub small : IsAscii block
  pub lacks : LacksEnd block

-- the bytes are some of the comment, and these: the end does not stand in them, nor does it begin in the last one
pub record IsBlockPart (bytes rest : List ℕ) : Type 0 where
  pub block : List ℕ
  pub is : bytes ≡ block ++ rest
  pub small : IsAscii block
  pub lacks : (y : ℕ) (ys : List ℕ) → rest ≡ y ∷ ys → LacksEnd (block ++ y ∷ [])
