-- Integers at the front of bytes.
use Rattle.std.specs.Prelude.{◌≡◌, ℕ, List, [], ◌∷◌}
use Rattle.utd_lexer.specs.declared.token.TokenKind.TheVariants.{Integer}
use Rattle.utd_syntax.specs.Literals.{value_of}
use Rattle.plain_rows.specs.Lexemes.{Begins}

-- the bytes begin with digits that write the number, and these bytes are behind them
pub record BeginsWithNumber (bytes : List ℕ) (number : ℕ) (rest : List ℕ) : Type 0 where
  pub digits : List ℕ
  pub begins : Begins bytes ((Integer, digits) ∷ []) rest
  pub written : number ≡ value_of digits
