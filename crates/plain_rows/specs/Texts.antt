-- Texts between quotes, in which each quote is written twice.
--     IsTextPart      what is before the first quote
--     IsTextBody      what is before the last quote
use Rattle.std.specs.Prelude.{◌≡◌, ℕ, List, ◌∷◌, ◌++◌, false}
use Rattle.std.specs.Str.{chars, IsUtf8}
use Rattle.utd_lexer.specs.Tokens.{doubled, AllOf}
use Rattle.value_core.specs.Lengths.{has_control}
use Rattle.plain_rows.specs.Lexemes.{is_text_byte}

-- the bytes are these, which have no quote and no control character, then a quote and the rest
pub record IsTextPart (bytes front rest : List ℕ) : Type 0 where
  pub is : bytes ≡ front ++ 39 ∷ rest
  pub utf8 : IsUtf8 front
  pub plain : AllOf is_text_byte front

-- the bytes are the text with its quotes doubled, then a quote and the rest
pub record IsTextBody (bytes text rest : List ℕ) : Type 0 where
  pub utf8 : IsUtf8 text
  pub whole : IsUtf8 rest → IsUtf8 bytes
  pub spelled : chars bytes ≡ doubled (chars text) ++ 39 ∷ chars rest
  pub printed : has_control text ≡ false
