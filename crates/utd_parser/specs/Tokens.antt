-- The tokens of a text as the grammar sees them.
use Rattle.std.specs.Prelude.{ℕ, List, [], ◌∷◌}
use Rattle.point_core.specs.declared.fault.Place.{Place}
use Rattle.utd_lexer.specs.declared.token.TokenKind.{TokenKind}
use Rattle.utd_lexer.specs.declared.token.TokenKind.TheVariants.{Word, Integer, Text, Symbol}
use Rattle.utd_lexer.specs.declared.token.Token.{Token}
use Rattle.utd_syntax.specs.declared.terminal.Terminal.{Terminal}
use Rattle.utd_syntax.specs.declared.terminal.Terminal.TheVariants.{Digits, Quoted}
use Rattle.utd_syntax.specs.Pieces.{Piece}
use Rattle.utd_syntax.specs.Terminals.{word_terminal, symbol_terminal}

-- what a token of this kind with these bytes is to the grammar
abbrev pub terminal_of : TokenKind → List ℕ → Terminal
terminal_of Word bytes = word_terminal bytes
terminal_of Symbol bytes = symbol_terminal bytes
terminal_of Integer bytes = Digits
terminal_of Text bytes = Quoted

abbrev pub seen : Terminal → Place → List ℕ → Piece
seen terminal place bytes = record { terminal = terminal; place = place; bytes = bytes }

abbrev pub piece : Token → Piece
piece t = seen (terminal_of t.kind t.bytes) t.place t.bytes

abbrev pub pieces : List Token → List Piece
pieces [] = []
pieces (t ∷ ts) = piece t ∷ pieces ts
