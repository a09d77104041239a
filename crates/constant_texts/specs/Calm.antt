-- Characters that begin nothing.
--     is_calm      a character of ASCII that begins no text and no comment, and ends no statement
use Rattle.std.specs.Prelude.{ℕ, Bool, ◌&&◌, nat_lt}
use Rattle.utd_lexer.specs.Cutting.{is_plain}

-- a character of ASCII with which no text and no comment begins, and no statement ends
abbrev pub is_calm : ℕ → Bool
is_calm c = nat_lt c 128 && is_plain c
