-- Bytes that a script can write as a name.
--     is_word      the characters of a word
--     is_sayable      UTF-8 of a word that is not reserved
use Rattle.std.specs.Prelude.{ℕ, List, [], ◌∷◌, Bool, false, ◌&&◌}
use Rattle.std.specs.List.{list_all}
use Rattle.std.specs.Str.{is_utf8, chars}
use Rattle.utd_lexer.specs.Tokens.{starts, continues}
use Rattle.utd_syntax.specs.declared.terminal.Terminal.TheVariants.{Name}
use Rattle.utd_syntax.specs.Table.{same}
use Rattle.utd_syntax.specs.Terminals.{word_terminal}

abbrev pub is_word : List ℕ → Bool
is_word [] = false
is_word (c ∷ cs) = starts c && list_all continues cs

abbrev pub is_sayable : List ℕ → Bool
is_sayable bytes = is_utf8 bytes && (is_word (chars bytes) && same (word_terminal bytes) Name)
