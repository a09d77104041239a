-- Words that stand for themselves.
--     IsFreeWord      no reserved word, and not too long for a name
--     IsNameWord      and of ASCII
use Rattle.std.specs.Prelude.{◌≡◌, ◌≤◌, ℕ, true, List, length}
use Rattle.utd_syntax.specs.declared.terminal.Terminal.TheVariants.{Name as TheName}
use Rattle.utd_syntax.specs.Terminals.{word_terminal}
use Rattle.value_core.specs.Limits.{most_name_bytes}
use Rattle.value_core.specs.Values.{Name}
use Rattle.plain_rows.specs.Lexemes.{is_word}

abbrev pub IsFreeWord : List ℕ → Type 0
IsFreeWord bytes = (word_terminal bytes ≡ TheName) × (length bytes ≤ most_name_bytes)

abbrev pub IsNameWord : Name → Type 0
IsNameWord bytes = (word_terminal bytes ≡ TheName) × (length bytes ≤ most_name_bytes) × (is_word bytes ≡ true)
