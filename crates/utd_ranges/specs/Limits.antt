-- What a token may be at most, how deep a text may nest, and the verdict on a text under these limits.
use Rattle.std.specs.Prelude.{ℕ, List, [], ◌∷◌, Bool, false, ◌||◌, not, nat_lt, nat_le, length}
use Rattle.utd_syntax.specs.declared.terminal.Terminal.{Terminal}
use Rattle.utd_syntax.specs.declared.terminal.Terminal.TheVariants.{Name, Digits, Quoted}
use Rattle.utd_syntax.specs.Literals.{value_of, is_date, is_moment}
use Rattle.utd_syntax.specs.Pieces.{Piece}
use Rattle.utd_syntax.specs.Table.{Load, TheStatement, Taking, Operator, Negated, Dated, Timed, Opens, OperatorOpens}
use Rattle.utd_syntax.specs.Verdict.{Verdict, Limits, verdict, at_start}
use Rattle.value_core.specs.Lengths.{has_control}
use Rattle.value_core.specs.Limits.{most_name_bytes, most_text_bytes, most_levels, most_operators}

-- a text of too many bytes, or with a character below the space
abbrev pub is_bad_text : List ℕ → Bool
is_bad_text bytes = nat_lt most_text_bytes (length bytes) || has_control bytes

-- a name of too many bytes; an integer that leaves 64 bits, behind its "-" and without one; the text of a date that
-- does not exist, and that of such a moment; a bad text
abbrev pub is_out_of_range : Taking → Terminal → List ℕ → Bool
is_out_of_range how Name bytes = nat_lt most_name_bytes (length bytes)
is_out_of_range Negated Digits bytes = nat_lt 9223372036854775808 (value_of bytes)
is_out_of_range how Digits bytes = nat_lt 9223372036854775807 (value_of bytes)
is_out_of_range Dated Quoted bytes = not (is_date bytes)
is_out_of_range Timed Quoted bytes = not (is_moment bytes)
is_out_of_range how Quoted bytes = is_bad_text bytes
is_out_of_range how x bytes = false

-- a level, or an operator in force, where there are already the most
abbrev pub is_too_deep : Taking → Load → Bool
is_too_deep Operator load = nat_le most_operators load.operators
is_too_deep (Opens inner) load = nat_le most_levels load.levels
is_too_deep (OperatorOpens inner) load = nat_le most_levels load.levels || nat_le most_operators load.operators
is_too_deep how load = false

abbrev pub limits : Limits
limits = record { too_deep = is_too_deep; out_of_range = is_out_of_range }

-- the verdict on the tokens of a statement
abbrev pub verdict_on : List Piece → Verdict
verdict_on ts = verdict limits ts (TheStatement ∷ []) at_start
