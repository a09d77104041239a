-- Readings as the code holds them.
use Rattle.std.specs.Prelude.{ℕ, List}
use Rattle.point_core.specs.declared.fault.Place.{Place}
use Rattle.value_core.specs.declared.refuse.Refuse.{Refuse}
use Rattle.value_core.specs.declared.refuse.Refuse.TheVariants as refuses
use Rattle.utd_syntax.specs.Read.{read_statement}
use Rattle.utd_print.specs.Lines.{HasLine}
use Rattle.utd_statement.specs.declared.reading.Parsed.{Parsed}
use Rattle.utd_statement.specs.declared.reading.Parsed.TheVariants as parsed
use Rattle.utd_statement.specs.Readings.{Reading, Tree, Refused, IsText}

-- the tree without where its parts lie in memory
abbrev pub reading_of : Parsed → Reading
reading_of (parsed.Tree statement) = Tree (read_statement statement)
reading_of (parsed.Refused refuse) = Refused refuse

-- the text is refused so, or memory ran out
abbrev pub IsRefusal : Place → List ℕ → Refuse → Type 0
IsRefusal place bytes refuses.Memory = Unit {0}
IsRefusal place bytes (refuses.At fault) = IsText place bytes (Refused (refuses.At fault))
IsRefusal place bytes (refuses.Plain code) = IsText place bytes (Refused (refuses.Plain code))
IsRefusal place bytes (refuses.Broken code relvar number) = IsText place bytes (Refused (refuses.Broken code relvar number))

-- a refusal has a line
abbrev pub HasAnswer : Reading → Type 0
HasAnswer (Tree tree) = Unit {0}
HasAnswer (Refused refuse) = HasLine refuse
