-- The trees of the program, and what they are written as.
use Rattle.std.proofs.Common.{◌≡◌, List, []}
use Rattle.utd_syntax.specs.declared.statement.Statement.{Statement}
use Rattle.utd_syntax.specs.Pieces.{Piece}
use Rattle.utd_syntax.specs.Read.{read_statement}
use Rattle.utd_syntax.specs.Written.{Spells, of_statement}
use Rattle.utd_syntax.proofs.Laws.{law_c}

-- two that write the same tokens differ at most in where their parts lie in memory
pub trees-alike : (x y : Statement) (ts : List Piece) → Spells (of_statement (read_statement x)) ts [] → Spells (of_statement (read_statement y)) ts [] → read_statement x ≡ read_statement y
trees-alike x y ts h g = law_c (read_statement x) (read_statement y) ts h g
