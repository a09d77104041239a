-- What the verdict on a text says of statements.
use Rattle.std.proofs.Common.{◌≡◌, List, [], Result, Ok, Err, ◌∙◌, ap}
use Rattle.std.specs.Prelude.{IfOk}
use Rattle.point_core.specs.declared.fault.Place.{Place}
use Rattle.point_core.specs.declared.fault.Code.{Code}
use Rattle.point_core.specs.declared.fault.Code.TheVariants.{E01}
use Rattle.value_core.specs.declared.refuse.Refuse.{Refuse}
use Rattle.value_core.specs.declared.refuse.Refuse.TheVariants.{Plain, At, Broken, Memory}
use Rattle.utd_syntax.specs.Pieces.{Piece}
use Rattle.utd_syntax.specs.Plain.{StatementP}
use Rattle.utd_syntax.specs.Written.{Spells, of_statement}
use Rattle.utd_syntax.specs.Continues.{Continues, NoStatement}
use Rattle.utd_syntax.specs.Verdict.{Whole, Refused, at_start}
use Rattle.utd_syntax.proofs.Laws.{law_a, law_c, e01, limit, whole-without}
use Rattle.utd_ranges.specs.Limits.{limits, verdict_on}
use Rattle.utd_parser.specs.Frames.{Comes, IsStatement, RefusedAt}

pub is-statement : {A : Type 0} → (r : Result A Refuse) (ts : List Piece) → Comes r (verdict_on ts) Whole → IfOk r (λ _. IsStatement ts)
is-statement (Ok u) ts h =
    let w : (x : StatementP) × Spells (of_statement x) ts [] = (law_a ts at_start).1 (whole-without limits ts _ at_start h) in
    (w.0, w.1, λ y g. law_c y w.0 ts g w.1)
is-statement (Err e) ts h = tt

pub no-statement : {A : Type 0} → (r : Result A Refuse) (ts : List Piece) → Comes r (verdict_on ts) Whole → (place : Place) → RefusedAt r E01 place → NoStatement ts place
no-statement (Ok u) ts h place at = absurd at
no-statement (Err (At fault)) ts h place at = e01 limits ts at_start place (h ∙ ap (λ c. Refused c fault.place) at.0 ∙ ap (Refused E01) at.1)
no-statement (Err (Plain code)) ts h place at = absurd at
no-statement (Err (Broken code relvar number)) ts h place at = absurd at
no-statement (Err Memory) ts h place at = absurd at

pub at-limit : {A : Type 0} → (r : Result A Refuse) (ts : List Piece) → Comes r (verdict_on ts) Whole → (code : Code) (place : Place) → RefusedAt r code place → (E01 ≡ code → ⊥) → Continues ts place
at-limit (Ok u) ts h code place at other = absurd at
at-limit (Err (At fault)) ts h code place at other = limit limits ts at_start code place other (h ∙ ap (λ c. Refused c fault.place) at.0 ∙ ap (Refused code) at.1)
at-limit (Err (Plain c)) ts h code place at other = absurd at
at-limit (Err (Broken c relvar number)) ts h code place at other = absurd at
at-limit (Err Memory) ts h code place at other = absurd at
