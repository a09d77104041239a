-- The texts of declarations that a script leaves, for the dump of its database.
--     texts_of      the texts after statements that are read so
--     AreTextsOf      they are those after a whole script
use Rattle.std.specs.Prelude.{◌≡◌, ℕ, List, [], ◌∷◌}
use Rattle.tree_core.specs.Relvars.{State}
use Rattle.dump_core.specs.Texts.{SourceText}
use Rattle.assign_core.specs.Databases.{no_relvars}
use Rattle.utd_statement.specs.Readings.{Reading}
use Rattle.utd_statement.specs.Answers.{answer, is_accepted, state_after}
use Rattle.utd_statement.specs.Keeping.{texts_after}
use Rattle.utd_session.specs.Statements.{Statement, Complete, Incomplete, statements}
use Rattle.utd_session.specs.Readings.{AreReadings}

-- the texts after a statement in a state: what no `;` ends leaves them as they are
abbrev pub kept_after : State → List SourceText → Statement → Reading → List SourceText
kept_after state texts (Complete place bytes) r = texts_after bytes r (is_accepted (answer state r)) texts
kept_after state texts Incomplete r = texts

-- the texts after statements in order, each in the state before it
abbrev pub all_kept : State → List SourceText → List Statement → List Reading → List SourceText
all_kept state texts [] rs = texts
all_kept state texts (s ∷ ss) [] = texts
all_kept state texts (s ∷ ss) (r ∷ rs) = all_kept (state_after state (answer state r)) (kept_after state texts s r) ss rs

-- the texts after the first statements of a script
abbrev pub texts_of : List Statement → List Reading → List SourceText
texts_of ss rs = all_kept no_relvars [] ss rs

-- the texts are those after all statements of a script
abbrev pub AreTextsOf : List ℕ → List SourceText → Type 0
AreTextsOf bytes texts = (rs : List Reading) × AreReadings (statements bytes) rs × (texts ≡ texts_of (statements bytes) rs)
