-- What a text brings: rows that an insertion puts into a relvar, or that take the place of its rows.
--     bringing_of way      how the rows come to the relvar
--     BringsRows types start bytes bringing relvar heading rows      from the place on the bytes are read as a tree that brings the rows,
--         and are whole
--     IsBrought types bytes bringing relvar relation      so they are from any place on, with the rows of the relation
--     HasRowsOf shape values relation      the relation has the values of tuples of this shape
--     IsBody types bytes relation      the bytes are a literal of tuples that has the rows of the relation, and the end of a statement
use Rattle.std.specs.Prelude.{◌≡◌, ℕ, List, [], ◌∷◌, true, map}
use Rattle.point_core.specs.declared.fault.Place.{Place}
use Rattle.utd_lexer.specs.declared.token.Token.{Token}
use Rattle.utd_lexer.specs.Reading.{Reads}
use Rattle.utd_parser.specs.Tokens.{pieces}
use Rattle.utd_ranges.specs.Limits.{verdict_on}
use Rattle.utd_syntax.specs.Plain.{StatementP}
use Rattle.utd_syntax.specs.Verdict.{Whole}
use Rattle.utd_syntax.specs.Written.{Spells, of_statement}
use Rattle.value_core.specs.Values.{Name, Value, Row, Heading, Relation, rows_of}
use Rattle.relation_typing.specs.Attributes.{is_name}
use Rattle.constant_laws.specs.Insertions.{Shape, MakesHeading, in_heading, Bringing, Setting, Adding, AddingUnder, IsPlainInsertion}
use Rattle.plain_rows.specs.declared.statement.Way.{Way}
use Rattle.plain_rows.specs.declared.statement.Way.TheVariants.{Set, Insert, InsertUnder}
use Rattle.plain_rows.specs.Lexemes.{Lexeme, AreLexemes}
use Rattle.plain_rows.specs.Names.{AreNameWords}
use Rattle.plain_rows.specs.Tuples.{AreTuples, body}
use Rattle.value_core.specs.declared.list.OrdinalNames.{OrdinalNames}

abbrev pub bringing_of : Way → Bringing
bringing_of Set = Setting
bringing_of Insert = Adding
bringing_of (InsertUnder positions) = AddingUnder positions

pub record BringsRows (types : List OrdinalNames) (start : Place) (bytes : List ℕ) (bringing : Bringing) (relvar : Name) (heading : Heading) (rows : List Row) : Type 0 where
  pub tokens : List Token
  pub reads : Reads start bytes tokens
  pub whole : verdict_on (pieces tokens) ≡ Whole
  pub tree : StatementP
  pub spelled : Spells (of_statement tree) (pieces tokens) []
  pub plain : IsPlainInsertion types bringing relvar heading rows tree

-- the rows that are given are in the order of the text, and may be given twice
pub record IsBrought (types : List OrdinalNames) (bytes : List ℕ) (bringing : Bringing) (relvar : Name) (relation : Relation) : Type 0 where
  pub named : is_name relvar ≡ true
  pub given : List Row
  pub rows : relation.rows ≡ rows_of given
  pub brings : (start : Place) → BringsRows types start bytes bringing relvar relation.heading given

-- the shape makes the heading, and the rows are the values in its order
pub record HasRowsOf (shape : Shape) (values : List (List Value)) (relation : Relation) : Type 0 where
  pub makes : MakesHeading relation.heading shape
  pub rows : relation.rows ≡ rows_of (map (in_heading shape relation.heading) values)

-- RELATION, tuples of constants in braces, and a `;`
pub record IsBody (types : List OrdinalNames) (bytes : List ℕ) (relation : Relation) : Type 0 where
  pub shape : Shape
  pub first : List Value
  pub others : List (List Value)
  pub tuples : List (List Lexeme)
  pub named : AreNameWords shape
  pub written : AreTuples types shape (first ∷ others) tuples
  pub spelled : AreLexemes bytes (body tuples)
  pub has : HasRowsOf shape (first ∷ others) relation
