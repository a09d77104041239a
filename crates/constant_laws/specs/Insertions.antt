-- Statements that insert constants: which rows the tuples of a literal write, and the statements that insert them or set a relvar
-- to them.
--     Shape      the names of a tuple's elements in the order of the text, each with its kind
--     MakesHeading heading shape      tuples of the shape have the heading
--     WritesTuple types shape vs t      the tuple is of the shape, and its elements write these values
--     in_heading shape heading vs      these values in the order of the heading: the row of such a tuple
--     WritesLiteral types heading rows l      the literal is of the heading, and its tuples have these rows, in the order of the text
--     insertion at w l, setting w l      the statements `INSERT w l;` and `w := l;`
--     insertion_under at list there w l      the statement `USING list: INSERT w l;`
--     Bringing      how rows come to a relvar
--     IsPlainInsertion types bringing relvar heading rows tree      the tree brings just these rows to the relvar in this way
use Rattle.std.specs.Prelude.{◌≡◌, ◌≤◌, ℕ, List, [], ◌∷◌, map, length, Some, Ok}
use Rattle.point_core.specs.declared.fault.Place.{Place}
use Rattle.utd_syntax.specs.Plain as syntax
use Rattle.utd_syntax.specs.Plain.{Word, NameListP, HeadingP, ElementP, TupleP, LiteralP, RelP, StatementP}
use Rattle.value_core.specs.declared.kind.Kind.{Kind}
use Rattle.value_core.specs.declared.list.OrdinalNames.{OrdinalNames}
use Rattle.value_core.specs.Limits.{most_attributes}
use Rattle.value_core.specs.Values.{Name, Value, Row, Heading}
use Rattle.relation_core.specs.Agreement.{part_of}
use Rattle.relation_typing.specs.Headings.{heading_typed}
use Rattle.relation_typing.specs.Shapes.{shape_made}
use Rattle.meaning_core.specs.Meanings.{positions_of}
use Rattle.meaning_core.specs.Places.{places}
use Rattle.node_typing.specs.Lists.{listed_names, list_checked}
use Rattle.constant_laws.specs.Constants.{Writes}

-- names with kinds, in the order of the text
abbrev pub Shape : Type 0
Shape = List (Name × Kind)

-- the names are names, none twice, and in the order of their bytes they are the heading, which has not too many
pub record MakesHeading (heading : Heading) (shape : Shape) : Type 0 where
  pub made : shape_made [] shape ≡ Some heading
  pub few : length heading ≤ most_attributes

-- ---- tuples

-- the element has the name, and writes the value
abbrev pub WritesElement : List OrdinalNames → Name × Kind → Value → ElementP → Type 0
WritesElement types a v (syntax.Element w s) = (w.bytes ≡ a.0) × Writes types a.1 v s

-- one element for each name, in this order
abbrev pub WritesElements : List OrdinalNames → Shape → List Value → List ElementP → Type 0
WritesElements types [] [] [] = Unit {0}
WritesElements types (a ∷ shape) (v ∷ vs) (x ∷ list) = WritesElement types a v x × WritesElements types shape vs list
WritesElements types _ _ _ = ⊥

abbrev pub WritesTuple : List OrdinalNames → Shape → List Value → TupleP → Type 0
WritesTuple types shape vs (syntax.Tuple at (syntax.Elements there list)) = WritesElements types shape vs list

abbrev pub WritesTuples : List OrdinalNames → Shape → List (List Value) → List TupleP → Type 0
WritesTuples types shape [] [] = Unit {0}
WritesTuples types shape (vs ∷ all) (t ∷ list) = WritesTuple types shape vs t × WritesTuples types shape all list
WritesTuples types shape _ _ = ⊥

-- values that stand beside the names of a shape, in the order of the heading
abbrev pub in_heading : Shape → Heading → List Value → Row
in_heading shape heading vs = part_of (places (map (λ a. a.0) shape) heading) vs

-- ---- literals

-- all tuples have the names in one order. The heading is that of the tuples, or it is written and the same
pub record AreWritten (types : List OrdinalNames) (heading : Heading) (rows : List Row) (tuples : List TupleP) : Type 0 where
  pub shape : Shape
  pub values : List (List Value)
  pub makes : MakesHeading heading shape
  pub tuples_so : WritesTuples types shape values tuples
  pub rows_so : rows ≡ map (in_heading shape heading) values

abbrev pub WritesLiteral : List OrdinalNames → Heading → List Row → LiteralP → Type 0
WritesLiteral types heading rows (syntax.Tuples at first more) = AreWritten types heading rows (first ∷ more)
WritesLiteral types heading rows (syntax.Headed at h tuples) = (heading_typed types h ≡ Ok heading) × AreWritten types heading rows tuples

-- ---- statements

-- an expression that is a literal
abbrev pub of_literal : LiteralP → RelP
of_literal l = syntax.OfTerms (syntax.OneTerm (syntax.OneRelPrimary (syntax.OfOperand (syntax.OfLiteral l))))

-- `INSERT w l;` and `w := l;`
abbrev pub insertion : Place → Word → LiteralP → StatementP
insertion at w l = syntax.Assignment (syntax.Assign (syntax.Insert at w (of_literal l)) [])

abbrev pub setting : Word → LiteralP → StatementP
setting w l = syntax.Assignment (syntax.Assign (syntax.SetRelvar w (of_literal l)) [])

-- `USING list: INSERT w l;`
abbrev pub insertion_under : Place → NameListP → Place → Word → LiteralP → StatementP
insertion_under at list there w l = syntax.Assignment (syntax.Assign (syntax.UsingItem at list (syntax.UsedInsert there w (of_literal l))) [])

-- how rows come to a relvar: in place of its rows, among them, or among them point by point for the attributes at the positions
pub data Bringing : Type 0 where
  Setting : Bringing
  Adding : Bringing
  AddingUnder : List ℕ → Bringing

-- the list names interval attributes of the heading, none twice and not too many, and they stand at these positions, in the order of
-- the list
pub record IsListed (heading : Heading) (commalist : List ℕ) (list : NameListP) : Type 0 where
  pub is_fine : list_checked heading heading list ≡ Ok (listed_names list)
  pub at : commalist ≡ positions_of heading (listed_names list)

-- the tree brings the literal to the relvar in this way
abbrev pub IsStatementOf : Bringing → Heading → StatementP → Word → LiteralP → Type 0
IsStatementOf Setting heading tree w l = tree ≡ setting w l
IsStatementOf Adding heading tree w l = (at : Place) × (tree ≡ insertion at w l)
IsStatementOf (AddingUnder commalist) heading tree w l =
    (at : Place) × (list : NameListP) × (there : Place) × IsListed heading commalist list × (tree ≡ insertion_under at list there w l)

-- the tree does this with these rows and no others, where these are the ordinal types
pub record IsPlainInsertion (types : List OrdinalNames) (bringing : Bringing) (relvar : Name) (heading : Heading) (rows : List Row) (tree : StatementP) : Type 0 where
  pub w : Word
  pub l : LiteralP
  pub named : w.bytes ≡ relvar
  pub is : IsStatementOf bringing heading tree w l
  pub writes : WritesLiteral types heading rows l
