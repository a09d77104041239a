-- The rules of relational nodes and comparisons over typed operands: the typed node, or its first refusal behind those of the
-- operands.
use Rattle.std.specs.Prelude.{ℕ, List, Ok, Option, Some, None}
use Rattle.point_core.specs.declared.fault.Place.{Place}
use Rattle.point_core.specs.declared.fault.Code.TheVariants.{E13}
use Rattle.point_core.specs.Faults.{OrFault}
use Rattle.utd_syntax.specs.declared.words.PackWord.{PackWord}
use Rattle.utd_syntax.specs.declared.words.PackWord.TheVariants.{Pack, Unpack}
use Rattle.utd_syntax.specs.declared.words.RelationComparison.{RelationComparison}
use Rattle.utd_syntax.specs.declared.words.RelationComparison.TheVariants as written
use Rattle.utd_syntax.specs.declared.words.EmptinessWord.{EmptinessWord}
use Rattle.utd_syntax.specs.declared.words.EmptinessWord.TheVariants.{IsEmpty, IsNotEmpty}
use Rattle.utd_syntax.specs.Plain.{NameListP, ProjectionP, RenamingsP, ScalarP, SetsP, NamesP, AggregatesP}
use Rattle.value_core.specs.declared.list.OrdinalNames.{OrdinalNames}
use Rattle.value_core.specs.Values.{Heading}
use Rattle.relation_core.specs.Parts.{attributes_at, renamed}
use Rattle.tree_core.specs.Trees.{Tree, infix_of, project, rename, restrict, extend, summarize, pack, unpack, heading_of, Test, relate, is_empty, is_not_empty}
use Rattle.tree_core.specs.declared.tree.InfixWord.{InfixWord}
use Rattle.tree_core.specs.declared.test.RelateWord.{RelateWord}
use Rattle.tree_core.specs.declared.test.RelateWord.TheVariants as relation
use Rattle.scalar_typing.specs.Typings.{◌>>=◌}
use Rattle.meaning_core.specs.Meanings.{positions_of}
use Rattle.relation_typing.specs.Headings.{same_heading}
use Rattle.node_typing.specs.Headings.{heading_of_list}
use Rattle.node_typing.specs.Infixes.{infix_heading}
use Rattle.node_typing.specs.Lists.{list_checked}
use Rattle.node_typing.specs.Positions.{check}
use Rattle.node_typing.specs.Projections.{projection_place, projection_kept, renaming_names}
use Rattle.node_typing.specs.Rows.{condition_typed, extension_made}
use Rattle.node_typing.specs.Summaries.{groups_typed, aggregates_made}

-- ---- plain operators

abbrev pub infix_rule : Place → InfixWord → Tree → Tree → OrFault Tree
infix_rule place word l r = do
  heading ← infix_heading place word (heading_of l) (heading_of r)
  Ok (infix_of place heading word l r)

abbrev pub projection_rule : ProjectionP → Tree → OrFault Tree
projection_rule p t = do
  kept ← projection_kept p (heading_of t)
  Ok (project (projection_place p) (attributes_at kept (heading_of t)) kept t)

abbrev pub renaming_rule : Place → RenamingsP → Tree → OrFault Tree
renaming_rule place r t = do
  names ← renaming_names r (heading_of t)
  Ok (rename place (heading_of_list (renamed names (heading_of t))) names t)

abbrev pub restriction_rule : List OrdinalNames → Place → ScalarP → Tree → OrFault Tree
restriction_rule types place s t = do
  c ← condition_typed types place (heading_of t) s
  Ok (restrict place (heading_of t) c t)

abbrev pub extension_rule : List OrdinalNames → Place → SetsP → Tree → OrFault Tree
extension_rule types place sets t = do
  made ← extension_made types place (heading_of t) sets
  Ok (extend place made.1 made.0 t)

abbrev pub summary_rule : List OrdinalNames → Place → NamesP → AggregatesP → Tree → OrFault Tree
summary_rule types place names aggregates t = do
  by ← groups_typed (heading_of t) names
  made ← aggregates_made types place (heading_of t) by aggregates
  Ok (summarize place made.1 by made.0 t)

-- ---- PACK and UNPACK

abbrev pub packed_by : PackWord → Place → Heading → List ℕ → Tree → Tree
packed_by Pack place heading commalist t = pack place heading commalist t
packed_by Unpack place heading commalist t = unpack place heading commalist t

abbrev pub packing_rule : Place → PackWord → NameListP → Tree → OrFault Tree
packing_rule place word list t = do
  names ← list_checked (heading_of t) (heading_of t) list
  Ok (packed_by word place (heading_of t) (positions_of (heading_of t) names) t)

-- ---- tests

abbrev pub relation_named : RelationComparison → RelateWord
relation_named written.Equal = relation.Equal
relation_named written.NotEqual = relation.NotEqual
relation_named written.Less = relation.Less
relation_named written.LessEqual = relation.LessEqual
relation_named written.Greater = relation.Greater
relation_named written.GreaterEqual = relation.GreaterEqual

-- E13 at the comparison, which goes by the unpacked rows where attributes are given
abbrev pub compared : Place → RelateWord → Option (List ℕ) → Tree → Tree → OrFault Test
compared place word commalist l r = do
  same ← check place E13 (same_heading (heading_of l) (heading_of r))
  Ok (relate place word commalist l r)

abbrev pub comparison_rule : Place → RelateWord → Tree → Tree → OrFault Test
comparison_rule place word l r = compared place word None l r

-- the list, then E13 at the comparison
abbrev pub using_comparison_rule : NameListP → Place → RelateWord → Tree → Tree → OrFault Test
using_comparison_rule list place word l r = do
  names ← list_checked (heading_of l) (heading_of r) list
  compared place word (Some (positions_of (heading_of l) names)) l r

abbrev pub emptiness_test : Place → EmptinessWord → Tree → Test
emptiness_test place IsEmpty t = is_empty place t
emptiness_test place IsNotEmpty t = is_not_empty place t
