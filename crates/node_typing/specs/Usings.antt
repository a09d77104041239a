-- The rules of USING over typed operands: the list, the operator's own checks, that listed attributes are kept, and that
-- expressions are sweepable for them.
use Rattle.std.specs.Prelude.{List, Ok}
use Rattle.point_core.specs.declared.fault.Place.{Place}
use Rattle.point_core.specs.Faults.{OrFault}
use Rattle.utd_syntax.specs.Plain.{NameListP, ProjectionP, ScalarP, SetsP, NamesP, AggregatesP}
use Rattle.value_core.specs.declared.list.OrdinalNames.{OrdinalNames}
use Rattle.value_core.specs.Values.{Name}
use Rattle.relation_core.specs.Parts.{attributes_at}
use Rattle.tree_core.specs.Trees.{Tree, restrict, extend, project, summarize, using, heading_of}
use Rattle.tree_core.specs.declared.tree.InfixWord.{InfixWord}
use Rattle.scalar_typing.specs.Typings.{◌>>=◌}
use Rattle.meaning_core.specs.Meanings.{positions_of}
use Rattle.node_typing.specs.Lists.{words_of, list_checked}
use Rattle.node_typing.specs.Nodes.{infix_rule}
use Rattle.node_typing.specs.Projections.{projection_place, projection_kept}
use Rattle.node_typing.specs.Rows.{item_list, condition_typed, extension_made}
use Rattle.node_typing.specs.Summaries.{groups_typed, aggregates_made}
use Rattle.node_typing.specs.Sweeps.{all_kept, none_assigned, swept, sets_swept, aggregates_name_no}

-- the part under USING with the listed attributes
abbrev pub used : Place → List Name → Tree → Tree
used place names part = using place (heading_of part) (positions_of (heading_of part) names) part

abbrev pub using_infix_rule : Place → NameListP → Place → InfixWord → Tree → Tree → OrFault Tree
using_infix_rule place list at word l r = do
  names ← list_checked (heading_of l) (heading_of r) list
  part ← infix_rule at word l r
  Ok (used place names part)

abbrev pub using_projection_rule : Place → NameListP → ProjectionP → Tree → OrFault Tree
using_projection_rule place list p t = do
  names ← list_checked (heading_of t) (heading_of t) list
  kept ← projection_kept p (heading_of t)
  all ← all_kept (attributes_at kept (heading_of t)) (words_of list)
  Ok (used place names (project (projection_place p) (attributes_at kept (heading_of t)) kept t))

abbrev pub using_restriction_rule : List OrdinalNames → Place → NameListP → Place → ScalarP → Tree → OrFault Tree
using_restriction_rule types place list at s t = do
  names ← list_checked (heading_of t) (heading_of t) list
  c ← condition_typed types at (heading_of t) s
  sweepable ← swept (positions_of (heading_of t) names) c
  Ok (used place names (restrict at (heading_of t) c t))

abbrev pub using_extension_rule : List OrdinalNames → Place → NameListP → Place → SetsP → Tree → OrFault Tree
using_extension_rule types place list at sets t = do
  names ← list_checked (heading_of t) (heading_of t) list
  made ← extension_made types at (heading_of t) sets
  none ← none_assigned names (item_list sets)
  sweepable ← sets_swept (positions_of (heading_of t) names) made.0
  Ok (used place names (extend at made.1 made.0 t))

abbrev pub using_summary_rule : List OrdinalNames → Place → NameListP → Place → NamesP → AggregatesP → Tree → OrFault Tree
using_summary_rule types place list at by_names aggregates t = do
  names ← list_checked (heading_of t) (heading_of t) list
  by ← groups_typed (heading_of t) by_names
  made ← aggregates_made types at (heading_of t) by aggregates
  all ← all_kept (attributes_at by (heading_of t)) (words_of list)
  none ← aggregates_name_no (positions_of (heading_of t) names) made.0
  Ok (used place names (summarize at made.1 by made.0 t))
