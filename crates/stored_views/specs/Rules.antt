-- The rule of a stored view: what its expression is to the call that makes its rows.
--     rule_for      the rule of an expression
--     HasRule      an expression has one
--     place_for      where a fault of it is told
--     IsMade, IsUnmade      what is told of its rows
use Rattle.std.specs.Prelude.{◌≡◌, ℕ, ◌<◌, List, [], length, Ok, Err, IsTrue}
use Rattle.std.specs.List.{All}
use Rattle.point_core.specs.Faults.{fault}
use Rattle.point_core.specs.declared.fault.Code.TheVariants.{E35}
use Rattle.point_core.specs.declared.fault.Place.{Place}
use Rattle.value_core.specs.Values.{Relation}
use Rattle.value_core.specs.declared.refuse.RowsRefuse.{RowsRefuse}
use Rattle.value_core.specs.declared.refuse.RowsRefuse.TheVariants.{TooMany, Memory}
use Rattle.tree_core.specs.Trees.{Tree, named, literal, infix_of, project, rename, restrict, extend, summarize, pack, unpack, using, heading_of}
use Rattle.tree_core.specs.declared.tree.InfixWord.{InfixWord}
use Rattle.tree_core.specs.declared.tree.InfixWord.TheVariants.{Union as UnionWord, Intersect as IntersectWord, Minus as MinusWord, Join as JoinWord, Matching as MatchingWord, NotMatching as NotMatchingWord}
use Rattle.meaning_core.specs.Meanings.{RowsMeant}
use Rattle.meaning_core.specs.StoredViews.{is_name, is_stored_part}
use Rattle.kept_views.specs.Kept.{positions_beside}
use Rattle.kept_views.specs.declared.rule.KeptOp.{KeptOp}
use Rattle.kept_views.specs.declared.rule.KeptOp.TheVariants.{Union, Intersect, Minus, Join, Matching, NotMatching, Project, Pack}
use Rattle.kept_views.specs.declared.rule.KeptRule.{KeptRule}

abbrev pub op_of : InfixWord → KeptOp
op_of UnionWord = Union
op_of IntersectWord = Intersect
op_of MinusWord = Minus
op_of JoinWord = Join
op_of MatchingWord = Matching
op_of NotMatchingWord = NotMatching

abbrev pub pack_rule : List ℕ → KeptRule
pack_rule commalist = record { op = Pack; left = commalist; right = [] }

-- the rule of the part of USING, of whose heading these positions are listed: the listed attributes stand in the operands where their names do
abbrev pub part_rule : List ℕ → Tree → KeptRule
part_rule commalist (infix_of place h word l r) =
    record { op = op_of word; left = positions_beside h (heading_of l) commalist; right = positions_beside h (heading_of r) commalist }
part_rule commalist (project place h kept t) = record { op = Project kept; left = positions_beside h (heading_of t) commalist; right = [] }
part_rule commalist _ = pack_rule commalist

abbrev pub rule_for : Tree → KeptRule
rule_for (using place h commalist t) = part_rule commalist t
rule_for (pack place h commalist t) = pack_rule commalist
rule_for _ = pack_rule []

-- an operator of names, or a projection of one, under a list of its own attributes; or PACK of a name
abbrev pub HasRule : Tree → Type 0
HasRule (using place h commalist t) = IsTrue (is_stored_part t) × All (λ (i : ℕ). i < length (heading_of t)) commalist
HasRule (pack place h commalist t) = IsTrue (is_name t)
HasRule _ = ⊥

-- ---- what is told of its rows

-- the place of the node
abbrev pub place_for : Tree → Place
place_for (named place h name) = place
place_for (literal place h tuples) = place
place_for (infix_of place h word l r) = place
place_for (project place h kept t) = place
place_for (rename place h names t) = place
place_for (restrict place h c t) = place
place_for (extend place h sets t) = place
place_for (summarize place h by aggregates t) = place
place_for (pack place h commalist t) = place
place_for (unpack place h commalist t) = place
place_for (using place h commalist t) = place

-- the relation that the expression means
pub record IsMade (t : Tree) (meant : RowsMeant) (relation : Relation) : Type 0 where
  pub is : meant ≡ Ok relation.rows
  pub headed : relation.heading ≡ heading_of t

-- the expression means the fault of too many rows at its place; or memory is wanting
abbrev pub IsUnmade : Tree → RowsMeant → RowsRefuse → Type 0
IsUnmade t meant TooMany = meant ≡ Err (fault (place_for t) E35)
IsUnmade t meant Memory = Unit {0}
