use Rattle.std.proofs.Common.{◌∙◌, ap}
use Rattle.utd_syntax.specs.Read.{read_statement}
use Rattle.utd_builder.specs.Building as building
use Rattle.utd_parser.specs.Tokens.{pieces}
use Rattle.utd_parser.proofs.Trees.{is-tree, tree-spells, tree-sole, read-from}
use Rattle.utd_ranges.proofs.RangeLaws.{in-range, has-values}
use Rattle.utd_parser.proofs.whole.parse.Goals as goal

pub returns-clause-read : goal.returns-clause-read
returns-clause-read c = tree-spells (pieces c.args.list.now) (read_statement c.in_ok-tree.tree) c.in_ok-seen.ensures.read (is-tree (pieces c.args.list.now) _ (read_statement c.in_ok-tree.tree) c.in_ok-seen.ensures.read (read-from (pieces c.args.list.now) _ _ _ (ap building.pieces c.as_slice.ensures.value ∙ c.in_ok-seen.ensures.seen) c.in_ok-tree.ensures))

pub returns-clause-sole : goal.returns-clause-sole
returns-clause-sole c = tree-sole (pieces c.args.list.now) (read_statement c.in_ok-tree.tree) c.in_ok-seen.ensures.read (is-tree (pieces c.args.list.now) _ (read_statement c.in_ok-tree.tree) c.in_ok-seen.ensures.read (read-from (pieces c.args.list.now) _ _ _ (ap building.pieces c.as_slice.ensures.value ∙ c.in_ok-seen.ensures.seen) c.in_ok-tree.ensures))

pub returns-clause-range : goal.returns-clause-range
returns-clause-range c = in-range (pieces c.args.list.now) (read_statement c.in_ok-tree.tree) (returns-clause-read c) c.in_ok-seen.ensures.verdict

pub returns-clause-values : goal.returns-clause-values
returns-clause-values c = λ written. has-values (pieces c.args.list.now) (read_statement c.in_ok-tree.tree) written (returns-clause-read c) c.in_ok-seen.ensures.verdict
