use Rattle.std.proofs.Common.{◌+◌, ◌*◌, map}
use Rattle.scalar_core.specs.Expressions.{read}
use Rattle.tree_core.specs.Relvars.{read_relvar}
use Rattle.tree_core.specs.Trees.{read_tree, read_sets, read_aggregate, named, infix_of, project, rename, restrict, extend, summarize, pack, unpack, using}
use Rattle.algebra_core.specs.Scopes.{work, entry_work}
use Rattle.algebra_core.proofs.evaluation.+answer.Given as goal

abbrev pub decreases-answer : goal.decreases-answer
decreases-answer g l = 4 * work l.scope.now (read_tree l.tree.now) + 1

abbrev pub decreases-operand : goal.decreases-operand
decreases-operand g l = 4 * work l.scope.now (read_tree l.tree.now) + 2

abbrev pub decreases-named : goal.decreases-named
decreases-named g l = 4 * work l.scope.now (named l.place l.heading.now l.name.now)

abbrev pub decreases-looked_up : goal.decreases-looked_up
decreases-looked_up g l = 4 * entry_work l.scope.now l.at (read_relvar l.relvar.now) + 2

abbrev pub decreases-infix : goal.decreases-infix
decreases-infix g l = 4 * work l.scope.now (infix_of l.tree.now.place l.tree.now.heading l.word (read_tree l.l.now) (read_tree l.r.now))

abbrev pub decreases-project : goal.decreases-project
decreases-project g l = 4 * work l.scope.now (project l.tree.now.place l.tree.now.heading l.kept.now (read_tree l.t.now))

abbrev pub decreases-rename : goal.decreases-rename
decreases-rename g l = 4 * work l.scope.now (rename l.tree.now.place l.tree.now.heading l.names.now (read_tree l.t.now))

abbrev pub decreases-restrict : goal.decreases-restrict
decreases-restrict g l = 4 * work l.scope.now (restrict l.tree.now.place l.tree.now.heading (read l.c.now) (read_tree l.t.now))

abbrev pub decreases-extend : goal.decreases-extend
decreases-extend g l = 4 * work l.scope.now (extend l.tree.now.place l.tree.now.heading (read_sets l.sets.now) (read_tree l.t.now))

abbrev pub decreases-summarize : goal.decreases-summarize
decreases-summarize g l = 4 * work l.scope.now (summarize l.tree.now.place l.tree.now.heading l.by.now (map read_aggregate l.aggregates.now) (read_tree l.t.now))

abbrev pub decreases-pack : goal.decreases-pack
decreases-pack g l = 4 * work l.scope.now (pack l.tree.now.place l.tree.now.heading l.commalist.now (read_tree l.t.now))

abbrev pub decreases-unpack : goal.decreases-unpack
decreases-unpack g l = 4 * work l.scope.now (unpack l.tree.now.place l.tree.now.heading l.commalist.now (read_tree l.t.now))

abbrev pub decreases-using : goal.decreases-using
decreases-using g l = 4 * work l.scope.now (using l.tree.now.place l.tree.now.heading l.commalist.now (read_tree l.t.now))
