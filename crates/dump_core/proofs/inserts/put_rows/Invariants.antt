use Rattle.std.proofs.Common.{◌≡◌, map}
use Rattle.tree_core.specs.Relvars.{read_entry, read_relvars}
use Rattle.dump_core.specs.Inserts.{rows_of_entries, rows_of_state, HaveRelations}
use Rattle.dump_core.specs.Drafts.{with_statements}
use Rattle.dump_core.proofs.inserts.put_rows.Given as goal

abbrev pub invariant-loop-name : goal.invariant-loop-name
invariant-loop-name l =
    (goal.iterator-loop-name).can_next l.name-iterator ×
    (goal.iterator-loop-name).is_finite l.name-iterator ×
    (HaveRelations (map read_entry l.name-iterator) → HaveRelations (read_relvars l.relvars).relvars) ×
    (with_statements (rows_of_entries l.relvars.ordinals (map read_entry l.name-iterator)) l.draft ≡ with_statements (rows_of_state (read_relvars l.relvars)) l.fn.draft)
