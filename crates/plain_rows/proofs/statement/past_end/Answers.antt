use Rattle.std.proofs.Common.{◌∷◌, [], sym, ◌∙◌}
use Rattle.std.proofs.lemmas.Bool.{eqb-true}
use Rattle.std.proofs.lemmas.List.{nil_from_length}
use Rattle.plain_rows.specs.Tuples.{close_brace, semicolon}
use Rattle.plain_rows.proofs.IntervalLemmas.{begins-both}
use Rattle.plain_rows.proofs.statement.past_end.Goals as goal

pub returns-then-is_empty-clause-begins : goal.returns-then-is_empty-clause-begins
returns-then-is_empty-clause-begins c = begins-both _ _ _ _ (close_brace ∷ []) (semicolon ∷ []) c.in_ok-behind.ensures c.past_space-end.ensures c.in_ok-rest.ensures

pub returns-then-is_empty-clause-ends : goal.returns-then-is_empty-clause-ends
returns-then-is_empty-clause-ends c = nil_from_length _ (eqb-true _ 0 (sym c.is_empty.ensures ∙ c.if-is_empty.true))
