use Rattle.std.proofs.Common.{◌∷◌, [], ◌++◌, ◌∙◌, ap}
use Rattle.plain_rows.proofs.RowLemmas.{has-rows-one, has-rows-next}
use Rattle.plain_rows.proofs.rows.more_rows.Goals as goal

pub rows-init : goal.rows-init
rows-init c = has-rows-one _ _ _ _ (c.in_ok-rows.ensures ∙ ap (λ z. z ++ c.args.first ∷ []) c.new.ensures.items)

pub rows-preserved : goal.rows-preserved
rows-preserved c = has-rows-next _ _ _ c.in-Some.row _ _ _ _ c.in_ok-rows-in-Some.ensures c.rows.invariant c.in-Some.ensures

pub returns-in-None : goal.returns-in-None
returns-in-None c = c.rows.invariant
