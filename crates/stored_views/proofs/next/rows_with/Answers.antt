use Rattle.std.proofs.Common.{◌≡◌, ◌∙◌, [], sym}
use Rattle.stored_views.proofs.MoveLemmas.{no_items, stays}
use Rattle.stored_views.proofs.next.rows_with.Goals as goal

pub returns-then-is_empty-2 : goal.returns-then-is_empty-2
returns-then-is_empty-2 c =
    let come : c.args.moved.come.rows ≡ [] = sym c.rows.ensures.rows ∙ no_items c.rows.result.now (sym c.is_empty.ensures ∙ c.if-is_empty.true) in
    let gone : c.args.moved.gone.rows ≡ [] =
    sym c.rows-then-is_empty.ensures.rows ∙ no_items c.rows-then-is_empty.result.now (sym c.is_empty-then-is_empty.ensures ∙ c.if-is_empty-2.true) in
    stays c.args.view.now c.args.moved.gone.rows c.args.moved.come.rows c.heading.ensures.relation gone come
