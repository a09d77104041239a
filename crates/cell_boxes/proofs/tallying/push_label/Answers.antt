use Rattle.std.proofs.Common.{◌≡◌, Err, sym, ◌∙◌}
use Rattle.cell_sweep.proofs.Turns.{least_kept}
use Rattle.cell_boxes.proofs.TallyLemmas.{ok_err}
use Rattle.cell_boxes.proofs.tallying.push_label.Goals as goal

pub returns-in_ok-push_boxed-in-Ok-clause-least : goal.returns-in_ok-push_boxed-in-Ok-clause-least
returns-in_ok-push_boxed-in-Ok-clause-least g c = λ f is.
    least_kept (λ e. g.T.Tally.means c.args.rule.now c.args.key.now f ≡ Err e) c.args.least.now (λ e h. ok_err c.in-Ok.label e (sym (c.in-Ok.ensures.answer f is) ∙ h))
