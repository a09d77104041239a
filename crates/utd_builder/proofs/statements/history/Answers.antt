use Rattle.std.proofs.Common.{◌∷◌, refl, arith}
use Rattle.utd_syntax.specs.declared.terminal.Terminal.TheVariants as t
use Rattle.utd_syntax.specs.Table.{TheStatement}
use Rattle.utd_syntax.specs.Written.{since_word, during_word, over_word}
use Rattle.utd_builder.specs.Building.{left}
use Rattle.utd_builder.proofs.Steps.{at, no-more, just, worded}
use Rattle.utd_builder.proofs.ScalarRows.{step-TheName}
use Rattle.utd_builder.proofs.statements.history.Goals as goal

pub returns : goal.returns
returns c = record { shorter = omega (arith, no-more (left c.args.cursor) (left c.skip.result) c.skip.ensures, no-more (left c.skip.result) (left c.in_ok-view.next) c.in_ok-view.ensures.2, c.in_ok-heading.ensures.shorter, c.in_ok-key.ensures.shorter, no-more (left c.in_ok-key.next_since) (left c.skip-2.result) c.skip-2.ensures, no-more (left c.skip-2.result) (left c.in_ok-since.next_first) c.in_ok-since.ensures.2, c.in_ok-since_attribute.ensures.shorter, no-more (left c.in_ok-since_attribute.next_during) (left c.skip-3.result) c.skip-3.ensures, no-more (left c.skip-3.result) (left c.in_ok-during.next_second) c.in_ok-during.ensures.2, c.in_ok-during_attribute.ensures.shorter, no-more (left c.in_ok-during_attribute.next_over) (left c.skip-4.result) c.skip-4.ensures, c.in_ok-point.ensures.shorter, no-more (left c.in_ok-point.end) (left c.skip-5.result) c.skip-5.ensures); goes_on = λ stack k x h. let h1 = at t.History _ _ (left c.args.cursor) (left c.skip.result) (TheStatement ∷ stack) k x c.requires refl c.place-place.ensures refl c.skip.ensures h in let h2 = step-TheName _ _ (left c.skip.result) (left c.in_ok-view.next) _ _ x c.in_ok-view.ensures.0 c.in_ok-view.ensures.1 c.in_ok-view.ensures.2 h1 in let h3 = c.in_ok-heading.ensures.goes_on _ _ x h2 in let h4 = c.in_ok-key.ensures.goes_on _ _ x h3 in let h5 = worded since_word _ (left c.in_ok-key.next_since) (left c.skip-2.result) _ _ x refl c.skip-2.ensures h4 in let h6 = step-TheName _ _ (left c.skip-2.result) (left c.in_ok-since.next_first) _ _ x c.in_ok-since.ensures.0 c.in_ok-since.ensures.1 c.in_ok-since.ensures.2 h5 in let h7 = c.in_ok-since_attribute.ensures.goes_on _ _ x h6 in let h8 = worded during_word _ (left c.in_ok-since_attribute.next_during) (left c.skip-3.result) _ _ x refl c.skip-3.ensures h7 in let h9 = step-TheName _ _ (left c.skip-3.result) (left c.in_ok-during.next_second) _ _ x c.in_ok-during.ensures.0 c.in_ok-during.ensures.1 c.in_ok-during.ensures.2 h8 in let h10 = c.in_ok-during_attribute.ensures.goes_on _ _ x h9 in let h11 = worded over_word _ (left c.in_ok-during_attribute.next_over) (left c.skip-4.result) _ _ x refl c.skip-4.ensures h10 in let h12 = c.in_ok-point.ensures.goes_on _ _ x h11 in just t.Semicolon (left c.in_ok-point.end) (left c.skip-5.result) _ _ x c.skip-5.ensures h12 }
