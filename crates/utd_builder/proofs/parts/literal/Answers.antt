use Rattle.std.proofs.Common.{◌++◌, ◌∷◌, refl, sym, ◌∙◌, ap, arith}
use Rattle.utd_syntax.specs.declared.terminal.Terminal.TheVariants as t
use Rattle.utd_syntax.specs.Plain as plain
use Rattle.utd_syntax.specs.Read.{read_tuple, read_tuple_list}
use Rattle.utd_syntax.specs.Table.{MoreTuples, AfterRelation}
use Rattle.utd_builder.specs.Building.{left}
use Rattle.utd_builder.proofs.Steps.{at-both, no-more, just}
use Rattle.utd_builder.proofs.Paths.{none-yet}
use Rattle.utd_builder.proofs.PartRows.{step-TheLiteral, step-AfterRelation, step-TheTuples, headed}
use Rattle.utd_builder.proofs.parts.literal.Goals as goal

pub returns-in_ok-more-in-Tuple : goal.returns-in_ok-more-in-Tuple
returns-in_ok-more-in-Tuple c = record { shorter = omega (arith, no-more (left c.args.cursor) (left c.skip-body.result) c.skip-body.ensures, no-more (left c.skip-body.result) (left c.skip-inner.result) c.skip-inner.ensures, c.in_ok-first-in-Tuple.ensures.shorter, c.in_ok-more-in-Tuple.ensures.shorter, no-more (left c.in_ok-more-in-Tuple.end) (left c.skip.result) c.skip.ensures); goes_on = λ stack k x h. let h1 = step-TheLiteral _ _ (left c.args.cursor) (left c.skip-body.result) _ k x c.place-place.ensures refl c.skip-body.ensures h in let h2 = step-AfterRelation _ _ (left c.skip-body.result) (left c.skip-inner.result) _ _ x refl refl c.skip-inner.ensures h1 in let h3 = at-both t.OpenBrace t.Tuple _ _ (left c.skip-body.result) (left c.skip-inner.result) (AfterRelation ∷ stack) _ x (sym c.terminal.ensures ∙ c.in-Tuple.is) h2 in let h4 = c.in_ok-first-in-Tuple.ensures.goes_on _ _ x h3 in let h5 = none-yet MoreTuples (left c.in_ok-first-in-Tuple.next) _ (λ v. read_tuple_list c.new-list.result.items ++ v) _ x (λ v. ap (λ xs. read_tuple_list xs ++ v) (sym c.new-list.ensures.items)) h4 in let h6 = c.in_ok-more-in-Tuple.ensures.goes_on _ (λ w. k (plain.Tuples c.place-place.result (read_tuple c.in_ok-first-in-Tuple.first) w.0, w.1.1)) x h5 in just t.CloseBrace (left c.in_ok-more-in-Tuple.end) (left c.skip.result) _ _ x c.skip.ensures h6 }

pub returns-in_ok-tuples-in_default : goal.returns-in_ok-tuples-in_default
returns-in_ok-tuples-in_default c = record { shorter = omega (arith, no-more (left c.args.cursor) (left c.skip-body.result) c.skip-body.ensures, c.in_ok-head-in_default.ensures.shorter, no-more (left c.in_ok-head-in_default.next) (left c.skip-in_default.result) c.skip-in_default.ensures, c.in_ok-tuples-in_default.ensures.shorter); goes_on = λ stack k x h. let h1 = step-TheLiteral _ _ (left c.args.cursor) (left c.skip-body.result) _ k x c.place-place.ensures refl c.skip-body.ensures h in let h2 = headed (left c.skip-body.result) (left c.skip-inner.result) stack _ x (λ e. c.in_default.not-Tuple (c.terminal.ensures ∙ e)) c.skip-inner.ensures h1 in let h3 = c.in_ok-head-in_default.ensures.goes_on _ _ x h2 in let h4 = step-TheTuples _ _ (left c.in_ok-head-in_default.next) (left c.skip-in_default.result) _ _ x refl refl c.skip-in_default.ensures h3 in c.in_ok-tuples-in_default.ensures.goes_on _ _ x h4 }
