use Rattle.std.proofs.Common.{◌∷◌, refl, sym, ◌∙◌, arith}
use Rattle.utd_syntax.specs.declared.terminal.Terminal.TheVariants as t
use Rattle.utd_syntax.specs.Pieces.{first}
use Rattle.utd_syntax.specs.Plain as plain
use Rattle.utd_syntax.specs.Read.{read_term}
use Rattle.utd_syntax.specs.Table.{MorePostfix}
use Rattle.utd_builder.specs.Building.{left}
use Rattle.utd_builder.proofs.Steps.{at, less}
use Rattle.utd_builder.proofs.RelationRows.{not-postfix}
use Rattle.utd_builder.proofs.relations.postfixed.Goals as goal

pub returns-in_ok-names-in-OpenBrace : goal.returns-in_ok-names-in-OpenBrace
returns-in_ok-names-in-OpenBrace c = rw c.in_ok-inner.ensures.ok (record { shorter = omega (arith, less t.OpenBrace (left c.args.cursor) (left c.skip-behind.result) (sym c.terminal.ensures ∙ c.in-OpenBrace.is) refl c.skip-behind.ensures, c.in_ok-names-in-OpenBrace.ensures.shorter); goes_on = λ stack k x h. let h1 = at t.OpenBrace _ _ (left c.args.cursor) (left c.skip-behind.result) (MorePostfix ∷ stack) (λ vs. k (vs.0 (read_term c.args.so_far), vs.1)) x (sym c.terminal.ensures ∙ c.in-OpenBrace.is) refl c.place-place.ensures refl c.skip-behind.ensures h in c.in_ok-names-in-OpenBrace.ensures.goes_on _ (λ w. k (w.1.0 (plain.Project (read_term c.args.so_far) w.0), w.1.1)) x h1 })

pub returns-in_ok-condition-in-Where : goal.returns-in_ok-condition-in-Where
returns-in_ok-condition-in-Where c = rw c.in_ok-inner.ensures.ok (record { shorter = omega (arith, less t.Where (left c.args.cursor) (left c.skip-behind.result) (sym c.terminal.ensures ∙ c.in-Where.is) refl c.skip-behind.ensures, c.in_ok-condition-in-Where.ensures.shorter); goes_on = λ stack k x h. let h1 = at t.Where _ _ (left c.args.cursor) (left c.skip-behind.result) (MorePostfix ∷ stack) (λ vs. k (vs.0 (read_term c.args.so_far), vs.1)) x (sym c.terminal.ensures ∙ c.in-Where.is) refl c.place-place.ensures refl c.skip-behind.ensures h in c.in_ok-condition-in-Where.ensures.goes_on _ _ x h1 })

pub returns-in_ok-names-in_default : goal.returns-in_ok-names-in_default
returns-in_ok-names-in_default c = rw c.in_ok-inner.ensures.ok (record { shorter = omega (arith, less t.Rename (left c.args.cursor) (left c.skip-behind.result) (not-postfix (first (left c.args.cursor)) c.requires (λ e. c.in_default.not-OpenBrace (c.terminal.ensures ∙ e)) (λ e. c.in_default.not-Where (c.terminal.ensures ∙ e))) refl c.skip-behind.ensures, c.in_ok-names-in_default.ensures.shorter); goes_on = λ stack k x h. let h1 = at t.Rename _ _ (left c.args.cursor) (left c.skip-behind.result) (MorePostfix ∷ stack) (λ vs. k (vs.0 (read_term c.args.so_far), vs.1)) x (not-postfix (first (left c.args.cursor)) c.requires (λ e. c.in_default.not-OpenBrace (c.terminal.ensures ∙ e)) (λ e. c.in_default.not-Where (c.terminal.ensures ∙ e))) refl c.place-place.ensures refl c.skip-behind.ensures h in c.in_ok-names-in_default.ensures.goes_on _ _ x h1 })
