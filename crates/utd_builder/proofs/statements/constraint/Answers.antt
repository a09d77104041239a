use Rattle.std.proofs.Common.{◌∷◌, refl, sym, ◌∙◌, subst, arith}
use Rattle.utd_syntax.specs.declared.terminal.Terminal.TheVariants as t
use Rattle.utd_syntax.specs.Pieces.{first}
use Rattle.utd_syntax.specs.Table.{TheConstraint}
use Rattle.utd_builder.specs.Building.{left}
use Rattle.utd_builder.proofs.Steps.{at, less, no-more, just}
use Rattle.utd_builder.proofs.StatementRows.{not-constraint, step-TheKey, step-TheForeign, step-TheConstraint}
use Rattle.utd_builder.proofs.ScalarRows.{step-TheName}
use Rattle.utd_syntax.proofs.FormEnds.{Starts_key, Starts_foreign}
use Rattle.utd_syntax.proofs.FirstTokens.{constraint-as-key, constraint-as-foreign}
use Rattle.utd_builder.proofs.statements.constraint.Goals as goal

pub returns-in_ok-names-in-Key-clause-built : goal.returns-in_ok-names-in-Key-clause-built
returns-in_ok-names-in-Key-clause-built c = record { shorter = omega (arith, no-more (left c.args.cursor) (left c.skip-behind.result) c.skip-behind.ensures, c.in_ok-names-in-Key.ensures.shorter); goes_on = λ stack k x h. let h1 = (sym (constraint-as-key (left c.args.cursor) stack k (subst Starts_key (sym (sym c.terminal.ensures ∙ c.in-Key.is)) tt)) ∙ h) in let h2 = step-TheKey _ _ (left c.args.cursor) (left c.skip-behind.result) _ _ x c.place-place.ensures refl c.skip-behind.ensures h1 in c.in_ok-names-in-Key.ensures.goes_on _ _ x h2 }

pub returns-in_ok-names-in-Key-clause-shorter : goal.returns-in_ok-names-in-Key-clause-shorter
returns-in_ok-names-in-Key-clause-shorter c = λ e. omega (arith, less t.Key (left c.args.cursor) (left c.skip-behind.result) (sym c.terminal.ensures ∙ c.in-Key.is) refl c.skip-behind.ensures, c.in_ok-names-in-Key.ensures.shorter)

pub returns-in_ok-relvar-in-Foreign-clause-built : goal.returns-in_ok-relvar-in-Foreign-clause-built
returns-in_ok-relvar-in-Foreign-clause-built c = record { shorter = omega (arith, no-more (left c.args.cursor) (left c.skip-behind.result) c.skip-behind.ensures, no-more (left c.skip-behind.result) (left c.skip.result) c.skip.ensures, c.in_ok-names-in-Foreign.ensures.shorter, no-more (left c.in_ok-names-in-Foreign.next) (left c.skip-in-Foreign.result) c.skip-in-Foreign.ensures, no-more (left c.skip-in-Foreign.result) (left c.in_ok-relvar-in-Foreign.end) c.in_ok-relvar-in-Foreign.ensures.2); goes_on = λ stack k x h. let h1 = (sym (constraint-as-foreign (left c.args.cursor) stack k (subst Starts_foreign (sym (sym c.terminal.ensures ∙ c.in-Foreign.is)) tt)) ∙ h) in let h2 = step-TheForeign _ _ (left c.args.cursor) (left c.skip-behind.result) _ _ x c.place-place.ensures refl c.skip-behind.ensures h1 in let h3 = just t.Key (left c.skip-behind.result) (left c.skip.result) _ _ x c.skip.ensures h2 in let h4 = c.in_ok-names-in-Foreign.ensures.goes_on _ _ x h3 in let h5 = just t.References (left c.in_ok-names-in-Foreign.next) (left c.skip-in-Foreign.result) _ _ x c.skip-in-Foreign.ensures h4 in step-TheName _ _ (left c.skip-in-Foreign.result) (left c.in_ok-relvar-in-Foreign.end) _ _ x c.in_ok-relvar-in-Foreign.ensures.0 c.in_ok-relvar-in-Foreign.ensures.1 c.in_ok-relvar-in-Foreign.ensures.2 h5 }

pub returns-in_ok-relvar-in-Foreign-clause-shorter : goal.returns-in_ok-relvar-in-Foreign-clause-shorter
returns-in_ok-relvar-in-Foreign-clause-shorter c = λ e. omega (arith, less t.Foreign (left c.args.cursor) (left c.skip-behind.result) (sym c.terminal.ensures ∙ c.in-Foreign.is) refl c.skip-behind.ensures, no-more (left c.skip-behind.result) (left c.skip.result) c.skip.ensures, c.in_ok-names-in-Foreign.ensures.shorter, no-more (left c.in_ok-names-in-Foreign.next) (left c.skip-in-Foreign.result) c.skip-in-Foreign.ensures, no-more (left c.skip-in-Foreign.result) (left c.in_ok-relvar-in-Foreign.end) c.in_ok-relvar-in-Foreign.ensures.2)

pub returns-in_ok-names-in-Packed-clause-built : goal.returns-in_ok-names-in-Packed-clause-built
returns-in_ok-names-in-Packed-clause-built c = record { shorter = omega (arith, no-more (left c.args.cursor) (left c.skip-behind.result) c.skip-behind.ensures, no-more (left c.skip-behind.result) (left c.skip-in-Packed.result) c.skip-in-Packed.ensures, c.in_ok-names-in-Packed.ensures.shorter); goes_on = λ stack k x h. let h1 = at t.Packed _ _ (left c.args.cursor) (left c.skip-behind.result) (TheConstraint ∷ stack) k x (sym c.terminal.ensures ∙ c.in-Packed.is) refl c.place-place.ensures refl c.skip-behind.ensures h in let h2 = just t.On (left c.skip-behind.result) (left c.skip-in-Packed.result) _ _ x c.skip-in-Packed.ensures h1 in c.in_ok-names-in-Packed.ensures.goes_on _ _ x h2 }

pub returns-in_ok-names-in-Packed-clause-shorter : goal.returns-in_ok-names-in-Packed-clause-shorter
returns-in_ok-names-in-Packed-clause-shorter c = λ e. omega (arith, less t.Packed (left c.args.cursor) (left c.skip-behind.result) (sym c.terminal.ensures ∙ c.in-Packed.is) refl c.skip-behind.ensures, no-more (left c.skip-behind.result) (left c.skip-in-Packed.result) c.skip-in-Packed.ensures, c.in_ok-names-in-Packed.ensures.shorter)

pub returns-in_ok-key-in-When-clause-built : goal.returns-in_ok-key-in-When-clause-built
returns-in_ok-key-in-When-clause-built c = record { shorter = omega (arith, no-more (left c.args.cursor) (left c.skip-behind.result) c.skip-behind.ensures, no-more (left c.skip-behind.result) (left c.skip-in-When.result) c.skip-in-When.ensures, no-more (left c.skip-in-When.result) (left c.skip-in-When-2.result) c.skip-in-When-2.ensures, c.in_ok-names-in-When.ensures.shorter, no-more (left c.in_ok-names-in-When.next) (left c.skip-in-When-3.result) c.skip-in-When-3.ensures, c.in_ok-key-in-When.ensures.shorter); goes_on = λ stack k x h. let h1 = at t.When _ _ (left c.args.cursor) (left c.skip-behind.result) (TheConstraint ∷ stack) k x (sym c.terminal.ensures ∙ c.in-When.is) refl c.place-place.ensures refl c.skip-behind.ensures h in let h2 = just t.Unpacked (left c.skip-behind.result) (left c.skip-in-When.result) _ _ x c.skip-in-When.ensures h1 in let h3 = just t.On (left c.skip-in-When.result) (left c.skip-in-When-2.result) _ _ x c.skip-in-When-2.ensures h2 in let h4 = c.in_ok-names-in-When.ensures.goes_on _ _ x h3 in let h5 = just t.Then (left c.in_ok-names-in-When.next) (left c.skip-in-When-3.result) _ _ x c.skip-in-When-3.ensures h4 in c.in_ok-key-in-When.ensures.goes_on _ _ x h5 }

pub returns-in_ok-key-in-When-clause-shorter : goal.returns-in_ok-key-in-When-clause-shorter
returns-in_ok-key-in-When-clause-shorter c = λ e. omega (arith, less t.When (left c.args.cursor) (left c.skip-behind.result) (sym c.terminal.ensures ∙ c.in-When.is) refl c.skip-behind.ensures, no-more (left c.skip-behind.result) (left c.skip-in-When.result) c.skip-in-When.ensures, no-more (left c.skip-in-When.result) (left c.skip-in-When-2.result) c.skip-in-When-2.ensures, c.in_ok-names-in-When.ensures.shorter, no-more (left c.in_ok-names-in-When.next) (left c.skip-in-When-3.result) c.skip-in-When-3.ensures, c.in_ok-key-in-When.ensures.shorter)

pub returns-in_ok-used-in_default-clause-built : goal.returns-in_ok-used-in_default-clause-built
returns-in_ok-used-in_default-clause-built c = record { shorter = omega (arith, no-more (left c.args.cursor) (left c.skip-behind.result) c.skip-behind.ensures, c.in_ok-names-in_default.ensures.shorter, no-more (left c.in_ok-names-in_default.next) (left c.skip-in_default.result) c.skip-in_default.ensures, c.in_ok-used-in_default.ensures.shorter); goes_on = λ stack k x h. let h1 = step-TheConstraint _ _ (left c.args.cursor) (left c.skip-behind.result) _ k x (λ e. c.in_default.not-Key (c.terminal.ensures ∙ e)) (λ e. c.in_default.not-Foreign (c.terminal.ensures ∙ e)) (λ e. c.in_default.not-Packed (c.terminal.ensures ∙ e)) (λ e. c.in_default.not-When (c.terminal.ensures ∙ e)) c.place-place.ensures refl c.skip-behind.ensures h in let h2 = c.in_ok-names-in_default.ensures.goes_on _ _ x h1 in let h3 = just t.Colon (left c.in_ok-names-in_default.next) (left c.skip-in_default.result) _ _ x c.skip-in_default.ensures h2 in c.in_ok-used-in_default.ensures.goes_on _ _ x h3 }

pub returns-in_ok-used-in_default-clause-shorter : goal.returns-in_ok-used-in_default-clause-shorter
returns-in_ok-used-in_default-clause-shorter c = λ e. omega (arith, less t.Using (left c.args.cursor) (left c.skip-behind.result) (not-constraint (first (left c.args.cursor)) e (λ e. c.in_default.not-Key (c.terminal.ensures ∙ e)) (λ e. c.in_default.not-Foreign (c.terminal.ensures ∙ e)) (λ e. c.in_default.not-Packed (c.terminal.ensures ∙ e)) (λ e. c.in_default.not-When (c.terminal.ensures ∙ e))) refl c.skip-behind.ensures, c.in_ok-names-in_default.ensures.shorter, no-more (left c.in_ok-names-in_default.next) (left c.skip-in_default.result) c.skip-in_default.ensures, c.in_ok-used-in_default.ensures.shorter)
