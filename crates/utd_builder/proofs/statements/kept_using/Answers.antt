use Rattle.std.proofs.Common.{◌∷◌, refl, sym, ◌∙◌, ap, arith}
use Rattle.utd_syntax.specs.Pieces.{first}
use Rattle.utd_syntax.specs.Read.{read_list, read_name}
use Rattle.utd_syntax.specs.Table.{AfterKept}
use Rattle.utd_syntax.specs.Written as written
use Rattle.utd_builder.specs.Building.{left}
use Rattle.utd_builder.specs.Choices.{infix_word_at}
use Rattle.utd_builder.proofs.Steps.{at, no-more}
use Rattle.utd_builder.proofs.RelationRows.{is-infix_word, more-infix_word}
use Rattle.utd_builder.proofs.ScalarRows.{step-TheName}
use Rattle.utd_builder.proofs.StatementRows.{row-AfterKept-infix_word}
use Rattle.utd_builder.proofs.statements.kept_using.Goals as goal

pub returns-in_ok-second-in-Some : goal.returns-in_ok-second-in-Some
returns-in_ok-second-in-Some c = record { shorter = omega (arith, no-more (left c.args.cursor) (left c.skip.result) c.skip.ensures, no-more (left c.skip.result) (left c.in_ok-second-in-Some.next) c.in_ok-second-in-Some.ensures.2); goes_on = λ stack k x h. let h1 = at (written.infix_word c.in-Some.word) _ _ (left c.args.cursor) (left c.skip.result) (AfterKept ∷ stack) (λ vs. k (vs.0 c.args.place (read_list c.args.names) (read_name c.args.first), vs.1)) x (is-infix_word (first (left c.args.cursor)) c.in-Some.word (ap infix_word_at (sym c.terminal.ensures) ∙ sym c.infix_word.ensures ∙ c.in-Some.is)) (more-infix_word c.in-Some.word) c.place-at.ensures refl c.skip.ensures h in let h2 = row-AfterKept-infix_word c.in-Some.word _ _ _ _ _ _ x h1 in step-TheName _ _ (left c.skip.result) (left c.in_ok-second-in-Some.next) _ _ x c.in_ok-second-in-Some.ensures.0 c.in_ok-second-in-Some.ensures.1 c.in_ok-second-in-Some.ensures.2 h2 }

pub kept_otherwise-requires : goal.kept_otherwise-requires
kept_otherwise-requires c = ap infix_word_at (sym c.terminal.ensures) ∙ sym c.infix_word.ensures ∙ c.in-None.is

pub returns-in-None : goal.returns-in-None
returns-in-None c = c.kept_otherwise.ensures
