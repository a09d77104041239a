use Rattle.std.proofs.Common.{◌∙◌, [], refl, sym, ap, subst}
use Rattle.utd_lexer.specs.Cutting.{Since}
use Rattle.utd_session.specs.Unfinished.{IsUnfinished}
use Rattle.utd_session.specs.Statements.{Cut}
use Rattle.utd_session.specs.Readings.{AreReadings}
use Rattle.utd_session.specs.Texts.{texts_of}
use Rattle.utd_session.proofs.StatementLemmas.{cut-nil}
use Rattle.utd_session.proofs.feeding.Session.new.Goals as goal

pub returns-clause-nothing : goal.returns-clause-nothing
returns-clause-nothing c = record {
  read = subst (λ (x : Cut). AreReadings x.ended []) (sym cut-nil) tt;
  state_is = c.new.ensures;
  texts = c.new-2.ensures ∙ ap (λ (x : Cut). texts_of x.ended []) (sym cut-nil);
  accepted = refl;
  number = refl;
  unfinished = subst (λ (x : Cut). IsUnfinished c.new-3.result x.place x.rest) (sym cut-nil) c.new-3.ensures.nothing;
  since = subst (λ (x : Cut). Since c.new-4.result x.rest) (sym cut-nil) c.new-4.ensures;
  fed = refl;
}
