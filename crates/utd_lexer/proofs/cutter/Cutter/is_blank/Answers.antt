use Rattle.std.proofs.Common.{sym, ◌∙◌, ap, ◌&&◌}
use Rattle.utd_lexer.specs.Cutting.{is_resting}
use Rattle.utd_lexer.proofs.BlankLemmas.{resting-answers}
use Rattle.utd_lexer.proofs.cutter.Cutter.is_blank.Goals as goal

pub returns-then-self : goal.returns-then-self
returns-then-self c bytes h = resting-answers bytes c.args.self.now.mode c.args.self.now.blank _ h.0 h.1 (c.is_resting.ensures ∙ sym (ap (λ x. x && is_resting c.args.self.now.mode) c.if-self.true))

pub returns-else-self : goal.returns-else-self
returns-else-self c bytes h = resting-answers bytes c.args.self.now.mode c.args.self.now.blank _ h.0 h.1 (c.if-self.false ∙ sym (ap (λ x. x && is_resting c.args.self.now.mode) c.if-self.false))
