use Rattle.std.proofs.Common.{sym, ◌∙◌, subst}
use Rattle.std.specs.Bool.{IsTrue}
use Rattle.value_core.specs.Lengths.{is_text}
use Rattle.plain_rows.specs.Written.{BeginsWithText}
use Rattle.plain_rows.proofs.ConstantLemmas.{text-constant}
use Rattle.plain_rows.proofs.constants.doubled_text.Goals as goal

pub returns : goal.returns
returns c types = text-constant _ _ _ (subst (λ z. BeginsWithText c.args.text.now z c.in_ok-written.rest.now) (sym (c.in_ok-made.ensures.same ∙ c.as_str.ensures.value)) c.in_ok-written.ensures) (subst (λ z. IsTrue (is_text z)) (sym c.in_ok-made.ensures.same) c.in_ok-made.ensures.is)
