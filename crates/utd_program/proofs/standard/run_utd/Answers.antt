use Rattle.std.proofs.Common.{◌∙◌, inl, inr}
use Rattle.utd_session.specs.declared.status.Status.TheVariants.{NoMemory, BadUsage}
use Rattle.utd_program.proofs.standard.run_utd.Goals as goal

pub returns-in-Err : goal.returns-in-Err
returns-in-Err c = record {
  known = elim c.status_without_words.ensures.answer [
    | inl e ↦ (NoMemory, c.from.ensures ∙ e)
    | inr e ↦ (BadUsage, c.from.ensures ∙ e)
  ];
}
