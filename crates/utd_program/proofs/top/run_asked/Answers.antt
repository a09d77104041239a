use Rattle.std.proofs.Common.{◌≡◌, sym, ◌∙◌}
use Rattle.utd_words.specs.declared.words.Script.TheVariants.{Generated}
use Rattle.utd_program.proofs.top.run_asked.Goals as goal

pub returns-in-Dump-clause-again_generated : goal.returns-in-Dump-clause-again_generated
returns-in-Dump-clause-again_generated g c number e =
    let whole = sym c.in-Dump.is ∙ e in
    let same : c.in-Dump.script ≡ Generated number = cc in
    c.run_dump.ensures.again_generated number same
