use Rattle.std.proofs.Common.{Ok, Bool, subst, ◌∙◌}
use Rattle.tree_core.specs.Relvars.{read_relvars}
use Rattle.assign_core.specs.Arrivals.{way_of}
use Rattle.assign_core.specs.NewRows.{IsToldOf}
use Rattle.assign_core.proofs.LogLemmas.{brought_without_logs}
use Rattle.assign_core.proofs.UnstoredLemmas.{unstored_counted}
use Rattle.assign_core.proofs.assigning.bring_alone.Goals as goal

pub returns-in-Ok-true-clause-brought : goal.returns-in-Ok-true-clause-brought
returns-in-Ok-true-clause-brought g c =
    let mid = read_relvars c.bring.new.relvars in
    (mid, subst (λ (b : Bool). IsToldOf (way_of c.args.way) (Ok b) (read_relvars c.args.relvars.now) mid c.args.target.now c.args.rows) c.in-Ok-true.field-0-test c.in-Ok-true.ensures.brought, c.count_alone.ensures.counted)

pub returns-in-Ok-true-clause-beside : goal.returns-in-Ok-true-clause-beside
returns-in-Ok-true-clause-beside g c = brought_without_logs (read_relvars c.args.relvars.now) (way_of c.args.way) c.args.target.now c.args.rows c.requires.alone

pub returns-in-Err-clause-beside : goal.returns-in-Err-clause-beside
returns-in-Err-clause-beside g c = brought_without_logs (read_relvars c.args.relvars.now) (way_of c.args.way) c.args.target.now c.args.rows c.requires.alone

pub returns-in-Ok-true-clause-unstored : goal.returns-in-Ok-true-clause-unstored
returns-in-Ok-true-clause-unstored g c =
    unstored_counted (read_relvars c.args.relvars.now) (read_relvars c.bring.new.relvars) (read_relvars c.count_alone.new.relvars) c.requires.unstored c.bring.ensures.logs c.count_alone.ensures.counted

pub returns-in-Ok-false-clause-unstored : goal.returns-in-Ok-false-clause-unstored
returns-in-Ok-false-clause-unstored g c = (c.bring.ensures.logs.2 ∙ c.requires.unstored, c.bring.ensures.logs.3)

pub returns-in-Err-clause-unstored : goal.returns-in-Err-clause-unstored
returns-in-Err-clause-unstored g c = (c.bring.ensures.logs.2 ∙ c.requires.unstored, c.bring.ensures.logs.3)
