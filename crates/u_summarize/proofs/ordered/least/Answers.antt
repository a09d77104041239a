use Rattle.std.proofs.Common.{rules, sym, ◌∙◌}
use Rattle.std.proofs.lemmas.Bool.{true≢false}
use Rattle.std.specs.Int.{w64}
use Rattle.std.proofs.lemmas.Int.{to_z-of_z}
use mir.Val.{SFits}
use Rattle.u_summarize.proofs.ExtremeLemmas.{least_is, least_none}
use Rattle.u_summarize.proofs.ordered.least.Goals as goal

pub returns-in-Some : goal.returns-in-Some
returns-in-Some c = λ values f is.
    let p = c.in-Some.pair.now in
    let fits : SFits w64 p.0 = search rules in
    to_z-of_z w64 p.0 fits ∙ least_is values c.args.ordered.now f is p c.in-Some.ensures.member c.in-Some.ensures.least

pub returns-in-None : goal.returns-in-None
returns-in-None c = λ values f is. least_none values c.args.ordered.now f is (λ l. true≢false (sym (c.in-None.ensures.variant.1 l)))
