use Rattle.std.proofs.Common.{◌≡◌, true, List, sym, ap, ◌∙◌, subst}
use Rattle.std.specs.Prelude.{IfOk}
use Rattle.meaning_core.specs.WellMade.{AreAlike, AreDifferent}
use Rattle.value_core.specs.Values.{Heading, Row}
use Rattle.u_constraints.specs.Constraints.{is_referenced}
use Rattle.u_constraints.proofs.CounterpartLemmas.{alike_many}
use Rattle.u_constraints.proofs.NearLemmas.{near_referred}
use Rattle.u_constraints.proofs.references.is_seen.Goals as goal

pub are_found_by_search-requires : goal.are_found_by_search-requires
are_found_by_search-requires c = alike_many c.args.of.now.heading c.args.other.now.heading c.args.here.now c.args.there.now c.requires.alike

pub is_seen_among-requires-clause-there : goal.is_seen_among-requires-clause-there
is_seen_among-requires-clause-there c = subst (λ (h : Heading). AreDifferent h c.args.there.now) (sym c.in_ok-near.ensures.0) c.requires.there

pub is_seen_among-requires-clause-alike : goal.is_seen_among-requires-clause-alike
is_seen_among-requires-clause-alike c =
    subst (λ (h : Heading). AreAlike c.args.of.now.heading c.args.here.now h c.args.there.now) (sym c.in_ok-near.ensures.0) c.requires.alike

pub returns-then-branch : goal.returns-then-branch
returns-then-branch c =
    let commalist = c.args.commalist.now in
    let here = c.args.here.now in
    let there = c.args.there.now in
    let rows = c.args.of.now.rows in
    let same =
    ap (λ (others : List Row). is_referenced commalist here there rows others) c.in_ok-near.ensures.1
    ∙ near_referred c.args.of.now.heading c.args.other.now.heading here there commalist c.requires.alike c.requires.lies c.requires.here.different c.requires.there.different rows c.args.other.now.rows in
    subst (λ z. IfOk c.is_seen_among.result (λ b. b ≡ true → z ≡ true)) same c.is_seen_among.ensures
