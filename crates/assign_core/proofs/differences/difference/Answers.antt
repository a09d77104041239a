use Rattle.std.proofs.Common.{ap, ◌∙◌}
use Rattle.value_core.specs.Values.{Relation}
use Rattle.assign_core.proofs.DifferenceLemmas.{difference_is}
use Rattle.assign_core.proofs.differences.difference.Goals as goal

pub returns : goal.returns
returns c =
    let old = c.args.only.old.now in
    let new = c.args.only.new.now in
    let came = c.in_ok-come.ensures.rows in
    let went = c.in_ok-gone.ensures.rows in
    record {
      come = ap (λ (r : Relation). r.heading) came ∙ c.requires;
      gone = ap (λ (r : Relation). r.heading) went;
      is = difference_is old new c.in_ok-come.come c.in_ok-gone.gone c.rest.ensures.relation c.requires came went;
    }
