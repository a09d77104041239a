use Rattle.std.proofs.Common.{◌≡◌, sym, ap, ◌∙◌, arith, w64, to_z, of_z}
use Rattle.std.proofs.lemmas.Int.{ints, to_z-of_z}
use Rattle.interval_core.specs.Members.{Span}
use Rattle.value_core.specs.Attributes.{span_of}
use Rattle.relation_core.specs.Agreement.{part_of}
use Rattle.u_set.proofs.ApartLemmas.{value_there}
use Rattle.u_join.proofs.StandingLemmas.{stood_by_ends}
use Rattle.u_join.proofs.standing.with_ends.Goals as goal

pub returns : goal.returns
returns c =
    let is = value_there c.args.at c.values-values.result.now c.args.row.now c.index-values-at.result c.values-values.ensures c.requires c.index-values-at.is in
    let ends = c.ends_of-begin.ensures ∙ c.interval_of-interval.ensures.numbers ∙ ap span_of (sym is) in
    let begin : to_z w64 (of_z w64 c.ends_of-begin.result.0) ≡ c.ends_of-begin.result.0 = grind (arith, ints, to_z-of_z) in
    let end : to_z w64 (of_z w64 c.ends_of-begin.result.1) ≡ c.ends_of-begin.result.1 = grind (arith, ints, to_z-of_z) in
    stood_by_ends c.args.row.now (part_of c.args.key.now c.args.row.now) _ _ (begin ∙ ap (λ (s : Span). s.0) ends) (end ∙ ap (λ (s : Span). s.1) ends)
