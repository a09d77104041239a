use Rattle.std.proofs.Common.{◌≡◌, List, map, Ok, sym, ap, subst}
use Rattle.base_core.specs.Outcomes.{then_give, first_of_all}
use Rattle.point_core.specs.Faults.{OrFault}
use Rattle.value_core.specs.Values.{Row, Heading, rows_of}
use Rattle.relation_core.specs.Answers.{Answers, under}
use Rattle.tree_core.specs.Trees.{read_sets}
use Rattle.meaning_core.specs.Meanings.{limited}
use Rattle.meaning_core.specs.Rows.{literal_row}
use Rattle.algebra_core.proofs.LiteralLemmas.{tuples_fit}
use Rattle.algebra_core.proofs.literal.literal.Goals as goal

pub relation-requires : goal.relation-requires
relation-requires c =
    let rows = subst (λ (h : Heading). first_of_all (map (literal_row h) (map read_sets c.args.tuples.now)) ≡ Ok c.in_ok-rows.rows.items) c.attributes.ensures.list c.in_ok-rows.ensures in
    tuples_fit c.requires.0 c.args.heading.now (map read_sets c.args.tuples.now) c.in_ok-rows.rows.items c.requires.1 rows

pub returns : goal.returns
returns c =
    let rows = subst (λ (h : Heading). first_of_all (map (literal_row h) (map read_sets c.args.tuples.now)) ≡ Ok c.in_ok-rows.rows.items) c.attributes.ensures.list c.in_ok-rows.ensures in
    let told = c.or_fault_at.ensures c.args.heading.now (rows_of c.in_ok-rows.rows.items) c.relation.ensures in
    subst (λ (m : OrFault (List Row)). Answers c.or_fault_at.result (under c.args.heading.now (then_give m (limited c.args.place))))
    (sym (ap (λ (m : OrFault (List Row)). then_give m (λ given. Ok (rows_of given))) rows)) told
