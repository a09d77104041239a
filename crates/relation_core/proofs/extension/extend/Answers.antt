use Rattle.std.proofs.Common.{◌≡◌, ◌<◌, List, length, take, map, arith, rules, sym, ◌∙◌, ap, None, IsTrue, subst, Ok}
use Rattle.std.specs.List.{list_all}
use Rattle.std.proofs.lemmas.List.{length-map}
use Rattle.base_core.specs.Outcomes.{least_of_all, then_give}
use Rattle.base_core.proofs.MemberLemmas.{list_all-In}
use Rattle.value_core.specs.Values.{Row, Heading, Relation, fits_heading, rows_of}
use Rattle.value_core.specs.Relations.{all_fit}
use Rattle.point_core.specs.Faults.{OrFault}
use Rattle.relation_core.specs.Answers.{Answers, under}
use Rattle.relation_core.specs.Faults.{fault_of, values_of}
use Rattle.point_core.specs.Orders.{fault_order}
use Rattle.relation_core.proofs.FaultLemmas.{least_more, values_more, all_values, values_pass, length-values_of}
use Rattle.relation_core.proofs.FilterLemmas.{take_all, passes_at}
use Rattle.relation_core.proofs.extension.extend.Goals as goal

abbrev relation_with : Heading → List Row → Relation
relation_with heading rows = record { heading = heading; rows = rows }

pub f-answer-requires : goal.f-answer-requires
f-answer-requires g c =
    let lt : c.loop-x.x-index < length c.rows-given.result.now = omega arith in
    let fits : IsTrue (fits_heading c.args.r.now.heading c.x-item.result) =
    subst (λ (z : Row). IsTrue (fits_heading c.args.r.now.heading z)) (sym c.x-item.is)
    (passes_at (fits_heading c.args.r.now.heading) c.rows-given.result.now c.loop-x.x-index c.x-item.result
    (subst (λ (r : List Row). IsTrue (list_all (fits_heading c.args.r.now.heading) r)) (sym c.rows-given.ensures.rows) c.rows-given.ensures.relation.fitting) lt) in
    c.requires.1.0 _ fits

pub loop-x-preserved : goal.loop-x-preserved
loop-x-preserved g c =
    let m = g.means c.x-item.result in
    let lt : c.loop-x.x-index < length c.rows-given.result.now = omega arith in
    let fits : IsTrue (fits_heading c.args.r.now.heading c.x-item.result) =
    subst (λ (z : Row). IsTrue (fits_heading c.args.r.now.heading z)) (sym c.x-item.is)
    (passes_at (fits_heading c.args.r.now.heading) c.rows-given.result.now c.loop-x.x-index c.x-item.result
    (subst (λ (r : List Row). IsTrue (list_all (fits_heading c.args.r.now.heading) r)) (sym c.rows-given.ensures.rows) c.rows-given.ensures.relation.fitting) lt) in
    let met : Answers c.f-answer.result m = c.requires.1.1.0 _ _ fits (search rules) in
    let fault = c.in_ok-take_given.ensures.fault m met in
    let rows = c.in_ok-take_given.ensures.rows m met in
    let e0 = least_more g.means c.rows-given.result.now c.loop-x.x-index c.x-item.result lt in
    let e1 = values_more g.means c.rows-given.result.now c.loop-x.x-index c.x-item.result lt in
    let is = c.x-item.is in
    record {
      least = cc (fault, c.loop-x.invariant.least);
      rows = cc (rows, c.loop-x.invariant.rows);
    }

pub of_few-requires-clause-fitting : goal.of_few-requires-clause-fitting
of_few-requires-clause-fitting g c =
    let r = c.args.r.now in
    let all : c.loop-x.rows.items ≡ values_of (map g.means c.args.r.now.rows) =
    c.loop-x.invariant.rows ∙ ap (λ (l : List Row). values_of (map g.means l)) (take_all c.loop-x.x-index c.rows-given.result.now (omega arith) ∙ c.rows-given.ensures.rows) in
    subst (λ (l : List Row). IsTrue (all_fit c.args.heading l)) (sym all)
    (values_pass (fits_heading c.args.heading) g.means r.rows (λ x i y e. c.requires.1.1.1 x y ((list_all-In (fits_heading r.heading) r.rows).0 c.rows-given.ensures.relation.fitting x i) e))

pub of_few-requires-clause-few : goal.of_few-requires-clause-few
of_few-requires-clause-few g c =
    let all : c.loop-x.rows.items ≡ values_of (map g.means c.args.r.now.rows) =
    c.loop-x.invariant.rows ∙ ap (λ (l : List Row). values_of (map g.means l)) (take_all c.loop-x.x-index c.rows-given.result.now (omega arith) ∙ c.rows-given.ensures.rows) in
    let less = length-values_of (map g.means c.args.r.now.rows) in
    let many = length-map c.args.r.now.rows g.means in
    let few = c.rows-given.ensures.relation.few in
    let same = ap (λ (l : List Row). length l) all in
    omega (arith, less, few, same, many)

pub returns-in_ok-relation-in-None : goal.returns-in_ok-relation-in-None
returns-in_ok-relation-in-None g c =
    let r = c.args.r.now in
    let everything : take c.loop-x.x-index c.rows-given.result.now ≡ c.args.r.now.rows = take_all c.loop-x.x-index c.rows-given.result.now (omega arith) ∙ c.rows-given.ensures.rows in
    let all : c.loop-x.rows.items ≡ values_of (map g.means c.args.r.now.rows) = c.loop-x.invariant.rows ∙ ap (λ (l : List Row). values_of (map g.means l)) everything in
    let none : fault_of (least_of_all fault_order (map g.means c.args.r.now.rows)) ≡ None =
    ap (λ (l : List Row). fault_of (least_of_all fault_order (map g.means l))) (sym everything) ∙ (sym c.loop-x.invariant.least ∙ c.in-None.is) in
    let given = all_values (map g.means r.rows) none in
    let result : OrFault (List Row) → OrFault Relation = λ z. under c.args.heading (then_give z (λ l. Ok (rows_of l))) in
    let is : c.in_ok-relation-in-None.relation ≡ record { heading = c.args.heading; rows = rows_of (values_of (map g.means c.args.r.now.rows)) } =
    c.in_ok-relation-in-None.ensures ∙ ap (λ (l : List Row). relation_with c.args.heading (rows_of l)) all in
    ap result given ∙ ap (λ z. Ok z) (sym is)
