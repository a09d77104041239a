use Rattle.std.proofs.Common.{◌≡◌, ◌<◌, List, length, take, map, arith, rules, sym, ◌∙◌, ap, ap₂, None, IsTrue, subst, Ok}
use Rattle.std.specs.List.{filter, list_all}
use Rattle.std.proofs.lemmas.List.Elements.{filter_more}
use Rattle.base_core.specs.Outcomes.{least_of_all}
use Rattle.value_core.specs.Values.{Row, Heading, Relation, fits_heading, rows_of}
use Rattle.value_core.specs.Relations.{all_fit}
use Rattle.relation_core.specs.Answers.{Answers, under}
use Rattle.relation_core.specs.Faults.{fault_of}
use Rattle.relation_core.specs.Operators.{is_true}
use Rattle.point_core.specs.Orders.{fault_order}
use Rattle.relation_core.proofs.FaultLemmas.{least_more, without_fault}
use Rattle.relation_core.proofs.FilterLemmas.{take_all, passes_at, list_all-filter, length-filter_at_most, rows_of-filter, rows_ascend}
use Rattle.relation_core.proofs.restriction.restrict.Goals as goal

abbrev relation_with : Heading → List Row → Relation
relation_with heading rows = record { heading = heading; rows = rows }

pub loop-x-preserved : goal.loop-x-preserved
loop-x-preserved g c =
    let m = g.means c.x-item.result in
    let lt : c.loop-x.x-index < length c.rows-given.result.now = omega arith in
    let fits : IsTrue (fits_heading c.args.r.now.heading c.x-item.result) =
    subst (λ (z : Row). IsTrue (fits_heading c.args.r.now.heading z)) (sym c.x-item.is)
    (passes_at (fits_heading c.args.r.now.heading) c.rows-given.result.now c.loop-x.x-index c.x-item.result
    (subst (λ (r : List Row). IsTrue (list_all (fits_heading c.args.r.now.heading) r)) (sym c.rows-given.ensures.rows) c.rows-given.ensures.relation.fitting) lt) in
    let met : Answers c.f-answer.result m = c.requires.1.1 _ _ fits (search rules) in
    let fault = c.in_ok-take_row.ensures.fault m met in
    let rows = c.in_ok-take_row.ensures.rows m met in
    let e0 = least_more g.means c.rows-given.result.now c.loop-x.x-index c.x-item.result lt in
    let e1 = filter_more (λ (x : Row). is_true (g.means x)) c.rows-given.result.now c.loop-x.x-index c.x-item.result lt in
    let is = c.x-item.is in
    record {
      least = cc (fault, c.loop-x.invariant.least);
      rows = cc (rows, c.loop-x.invariant.rows);
    }

pub of_few-requires-clause-fitting : goal.of_few-requires-clause-fitting
of_few-requires-clause-fitting g c =
    let r = c.args.r.now in
    let p : Row → _ = λ x. is_true (g.means x) in
    let all : c.loop-x.rows.items ≡ filter (λ (x : Row). is_true (g.means x)) c.args.r.now.rows =
    c.loop-x.invariant.rows ∙ ap (filter p) (take_all c.loop-x.x-index c.rows-given.result.now (omega arith) ∙ c.rows-given.ensures.rows) in
    let head : c.in_ok-heading-in-None.heading ≡ c.args.r.now.heading = c.in_ok-heading-in-None.ensures ∙ c.heading.ensures.heading in
    subst (λ h. IsTrue (all_fit h c.loop-x.rows.items)) (sym head)
    (subst (λ (l : List Row). IsTrue (all_fit r.heading l)) (sym all) (list_all-filter (fits_heading r.heading) p r.rows c.rows-given.ensures.relation.fitting))

pub of_few-requires-clause-few : goal.of_few-requires-clause-few
of_few-requires-clause-few g c =
    let p : Row → _ = λ x. is_true (g.means x) in
    let all : c.loop-x.rows.items ≡ filter (λ (x : Row). is_true (g.means x)) c.args.r.now.rows =
    c.loop-x.invariant.rows ∙ ap (filter p) (take_all c.loop-x.x-index c.rows-given.result.now (omega arith) ∙ c.rows-given.ensures.rows) in
    let less = length-filter_at_most p c.args.r.now.rows in
    let few = c.rows-given.ensures.relation.few in
    let same = ap (λ (l : List Row). length l) all in
    omega (arith, less, few, same)

pub returns-in_ok-relation-in-None : goal.returns-in_ok-relation-in-None
returns-in_ok-relation-in-None g c =
    let r = c.args.r.now in
    let p : Row → _ = λ x. is_true (g.means x) in
    let everything : take c.loop-x.x-index c.rows-given.result.now ≡ c.args.r.now.rows = take_all c.loop-x.x-index c.rows-given.result.now (omega arith) ∙ c.rows-given.ensures.rows in
    let all : c.loop-x.rows.items ≡ filter (λ (x : Row). is_true (g.means x)) c.args.r.now.rows = c.loop-x.invariant.rows ∙ ap (filter p) everything in
    let head : c.in_ok-heading-in-None.heading ≡ c.args.r.now.heading = c.in_ok-heading-in-None.ensures ∙ c.heading.ensures.heading in
    let none : fault_of (least_of_all fault_order (map g.means c.args.r.now.rows)) ≡ None =
    ap (λ (l : List Row). fault_of (least_of_all fault_order (map g.means l))) (sym everything) ∙ (sym c.loop-x.invariant.least ∙ c.in-None.is) in
    let given = without_fault (least_of_all fault_order (map g.means r.rows)) (Ok (filter p r.rows)) none in
    let kept : rows_of c.loop-x.rows.items ≡ filter (λ (x : Row). is_true (g.means x)) c.args.r.now.rows =
    ap (λ (l : List Row). rows_of l) all ∙ rows_of-filter p r.rows (rows_ascend r c.rows-given.ensures.relation) in
    let is : c.in_ok-relation-in-None.relation ≡ record { heading = c.args.r.now.heading; rows = filter (λ (x : Row). is_true (g.means x)) c.args.r.now.rows } =
    c.in_ok-relation-in-None.ensures ∙ ap₂ (λ (h : Heading) (l : List Row). relation_with h l) head kept in
    ap (under r.heading) given ∙ ap (λ z. Ok z) (sym is)

pub f-answer-requires : goal.f-answer-requires
f-answer-requires g c =
    let lt : c.loop-x.x-index < length c.rows-given.result.now = omega arith in
    let fits : IsTrue (fits_heading c.args.r.now.heading c.x-item.result) =
    subst (λ (z : Row). IsTrue (fits_heading c.args.r.now.heading z)) (sym c.x-item.is)
    (passes_at (fits_heading c.args.r.now.heading) c.rows-given.result.now c.loop-x.x-index c.x-item.result
    (subst (λ (r : List Row). IsTrue (list_all (fits_heading c.args.r.now.heading) r)) (sym c.rows-given.ensures.rows) c.rows-given.ensures.relation.fitting) lt) in
    let h = c.requires.1.0 in
    h _ fits
