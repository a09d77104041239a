use Rattle.std.proofs.Common.{◌≡◌, ◌↔◌, ◌∷◌, [], ℕ, ℤ, List, length, map, get_or, refl, arith, ap, sym, ◌∙◌, subst}
use Rattle.std.proofs.lemmas.Bool.Decides.{nat_tests}
use Rattle.point_core.specs.Faults.{OrFault}
use Rattle.cell_packing.specs.Boxed.{InBoxes}
use Rattle.value_core.specs.RowPacking.{packed}
use Rattle.value_core.specs.Values.{Row, Heading}
use Rattle.scalar_core.specs.Expressions.{read}
use Rattle.point_core.specs.LeastFault.{IsLeast}
use Rattle.relation_core.specs.Answers.{under}
use Rattle.u_set.specs.Boxes.{AreIntervals, boxed, spans_at}
use Rattle.u_set.proofs.CoalescingLemmas.{given, answer_moved}
use Rattle.u_set.proofs.KeptLemmas.{one_listed, one_intervals}
use Rattle.u_row.specs.Rules.{InRule, HasRuleFault}
use Rattle.eval_using.specs.Answered.{AnswersIf}
use Rattle.eval_using.specs.Swept.{met, swept_rows}
use Rattle.eval_using.proofs.LeftLemmas.{left_given}
use Rattle.eval_using.proofs.RestrictionLemmas.{holding, holding_meant, fault_meant}
use Rattle.eval_using.proofs.in_place.restricted_by_rows.Goals as goal

pub returns-in-Some : goal.returns-in-Some
returns-in-Some c =
    let r = c.args.r.now in
    let commalist = c.args.commalist.now in
    let m = met (read c.args.c.now) in
    let one : length commalist ≡ 1 = grind (arith, nat_tests) in
    let back : get_or commalist 0 0 ∷ [] ≡ commalist = one_listed commalist (get_or commalist 0 0) one refl in
    let least = subst (λ (w : List ℕ × List Row). IsLeast (HasRuleFault (swept_rows w.0 w.0 m w.1) (map (spans_at w.0) w.1)) c.in_ok-rows.least) (λ t. (back t, c.rows.ensures.rows t)) c.in_ok-rows.ensures.least in
    let here = subst (IsLeast (HasRuleFault (swept_rows commalist commalist m r.rows) (map (spans_at commalist) r.rows))) c.in-Some.is least in
    ap (under r.heading) (fault_meant r c.heading.ensures.relation commalist c.requires.intervals (read c.args.c.now) c.args.place c.in-Some.fault here)

pub coalesced-requires-clause-interval : goal.coalesced-requires-clause-interval
coalesced-requires-clause-interval c =
    let r = c.args.r.now in
    let commalist = c.args.commalist.now in
    let one : length commalist ≡ 1 = grind (arith, nat_tests) in
    let same : c.in_ok-heading.heading ≡ r.heading = c.in_ok-heading.ensures ∙ c.heading.ensures.heading in
    subst (λ (h : Heading). AreIntervals h (get_or commalist 0 0 ∷ [])) (sym same) (one_intervals r.heading commalist (get_or commalist 0 0) one refl c.requires.intervals)

pub or_fault_if-requires : goal.or_fault_if-requires
or_fault_if-requires c = (c.in_ok-heading.heading, given c.in_ok-heading.heading (get_or c.args.commalist.now 0 0) c.in_ok-rows.rows.items, c.coalesced.ensures.answer)

pub returns-in-None : goal.returns-in-None
returns-in-None c =
    let r = c.args.r.now in
    let is = c.heading.ensures.relation in
    let commalist = c.args.commalist.now in
    let e = read c.args.c.now in
    let m = met e in
    let at = get_or commalist 0 0 in
    let items = c.in_ok-rows.rows.items in
    let same : c.in_ok-heading.heading ≡ r.heading = c.in_ok-heading.ensures ∙ c.heading.ensures.heading in
    let one : length commalist ≡ 1 = grind (arith, nat_tests) in
    let back : at ∷ [] ≡ commalist = one_listed commalist at one refl in
    let places = subst (λ (w : List ℕ × List Row). (l : Row) (place : List ℤ) → InBoxes (map (boxed w.0) items) l place ↔ InRule (swept_rows w.0 w.0 m w.1) (map (spans_at w.0) w.1) l place) (λ t. (back t, c.rows.ensures.rows t)) c.in_ok-rows.ensures.places in
    let least = subst (λ (w : List ℕ × List Row). IsLeast (HasRuleFault (swept_rows w.0 w.0 m w.1) (map (spans_at w.0) w.1)) c.in_ok-rows.least) (λ t. (back t, c.rows.ensures.rows t)) c.in_ok-rows.ensures.least in
    let none = subst (IsLeast (HasRuleFault (swept_rows commalist commalist m r.rows) (map (spans_at commalist) r.rows))) c.in-None.is least in
    let rows = packed commalist (holding r is commalist c.requires.intervals e) in
    let are : given c.in_ok-heading.heading at items ≡ rows = ap (λ (h : Heading). given h at items) same ∙ left_given r is commalist c.requires.intervals e at back items places in
    let answered = answer_moved c.in_ok-heading.heading r.heading (given c.in_ok-heading.heading at items) rows same are c.coalesced.result c.coalesced.ensures.answer in
    subst (λ (o : OrFault (List Row)). AnswersIf c.or_fault_if.result (under r.heading o)) (holding_meant r is commalist c.requires.intervals e c.args.place none)
    (c.or_fault_if.ensures r.heading rows answered)
