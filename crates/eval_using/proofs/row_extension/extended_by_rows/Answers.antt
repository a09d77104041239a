use Rattle.std.proofs.Common.{◌≡◌, ◌↔◌, ◌∷◌, [], ℕ, ℤ, List, length, map, get_or, refl, arith, ap, sym, ◌∙◌, subst}
use Rattle.std.specs.Bool.{IsTrue}
use Rattle.std.specs.List.{All}
use Rattle.std.proofs.lemmas.Bool.Decides.{nat_tests}
use Rattle.point_core.specs.Faults.{OrFault}
use Rattle.point_core.specs.LeastFault.{IsLeast}
use Rattle.cell_packing.specs.Boxed.{InBoxes}
use Rattle.value_core.specs.Relations.{all_fit}
use Rattle.value_core.specs.RowPacking.{packed}
use Rattle.value_core.specs.Values.{Row, Heading, rows_of}
use Rattle.relation_core.specs.Answers.{under}
use Rattle.relation_core.specs.Parts.{kind_at}
use Rattle.tree_core.specs.Trees.{read_sets}
use Rattle.u_set.specs.Boxes.{AreIntervals, boxed, spans_at, type_of}
use Rattle.u_set.proofs.CoalescingLemmas.{given, answer_moved}
use Rattle.u_set.proofs.KeptLemmas.{one_listed}
use Rattle.u_row.specs.Rules.{InRule, HasRuleFault}
use Rattle.eval_using.specs.Answered.{AnswersIf}
use Rattle.eval_using.specs.Extended.{made_of, CanMake}
use Rattle.eval_using.specs.Swept.{swept_rows}
use Rattle.eval_using.proofs.MadeRowLemmas.{on_one, all_make, made_rows, made_given, made_meant, fault_meant}
use Rattle.eval_using.proofs.row_extension.extended_by_rows.Goals as goal

pub rows_made-requires : goal.rows_made-requires
rows_made-requires c =
    let r = c.args.r.now in
    let i = c.args.items in
    let one : length i.commalist.now ≡ 1 = grind (arith, nat_tests) in
    let all = all_make r c.rows.ensures.relation c.args.heading.now i.commalist.now i.to.now (read_sets i.sets.now) i.places.now c.requires one in
    let type : c.type_at-t.result ≡ type_of (kind_at r.heading (get_or i.commalist.now 0 0)) = c.type_at-t.ensures ∙ ap (λ (h : Heading). type_of (kind_at h (get_or i.commalist.now 0 0))) (c.attributes.ensures.list ∙ c.heading.ensures.heading) in
    record { can = (r.heading, c.args.heading.now, subst (All (CanMake r.heading c.args.heading.now (get_or i.commalist.now 0 0) (get_or i.to.now 0 0) (read_sets i.sets.now) i.places.now)) (sym c.rows.ensures.rows) all, type) }

pub coalesced-requires-clause-interval : goal.coalesced-requires-clause-interval
coalesced-requires-clause-interval c =
    let r = c.args.r.now in
    let i = c.args.items in
    let one : length i.commalist.now ≡ 1 = grind (arith, nat_tests) in
    let items = on_one r c.rows.ensures.relation c.args.heading.now i.commalist.now i.to.now (read_sets i.sets.now) i.places.now c.requires one in
    subst (λ (h : Heading). AreIntervals h (get_or i.to.now 0 0 ∷ [])) (sym c.in_ok-whole.ensures) items.there

pub coalesced-requires-clause-fit : goal.coalesced-requires-clause-fit
coalesced-requires-clause-fit c =
    let r = c.args.r.now in
    let i = c.args.items in
    let one : length i.commalist.now ≡ 1 = grind (arith, nat_tests) in
    let all = all_make r c.rows.ensures.relation c.args.heading.now i.commalist.now i.to.now (read_sets i.sets.now) i.places.now c.requires one in
    let type : c.type_at-t.result ≡ type_of (kind_at r.heading (get_or i.commalist.now 0 0)) = c.type_at-t.ensures ∙ ap (λ (h : Heading). type_of (kind_at h (get_or i.commalist.now 0 0))) (c.attributes.ensures.list ∙ c.heading.ensures.heading) in
    let here = subst (All (CanMake r.heading c.args.heading.now (get_or i.commalist.now 0 0) (get_or i.to.now 0 0) (read_sets i.sets.now) i.places.now)) (sym c.rows.ensures.rows) all in
    subst (λ (h : Heading). IsTrue (all_fit h c.in_ok-rows.rows.items)) (sym c.in_ok-whole.ensures) (c.in_ok-rows.ensures.fits r.heading c.args.heading.now here type)

pub or_fault_if-requires : goal.or_fault_if-requires
or_fault_if-requires c = (c.in_ok-whole.whole, given c.in_ok-whole.whole (get_or c.args.items.to.now 0 0) c.in_ok-rows.rows.items, c.coalesced.ensures.answer)

pub returns-in-Some : goal.returns-in-Some
returns-in-Some c =
    let r = c.args.r.now in
    let i = c.args.items in
    let commalist = i.commalist.now in
    let to = i.to.now in
    let sets = read_sets i.sets.now in
    let m = made_of i.places.now sets in
    let one : length commalist ≡ 1 = grind (arith, nat_tests) in
    let back : get_or commalist 0 0 ∷ [] ≡ commalist = one_listed commalist (get_or commalist 0 0) one refl in
    let back' : get_or to 0 0 ∷ [] ≡ to = one_listed to (get_or to 0 0) (c.requires.count ∙ one) refl in
    let least = subst (λ (w : List ℕ × List ℕ × List Row). IsLeast (HasRuleFault (swept_rows w.0 w.1 m w.2) (map (spans_at w.0) w.2)) c.in_ok-rows.least) (λ t. (back t, back' t, c.rows.ensures.rows t)) c.in_ok-rows.ensures.least in
    let here = subst (IsLeast (HasRuleFault (swept_rows commalist to m r.rows) (map (spans_at commalist) r.rows))) c.in-Some.is least in
    ap (under c.args.heading.now) (fault_meant r c.rows.ensures.relation c.args.heading.now commalist to sets i.places.now c.requires c.args.place c.in-Some.fault here)

pub returns-in-None : goal.returns-in-None
returns-in-None c =
    let r = c.args.r.now in
    let is = c.rows.ensures.relation in
    let heading = c.args.heading.now in
    let i = c.args.items in
    let commalist = i.commalist.now in
    let to = i.to.now in
    let sets = read_sets i.sets.now in
    let at = i.places.now in
    let m = made_of at sets in
    let position = get_or to 0 0 in
    let items = c.in_ok-rows.rows.items in
    let one : length commalist ≡ 1 = grind (arith, nat_tests) in
    let back : get_or commalist 0 0 ∷ [] ≡ commalist = one_listed commalist (get_or commalist 0 0) one refl in
    let back' : position ∷ [] ≡ to = one_listed to position (c.requires.count ∙ one) refl in
    let least = subst (λ (w : List ℕ × List ℕ × List Row). IsLeast (HasRuleFault (swept_rows w.0 w.1 m w.2) (map (spans_at w.0) w.2)) c.in_ok-rows.least) (λ t. (back t, back' t, c.rows.ensures.rows t)) c.in_ok-rows.ensures.least in
    let places = subst (λ (w : List ℕ × List ℕ × List Row). (l : Row) (place : List ℤ) → InBoxes (map (boxed w.1) items) l place ↔ InRule (swept_rows w.0 w.1 m w.2) (map (spans_at w.0) w.2) l place) (λ t. (back t, back' t, c.rows.ensures.rows t)) c.in_ok-rows.ensures.places in
    let none = subst (IsLeast (HasRuleFault (swept_rows commalist to m r.rows) (map (spans_at commalist) r.rows))) c.in-None.is least in
    let w = made_rows r is heading commalist to sets at c.requires none in
    let rows = packed to (rows_of w.0) in
    let are : given c.in_ok-whole.whole position items ≡ rows = ap (λ (h : Heading). given h position items) c.in_ok-whole.ensures ∙ made_given r is heading commalist to sets at c.requires w.0 w.1 position back' items places in
    let answered = answer_moved c.in_ok-whole.whole heading (given c.in_ok-whole.whole position items) rows c.in_ok-whole.ensures are c.coalesced.result c.coalesced.ensures.answer in
    subst (λ (o : OrFault (List Row)). AnswersIf c.or_fault_if.result (under heading o)) (made_meant r is heading commalist to sets at c.requires w.0 w.1 c.args.place)
    (c.or_fault_if.ensures heading rows answered)
