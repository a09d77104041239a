use Rattle.std.proofs.Common.{◌≡◌, ◌<◌, ◌≤◌, ℕ, List, length, take, map, arith, rules, refl, sym, ◌∙◌, ap, Option, IsTrue, subst, Ok}
use Rattle.std.specs.List.{filter}
use Rattle.std.proofs.lemmas.List.{length-map}
use Rattle.base_core.specs.Outcomes.{least_of_all, then_give}
use Rattle.base_core.proofs.SetLemmas.{Contains-from_In}
use Rattle.value_core.specs.Values.{Row, Heading, Relation, fits_heading, rows_of, most_rows}
use Rattle.value_core.specs.Relations.{all_fit}
use Rattle.point_core.specs.Faults.{OrFault}
use Rattle.point_core.specs.declared.fault.Fault.{Fault}
use Rattle.relation_core.specs.Answers.{Answers, under}
use Rattle.relation_core.specs.Faults.{fault_of, values_of}
use Rattle.relation_core.specs.Groups.{group, groups}
use Rattle.relation_core.specs.Keys.{has_key}
use Rattle.point_core.specs.Orders.{fault_order}
use Rattle.relation_core.specs.Parts.{projected}
use Rattle.relation_core.proofs.FaultLemmas.{least_step, values_step, all_values, values_pass, length-values_of, with_fault}
use Rattle.relation_core.proofs.FilterLemmas.{take_all}
use Rattle.relation_core.proofs.GroupLemmas.{found_numbers, a_group, of_groups}
use Rattle.relation_core.proofs.HeadingLemmas.{projected_few}
use Rattle.relation_core.proofs.summary.summarize.Goals as goal

abbrev relation_with : Heading → List Row → Relation
relation_with heading rows = record { heading = heading; rows = rows }

pub loop-key-init : goal.loop-key-init
loop-key-init g c = record { least = refl; rows = c.new-rows.ensures.items }

pub f-answer-requires : goal.f-answer-requires
f-answer-requires g c =
    let keys : c.deref-key-items.result.now ≡ projected c.args.by.now c.args.r.now.rows = c.deref-key-items.ensures.value ∙ c.in_ok-keys.ensures.parts in
    let lt : c.loop-key.key-index < length c.deref-key-items.result.now = omega arith in
    let numbers : c.as_slice-in-loop-key.result.now ≡ group c.args.by.now c.args.r.now.rows c.key-item.result =
    c.as_slice-in-loop-key.ensures.value
    ∙ (c.in_ok-numbers.ensures
    ∙ (ap (λ (zs : List (Row × ℕ)). map (λ (e : Row × ℕ). e.1) (filter (has_key c.key-item.result) zs)) c.as_slice.ensures.value
    ∙ found_numbers c.args.by.now c.args.r.now.rows c.in_ok-index.index.items c.key-item.result c.in_ok-index.ensures.index)) in
    c.requires.1.1.0 _ (a_group c.args.by.now c.args.r.now.rows c.deref-key-items.result.now c.loop-key.key-index c.key-item.result c.as_slice-in-loop-key.result.now keys lt c.key-item.is numbers)

pub loop-key-preserved : goal.loop-key-preserved
loop-key-preserved g c =
    let keys : c.deref-key-items.result.now ≡ projected c.args.by.now c.args.r.now.rows = c.deref-key-items.ensures.value ∙ c.in_ok-keys.ensures.parts in
    let lt : c.loop-key.key-index < length c.deref-key-items.result.now = omega arith in
    let numbers : c.as_slice-in-loop-key.result.now ≡ group c.args.by.now c.args.r.now.rows c.key-item.result =
    c.as_slice-in-loop-key.ensures.value
    ∙ (c.in_ok-numbers.ensures
    ∙ (ap (λ (zs : List (Row × ℕ)). map (λ (e : Row × ℕ). e.1) (filter (has_key c.key-item.result) zs)) c.as_slice.ensures.value
    ∙ found_numbers c.args.by.now c.args.r.now.rows c.in_ok-index.index.items c.key-item.result c.in_ok-index.ensures.index)) in
    let met : Answers c.f-answer.result (g.means c.as_slice-in-loop-key.result.now) =
    c.requires.1.1.1.0 _ _ (a_group c.args.by.now c.args.r.now.rows c.deref-key-items.result.now c.loop-key.key-index c.key-item.result c.as_slice-in-loop-key.result.now keys lt c.key-item.is numbers) (search rules) in
    let met_at : Answers c.f-answer.result (g.means (group c.args.by.now c.args.r.now.rows c.key-item.result)) = subst (λ (z : List ℕ). Answers c.f-answer.result (g.means z)) numbers met in
    record {
      least = least_step (λ k. g.means (group c.args.by.now c.args.r.now.rows k)) c.deref-key-items.result.now c.loop-key.key-index c.key-item.result c.loop-key.least _ lt c.key-item.is
          c.loop-key.invariant.least (c.in_ok-take_given.ensures.fault _ met_at);
      rows = values_step (λ k. g.means (group c.args.by.now c.args.r.now.rows k)) c.deref-key-items.result.now c.loop-key.key-index c.key-item.result c.loop-key.rows.items _ lt c.key-item.is
          c.loop-key.invariant.rows (c.in_ok-take_given.ensures.rows _ met_at);
    }

-- the values of all groups
all_given : (means : List ℕ → OrFault Row) (by : List ℕ) (rows keys : List Row) (i : ℕ) (given : List Row) → length keys ≤ i → keys ≡ projected by rows
    → given ≡ values_of (map (λ k. means (group by rows k)) (take i keys)) → given ≡ values_of (map means (groups by rows))
all_given means by rows keys i given l is e =
    e
    ∙ (ap (λ (ks : List Row). values_of (map (λ k. means (group by rows k)) ks)) (take_all i keys l ∙ is)
    ∙ sym (ap (λ (zs : List (OrFault Row)). values_of zs) (of_groups means by rows)))

all_least : (means : List ℕ → OrFault Row) (by : List ℕ) (rows keys : List Row) (i : ℕ) (least : Option Fault) → length keys ≤ i → keys ≡ projected by rows
    → least ≡ fault_of (least_of_all fault_order (map (λ k. means (group by rows k)) (take i keys))) → least ≡ fault_of (least_of_all fault_order (map means (groups by rows)))
all_least means by rows keys i least l is e =
    e
    ∙ (ap (λ (ks : List Row). fault_of (least_of_all fault_order (map (λ k. means (group by rows k)) ks))) (take_all i keys l ∙ is)
    ∙ sym (ap (λ (zs : List (OrFault Row)). fault_of (least_of_all fault_order zs)) (of_groups means by rows)))

few_given : (means : List ℕ → OrFault Row) (by : List ℕ) (rows given : List Row) → length rows ≤ most_rows → given ≡ values_of (map means (groups by rows)) → length given ≤ most_rows
few_given means by rows given few e =
    let same = ap (λ (l : List Row). length l) e in
    let less = length-values_of (map means (groups by rows)) in
    let many = length-map (groups by rows) means in
    let size = length-map (projected by rows) (group by rows) in
    let parts = projected_few by rows few in
    omega (arith, same, less, many, size, parts)

pub of_few-requires-clause-fitting : goal.of_few-requires-clause-fitting
of_few-requires-clause-fitting g c =
    let keys : c.deref-key-items.result.now ≡ projected c.args.by.now c.args.r.now.rows = c.deref-key-items.ensures.value ∙ c.in_ok-keys.ensures.parts in
    let all : c.loop-key.rows.items ≡ values_of (map g.means (groups c.args.by.now c.args.r.now.rows)) =
    all_given g.means c.args.by.now c.args.r.now.rows c.deref-key-items.result.now c.loop-key.key-index c.loop-key.rows.items (omega arith) keys c.loop-key.invariant.rows in
    subst (λ (l : List Row). IsTrue (all_fit c.args.heading l)) (sym all)
    (values_pass (fits_heading c.args.heading) g.means (groups c.args.by.now c.args.r.now.rows) (λ x i y e. c.requires.1.1.1.1 x y (Contains-from_In (groups c.args.by.now c.args.r.now.rows) x i) e))

pub of_few-requires-clause-few : goal.of_few-requires-clause-few
of_few-requires-clause-few g c =
    let keys : c.deref-key-items.result.now ≡ projected c.args.by.now c.args.r.now.rows = c.deref-key-items.ensures.value ∙ c.in_ok-keys.ensures.parts in
    few_given g.means c.args.by.now c.args.r.now.rows c.loop-key.rows.items c.in_ok-keys.ensures.relation.few
    (all_given g.means c.args.by.now c.args.r.now.rows c.deref-key-items.result.now c.loop-key.key-index c.loop-key.rows.items (omega arith) keys c.loop-key.invariant.rows)

pub returns-in-Some : goal.returns-in-Some
returns-in-Some g c =
    let keys : c.deref-key-items.result.now ≡ projected c.args.by.now c.args.r.now.rows = c.deref-key-items.ensures.value ∙ c.in_ok-keys.ensures.parts in
    let least = all_least g.means c.args.by.now c.args.r.now.rows c.deref-key-items.result.now c.loop-key.key-index c.loop-key.least (omega arith) keys c.loop-key.invariant.least in
    let fault = with_fault (least_of_all fault_order (map g.means (groups c.args.by.now c.args.r.now.rows))) c.in-Some.fault (sym least ∙ c.in-Some.is) in
    ap (λ z. under c.args.heading (then_give z (λ l. Ok (rows_of l)))) fault

pub returns-in_ok-relation-in-None : goal.returns-in_ok-relation-in-None
returns-in_ok-relation-in-None g c =
    let keys : c.deref-key-items.result.now ≡ projected c.args.by.now c.args.r.now.rows = c.deref-key-items.ensures.value ∙ c.in_ok-keys.ensures.parts in
    let all : c.loop-key.rows.items ≡ values_of (map g.means (groups c.args.by.now c.args.r.now.rows)) =
    all_given g.means c.args.by.now c.args.r.now.rows c.deref-key-items.result.now c.loop-key.key-index c.loop-key.rows.items (omega arith) keys c.loop-key.invariant.rows in
    let least = all_least g.means c.args.by.now c.args.r.now.rows c.deref-key-items.result.now c.loop-key.key-index c.loop-key.least (omega arith) keys c.loop-key.invariant.least in
    let given = all_values (map g.means (groups c.args.by.now c.args.r.now.rows)) (sym least ∙ c.in-None.is) in
    let result : OrFault (List Row) → OrFault Relation = λ z. under c.args.heading (then_give z (λ l. Ok (rows_of l))) in
    let is : c.in_ok-relation-in-None.relation ≡ record { heading = c.args.heading; rows = rows_of (values_of (map g.means (groups c.args.by.now c.args.r.now.rows))) } =
    c.in_ok-relation-in-None.ensures ∙ ap (λ (l : List Row). relation_with c.args.heading (rows_of l)) all in
    ap result given ∙ ap (λ z. Ok z) (sym is)
