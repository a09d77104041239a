use Rattle.std.proofs.Common.{◌≡◌, ℕ, List, [], ◌∷◌, map, refl, length, get_or, sym, subst, ◌∙◌, arith}
use Rattle.std.specs.Bool.{IsTrue}
use Rattle.std.proofs.lemmas.Bool.Decides.{nat_tests}
use Rattle.value_core.specs.Relations.{all_fit}
use Rattle.value_core.specs.RowPacking.{packed, unpacked}
use Rattle.value_core.specs.Values.{Heading, Row}
use Rattle.relation_core.specs.Agreement.{part_of}
use Rattle.relation_core.specs.Parts.{projected}
use Rattle.u_set.specs.Boxes.{AreIntervals}
use Rattle.u_set.proofs.CoalescingLemmas.{given, answer_moved}
use Rattle.u_set.proofs.KeptLemmas.{one_intervals}
use Rattle.u_row.specs.Kept.{beneath}
use Rattle.u_row.proofs.PartLemmas.{projected_given, parts_fit}
use Rattle.u_row.proofs.projection.projected_on_one.Goals as goal

pub coalesced-requires-clause-interval : goal.coalesced-requires-clause-interval
coalesced-requires-clause-interval c =
    let one : length c.args.commalist.now ≡ 1 = grind (arith, nat_tests) in
    subst (λ (h : Heading). AreIntervals h (get_or c.args.commalist.now 0 0 ∷ [])) (sym c.in_ok-whole.ensures) (one_intervals c.args.heading.now c.args.commalist.now (get_or c.args.commalist.now 0 0) one refl c.requires.intervals)

pub coalesced-requires-clause-fit : goal.coalesced-requires-clause-fit
coalesced-requires-clause-fit c =
    let fits = parts_fit c.args.heading.now c.args.r.now c.args.kept.now c.requires.within c.requires.heading c.in_ok-parts.ensures.relation in
    subst (λ (T : Type 0). T) (λ t. IsTrue (all_fit (sym c.in_ok-whole.ensures t) (sym c.in_ok-parts.ensures.parts t))) fits

pub returns : goal.returns
returns c =
    let heading = c.args.heading.now in
    let r = c.args.r.now in
    let commalist = c.args.commalist.now in
    let kept = c.args.kept.now in
    let one : length c.args.commalist.now ≡ 1 = grind (arith, nat_tests) in
    let i : ℕ = get_or commalist 0 0 in
    let same : c.in_ok-whole.whole ≡ c.args.heading.now = c.in_ok-whole.ensures in
    let items : c.in_ok-parts.parts.items ≡ map (part_of kept) r.rows = c.in_ok-parts.ensures.parts in
    let lists : given c.in_ok-whole.whole i c.in_ok-parts.parts.items ≡ given heading i (map (part_of kept) r.rows) = λ t. given (same t) i (items t) in
    let rows : List Row = packed commalist (projected kept (unpacked (beneath kept commalist) r.rows)) in
    let are : given c.in_ok-whole.whole i c.in_ok-parts.parts.items ≡ packed commalist (projected kept (unpacked (beneath kept commalist) r.rows)) =
    lists ∙ projected_given heading r kept commalist i c.requires.ascending c.requires.within c.requires.heading c.requires.intervals c.in_ok-parts.ensures.relation one refl in
    answer_moved c.in_ok-whole.whole heading (given c.in_ok-whole.whole i c.in_ok-parts.parts.items) rows same are c.coalesced.result c.coalesced.ensures.answer
