use Rattle.std.proofs.Common.{◌≡◌, true, get_or, ℕ, List, length, map, refl, sym, ap, ◌∙◌}
use Rattle.std.specs.List.{All}
use Rattle.relation_core.specs.Agreement.{part_of}
use Rattle.relation_core.proofs.FilterLemmas.{rows_ascend}
use Rattle.meaning_core.proofs.IntervalLemmas.{intervals_of_list}
use Rattle.u_set.specs.Apart.{span_in}
use Rattle.u_set.proofs.ApartLemmas.{if_ok}
use Rattle.u_set.proofs.KeptLemmas.{one_intervals}
use Rattle.u_set.proofs.RelationLemmas.{relation_shaped}
use Rattle.u_constraints.specs.Constraints.{counterpart, is_referenced}
use Rattle.u_constraints.specs.Covers.{IsCovered}
use Rattle.u_constraints.proofs.CounterpartLemmas.{alike_many}
use Rattle.u_constraints.proofs.CoverLemmas.{covered_referred, interval_there}
use Rattle.u_constraints.proofs.IntervalLemmas.{intervals_there}
use Rattle.u_constraints.proofs.NearLemmas.{own_many}
use Rattle.u_constraints.proofs.references.is_seen_among.Goals as goal

pub rest_of_key-requires : goal.rest_of_key-requires
rest_of_key-requires c = alike_many c.args.of.now.heading c.args.other.now.heading c.args.here.now c.args.there.now c.requires.alike

pub counterpart-requires : goal.counterpart-requires
counterpart-requires c = alike_many c.args.of.now.heading c.args.other.now.heading c.args.here.now c.args.there.now c.requires.alike

pub are_covered-requires-clause-own : goal.are_covered-requires-clause-own
are_covered-requires-clause-own c =
    one_intervals c.args.of.now.heading c.args.commalist.now _ c.requires.one refl (intervals_of_list c.args.of.now.heading c.args.commalist.now c.requires.list)

pub are_covered-requires-clause-theirs : goal.are_covered-requires-clause-theirs
are_covered-requires-clause-theirs c =
    let h = c.args.of.now.heading in
    let g = c.args.other.now.heading in
    let commalist = c.args.commalist.now in
    interval_there g c.args.here.now c.args.there.now commalist _ _ c.requires.one refl c.counterpart.ensures
    (intervals_there h g c.args.here.now c.args.there.now commalist c.requires.alike c.requires.lies c.requires.here c.requires.there (intervals_of_list h commalist c.requires.list))

pub are_covered-requires-clause-many : goal.are_covered-requires-clause-many
are_covered-requires-clause-many c =
    let theirs = c.as_slice-2.ensures.value ∙ c.in_ok-rest.ensures.theirs in
    let own = c.as_slice.ensures.value ∙ c.in_ok-rest.ensures.own in
    ap (λ (ps : List ℕ). length ps) own
    ∙ own_many c.args.of.now.heading c.args.other.now.heading c.args.here.now c.args.there.now c.args.commalist.now c.requires.alike c.requires.lies c.requires.here.different c.requires.there.different
    ∙ sym (ap (λ (ps : List ℕ). length ps) theirs)

pub returns : goal.returns
returns c =
    let r = c.args.of.now in
    let s = c.args.other.now in
    let commalist = c.args.commalist.now in
    let here = c.args.here.now in
    let there = c.args.there.now in
    let is = c.are_covered.ensures.relations in
    let own = intervals_of_list r.heading commalist c.requires.list in
    let other = intervals_there r.heading s.heading here there commalist c.requires.alike c.requires.lies c.requires.here c.requires.there own in
    if_ok (λ b. b ≡ true → All (λ x. IsCovered c.as_slice-2.result.now c.counterpart.result s.rows (part_of c.as_slice.result.now x) (span_in (get_or commalist 0 0) x)) r.rows)
    (λ b. b ≡ true → is_referenced commalist here there r.rows s.rows ≡ true)
    (λ b h t.
    covered_referred r.heading s.heading here there commalist c.requires.alike c.requires.lies c.requires.here.different c.requires.there.different own other r.rows s.rows
    (rows_ascend r is.0) (rows_ascend s is.1) (relation_shaped r is.0 commalist own) (relation_shaped s is.1 (map (counterpart here there) commalist) other) _ _ c.requires.one refl c.counterpart.ensures
    c.as_slice.result.now c.as_slice-2.result.now (c.as_slice.ensures.value ∙ c.in_ok-rest.ensures.own) (c.as_slice-2.ensures.value ∙ c.in_ok-rest.ensures.theirs) (h t))
    c.are_covered.result c.are_covered.ensures.covered
