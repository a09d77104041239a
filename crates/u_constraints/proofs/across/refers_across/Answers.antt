use Rattle.std.proofs.Common.{◌≡◌, ◌<◌, ◌≤◌, ℕ, List, length, map, sym, ap, ap₂, ◌∙◌, subst, arith}
use Rattle.std.specs.List.{All}
use Rattle.std.specs.Prelude.{IfOk}
use Rattle.value_core.specs.Values.{Row, Heading}
use Rattle.relation_core.specs.Parts.{projected}
use Rattle.meaning_core.specs.Typing.{IsList}
use Rattle.meaning_core.specs.WellMade.{AreAlike, AreDifferent}
use Rattle.u_constraints.specs.Constraints.{counterpart, is_referenced}
use Rattle.u_constraints.specs.Growth.{exchanged}
use Rattle.u_constraints.specs.Near.{with_keys}
use Rattle.u_constraints.proofs.AcrossLemmas.{across_referred, near_length, reference_cost}
use Rattle.u_constraints.proofs.CounterpartLemmas.{alike_many}
use Rattle.u_constraints.proofs.NearLemmas.{long_keys, near_fewer, own_many, unlisted_within}
use Rattle.u_constraints.proofs.across.refers_across.Goals as goal

pub rest_of_key-requires : goal.rest_of_key-requires
rest_of_key-requires g c =
    alike_many c.args.of.now.heading c.args.change.of.now.heading c.args.reference.here.now c.args.reference.there.now c.requires.alike

pub sorted_parts-requires : goal.sorted_parts-requires
sorted_parts-requires g c =
    let k = c.args.reference in
    let theirs = c.as_slice.ensures.value ∙ c.in_ok-rest.ensures.theirs in
    let within = unlisted_within (length c.args.change.of.now.heading) (map (counterpart k.here.now k.there.now) k.commalist.now) k.there.now c.requires.there.within in
    subst (λ (h : Heading). All (λ (i : ℕ). i < length h) c.as_slice.result.now) (sym c.requires.gone)
    (subst (λ (ps : List ℕ). All (λ (i : ℕ). i < length c.args.change.of.now.heading) ps) (sym theirs) within)

pub rows_with_keys-requires-clause-within : goal.rows_with_keys-requires-clause-within
rows_with_keys-requires-clause-within g c =
    let k = c.args.reference in
    subst (λ (ps : List ℕ). All (λ (i : ℕ). i < length c.args.of.now.heading) ps) (sym (c.as_slice-2.ensures.value ∙ c.in_ok-rest.ensures.own))
    (unlisted_within (length c.args.of.now.heading) k.commalist.now k.here.now c.requires.here.within)

pub rows_with_keys-requires-clause-long : goal.rows_with_keys-requires-clause-long
rows_with_keys-requires-clause-long g c =
    let k = c.args.reference in
    let theirs = c.as_slice.ensures.value ∙ c.in_ok-rest.ensures.theirs in
    let own = c.as_slice-2.ensures.value ∙ c.in_ok-rest.ensures.own in
    let many = own_many c.args.of.now.heading c.args.change.of.now.heading k.here.now k.there.now k.commalist.now c.requires.alike c.requires.lies c.requires.here.different c.requires.there.different in
    long_keys c.as_slice.result.now c.as_slice-2.result.now c.args.change.gone.now.rows c.as_slice-3.result.now
    (ap (λ (ps : List ℕ). length ps) theirs ∙ sym many ∙ sym (ap (λ (ps : List ℕ). length ps) own)) (c.as_slice-3.ensures.value ∙ c.in_ok-keys.ensures.parts)

pub left_near-requires-clause-within : goal.left_near-requires-clause-within
left_near-requires-clause-within g c =
    let k = c.args.reference in
    let theirs = c.as_slice-4.ensures.value ∙ c.in_ok-rest.ensures.theirs in
    subst (λ (ps : List ℕ). All (λ (i : ℕ). i < length c.args.change.of.now.heading) ps) (sym theirs)
    (unlisted_within (length c.args.change.of.now.heading) (map (counterpart k.here.now k.there.now) k.commalist.now) k.there.now c.requires.there.within)

pub left_near-requires-clause-long : goal.left_near-requires-clause-long
left_near-requires-clause-long g c =
    let same : length c.as_slice.result.now ≡ length c.as_slice-4.result.now = ap (λ (ps : List ℕ). length ps) (c.as_slice.ensures.value ∙ sym c.as_slice-4.ensures.value) in
    long_keys c.as_slice.result.now c.as_slice-4.result.now c.args.change.gone.now.rows c.as_slice-5.result.now same (c.as_slice-5.ensures.value ∙ c.in_ok-keys.ensures.parts)

pub refers-requires-clause-list : goal.refers-requires-clause-list
refers-requires-clause-list g c = subst (λ (h : Heading). IsList h c.args.reference.commalist.now) (sym c.in_ok-asked.ensures.rows.0) c.requires.list

pub refers-requires-clause-here : goal.refers-requires-clause-here
refers-requires-clause-here g c = subst (λ (h : Heading). AreDifferent h c.args.reference.here.now) (sym c.in_ok-asked.ensures.rows.0) c.requires.here

pub refers-requires-clause-there : goal.refers-requires-clause-there
refers-requires-clause-there g c = subst (λ (h : Heading). AreDifferent h c.args.reference.there.now) (sym c.in_ok-others.ensures.0) c.requires.there

pub refers-requires-clause-alike : goal.refers-requires-clause-alike
refers-requires-clause-alike g c =
    let k = c.args.reference in
    subst (λ (h : Heading). AreAlike h k.here.now c.in_ok-others.others.heading k.there.now) (sym c.in_ok-asked.ensures.rows.0)
    (subst (λ (h : Heading). AreAlike c.args.of.now.heading k.here.now h k.there.now) (sym c.in_ok-others.ensures.0) c.requires.alike)

pub returns-clause-answer : goal.returns-clause-answer
returns-clause-answer g c =
    let k = c.args.reference in
    let of = c.args.of.now.rows in
    let old = c.args.change.of.now.rows in
    let gone = c.args.change.gone.now.rows in
    let come = c.args.change.come.now.rows in
    let theirs = c.in_ok-rest.ensures.theirs in
    let own = c.in_ok-rest.ensures.own in
    let keys = c.in_ok-keys.ensures.parts ∙ ap (λ (ps : List ℕ). projected ps gone) (c.as_slice.ensures.value ∙ theirs) in
    let asked = c.in_ok-asked.ensures.rows.1 ∙ ap₂ (λ (ps : List ℕ) (ks : List Row). with_keys ps ks of) (c.as_slice-2.ensures.value ∙ own) (c.as_slice-3.ensures.value ∙ keys) in
    let others =
    c.in_ok-others.ensures.1 ∙ ap₂ (λ (ps : List ℕ) (ks : List Row). exchanged (with_keys ps ks old) gone come) (c.as_slice-4.ensures.value ∙ theirs) (c.as_slice-5.ensures.value ∙ keys) in
    let told =
    across_referred c.args.of.now.heading c.args.change.of.now.heading k.here.now k.there.now k.commalist.now c.requires.alike c.requires.lies c.requires.here.different c.requires.there.different of old gone come
    c.requires.held in
    subst (λ b. IfOk c.refers.result (λ kept. kept ≡ b))
    (ap₂ (λ (rs os : List Row). is_referenced k.commalist.now k.here.now k.there.now rs os) asked others ∙ told) c.refers.ensures.answer

pub returns-clause-cost : goal.returns-clause-cost
returns-clause-cost g c name =
    let k = c.args.reference in
    let of = c.args.of.now.rows in
    let old = c.args.change.of.now.rows in
    let gone = c.args.change.gone.now.rows in
    let come = c.args.change.come.now.rows in
    let fewer = near_fewer c.as_slice-2.result.now c.as_slice-3.result.now of c.in_ok-asked.asked.rows c.in_ok-asked.ensures.rows.1 in
    let less : length c.in_ok-others.others.rows ≤ length (exchanged old gone come) =
    subst (λ (rs : List Row). length rs ≤ length (exchanged old gone come)) (sym c.in_ok-others.ensures.1) (near_length c.as_slice-4.result.now c.as_slice-5.result.now old gone come) in
    let grows = reference_cost k.commalist.now k.here.now k.there.now name c.in_ok-asked.asked.rows of c.in_ok-others.others.rows (exchanged old gone come) fewer less in
    let told = c.refers.ensures.cost name in
    omega (arith, grows, told)
