use Rattle.std.proofs.Common.{◌≡◌, ◌<◌, ℕ, List, length, map, sym, ap, ap₂, ◌∙◌, subst}
use Rattle.std.specs.List.{All}
use Rattle.std.specs.Prelude.{IfOk}
use Rattle.value_core.specs.Values.{Row}
use Rattle.relation_core.specs.Parts.{projected}
use Rattle.u_constraints.specs.Constraints.{counterpart}
use Rattle.u_constraints.specs.Near.{with_keys}
use Rattle.u_constraints.proofs.CounterpartLemmas.{alike_many}
use Rattle.u_constraints.proofs.NearLemmas.{long_keys, own_many, unlisted_within}
use Rattle.u_constraints.proofs.references.rows_near.Goals as goal

pub rest_of_key-requires : goal.rest_of_key-requires
rest_of_key-requires c = alike_many c.args.of.now.heading c.args.other.now.heading c.args.here.now c.args.there.now c.requires.alike

pub sorted_parts-requires : goal.sorted_parts-requires
sorted_parts-requires c =
    subst (λ (ps : List ℕ). All (λ (i : ℕ). i < length c.args.of.now.heading) ps) (sym (c.as_slice.ensures.value ∙ c.in_ok-rest.ensures.own))
    (unlisted_within (length c.args.of.now.heading) c.args.commalist.now c.args.here.now c.requires.here.within)

pub rows_with_keys-requires-clause-within : goal.rows_with_keys-requires-clause-within
rows_with_keys-requires-clause-within c =
    let theirs = c.as_slice-2.ensures.value ∙ c.in_ok-rest.ensures.theirs in
    let many = length c.args.other.now.heading in
    subst (λ (ps : List ℕ). All (λ (i : ℕ). i < many) ps) (sym theirs)
    (unlisted_within many (map (counterpart c.args.here.now c.args.there.now) c.args.commalist.now) c.args.there.now c.requires.there.within)

pub rows_with_keys-requires-clause-long : goal.rows_with_keys-requires-clause-long
rows_with_keys-requires-clause-long c =
    let theirs = c.as_slice-2.ensures.value ∙ c.in_ok-rest.ensures.theirs in
    let own = c.as_slice.ensures.value ∙ c.in_ok-rest.ensures.own in
    let many =
    own_many c.args.of.now.heading c.args.other.now.heading c.args.here.now c.args.there.now c.args.commalist.now c.requires.alike c.requires.lies c.requires.here.different c.requires.there.different in
    long_keys c.as_slice.result.now c.as_slice-2.result.now c.args.of.now.rows c.as_slice-3.result.now
    (ap (λ (ps : List ℕ). length ps) own ∙ many ∙ sym (ap (λ (ps : List ℕ). length ps) theirs)) (c.as_slice-3.ensures.value ∙ c.in_ok-keys.ensures.parts)

pub returns : goal.returns
returns c =
    let theirs = c.as_slice-2.ensures.value ∙ c.in_ok-rest.ensures.theirs in
    let own = c.as_slice.ensures.value ∙ c.in_ok-rest.ensures.own in
    let keys = c.as_slice-3.ensures.value ∙ (c.in_ok-keys.ensures.parts ∙ ap (λ (ps : List ℕ). projected ps c.args.of.now.rows) own) in
    subst (λ rows. IfOk c.rows_with_keys.result (λ r. (r.heading ≡ c.args.other.now.heading) × (r.rows ≡ rows)))
    (ap₂ (λ (ps : List ℕ) (ks : List Row). with_keys ps ks c.args.other.now.rows) theirs keys) c.rows_with_keys.ensures.rows
