use Rattle.std.proofs.Common.{◌≡◌, ◌<◌, ℕ, List, length, sym, ap, ◌∙◌, subst}
use Rattle.std.specs.List.{All}
use Rattle.std.specs.Prelude.{IfOk}
use Rattle.base_core.specs.Sets.{is_within}
use Rattle.value_core.specs.Values.{Row, Heading, row_cmp}
use Rattle.relation_core.specs.Parts.{projected}
use Rattle.u_constraints.specs.Near.{with_keys}
use Rattle.u_constraints.proofs.NearLemmas.{long_keys, near_parts}
use Rattle.u_constraints.proofs.keys.are_near.Goals as goal

pub rows_with_keys-requires-clause-long : goal.rows_with_keys-requires-clause-long
rows_with_keys-requires-clause-long c =
    long_keys c.args.here.now c.args.there.now c.args.r.now.rows c.as_slice.result.now c.requires.size (c.as_slice.ensures.value ∙ c.in_ok-keys.ensures.parts)

pub are_sought-requires-clause-there : goal.are_sought-requires-clause-there
are_sought-requires-clause-there c = subst (λ (h : Heading). All (λ (i : ℕ). i < length h) c.args.there.now) (sym c.in_ok-near.ensures.rows.0) c.requires.there

pub returns : goal.returns
returns c =
    let here = c.args.here.now in
    let there = c.args.there.now in
    let rows = c.args.r.now.rows in
    let others = c.args.other.now.rows in
    let keys = c.as_slice.ensures.value ∙ c.in_ok-keys.ensures.parts in
    let same =
    ap (λ (near : List Row). is_within row_cmp (projected here rows) (projected there near)) (c.in_ok-near.ensures.rows.1 ∙ ap (λ (ks : List Row). with_keys there ks others) keys)
    ∙ near_parts here there rows others in
    subst (λ b. IfOk c.are_sought.result (λ kept. kept ≡ b)) same c.are_sought.ensures
