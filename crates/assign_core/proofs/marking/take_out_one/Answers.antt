use Rattle.std.proofs.Common.{◌≡◌, ◌<◌, ◌≤◌, length, List, Err, Equal, subst, ◌∙◌}
use Rattle.std.specs.List.{HoldsAt}
use Rattle.std.specs.List.Sorted.{IsBinarySearchResult}
use Rattle.value_core.specs.Values.{Row, row_cmp}
use Rattle.row_removal.proofs.RemovalLemmas.{taken_found, taken_missing}
use Rattle.assign_core.proofs.marking.take_out_one.Goals as goal

pub returns-in-Ok-clause-rows : goal.returns-in-Ok-clause-rows
returns-in-Ok-clause-rows g c =
    let rows = c.args.rows.now.items in
    let i = c.in-Ok.at in
    let within : i < length rows = subst (λ (r : List Row). i < length r) c.deref.ensures.value c.in-Ok.ensures.bound in
    let found : HoldsAt (λ y. row_cmp y c.args.row.now ≡ Equal) rows i = subst (λ (r : List Row). HoldsAt (λ y. row_cmp y c.args.row.now ≡ Equal) r i) c.deref.ensures.value c.in-Ok.ensures.position in
    c.remove.ensures.items ∙ taken_found rows c.args.row.now i c.requires.0 within found

pub returns-in-Err-clause-rows : goal.returns-in-Err-clause-rows
returns-in-Err-clause-rows g c =
    let rows = c.args.rows.now.items in
    let i = c.in-Err.field-0 in
    let within : i ≤ length rows = subst (λ (r : List Row). i ≤ length r) c.deref.ensures.value c.in-Err.ensures.bound in
    let missing : IsBinarySearchResult (λ y. row_cmp y c.args.row.now) rows (Err i) = subst (λ (r : List Row). IsBinarySearchResult (λ y. row_cmp y c.args.row.now) r (Err i)) c.deref.ensures.value c.in-Err.ensures.position in
    taken_missing rows c.args.row.now i c.requires.0 within missing
