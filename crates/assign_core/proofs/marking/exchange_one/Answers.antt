use Rattle.std.proofs.Common.{◌≡◌, ◌<◌, ◌≤◌, ◌⊎◌, inl, inr, suc, length, List, Err, Equal, sym, subst, ◌∙◌, arith}
use Rattle.std.specs.List.{HoldsAt}
use Rattle.std.specs.List.Sorted.{IsStrictlySortedBy, IsBinarySearchResult}
use Rattle.base_core.proofs.SetLemmas.{Ascends-put, Ascends-from_sorted}
use Rattle.value_core.specs.Values.{Row, row_cmp}
use Rattle.value_core.specs.Order.{row_total, row_separates}
use Rattle.value_core.proofs.RelationLemmas.{sorted_from_ascending}
use Rattle.base_core.specs.Sets.{put}
use Rattle.assign_core.proofs.PlaceLemmas.{renewed_one}
use Rattle.assign_core.proofs.marking.exchange_one.Goals as goal
use Rattle.assign_core.proofs.marking.exchange_one.Goals.{then-from-at, else-from-at}

pub take_out_one-requires : goal.take_out_one-requires
take_out_one-requires g c =
    let rows = c.args.rows.now.items in (
      subst (λ (rs : List Row). IsStrictlySortedBy row_cmp rs) (sym c.place.ensures.rows)
          (sorted_from_ascending (put row_cmp c.args.row rows) (Ascends-put row_cmp row_total row_separates c.args.row rows (Ascends-from_sorted row_cmp rows c.requires.0))),
      c.place.ensures.hashes,
    )

pub returns-after-from-at-clause-rows : goal.returns-after-from-at-clause-rows
returns-after-from-at-clause-rows g c =
    let rows = c.args.rows.now.items in
    let gone = c.args.gone.now in
    let row = c.args.row in
    let from = c.in-Ok-Err.from in
    let at = c.in-Ok-Err.at in
    let to = c.if-from-at.to in
    let l : from < length rows = subst (λ (r : List Row). from < length r) c.deref.ensures.value c.in-Ok-Err.ensures.bound in
    let found : HoldsAt (λ y. row_cmp y gone ≡ Equal) rows from = subst (λ (r : List Row). HoldsAt (λ y. row_cmp y gone ≡ Equal) r from) c.deref.ensures.value c.in-Ok-Err.ensures.position in
    let within : at ≤ length rows = subst (λ (r : List Row). at ≤ length r) c.deref-2.ensures.value c.in-Ok-Err.ensures'.bound in
    let missing : IsBinarySearchResult (λ y. row_cmp y row) rows (Err at) = subst (λ (r : List Row). IsBinarySearchResult (λ y. row_cmp y row) r (Err at)) c.deref-2.ensures.value c.in-Ok-Err.ensures'.position in
    let which : ((from < at) × (at ≡ suc to)) ⊎ ((at ≤ from) × (at ≡ to)) = elim c.if-from-at.branch [
      | then-from-at w ↦ inl (w.if-from-at.true, omega (arith, w.if-from-at.true, w.to-is))
      | else-from-at w ↦ inr (omega (arith, w.if-from-at.false), sym w.to-is)
    ] in
    c.renew_at.ensures.rows ∙ renewed_one rows row gone from at to c.requires.0 l found within missing which
