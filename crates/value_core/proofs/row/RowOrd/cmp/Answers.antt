use Rattle.std.proofs.Common.{◌≡◌, map, ap, ap₂, ◌∙◌}
use Rattle.value_core.specs.Values.{value_cmp, row_cmp}
use Rattle.value_core.specs.Plain.{plain}
use Rattle.value_core.proofs.OrderLemmas.{slice_cmp-map}
use Rattle.value_core.proofs.row.RowOrd.cmp.Goals as goal

pub returns : goal.returns
returns c =
    let by_values = slice_cmp-map plain value_cmp c.as_slice.result.now c.as_slice-2.result.now in
    let mine : map plain c.as_slice.result.now ≡ c.args.self.now = ap (map plain) c.as_slice.ensures.value ∙ c.self.view_is in
    let its : map plain c.as_slice-2.result.now ≡ c.args.other.now = ap (map plain) c.as_slice-2.ensures.value ∙ c.other.view_is in
    c.cmp.ensures ∙ (by_values ∙ ap₂ row_cmp mine its)
