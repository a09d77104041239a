use Rattle.std.proofs.Common.{◌≡◌, ℕ, length, sym, ap, ap₂, ◌∙◌, take}
use Rattle.std.proofs.lemmas.List.{length-map}
use Rattle.value_core.specs.Plain.{plain}
use Rattle.value_core.specs.Values.{Row, row_cmp, value_cmp}
use Rattle.value_core.proofs.OrderLemmas.{slice_cmp-map}
use Rattle.u_constraints.proofs.beginning.compare_prefix.Goals as goal

pub returns : goal.returns
returns c =
    let size : length c.values-values.result.now ≡ length c.args.values.now = sym (length-map c.values-values.result.now plain) ∙ ap (λ (r : Row). length r) c.values-values.ensures in
    c.cmp.ensures
    ∙ (slice_cmp-map plain value_cmp c.prefix.result.now c.values-values.result.now
    ∙ ap₂ row_cmp (c.prefix.ensures ∙ ap (λ (n : ℕ). take n c.args.row.now) size) c.values-values.ensures)
