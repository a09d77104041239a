use Rattle.std.proofs.Common.{◌≡◌, length, map, sym, ◌∙◌, ap}
use Rattle.std.proofs.lemmas.List.{length-map}
use Rattle.value_core.specs.Plain.{plain}
use Rattle.plain_rows.specs.Swaps.{swapped}
use Rattle.plain_rows.proofs.SwapLemmas.{part-swapped, swapped-map}
use Rattle.plain_rows.proofs.arranged.arranged_row.Goals as goal

pub returns : goal.returns
returns c =
    let ss = c.args.swaps.now in
    let old = c.into_values-values.result.items in
    let same = c.into_values-values.ensures in
    let long : length c.args.row ≡ length c.args.places.now = ap length (sym same) ∙ (length-map old plain ∙ cc) in
    c.make.ensures ∙ (ap (map plain) c.swap_all.ensures ∙ (sym (swapped-map plain ss old) ∙ (ap (swapped ss) same ∙ part-swapped ss c.args.places.now c.args.row c.requires long)))
