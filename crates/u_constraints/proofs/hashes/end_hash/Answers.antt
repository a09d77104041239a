use Rattle.std.proofs.Common.{◌≡◌, length, sym, ap, ◌∙◌, arith, rules, to_z, of_z, w64}
use Rattle.std.proofs.lemmas.List.{length-map}
use Rattle.value_core.specs.Attributes.{value_at, span_of}
use Rattle.value_core.specs.Plain.{plain}
use Rattle.value_core.specs.Values.{Row}
use Rattle.u_set.proofs.RowLemmas.{value_held}
use Rattle.u_constraints.proofs.hashes.end_hash.Goals as goal

pub returns : goal.returns
returns c =
    let size : length c.values.result.now ≡ length c.args.row.now = sym (length-map c.values.result.now plain) ∙ ap (λ (r : Row). length r) c.values.ensures in
    let at = c.requires.at in
    let held : value_at c.args.row.now c.args.at ≡ plain c.index-values-at.result =
    ap (λ (r : Row). value_at r c.args.at) (sym c.values.ensures) ∙ value_held c.values.result.now c.args.at c.index-values-at.result (omega (arith, size, at)) c.index-values-at.is in
    let last : c.last_number-last.result ≡ (span_of (value_at c.args.row.now c.args.at)).1 = c.last_number-last.ensures ∙ ap (λ v. (span_of v).1) (sym held) in
    let same : to_z w64 (of_z w64 c.last_number-last.result) ≡ c.last_number-last.result = search rules in
    λ t. (c.in_ok-own.ensures t, (same ∙ last) t)
