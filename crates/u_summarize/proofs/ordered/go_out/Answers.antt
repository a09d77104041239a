use Rattle.std.proofs.Common.{◌≡◌, get_or, ℤ, pos, arith, rules, ◌∙◌}
use Rattle.std.specs.Int.{w64}
use Rattle.std.proofs.lemmas.Int.{to_z-of_z}
use Rattle.std.proofs.lemmas.List.{get_or_read}
use mir.Val.{SFits, to_z, of_z}
use Rattle.u_summarize.proofs.ExtremeLemmas.{ordered_out}
use Rattle.u_summarize.proofs.ordered.go_out.Goals as goal

pub returns : goal.returns
returns c = λ f is l h.
    let values = c.args.column.now.2 in
    let w = is.within in
    let v = c.number_of_row-number.result in
    let fits : SFits w64 v = search rules in
    let key : ℤ = to_z w64 (of_z w64 v) in
    let own : key ≡ get_or values c.args.row (pos 0) = to_z-of_z w64 v fits ∙ get_or_read values c.args.row v (omega (arith, w, l)) c.number_of_row-number.ensures (pos 0) in
    ordered_out values c.args.ordered.now c.remove.new.self f c.args.row key is l own c.remove.ensures.updates.0
