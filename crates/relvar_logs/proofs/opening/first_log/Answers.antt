use Rattle.std.proofs.Common.{rules, ◌≡◌, ◌+ℤ◌, ℤ, pos, ap, sym, subst, ◌∙◌, Some, w64, to_z, of_z}
use Rattle.log_turns.specs.Turned.{IsBegun}
use Rattle.tree_core.specs.declared.relvar.Relvar.{Relvar}
use Rattle.tree_core.specs.Relvars.{read_relvar, read_relvars}
use Rattle.relvar_logs.proofs.NextLemmas.{first_ready}
use Rattle.relvar_logs.proofs.opening.first_log.Goals as goal

pub returns : goal.returns
returns c =
    let s = read_relvars c.args.relvars.now in
    let n = c.args.relvars.now.accepted in
    let number : to_z w64 (of_z w64 (to_z w64 (of_z w64 n) +ℤ pos 1)) ≡ n +ℤ pos 1 = search rules in
    let first = c.in_ok-first-in-Some-Base.first in
    let value = c.in-Some-Base.value in
    first_ready s c.args.data.now value _ first (sym c.in-Some-Base.ensures ∙ ap (λ (r : Relvar). Some (read_relvar r)) c.in-Some-Base.field-0-is)
    (subst (λ (k : ℤ). IsBegun c.args.data.now.attribute k value first) number c.in_ok-first-in-Some-Base.ensures) c.stored.ensures.log
