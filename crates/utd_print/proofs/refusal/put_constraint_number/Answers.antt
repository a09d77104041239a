use Rattle.std.proofs.Common.{◌≡◌, ◌++◌, ◌∙◌, sym, ap, subst, append_assoc, OnOk, List, ℕ}
use Rattle.utd_print.proofs.RefusalLemmas.{put-number}
use Rattle.utd_print.proofs.refusal.put_constraint_number.Goals as goal

pub returns-in_ok-extend_from_slice-in_default : goal.returns-in_ok-extend_from_slice-in_default
returns-in_ok-extend_from_slice-in_default c =
    put-number c.args.code c.args.number c.in_default.not-E45 c.args.out.now.items _ _ _
    c.in_ok-extend_from_slice-in_default.ensures.items c.put_number.ensures
