use Rattle.std.proofs.Common.{◌≡◌, List, Bool, false, sym, subst, ◌∙◌}
use Rattle.std.specs.List.{list_any}
use Rattle.tree_core.specs.Relvars.{read_relvars}
use Rattle.assign_core.specs.Leanings.{DoOthersHold}
use Rattle.assign_core.specs.Exchanges.{with_ready}
use Rattle.assign_core.proofs.LeaningLemmas.{others_hold, unless_told}
use Rattle.assign_core.proofs.StateLemmas.{changed_state}
use Rattle.assign_core.proofs.settling.settle.Goals as goal

pub settle_and_check-requires-clause-others : goal.settle_and_check-requires-clause-others
settle_and_check-requires-clause-others g c =
    let s = read_relvars c.args.relvars.now in
    let others = subst (λ (bs : List Bool). DoOthersHold (with_ready c.args.ready s.relvars) bs s.rules) (sym (c.as_slice-told.ensures.value ∙ c.in_ok-list.ensures))
    (others_hold c.args.ready s.relvars s.rules c.requires.kept.rules) in
    others

pub returns-clause-settled : goal.returns-clause-settled
returns-clause-settled g c =
    let s = read_relvars c.args.relvars.now in
    let others = subst (λ (bs : List Bool). DoOthersHold (with_ready c.args.ready s.relvars) bs s.rules) (sym (c.as_slice-told.ensures.value ∙ c.in_ok-list.ensures))
    (others_hold c.args.ready s.relvars s.rules c.requires.kept.rules) in
    let none : list_any (λ b. b) c.as_slice-told.result.now ≡ false = sym c.is_one_told.ensures ∙ c.if-is_one_told.false in (
      unless_told (with_ready c.args.ready s.relvars) c.as_slice-told.result.now s.rules none others,
      changed_state c.args.relvars.now c.exchange.new.relvars (with_ready c.args.ready s.relvars) c.in_ok-exchange.ensures.done c.exchange.ensures.ordinals c.exchange.ensures.rules c.exchange.ensures.accepted,
    )
