use Rattle.std.proofs.Common.{◌≡◌, List, sym, ap₂, subst, ◌∙◌, MatchResult}
use Rattle.value_core.specs.Values.{Heading, Row}
use Rattle.relation_core.specs.Answers.{IsAnswer, IsRefusal}
use Rattle.relation_core.specs.Operators.{united}
use Rattle.u_constraints.specs.Growth.{exchanged}
use Rattle.assign_core.proofs.PackingLemmas.{exchanged_apart}
use Rattle.assign_core.proofs.packing.whole.Goals as goal

pub union-requires : goal.union-requires
union-requires c = c.in_ok-left.ensures.0 ∙ sym (c.in_ok-come.ensures.0 ∙ c.requires.exchange.come)

pub returns : goal.returns
returns c =
    let value = c.args.value.now in
    let x = c.args.rows.now in
    let rows : united c.in_ok-left.left.rows c.in_ok-come.come.rows ≡ exchanged value.rows x.gone.rows x.come.rows =
    ap₂ united c.in_ok-left.ensures.1 c.in_ok-come.ensures.1 ∙ exchanged_apart value.rows x.gone.rows x.come.rows in
    let made = subst (λ (h : Heading). MatchResult c.union.result (IsAnswer h (united c.in_ok-left.left.rows c.in_ok-come.come.rows)) (IsRefusal (united c.in_ok-left.left.rows c.in_ok-come.come.rows))) c.in_ok-left.ensures.0 c.union.ensures in
    let there = subst (λ (rs : List Row). MatchResult c.union.result (IsAnswer value.heading rs) (IsRefusal rs)) rows made in
    c.or_fault_at.ensures value.heading (exchanged value.rows x.gone.rows x.come.rows) there
