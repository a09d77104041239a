use Rattle.std.proofs.Common.{rules, ◌≡◌, List, length, ap, ◌∙◌, subst, sym, MatchResult}
use Rattle.std.proofs.lemmas.Result.{err_from_is_err_and}
use Rattle.value_core.specs.Values.{Row, Heading, Relation}
use Rattle.relation_core.specs.Answers.{IsAnswer, IsRefusal}
use Rattle.relation_core.specs.Operators.{united, subtracted}
use Rattle.log_times.specs.Turns.{exchanged}
use Rattle.log_times.proofs.GainLemmas.{none_from_empty}
use Rattle.log_turns.proofs.ExchangeLemmas.{exchanged_after, none_gone}
use Rattle.log_turns.proofs.TurnedLemmas.{left_refused}
use Rattle.log_turns.proofs.exchange.exchanged.Goals as goal

pub returns-then-is_empty : goal.returns-then-is_empty
returns-then-is_empty c =
    let none : length c.args.gone.now.rows ≡ 0 = search rules in
    subst (λ (l : List Row). MatchResult c.union.result (IsAnswer c.args.rows.now.heading l) (IsRefusal l))
    (none_gone c.args.rows.now.rows c.args.come.now.rows c.args.gone.now.rows c.requires.exact (none_from_empty c.args.gone.now.rows none)) c.union.ensures

pub returns-in_err-left : goal.returns-in_err-left
returns-in_err-left c =
    let all = exchanged c.args.rows.now.rows c.args.come.now.rows c.args.gone.now.rows in
    let met = err_from_is_err_and c.from_residual.result c.from_residual.ensures.1 in
    let refusal : IsRefusal (subtracted c.args.rows.now.rows c.args.gone.now.rows) met.0 =
    subst (λ e. IsRefusal (subtracted c.args.rows.now.rows c.args.gone.now.rows) e) (sym met.2) c.in_err-left.ensures in
    subst (λ z. MatchResult z (IsAnswer c.args.rows.now.heading (exchanged c.args.rows.now.rows c.args.come.now.rows c.args.gone.now.rows))
    (IsRefusal (exchanged c.args.rows.now.rows c.args.come.now.rows c.args.gone.now.rows))) (sym met.1) (left_refused c.args.rows.now.rows c.args.gone.now.rows all c.requires.relation.few met.0 refusal)

pub returns : goal.returns
returns c =
    let same : united c.in_ok-left.left.rows c.args.come.now.rows ≡ exchanged c.args.rows.now.rows c.args.come.now.rows c.args.gone.now.rows =
    ap (λ (r : Relation). united r.rows c.args.come.now.rows) c.in_ok-left.ensures.is ∙ exchanged_after c.args.rows.now.rows c.args.come.now.rows c.args.gone.now.rows c.requires.exact in
    let head : c.in_ok-left.left.heading ≡ c.args.rows.now.heading = ap (λ (r : Relation). r.heading) c.in_ok-left.ensures.is in
    subst (λ (h : Heading). MatchResult c.union-2.result (IsAnswer h (exchanged c.args.rows.now.rows c.args.come.now.rows c.args.gone.now.rows)) (IsRefusal (exchanged c.args.rows.now.rows c.args.come.now.rows c.args.gone.now.rows))) head
    (subst (λ (l : List Row). MatchResult c.union-2.result (IsAnswer c.in_ok-left.left.heading l) (IsRefusal l)) same c.union-2.ensures)
