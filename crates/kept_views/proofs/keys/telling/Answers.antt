use Rattle.std.proofs.Common.{ℕ, ◌<◌, ap, ◌∙◌, subst, sym, length}
use Rattle.std.specs.List.{All}
use Rattle.std.proofs.lemmas.Result.{IfOk-weaker}
use Rattle.relation_core.proofs.AgreementLemmas.{left_within}
use Rattle.kept_views.specs.Kept.{names_at}
use Rattle.kept_views.proofs.GroupLemmas.{told_by_common, told_by_all}
use Rattle.kept_views.proofs.NameLemmas.{common_named, all_named}
use Rattle.kept_views.proofs.keys.telling.Goals as goal

pub returns-in-Union-clause-names : goal.returns-in-Union-clause-names
returns-in-Union-clause-names c =
    IfOk-weaker c.common_positions.result _ _ (λ v e.
    ap (names_at c.args.left.now) e ∙ all_named c.args.left.now ∙ told_by_all c.args.op.now c.args.left.now c.args.right.now c.in-Union.is) c.common_positions.ensures

pub returns-in-Union-clause-within : goal.returns-in-Union-clause-within
returns-in-Union-clause-within c =
    IfOk-weaker c.common_positions.result _ _ (λ v e. subst (All (λ (i : ℕ). i < length c.args.left.now)) (sym e) (left_within c.args.left.now c.args.left.now)) c.common_positions.ensures

pub returns-in-Join-clause-names : goal.returns-in-Join-clause-names
returns-in-Join-clause-names c =
    IfOk-weaker c.common_positions-in-Join.result _ _ (λ v e.
    ap (names_at c.args.left.now) e ∙ common_named c.args.left.now c.args.right.now ∙ told_by_common c.args.op.now c.args.left.now c.args.right.now c.in-Join.is) c.common_positions-in-Join.ensures

pub returns-in-Join-clause-within : goal.returns-in-Join-clause-within
returns-in-Join-clause-within c =
    IfOk-weaker c.common_positions-in-Join.result _ _ (λ v e. subst (All (λ (i : ℕ). i < length c.args.left.now)) (sym e) (left_within c.args.left.now c.args.right.now)) c.common_positions-in-Join.ensures
