use Rattle.std.proofs.Common.{◌≡◌, sym, subst, IfSome, Ok}
use Rattle.std.proofs.lemmas.Option.{IfSome_then}
use Rattle.relation_core.specs.Answers.{under}
use Rattle.tree_core.specs.Relvars.{read_relvar}
use Rattle.tree_core.specs.Trees.{read_form}
use Rattle.tree_core.specs.declared.tree.RelForm.{RelForm}
use Rattle.meaning_core.specs.Meanings.{meaning, plainly}
use Rattle.algebra_core.specs.Scopes.{CanEvaluate, known_at}
use Rattle.meaning_core.proofs.LookupLemmas.{found_at}
use Rattle.algebra_core.proofs.OperandLemmas.{kept_meant}
use Rattle.algebra_core.proofs.evaluation.kept.Goals as goal

pub returns-in-Some : goal.returns-in-Some
returns-in-Some c =
    let s = c.args.scope.now in
    let place = c.args.tree.now.place in
    let heading = c.args.tree.now.heading in
    let x = read_relvar c.in-Some.relvar.now in
    let can = subst (λ (f : RelForm). CanEvaluate s (read_form place heading f)) c.in-Named.is c.requires in
    let first = found_at s.relvars.now.list.entries c.in-Named.name c.in-Some.field-0-1.now c.in-Some.at c.in-Some.relvar.now (sym c.in-Some.ensures.index) c.in-Some.ensures.entry in
    subst (λ (f : RelForm). IfSome c.kept_at.result (λ v. under heading (meaning (known_at s) plainly (read_form place heading f)) ≡ Ok v.now)) (sym c.in-Named.is)
    (IfSome_then c.kept_at.result c.kept_at.ensures (λ v k. kept_meant s place heading c.in-Named.name c.in-Some.at x v.now can first k))
