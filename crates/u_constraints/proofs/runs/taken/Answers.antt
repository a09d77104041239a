use Rattle.std.proofs.Common.{◌≡◌, rules, ◌++◌, ℤ, List, [], ◌∷◌, sym, ap₂, ◌∙◌, subst}
use Rattle.std.specs.Int.{w64, int_max}
use Rattle.std.specs.List.{All}
use Rattle.std.proofs.lemmas.Int.{to_z-of_z}
use Rattle.std.proofs.lemmas.List.Elements.{All-push}
use Rattle.interval_core.specs.Members.{Span}
use Rattle.relation_core.specs.Agreement.{part_of}
use Rattle.u_constraints.specs.Covers.{IsCovered, IsRun}
use Rattle.u_constraints.specs.declared.runs.Run.{Run}
use Rattle.u_constraints.proofs.CoverLemmas.{run_goes_on}
use mir.Val.{SFits}
use Rattle.u_constraints.proofs.runs.taken.Goals as goal

pub returns-then-goes_on : goal.returns-then-goes_on
returns-then-goes_on c =
    let label = c.args.label.now in
    let run : Run = c.args.run in
    let next : Run = c.args.next in
    let last : ℤ = c.max-end.result in
    let first : SFits w64 run.begin = search rules in
    let end : SFits w64 run.end = search rules in
    let other : SFits w64 next.end = search rules in
    let later : SFits w64 last = search rules in
    let is : last ≡ int_max run.end next.end = c.max-end.ensures.value ∙ ap₂ int_max (to_z-of_z w64 run.end end) (to_z-of_z w64 next.end other) in
    record {
      runs = λ at rows all one two. (
        all,
        subst (λ (i : Span). IsCovered label at rows (part_of label run.row.now) i) (λ t. (sym (to_z-of_z w64 run.begin first) t, sym (to_z-of_z w64 last later) t))
            (run_goes_on label at rows run.row.now next.row.now run.begin run.end next.begin next.end last one two (c.goes_on.ensures.key c.if-goes_on.true) (c.goes_on.ensures.near c.if-goes_on.true) is),
      );
    }

pub returns : goal.returns
returns c =
    let label = c.args.label.now in
    let items : c.push.new.self.items ≡ c.args.done.now.items ++ c.args.run ∷ [] = c.in_ok-push.ensures.items in
    record {
      runs = λ at rows all one two. (
        subst (λ (rs : List Run). All (λ (r : Run). IsRun label at rows r.row.now r.begin r.end) rs) (sym items)
            (All-push (λ (r : Run). IsRun label at rows r.row.now r.begin r.end) c.args.done.now.items c.args.run all one),
        two,
      );
    }
