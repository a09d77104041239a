use Rattle.std.proofs.Common.{◌≡◌, List, ◌++◌, ap, ap₂, sym, ◌∙◌, subst, rules, Ok}
use Rattle.value_core.specs.Values.{Heading, Name, Relation}
use Rattle.relation_core.specs.Agreement.{names_of}
use Rattle.point_core.specs.Faults.{OrFault}
use Rattle.relation_core.specs.Answers.{Answers, under}
use Rattle.relation_core.specs.Operators.{extended}
use Rattle.scalar_core.specs.declared.tree.Scalar.{Scalar}
use Rattle.tree_core.specs.Trees.{read_sets}
use Rattle.meaning_core.specs.Places.{places}
use Rattle.meaning_core.specs.Rows.{set_names, extended_at}
use Rattle.meaning_core.proofs.LimitLemmas.{extension_meant}
use Rattle.meaning_core.proofs.MadeLemmas.{given_typed, extended_fits}
use Rattle.row_making.proofs.plain_rows.extended.Goals as goal

pub extended_at-requires-clause-typed : goal.extended_at-requires-clause-typed
extended_at-requires-clause-typed c = λ x fit.
    let items : c.as_slice-items.result.now ≡ c.args.sets.now = search rules in
    rw items (given_typed c.requires.0 c.args.r.now.heading (read_sets c.args.sets.now) c.requires.1.made x c.requires.1.makes fit)

pub extended_at-requires-clause-fitting : goal.extended_at-requires-clause-fitting
extended_at-requires-clause-fitting c = λ x y fit e.
    let items : c.as_slice-items.result.now ≡ c.args.sets.now = search rules in
    let head : c.in_ok-copy.field-0 ≡ c.args.heading.now = c.in_ok-copy.ensures in
    let made : extended_at c.as_slice.result.now (read_sets c.args.sets.now) x ≡ Ok y =
    subst (λ (l : List (Name × Scalar)). extended_at c.as_slice.result.now (read_sets l) x ≡ Ok y) items e in
    let at : c.as_slice.result.now ≡ places (set_names (read_sets c.args.sets.now) ++ names_of c.args.r.now.heading) c.args.heading.now =
    c.as_slice.ensures.value ∙ (c.in_ok-at.ensures ∙ (ap (λ (l : List (Name × Scalar)). places (set_names (read_sets l) ++ names_of c.attributes.result.now) c.attributes-2.result.now) items
    ∙ (ap (λ (h : Heading). places (set_names (read_sets c.args.sets.now) ++ names_of h) c.attributes-2.result.now) (c.attributes.ensures.list ∙ c.heading.ensures.heading)
    ∙ ap (λ (h : Heading). places (set_names (read_sets c.args.sets.now) ++ names_of c.args.r.now.heading) h) c.attributes-2.ensures.list))) in
    rw head (extended_fits c.requires.0 c.args.r.now.heading c.args.heading.now (read_sets c.args.sets.now) c.as_slice.result.now x y c.heading.ensures.relation.headed c.requires.1 at fit made)

pub returns : goal.returns
returns c = λ place.
    let items : c.as_slice-items.result.now ≡ c.args.sets.now = search rules in
    let head : c.in_ok-copy.field-0 ≡ c.args.heading.now = c.in_ok-copy.ensures in
    let at : c.as_slice.result.now ≡ places (set_names (read_sets c.args.sets.now) ++ names_of c.args.r.now.heading) c.args.heading.now =
    c.as_slice.ensures.value ∙ (c.in_ok-at.ensures ∙ (ap (λ (l : List (Name × Scalar)). places (set_names (read_sets l) ++ names_of c.attributes.result.now) c.attributes-2.result.now) items
    ∙ (ap (λ (h : Heading). places (set_names (read_sets c.args.sets.now) ++ names_of h) c.attributes-2.result.now) (c.attributes.ensures.list ∙ c.heading.ensures.heading)
    ∙ ap (λ (h : Heading). places (set_names (read_sets c.args.sets.now) ++ names_of c.args.r.now.heading) h) c.attributes-2.ensures.list))) in
    let same = extension_meant c.args.r.now.heading c.args.heading.now (read_sets c.args.sets.now) c.as_slice.result.now c.args.r.now.rows place at c.heading.ensures.relation.few in
    let told : under c.in_ok-copy.field-0 (extended (extended_at c.as_slice.result.now (read_sets c.as_slice-items.result.now)) c.args.r.now.rows)
    ≡ under c.args.heading.now (extended (extended_at c.as_slice.result.now (read_sets c.args.sets.now)) c.args.r.now.rows) =
    ap₂ (λ (h : Heading) (l : List (Name × Scalar)). under h (extended (extended_at c.as_slice.result.now (read_sets l)) c.args.r.now.rows)) head items in
    subst (λ (m : OrFault Relation). Answers c.extended_at.result m) (told ∙ sym same) c.extended_at.ensures
