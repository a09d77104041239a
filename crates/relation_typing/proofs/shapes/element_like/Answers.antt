use Rattle.std.proofs.Common.{◌≡◌, true, [], ◌∷◌, ◌++◌, Option, Ok, IfSome, sym, ap, ◌∙◌, subst}
use Rattle.std.proofs.lemmas.List.{map-append}
use Rattle.std.specs.Str.{bytes_eq}
use Rattle.utd_syntax.specs.declared.scalar.Scalar.{Scalar as ScalarTree}
use Rattle.utd_syntax.specs.Read.{read_scalar}
use Rattle.value_core.specs.Values.{Name}
use Rattle.scalar_core.specs.declared.tree.Scalar.{Scalar}
use Rattle.scalar_core.specs.Expressions.{read}
use Rattle.scalar_typing.specs.Scalars.{typed_scalar}
use Rattle.tree_core.specs.Trees.{read_set, read_sets}
use Rattle.relation_typing.proofs.shapes.element_like.Goals as goal

pub returns-in_ok-push-in-Some : goal.returns-in_ok-push-in-Some
returns-in_ok-push-in-Some c = λ _.
    let e = c.in-Some.e in
    let old = c.args.sets.now.items in
    let named : bytes_eq c.args.element.now.name.bytes.list.items c.args.attribute.now.0 ≡ true = sym c.has_bytes.ensures ∙ c.if-not-has_bytes.false in
    let given : typed_scalar c.args.types.now c.args.from.now (read_scalar c.deref.result.now) ≡ Ok (read e, c.args.attribute.now.1) =
    subst (λ (o : Option Scalar). IfSome o (λ s. typed_scalar c.args.types.now c.args.from.now (read_scalar c.deref.result.now) ≡ Ok (read s, c.args.attribute.now.1))) c.in-Some.is c.in_ok-e.ensures in
    let typed : typed_scalar c.args.types.now c.args.from.now (read_scalar c.args.element.now.scalar.value) ≡ Ok (read e, c.args.attribute.now.1) =
    ap (λ (s : ScalarTree). typed_scalar c.args.types.now c.args.from.now (read_scalar s)) (sym c.deref.ensures) ∙ given in
    let pushed : c.push.new.self.items ≡ old ++ (c.args.attribute.now.0, e) ∷ [] =
    c.in_ok-push-in-Some.ensures.items ∙ ap (λ (n : Name). old ++ (n, e) ∷ []) c.in_ok-copy-in-Some.ensures in
    (read e, named, typed, ap read_sets pushed ∙ map-append read_set old ((c.args.attribute.now.0, e) ∷ []))
