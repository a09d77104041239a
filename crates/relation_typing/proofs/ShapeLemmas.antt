-- Tuples of one shape.
use Rattle.std.proofs.Common.{◌≡◌, ◌==◌, Bool, true, false, ◌&&◌, List, [], ◌∷◌, length, Some, Ok, if◌then◌else◌, refl, sym, ap, ◌∙◌}
use Rattle.std.specs.Bool.{IsTrue}
use Rattle.std.specs.Str.{bytes_eq}
use Rattle.std.proofs.lemmas.Bool.{le-leb, and_parts, and_from, true≢false}
use Rattle.std.proofs.lemmas.Slice.Eq.{bytes_eq-Decides}
use Rattle.base_core.specs.Outcomes.{then_give}
use Rattle.point_core.specs.declared.fault.Place.{Place}
use Rattle.point_core.specs.declared.fault.Code.TheVariants.{E13, E17}
use Rattle.point_core.specs.Faults.{OrFault}
use Rattle.utd_syntax.specs.Plain as syntax
use Rattle.utd_syntax.specs.Plain.{ElementP}
use Rattle.value_core.specs.declared.kind.Kind.{Kind}
use Rattle.value_core.specs.declared.list.OrdinalNames.{OrdinalNames}
use Rattle.value_core.specs.Limits.{most_attributes}
use Rattle.value_core.specs.Values.{Name, Heading}
use Rattle.scalar_core.specs.KindOf.{same_kind}
use Rattle.scalar_core.proofs.KindOfLemmas.{same_kind-same, same_kind-self}
use Rattle.scalar_typing.specs.Typings.{refused}
use Rattle.tree_core.specs.Trees.{PlainSets}
use Rattle.relation_typing.specs.Attributes.{few_attributes}
use Rattle.relation_typing.specs.Headings.{same_heading}
use Rattle.relation_typing.specs.Items.{Made, elements_typed}
use Rattle.relation_typing.specs.Literals.{next_tuple, under_heading}
use Rattle.relation_typing.specs.Shapes.{shape_made, IsShape}

-- ---- headings that are one

same-attributes : (a b : Name × Kind) → bytes_eq a.0 b.0 ≡ true → same_kind a.1 b.1 ≡ true → a ≡ b
same-attributes (n, k) (m, j) names kinds =
    ap (λ (x : Name). (x, k)) ((bytes_eq-Decides n m).0 names) ∙ ap (λ (y : Kind). (m, y)) (same_kind-same k j kinds)

pub same-headings : (a b : Heading) → IsTrue (same_heading a b) → a ≡ b
same-headings [] [] h = refl
same-headings [] (b ∷ bs) h = absurd cc
same-headings (a ∷ rest) [] h = absurd cc
same-headings (a ∷ rest) (b ∷ bs) h =
    let both = and_parts (bytes_eq a.0 b.0 && same_kind a.1 b.1) (same_heading rest bs) h in
    let parts = and_parts (bytes_eq a.0 b.0) (same_kind a.1 b.1) both.0 in
    ap (λ (x : Name × Kind). x ∷ rest) (same-attributes a b parts.0 parts.1) ∙ ap (λ (l : Heading). b ∷ l) (same-headings rest bs both.1)

-- ---- a tuple

pub same-itself : (heading : Heading) → same_heading heading heading ≡ true
same-itself [] = refl
same-itself (a ∷ rest) = and_from (bytes_eq a.0 a.0 && same_kind a.1 a.1) (same_heading rest rest) (and_from (bytes_eq a.0 a.0) (same_kind a.1 a.1) ((bytes_eq-Decides a.0 a.0).1 refl) (same_kind-self a.1)) (same-itself rest)

pub of-shape : (types : List OrdinalNames) (heading : Heading) (shape : List (Name × Kind)) (at there : Place) (list : List ElementP) (sets : PlainSets)
    → IsShape heading shape → (shape ≡ [] → ⊥)
    → ((before made : Heading) → shape_made before shape ≡ Some made → elements_typed types [] ([], before) list ≡ Ok (sets, made))
    → next_tuple types heading (syntax.Tuple at (syntax.Elements there list)) ≡ Ok sets
of-shape types heading [] at there list sets is some h = absurd (some refl)
of-shape types heading (a ∷ shape) at there list sets is some h =
    let few : few_attributes there heading ≡ Ok heading = ap (λ (t : Bool). if t then Ok heading else refused there E17) (le-leb (length heading) most_attributes is.1) in
    let under : under_heading at heading (sets, heading) ≡ Ok sets = ap (λ (t : Bool). if t then Ok sets else refused at E13) (same-itself heading) in
    ap (λ (m : OrFault Made). then_give (then_give m (λ made. then_give (few_attributes there made.1) (λ made_heading. Ok (made.0, made_heading)))) (under_heading at heading)) (h [] heading is.0)
    ∙ (ap (λ (m : OrFault Heading). then_give (then_give m (λ made_heading. Ok (sets, made_heading))) (under_heading at heading)) few ∙ under)

pub not-nil : (shape : List (Name × Kind)) (b : Bool) → b ≡ (length shape == 0) → b ≡ false → shape ≡ [] → ⊥
not-nil shape b is h none = true≢false (sym (is ∙ ap (λ (l : List (Name × Kind)). length l == 0) none) ∙ h)
