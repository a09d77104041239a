-- A heading with one attribute more is made by putting the attribute into its place.
use Rattle.std.specs.Prelude.{◌≡◌, [], ◌∷◌, IsTrue, refl}
use Rattle.std.proofs.Common.{sym, ap, ◌∙◌}
use Rattle.base_core.specs.Sets.{put, in_order}
use Rattle.base_core.proofs.SetLemmas.{Ascends}
use Rattle.value_core.proofs.HeadingLemmas.{attribute_total}
use Rattle.value_core.specs.declared.kind.Kind.{Kind}
use Rattle.value_core.specs.Values.{Name, Heading, attribute_cmp, is_heading}
use Rattle.relation_core.proofs.ApartLemmas.{ascends_in_order}
use Rattle.relation_core.proofs.HeadingLemmas.{heading_ascends, put_first}
use Rattle.meaning_core.specs.Histories.{with_attribute}

in-order-own : (h : Heading) → Ascends attribute_cmp h → in_order attribute_cmp h ≡ h
in-order-own [] up = refl
in-order-own (a ∷ rest) up = ap (put attribute_cmp a) (in-order-own rest up.1) ∙ put_first a rest up.0

pub put-in-order : (h : Heading) (name : Name) (kind : Kind) → IsTrue (is_heading h) → put attribute_cmp (name, kind) h ≡ with_attribute h name kind
put-in-order h name kind headed = ap (put attribute_cmp (name, kind)) (sym (in-order-own h (heading_ascends h headed)))

pub more-ascends : (h : Heading) (name : Name) (kind : Kind) → Ascends attribute_cmp (with_attribute h name kind)
more-ascends h name kind = ascends_in_order attribute_cmp attribute_total ((name, kind) ∷ h)
