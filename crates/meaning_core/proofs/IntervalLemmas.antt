-- The list of a typed node or of a constraint is one of interval attributes.
use Rattle.std.proofs.Common.{◌≡◌, ℕ, List, get_or, refl, sym}
use Rattle.std.specs.Bool.{IsTrue}
use Rattle.std.proofs.lemmas.Bool.{true≢false}
use Rattle.std.proofs.lemmas.List.Elements.{Contains-get_or}
use Rattle.base_core.proofs.MemberLemmas.{list_all-In}
use Rattle.base_core.proofs.SetLemmas.{In-from_Contains}
use Rattle.value_core.specs.declared.kind.Kind.{Kind}
use Rattle.value_core.specs.declared.kind.Kind.TheVariants.{Truth, Char, Point, Span}
use Rattle.value_core.specs.Values.{Heading}
use Rattle.relation_core.specs.Intervals.{AreIntervals, type_of}
use Rattle.relation_core.specs.Parts.{kind_at}
use Rattle.meaning_core.specs.Typing.{IsList, is_span}

span_kind : (k : Kind) → IsTrue (is_span k) → k ≡ Span (type_of k)
span_kind Truth h = absurd (true≢false (sym h))
span_kind Char h = absurd (true≢false (sym h))
span_kind (Point t) h = absurd (true≢false (sym h))
span_kind (Span t) h = refl

pub intervals_of_list : (heading : Heading) (commalist : List ℕ) → IsList heading commalist → AreIntervals heading commalist
intervals_of_list heading commalist h = record {
  within = h.within;
  different = h.different;
  spans = λ j d l. span_kind (kind_at heading (get_or commalist j d)) ((list_all-In (λ i. is_span (kind_at heading i)) commalist).0 h.spans (get_or commalist j d) (In-from_Contains commalist (get_or commalist j d) (Contains-get_or commalist j d l)));
}
