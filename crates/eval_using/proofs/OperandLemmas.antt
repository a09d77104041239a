-- The listed attributes of an operand: they are those of the node's heading, at positions of intervals.
use Rattle.std.proofs.Common.{◌≡◌, ℕ, ◌<◌, List, get_or, map, refl, sym, ap, ◌∙◌, subst, length}
use Rattle.std.specs.Bool.{IsTrue}
use Rattle.std.proofs.lemmas.Bool.{and_parts}
use Rattle.base_core.proofs.MemberLemmas.{In-map, list_all-In}
use Rattle.base_core.proofs.SetLemmas.{In}
use Rattle.base_core.proofs.ListLemmas.{All-In, map-In, IsDistinct-map}
use Rattle.value_core.specs.declared.kind.Kind.{Kind}
use Rattle.value_core.specs.declared.kind.Kind.TheVariants.{Span}
use Rattle.value_core.specs.Headings.{has_name}
use Rattle.value_core.specs.Values.{Name, Heading, is_heading}
use Rattle.relation_core.specs.Agreement.{position_of}
use Rattle.relation_core.specs.Parts.{no_attribute, kind_at, attributes_at}
use Rattle.relation_core.proofs.HeadingLemmas.{heading_ascends}
use Rattle.meaning_core.specs.Meanings.{names_at}
use Rattle.meaning_core.specs.Typing.{IsList, is_alike_at}
use Rattle.u_set.specs.Boxes.{AreIntervals, type_of}
use Rattle.u_row.proofs.BeneathLemmas.{in_all}
use Rattle.u_row.proofs.LabelLemmas.{map_twice}
use Rattle.u_join.proofs.NameLemmas.{name_back, one_name, position_at}
use Rattle.eval_using.specs.Using.{listed, HasList}
use Rattle.meaning_core.proofs.IntervalLemmas.{intervals_of_list}
use Rattle.scalar_core.proofs.KindOfLemmas.{same_kind-same}
use Rattle.relation_core.proofs.AgreementLemmas.{position_within}

-- ---- kinds that are one

-- ---- different positions under a function that tells them apart

-- ---- listed attributes of an operand

module _ (heading : Heading) (commalist : List ℕ) (headed : IsTrue (is_heading heading)) (list : IsList heading commalist) (from : Heading) (held : HasList heading commalist from) where
  abbrev name : ℕ → Name
  name i = (get_or heading i no_attribute).0

  pub below : (i : ℕ) → In i commalist → i < length heading
  below i m = in_all (λ (j : ℕ). j < length heading) commalist list.within i m

  pub own_position : (i : ℕ) → In i commalist → position_of heading (name i) ≡ i
  own_position i m = position_at heading i (heading_ascends heading headed) (below i m)

  alike : (i : ℕ) → In i commalist → IsTrue (is_alike_at heading from (name i))
  alike i m = (list_all-In (is_alike_at heading from) (names_at heading commalist)).0 held (name i) ((In-map name (name i) commalist).1 (i, m, refl))

  pub held_name : (i : ℕ) → In i commalist → IsTrue (has_name from (name i))
  held_name i m = (and_parts (has_name from (name i)) _ (and_parts (has_name heading (name i)) _ (alike i m)).1).0

  held_kind : (i : ℕ) → In i commalist → kind_at from (position_of from (name i)) ≡ kind_at heading i
  held_kind i m =
      let k = (and_parts (has_name from (name i)) _ (and_parts (has_name heading (name i)) _ (alike i m)).1).1 in
      sym (same_kind-same (kind_at heading (position_of heading (name i))) (kind_at from (position_of from (name i))) k) ∙ ap (kind_at heading) (own_position i m)

  held_attribute : (i : ℕ) → In i commalist → get_or from (position_of from (name i)) no_attribute ≡ get_or heading i no_attribute
  held_attribute i m =
      let n = name_back from (name i) (held_name i m) in
      let k = held_kind i m in
      λ t. (n t, k t)

  pub listed_is : listed heading commalist from ≡ map (λ i. position_of from (name i)) commalist
  listed_is = map_twice (position_of from) name commalist

  -- they are the attributes that are listed of the node's heading
  pub same_attributes : attributes_at (listed heading commalist from) from ≡ attributes_at commalist heading
  same_attributes =
      ap (λ ps. attributes_at ps from) listed_is
      ∙ map_twice (λ i. get_or from i no_attribute) (λ i. position_of from (name i)) commalist
      ∙ map-In (λ i. get_or from (position_of from (name i)) no_attribute) (λ i. get_or heading i no_attribute) commalist held_attribute

  pub operand_intervals : AreIntervals from (listed heading commalist from)
  operand_intervals =
      let own = intervals_of_list heading commalist list in
      let one : (i k : ℕ) → In i commalist → In k commalist → position_of from (name i) ≡ position_of from (name k) → i ≡ k = λ i k m n e.
      sym (own_position i m) ∙ ap (position_of heading) (one_name from (name i) (name k) (held_name i m) (held_name k n) e) ∙ own_position k n in
      let each : (j : ℕ) → In j (map (λ i. position_of from (name i)) commalist) → (j < length from) × (kind_at from j ≡ Span (type_of (kind_at from j))) = λ j m.
      let w = (In-map (λ i. position_of from (name i)) j commalist).0 m in
      let span : kind_at heading w.0 ≡ Span (type_of (kind_at heading w.0)) = in_all (λ (i : ℕ). kind_at heading i ≡ Span (type_of (kind_at heading i))) commalist own.spans w.0 w.1 in
      let here : kind_at from (position_of from (name w.0)) ≡ Span (type_of (kind_at from (position_of from (name w.0)))) =
      subst (λ (k : Kind). k ≡ Span (type_of k)) (sym (held_kind w.0 w.1)) span in (
        subst (λ k. k < length from) (sym w.2) (position_within from (name w.0) (held_name w.0 w.1)),
        subst (λ k. kind_at from k ≡ Span (type_of (kind_at from k))) (sym w.2) here,
      ) in
      subst (AreIntervals from) (sym listed_is) (record {
        within = All-In (λ (i : ℕ). i < length from) (map (λ i. position_of from (name i)) commalist) (λ j m. (each j m).0);
        different = IsDistinct-map (λ i. position_of from (name i)) commalist one list.different;
        spans = All-In (λ (i : ℕ). kind_at from i ≡ Span (type_of (kind_at from i))) (map (λ i. position_of from (name i)) commalist) (λ j m. (each j m).1);
      })
