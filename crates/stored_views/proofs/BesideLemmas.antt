-- Listed attributes of one heading that stand in another: there they are the same, and interval attributes too.
--     stands_in      what USING asks of an operand: it has the listed attributes
--     there_same, there_intervals, there_names      the attributes at their positions there
use Rattle.std.proofs.Common.{◌≡◌, ℕ, ◌<◌, List, map, length, get_or, refl, sym, ap, ◌∙◌, subst}
use Rattle.std.specs.Bool.{IsTrue}
use Rattle.std.proofs.lemmas.Bool.{and_parts}
use Rattle.std.proofs.lemmas.List.{map-id}
use Rattle.base_core.proofs.ListLemmas.{All-In, map-In, In-get_or, IsDistinct-map}
use Rattle.base_core.proofs.MemberLemmas.{In-map, list_all-In}
use Rattle.base_core.proofs.SetLemmas.{In, Ascends}
use Rattle.value_core.specs.Headings.{has_name, position_of}
use Rattle.value_core.specs.Values.{Name, Heading, attribute_cmp}
use Rattle.value_core.specs.declared.kind.Kind.{Kind}
use Rattle.value_core.specs.declared.kind.Kind.TheVariants.{Span}
use Rattle.scalar_core.proofs.KindOfLemmas.{same_kind-same}
use Rattle.relation_core.specs.Intervals.{AreIntervals, type_of}
use Rattle.relation_core.specs.Parts.{no_attribute, kind_at, attributes_at}
use Rattle.relation_core.proofs.AgreementLemmas.{position_within}
use Rattle.relation_core.proofs.AttributeLemmas.{named_In}
use Rattle.meaning_core.specs.Typing.{IsList, are_in, is_alike_at}
use Rattle.meaning_core.proofs.IntervalLemmas.{intervals_of_list}
use Rattle.u_row.proofs.BeneathLemmas.{in_all}
use Rattle.u_row.proofs.LabelLemmas.{map_twice}
use Rattle.u_join.proofs.NameLemmas.{name_back, position_at}
use Rattle.kept_views.specs.Kept.{names_at, positions_beside}
use Rattle.kept_views.proofs.NameLemmas.{attribute_back}

-- the operand of an operator with this heading has the attributes that are listed of it
stands_in : (h from : Heading) (commalist : List ℕ) → Ascends attribute_cmp h → IsList h commalist → IsTrue (are_in h (names_at h commalist) from)
    → (i : ℕ) → In i commalist → In (get_or h i no_attribute) from
stands_in h from commalist up list held i m =
    let n : Name = (get_or h i no_attribute).0 in
    let l : i < length h = in_all (λ (j : ℕ). j < length h) commalist list.within i m in
    let alike = (list_all-In (is_alike_at h from) (names_at h commalist)).0 held n ((In-map (λ j. (get_or h j no_attribute).0) n commalist).1 (i, m, refl)) in
    let there = and_parts (has_name from n) _ (and_parts (has_name h n) _ alike).1 in
    let name : (get_or from (position_of from n) no_attribute).0 ≡ n = name_back from n there.0 in
    let kind : kind_at from (position_of from n) ≡ kind_at h i =
    sym (same_kind-same (kind_at h (position_of h n)) (kind_at from (position_of from n)) there.1) ∙ ap (kind_at h) (position_at h i up l) in
    let same : get_or from (position_of from n) no_attribute ≡ get_or h i no_attribute = λ t. (name t, kind t) in
    subst (λ (a : Name × Kind). In a from) same (In-get_or from (position_of from n) no_attribute (position_within from n there.0))

module _ (h from : Heading) (commalist : List ℕ) (up : Ascends attribute_cmp h) (up' : Ascends attribute_cmp from) (list : IsList h commalist) (held : IsTrue (are_in h (names_at h commalist) from)) where
  abbrev pub there : List ℕ
  there = positions_beside h from commalist

  abbrev name : ℕ → Name
  name i = (get_or h i no_attribute).0

  stands : (i : ℕ) → In i commalist → In (get_or h i no_attribute) from
  stands = stands_in h from commalist up list held

  has : (n : Name) → In n (names_at h commalist) → IsTrue (has_name from n)
  has n m =
      let w = (In-map name n commalist).0 m in
      subst (λ k. IsTrue (has_name from k)) (sym w.2) (named_In from (get_or h w.0 no_attribute) (stands w.0 w.1))

  own : (i : ℕ) → In i commalist → get_or from (position_of from (name i)) no_attribute ≡ get_or h i no_attribute
  own i m = attribute_back from (get_or h i no_attribute) up' (stands i m)

  there_is : there ≡ map (λ i. position_of from (name i)) commalist
  there_is = map_twice (position_of from) name commalist

  -- they are the same attributes
  pub there_same : attributes_at there from ≡ attributes_at commalist h
  there_same =
      ap (λ ps. attributes_at ps from) there_is
      ∙ map_twice (λ i. get_or from i no_attribute) (λ i. position_of from (name i)) commalist
      ∙ map-In (λ i. get_or from (position_of from (name i)) no_attribute) (λ i. get_or h i no_attribute) commalist own

  -- different positions stand at different ones
  one : (i k : ℕ) → In i commalist → In k commalist → position_of from (name i) ≡ position_of from (name k) → i ≡ k
  one i k m n e =
      let same : get_or h i no_attribute ≡ get_or h k no_attribute = sym (own i m) ∙ ap (λ j. get_or from j no_attribute) e ∙ own k n in
      let low = in_all (λ (j : ℕ). j < length h) commalist list.within in
      sym (position_at h i up (low i m)) ∙ ap (λ (a : Name × Kind). position_of h a.0) same ∙ position_at h k up (low k n)

  pub there_intervals : AreIntervals from there
  there_intervals =
      let intervals = intervals_of_list h commalist list in
      let each : (j : ℕ) → In j (map (λ i. position_of from (name i)) commalist) → (j < length from) × (kind_at from j ≡ Span (type_of (kind_at from j))) = λ j m.
      let w = (In-map (λ i. position_of from (name i)) j commalist).0 m in
      let kind : kind_at from (position_of from (name w.0)) ≡ kind_at h w.0 = ap (λ (a : Name × Kind). a.1) (own w.0 w.1) in
      let span : kind_at h w.0 ≡ Span (type_of (kind_at h w.0)) = in_all (λ (i : ℕ). kind_at h i ≡ Span (type_of (kind_at h i))) commalist intervals.spans w.0 w.1 in
      let here : kind_at from (position_of from (name w.0)) ≡ Span (type_of (kind_at from (position_of from (name w.0)))) = subst (λ (k : Kind). k ≡ Span (type_of k)) (sym kind) span in (
        subst (λ k. k < length from) (sym w.2) (position_within from (name w.0) (named_In from (get_or h w.0 no_attribute) (stands w.0 w.1))),
        subst (λ k. kind_at from k ≡ Span (type_of (kind_at from k))) (sym w.2) here,
      ) in
      subst (AreIntervals from) (sym there_is) (record {
        within = All-In (λ (i : ℕ). i < length from) (map (λ i. position_of from (name i)) commalist) (λ j m. (each j m).0);
        different = IsDistinct-map (λ i. position_of from (name i)) commalist one intervals.different;
        spans = All-In (λ (i : ℕ). kind_at from i ≡ Span (type_of (kind_at from i))) (map (λ i. position_of from (name i)) commalist) (λ j m. (each j m).1);
      })

  -- and have the same names
  pub there_names : names_at from there ≡ names_at h commalist
  there_names =
      map_twice (λ i. (get_or from i no_attribute).0) (position_of from) (names_at h commalist)
      ∙ map-In (λ n. (get_or from (position_of from n) no_attribute).0) (λ n. n) (names_at h commalist) (λ n m. name_back from n (has n m))
      ∙ map-id (names_at h commalist)
