-- Attributes of one heading that stand in another: there they are interval attributes too.
--     beside_same, beside_intervals      the attributes at positions, and their intervals
--     beneath_beside      positions of a part of the heading stand for the positions
use Rattle.std.proofs.Common.{◌≡◌, inl, ℕ, ◌<◌, List, [], ◌∷◌, map, length, get_or, refl, sym, ap, ◌∙◌, subst}
use Rattle.std.specs.Bool.{IsTrue}
use Rattle.std.specs.List.{All}
use Rattle.std.proofs.lemmas.List.{get_or-map, length-map}
use Rattle.base_core.proofs.ListLemmas.{All-In, map-In, In-get_or, IsDistinct-map}
use Rattle.base_core.proofs.MemberLemmas.{In-append, In-map}
use Rattle.base_core.proofs.SetLemmas.{In, Ascends}
use Rattle.value_core.specs.Attributes.{among}
use Rattle.value_core.specs.Headings.{has_name, position_of}
use Rattle.value_core.specs.Values.{Name, Heading, Relation, IsRelation, attribute_cmp}
use Rattle.value_core.specs.declared.kind.Kind.{Kind}
use Rattle.value_core.specs.declared.kind.Kind.TheVariants.{Span}
use Rattle.relation_core.specs.Intervals.{AreIntervals, type_of}
use Rattle.relation_core.specs.Joins.{HaveEqualKinds, joined_heading}
use Rattle.relation_core.specs.Parts.{no_attribute, kind_at, attributes_at}
use Rattle.relation_core.proofs.AgreementLemmas.{position_within}
use Rattle.relation_core.proofs.AttributeLemmas.{named_In, In-joined, joined_ascends}
use Rattle.relation_core.proofs.HeadingLemmas.{heading_ascends, part_ascends}
use Rattle.u_row.specs.Kept.{beneath}
use Rattle.u_row.proofs.BeneathLemmas.{among_in, in_all}
use Rattle.u_row.proofs.LabelLemmas.{map_twice}
use Rattle.u_join.proofs.NameLemmas.{position_at}
use Rattle.kept_views.specs.Kept.{names_at, positions_beside, IsPart}
use Rattle.kept_views.proofs.NameLemmas.{attribute_back}

module _ (from to : Heading) (here : List ℕ) (first : Ascends attribute_cmp from) (second : Ascends attribute_cmp to) (intervals : AreIntervals from here)
    (stands : (i : ℕ) → In i here → In (get_or from i no_attribute) to) where
  abbrev name : ℕ → Name
  name i = (get_or from i no_attribute).0

  below : (i : ℕ) → In i here → i < length from
  below i m = in_all (λ (j : ℕ). j < length from) here intervals.within i m

  pub beside_has : (n : Name) → In n (names_at from here) → IsTrue (has_name to n)
  beside_has n m =
      let w = (In-map name n here).0 m in
      subst (λ k. IsTrue (has_name to k)) (sym w.2) (named_In to (get_or from w.0 no_attribute) (stands w.0 w.1))

  there : (i : ℕ) → In i here → get_or to (position_of to (name i)) no_attribute ≡ get_or from i no_attribute
  there i m = attribute_back to (get_or from i no_attribute) second (stands i m)

  beside_is : positions_beside from to here ≡ map (λ i. position_of to (name i)) here
  beside_is = map_twice (position_of to) name here

  pub beside_same : attributes_at (positions_beside from to here) to ≡ attributes_at here from
  beside_same =
      ap (λ ps. attributes_at ps to) beside_is
      ∙ map_twice (λ i. get_or to i no_attribute) (λ i. position_of to (name i)) here
      ∙ map-In (λ i. get_or to (position_of to (name i)) no_attribute) (λ i. get_or from i no_attribute) here there

  -- different positions stand at different ones
  one : (i k : ℕ) → In i here → In k here → position_of to (name i) ≡ position_of to (name k) → i ≡ k
  one i k m n e =
      let same : get_or from i no_attribute ≡ get_or from k no_attribute = sym (there i m) ∙ ap (λ j. get_or to j no_attribute) e ∙ there k n in
      sym (position_at from i first (below i m)) ∙ ap (λ (a : Name × Kind). position_of from a.0) same ∙ position_at from k first (below k n)

  pub beside_intervals : AreIntervals to (positions_beside from to here)
  beside_intervals =
      let each : (j : ℕ) → In j (map (λ i. position_of to (name i)) here) → (j < length to) × (kind_at to j ≡ Span (type_of (kind_at to j))) = λ j m.
      let w = (In-map (λ i. position_of to (name i)) j here).0 m in
      let kind : kind_at to (position_of to (name w.0)) ≡ kind_at from w.0 = ap (λ (a : Name × Kind). a.1) (there w.0 w.1) in
      let span : kind_at from w.0 ≡ Span (type_of (kind_at from w.0)) = in_all (λ (i : ℕ). kind_at from i ≡ Span (type_of (kind_at from i))) here intervals.spans w.0 w.1 in
      let own : kind_at to (position_of to (name w.0)) ≡ Span (type_of (kind_at to (position_of to (name w.0)))) = subst (λ (k : Kind). k ≡ Span (type_of k)) (sym kind) span in (
        subst (λ k. k < length to) (sym w.2) (position_within to (name w.0) (named_In to (get_or from w.0 no_attribute) (stands w.0 w.1))),
        subst (λ k. kind_at to k ≡ Span (type_of (kind_at to k))) (sym w.2) own,
      ) in
      subst (AreIntervals to) (sym beside_is) (record {
        within = All-In (λ (i : ℕ). i < length to) (map (λ i. position_of to (name i)) here) (λ j m. (each j m).0);
        different = IsDistinct-map (λ i. position_of to (name i)) here one intervals.different;
        spans = All-In (λ (i : ℕ). kind_at to i ≡ Span (type_of (kind_at to i))) (map (λ i. position_of to (name i)) here) (λ j m. (each j m).1);
      })

-- ---- a joined heading

pub stands_joined : (left right : Heading) → Ascends attribute_cmp left → Ascends attribute_cmp right → HaveEqualKinds left right → (a : Name × Kind) → In a left → In a (joined_heading left right)
stands_joined left right first second kinds a i = (In-joined left right first second kinds a).1 ((In-append a left right).1 (inl i))

-- ---- a part of the heading

module _ (heading : Heading) (kept : List ℕ) (up : Ascends attribute_cmp heading) (within : All (λ (i : ℕ). i < length heading) kept) where
  abbrev part : Heading
  part = attributes_at kept heading

  pub stands_in_part : (i : ℕ) → In i kept → In (get_or heading i no_attribute) part
  stands_in_part i m = (In-map (λ j. get_or heading j no_attribute) (get_or heading i no_attribute) kept).1 (i, m, refl)

  -- a name of the part stands at its place among the kept positions
  pub place_in_part : (n : Name) → IsTrue (has_name part n) → (get_or part (position_of part n) no_attribute).0 ≡ n → get_or kept (position_of part n) 0 ≡ position_of heading n
  place_in_part n h back =
      let l : position_of part n < length part = position_within part n h in
      let k : position_of part n < length kept = subst (λ m. position_of part n < m) (length-map kept (λ j. get_or heading j no_attribute)) l in
      let own : ℕ = get_or kept (position_of part n) 0 in
      let at : get_or part (position_of part n) no_attribute ≡ get_or heading own no_attribute = get_or-map (λ j. get_or heading j no_attribute) kept (position_of part n) 0 no_attribute k in
      let low : own < length heading = in_all (λ (i : ℕ). i < length heading) kept within own (In-get_or kept (position_of part n) 0 k) in
      sym (position_at heading own up low) ∙ ap (λ (a : Name × Kind). position_of heading a.0) (sym at) ∙ ap (position_of heading) back

  -- so the positions of the part stand for these
  pub beneath_beside : (here : List ℕ) → Ascends attribute_cmp part → AreIntervals heading here → All (λ (i : ℕ). IsTrue (among kept i)) here → beneath kept (positions_beside heading part here) ≡ here
  beneath_beside here up' intervals covered =
      ap (beneath kept) (map_twice (position_of part) name here)
      ∙ map_twice (λ j. get_or kept j 0) (λ i. position_of part (name i)) here
      ∙ map-In (λ i. get_or kept (position_of part (name i)) 0) (λ i. i) here own
      ∙ map_all here
    where
      name : ℕ → Name
      name i = (get_or heading i no_attribute).0

      map_all : (xs : List ℕ) → map (λ (x : ℕ). x) xs ≡ xs
      map_all [] = refl
      map_all (x ∷ xs) = ap (λ (ys : List ℕ). x ∷ ys) (map_all xs)

      own : (i : ℕ) → In i here → get_or kept (position_of part (get_or heading i no_attribute).0) 0 ≡ i
      own i m =
          let a : Name × Kind = get_or heading i no_attribute in
          let stands : In a part = stands_in_part i (among_in kept i (in_all (λ (j : ℕ). IsTrue (among kept j)) here covered i m)) in
          let back : (get_or part (position_of part a.0) no_attribute).0 ≡ a.0 = ap (λ (b : Name × Kind). b.0) (attribute_back part a up' stands) in
          place_in_part a.0 (named_In part a stands) back ∙ position_at heading i up (in_all (λ (j : ℕ). j < length heading) here intervals.within i m)

-- ---- relations

module _ (left right : Relation) (l : IsRelation left) (r : IsRelation right) (here : List ℕ) (kinds : HaveEqualKinds left.heading right.heading) (intervals : AreIntervals left.heading here) where
  abbrev joint : Heading
  joint = joined_heading left.heading right.heading

  first : Ascends attribute_cmp left.heading
  first = heading_ascends left.heading l.headed

  second : Ascends attribute_cmp right.heading
  second = heading_ascends right.heading r.headed

  stands_there : (i : ℕ) → In i here → In (get_or left.heading i no_attribute) joint
  stands_there i m =
      stands_joined left.heading right.heading first second kinds (get_or left.heading i no_attribute)
      (In-get_or left.heading i no_attribute (in_all (λ (j : ℕ). j < length left.heading) here intervals.within i m))

  -- the listed attributes stand in the joined heading
  pub joined_same : attributes_at (positions_beside left.heading joint here) joint ≡ attributes_at here left.heading
  joined_same = beside_same left.heading joint here first (joined_ascends left.heading right.heading first second kinds) intervals stands_there

  pub joined_intervals : AreIntervals joint (positions_beside left.heading joint here)
  joined_intervals = beside_intervals left.heading joint here first (joined_ascends left.heading right.heading first second kinds) intervals stands_there

module _ (r : Relation) (is : IsRelation r) (kept here : List ℕ) (fits : IsPart kept here r.heading) where
  abbrev some : Heading
  some = attributes_at kept r.heading

  up : Ascends attribute_cmp r.heading
  up = heading_ascends r.heading is.headed

  up' : Ascends attribute_cmp some
  up' = part_ascends r.heading kept is.headed fits.ascending fits.within

  -- and in that of a part
  pub part_intervals : AreIntervals some (positions_beside r.heading some here)
  part_intervals =
      beside_intervals r.heading some here up up' fits.intervals (λ i m.
      stands_in_part r.heading kept up fits.within i (among_in kept i (in_all (λ (j : ℕ). IsTrue (among kept j)) here fits.covered i m)))

  pub part_beneath : beneath kept (positions_beside r.heading some here) ≡ here
  part_beneath = beneath_beside r.heading kept up fits.within here up' fits.intervals fits.covered
