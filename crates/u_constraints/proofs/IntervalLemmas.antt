-- What is unpacked here and there: interval attributes of the same types.
use Rattle.std.proofs.Common.{◌≡◌, inl, inr, ℕ, ◌<◌, List, [], ◌∷◌, map, length, refl, sym, ap, ◌∙◌, subst}
use Rattle.base_core.proofs.SetLemmas.{In}
use Rattle.base_core.proofs.MemberLemmas.{In-map}
use Rattle.base_core.proofs.ListLemmas.{All-In, map-In, IsDistinct-map}
use Rattle.value_core.specs.declared.kind.Kind.{Kind}
use Rattle.value_core.specs.declared.kind.Kind.TheVariants.{Span}
use Rattle.value_core.specs.Values.{Heading}
use Rattle.relation_core.specs.Parts.{kind_at}
use Rattle.meaning_core.specs.WellMade.{AreAlike, AreAmong, AreDifferent}
use Rattle.u_set.specs.Boxes.{AreIntervals, type_of, types_at}
use Rattle.u_row.proofs.BeneathLemmas.{in_all}
use Rattle.u_row.proofs.LabelLemmas.{map_twice}
use Rattle.u_constraints.specs.Constraints.{counterpart}
use Rattle.u_constraints.proofs.CounterpartLemmas.{Beside, beside_more, beside_kinds, at_counterpart, in_key, IsPair, all_pairs}

beside_right : (R : ℕ → Type 0) (is ts : List ℕ) → Beside (λ i t. Unit {0}) is ts → ((t : ℕ) → In t ts → R t) → Beside (λ i t. R t) is ts
beside_right R [] [] h r = tt
beside_right R [] (t ∷ ts) h r = absurd h
beside_right R (i ∷ is) [] h r = absurd h
beside_right R (i ∷ is) (t ∷ ts) h r = (r t (inl refl), beside_right R is ts h.1 (λ u m. r u (inr m)))

module _ (h g : Heading) (here there commalist : List ℕ) (alike : AreAlike h here g there) (lies : AreAmong here commalist) (d : AreDifferent h here) (d' : AreDifferent g there) (intervals : AreIntervals h commalist) where
  kinds : Beside (λ i t. kind_at h i ≡ kind_at g t) here there
  kinds = beside_kinds h g here there alike

  long : Beside (λ i t. Unit {0}) here there
  long = beside_more (λ i t. kind_at h i ≡ kind_at g t) (λ i t. Unit {0}) (λ i t e. tt) here there kinds

  kind_there : (i : ℕ) → In i commalist → kind_at h i ≡ kind_at g (counterpart here there i)
  kind_there i m = at_counterpart (λ i t. kind_at h i ≡ kind_at g t) here there kinds i (in_key here commalist lies i m)

  back : (i : ℕ) → In i commalist → counterpart there here (counterpart here there i) ≡ i
  back i m = (at_counterpart (IsPair here there) here there (all_pairs here there commalist lies d.different d'.different long) i (in_key here commalist lies i m)).1

  within_there : (i : ℕ) → In i commalist → counterpart here there i < length g
  within_there i m =
      at_counterpart (λ i t. t < length g) here there (beside_right (λ t. t < length g) here there long (λ t n. in_all (λ (t : ℕ). t < length g) there d'.within t n)) i (in_key here commalist lies i m)

  pub intervals_there : AreIntervals g (map (counterpart here there) commalist)
  intervals_there = record {
    within = All-In (λ (t : ℕ). t < length g) (map (counterpart here there) commalist) (λ t m.
        let w = (In-map (counterpart here there) t commalist).0 m in
        subst (λ j. j < length g) (sym w.2) (within_there w.0 w.1));
    different = IsDistinct-map (counterpart here there) commalist (λ j i m n e. sym (back j m) ∙ ap (counterpart there here) e ∙ back i n) intervals.different;
    spans = All-In (λ (t : ℕ). kind_at g t ≡ Span (type_of (kind_at g t))) (map (counterpart here there) commalist) (λ t m.
        let w = (In-map (counterpart here there) t commalist).0 m in
        let own : kind_at h w.0 ≡ Span (type_of (kind_at h w.0)) = in_all (λ (i : ℕ). kind_at h i ≡ Span (type_of (kind_at h i))) commalist intervals.spans w.0 w.1 in
        let same : kind_at h w.0 ≡ kind_at g t = kind_there w.0 w.1 ∙ ap (kind_at g) (sym w.2) in
        subst (λ (k : Kind). k ≡ Span (type_of k)) same own);
  }

  pub types_there : types_at g (map (counterpart here there) commalist) ≡ types_at h commalist
  types_there =
      map_twice (λ i. type_of (kind_at g i)) (counterpart here there) commalist
      ∙ map-In (λ i. type_of (kind_at g (counterpart here there i))) (λ i. type_of (kind_at h i)) commalist (λ i m. ap type_of (sym (kind_there i m)))
