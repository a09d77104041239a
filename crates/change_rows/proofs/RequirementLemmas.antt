-- What the required values of a row filter tell of rows.
--     required_tells      of rows with another value at the position the row filter is FALSE
--     found_stay      so rows of which it is not FALSE are found among those that begin with the first one
--     found_over      and of these it can be asked
--     hashed_more, unhashed      or among those with the hash of the required values
--     required_more      one required value more
use Rattle.std.proofs.Common.{◌≡◌, ◌⊎◌, inl, inr, ℕ, ◌+◌, ◌<◌, Bool, true, false, cond, List, [], ◌∷◌, ◌++◌, length, get_or, take, map, Ok, Option, Some, None, refl, sym, ap, ap₂, ◌∙◌, subst, arith, Ordering, append-nil, nat_eq}
use Rattle.std.specs.Prelude.{if◌then◌else◌}
use Rattle.std.specs.declared.cmp.Ordering.TheVariants.{Less, Equal, Greater}
use Rattle.std.specs.Bool.{IsTrue}
use Rattle.std.specs.List.{All, filter}
use Rattle.std.specs.Ordering.{is_eq, eq_by_cmp, ordering_then}
use Rattle.std.proofs.lemmas.Bool.{eqb-true}
use Rattle.std.proofs.lemmas.List.{get_or-map, map-append, map_more}
use Rattle.std.proofs.lemmas.List.Elements.{filter_more}
use Rattle.std.proofs.lemmas.Option.{slice_get_within}
use Rattle.base_core.proofs.SetLemmas.{In}
use Rattle.base_core.proofs.MemberLemmas.{In-filter, list_all-In, eq_by_cmp-≡}
use Rattle.base_core.proofs.ListLemmas.{All-In}
use Rattle.point_core.specs.declared.fault.Place.{Place}
use Rattle.value_core.specs.declared.kind.Kind.{Kind}
use Rattle.value_core.specs.declared.kind.Kind.TheVariants.{Truth}
use Rattle.value_core.specs.declared.value.Value.{Value as OwnValue}
use Rattle.value_core.specs.Attributes.{value_at}
use Rattle.value_core.specs.Order.{value_total, value_separates}
use Rattle.value_core.specs.Plain.{plain}
use Rattle.value_core.specs.Values.{Value, Heading, Row, Relation, IsRelation, value_cmp, fits_heading}
use Rattle.scalar_core.specs.Expressions.{Expr, constant, attribute, one, pair, and_expr, or_expr}
use Rattle.scalar_core.specs.declared.operators.PairOp.{PairOp}
use Rattle.scalar_core.specs.declared.operators.PairOp.TheVariants.{Compare}
use Rattle.scalar_core.specs.declared.tree.CompareWord.TheVariants.{Equal as EqualTo}
use Rattle.scalar_core.specs.Kinds.{IsTyped}
use Rattle.scalar_core.specs.ScalarValues.{value}
use Rattle.relation_core.specs.Agreement.{part_of}
use Rattle.relation_core.specs.Hashes.{hash_of, row_hash}
use Rattle.relation_core.proofs.AgreementLemmas.{length_of_fit}
use Rattle.meaning_core.specs.Meanings.{condition}
use Rattle.meaning_core.specs.Scalars.{IsConditionOver}
use Rattle.u_set.proofs.BoxLemmas.{value_at-get}
use Rattle.u_constraints.specs.Prefixes.{begins_with}
use Rattle.change_rows.specs.Requirements.{required_by_constant, required_by_equal, if_equal, required_by_and, required_by_or, required, AreRequired}
use Rattle.change_rows.specs.RowFilters.{is_safe, stays}
use Rattle.change_rows.proofs.RowFilterLemmas.{safe_value, left_false, right_false, both_false}

-- ---- the value at one position

-- where a row has another value there, the row filter is FALSE of it
abbrev Tells : ℕ → Expr → Option Value → Type 0
Tells position g None = Unit {0}
Tells position g (Some v) = (x : Row) → is_eq (value_cmp (value_at x position) v) ≡ false → condition g x ≡ Ok false

constant_tells : (position : ℕ) (place there : Place) (e : Expr) → Tells position (pair (Compare EqualTo) place (attribute there position) e) (required_by_constant e)
constant_tells position place there (constant at kind v) = λ x h. ap (λ (b : Bool). Ok b) h
constant_tells position place there (attribute at i) = tt
constant_tells position place there (one op at e) = tt
constant_tells position place there (pair op at l r) = tt
constant_tells position place there (and_expr at l r) = tt
constant_tells position place there (or_expr at l r) = tt

attribute_tells : (position : ℕ) (place there : Place) (i : ℕ) (e : Expr) → Tells position (pair (Compare EqualTo) place (attribute there i) e) (if nat_eq i position then required_by_constant e else None)
attribute_tells position place there i e =
    elim (nat_eq i position) as (λ b. nat_eq i position ≡ b → Tells position (pair (Compare EqualTo) place (attribute there i) e) (if b then required_by_constant e else None)) [
      | true ↦ λ z. subst (λ k. Tells position (pair (Compare EqualTo) place (attribute there k) e) (required_by_constant e)) (sym (eqb-true i position z)) (constant_tells position place there e)
      | false ↦ λ z. tt
    ] refl

equal_tells : (position : ℕ) (place : Place) (l r : Expr) → Tells position (pair (Compare EqualTo) place l r) (required_by_equal position l r)
equal_tells position place (attribute there i) r = attribute_tells position place there i r
equal_tells position place (constant at kind v) r = tt
equal_tells position place (one op at e) r = tt
equal_tells position place (pair op at l' r') r = tt
equal_tells position place (and_expr at l' r') r = tt
equal_tells position place (or_expr at l' r') r = tt

pair_tells : (position : ℕ) (op : PairOp) (place : Place) (l r : Expr) → Tells position (pair op place l r) (if_equal op (required_by_equal position l r))
pair_tells position (Compare EqualTo) place l r = equal_tells position place l r
pair_tells position _ place l r = tt

and_tells : (position : ℕ) (place : Place) (l r : Expr) (safe : Bool) → is_safe l ≡ safe → (f g : Option Value) → Tells position l f → Tells position r g → Tells position (and_expr place l r) (required_by_and f safe g)
and_tells position place l r safe s (Some f) g h k = λ x b. left_false (value l x) (value r x) (h x b)
and_tells position place l r false s None g h k = tt
and_tells position place l r true s None None h k = tt
and_tells position place l r true s None (Some g) h k = λ x b. right_false (value l x) (value r x) (safe_value l x s) (k x b)

or_tells : (position : ℕ) (place : Place) (l r : Expr) (f g : Option Value) → Tells position l f → Tells position r g → Tells position (or_expr place l r) (required_by_or f g)
or_tells position place l r None g h k = tt
or_tells position place l r (Some f) None h k = tt
or_tells position place l r (Some f) (Some g) h k =
    elim (eq_by_cmp value_cmp f g) as (λ b. eq_by_cmp value_cmp f g ≡ b → Tells position (or_expr place l r) (if b then Some f else None)) [
      | true ↦ λ e.
          let same : f ≡ g = (eq_by_cmp-≡ value_cmp value_total value_separates f g).0 e in
          λ x b. both_false (value l x) (value r x) (h x b) (k x (ap (λ (v : Value). is_eq (value_cmp (value_at x position) v)) (sym same) ∙ b))
      | false ↦ λ e. tt
    ] refl

required_tells : (position : ℕ) (g : Expr) → Tells position g (required position g)
required_tells position (constant place kind v) = tt
required_tells position (attribute place i) = tt
required_tells position (one op place e) = tt
required_tells position (pair op place l r) = pair_tells position op place l r
required_tells position (and_expr place l r) = and_tells position place l r (is_safe l) refl (required position l) (required position r) (required_tells position l) (required_tells position r)
required_tells position (or_expr place l r) = or_tells position place l r (required position l) (required position r) (required_tells position l) (required_tells position r)

-- a row has the required value, or the row filter is FALSE of it
value_or_false : (position : ℕ) (g : Expr) (v : Value) → required position g ≡ Some v → (x : Row) → (value_at x position ≡ v) ⊎ (condition g x ≡ Ok false)
value_or_false position g v told x =
    let tells : Tells position g (Some v) = subst (Tells position g) told (required_tells position g) in
    elim (is_eq (value_cmp (value_at x position) v)) as (λ b. is_eq (value_cmp (value_at x position) v) ≡ b → (value_at x position ≡ v) ⊎ (condition g x ≡ Ok false)) [
      | true ↦ λ e. inl ((eq_by_cmp-≡ value_cmp value_total value_separates (value_at x position) v).0 e)
      | false ↦ λ e. inr (tells x e)
    ] refl

-- ---- values at some positions

abbrev head_of : List (Option Value) → Option Value
head_of [] = None
head_of (o ∷ os) = o

abbrev tail_of : List (Option Value) → List (Option Value)
tail_of [] = []
tail_of (o ∷ os) = os

-- a row has the required values, or the row filter is FALSE of it
part_or_false : (g : Expr) (positions : List ℕ) (values : Row) → AreRequired g positions values → (x : Row) → (part_of positions x ≡ values) ⊎ (condition g x ≡ Ok false)
part_or_false g [] [] told x = inl refl
part_or_false g [] (v ∷ values) told x = absurd cc
part_or_false g (i ∷ positions) [] told x = absurd cc
part_or_false g (i ∷ positions) (v ∷ values) told x =
    let first : required i g ≡ Some v = ap head_of told in
    let rest : AreRequired g positions values = ap tail_of told in
    elim (value_or_false i g v first x) [
      | inl same ↦
          elim (part_or_false g positions values rest x) [
            | inl parts ↦ inl (ap₂ (λ (u : Value) (us : Row). u ∷ us) (sym (value_at-get x i) ∙ same) parts)
            | inr told_false ↦ inr told_false
          ]
      | inr told_false ↦ inr told_false
    ]

-- so it has their hash, or the row filter is FALSE of it
hash_or_false : (g : Expr) (positions : List ℕ) (values : Row) → AreRequired g positions values → (x : Row) → (hash_of positions x ≡ row_hash values) ⊎ (condition g x ≡ Ok false)
hash_or_false g positions values told x =
    elim (part_or_false g positions values told x) [
      | inl parts ↦ inl (ap row_hash parts)
      | inr told_false ↦ inr told_false
    ]

-- ---- one required value more

pub required_more : (g : Expr) (positions : List ℕ) (k : ℕ) (v : OwnValue) (before now : List OwnValue) → k < length positions → Some (plain v) ≡ required (get_or positions k 0) g
    → AreRequired g (take k positions) (map plain before) → now ≡ before ++ v ∷ [] → AreRequired g (take (k + 1) positions) (map plain now)
required_more g positions k v before now l told so_far more =
    let longer : map (λ u. Some u) (map plain now) ≡ map (λ u. Some u) (map plain before) ++ Some (plain v) ∷ [] =
    ap (λ (us : List OwnValue). map (λ u. Some u) (map plain us)) more
    ∙ (ap (map (λ u. Some u)) (map-append plain before (v ∷ [])) ∙ map-append (λ u. Some u) (map plain before) (plain v ∷ [])) in
    map_more (λ j. required j g) positions k 0 l
    ∙ (ap₂ (λ (os : List (Option Value)) (o : Option Value). os ++ o ∷ []) so_far (sym told) ∙ sym longer)

-- ---- rows that begin with a value

then_equal : (o : Ordering) → is_eq (ordering_then o Equal) ≡ is_eq o
then_equal Less = refl
then_equal Equal = refl
then_equal Greater = refl

-- a row that begins with one value
begins_one : (v u : Value) (x : Row) → begins_with (v ∷ []) (u ∷ x) ≡ is_eq (value_cmp u v)
begins_one v u x = then_equal (value_cmp u v)

-- what is not among some rows does not stay, so that nothing is lost
filter_within : (p q : Row → Bool) (rows : List Row) → ((x : Row) → In x rows → q x ≡ false → p x ≡ false) → filter p (filter q rows) ≡ filter p rows
filter_within p q [] h = refl
filter_within p q (x ∷ rows) h =
    let rest = filter_within p q rows (λ y i. h y (inr i)) in
    elim (q x) as (λ b. q x ≡ b → filter p (cond b (x ∷ filter q rows) (filter q rows)) ≡ filter p (x ∷ rows)) [
      | true ↦ λ e. ap (λ (zs : List Row). cond (p x) (x ∷ zs) zs) rest
      | false ↦ λ e. rest ∙ sym (ap (λ b. cond b (x ∷ filter p rows) (filter p rows)) (h x (inl refl) e))
    ] refl

-- ---- a heading for which the row filter is typed has the attribute

abbrev IsLong : ℕ → Heading → Option Value → Type 0
IsLong position heading None = Unit {0}
IsLong position heading (Some v) = position < length heading

long_any : (position : ℕ) (heading : Heading) (o : Option Value) → position < length heading → IsLong position heading o
long_any position heading None l = tt
long_any position heading (Some v) l = l

attribute_long : (position : ℕ) (heading : Heading) (place : Place) (i : ℕ) (kind : Kind) (e : Expr) → IsTyped heading (attribute place i) kind → IsLong position heading (if nat_eq i position then required_by_constant e else None)
attribute_long position heading place i kind e t =
    elim (nat_eq i position) as (λ b. nat_eq i position ≡ b → IsLong position heading (if b then required_by_constant e else None)) [
      | true ↦ λ z. long_any position heading (required_by_constant e) (subst (λ k. k < length heading) (eqb-true i position z) (slice_get_within heading i (t.0, kind) t.1))
      | false ↦ λ z. tt
    ] refl

equal_long : (position : ℕ) (heading : Heading) (l r : Expr) (kind : Kind) → IsTyped heading l kind → IsLong position heading (required_by_equal position l r)
equal_long position heading (attribute place i) r kind t = attribute_long position heading place i kind r t
equal_long position heading (constant at k v) r kind t = tt
equal_long position heading (one op place e) r kind t = tt
equal_long position heading (pair op at l' r') r kind t = tt
equal_long position heading (and_expr at l' r') r kind t = tt
equal_long position heading (or_expr at l' r') r kind t = tt

pair_long : (position : ℕ) (heading : Heading) (op : PairOp) (l r : Expr) (kind : Kind) → IsTyped heading l kind → IsLong position heading (if_equal op (required_by_equal position l r))
pair_long position heading (Compare EqualTo) l r kind t = equal_long position heading l r kind t
pair_long position heading _ l r kind t = tt

and_long : (position : ℕ) (heading : Heading) (f : Option Value) (safe : Bool) (g : Option Value) → IsLong position heading f → IsLong position heading g → IsLong position heading (required_by_and f safe g)
and_long position heading (Some f) safe g h k = h
and_long position heading None true g h k = k
and_long position heading None false g h k = tt

or_long : (position : ℕ) (heading : Heading) (f g : Option Value) → IsLong position heading f → IsLong position heading (required_by_or f g)
or_long position heading None g h = tt
or_long position heading (Some f) None h = tt
or_long position heading (Some f) (Some g) h =
    elim (eq_by_cmp value_cmp f g) as (λ b. IsLong position heading (if b then Some f else None)) [
      | true ↦ h
      | false ↦ tt
    ]

required_long : (position : ℕ) (heading : Heading) (g : Expr) (kind : Kind) → IsTyped heading g kind → IsLong position heading (required position g)
required_long position heading (constant place k v) kind t = tt
required_long position heading (attribute place i) kind t = tt
required_long position heading (one op place e) kind t = tt
required_long position heading (pair op place l r) kind t = pair_long position heading op l r t.0 t.2
required_long position heading (and_expr place l r) kind t =
    and_long position heading (required position l) (is_safe l) (required position r) (required_long position heading l Truth t.0) (required_long position heading r Truth t.1)
required_long position heading (or_expr place l r) kind t = or_long position heading (required position l) (required position r) (required_long position heading l Truth t.0)

-- ---- the rows of a relation that begin with the first value

module _ (r : Relation) (is : IsRelation r) (g : Expr) (typed : IsTyped r.heading g Truth) where
  abbrev kept : Row → Bool
  kept = λ row. stays (condition g row)

  row_fits : (x : Row) → In x r.rows → IsTrue (fits_heading r.heading x)
  row_fits x i = (list_all-In (fits_heading r.heading) r.rows).0 is.fitting x i

  over : (x : Row) → In x r.rows → IsConditionOver x g
  over x i = record {
    heading = r.heading;
    fits = row_fits x i;
    typed = typed;
  }

  module _ (v : Value) (told : required 0 g ≡ Some v) where
    others_go : (x : Row) → 0 < length x → begins_with (v ∷ []) x ≡ false → kept x ≡ false
    others_go [] l b = absurd (omega (arith, l))
    others_go (u ∷ x) l b =
        let tells : Tells 0 g (Some v) = subst (Tells 0 g) told (required_tells 0 g) in
        ap stays (tells (u ∷ x) (sym (begins_one v u x) ∙ b))

    row_long : (x : Row) → In x r.rows → 0 < length x
    row_long x i =
        let first : 0 < length r.heading = subst (IsLong 0 r.heading) told (required_long 0 r.heading g Truth typed) in
        let same : length x ≡ length r.heading = length_of_fit r.heading x (row_fits x i) in
        omega (arith, first, same)

    -- nothing is lost
    pub found_stay : (values : Row) (given found rows : List Row) → values ≡ v ∷ [] → given ≡ r.rows → found ≡ filter (begins_with values) given → rows ≡ filter kept found → rows ≡ filter kept r.rows
    found_stay values given found rows is_one same these are =
        are
        ∙ (ap (filter kept) (these ∙ ap₂ (λ (z : Row) (zs : List Row). filter (begins_with z) zs) is_one same)
        ∙ filter_within kept (begins_with (v ∷ [])) r.rows (λ x i b. others_go x (row_long x i) b))

  pub found_over : (values : Row) (given found : List Row) → given ≡ r.rows → found ≡ filter (begins_with values) given → All (λ (row : Row). IsConditionOver row g) found
  found_over values given found same these =
      subst (All (λ (row : Row). IsConditionOver row g)) (sym (these ∙ ap (filter (begins_with values)) same)) (All-In (λ (row : Row). IsConditionOver row g) (filter (begins_with values) r.rows) (λ x i.
      over x ((In-filter (begins_with values) x r.rows).0 i).0))

-- ---- a pass over hashes

module _ (g : Expr) (positions : List ℕ) (values : Row) (told : AreRequired g positions values) (rows : List Row) (hashes : List ℕ) (are : hashes ≡ map (hash_of positions) rows)
    (i : ℕ) (l : i < length rows) where
  abbrev chosen : Row → Bool
  chosen = λ row. stays (condition g row)

  -- a row with the hash, asked
  pub hashed_more : (x : Row) → x ≡ get_or rows i x → (before now : List Row) → before ≡ filter chosen (take i rows) → now ≡ before ++ (if chosen x then x ∷ [] else []) → now ≡ filter chosen (take (i + 1) rows)
  hashed_more x here before now so_far more =
      more
      ∙ (ap (λ (b : List Row). b ++ (if chosen x then x ∷ [] else [])) so_far
      ∙ (ap (λ (z : Row). filter chosen (take i rows) ++ (if chosen z then z ∷ [] else [])) here ∙ sym (filter_more chosen rows i x l)))

  own_hash : get_or hashes i 0 ≡ hash_of positions (get_or rows i [])
  own_hash = ap (λ (ms : List ℕ). get_or ms i 0) are ∙ get_or-map (hash_of positions) rows i [] 0 l

  not_chosen : (get_or hashes i 0 ≡ row_hash values → ⊥) → chosen (get_or rows i []) ≡ false
  not_chosen other =
      elim (hash_or_false g positions values told (get_or rows i [])) [
        | inl same ↦ absurd (other (own_hash ∙ same))
        | inr told_false ↦ ap stays told_false
      ]

  -- a row with another hash, left out
  pub unhashed : (before now : List Row) → (get_or hashes i 0 ≡ row_hash values → ⊥) → before ≡ filter chosen (take i rows) → now ≡ before → now ≡ filter chosen (take (i + 1) rows)
  unhashed before now other so_far same =
      let none : filter chosen (take (i + 1) rows) ≡ filter chosen (take i rows) ++ [] =
      filter_more chosen rows i [] l ∙ ap (λ b. filter chosen (take i rows) ++ (if b then get_or rows i [] ∷ [] else [])) (not_chosen other) in
      same ∙ (so_far ∙ sym (none ∙ append-nil (filter chosen (take i rows))))
