-- The heading of a log, and the rows that fit it.
use Rattle.std.proofs.Common.{◌≡◌, inl, inr, ℕ, zero, suc, ◌<◌, ◌≤◌, ℤ, ◌≤ℤ◌, Bool, true, false, ◌&&◌, [], ◌∷◌, ◌++◌, length, refl, sym, ap, ◌∙◌, subst, arith, if◌then◌else◌, None, Less, Equal, Greater}
use Rattle.std.specs.Prelude.{int_le}
use Rattle.std.specs.Bool.{IsTrue}
use Rattle.std.specs.Cmp.Lexicographic.{nat_list_eq_equiv}
use Rattle.std.specs.List.Sorted.{IsPermutation}
use Rattle.std.specs.Str.{bytes_eq}
use Rattle.std.proofs.lemmas.Bool.{true≢false, and_parts, and_from, or_parts}
use Rattle.std.proofs.lemmas.Int.{ints}
use Rattle.std.proofs.lemmas.List.Sorted.{IsPermutation-sym}
use Rattle.base_core.specs.Sets.{put, placed, in_order}
use Rattle.base_core.proofs.ListLemmas.{bytes_eq-sym}
use Rattle.base_core.proofs.MemberLemmas.{In-append}
use Rattle.base_core.proofs.SetLemmas.{In, Ascends}
use Rattle.base_core.proofs.SetOperatorLemmas.{In-permutation}
use Rattle.base_core.proofs.IntLemmas.{le-int_le, int_le-le}
use Rattle.interval_core.specs.Members.{Span}
use Rattle.point_core.specs.declared.any_type.AnyType.TheVariants.{Integer}
use Rattle.point_core.specs.Points.{integers, is_number}
use Rattle.point_core.specs.Whole.{least_whole, greatest_whole}
use Rattle.value_core.specs.Attributes.{value_at, with_span, put_span}
use Rattle.value_core.specs.Headings.{has_name, position_of, first_repeat}
use Rattle.value_core.specs.Values.{Name, Row, Heading, Value, interval, fits, fits_heading, attribute_cmp, is_heading, is_interval}
use Rattle.value_core.specs.declared.kind.Kind.{Kind}
use Rattle.value_core.proofs.FitLemmas.{interval_that_fits}
use Rattle.value_core.proofs.HeadingLemmas.{attribute_total}
use Rattle.relation_core.specs.Parts.{kind_at}
use Rattle.relation_core.proofs.AttributeLemmas.{same_name, name_is, named_In, apart_no_repeat}
use Rattle.relation_core.proofs.ApartLemmas.{Tells, Apart-append, apart_ascending, tells_ascending, ascends_in_order, from_in_order, into_in_order}
use Rattle.relation_core.proofs.HeadingLemmas.{one_list, heading_ascends}
use Rattle.log_times.specs.Logs.{stamped, statements}
use Rattle.log_times.specs.Turns.{kind_of_statements, IsLogHeading, without, log_heading, side_of}

-- ---- where the attribute stands

abbrev IsPlaced : Heading → Heading → ℕ → Type 0
IsPlaced heading log side = (side < length log) × (kind_at log side ≡ kind_of_statements) × (without side log ≡ heading)

-- in front
placed_first : (h : Heading) (name : Name) → IsPlaced h ((name, kind_of_statements) ∷ h) (position_of ((name, kind_of_statements) ∷ h) name)
placed_first h name =
    subst (λ (b : Bool). IsPlaced h ((name, kind_of_statements) ∷ h) (if b then 0 else suc (position_of h name))) (sym (nat_list_eq_equiv.refl name)) (omega arith, refl, refl)

-- behind an attribute of another name
placed_behind : (b : Name × Kind) (h more : Heading) (name : Name) → bytes_eq b.0 name ≡ false → IsPlaced h more (position_of more name) → IsPlaced (b ∷ h) (b ∷ more) (position_of (b ∷ more) name)
placed_behind b h more name other p =
    subst (λ (t : Bool). IsPlaced (b ∷ h) (b ∷ more) (if t then 0 else suc (position_of more name))) (sym other) (omega (arith, p.0), p.1, ap (λ (r : Heading). b ∷ r) p.2)

placed_in : (h : Heading) (name : Name) → has_name h name ≡ false → IsPlaced h (put attribute_cmp (name, kind_of_statements) h) (position_of (put attribute_cmp (name, kind_of_statements) h) name)
placed_in [] name new = placed_first [] name
placed_in (b ∷ rest) name new =
    let a : Name × Kind = (name, kind_of_statements) in
    let parts = or_parts (bytes_eq b.0 name) (has_name rest name) new in
    elim (attribute_cmp a b) as (λ r. attribute_cmp a b ≡ r → IsPlaced (b ∷ rest) (placed r a b rest (put attribute_cmp a rest)) (position_of (placed r a b rest (put attribute_cmp a rest)) name)) [
      | Less ↦ λ e. placed_first (b ∷ rest) name
      | Equal ↦ λ e. absurd (true≢false (sym (same_name a b e) ∙ (bytes_eq-sym name b.0 ∙ parts.0)))
      | Greater ↦ λ e. placed_behind b rest (put attribute_cmp a rest) name parts.0 (placed_in rest name parts.1)
    ] refl

module _ (h : Heading) (name : Name) (headed : IsTrue (is_heading h)) (new : has_name h name ≡ false) where
  up : Ascends attribute_cmp h
  up = heading_ascends h headed

  -- no attribute has the name
  another : (b : Name × Kind) → In b h → b.0 ≡ name → ⊥
  another b i e = true≢false (sym (subst (λ m. IsTrue (has_name h m)) e (named_In h b i)) ∙ new)

  all_tell : Tells attribute_cmp ((name, kind_of_statements) ∷ h)
  all_tell x y i j e = elim i [
    | inl p ↦ elim j [
      | inl q ↦ p ∙ sym q
      | inr k ↦ absurd (another y k (sym (name_is x.0 y.0 (same_name x y e)) ∙ ap (λ (a : Name × Kind). a.0) p))
    ]
    | inr k ↦ elim j [
      | inl q ↦ absurd (another x k (name_is x.0 y.0 (same_name x y e) ∙ ap (λ (a : Name × Kind). a.0) q))
      | inr l ↦ tells_ascending attribute_cmp attribute_total h up x y k l e
    ]
  ]

  ordered : in_order attribute_cmp h ≡ h
  ordered = one_list attribute_cmp attribute_total (in_order attribute_cmp h) h (ascends_in_order attribute_cmp attribute_total h) up (λ a. (
    from_in_order attribute_cmp a h,
    into_in_order attribute_cmp a h (tells_ascending attribute_cmp attribute_total h up),
  ))

  log_is_put : log_heading h name ≡ put attribute_cmp (name, kind_of_statements) h
  log_is_put = ap (put attribute_cmp (name, kind_of_statements)) ordered

  log_at : IsPlaced h (log_heading h name) (side_of h name)
  log_at = subst (λ (l : Heading). IsPlaced h l (position_of l name)) (sym log_is_put) (placed_in h name new)

  pub log_placed : IsLogHeading (side_of h name) (log_heading h name)
  log_placed = record { within = log_at.0; kind = log_at.1 }

  pub log_without : without (side_of h name) (log_heading h name) ≡ h
  log_without = log_at.2

  -- the list of the attributes, from which it is made
  pub no_repeat_more : first_repeat (h ++ (name, kind_of_statements) ∷ []) ≡ None
  no_repeat_more =
      let a : Name × Kind = (name, kind_of_statements) in
      apart_no_repeat (h ++ a ∷ []) (Apart-append attribute_cmp h (a ∷ []) (apart_ascending attribute_cmp h up) (λ y i e. absurd i, tt) (λ x y i j e. elim j [
        | inl q ↦ another x i (name_is x.0 y.0 (same_name x y e) ∙ ap (λ (b : Name × Kind). b.0) q)
        | inr k ↦ absurd k
      ]))

  pub made_is_log : (made : Heading) → IsPermutation (h ++ (name, kind_of_statements) ∷ []) made → IsTrue (is_heading made) → made ≡ log_heading h name
  made_is_log made moved sorted =
      let a : Name × Kind = (name, kind_of_statements) in
      let list : Heading = h ++ a ∷ [] in
      one_list attribute_cmp attribute_total made (log_heading h name) (heading_ascends made sorted) (ascends_in_order attribute_cmp attribute_total (a ∷ h)) (λ x. (
        λ i. into_in_order attribute_cmp x (a ∷ h) all_tell (elim ((In-append x h (a ∷ [])).0 (In-permutation made list x (IsPermutation-sym list made moved) i)) [
          | inl k ↦ inr k
          | inr k ↦ elim k [ inl e ↦ inl e | inr n ↦ absurd n ]
        ]),
        λ i. In-permutation list made x moved ((In-append x h (a ∷ [])).1 (elim (from_in_order attribute_cmp x (a ∷ h) i) [ inl e ↦ inr (inl e) | inr k ↦ inl k ])),
      ))

-- ---- rows that fit

pub whole_interval : (b e : ℤ) → least_whole ≤ℤ b → b ≤ℤ e → e ≤ℤ greatest_whole → IsTrue (is_interval Integer (b, e))
whole_interval b e low ordered high =
    let begin : is_number Integer b ≡ true = and_from (int_le least_whole b) (int_le b greatest_whole) (le-int_le least_whole b low) (le-int_le b greatest_whole (chain b e greatest_whole ordered high)) in
    let end : is_number Integer e ≡ true = and_from (int_le least_whole e) (int_le e greatest_whole) (le-int_le least_whole e (chain least_whole b e low ordered)) (le-int_le e greatest_whole high) in
    and_from (is_number Integer b) (is_number Integer e && int_le b e) begin (and_from (is_number Integer e) (int_le b e) end (le-int_le b e ordered))
  where
    chain : (x y z : ℤ) → x ≤ℤ y → y ≤ℤ z → x ≤ℤ z
    chain x y z h k = omega (arith, ints, h, k)

fits_kind : (k : Kind) (i : Span) → k ≡ kind_of_statements → IsTrue (is_interval Integer i) → IsTrue (fits k (interval integers i))
fits_kind k i e h = subst (λ m. IsTrue (fits m (interval integers i))) (sym e) h

pub stamped_fits : (heading : Heading) (side : ℕ) (i : Span) (x : Row) → side < length heading → kind_at heading side ≡ kind_of_statements → IsTrue (is_interval Integer i) → IsTrue (fits_heading (without side heading) x)
    → IsTrue (fits_heading heading (stamped side i x))
stamped_fits [] side i x l kind whole h = absurd (omega arith)
stamped_fits (a ∷ rest) zero i x l kind whole h = and_from (fits a.1 (interval integers i)) (fits_heading rest x) (fits_kind a.1 i kind whole) h
stamped_fits (a ∷ rest) (suc side) i [] l kind whole h = absurd (true≢false (sym h))
stamped_fits (a ∷ rest) (suc side) i (v ∷ x) l kind whole h =
    let parts = and_parts (fits a.1 v) (fits_heading (without side rest) x) h in
    and_from (fits a.1 v) (fits_heading rest (stamped side i x)) parts.0 (stamped_fits rest side i x (omega (arith, l)) kind whole parts.1)

pub long_enough : (heading : Heading) (side : ℕ) (x : Row) → side < length heading → IsTrue (fits_heading (without side heading) x) → side ≤ length x
long_enough [] side x l h = absurd (omega arith)
long_enough (a ∷ rest) zero x l h = omega arith
long_enough (a ∷ rest) (suc side) [] l h = absurd (true≢false (sym h))
long_enough (a ∷ rest) (suc side) (v ∷ x) l h =
    let k = long_enough rest side x (omega (arith, l)) (and_parts (fits a.1 v) (fits_heading (without side rest) x) h).1 in
    omega (arith, k)

-- the value at the place is an interval of integers
value_fits : (heading : Heading) (side : ℕ) (row : Row) → side < length heading → kind_at heading side ≡ kind_of_statements → IsTrue (fits_heading heading row) → IsTrue (fits kind_of_statements (value_at row side))
value_fits [] side row l kind h = absurd (omega arith)
value_fits (a ∷ rest) side [] l kind h = absurd (true≢false (sym h))
value_fits (a ∷ rest) zero (v ∷ row) l kind h = subst (λ k. IsTrue (fits k v)) kind (and_parts (fits a.1 v) (fits_heading rest row) h).0
value_fits (a ∷ rest) (suc side) (v ∷ row) l kind h = value_fits rest side row (omega (arith, l)) kind (and_parts (fits a.1 v) (fits_heading rest row) h).1

-- its begin is an integer of the type
pub begin_whole : (heading : Heading) (side : ℕ) (row : Row) → side < length heading → kind_at heading side ≡ kind_of_statements → IsTrue (fits_heading heading row) → least_whole ≤ℤ (statements side row).0
begin_whole heading side row l kind h =
    let i : Span = statements side row in
    let fit : IsTrue (fits kind_of_statements (value_at row side)) = value_fits heading side row l kind h in
    let whole : IsTrue (is_interval Integer i) = subst (λ v. IsTrue (fits kind_of_statements v)) (interval_that_fits Integer (value_at row side) fit) fit in
    let begin : is_number Integer i.0 ≡ true = (and_parts (is_number Integer i.0) (is_number Integer i.1 && int_le i.0 i.1) whole).0 in
    int_le-le least_whole i.0 (and_parts (int_le least_whole i.0) (int_le i.0 greatest_whole) begin).0

with_fits : (v : Value) (i : Span) → IsTrue (fits kind_of_statements v) → IsTrue (is_interval Integer i) → IsTrue (fits kind_of_statements (with_span v i))
with_fits v i h whole =
    let new : with_span v i ≡ interval integers i = ap (λ w. with_span w i) (interval_that_fits Integer v h) in
    subst (λ w. IsTrue (fits kind_of_statements w)) (sym new) whole

pub put_fits : (heading : Heading) (side : ℕ) (i : Span) (row : Row) → side < length heading → kind_at heading side ≡ kind_of_statements → IsTrue (is_interval Integer i) → IsTrue (fits_heading heading row)
    → IsTrue (fits_heading heading (put_span row side i))
put_fits [] side i row l kind whole h = absurd (omega arith)
put_fits (a ∷ rest) side i [] l kind whole h = absurd (true≢false (sym h))
put_fits (a ∷ rest) zero i (v ∷ row) l kind whole h =
    let parts = and_parts (fits a.1 v) (fits_heading rest row) h in
    let fit : IsTrue (fits a.1 (with_span v i)) = subst (λ k. IsTrue (fits k (with_span v i))) (sym kind) (with_fits v i (subst (λ k. IsTrue (fits k v)) kind parts.0) whole) in
    and_from (fits a.1 (with_span v i)) (fits_heading rest row) fit parts.1
put_fits (a ∷ rest) (suc side) i (v ∷ row) l kind whole h =
    let parts = and_parts (fits a.1 v) (fits_heading rest row) h in
    and_from (fits a.1 v) (fits_heading rest (put_span row side i)) parts.0 (put_fits rest side i row (omega (arith, l)) kind whole parts.1)
