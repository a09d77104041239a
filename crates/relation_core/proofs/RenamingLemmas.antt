-- Attributes with new names, and rows whose values stand beside them.
use Rattle.std.proofs.Common.{◌≡◌, ℕ, zero, suc, ◌+◌, ◌<◌, List, [], ◌∷◌, ◌++◌, length, get_or, take, map, refl, sym, ap, ◌∙◌, subst, arith, inl, inr, true, false, if◌then◌else◌, Some, None}
use Rattle.std.specs.Bool.{IsTrue}
use Rattle.std.specs.List.{All, AllByRecursion, IsDistinct, list_all}
use Rattle.std.specs.List.Sorted.{IsPermutation}
use Rattle.std.specs.Str.{bytes_eq}
use Rattle.std.specs.Cmp.Lexicographic.{nat_list_eq_equiv}
use Rattle.std.proofs.lemmas.Bool.{true≢false, and_parts, and_from}
use Rattle.std.proofs.lemmas.List.Folds.{list_any-append}
use Rattle.std.proofs.lemmas.List.Sorted.{IsPermutation-sym}
use Rattle.base_core.proofs.SetLemmas.{In, In-in_order}
use Rattle.base_core.proofs.MemberLemmas.{In-map, list_all-In, list_any-In}
use Rattle.base_core.proofs.SetOperatorLemmas.{In-permutation}
use Rattle.value_core.specs.Headings.{has_name, repeat_after, first_repeat}
use Rattle.value_core.specs.Order.{row_total, row_separates}
use Rattle.value_core.specs.Relations.{all_fit}
use Rattle.value_core.specs.Values.{Name, Row, Heading, truth, fits, fits_heading, row_cmp}
use Rattle.value_core.specs.declared.kind.Kind.{Kind}
use Rattle.relation_core.specs.Agreement.{names_of, position_of, part_of}
use Rattle.relation_core.specs.Parts.{renamed, positions_in, projected}
use Rattle.relation_core.proofs.AgreementLemmas.{positions_within}
use Rattle.relation_core.proofs.HeadingLemmas.{neither}

-- ---- one attribute more

pub renamed_more : (names : List Name) (heading : Heading) (i : ℕ) (d : Name) (e : Name × Kind) → i < length names → i < length heading
    → renamed (take (i + 1) names) (take (i + 1) heading) ≡ renamed (take i names) (take i heading) ++ (get_or names i d, (get_or heading i e).1) ∷ []
renamed_more names heading i d e l m = let next : suc i ≡ i + 1 = omega arith in subst (λ k. renamed (take k names) (take k heading) ≡ renamed (take i names) (take i heading) ++ (get_or names i d, (get_or heading i e).1) ∷ []) next (more names heading i l m)
  where
    more : (ns : List Name) (h : Heading) (k : ℕ) → k < length ns → k < length h → renamed (take (suc k) ns) (take (suc k) h) ≡ renamed (take k ns) (take k h) ++ (get_or ns k d, (get_or h k e).1) ∷ []
    more [] h k l m = absurd (omega arith)
    more (n ∷ ns) [] k l m = absurd (omega arith)
    more (n ∷ ns) (a ∷ h) zero l m = refl
    more (n ∷ ns) (a ∷ h) (suc k) l m = ap (λ r. (n, a.1) ∷ r) (more ns h k (omega arith) (omega arith))

pub length-renamed : (names : List Name) (heading : Heading) → length names ≡ length heading → length (renamed names heading) ≡ length heading
length-renamed [] [] e = refl
length-renamed [] (a ∷ rest) e = absurd (omega (arith, e))
length-renamed (n ∷ names) [] e = absurd (omega (arith, e))
length-renamed (n ∷ names) (a ∷ rest) e = let h = length-renamed names rest (omega (arith, e)) in omega (arith, h)

-- ---- different names

-- the name of an attribute with a new name is one of these
pub name_in : (names : List Name) (heading : Heading) (a : Name × Kind) → In a (renamed names heading) → In a.0 names
name_in [] heading a i = absurd i
name_in (n ∷ names) [] a i = absurd i
name_in (n ∷ names) (b ∷ rest) a i = elim i [ inl e ↦ inl (ap (λ (z : Name × Kind). z.0) e) | inr j ↦ inr (name_in names rest a j) ]

apart : (n : Name) (names : List Name) (m : Name) → AllByRecursion (λ k. bytes_eq n k ≡ false) names → In m names → bytes_eq n m ≡ false
apart n [] m h i = absurd i
apart n (k ∷ names) m h i = elim i [ inl e ↦ ap (bytes_eq n) e ∙ h.0 | inr j ↦ apart n names m h.1 j ]

none_new : (prefix : Heading) (n : ℕ) (names : List Name) (heading : Heading) → ((m : Name) → In m names → has_name prefix m ≡ false) → IsDistinct bytes_eq names → repeat_after prefix n (renamed names heading) ≡ None
unfolding IsDistinct
none_new prefix n [] heading h different = refl
none_new prefix n (m ∷ names) [] h different = refl
none_new prefix n (m ∷ names) (a ∷ rest) h different =
    let b : Name × Kind = (m, a.1) in
    let here : has_name prefix m ≡ false = h m (inl refl) in
    let more = none_new (prefix ++ b ∷ []) (n + 1) names rest (λ k i.
    list_any-append (λ (c : Name × Kind). bytes_eq c.0 k) prefix (b ∷ []) ∙ neither (has_name prefix k) (bytes_eq m k) (h k (inr i)) (apart m names k different.0 i)) different.1 in
    ap (λ t. if t then Some n else repeat_after (prefix ++ b ∷ []) (n + 1) (renamed names rest)) here ∙ more

pub renamed_differ : (names : List Name) (heading : Heading) → IsDistinct bytes_eq names → first_repeat (renamed names heading) ≡ None
renamed_differ names heading different = none_new [] 0 names heading (λ m i. refl) different

-- ---- what fits

-- at the position of its name an attribute with a new name has what fits it
at_position : (names : List Name) (heading : Heading) (row : Row) (a : Name × Kind) → IsDistinct bytes_eq names → IsTrue (fits_heading heading row) → In a (renamed names heading)
    → IsTrue (fits a.1 (get_or row (position_of (renamed names heading) a.0) (truth false)))
unfolding IsDistinct
at_position [] heading row a different fit i = absurd i
at_position (n ∷ names) [] row a different fit i = absurd i
at_position (n ∷ names) (b ∷ rest) [] a different fit i = absurd (true≢false (sym fit))
at_position (n ∷ names) (b ∷ rest) (v ∷ vs) a different fit i =
    let both = and_parts (fits b.1 v) (fits_heading rest vs) fit in
    elim i [
      | inl e ↦
          let same : bytes_eq n a.0 ≡ true = ap (λ (z : Name × Kind). bytes_eq n z.0) e ∙ nat_list_eq_equiv.refl n in
          let kind : a.1 ≡ b.1 = ap (λ (z : Name × Kind). z.1) e in
          subst (λ t. IsTrue (fits a.1 (get_or (v ∷ vs) (if t then 0 else suc (position_of (renamed names rest) a.0)) (truth false)))) (sym same) (ap (λ k. fits k v) kind ∙ both.0)
      | inr j ↦
          let other : bytes_eq n a.0 ≡ false = apart n names a.0 different.0 (name_in names rest a j) in
          subst (λ t. IsTrue (fits a.1 (get_or (v ∷ vs) (if t then 0 else suc (position_of (renamed names rest) a.0)) (truth false)))) (sym other) (at_position names rest vs a different.1 both.1 j)
    ]

row_fits : (names : List Name) (heading some : Heading) (row : Row) → IsDistinct bytes_eq names → IsTrue (fits_heading heading row) → ((a : Name × Kind) → In a some → In a (renamed names heading))
    → IsTrue (fits_heading some (part_of (positions_in (renamed names heading) some) row))
row_fits names heading [] row different fit h = refl
row_fits names heading (a ∷ some) row different fit h =
    and_from _ (fits_heading some (part_of (positions_in (renamed names heading) some) row)) (at_position names heading row a different fit (h a (inl refl))) (row_fits names heading some row different fit (λ b i. h b (inr i)))

module _ (names : List Name) (old new : Heading) (different : IsDistinct bytes_eq names) (moved : IsPermutation (renamed names old) new) where
  back : (a : Name × Kind) → In a new → In a (renamed names old)
  back a i = In-permutation new (renamed names old) a (IsPermutation-sym (renamed names old) new moved) i

  pub rows_fit : (rows : List Row) → IsTrue (all_fit old rows) → IsTrue (all_fit new (projected (positions_in (renamed names old) new) rows))
  rows_fit rows h = (list_all-In (fits_heading new) (projected (positions_in (renamed names old) new) rows)).1 (λ z i.
      let m = (In-map (part_of (positions_in (renamed names old) new)) z rows).0 ((In-in_order row_cmp row_total row_separates z (map (part_of (positions_in (renamed names old) new)) rows)).0 i) in
      subst (λ w. IsTrue (fits_heading new w)) (sym m.2) (row_fits names old new m.0 different ((list_all-In (fits_heading old) rows).0 h m.0 m.1) back))

  named : IsTrue (list_all (has_name (renamed names old)) (names_of new))
  named = (list_all-In (has_name (renamed names old)) (names_of new)).1 (λ n i.
      let a = (In-map (λ b. b.0) n new).0 i in
      (list_any-In (λ b. bytes_eq b.0 n) (renamed names old)).1 (a.0, back a.0 a.1, subst (λ z. bytes_eq a.0.0 z ≡ true) (sym a.2) (nat_list_eq_equiv.refl a.0.0)))

  pub positions_fit : length names ≡ length old → All (λ (i : ℕ). i < length old) (positions_in (renamed names old) new)
  positions_fit e k d l =
      let same = length-renamed names old e in
      let below = positions_within (renamed names old) (names_of new) named k d l in
      omega (arith, same, below)
