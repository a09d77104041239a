-- Keys by their names: they are apart from the list, and rows that agree have one key.
use Rattle.std.proofs.Common.{◌≡◌, inl, inr, ℕ, suc, ◌<◌, Bool, true, false, not, List, [], ◌∷◌, map, length, get_or, refl, sym, ap, ◌∙◌, subst, if◌then◌else◌}
use Rattle.std.specs.Bool.{IsTrue}
use Rattle.std.specs.Cmp.Lexicographic.{texts_ties, nat_list_eq_equiv}
use Rattle.std.specs.List.{filter, list_any}
use Rattle.std.specs.Ordering.{eq_by_cmp, is_eq}
use Rattle.std.specs.Str.{bytes_eq}
use Rattle.std.proofs.lemmas.Bool.{not-true, true≢false}
use Rattle.std.proofs.lemmas.List.{get_or_default}
use Rattle.base_core.proofs.ListLemmas.{map-In, In-get_or}
use Rattle.base_core.proofs.MemberLemmas.{In-map, In-filter, list_any-In, eq_by_cmp-≡}
use Rattle.base_core.proofs.SetLemmas.{In, Ascends}
use Rattle.base_core.proofs.SetOperatorLemmas.{AllAfter-In, same_tests}
use Rattle.value_core.specs.Headings.{has_name, position_of}
use Rattle.value_core.specs.Order.{row_total, row_separates}
use Rattle.value_core.specs.Values.{Name, Row, Heading, attribute_cmp, row_cmp}
use Rattle.value_core.specs.declared.kind.Kind.{Kind}
use Rattle.relation_core.specs.Agreement.{names_of, common_names, common_positions, part_of, agree}
use Rattle.relation_core.specs.Parts.{no_attribute, attributes_at}
use Rattle.relation_core.proofs.AttributeLemmas.{of_name}
use Rattle.relation_core.proofs.FilterLemmas.{filter_all}
use Rattle.relation_core.proofs.JoinLemmas.{value_of}
use Rattle.u_row.proofs.LabelLemmas.{map_twice}
use Rattle.u_join.proofs.NameLemmas.{name_back, maps_agree, by_names}
use Rattle.cell_boxes.proofs.SharedLemmas.{map_same}
use Rattle.kept_views.specs.Kept.{names_at, unlisted_names, has_key}
use Rattle.kept_views.proofs.KeyLemmas.{AreClear}

-- ---- names at positions

names_of_at : (heading : Heading) (positions : List ℕ) → names_of (attributes_at positions heading) ≡ names_at heading positions
names_of_at heading positions = map_twice (λ (a : Name × Kind). a.0) (λ i. get_or heading i no_attribute) positions

-- the same attributes have the same names
pub same_names : (left right : Heading) (here there : List ℕ) → attributes_at here left ≡ attributes_at there right → names_at right there ≡ names_at left here
same_names left right here there same = sym (names_of_at right there) ∙ ap names_of (sym same) ∙ names_of_at left here

-- names are those at their positions
pub names_back : (heading : Heading) (names : List Name) → ((n : Name) → In n names → IsTrue (has_name heading n)) → names_at heading (map (position_of heading) names) ≡ names
names_back heading names has =
    map_twice (λ i. (get_or heading i no_attribute).0) (position_of heading) names
    ∙ map-In (λ n. (get_or heading (position_of heading n) no_attribute).0) (λ n. n) names (λ n m. name_back heading n (has n m))
    ∙ map_same names

-- ---- names that are not listed

pub not_listed : (listed : List Name) (n : Name) → IsTrue (not (list_any (bytes_eq n) listed)) → In n listed → ⊥
not_listed listed n t i = true≢false (sym ((list_any-In (bytes_eq n) listed).1 (n, i, nat_list_eq_equiv.refl n)) ∙ not-true (list_any (bytes_eq n) listed) t)

pub unlisted_in : (listed names : List Name) (n : Name) → In n (unlisted_names listed names) → In n names
unlisted_in listed names n m = ((In-filter (λ k. not (list_any (bytes_eq k) listed)) n names).0 m).0

-- their positions are not listed
pub unlisted_clear : (heading : Heading) (commalist : List ℕ) (listed names : List Name) → names_at heading commalist ≡ listed → ((n : Name) → In n names → IsTrue (has_name heading n))
    → AreClear (map (position_of heading) (unlisted_names listed names)) commalist
unlisted_clear heading commalist listed names same has i m k =
    let w = (In-map (position_of heading) i (unlisted_names listed names)).0 m in
    let v = (In-filter (λ n. not (list_any (bytes_eq n) listed)) w.0 names).0 w.1 in
    let back : (get_or heading i no_attribute).0 ≡ w.0 = ap (λ j. (get_or heading j no_attribute).0) w.2 ∙ name_back heading w.0 (has w.0 v.0) in
    let there : In w.0 (names_at heading commalist) = (In-map (λ j. (get_or heading j no_attribute).0) w.0 commalist).1 (i, k, sym back) in
    not_listed listed w.0 v.1 (subst (λ (ns : List Name). In w.0 ns) same there)

-- ---- rows that agree

-- rows that have the same values beside some names have the same key
pub same_key : (one other : Heading) (x y : Row) (names : List Name) → ((n : Name) → In n names → value_of one x n ≡ value_of other y n) → (key : Row)
    → has_key (map (position_of one) names) key x ≡ has_key (map (position_of other) names) key y
same_key one other x y names h key =
    ap (λ (r : Row). eq_by_cmp row_cmp r key) (by_names one x names ∙ map-In (value_of one x) (value_of other y) names h ∙ sym (by_names other y names))

-- so rows that agree are of one group
pub agree_key : (left right : Heading) (x y : Row) (listed : List Name) → IsTrue (agree left right x y) → (key : Row)
    → has_key (map (position_of left) (unlisted_names listed (common_names left right))) key x ≡ has_key (map (position_of right) (unlisted_names listed (common_names left right))) key y
agree_key left right x y listed t =
    let common : List Name = common_names left right in
    let parts = (eq_by_cmp-≡ row_cmp row_total row_separates (part_of (common_positions left left right) x) (part_of (common_positions right left right) y)).0 t in
    let values : map (value_of left x) common ≡ map (value_of right y) common = sym (by_names left x common) ∙ parts ∙ by_names right y common in
    same_key left right x y (unlisted_names listed common) (λ n m. maps_agree (value_of left x) (value_of right y) common values n (unlisted_in listed common n m))

-- the right rows that agree with a row of a group are of the group
module _ (left right : Heading) (listed : List Name) (key : Row) where
  abbrev here_key : List ℕ
  here_key = map (position_of left) (unlisted_names listed (common_names left right))

  abbrev there_key : List ℕ
  there_key = map (position_of right) (unlisted_names listed (common_names left right))

  pub agrees_in_group : (x : Row) → IsTrue (has_key here_key key x) → (s : List Row) → list_any (agree left right x) s ≡ list_any (agree left right x) (filter (has_key there_key key) s)
  agrees_in_group x t s =
      let a = list_any-In (agree left right x) s in
      let b = list_any-In (agree left right x) (filter (has_key there_key key) s) in
      same_tests (list_any (agree left right x) s) (list_any (agree left right x) (filter (has_key there_key key) s)) (
        λ h. let w = a.0 h in b.1 (w.0, (In-filter (has_key there_key key) w.0 s).1 (w.1, sym (agree_key left right x w.0 listed w.2 key) ∙ t), w.2),
        λ h. let w = b.0 h in a.1 (w.0, ((In-filter (has_key there_key key) w.0 s).0 w.1).0, w.2),
      )

-- ---- attributes of another heading

-- an attribute of an ascending heading stands where its name does
pub attribute_back : (heading : Heading) (a : Name × Kind) → Ascends attribute_cmp heading → In a heading → get_or heading (position_of heading a.0) no_attribute ≡ a
attribute_back [] a up i = absurd i
attribute_back (b ∷ rest) a up i = elim i [
  | inl e ↦
      let own : bytes_eq b.0 a.0 ≡ true = ap (λ (c : Name × Kind). bytes_eq b.0 c.0) e ∙ nat_list_eq_equiv.refl b.0 in
      ap (λ (t : Bool). get_or (b ∷ rest) (if t then 0 else suc (position_of rest a.0)) no_attribute) own ∙ sym e
  | inr j ↦
      let less = (AllAfter-In attribute_cmp b rest).0 up.0 a j in
      let apart : bytes_eq b.0 a.0 ≡ false = texts_ties b.0 a.0 ∙ ap is_eq less in
      ap (λ (t : Bool). get_or (b ∷ rest) (if t then 0 else suc (position_of rest a.0)) no_attribute) apart ∙ attribute_back rest a up.1 j
]

-- ---- code

-- a name that stands at one of the positions
pub listed_at : (n : Name) (heading : Heading) (positions : List ℕ) (i : ℕ) (d : Name × Kind) → i < length positions → get_or positions i 0 < length heading
    → IsTrue (bytes_eq n (get_or heading (get_or positions i 0) d).0) → true ≡ list_any (bytes_eq n) (names_at heading positions)
listed_at n heading positions i d l k t =
    let p : ℕ = get_or positions i 0 in
    let own : get_or heading p d ≡ get_or heading p no_attribute = get_or_default heading p d no_attribute k in
    let m = (In-map (λ j. (get_or heading j no_attribute).0) (get_or heading p no_attribute).0 positions).1 (p, In-get_or positions i 0 l, refl) in
    sym ((list_any-In (bytes_eq n) (names_at heading positions)).1 ((get_or heading p no_attribute).0, m, sym (ap (λ (a : Name × Kind). bytes_eq n a.0) own) ∙ t))

-- the common names of two headings, and those that a heading has in common with itself, by their positions in it
pub common_named : (left right : Heading) → names_at left (common_positions left left right) ≡ common_names left right
common_named left right = names_back left (common_names left right) (λ n m. of_name left n ((In-filter (has_name right) n (names_of left)).0 m).0)

pub all_named : (left : Heading) → names_at left (common_positions left left left) ≡ names_of left
all_named left = common_named left left ∙ filter_all (has_name left) (names_of left) (of_name left)
