-- Rows that all come behind others are appended to them.
use Rattle.std.proofs.Common.{◌≡◌, ◌⊎◌, inl, inr, List, [], ◌∷◌, ◌++◌, refl, sym, ap, ◌∙◌, subst, true, Less}
use Rattle.std.specs.List.Sorted.{IsStrictlySortedBy}
use Rattle.std.specs.Ordering.{is_lt}
use Rattle.base_core.specs.Sets.{union_of}
use Rattle.base_core.proofs.SetLemmas.{In, Ascends, Ascends-from_sorted, in_order_of_ascending}
use Rattle.base_core.proofs.MemberLemmas.{In-append}
use Rattle.base_core.proofs.SetOperatorLemmas.{AllAfter-In, Ascends-append, is_lt-Less}
use Rattle.value_core.specs.Values.{Row, row_cmp}
use Rattle.value_core.specs.Order.{row_total, row_separates}
use Rattle.value_core.proofs.RelationLemmas.{sorted_from_ascending}

-- a member is the last one or less
to_last : (before : List Row) (last x : Row) → Ascends row_cmp (before ++ last ∷ []) → In x (before ++ last ∷ []) → (x ≡ last) ⊎ (row_cmp x last ≡ Less)
to_last [] last x up i = elim i [ inl e ↦ inl e | inr n ↦ absurd n ]
to_last (b ∷ before) last x up i =
    let below : row_cmp b last ≡ Less = (AllAfter-In row_cmp b (before ++ last ∷ [])).0 up.0 last ((In-append last before (last ∷ [])).1 (inr (inl refl))) in
    elim i [ inl e ↦ inr (ap (λ w. row_cmp w last) e ∙ below) | inr j ↦ to_last before last x up.1 j ]

-- what is less than the first is less than each member
from_first : (first x y : Row) (rest : List Row) → row_cmp x first ≡ Less → Ascends row_cmp (first ∷ rest) → In y (first ∷ rest) → row_cmp x y ≡ Less
from_first first x y rest less up i =
    elim i [ inl e ↦ ap (row_cmp x) e ∙ less | inr j ↦ row_total.trans x first y less ((AllAfter-In row_cmp first rest).0 up.0 y j) ]

-- rows that ascend, the last of which is less than the first of others
pub sorted_behind : (rows more before rest : List Row) (last first : Row) → rows ≡ before ++ last ∷ [] → more ≡ first ∷ rest → is_lt (row_cmp last first) ≡ true
    → IsStrictlySortedBy row_cmp rows → IsStrictlySortedBy row_cmp more → IsStrictlySortedBy row_cmp (rows ++ more)
sorted_behind rows more before rest last first e f less up their =
    let here : Ascends row_cmp rows = Ascends-from_sorted row_cmp rows up in
    let there : Ascends row_cmp more = Ascends-from_sorted row_cmp more their in
    let below : row_cmp last first ≡ Less = (is_lt-Less (row_cmp last first)).0 less in
    let before_all : (x y : Row) → In x rows → In y more → row_cmp x y ≡ Less = λ x y i j.
    let each : (w : Row) → row_cmp w first ≡ Less → row_cmp w y ≡ Less = λ w l. from_first first w y rest l (subst (Ascends row_cmp) f there) (subst (In y) f j) in
    elim (to_last before last x (subst (Ascends row_cmp) e here) (subst (In x) e i)) [
      | inl same ↦ ap (λ w. row_cmp w y) same ∙ each last below
      | inr l ↦ each x (row_total.trans x last first l below)
    ] in
    sorted_from_ascending (rows ++ more) (Ascends-append row_cmp rows more here there before_all)

-- rows that ascend are the union of their parts
pub union_appended : (rows more : List Row) → IsStrictlySortedBy row_cmp (rows ++ more) → rows ++ more ≡ union_of row_cmp rows more
union_appended rows more up = sym (in_order_of_ascending row_cmp row_total row_separates (rows ++ more) (Ascends-from_sorted row_cmp (rows ++ more) up))
