-- Rows of one label have the same values in columns of expressions that name no listed attribute.
use Rattle.std.proofs.Common.{◌≡◌, inl, inr, ℕ, ◌<◌, ℤ, pos, false, not, List, [], ◌∷◌, map, length, get_or, Ok, sym, ap, ◌∙◌, subst}
use Rattle.std.specs.Bool.{IsTrue}
use Rattle.std.specs.List.{list_all}
use Rattle.std.proofs.lemmas.Bool.{and_parts, not-true}
use Rattle.std.proofs.lemmas.List.{length-map, get_or-map}
use Rattle.point_core.specs.Points.{line_of}
use Rattle.point_core.specs.declared.any_type.AnyType.{AnyType}
use Rattle.value_core.specs.Attributes.{value_at, among}
use Rattle.value_core.specs.Values.{Value, truth, point, Row}
use Rattle.scalar_core.specs.Expressions.{Expr}
use Rattle.scalar_core.specs.Operations.{number_of}
use Rattle.scalar_core.specs.ScalarValues.{value}
use Rattle.scalar_core.specs.Sweeping.{names_any}
use Rattle.tree_core.specs.Trees.{PlainAggregateForm, count_rows, sum_of, min_of, max_of, PlainAggregate}
use Rattle.meaning_core.specs.Typing.{names_none}
use Rattle.u_set.specs.Boxes.{others}
use Rattle.u_set.proofs.BoxLemmas.{value_at-get}
use Rattle.u_row.specs.Kept.{place_in_label}
use Rattle.u_row.proofs.LabelLemmas.{value_in_label}
use Rattle.u_summarize.specs.Figures.{PlainColumn}
use Rattle.eval_using.specs.Columns.{HasPoints, IsColumn, AreColumns, AreAlike}
use Rattle.scalar_core.proofs.SweepLemmas.{unnamed}

module _ (commalist : List ℕ) (rows : List Row) where
  label_of : (r : ℕ) → r < length rows → get_or (map (others commalist) rows) r [] ≡ others commalist (get_or rows r [])
  label_of r l = get_or-map (others commalist) rows r [] [] l

  values_same : (x y : Row) → others commalist x ≡ others commalist y → (i : ℕ) → among commalist i ≡ false → value_at x i ≡ value_at y i
  values_same x y e i n =
      let d = truth false in
      value_at-get x i ∙ sym (value_in_label commalist x i d n) ∙ ap (λ (z : Row). get_or z (place_in_label commalist i) d) e ∙ value_in_label commalist y i d n ∙ sym (value_at-get y i)

  number_is : (e : Expr) (x y : Row) (v w : Value) → value e x ≡ Ok v → value e y ≡ Ok w → value e x ≡ value e y → number_of v ≡ number_of w
  number_is e x y v w a b same = let q : Ok v ≡ Ok w = sym a ∙ same ∙ b in let p : v ≡ w = cc in ap number_of p

  points_alike : (x : Expr) → IsTrue (not (names_any commalist x)) → (t : AnyType) (c : List ℤ) → HasPoints rows x t c → (r s : ℕ) → r < length rows → s < length rows → others commalist (get_or rows r []) ≡ others commalist (get_or rows s [])
      → get_or c r (pos 0) ≡ get_or c s (pos 0)
  points_alike x n t c h r s k l e =
      let u = h r k in
      let v = h s l in
      let same = unnamed commalist (get_or rows s []) (get_or rows r []) x (values_same (get_or rows r []) (get_or rows s []) e) (not-true (names_any commalist x) n) in
      number_is x (get_or rows r []) (get_or rows s []) (point (line_of t) (get_or c r (pos 0))) (point (line_of t) (get_or c s (pos 0))) u.0 v.0 same

  column_alike : (form : PlainAggregateForm) → IsTrue (names_none commalist form) → (c : PlainColumn) → IsColumn rows form c → (r s : ℕ) → r < length rows → s < length rows → others commalist (get_or rows r []) ≡ others commalist (get_or rows s [])
      → get_or c.2 r (pos 0) ≡ get_or c.2 s (pos 0)
  column_alike count_rows n c h r s k l e = h.2 r k ∙ sym (h.2 s l)
  column_alike (sum_of x) n c h r s k l e = points_alike x n c.1 c.2 h.2 r s k l e
  column_alike (min_of x) n c h r s k l e = points_alike x n c.1 c.2 h.1 r s k l e
  column_alike (max_of x) n c h r s k l e = points_alike x n c.1 c.2 h.1 r s k l e

  pub columns_alike : (aggregates : List PlainAggregate) → IsTrue (list_all (λ a. names_none commalist a.form) aggregates) → (cs : List PlainColumn) → AreColumns rows aggregates cs → AreAlike (map (others commalist) rows) cs
  columns_alike [] n [] h c m = absurd m
  columns_alike [] n (d ∷ ds) h c m = absurd h
  columns_alike (g ∷ gs) n [] h c m = absurd h
  columns_alike (g ∷ gs) n (d ∷ ds) h c m =
      let w = and_parts (names_none commalist g.form) (list_all (λ a. names_none commalist a.form) gs) n in
      let many = length-map rows (others commalist) in
      elim m [
        | inl e ↦ λ r s k l q.
            subst (λ (b : PlainColumn). get_or b.2 r (pos 0) ≡ get_or b.2 s (pos 0)) e
            (let i = subst (λ j. r < j) many k in
            let j = subst (λ j. s < j) many l in
            column_alike g.form w.0 d h.1 r s i j (sym (label_of r i) ∙ q ∙ label_of s j))
        | inr i ↦ columns_alike gs w.1 ds h.2 c i
      ]
