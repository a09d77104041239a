-- A key of all attributes holds of any rows, unpacked or not.
use Rattle.std.proofs.Common.{◌≡◌, inl, inr, ℕ, ◌<◌, true, false, List, [], ◌∷◌, map, length, get_or, drop, sym, ap, ◌∙◌, subst}
use Rattle.std.proofs.lemmas.List.{same_lists, get_or_default}
use Rattle.base_core.proofs.SetLemmas.{In, Ascends}
use Rattle.base_core.proofs.MemberLemmas.{list_all-In}
use Rattle.value_core.specs.Attributes.{among}
use Rattle.value_core.specs.RowPacking.{unpacked}
use Rattle.value_core.specs.Values.{Row, Heading, Relation, IsRelation, fits_heading, truth, row_cmp}
use Rattle.relation_core.specs.Agreement.{part_of}
use Rattle.relation_core.proofs.AgreementLemmas.{length_of_fit}
use Rattle.u_set.specs.Boxes.{AreIntervals, IsShaped}
use Rattle.u_set.proofs.PlaceLemmas.{opened_shaped}
use Rattle.u_row.proofs.BeneathLemmas.{among_in}
use Rattle.u_constraints.specs.Constraints.{is_key}
use Rattle.u_constraints.proofs.KeyLemmas.{AgreeOnce, is_key-AgreeOnce}

-- what two functions give alike of a list they give alike of each member
alike_at : {X Y : Type 0} (f g : X → Y) (xs : List X) (x : X) → map f xs ≡ map g xs → In x xs → f x ≡ g x
alike_at f g [] x e m = absurd m
alike_at f g (y ∷ xs) x e m = elim m [
  | inl h ↦ subst (λ z. f z ≡ g z) (sym h) (ap (λ l. get_or l 0 (f y)) e)
  | inr n ↦ alike_at f g xs x (ap (λ l. drop 1 l) e) n
]

module _ (n : ℕ) (key : List ℕ) (all : (i : ℕ) → i < n → among key i ≡ true) where
  -- rows that agree at all positions are one row
  same_rows : (x y : Row) → length x ≡ n → length y ≡ n → part_of key x ≡ part_of key y → x ≡ y
  same_rows x y long also e =
      same_lists x y (long ∙ sym also) (λ i d below.
      let at : get_or x i (truth false) ≡ get_or y i (truth false) =
      alike_at (λ k. get_or x k (truth false)) (λ k. get_or y k (truth false)) key i e (among_in key i (all i (subst (λ m. i < m) long below))) in
      get_or_default x i d (truth false) below ∙ at ∙ get_or_default y i (truth false) d (subst (λ m. i < m) (long ∙ sym also) below))

  pub agree_once : (rows : List Row) → ((x : Row) → In x rows → length x ≡ n) → AgreeOnce key rows
  agree_once rows long x y i j e = same_rows x y (long x i) (long y j) e

pub whole_key_of_rows : (r : Relation) → IsRelation r → (key : List ℕ) → ((i : ℕ) → i < length r.heading → among key i ≡ true) → true ≡ is_key key r.rows
whole_key_of_rows r is key all =
    sym ((is_key-AgreeOnce key r.rows).1 (agree_once (length r.heading) key all r.rows (λ x i. length_of_fit r.heading x ((list_all-In (fits_heading r.heading) r.rows).0 is.fitting x i))))

pub whole_key : (heading : Heading) (commalist : List ℕ) → AreIntervals heading commalist → (rows : List Row) → Ascends row_cmp rows → ((x : Row) → In x rows → IsShaped heading commalist x)
    → (key : List ℕ) → ((i : ℕ) → i < length heading → among key i ≡ true) → true ≡ is_key key (unpacked commalist rows)
whole_key heading commalist intervals rows up shaped key all =
    sym ((is_key-AgreeOnce key (unpacked commalist rows)).1 (agree_once (length heading) key all (unpacked commalist rows) (λ x i. (opened_shaped heading commalist intervals rows up shaped x i).long)))
