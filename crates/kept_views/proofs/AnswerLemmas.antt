-- What is answered of the rows of a group is the group of the answer.
use Rattle.std.proofs.Common.{◌≡◌, ◌≤◌, ◌+◌, ℕ, List, [], map, length, Result, sym, ap, ◌∙◌, subst}
use Rattle.std.specs.Result.{MatchResult}
use Rattle.value_core.specs.Headings.{position_of}
use Rattle.value_core.specs.RowPacking.{packed, unpacked}
use Rattle.value_core.specs.Values.{Row, Heading, Relation, IsRelation}
use Rattle.value_core.specs.declared.refuse.RowsRefuse.{RowsRefuse}
use Rattle.relation_core.specs.Answers.{IsAnswer, IsRefusal}
use Rattle.cell_core.specs.Costs.{bound}
use Rattle.kept_views.specs.declared.rule.KeptOp.{KeptOp}
use Rattle.kept_views.specs.Kept.{view_heading, rows_by, key_names, left_key, right_key, view_key, of_key, AreAlike, IsPair, IsAlone}
use Rattle.kept_views.proofs.GroupLemmas.{pair_law, alone_law, rows_long, key_alone}

-- rows that are equal are answered alike
pub answered : (result : Result Relation RowsRefuse) (one other : Heading) (r s : List Row) → one ≡ other → r ≡ s → MatchResult result (IsAnswer one r) (IsRefusal r) → MatchResult result (IsAnswer other s) (IsRefusal s)
answered result one other r s h e = subst (λ T. T) (λ t. MatchResult result (IsAnswer (h t) (e t)) (IsRefusal (e t)))

module _ (op : KeptOp) (here there : List ℕ) (left right : Relation) (key : Row) where
  abbrev own : List Row
  own = of_key (left_key op here left.heading right.heading) key left.rows

  abbrev other : List Row
  other = of_key (right_key op here left.heading right.heading) key right.rows

  -- of two operands
  pub pair_answered : IsRelation left → IsRelation right → IsPair op here there left.heading right.heading → (one : KeptOp) (ps qs : List ℕ) (lh rh : Heading) (lr rr : List Row) → one ≡ op → ps ≡ here → qs ≡ there
      → lh ≡ left.heading → rh ≡ right.heading → lr ≡ own → rr ≡ other → (result : Result Relation RowsRefuse)
      → MatchResult result (IsAnswer (view_heading one lh rh) (rows_by one ps qs lh rh lr rr)) (IsRefusal (rows_by one ps qs lh rh lr rr))
      → MatchResult result (IsAnswer (view_heading op left.heading right.heading) (of_key (view_key op here left.heading right.heading) key (rows_by op here there left.heading right.heading left.rows right.rows)))
      (IsRefusal (of_key (view_key op here left.heading right.heading) key (rows_by op here there left.heading right.heading left.rows right.rows)))
  pair_answered is is' h one ps qs lh rh lr rr o p q a b c d result =
      let same : rows_by one ps qs lh rh lr rr ≡ rows_by op here there left.heading right.heading own other = λ t. rows_by (o t) (p t) (q t) (a t) (b t) (c t) (d t) in
      let law = pair_law here there left.heading right.heading is.headed is'.headed left.rows right.rows (rows_long left is) op h key in
      answered result (view_heading one lh rh) (view_heading op left.heading right.heading) _ _ (λ t. view_heading (o t) (a t) (b t)) (same ∙ sym law)

-- of one operand, where no other is asked
pub alone_answered : (op : KeptOp) (here there : List ℕ) (left : Relation) (key : Row) → IsRelation left → IsAlone op here left.heading → (one : KeptOp) (ps : List ℕ) (lh : Heading) (lr : List Row) → one ≡ op → ps ≡ here
    → lh ≡ left.heading → lr ≡ of_key (left_key op here left.heading []) key left.rows → (result : Result Relation RowsRefuse)
    → MatchResult result (IsAnswer (view_heading one lh []) (rows_by one ps there lh [] lr [])) (IsRefusal (rows_by one ps there lh [] lr []))
    → MatchResult result (IsAnswer (view_heading op left.heading []) (of_key (view_key op here left.heading []) key (rows_by op here there left.heading [] left.rows [])))
    (IsRefusal (of_key (view_key op here left.heading []) key (rows_by op here there left.heading [] left.rows [])))
alone_answered op here there left key is h one ps lh lr o p a c result =
    let same : rows_by one ps there lh [] lr [] ≡ rows_by op here there left.heading [] (of_key (left_key op here left.heading []) key left.rows) [] = λ t. rows_by (o t) (p t) there (a t) [] (c t) [] in
    let law = alone_law op here there left.heading [] left.rows [] is.headed h key in
    answered result (view_heading one lh []) (view_heading op left.heading []) _ _ (λ t. view_heading (o t) (a t) []) (same ∙ sym law)

-- what it costs
pub pair_cost : (new old : ℕ) (k k' : ℕ) (r s r' s' : List Row) → k ≡ k' → r ≡ r' → s ≡ s' → new ≤ old + bound (length r + length s) k → new ≤ old + bound (length r' + length s') k'
pair_cost new old k k' r s r' s' e f g = subst (λ T. T) (λ t. new ≤ old + bound (length (f t) + length (g t)) (e t))

pub alone_cost : (new old : ℕ) (k k' : ℕ) (r r' : List Row) → k ≡ k' → r ≡ r' → new ≤ old + bound (length r) k → new ≤ old + bound (length r') k'
alone_cost new old k k' r r' e f = subst (λ T. T) (λ t. new ≤ old + bound (length (f t)) (e t))

-- the key's places, of one operand
pub alone_places : (op : KeptOp) (here : List ℕ) (left to : Heading) → IsAlone op here left → map (position_of to) (key_names op here left left) ≡ map (position_of to) (key_names op here left [])
alone_places op here left to h = ap (map (position_of to)) (key_alone op here left left [] h)

-- what the operator of a rule answers is what the rule means
pub by_operator : (op one : KeptOp) (here there : List ℕ) (left right : Heading) (r s : List Row) (result : Result Relation RowsRefuse) → op ≡ one → (heading : Heading) (rows : List Row)
    → heading ≡ view_heading one left right → rows ≡ rows_by one here there left right r s → MatchResult result (IsAnswer heading rows) (IsRefusal rows)
    → MatchResult result (IsAnswer (view_heading op left right) (rows_by op here there left right r s)) (IsRefusal (rows_by op here there left right r s))
by_operator op one here there left right r s result is heading rows h e =
    answered result heading (view_heading op left right) rows (rows_by op here there left right r s) (h ∙ sym (ap (λ o. view_heading o left right) is)) (e ∙ sym (ap (λ o. rows_by o here there left right r s) is))

-- the operands of a rule with the operator
pub as_pair : (op one : KeptOp) (here there : List ℕ) (left right : Heading) → op ≡ one → IsPair op here there left right → IsPair one here there left right
as_pair op one here there left right is = subst (λ o. IsPair o here there left right) is

-- an operator of operands of one heading, of which the same positions are listed
pub alike_rows : (op : List Row → List Row → List Row) (here there : List ℕ) (left right : Heading) (r s : List Row) → AreAlike here there left right
    → packed here (op (unpacked here r) (unpacked here s)) ≡ packed here (op (unpacked here r) (unpacked there s))
alike_rows op here there left right r s h = λ t. packed here (op (unpacked here r) (unpacked (sym h.positions t) s))

-- a rule of one operand
pub as_alone : (op one : KeptOp) (here : List ℕ) (left : Heading) → op ≡ one → IsAlone op here left → IsAlone one here left
as_alone op one here left is = subst (λ o. IsAlone o here left) is
