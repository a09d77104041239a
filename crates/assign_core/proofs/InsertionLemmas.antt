-- What an insertion means: the target's rows and those of the operand, or the fault that comes in their place.
--     AreFitting, fitting_told      the headings of its nodes
--     insertion_told, insertion_failed      its value, or its fault, from that of its operand
--     operand_cost, both_cost      what its operand takes, and with that the rows of both
--     stopped_told, cost_told, left_told, meant_told, headed_told      the same of an assignment that is an insertion
use Rattle.std.proofs.Common.{◌≡◌, ℕ, zero, suc, Bool, true, cond, replicate, ◌+◌, ◌<◌, ◌≤◌, List, [], ◌∷◌, length, refl, sym, ap, subst, ◌∙◌, arith, Option, Some, None, Ok, Err}
use Rattle.std.specs.Prelude.{slice_index_or}
use Rattle.std.specs.Bool.{IsTrue}
use Rattle.std.proofs.lemmas.List.{length-map}
use Rattle.base_core.specs.Outcomes.{then_give}
use Rattle.point_core.specs.Faults.{OrFault}
use Rattle.point_core.specs.declared.fault.Fault.{Fault}
use Rattle.point_core.specs.declared.fault.Place.{Place}
use Rattle.point_core.specs.declared.fault.Stop.{Stop}
use Rattle.point_core.specs.declared.fault.Stop.TheVariants.{Fault as Faulted, Memory as OfMemory}
use Rattle.value_core.specs.declared.constraint.Constraint.{Constraint}
use Rattle.value_core.specs.RowPacking.{packed, unpacked}
use Rattle.value_core.specs.Values.{Name, Heading, Row, Relation, most_rows, is_heading}
use Rattle.cell_core.specs.Costs.{bound}
use Rattle.relation_core.specs.Answers.{Answers, under}
use Rattle.relation_core.specs.Operators.{united}
use Rattle.relation_core.specs.Parts.{no_attribute}
use Rattle.relation_core.proofs.FilterLemmas.{take_all}
use Rattle.tree_core.specs.Items.{PlainAssignment}
use Rattle.tree_core.specs.Relvars.{State, PlainRelvar, base, Entries, relvar_named, heading_if}
use Rattle.tree_core.specs.Trees.{Tree, named, heading_of}
use Rattle.meaning_core.specs.Meanings.{RowsMeant, Known, at_name, limited, opened, closed, names_at, meaning, meaning_in, plainly, relvar_meaning, known_in}
use Rattle.meaning_core.specs.Names.{IsFirstAt, found, each_in, given, given_relvar, with_value}
use Rattle.meaning_core.specs.Typing.{IsList, IsListIf}
use Rattle.meaning_core.specs.WellMade.{IsTypedFor}
use Rattle.meaning_core.proofs.EntryLemmas.{found_first, given_first, named_first}
use Rattle.meaning_core.proofs.LimitLemmas.{limited_few}
use Rattle.meaning_core.proofs.LookupLemmas.{under_ok}
use Rattle.meaning_core.proofs.MadeLemmas.{own_name}
use Rattle.eval_using.specs.Using.{around}
use Rattle.eval_using.proofs.UnderLemmas.{set_meant}
use Rattle.algebra_core.specs.Costs.{Prices, tree_cost, prices_in, cost_in, cost_with, paid, known_of}
use Rattle.algebra_core.proofs.CostLemmas.{known_each}
use Rattle.assign_core.specs.Assignments.{seen_by, source_value, with_target, evaluated}
use Rattle.assign_core.specs.Breaches.{value_if}
use Rattle.relvar_logs.specs.Changes.{Changes, changed}
use Rattle.assign_core.specs.Costs.{source_cost, sources_cost}
use Rattle.assign_core.specs.Insertions.{Nodes, insertion_of, united_in, united_cost}
use Rattle.assign_core.specs.Renewed.{renewing}
use Rattle.assign_core.proofs.ChangeLemmas.{none_changed}
use Rattle.assign_core.proofs.RenewedNames.{none_renewing}

-- ---- headings

-- under USING, the node there has the heading of the target, and the list is one of it
abbrev pub IsUnder : Heading → Nodes → Option (List ℕ) → Type 0
IsUnder h n None = Unit {0}
IsUnder h n (Some commalist) = (n.heading ≡ h) × IsList h commalist

-- the nodes have the heading of the target
pub record AreFitting (h : Heading) (n : Nodes) (list : Option (List ℕ)) (heading : Heading) (operand : Tree) : Type 0 where
  pub whole : heading ≡ h
  pub own : n.headed ≡ h
  pub other : heading_of operand ≡ h
  pub listed : IsUnder h n list

pub listed_if : (h : Heading) (n : Nodes) (list : Option (List ℕ)) → IsUnder h n list → IsListIf h list
listed_if h n None is = tt
listed_if h n (Some commalist) is = is.1

module _ (s : State) (place : Place) (target : Name) where
  pub operand_typed : (n : Nodes) (list : Option (List ℕ)) (heading : Heading) (operand : Tree) → IsTypedFor s (insertion_of place heading list n target operand).tree → IsTypedFor s operand
  operand_typed n None heading operand typed = typed.1
  operand_typed n (Some commalist) heading operand typed = typed.0.1

  fitting : (h : Heading) (n : Nodes) (list : Option (List ℕ)) (heading : Heading) (operand : Tree) → IsTypedFor s (insertion_of place heading list n target operand).tree
      → heading_of (insertion_of place heading list n target operand).tree ≡ h → AreFitting h n list heading operand
  fitting h n None heading operand typed is =
      let own : n.headed ≡ h = sym typed.2.1 ∙ is in
      record { whole = is; own = own; other = sym typed.2.0 ∙ own; listed = tt }
  fitting h n (Some commalist) heading operand typed is =
      let inner : n.heading ≡ h = sym typed.2 ∙ is in
      let own : n.headed ≡ h = sym typed.0.2.1 ∙ inner in
      record { whole = is; own = own; other = sym typed.0.2.0 ∙ own; listed = (inner, subst (λ (g : Heading). IsList g commalist) is typed.1) }

-- ---- operands without a value

no_value : (h from : Heading) (m : RowsMeant) (f : List Row → RowsMeant) (e : Fault) → under from m ≡ Err e → under h (then_give m f) ≡ Err e
no_value h from (Ok rows) f e told = absurd (cc)
no_value h from (Err d) f e told = cc

pub within : (xs : Entries) (name : Name) (i : ℕ) (x : PlainRelvar) → IsFirstAt xs name i x → i < length xs
within [] name i x h = absurd h
within (y ∷ ys) name zero x h = omega arith
within (y ∷ ys) name (suc i) x h = let ih = within ys name i x h.1 in omega (arith, ih)

module _ (es : Entries) (target : Name) (at : ℕ) (value : Relation) (constraints : List Constraint) (first : IsFirstAt es target at (base value constraints)) where
  -- what the source sees
  abbrev pub seen : Entries
  seen = seen_by es es target

  seen_is : seen ≡ given (Some target) (Some value) es
  seen_is = ap (λ (o : Option PlainRelvar). given (Some target) (value_if o) es) (named_first es target at (base value constraints) first)

  -- the target's name means the target's rows
  pub target_meant : found (Ok []) (known_in seen) target ≡ Ok value.rows
  target_meant =
      let there = given (Some target) (Some value) es in
      let x = given_relvar (Some target) (Some value) target (base value constraints) in
      let stands : IsFirstAt there target at x = given_first (Some target) (Some value) es target at (base value constraints) first in
      let in_all = within there target at x stands in
      let whole = take_all (length there) there (omega arith) in
      ap (λ (s : Entries). found (Ok []) (known_in s) target) seen_is
      ∙ (ap (λ (s : Entries). found (Ok []) (each_in relvar_meaning s) target) (sym whole)
      ∙ (found_first relvar_meaning (Ok []) there target at (length there) x stands (omega (arith, in_all))
      ∙ own_value _ _ (own_name target)))
    where
      own_value : (known : Known) (b : Bool) → b ≡ true → relvar_meaning known (cond b (with_value value (base value constraints)) (base value constraints)) ≡ Ok value.rows
      own_value known b e = rw e refl

  module _ (place : Place) (heading : Heading) (n : Nodes) (operand : Tree) (few : length value.rows ≤ most_rows) where
    abbrev pub insertion : Option (List ℕ) → PlainAssignment
    insertion list = insertion_of place heading list n target operand

    abbrev pub left : Tree
    left = named n.at n.headed target

    name_meant : meaning (known_in seen) plainly left ≡ Ok value.rows
    name_meant = ap (λ (m : RowsMeant). then_give (at_name n.at m) (limited n.at)) target_meant ∙ limited_few n.at value.rows few

    -- ---- its value

    plain_value : (rows : Relation) → heading ≡ value.heading → under (heading_of operand) (meaning_in seen operand) ≡ Ok rows
        → source_value es es (insertion None) ≡ under value.heading (limited place (united value.rows rows.rows))
    plain_value rows whole told =
        ap (λ (m : RowsMeant). under heading (then_give m (λ r. then_give (meaning (known_in seen) plainly operand) (λ s. limited place (united r s))))) name_meant
        ∙ (ap (λ (m : RowsMeant). under heading (then_give m (λ s. limited place (united value.rows s)))) (under_ok (heading_of operand) (meaning_in seen operand) rows told).0
        ∙ ap (λ (h : Heading). under h (limited place (united value.rows rows.rows))) whole)

    -- the rows of both as the union under USING gives them
    abbrev both_closed : List ℕ → List Row → List Row → RowsMeant
    both_closed commalist r s =
        closed (around place n.heading commalist) place n.heading (united (opened (around place n.heading commalist) n.headed r) (opened (around place n.heading commalist) (heading_of operand) s))

    under_value : (commalist : List ℕ) (rows : Relation) → IsTrue (is_heading value.heading) → AreFitting value.heading n (Some commalist) heading operand
        → under (heading_of operand) (meaning_in seen operand) ≡ Ok rows
        → source_value es es (insertion (Some commalist)) ≡ under value.heading (limited place (packed commalist (united (unpacked commalist value.rows) (unpacked commalist rows.rows))))
    under_value commalist rows is_one fit told =
        let inner : n.heading ≡ value.heading = fit.listed.0 in
        let one : IsTrue (is_heading n.heading) = subst (λ (h : Heading). IsTrue (is_heading h)) (sym inner) is_one in
        let list : IsList n.heading commalist = subst (λ (h : Heading). IsList h commalist) (sym inner) fit.listed.1 in
        let meant = set_meant place n.heading commalist one list united n.headed (heading_of operand) value.rows rows.rows (inner ∙ sym fit.own) (inner ∙ sym fit.other) in
        ap (λ (m : RowsMeant). under heading (then_give m (λ r. then_give (meaning (known_in seen) plainly operand) (λ s. both_closed commalist r s)))) name_meant
        ∙ (ap (λ (m : RowsMeant). under heading (then_give m (λ s. both_closed commalist value.rows s))) (under_ok (heading_of operand) (meaning_in seen operand) rows told).0
        ∙ (ap (λ (h : Heading). under h (both_closed commalist value.rows rows.rows)) (fit.whole ∙ sym inner)
        ∙ (sym meant
        ∙ ap (λ (h : Heading). under h (limited place (packed commalist (united (unpacked commalist value.rows) (unpacked commalist rows.rows))))) fit.own)))

    -- its value, from the rows of its operand
    pub insertion_told : (list : Option (List ℕ)) (rows : Relation) → IsTrue (is_heading value.heading) → AreFitting value.heading n list heading operand
        → under (heading_of operand) (meaning_in seen operand) ≡ Ok rows
        → source_value es es (insertion list) ≡ under value.heading (limited place (united_in list value.rows rows.rows))
    insertion_told None rows is_one fit told = plain_value rows fit.whole told
    insertion_told (Some commalist) rows is_one fit told = under_value commalist rows is_one fit told

    -- the fault of its operand
    pub insertion_failed : (list : Option (List ℕ)) (f : Fault) → under (heading_of operand) (meaning_in seen operand) ≡ Err f → source_value es es (insertion list) ≡ Err f
    insertion_failed None f told =
        ap (λ (m : RowsMeant). under heading (then_give m (λ r. then_give (meaning (known_in seen) plainly operand) (λ s. limited place (united r s))))) name_meant
        ∙ no_value heading (heading_of operand) (meaning_in seen operand) (λ s. limited place (united value.rows s)) f told
    insertion_failed (Some commalist) f told =
        ap (λ (m : RowsMeant). under heading (then_give m (λ r. then_give (meaning (known_in seen) plainly operand) (λ s. both_closed commalist r s)))) name_meant
        ∙ no_value heading (heading_of operand) (meaning_in seen operand) (λ s. both_closed commalist value.rows s) f told

    -- ---- what it takes

    abbrev pub prices : Prices
    prices = prices_in seen

    name_known : meaning (known_of prices) plainly left ≡ Ok value.rows
    name_known = ap (λ (k : Known). meaning k plainly left) (known_each None [] seen) ∙ name_meant

    -- the steps of its nodes
    abbrev after_operand : Option (List ℕ) → List Row → List Row → ℕ
    after_operand None r s = 0
    after_operand (Some commalist) r s = bound (length r + length s) (length (names_at n.heading commalist))

    nodes_cost : (list : Option (List ℕ)) → source_cost es es (insertion list)
        ≡ tree_cost prices plainly left + (tree_cost prices plainly operand + paid (meaning (known_of prices) plainly operand) (after_operand list value.rows))
    nodes_cost None =
        ap (λ (m : RowsMeant). tree_cost prices plainly left + paid m (λ r. tree_cost prices plainly operand + paid (meaning (known_of prices) plainly operand) (λ s. 0))) name_known
    nodes_cost (Some commalist) =
        ap (λ (m : RowsMeant). tree_cost prices plainly left + paid m (λ r. tree_cost prices plainly operand
        + paid (meaning (known_of prices) plainly operand) (λ s. bound (length r + length s) (length (names_at n.heading commalist))))) name_known

    after_is : (list : Option (List ℕ)) (rows : Relation) → after_operand list value.rows rows.rows ≡ united_cost list (length value.rows + length rows.rows)
    after_is None rows = refl
    after_is (Some commalist) rows = ap (bound (length value.rows + length rows.rows)) (length-map commalist (λ i. (slice_index_or n.heading i no_attribute).0))

    -- what its operand takes
    pub operand_cost : (list : Option (List ℕ)) → cost_in seen operand ≤ source_cost es es (insertion list)
    operand_cost list = let more = nodes_cost list in omega (arith, more)

    -- what its operand takes, and the rows of both
    pub both_cost : (list : Option (List ℕ)) (rows : Relation) → under (heading_of operand) (meaning_in seen operand) ≡ Ok rows
        → cost_in seen operand + united_cost list (length value.rows + length rows.rows) ≤ source_cost es es (insertion list)
    both_cost list rows told =
        let more = nodes_cost list in
        let known : meaning (known_of prices) plainly operand ≡ Ok rows.rows =
        ap (λ (k : Known). meaning k plainly operand) (known_each None [] seen) ∙ (under_ok (heading_of operand) (meaning_in seen operand) rows told).0 in
        let is : paid (meaning (known_of prices) plainly operand) (after_operand list value.rows) ≡ united_cost list (length value.rows + length rows.rows) =
        ap (λ (m : RowsMeant). paid m (after_operand list value.rows)) known ∙ after_is list rows in
        omega (arith, more, is)

    -- ---- the same of an assignment that is this one, where nothing has changed yet

    module _ (none : Changes) (count : ℕ) (empty : none ≡ replicate count None) (list : Option (List ℕ)) (b : PlainAssignment) (same : b ≡ insertion list) where
      seen_so : seen_by es (changed none es) target ≡ seen
      seen_so = ap (λ (z : Entries). seen_by es z target) (ap (λ (cs : Changes). changed cs es) empty ∙ none_changed es count)

      priced : cost_with (renewing none es target) (seen_by es (changed none es) target) operand ≡ cost_in seen operand
      priced = λ i. cost_with (none_renewing none count es target empty i) (seen_so i) operand

      operand_told : (v : Relation) → under (heading_of operand) (meaning_in (seen_by es (changed none es) target) operand) ≡ Ok v → under (heading_of operand) (meaning_in seen operand) ≡ Ok v
      operand_told v told = ap (λ (z : Entries). under (heading_of operand) (meaning_in z operand)) (sym seen_so) ∙ told

      operand_stopped : (stop : Stop) → Answers {A = Relation} (Err stop) (under (heading_of operand) (meaning_in seen operand)) → Answers {A = Entries} (Err stop) (evaluated es es (insertion list ∷ []))
      operand_stopped (Faulted f) told = ap (λ (r : OrFault Relation). then_give r (λ v. evaluated es (with_target es target v) [])) (insertion_failed list f told)
      operand_stopped OfMemory told = tt

      -- why its operand has no value
      pub stopped_told : (stop : Stop) → Answers {A = Relation} (Err stop) (under (heading_of operand) (meaning_in (seen_by es (changed none es) target) operand))
          → Answers {A = Entries} (Err stop) (evaluated es es (b ∷ []))
      stopped_told stop told =
          subst (λ (z : PlainAssignment). Answers {A = Entries} (Err stop) (evaluated es es (z ∷ []))) (sym same)
          (operand_stopped stop (subst (λ (z : Entries). Answers {A = Relation} (Err stop) (under (heading_of operand) (meaning_in z operand))) seen_so told))

      pub cost_told : (old new : ℕ) → new ≤ old + cost_with (renewing none es target) (seen_by es (changed none es) target) operand → new ≤ old + sources_cost es es (b ∷ [])
      cost_told old new h =
          let w = operand_cost list in
          let k : cost_with (renewing none es target) (seen_by es (changed none es) target) operand ≡ cost_in seen operand = priced in
          let m : sources_cost es es (b ∷ []) ≡ sources_cost es es (insertion list ∷ []) = ap (λ (z : PlainAssignment). sources_cost es es (z ∷ [])) same in
          omega (arith, h, w, k, m)

      pub left_told : (v : Relation) (old new : ℕ) → under (heading_of operand) (meaning_in (seen_by es (changed none es) target) operand) ≡ Ok v
          → new ≤ old + cost_with (renewing none es target) (seen_by es (changed none es) target) operand → new + united_cost list (length value.rows + length v.rows) ≤ old + sources_cost es es (b ∷ [])
      left_told v old new told h =
          let w = both_cost list v (operand_told v told) in
          let k : cost_with (renewing none es target) (seen_by es (changed none es) target) operand ≡ cost_in seen operand = priced in
          let m : sources_cost es es (b ∷ []) ≡ sources_cost es es (insertion list ∷ []) = ap (λ (z : PlainAssignment). sources_cost es es (z ∷ [])) same in
          omega (arith, h, w, k, m)

      -- the headings, from those of its nodes
      pub fitting_told : (s : State) → IsTypedFor s b.tree → heading_of b.tree ≡ heading_if (relvar_named es target) → AreFitting value.heading n list heading operand
      fitting_told s typed headed =
          let at : heading_of b.tree ≡ value.heading = headed ∙ ap heading_if (named_first es target at (base value constraints) first) in
          fitting s place target value.heading n list heading operand (subst (λ (z : PlainAssignment). IsTypedFor s z.tree) same typed)
          (ap (λ (z : PlainAssignment). heading_of z.tree) (sym same) ∙ at)

      -- what the assignment makes of the target, and with what heading
      pub meant_told : (v : Relation) → IsTrue (is_heading value.heading) → AreFitting value.heading n list heading operand
          → under (heading_of operand) (meaning_in (seen_by es (changed none es) target) operand) ≡ Ok v
          → source_value es es b ≡ under value.heading (limited place (united_in list value.rows v.rows))
      meant_told v is_one fit told = ap (source_value es es) same ∙ insertion_told list v is_one fit (operand_told v told)

      pub headed_told : (v : Relation) → AreFitting value.heading n list heading operand → under (heading_of operand) (meaning_in (seen_by es (changed none es) target) operand) ≡ Ok v
          → value.heading ≡ v.heading
      headed_told v fit told = sym fit.other ∙ (under_ok (heading_of operand) (meaning_in seen operand) v (operand_told v told)).1
