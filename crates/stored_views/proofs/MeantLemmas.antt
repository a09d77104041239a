-- The law of a stored view: where relations are the values of its operands, its expression means the rows that its rule gives of them, and
-- its rule fits them.
--     IsRuleOf      this is so
--     rule_means      it is, where the expression is typed
--     made_price      what the rows take
use Rattle.std.proofs.Common.{◌≡◌, ℕ, ◌+◌, List, [], length, get_or, refl, sym, ap, ◌∙◌, subst, arith, Option, Some, None}
use Rattle.std.specs.Prelude.{IfSome}
use Rattle.std.specs.Bool.{IsTrue}
use Rattle.std.proofs.lemmas.Bool.{and_parts}
use Rattle.std.proofs.lemmas.List.{length-map}
use Rattle.base_core.specs.Outcomes.{then_give, both}
use Rattle.point_core.specs.declared.fault.Place.{Place}
use Rattle.value_core.specs.Headings.{position_of}
use Rattle.value_core.specs.RowPacking.{packed}
use Rattle.value_core.specs.Values.{Row, Heading, Relation, IsRelation, is_heading}
use Rattle.relation_core.specs.Intervals.{AreIntervals}
use Rattle.relation_core.specs.Parts.{no_attribute, attributes_at, projected}
use Rattle.tree_core.specs.Relvars.{Entries}
use Rattle.tree_core.specs.Trees.{Tree, named, literal, infix_of, project, rename, restrict, extend, summarize, pack, unpack, using, heading_of}
use Rattle.tree_core.specs.declared.tree.InfixWord.{InfixWord}
use Rattle.cell_core.specs.Costs.{bound}
use Rattle.meaning_core.specs.Meanings.{RowsMeant, in_using, opened, closed, limited, infix_rows, names_at, meaning_in}
use Rattle.meaning_core.specs.Typing.{Headings, IsInfix, IsProjection, IsList, IsTypedTree, are_in, is_part}
use Rattle.meaning_core.proofs.IntervalLemmas.{intervals_of_list}
use Rattle.kept_views.specs.Kept.{positions_beside, view_heading, rows_by, rows_or_none, kept_heading, kept_rows, Fits, IsPair, IsPart}
use Rattle.kept_views.specs.declared.rule.KeptOp.TheVariants.{Project}
use Rattle.stored_views.specs.Operands.{IsValue, AreValues}
use Rattle.stored_views.specs.Rules.{op_of, rule_for, place_for}
use Rattle.stored_views.specs.Stored.{named_rows, made_cost}
use Rattle.stored_views.proofs.FitLemmas.{pair_fits, pair_rows, pair_headed, part_fits, part_rows}
use Rattle.stored_views.proofs.ValueLemmas.{value_headed, value_meant, value_counted}

pub record IsRuleOf (all : Entries) (t : Tree) (left : Relation) (right : Option Relation) : Type 0 where
  pub fits : Fits (rule_for t) left right
  pub headed : kept_heading (rule_for t) left right ≡ heading_of t
  pub meant : meaning_in all t ≡ limited (place_for t) (kept_rows (rule_for t) left right)

headed_as : (x : Relation) (h : Heading) → IsRelation x → x.heading ≡ h → IsTrue (is_heading h)
headed_as x h is e = subst (λ (g : Heading). IsTrue (is_heading g)) e is.headed

module _ (all : Entries) (place p : Place) (h g : Heading) (commalist : List ℕ) (headed : h ≡ g) (list : IsList g commalist) where
  -- an operator of two operands
  pair_means : (word : InfixWord) (l r : Tree) (left right : Relation) → IsRelation left → IsRelation right → IsInfix word (heading_of l) (heading_of r) g
      → IsTrue (are_in g (names_at g commalist) (heading_of l)) → IsTrue (are_in g (names_at g commalist) (heading_of r))
      → IsValue all l left → IsValue all r right → IsRuleOf all (using place h commalist (infix_of p g word l r)) left (Some right)
  pair_means word l r left right il ir is first second vl vr =
      let el = value_headed all l left vl in
      let er = value_headed all r right vr in
      let here = positions_beside g (heading_of l) commalist in
      let other = positions_beside g (heading_of r) commalist in
      let hl = headed_as left (heading_of l) il el in
      let hr = headed_as right (heading_of r) ir er in
      let given : List Row → List Row → RowsMeant = λ a b. closed (in_using place (names_at g commalist)) p g
      (infix_rows word (heading_of l) (heading_of r) (opened (in_using place (names_at g commalist)) (heading_of l) a) (opened (in_using place (names_at g commalist)) (heading_of r) b)) in
      let ml = value_meant all l left il.few vl in
      let mr = value_meant all r right ir.few vr in
      record {
        fits = subst (λ (T : Type 0). T) (λ t. IsPair (op_of word) here other (sym el t) (sym er t)) (pair_fits g (heading_of l) (heading_of r) commalist hl hr list first second word is);
        headed = (λ t. view_heading (op_of word) (el t) (er t)) ∙ (pair_headed g (heading_of l) (heading_of r) commalist hl hr list first second word is ∙ sym headed);
        meant = (λ t. both (ml t) (mr t) given) ∙ ap (limited place) (pair_rows g (heading_of l) (heading_of r) commalist hl hr list first second word is left.rows right.rows
            ∙ (λ t. rows_by (op_of word) here other (sym el t) (sym er t) left.rows right.rows));
      }

  -- a projection
  part_means : (kept : List ℕ) (t : Tree) (left : Relation) → IsRelation left → IsProjection (heading_of t) g kept → IsTrue (are_in g (names_at g commalist) (heading_of t)) → IsValue all t left
      → IsRuleOf all (using place h commalist (project p g kept t)) left None
  part_means kept t left il is held v =
      let e = value_headed all t left v in
      let own = positions_beside g (heading_of t) commalist in
      let hl = headed_as left (heading_of t) il e in
      let given : List Row → RowsMeant = λ a. closed (in_using place (names_at g commalist)) p g (projected kept (opened (in_using place (names_at g commalist)) (heading_of t) a)) in
      record {
        fits = subst (IsPart kept own) (sym e) (part_fits g (heading_of t) kept commalist hl list held is);
        headed = ap (attributes_at kept) e ∙ (sym is.headed ∙ sym headed);
        meant = ap (λ (m : RowsMeant). then_give m given) (value_meant all t left il.few v)
            ∙ ap (limited place) (part_rows g (heading_of t) kept commalist hl list held is left.rows ∙ (λ i. rows_by (Project kept) own [] (sym e i) [] left.rows []));
      }

-- PACK of a name
pack_means : (all : Entries) (place : Place) (h : Heading) (commalist : List ℕ) (t : Tree) (left : Relation) → IsRelation left → IsList h commalist → h ≡ heading_of t → IsValue all t left
    → IsRuleOf all (pack place h commalist t) left None
pack_means all place h commalist t left il list same v =
    let e = value_headed all t left v in
    record {
      fits = subst (λ (g : Heading). AreIntervals g commalist) (same ∙ sym e) (intervals_of_list h commalist list);
      headed = e ∙ sym same;
      meant = ap (λ (m : RowsMeant). then_give m (λ a. limited place (packed commalist a))) (value_meant all t left il.few v);
    }

using_means : (sizes : List ℕ) (headings : Headings) (all : Entries) (place : Place) (h : Heading) (commalist : List ℕ) (t : Tree) (left : Relation) (right : Option Relation)
    → IsRelation left → IfSome right (λ r. IsRelation r) → IsTypedTree sizes headings (using place h commalist t) → AreValues all (using place h commalist t) left right
    → IsRuleOf all (using place h commalist t) left right
using_means sizes headings all place h commalist (infix_of p g word l r) left None il ir typed v = absurd v
using_means sizes headings all place h commalist (infix_of p g word l r) left (Some right) il ir typed v =
    let list = subst (λ (k : Heading). IsList k commalist) typed.2 typed.1 in
    let part = and_parts (are_in g (names_at g commalist) (heading_of l)) (are_in g (names_at g commalist) (heading_of r))
    (subst (λ (k : Heading). IsTrue (is_part (names_at k commalist) (infix_of p g word l r))) typed.2 typed.3) in
    pair_means all place p h g commalist typed.2 list word l r left right il ir typed.0.2 part.0 part.1 v.0 v.1
using_means sizes headings all place h commalist (project p g kept t) left None il ir typed v =
    let list = subst (λ (k : Heading). IsList k commalist) typed.2 typed.1 in
    let part = subst (λ (k : Heading). IsTrue (is_part (names_at k commalist) (project p g kept t))) typed.2 typed.3 in
    part_means all place p h g commalist typed.2 list kept t left il typed.0.1 part v
using_means sizes headings all place h commalist (project p g kept t) left (Some right) il ir typed v = absurd v
using_means sizes headings all place h commalist (named p g name) left right il ir typed v = absurd v
using_means sizes headings all place h commalist (literal p g tuples) left right il ir typed v = absurd v
using_means sizes headings all place h commalist (rename p g names t) left right il ir typed v = absurd v
using_means sizes headings all place h commalist (restrict p g c t) left right il ir typed v = absurd v
using_means sizes headings all place h commalist (extend p g sets t) left right il ir typed v = absurd v
using_means sizes headings all place h commalist (summarize p g by aggregates t) left right il ir typed v = absurd v
using_means sizes headings all place h commalist (pack p g list t) left right il ir typed v = absurd v
using_means sizes headings all place h commalist (unpack p g list t) left right il ir typed v = absurd v
using_means sizes headings all place h commalist (using p g list t) left right il ir typed v = absurd v

pub rule_means : (sizes : List ℕ) (headings : Headings) (all : Entries) (t : Tree) (left : Relation) (right : Option Relation)
    → IsRelation left → IfSome right (λ r. IsRelation r) → IsTypedTree sizes headings t → AreValues all t left right → IsRuleOf all t left right
rule_means sizes headings all (using place h commalist t) left right il ir typed v = using_means sizes headings all place h commalist t left right il ir typed v
rule_means sizes headings all (pack place h commalist t) left None il ir typed v = pack_means all place h commalist t left il typed.1 typed.2 v
rule_means sizes headings all (pack place h commalist t) left (Some right) il ir typed v = absurd v
rule_means sizes headings all (named p g name) left right il ir typed v = absurd v
rule_means sizes headings all (literal p g tuples) left right il ir typed v = absurd v
rule_means sizes headings all (infix_of p g word l r) left right il ir typed v = absurd v
rule_means sizes headings all (project p g kept t) left right il ir typed v = absurd v
rule_means sizes headings all (rename p g names t) left right il ir typed v = absurd v
rule_means sizes headings all (restrict p g c t) left right il ir typed v = absurd v
rule_means sizes headings all (extend p g sets t) left right il ir typed v = absurd v
rule_means sizes headings all (summarize p g by aggregates t) left right il ir typed v = absurd v
rule_means sizes headings all (unpack p g list t) left right il ir typed v = absurd v

-- ---- what the rows take

-- as many are listed of an operand
listed_many : (h from : Heading) (commalist : List ℕ) → length (positions_beside h from commalist) ≡ length commalist
listed_many h from commalist = length-map (names_at h commalist) (position_of from) ∙ length-map commalist (λ i. (get_or h i no_attribute).0)

alone_price : (all : Entries) (t : Tree) (left : Relation) (k k' : ℕ) → IsValue all t left → k ≡ k' → bound (length left.rows + 0) k ≡ bound (named_rows all t) k'
alone_price all t left k k' v e =
    let count = value_counted all t left v in
    let same : (length left.rows + 0) ≡ named_rows all t = omega (arith, count) in
    λ i. bound (same i) (e i)

part_price : (all : Entries) (place : Place) (h : Heading) (commalist : List ℕ) (t : Tree) (left : Relation) (right : Option Relation) → AreValues all (using place h commalist t) left right
    → bound (length left.rows + length (rows_or_none right)) (length (rule_for (using place h commalist t)).left) ≡ made_cost all (using place h commalist t)
part_price all place h commalist (infix_of p g word l r) left None v = absurd v
part_price all place h commalist (infix_of p g word l r) left (Some right) v =
    let cl = value_counted all l left v.0 in
    let cr = value_counted all r right v.1 in
    let many = listed_many g (heading_of l) commalist in
    λ i. bound (sym cl i + sym cr i) (many i)
part_price all place h commalist (project p g kept t) left None v = alone_price all t left (length (positions_beside g (heading_of t) commalist)) (length commalist) v (listed_many g (heading_of t) commalist)
part_price all place h commalist (project p g kept t) left (Some right) v = absurd v
part_price all place h commalist (named p g name) left right v = absurd v
part_price all place h commalist (literal p g tuples) left right v = absurd v
part_price all place h commalist (rename p g names t) left right v = absurd v
part_price all place h commalist (restrict p g c t) left right v = absurd v
part_price all place h commalist (extend p g sets t) left right v = absurd v
part_price all place h commalist (summarize p g by aggregates t) left right v = absurd v
part_price all place h commalist (pack p g list t) left right v = absurd v
part_price all place h commalist (unpack p g list t) left right v = absurd v
part_price all place h commalist (using p g list t) left right v = absurd v

pub made_price : (all : Entries) (t : Tree) (left : Relation) (right : Option Relation) → AreValues all t left right
    → bound (length left.rows + length (rows_or_none right)) (length (rule_for t).left) ≡ made_cost all t
made_price all (using place h commalist t) left right v = part_price all place h commalist t left right v
made_price all (pack place h commalist t) left None v = alone_price all t left (length commalist) (length commalist) v refl
made_price all (pack place h commalist t) left (Some right) v = absurd v
made_price all (named p g name) left right v = absurd v
made_price all (literal p g tuples) left right v = absurd v
made_price all (infix_of p g word l r) left right v = absurd v
made_price all (project p g kept t) left right v = absurd v
made_price all (rename p g names t) left right v = absurd v
made_price all (restrict p g c t) left right v = absurd v
made_price all (extend p g sets t) left right v = absurd v
made_price all (summarize p g by aggregates t) left right v = absurd v
made_price all (unpack p g list t) left right v = absurd v
