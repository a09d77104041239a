-- What a stored view keeps: it has a rule, and its operands name base relvars. So does each stored view of a well made state.
--     stored_operands, stored_rule      of an expression that may be a stored view
--     stored_behind      it may be one with more entries behind
--     IsStoredEntry, stored_there      the entries of a state
use Rattle.std.proofs.Common.{◌≡◌, ℕ, zero, suc, ◌<◌, Bool, false, not, List, [], ◌∷◌, ◌++◌, length, refl, sym, ap, ◌∙◌, subst, arith, true≢false, append_assoc, Option, Some, None}
use Rattle.std.specs.Prelude.{◌||◌, option_map, IfSome}
use Rattle.std.specs.Bool.{IsTrue}
use Rattle.std.specs.List.{All}
use Rattle.std.proofs.lemmas.Bool.{and_parts, or_parts}
use Rattle.value_core.specs.Values.{Name, Heading}
use Rattle.tree_core.specs.Relvars.{PlainRelvar, base, view, log, derived, of_history, stored, Entries, relvar_named, relvar_heading, heading_if}
use Rattle.tree_core.specs.Trees.{Tree, named, literal, infix_of, project, rename, restrict, extend, summarize, pack, unpack, using}
use Rattle.tree_core.specs.Uses.{names_any}
use Rattle.meaning_core.specs.StoredViews.{is_name, is_stored_part}
use Rattle.meaning_core.specs.Typing.{IsTypedTree}
use Rattle.meaning_core.specs.WellMade.{headings_of, IsBase, is_base, is_base_in, IsOfKind, IsRelvar, AreRelvars}
use Rattle.meaning_core.proofs.RelvarLemmas.{heading_of_named}
use Rattle.meaning_core.proofs.StaysTyped.{tree-behind}
use Rattle.relvar_logs.specs.Changes.{IsSoAt}
use Rattle.relvar_logs.proofs.NextLemmas.{base_before}
use Rattle.stored_views.specs.Operands.{IsOperand, ArePartOperands, AreOperands}
use Rattle.stored_views.specs.Rules.{HasRule}
use Rattle.stored_views.specs.Stored.{stored_tree}

-- ---- operands

pub base_from : (o : Option PlainRelvar) → not (is_base o) ≡ false → IsBase o
base_from None e = absurd (true≢false e)
base_from (Some (base value constraints)) e = tt
base_from (Some (view t kind)) e = absurd (true≢false e)
base_from (Some (log of side last value)) e = absurd (true≢false e)

heading_from : (o : Option PlainRelvar) (h : Heading) → option_map relvar_heading o ≡ Some h → heading_if o ≡ h
heading_from None h e = absurd (cc)
heading_from (Some r) h e = cc

module _ (sizes : List ℕ) (all : Entries) where
  abbrev only_bases : Tree → Type 0
  only_bases t = names_any (λ name. not (is_base_in all name)) t ≡ false

  operand : (t : Tree) → IsTrue (is_name t) → IsTypedTree sizes (headings_of all) t → only_bases t → IsOperand all t
  operand (named place h name) is typed only = (base_from (relvar_named all name) only, heading_from (relvar_named all name) h (sym (heading_of_named all name) ∙ typed))
  operand (literal place h tuples) is typed only = absurd (true≢false (sym is))
  operand (infix_of place h word l r) is typed only = absurd (true≢false (sym is))
  operand (project place h kept t) is typed only = absurd (true≢false (sym is))
  operand (rename place h names t) is typed only = absurd (true≢false (sym is))
  operand (restrict place h c t) is typed only = absurd (true≢false (sym is))
  operand (extend place h sets t) is typed only = absurd (true≢false (sym is))
  operand (summarize place h by aggregates t) is typed only = absurd (true≢false (sym is))
  operand (pack place h commalist t) is typed only = absurd (true≢false (sym is))
  operand (unpack place h commalist t) is typed only = absurd (true≢false (sym is))
  operand (using place h commalist t) is typed only = absurd (true≢false (sym is))

  part_operands : (t : Tree) → IsTrue (is_stored_part t) → IsTypedTree sizes (headings_of all) t → only_bases t → ArePartOperands all t
  part_operands (infix_of place h word l r) is typed only =
      let names = and_parts (is_name l) (is_name r) is in
      let bases = or_parts (names_any (λ name. not (is_base_in all name)) l) (names_any (λ name. not (is_base_in all name)) r) only in
      (operand l names.0 typed.0 bases.0, operand r names.1 typed.1 bases.1)
  part_operands (project place h kept t) is typed only = operand t is typed.0 only
  part_operands (named place h name) is typed only = absurd (true≢false (sym is))
  part_operands (literal place h tuples) is typed only = absurd (true≢false (sym is))
  part_operands (rename place h names t) is typed only = absurd (true≢false (sym is))
  part_operands (restrict place h c t) is typed only = absurd (true≢false (sym is))
  part_operands (extend place h sets t) is typed only = absurd (true≢false (sym is))
  part_operands (summarize place h by aggregates t) is typed only = absurd (true≢false (sym is))
  part_operands (pack place h commalist t) is typed only = absurd (true≢false (sym is))
  part_operands (unpack place h commalist t) is typed only = absurd (true≢false (sym is))
  part_operands (using place h commalist t) is typed only = absurd (true≢false (sym is))

  pub stored_operands : (t : Tree) → IsTypedTree sizes (headings_of all) t → IsOfKind all t stored → AreOperands all t
  stored_operands (using place h commalist t) typed kind = part_operands t kind.0 typed.0 kind.1
  stored_operands (pack place h commalist t) typed kind = operand t kind.0 typed.0 kind.1
  stored_operands (named place h name) typed kind = absurd (true≢false (sym kind.0))
  stored_operands (literal place h tuples) typed kind = absurd (true≢false (sym kind.0))
  stored_operands (infix_of place h word l r) typed kind = absurd (true≢false (sym kind.0))
  stored_operands (project place h kept t) typed kind = absurd (true≢false (sym kind.0))
  stored_operands (rename place h names t) typed kind = absurd (true≢false (sym kind.0))
  stored_operands (restrict place h c t) typed kind = absurd (true≢false (sym kind.0))
  stored_operands (extend place h sets t) typed kind = absurd (true≢false (sym kind.0))
  stored_operands (summarize place h by aggregates t) typed kind = absurd (true≢false (sym kind.0))
  stored_operands (unpack place h commalist t) typed kind = absurd (true≢false (sym kind.0))

  pub stored_rule : (t : Tree) → IsTypedTree sizes (headings_of all) t → IsOfKind all t stored → HasRule t
  stored_rule (using place h commalist t) typed kind = (kind.0, subst (λ (g : Heading). All (λ (i : ℕ). i < length g) commalist) typed.2 typed.1.within)
  stored_rule (pack place h commalist t) typed kind = kind.0
  stored_rule (named place h name) typed kind = absurd (true≢false (sym kind.0))
  stored_rule (literal place h tuples) typed kind = absurd (true≢false (sym kind.0))
  stored_rule (infix_of place h word l r) typed kind = absurd (true≢false (sym kind.0))
  stored_rule (project place h kept t) typed kind = absurd (true≢false (sym kind.0))
  stored_rule (rename place h names t) typed kind = absurd (true≢false (sym kind.0))
  stored_rule (restrict place h c t) typed kind = absurd (true≢false (sym kind.0))
  stored_rule (extend place h sets t) typed kind = absurd (true≢false (sym kind.0))
  stored_rule (summarize place h by aggregates t) typed kind = absurd (true≢false (sym kind.0))
  stored_rule (unpack place h commalist t) typed kind = absurd (true≢false (sym kind.0))

-- ---- more entries behind

module _ (p q : Name → Bool) (h : (name : Name) → p name ≡ false → q name ≡ false) where
  names_fewer : (t : Tree) → names_any p t ≡ false → names_any q t ≡ false
  names_fewer (named place g name) e = h name e
  names_fewer (literal place g tuples) e = refl
  names_fewer (infix_of place g word l r) e =
      let parts = or_parts (names_any p l) (names_any p r) e in
      λ i. names_fewer l parts.0 i || names_fewer r parts.1 i
  names_fewer (project place g kept t) e = names_fewer t e
  names_fewer (rename place g names t) e = names_fewer t e
  names_fewer (restrict place g c t) e = names_fewer t e
  names_fewer (extend place g sets t) e = names_fewer t e
  names_fewer (summarize place g by aggregates t) e = names_fewer t e
  names_fewer (pack place g commalist t) e = names_fewer t e
  names_fewer (unpack place g commalist t) e = names_fewer t e
  names_fewer (using place g commalist t) e = names_fewer t e

pub stored_behind : (sizes : List ℕ) (before more : Entries) (t : Tree) → IsTypedTree sizes (headings_of before) t → IsOfKind before t stored
    → IsTypedTree sizes (headings_of (before ++ more)) t × IsOfKind (before ++ more) t stored
stored_behind sizes before more t typed kind = (
  tree-behind sizes before more t typed,
  (
    kind.0,
    names_fewer (λ name. not (is_base_in before name)) (λ name. not (is_base_in (before ++ more) name))
        (λ name e. ap (λ (o : Option PlainRelvar). not (is_base o)) (base_before before more name (base_from (relvar_named before name) e)) ∙ e) t kind.1,
  ),
)

-- the expression of a stored view is typed, and that of one
abbrev pub IsStoredEntry : List ℕ → Entries → PlainRelvar → Type 0
IsStoredEntry sizes all r = IfSome (stored_tree r) (λ t. IsTypedTree sizes (headings_of all) t × IsOfKind all t stored)

entry_stored : (sizes : List ℕ) (before more : Entries) (own : Name) (r : PlainRelvar) → IsRelvar sizes before own r → IsStoredEntry sizes (before ++ more) r
entry_stored sizes before more own (base value constraints) is = tt
entry_stored sizes before more own (view t derived) is = tt
entry_stored sizes before more own (view t (of_history names)) is = tt
entry_stored sizes before more own (view t stored) is = stored_behind sizes before more t is.0 is.1
entry_stored sizes before more own (log of side last value) is = tt

stored_from : (sizes : List ℕ) (before es : Entries) (i : ℕ) → AreRelvars sizes before es → i < length es → IsSoAt i (IsStoredEntry sizes (before ++ es)) es
stored_from sizes before [] i all l = absurd (omega (arith, l))
stored_from sizes before (e ∷ es) zero all l = entry_stored sizes before (e ∷ es) e.0 e.1 all.0
stored_from sizes before (e ∷ es) (suc i) all l =
    subst (λ (z : Entries). IsSoAt i (IsStoredEntry sizes z) es) (append_assoc before (e ∷ []) es) (stored_from sizes (before ++ e ∷ []) es i all.1 (omega (arith, l)))

pub stored_there : (sizes : List ℕ) (es : Entries) (i : ℕ) → AreRelvars sizes [] es → i < length es → IsSoAt i (IsStoredEntry sizes es) es
stored_there sizes es i all l = stored_from sizes [] es i all l
