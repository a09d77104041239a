-- The names of a heading come from its text: what holds for each name that is written holds for each attribute.
--     heading-names      of a written heading
--     name-written, new-name-written      a name that is given is the one that is written
use Rattle.std.proofs.Common.{◌≡◌, false, List, [], ◌∷◌, Ok, sym, ◌∙◌, subst}
use Rattle.std.specs.Prelude.{All, if◌then◌else◌}
use Rattle.std.specs.BTreeMap.{insert_entry}
use Rattle.std.specs.Ordering.{match_ordering}
use Rattle.std.specs.declared.cmp.Ordering.TheVariants.{Less, Equal, Greater}
use Rattle.std.proofs.lemmas.List.Elements.{All-nil, All-cons, All-head, All-tail}
use Rattle.point_core.specs.declared.fault.Code.TheVariants.{E06, E15, E17}
use Rattle.utd_syntax.specs.declared.terminal.Terminal.TheVariants as t
use Rattle.utd_syntax.specs.Plain as syntax
use Rattle.utd_syntax.specs.Plain.{Word, KindP, AttributeP, HeadingP}
use Rattle.utd_syntax.specs.Table.{Plain}
use Rattle.utd_ranges.specs.Ranges.{Range, AttributeIn, HeadingIn, Each}
use Rattle.value_core.specs.declared.kind.Kind.{Kind}
use Rattle.value_core.specs.declared.list.OrdinalNames.{OrdinalNames}
use Rattle.value_core.specs.Headings.{has_name}
use Rattle.value_core.specs.Values.{Name, Heading, name_cmp}
use Rattle.scalar_typing.specs.Typings.{◌>>=◌, refused}
use Rattle.relation_typing.specs.Attributes.{with_attribute, is_name, name_typed, new_name, few_attributes}
use Rattle.relation_typing.specs.Headings.{kind_typed, attributes_typed, heading_typed}
use Rattle.row_typing_laws.proofs.Parts.{parts-of, check-gives, unless-gives}

-- ---- names

pub name-written : (w : Word) (name : Name) → name_typed w ≡ Ok name → name ≡ w.bytes
name-written w name h = check-gives w.place E06 (is_name w.bytes) w.bytes name h

pub new-name-written : (g : Heading) (w : Word) (name : Name) → new_name g w ≡ Ok name → name ≡ w.bytes
new-name-written g w name h =
    let k = parts-of (name_typed w) (λ n. if has_name g n then refused w.place E15 else Ok n) name h in
    unless-gives w.place E15 (has_name g k.0) k.0 name k.2 ∙ name-written w k.0 k.1

-- ---- lists of attributes

-- without an attribute more
same-given : (types : List OrdinalNames) (g h : Heading) → attributes_typed types g [] ≡ Ok h → g ≡ h
same-given types g h e = cc

module _ (P : Name → Type 0) where
  abbrev AreNamed : Heading → Type 0
  AreNamed g = All (λ (a : Name × Kind). P a.0) g

  -- an attribute more
  insert-named : (g : Heading) (name : Name) (kind : Kind) → AreNamed g → P name → AreNamed (with_attribute g name kind)
  insert-named [] name kind all one = All-cons (λ a. P a.0) (name, kind) [] one all
  insert-named (a ∷ rest) name kind all one =
      let own : P a.0 = All-head (λ b. P b.0) a rest all in
      let others : AreNamed rest = All-tail (λ b. P b.0) a rest all in
      elim (name_cmp name a.0) as (λ r. AreNamed (match_ordering r ((name, kind) ∷ a ∷ rest) ((a.0, kind) ∷ rest) (a ∷ insert_entry name_cmp rest name kind))) [
        | Less ↦ All-cons (λ b. P b.0) (name, kind) (a ∷ rest) one all
        | Equal ↦ All-cons (λ b. P b.0) (a.0, kind) rest own others
        | Greater ↦ All-cons (λ b. P b.0) a (insert_entry name_cmp rest name kind) own (insert-named rest name kind others one)
      ]

-- ---- headings

module _ (types : List OrdinalNames) (out : Range) where
  abbrev IsIn : Name → Type 0
  IsIn n = out Plain t.Name n ≡ false

  attributes-named : (before : Heading) (list : List AttributeP) (g : Heading) → attributes_typed types before list ≡ Ok g → Each (AttributeIn out) list → AreNamed IsIn before → AreNamed IsIn g
  attributes-named before [] g h in' all = subst (AreNamed IsIn) (same-given types before g h) all
  attributes-named before (syntax.Attribute w k ∷ rest) g h in' all =
      let kind = parts-of (kind_typed types k) (λ kind. new_name before w >>= (λ name. attributes_typed types (with_attribute before name kind) rest)) g h in
      let name = parts-of (new_name before w) (λ name. attributes_typed types (with_attribute before name kind.0) rest) g kind.2 in
      attributes-named (with_attribute before name.0 kind.0) rest g name.2 in'.1 (insert-named IsIn before name.0 kind.0 all (subst IsIn (sym (new-name-written before w name.0 name.1)) in'.0.0))

  pub heading-names : (x : HeadingP) (g : Heading) → heading_typed types x ≡ Ok g → HeadingIn out x → All (λ (a : Name × Kind). out Plain t.Name a.0 ≡ false) g
  heading-names (syntax.Heading at list) g h in' =
      let all = parts-of (attributes_typed types [] list) (few_attributes at) g h in
      subst (AreNamed IsIn) (sym (check-gives at E17 _ all.0 g all.2)) (attributes-named [] list all.0 all.1 in' (All-nil (λ (a : Name × Kind). IsIn a.0)))
