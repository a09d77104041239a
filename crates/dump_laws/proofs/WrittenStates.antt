-- The base relvars of the state that a run leaves can be written in a script.
--     CanBeWritten      what is to be shown
--     state-written      the law
use Rattle.std.proofs.Common.{List, ◌++◌, map}
use Rattle.std.specs.List.{IsDistinct}
use Rattle.std.specs.Str.{bytes_eq}
use Rattle.std.proofs.lemmas.List.Elements.{recursion_from_All}
use Rattle.base_core.proofs.ListLemmas.{All-In}
use Rattle.base_core.proofs.SetLemmas.{In}
use Rattle.value_core.specs.declared.constraint.Constraint.{Constraint}
use Rattle.value_core.specs.declared.list.OrdinalNames.{OrdinalNames}
use Rattle.value_core.specs.Values.{Name, Relation}
use Rattle.tree_core.specs.Relvars.{State, PlainRelvar, base}
use Rattle.tree_core.specs.Trees.{Test}
use Rattle.meaning_core.specs.WellMade.{IsOrdinalType, IsWellMade}
use Rattle.assign_core.specs.Parts.{names_in}
use Rattle.dump_core.specs.Texts.{SourceText}
use Rattle.constant_texts.specs.Sayable as sayable
use Rattle.constant_texts.specs.Sayable.{AreSayable}
use Rattle.typing_laws.specs.Saying.{Said}
use Rattle.dump_laws.specs.Kept.{AreTexts, IsMadeOf}
use Rattle.dump_laws.specs.SayableNames.{IsSayableType, IsSayableRelvar, HasSayableNames}
use Rattle.dump_laws.proofs.ListLaws.{each-in, distinct-later}
use Rattle.dump_laws.proofs.SayableLaws.{bytes-are-names}
use Rattle.dump_laws.proofs.OrderLaws.{distinct-front}
use Rattle.dump_laws.proofs.StepLaws.{entry-typed}

-- each base relvar can be written, with the ordinal types
abbrev pub CanBeWritten : State → Type 0
CanBeWritten w = (name : Name) (v : Relation) (c : List Constraint) → In (name, base v c) w.relvars → AreSayable w.ordinals name v.heading

module _ (w : State) (texts : List SourceText) (ds : List Said) (said : AreTexts w texts ds) (made : IsMadeOf w ds) (well : IsWellMade w) where
  names : HasSayableNames w
  names = bytes-are-names w texts ds said made

  type-written : (o : OrdinalNames) → In o w.ordinals → sayable.IsSayableType o
  type-written o i =
      let named = each-in IsSayableType w.ordinals (recursion_from_All IsSayableType w.ordinals names.ordinals) o i in
      record { named = named.0; values = named.1; ordinal = each-in IsOrdinalType w.ordinals (recursion_from_All IsOrdinalType w.ordinals well.ordinals) o i }

  types-differ : IsDistinct bytes_eq (map (λ (o : OrdinalNames). o.name) w.ordinals)
  types-differ =
      distinct-later bytes_eq (map (λ (r : Name × Test). r.0) w.rules) (map (λ (o : OrdinalNames). o.name) w.ordinals)
      (distinct-front bytes_eq (map (λ (r : Name × Test). r.0) w.rules ++ map (λ (o : OrdinalNames). o.name) w.ordinals) (names_in w.relvars) well.different)

  abbrev IsNamed : Name × PlainRelvar → Type 0
  IsNamed e = IsSayableRelvar e.0 e.1

  pub state-written : CanBeWritten w
  state-written name v c i =
      let named = each-in IsNamed w.relvars (recursion_from_All IsNamed w.relvars names.relvars) (name, base v c) i in
      let typed = entry-typed w ds made well (name, base v c) i in
      record {
        named = named.0;
        attributes = named.1;
        ordinals = All-In sayable.IsSayableType w.ordinals type-written;
        different = types-differ;
        declared = typed.3.0;
      }
