-- A state in which some of what is said has been declared.
--     is_rule_said      whether something is said by the text of a database constraint
--     in_script_order      what is said, in the order of a script: what stands before all rows, views, database constraints
--     AreLikeEntries, AreMovedRules      entries of the same names in order, and database constraints, places aside
--     Stands      a state has just what is said, places and values aside
--     AreSaidFrom      texts that say this, each under the first of some ordinal types and of those of the texts before it
use Rattle.std.specs.Prelude.{◌≡◌, Bool, List, [], ◌∷◌, ◌++◌}
use Rattle.std.specs.List.{filter, flat_map}
use Rattle.point_core.specs.declared.fault.Place.{Place}
use Rattle.value_core.specs.declared.list.OrdinalNames.{OrdinalNames}
use Rattle.tree_core.specs.Relvars.{State, Entries, Rules}
use Rattle.dump_core.specs.declared.texts.TextKind.TheVariants.{Rule}
use Rattle.dump_core.specs.Texts.{SourceText, same_kind}
use Rattle.meaning_laws.specs.Likeness.{IsLike}
use Rattle.meaning_laws.specs.Moved.{moved_test}
use Rattle.typing_laws.specs.Saying.{Said, entries_said, ordinals_said, rules_said}
use Rattle.dump_laws.specs.Kept.{kind_said, is_early_said, is_view_said, IsTextOf}

abbrev pub is_rule_said : Said → Bool
is_rule_said d = same_kind (kind_said d) Rule

-- types, base relvars and histories; then views; then database constraints
abbrev pub in_script_order : List Said → List Said
in_script_order ds = filter is_early_said ds ++ (filter is_view_said ds ++ filter is_rule_said ds)

-- the same names in order, each for the like
abbrev pub AreLikeEntries : Entries → Entries → Type 0
AreLikeEntries [] [] = Unit {0}
AreLikeEntries [] (y ∷ ys) = ⊥
AreLikeEntries (x ∷ xs) [] = ⊥
AreLikeEntries (x ∷ xs) (y ∷ ys) = ((y.0 ≡ x.0) × IsLike x.1 y.1) × AreLikeEntries xs ys

-- the same names in order, each for the same test at other places
abbrev pub AreMovedRules : Rules → Rules → Type 0
AreMovedRules [] [] = Unit {0}
AreMovedRules [] (y ∷ ys) = ⊥
AreMovedRules (x ∷ xs) [] = ⊥
AreMovedRules (x ∷ xs) (y ∷ ys) = ((y.0 ≡ x.0) × ((f : Place → Place) × (y.1 ≡ moved_test f x.1))) × AreMovedRules xs ys

-- the state has just what is said, in its order
pub record Stands (done : List Said) (r : State) : Type 0 where
  pub ordinals : r.ordinals ≡ flat_map ordinals_said done
  pub relvars : AreLikeEntries (flat_map entries_said done) r.relvars
  pub rules : AreMovedRules (flat_map rules_said done) r.rules

-- One for each, in order. Each says what it says under the first of these ordinal types and of those of the texts before it.
abbrev pub AreSaidFrom : State → List OrdinalNames → List SourceText → List Said → Type 0
AreSaidFrom w types [] [] = Unit {0}
AreSaidFrom w types [] (d ∷ ds) = ⊥
AreSaidFrom w types (t ∷ texts) [] = ⊥
AreSaidFrom w types (t ∷ texts) (d ∷ ds) =
    ((front : List OrdinalNames) × (back : List OrdinalNames) × (types ≡ front ++ back) × IsTextOf (record w { ordinals = front }) t d) × AreSaidFrom w (types ++ ordinals_said d) texts ds
