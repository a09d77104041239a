-- What VAR RELATION declares keeps a state well made.
use Rattle.std.specs.Prelude.{List, [], Ok, Err, IfOk, IsTrue}
use Rattle.std.specs.List.{All}
use Rattle.point_core.specs.Faults.{OrFault}
use Rattle.utd_syntax.specs.Plain.{Word, HeadingP, ConstraintP}
use Rattle.value_core.specs.declared.constraint.Constraint.{Constraint}
use Rattle.value_core.specs.Values.{Name, Heading}
use Rattle.scalar_typing.proofs.SoundLemmas.{then-sound, any-given}
use Rattle.relation_typing.specs.Headings.{heading_typed}
use Rattle.tree_core.specs.Relvars.{State, base}
use Rattle.meaning_core.specs.Declarations.{PlainDeclaration, with_declaration}
use Rattle.meaning_core.specs.Typing.{is_declared}
use Rattle.meaning_core.specs.WellMade.{sizes_of, IsConstraint, IsWellMade}
use Rattle.declaration_typing.specs.Constraints.{constraints_typed, few_constraints}
use Rattle.declaration_typing.specs.Names.{new_name, room_for}
use Rattle.declaration_typing.specs.Relvars.{relvar_declared}
use Rattle.declaration_typing.proofs.FitLemmas.{ListsAreSound, constraints-fit}
use Rattle.declaration_typing.proofs.StateLemmas.{IsFree, free-name, with-relvar}

module _ (s : State) (w : Word) (h : HeadingP) (list : List ConstraintP) where
  abbrev IsKept : PlainDeclaration → Type 0
  IsKept d = IsWellMade (with_declaration s d)

  -- the constraints, which fit whichever rows and constraints the relvar has
  abbrev AllFit : Name → Heading → List Constraint → Type 0
  AllFit name heading typed = (others : List Constraint) → All (IsConstraint s.relvars name (base (record { heading = heading; rows = [] }) others)) typed

  for-all : {X Y : Type 0} (P : Y → X → Type 0) (r : OrFault X) → ((y : Y) → IfOk r (P y)) → IfOk r (λ x. (y : Y) → P y x)
  for-all P (Ok x) h = h
  for-all P (Err e) h = tt

  fit : (name : Name) (heading : Heading) → IsFree s name → ListsAreSound heading → IfOk (constraints_typed s name heading [] list) (AllFit name heading)
  fit name heading free lists =
      for-all (λ (others : List Constraint). All (IsConstraint s.relvars name (base (record { heading = heading; rows = [] }) others))) (constraints_typed s name heading [] list)
      (λ others. constraints-fit s name heading others free.none lists list)

  -- where headings are typed of kinds there are, and lists over them are lists of intervals
  pub relvar-kept : IsWellMade s → IfOk (heading_typed s.ordinals h) (λ to. IsTrue (is_declared (sizes_of s.ordinals) to))
      → ((to : Heading) → IsTrue (is_declared (sizes_of s.ordinals) to) → ListsAreSound to) → IfOk (relvar_declared s w h list) IsKept
  unfolding relvar_declared
  relvar-kept made headed lists =
      then-sound (IsFree s) IsKept (new_name s w) _ (free-name s w) (λ name free.
      then-sound (λ to. IsTrue (is_declared (sizes_of s.ordinals) to)) IsKept (heading_typed s.ordinals h) _ headed (λ heading declared.
      then-sound (AllFit name heading) IsKept (constraints_typed s name heading [] list) _ (fit name heading free (lists heading declared)) (λ typed all.
      then-sound (λ (_ : Unit {0}). Unit {0}) IsKept (few_constraints list) _ (any-given (few_constraints list)) (λ _ _.
      then-sound (λ (_ : Unit {0}). Unit {0}) IsKept (room_for s w.place) _ (any-given (room_for s w.place)) (λ _ _.
      with-relvar s name (base (record { heading = heading; rows = [] }) typed) made free (declared, all typed))))))
