-- What VAR VIRTUAL declares keeps a state well made.
use Rattle.std.specs.Prelude.{IfOk}
use Rattle.utd_syntax.specs.Plain.{Word, RelP}
use Rattle.scalar_typing.proofs.SoundLemmas.{then-sound, any-given}
use Rattle.tree_core.specs.Relvars.{State, derived, view}
use Rattle.meaning_core.specs.Declarations.{PlainDeclaration, with_declaration}
use Rattle.meaning_core.specs.WellMade.{IsTypedFor, IsWellMade}
use Rattle.tree_typing.specs.Trees.{tree_typed}
use Rattle.declaration_typing.specs.Names.{new_name}
use Rattle.declaration_typing.specs.Views.{room_for_view, view_declared}
use Rattle.declaration_typing.proofs.StateLemmas.{IsFree, free-name, with-relvar}

module _ (s : State) (w : Word) (rel : RelP) where
  abbrev IsKept : PlainDeclaration → Type 0
  IsKept d = IsWellMade (with_declaration s d)

  -- where expressions are typed for the state
  pub view-kept : IsWellMade s → IfOk (tree_typed s rel) (IsTypedFor s) → IfOk (view_declared s w rel) IsKept
  unfolding view_declared
  view-kept made typed =
      then-sound (IsFree s) IsKept (new_name s w) _ (free-name s w) (λ name free.
      then-sound (IsTypedFor s) IsKept (tree_typed s rel) _ typed (λ t is.
      then-sound (λ (_ : Unit {0}). Unit {0}) IsKept (room_for_view s w.place t) _ (any-given (room_for_view s w.place t)) (λ _ _.
      with-relvar s name (view t derived) made free (is, tt))))
