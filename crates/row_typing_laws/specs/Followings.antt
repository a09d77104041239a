-- One typing that follows another: where the one gives, the other gives what is moved.
--     Follows      where m gives a value, n gives what `move` makes of it
--     moved_typed, moved_made      a typed expression, and items with their attributes, whose places are moved
use Rattle.std.specs.Prelude.{◌≡◌, Ok}
use Rattle.point_core.specs.declared.fault.Place.{Place}
use Rattle.point_core.specs.Faults.{OrFault}
use Rattle.scalar_typing.specs.Typings.{Typed}
use Rattle.relation_typing.specs.Items.{Made}
use Rattle.meaning_laws.specs.Moved.{moved_expr, moved_sets}

abbrev pub Follows : {A B : Type 0} → (A → B) → OrFault A → OrFault B → Type 0
Follows move m n = (a : _) → m ≡ Ok a → n ≡ Ok (move a)

abbrev pub moved_typed : (Place → Place) → Typed → Typed
moved_typed f d = (moved_expr f d.0, d.1)

abbrev pub moved_made : (Place → Place) → Made → Made
moved_made f made = (moved_sets f made.0, made.1)
