-- What LOG declares.
--     log-free      its name is free, and there is room for it
use Rattle.std.proofs.Common.{◌≡◌, ◌<◌, false, not, nat_le, length, Ok, refl, ap, ◌∙◌, subst}
use Rattle.std.specs.Prelude.{◌-◌, nat_lt}
use Rattle.std.proofs.lemmas.Bool.{not-true, ltb-true}
use Rattle.point_core.specs.declared.fault.Code.TheVariants.{E11, E17, E22}
use Rattle.value_core.specs.Limits.{most_attributes, most_relvars}
use Rattle.value_core.specs.Values.{Name}
use Rattle.utd_syntax.specs.Plain.{Word}
use Rattle.relation_typing.specs.Attributes as attributes
use Rattle.relation_typing.specs.Attributes.{name_typed}
use Rattle.tree_core.specs.declared.declaration.LogData.{LogData}
use Rattle.tree_core.specs.Relvars.{State, relvar_named}
use Rattle.node_typing.specs.Positions.{check}
use Rattle.row_typing_laws.proofs.Parts.{parts-of, check-holds}
use Rattle.declaration_typing.specs.Constraints.{base_heading}
use Rattle.declaration_typing.specs.Logs.{room_for_log, log_declared}
use Rattle.declaration_typing.specs.Names.{is_taken, new_name}
use Rattle.dump_laws.proofs.OutcomeLaws.{given-same}

pub log-free : (w : State) (l source t : Word) (d : LogData) → log_declared w l source t ≡ Ok d → (is_taken w d.name ≡ false) × (length w.relvars < most_relvars)
unfolding log_declared
log-free w l source t d e =
    let name = parts-of (new_name w l) _ d e in
    let of = parts-of (name_typed source) _ d name.2 in
    let heading = parts-of (base_heading source.place (relvar_named w.relvars of.0)) _ d of.2 in
    let attribute = parts-of (attributes.new_name heading.0 t) _ d heading.2 in
    let room = parts-of (room_for_log w heading.0 l.place) _ d attribute.2 in
    let few = parts-of (check l.place E17 (nat_le (length heading.0) (most_attributes - 1))) _ room.0 room.1 in
    let less : length w.relvars < most_relvars = ltb-true (length w.relvars) most_relvars (check-holds l.place E22 (nat_lt (length w.relvars) most_relvars) tt room.0 few.2) in
    let typed = parts-of (name_typed l) _ name.0 name.1 in
    let free = parts-of (check l.place E11 (not (is_taken w typed.0))) _ name.0 typed.2 in
    let new : is_taken w typed.0 ≡ false = not-true (is_taken w typed.0) (check-holds l.place E11 (not (is_taken w typed.0)) tt free.0 free.1) in
    let made : LogData = record { name = name.0; of = of.0; attribute = attribute.0 } in
    let same : made ≡ d = given-same made d (Ok made) refl room.2 in
    let key : typed.0 ≡ d.name = given-same typed.0 name.0 (Ok typed.0) refl free.2 ∙ ap (λ (x : LogData). x.name) same in
    (subst (λ (n : Name). is_taken w n ≡ false) key new, less)
