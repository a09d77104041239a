-- What LOG declares can be opened, and keeps a state well made.
use Rattle.std.specs.Prelude.{◌≡◌, ◌<◌, ◌-◌, ℕ, Bool, true, false, cond, List, [], ◌∷◌, ◌++◌, length, nat_le, Option, Some, None, Ok, Err, IfOk, IsTrue, refl}
use Rattle.std.proofs.Common.{inl, inr, arith, sym, subst}
use Rattle.std.specs.List.{list_all}
use Rattle.std.specs.Str.{bytes_eq}
use Rattle.std.proofs.lemmas.Bool.{and_parts, and_from, le-leb, leb-true}
use Rattle.base_core.proofs.MemberLemmas.{list_all-In}
use Rattle.base_core.proofs.SetOperatorLemmas.{is_set-Ascends, length-in_order}
use Rattle.point_core.specs.declared.fault.Place.{Place}
use Rattle.point_core.specs.declared.fault.Code.TheVariants.{E17}
use Rattle.point_core.specs.Faults.{OrFault}
use Rattle.utd_syntax.specs.Plain.{Word}
use Rattle.value_core.specs.Headings.{has_name}
use Rattle.value_core.specs.Limits.{most_attributes}
use Rattle.value_core.specs.Values.{Name, Heading, attribute_cmp, is_heading}
use Rattle.value_core.specs.declared.kind.Kind.{Kind}
use Rattle.value_core.proofs.HeadingLemmas.{attribute_total}
use Rattle.relation_core.proofs.ApartLemmas.{ascends_in_order, from_in_order}
use Rattle.scalar_typing.proofs.SoundLemmas.{then-sound, any-given}
use Rattle.relation_typing.specs.Attributes.{name_typed, new_name as new_attribute}
use Rattle.log_times.specs.Turns.{kind_of_statements, log_heading}
use Rattle.log_times.proofs.HeadingLemmas.{log_placed, log_without}
use Rattle.tree_core.specs.declared.declaration.LogData.{LogData}
use Rattle.tree_core.specs.Relvars.{State, PlainRelvar, base, view, log, Entries, relvar_named, heading_if}
use Rattle.meaning_core.specs.Logs.{new_log}
use Rattle.meaning_core.specs.Typing.{is_kind, is_declared}
use Rattle.meaning_core.specs.Updates.{IsTypedLog}
use Rattle.meaning_core.specs.WellMade.{sizes_of, IsBase, IsRelvar, AreRelvars, IsWellMade}
use Rattle.node_typing.specs.Positions.{check}
use Rattle.declaration_typing.specs.Constraints.{base_heading}
use Rattle.declaration_typing.specs.Logs.{room_for_log, log_declared}
use Rattle.declaration_typing.specs.Names.{new_name, room_for}
use Rattle.declaration_typing.proofs.HistoryLaws.{new-attribute}
use Rattle.declaration_typing.proofs.PositionLemmas.{held}
use Rattle.declaration_typing.proofs.StateLemmas.{IsFree, free-name, with-relvar}

-- ---- the log's relvar

-- a base relvar has a declared heading
base-declared : (sizes : List ℕ) (before es : Entries) (name : Name) → AreRelvars sizes before es → IsBase (relvar_named es name) → IsTrue (is_declared sizes (heading_if (relvar_named es name)))
base-declared sizes before [] name are = λ is. absurd is
base-declared sizes before ((own, r) ∷ rest) name are = by-test (bytes_eq own name) (base-declared sizes (before ++ (own, r) ∷ []) rest name are.1)
  where
    here : (x : PlainRelvar) → IsRelvar sizes before own x → IsBase (Some x) → IsTrue (is_declared sizes (heading_if (Some x)))
    here (base value constraints) one is = one.0
    here (view t kind) one is = absurd is
    here (log of side last value) one is = absurd is

    by-test : (b : Bool) → (IsBase (relvar_named rest name) → IsTrue (is_declared sizes (heading_if (relvar_named rest name)))) → IsBase (cond b (Some r) (relvar_named rest name))
        → IsTrue (is_declared sizes (heading_if (cond b (Some r) (relvar_named rest name))))
    by-test true more is = here r are.0 is
    by-test false more is = more is

-- the heading that is told is a base relvar's
record IsSource (o : Option PlainRelvar) (heading : Heading) : Type 0 where
  pub base : IsBase o
  pub same : heading ≡ heading_if o

source-is : (place : Place) (o : Option PlainRelvar) → IfOk (base_heading place o) (IsSource o)
source-is place None = tt
source-is place (Some (base value constraints)) = record { base = tt; same = refl }
source-is place (Some (view t kind)) = tt
source-is place (Some (log of side last value)) = tt

-- ---- the log's heading

module _ (sizes : List ℕ) (heading : Heading) (attribute : Name) (declared : IsTrue (is_declared sizes heading)) (few : length heading < most_attributes) where
  abbrev one : Name × Kind
  one = (attribute, kind_of_statements)

  log-few : nat_le (length (log_heading heading attribute)) most_attributes ≡ true
  log-few = let fewer = length-in_order attribute_cmp (one ∷ heading) in le-leb (length (log_heading heading attribute)) most_attributes (omega (arith, fewer, few))

  log-headed : IsTrue (is_heading (log_heading heading attribute))
  log-headed = and_from _ (nat_le (length (log_heading heading attribute)) most_attributes)
      ((is_set-Ascends attribute_cmp attribute_total (log_heading heading attribute)).1 (ascends_in_order attribute_cmp attribute_total (one ∷ heading))) log-few

  log-kinds : IsTrue (list_all (λ a. is_kind sizes a.1) (log_heading heading attribute))
  log-kinds =
      let all = (list_all-In (λ (a : Name × Kind). is_kind sizes a.1) heading).0 (and_parts (is_heading heading) (list_all (λ a. is_kind sizes a.1) heading) declared).1 in
      (list_all-In (λ (a : Name × Kind). is_kind sizes a.1) (log_heading heading attribute)).1 (λ a i. elim (from_in_order attribute_cmp a (one ∷ heading) i) [
        | inl e ↦ subst (λ (b : Name × Kind). IsTrue (is_kind sizes b.1)) (sym e) refl
        | inr j ↦ all a j
      ])

  log-declared : IsTrue (is_declared sizes (log_heading heading attribute))
  log-declared = and_from (is_heading (log_heading heading attribute)) (list_all (λ a. is_kind sizes a.1) (log_heading heading attribute)) log-headed log-kinds

-- ---- the log

room-told : (s : State) (heading : Heading) (place : Place) → IfOk (room_for_log s heading place) (λ (_ : Unit {0}). IsTrue (nat_le (length heading) (most_attributes - 1)))
room-told s heading place =
    then-sound (λ (_ : Unit {0}). IsTrue (nat_le (length heading) (most_attributes - 1))) (λ (_ : Unit {0}). IsTrue (nat_le (length heading) (most_attributes - 1)))
    (check place E17 (nat_le (length heading) (most_attributes - 1))) _ (held place E17 (nat_le (length heading) (most_attributes - 1))) (λ _ room. told room (room_for s place))
  where
    told : IsTrue (nat_le (length heading) (most_attributes - 1)) → (r : OrFault (Unit {0})) → IfOk r (λ (_ : Unit {0}). IsTrue (nat_le (length heading) (most_attributes - 1)))
    told room (Ok x) = room
    told room (Err e) = tt

log-typed : (s : State) (d : LogData) → IsWellMade s → IsFree s d.name → IsBase (relvar_named s.relvars d.of)
    → IsTrue (nat_le (length (heading_if (relvar_named s.relvars d.of))) (most_attributes - 1)) → has_name (heading_if (relvar_named s.relvars d.of)) d.attribute ≡ false → IsTypedLog s d
log-typed s d made free is room new =
    let heading : Heading = heading_if (relvar_named s.relvars d.of) in
    let most = leb-true (length heading) (most_attributes - 1) room in
    let few : length heading < most_attributes = omega (arith, most) in
    let declared : IsTrue (is_declared (sizes_of s.ordinals) heading) = base-declared (sizes_of s.ordinals) [] s.relvars d.of made.relvars is in
    let headed : IsTrue (is_heading heading) = (and_parts (is_heading heading) _ declared).0 in
    record {
      base = is;
      few = few;
      new = new;
      made = with-relvar s d.name (new_log heading s.accepted d) made free (
        log-declared (sizes_of s.ordinals) heading d.attribute declared few,
        (is, log_placed heading d.attribute headed new, log_without heading d.attribute headed new),
      );
    }

module _ (s : State) (l r t : Word) where
  pub log-kept : IsWellMade s → IfOk (log_declared s l r t) (IsTypedLog s)
  unfolding log_declared
  log-kept made =
      then-sound (IsFree s) (IsTypedLog s) (new_name s l) _ (free-name s l) (λ name free.
      then-sound (λ (_ : Name). Unit {0}) (IsTypedLog s) (name_typed r) _ (any-given (name_typed r)) (λ of _.
      then-sound (IsSource (relvar_named s.relvars of)) (IsTypedLog s) (base_heading r.place (relvar_named s.relvars of)) _ (source-is r.place (relvar_named s.relvars of)) (λ heading source.
      then-sound (λ (n : Name). has_name heading n ≡ false) (IsTypedLog s) (new_attribute heading t) _ (new-attribute heading t) (λ attribute new.
      then-sound (λ (_ : Unit {0}). IsTrue (nat_le (length heading) (most_attributes - 1))) (IsTypedLog s) (room_for_log s heading l.place) _ (room-told s heading l.place) (λ _ room.
      log-typed s (record { name = name; of = of; attribute = attribute }) made free source.base
      (subst (λ (h : Heading). IsTrue (nat_le (length h) (most_attributes - 1))) source.same room)
      (subst (λ (h : Heading). has_name h attribute ≡ false) source.same new))))))
