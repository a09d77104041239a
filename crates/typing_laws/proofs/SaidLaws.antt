-- What is said, moved, and what it adds to a state.
--     said-moved-names, said-moved-any      its names, and what it names
--     said-moved-entries, said-moved-ordinals, said-moved-rules      what it adds, moved
--     with-ordinal, with-base, with-view, with-stored, with-history, with-said-rule      what the machine makes of a state is `with_said`
use Rattle.std.proofs.Common.{◌≡◌, Bool, List, [], ◌∷◌, ◌++◌, map, refl, sym, ap, ◌∙◌, append_assoc}
use Rattle.std.proofs.lemmas.List.{append-nil}
use Rattle.point_core.specs.declared.fault.Place.{Place}
use Rattle.value_core.specs.declared.constraint.Constraint.{Constraint}
use Rattle.value_core.specs.Values.{Name, Heading}
use Rattle.tree_core.specs.declared.declaration.HistoryData.{HistoryData}
use Rattle.tree_core.specs.Relvars.{State, derived, stored, of_history, PlainRelvar, base, view, Entries}
use Rattle.tree_core.specs.Trees.{Tree, Test}
use Rattle.meaning_core.specs.Declarations.{ordinal_type, base_relvar, view_relvar, with_declaration, with_relvar, with_rule}
use Rattle.meaning_laws.specs.Moved.{moved_entry, moved_rule}
use Rattle.meaning_laws.proofs.SameMoved.{names-moved, test-names-moved}
use Rattle.since_during.specs.Histories.{since_heading, during_heading, since_constraints, during_constraints, view_of, declared_history, declared_in}
use Rattle.typing_laws.specs.Saying.{Said, said_ordinal, said_base, said_view, said_stored, said_history, said_rule, names_said, moved_said, said_names_any, entries_said, ordinals_said, rules_said, with_said}

-- ---- moved

module _ (f : Place → Place) where
  pub said-moved-names : (d : Said) → names_said (moved_said f d) ≡ names_said d
  said-moved-names (said_ordinal name names) = refl
  said-moved-names (said_base name heading typed) = refl
  said-moved-names (said_view name t) = refl
  said-moved-names (said_stored name t) = refl
  said-moved-names (said_history made) = refl
  said-moved-names (said_rule name t) = refl

  pub said-moved-any : (some : Name → Bool) (d : Said) → said_names_any some (moved_said f d) ≡ said_names_any some d
  said-moved-any some (said_ordinal name names) = refl
  said-moved-any some (said_base name heading typed) = refl
  said-moved-any some (said_view name t) = names-moved f some t
  said-moved-any some (said_stored name t) = names-moved f some t
  said-moved-any some (said_history made) = refl
  said-moved-any some (said_rule name t) = test-names-moved f some t

  pub said-moved-entries : (d : Said) → entries_said (moved_said f d) ≡ map (moved_entry f) (entries_said d)
  said-moved-entries (said_ordinal name names) = refl
  said-moved-entries (said_base name heading typed) = refl
  said-moved-entries (said_view name t) = refl
  said-moved-entries (said_stored name t) = refl
  said-moved-entries (said_history made) = refl
  said-moved-entries (said_rule name t) = refl

  pub said-moved-ordinals : (d : Said) → ordinals_said (moved_said f d) ≡ ordinals_said d
  said-moved-ordinals (said_ordinal name names) = refl
  said-moved-ordinals (said_base name heading typed) = refl
  said-moved-ordinals (said_view name t) = refl
  said-moved-ordinals (said_stored name t) = refl
  said-moved-ordinals (said_history made) = refl
  said-moved-ordinals (said_rule name t) = refl

  pub said-moved-rules : (d : Said) → rules_said (moved_said f d) ≡ map (moved_rule f) (rules_said d)
  said-moved-rules (said_ordinal name names) = refl
  said-moved-rules (said_base name heading typed) = refl
  said-moved-rules (said_view name t) = refl
  said-moved-rules (said_stored name t) = refl
  said-moved-rules (said_history made) = refl
  said-moved-rules (said_rule name t) = refl

-- ---- what the machine makes

module _ (s : State) where
  no-ordinals : s.ordinals ≡ s.ordinals ++ []
  no-ordinals = sym (append-nil s.ordinals)

  no-relvars : s.relvars ≡ s.relvars ++ []
  no-relvars = sym (append-nil s.relvars)

  no-rules : s.rules ≡ s.rules ++ []
  no-rules = sym (append-nil s.rules)

  pub with-ordinal : (name : Name) (names : List Name) → with_declaration s (ordinal_type name names) ≡ with_said s (said_ordinal name names)
  with-ordinal name names = λ i. record { ordinals = s.ordinals ++ record { name = name; values = names } ∷ []; relvars = no-relvars i; rules = no-rules i; accepted = s.accepted }

  pub with-base : (name : Name) (heading : Heading) (typed : List Constraint) → with_declaration s (base_relvar name heading typed) ≡ with_said s (said_base name heading typed)
  with-base name heading typed = λ i. record { ordinals = no-ordinals i; relvars = s.relvars ++ entries_said (said_base name heading typed); rules = no-rules i; accepted = s.accepted }

  pub with-view : (name : Name) (t : Tree) → with_declaration s (view_relvar name t derived) ≡ with_said s (said_view name t)
  with-view name t = λ i. record { ordinals = no-ordinals i; relvars = s.relvars ++ entries_said (said_view name t); rules = no-rules i; accepted = s.accepted }

  pub with-stored : (name : Name) (t : Tree) → with_relvar s name (view t stored) ≡ with_said s (said_stored name t)
  with-stored name t = λ i. record { ordinals = no-ordinals i; relvars = s.relvars ++ entries_said (said_stored name t); rules = no-rules i; accepted = s.accepted }

  pub with-said-rule : (name : Name) (t : Test) → with_rule name t s ≡ with_said s (said_rule name t)
  with-said-rule name t = λ i. record { ordinals = no-ordinals i; relvars = no-relvars i; rules = s.rules ++ (name, t) ∷ []; accepted = s.accepted }

  three-behind : (es : Entries) (a b c : Name × PlainRelvar) → ((es ++ a ∷ []) ++ b ∷ []) ++ c ∷ [] ≡ es ++ a ∷ b ∷ c ∷ []
  three-behind es a b c = ap (λ (l : Entries). l ++ c ∷ []) (append_assoc es (a ∷ []) (b ∷ [])) ∙ append_assoc es (a ∷ b ∷ []) (c ∷ [])

  pub with-history : (made : HistoryData) → declared_in s (declared_history made) ≡ with_said s (said_history made)
  with-history made =
      let since : Name × PlainRelvar = (made.since, base (record { heading = since_heading made; rows = [] }) (since_constraints made)) in
      let during : Name × PlainRelvar = (made.during, base (record { heading = during_heading made; rows = [] }) (during_constraints made)) in
      let both : Name × PlainRelvar = (made.view, view (view_of made) (of_history (made.since, made.during))) in
      λ i. record { ordinals = no-ordinals i; relvars = three-behind s.relvars since during both i; rules = no-rules i; accepted = s.accepted }
