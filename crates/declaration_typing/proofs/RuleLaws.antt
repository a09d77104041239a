-- What CONSTRAINT declares is typed, and it and DROP CONSTRAINT keep a state well made.
use Rattle.std.specs.Prelude.{◌≡◌, ◌≤◌, suc, Bool, true, false, List, [], ◌∷◌, ◌++◌, filter, cond, map, length, nat_le, nat_lt, Ok, Err, IfOk, IsTrue}
use Rattle.std.proofs.Common.{arith, sym, ◌∙◌, ap, subst, append_assoc, not}
use Rattle.std.specs.List.{All, IsDistinct}
use Rattle.std.specs.Str.{bytes_eq}
use Rattle.std.proofs.lemmas.Bool.{ltb-true}
use Rattle.std.proofs.lemmas.List.{map-append, length-append}
use Rattle.std.proofs.lemmas.List.Elements.{All-cons, All-head, All-tail}
use Rattle.point_core.specs.declared.fault.Code.TheVariants.{E10, E22}
use Rattle.point_core.specs.declared.fault.Place.{Place}
use Rattle.point_core.specs.Faults.{OrFault}
use Rattle.utd_syntax.specs.Plain.{Word, TestP}
use Rattle.value_core.specs.Limits.{most_nodes, most_rules}
use Rattle.value_core.specs.Values.{Name}
use Rattle.scalar_typing.proofs.SoundLemmas.{then-sound, any-given}
use Rattle.relation_typing.specs.Attributes.{name_typed}
use Rattle.relation_core.proofs.FilterLemmas.{length-filter_at_most}
use Rattle.tree_core.specs.Relvars.{State, Rules}
use Rattle.tree_core.specs.Trees.{Test}
use Rattle.tree_core.specs.Uses.{test_names_any}
use Rattle.meaning_core.specs.Declarations.{with_rule, without_rule}
use Rattle.meaning_core.specs.Logs.{over_log}
use Rattle.meaning_core.specs.WellMade.{all_names, IsTypedTestFor, IsWellMade}
use Rattle.node_typing.specs.Positions.{check}
use Rattle.tree_typing.specs.Trees.{test_typed_in}
use Rattle.tree_typing.proofs.NamesOpen.{test-names-open}
use Rattle.declaration_typing.specs.Names.{is_rule, new_name}
use Rattle.declaration_typing.specs.Nodes.{test_nodes}
use Rattle.declaration_typing.specs.Rules.{room_for_rule, rule_scope, rule_declared, rule_dropped}
use Rattle.declaration_typing.proofs.DistinctLemmas.{distinct-between, distinct-left, all-push}
use Rattle.declaration_typing.proofs.PositionLemmas.{held}
use Rattle.declaration_typing.proofs.StateLemmas.{other-both, others-from, IsFree, free-name}

-- the names behind those of database constraints
abbrev others_in : State → List Name
others_in s = map (λ o. o.name) s.ordinals ++ map (λ r. r.0) s.relvars

in-turn : (s : State) → all_names s ≡ map (λ k. k.0) s.rules ++ others_in s
in-turn s = append_assoc (map (λ k. k.0) s.rules) (map (λ o. o.name) s.ordinals) (map (λ r. r.0) s.relvars)

-- ---- one more

names-with : (s : State) (name : Name) (t : Test) → map (λ (k : Name × Test). k.0) s.rules ++ name ∷ others_in s ≡ all_names (with_rule name t s)
names-with s name t =
    let rules : List Name = map (λ (k : Name × Test). k.0) s.rules in
    sym (append_assoc rules (name ∷ []) (others_in s))
    ∙ (ap (λ (names : List Name). names ++ others_in s) (sym (map-append (λ (k : Name × Test). k.0) s.rules ((name, t) ∷ []))) ∙ sym (in-turn (with_rule name t s)))

rule-more : (s : State) (name : Name) (t : Test) → IsWellMade s → IsFree s name → IsTypedTestFor s t → test_names_any (over_log s.relvars) t ≡ false → suc (length s.rules) ≤ most_rules → IsWellMade (with_rule name t s)
rule-more s name t made free is apart room =
    let others = other-both name (map (λ o. o.name) s.ordinals) (map (λ r. r.0) s.relvars) free.ordinals free.relvars in
    record {
      few = made.few;
      ordinals = made.ordinals;
      different = subst (IsDistinct bytes_eq) (names-with s name t)
          (distinct-between bytes_eq (map (λ k. k.0) s.rules) name (others_in s) (subst (IsDistinct bytes_eq) (in-turn s) made.different) free.rules (others-from name (others_in s) others));
      relvars = made.relvars;
      few_rules = let long = length-append s.rules ((name, t) ∷ []) in omega (arith, long, room);
      rules = all-push (λ (k : Name × Test). IsTypedTestFor s k.1) s.rules (name, t) made.rules is;
      apart = all-push (λ (k : Name × Test). test_names_any (over_log s.relvars) k.1 ≡ false) s.rules (name, t) made.apart apart;
    }

room-kept : (s : State) (place : Place) (t : Test) → IfOk (room_for_rule s place t) (λ (_ : Unit {0}). IsTrue (nat_lt (length s.rules) most_rules))
room-kept s place t =
    then-sound (λ (_ : Unit {0}). Unit {0}) (λ (_ : Unit {0}). IsTrue (nat_lt (length s.rules) most_rules)) (check place E22 (nat_le (test_nodes s.relvars t) most_nodes)) _
    (any-given (check place E22 (nat_le (test_nodes s.relvars t) most_nodes))) (λ _ _. held place E22 (nat_lt (length s.rules) most_rules))

module _ (s : State) (w : Word) (test : TestP) where
  abbrev IsKept : Name × Test → Type 0
  IsKept r = IsWellMade (with_rule r.0 r.1 s) × IsTypedTestFor s r.1

  -- typed, and naming no log, itself or through views
  abbrev IsApart : Test → Type 0
  IsApart t = IsTypedTestFor s t × (test_names_any (over_log s.relvars) t ≡ false)

  both-told : (r : OrFault Test) → IfOk r (IsTypedTestFor s) → IfOk r (λ t. test_names_any (over_log s.relvars) t ≡ false) → IfOk r IsApart
  both-told (Ok t) is apart = (is, apart)
  both-told (Err e) is apart = tt

  -- where tests are typed for the state
  pub rule-kept : IsWellMade s → IfOk (test_typed_in (rule_scope s) test) (IsTypedTestFor s) → IfOk (rule_declared s w test) IsKept
  unfolding rule_declared
  rule-kept made typed =
      then-sound (IsFree s) IsKept (new_name s w) _ (free-name s w) (λ name free.
      then-sound IsApart IsKept (test_typed_in (rule_scope s) test) _ (both-told (test_typed_in (rule_scope s) test) typed (test-names-open (rule_scope s) test)) (λ t is.
      then-sound (λ (_ : Unit {0}). IsTrue (nat_lt (length s.rules) most_rules)) IsKept (room_for_rule s w.place t) _ (room-kept s w.place t) (λ _ room.
      (rule-more s name t made free is.0 is.1 (ltb-true (length s.rules) most_rules room), is.0))))

-- ---- one less

module _ (P : Name × Test → Type 0) (name : Name) where
  abbrev rest_of : Rules → Rules
  rest_of rules = filter (λ r. not (bytes_eq r.0 name)) rules

  all-rest : (rules : Rules) → All P rules → All P (rest_of rules)
  all-rest [] all = all
  all-rest (r ∷ rules) all =
      elim (not (bytes_eq r.0 name)) as (λ (b : Bool). All P (cond b (r ∷ rest_of rules) (rest_of rules))) [
        | true ↦ All-cons P r (rest_of rules) (All-head P r rules all) (all-rest rules (All-tail P r rules all))
        | false ↦ all-rest rules (All-tail P r rules all)
      ]

pub without_rule-kept : (s : State) (name : Name) → IsWellMade s → IsWellMade (without_rule name s)
without_rule-kept s name made = record {
  few = made.few;
  ordinals = made.ordinals;
  different = subst (IsDistinct bytes_eq) (sym (in-turn (without_rule name s)))
      (distinct-left (λ (n : Name). bytes_eq n name) s.rules (others_in s) (subst (IsDistinct bytes_eq) (in-turn s) made.different));
  relvars = made.relvars;
  few_rules = let fewer = length-filter_at_most (λ (r : Name × Test). not (bytes_eq r.0 name)) s.rules in let few = made.few_rules in omega (arith, fewer, few);
  rules = all-rest (λ (k : Name × Test). IsTypedTestFor s k.1) name s.rules made.rules;
  apart = all-rest (λ (k : Name × Test). test_names_any (over_log s.relvars) k.1 ≡ false) name s.rules made.apart;
}

module _ (s : State) (w : Word) where
  abbrev IsLeft : Name → Type 0
  IsLeft name = IsWellMade (without_rule name s)

  pub rule-dropped : IsWellMade s → IfOk (rule_dropped s w) IsLeft
  unfolding rule_dropped
  rule-dropped made =
      then-sound (λ (_ : Name). Unit {0}) IsLeft (name_typed w) _ (any-given (name_typed w)) (λ name _.
      then-sound (λ (_ : Unit {0}). Unit {0}) IsLeft (check w.place E10 (is_rule s name)) _ (any-given (check w.place E10 (is_rule s name))) (λ _ _.
      without_rule-kept s name made))
