-- What HISTORY declares has free names, which differ, and a key of the facts, which leave room for two attributes more.
use Rattle.std.specs.Prelude.{◌≡◌, ◌≤◌, ◌-◌, ℕ, Bool, true, false, not, ◌||◌, List, [], length, nat_le, Ok, IfOk, IsTrue, refl, if◌then◌else◌}
use Rattle.std.specs.Str.{bytes_eq}
use Rattle.std.proofs.lemmas.Bool.{or_parts, not-true, leb-true}
use Rattle.point_core.specs.declared.fault.Place.{Place}
use Rattle.point_core.specs.declared.fault.Code.TheVariants.{E11, E15, E17}
use Rattle.utd_syntax.specs.Plain as syntax
use Rattle.utd_syntax.specs.Plain.{Word, PointP, HeadingP, KeyP}
use Rattle.value_core.specs.Headings.{has_name}
use Rattle.value_core.specs.Limits.{most_attributes}
use Rattle.value_core.specs.Values.{Name, Heading}
use Rattle.scalar_typing.specs.Names.{point_type}
use Rattle.scalar_typing.specs.Typings.{refused}
use Rattle.scalar_typing.proofs.SoundLemmas.{then-sound, any-given}
use Rattle.relation_typing.specs.Attributes.{name_typed, new_name as new_attribute}
use Rattle.relation_typing.specs.Headings.{heading_typed}
use Rattle.tree_core.specs.declared.declaration.HistoryData.{HistoryData}
use Rattle.tree_core.specs.Relvars.{State}
use Rattle.meaning_core.specs.Typing.{is_type, is_declared}
use Rattle.meaning_core.specs.WellMade.{sizes_of, all_names, AreDifferent}
use Rattle.node_typing.specs.Positions.{check}
use Rattle.declaration_typing.specs.Constraints.{names_typed}
use Rattle.declaration_typing.specs.Histories.{relvars_named, brace_of, facts_typed, attributes_named, room_for_three, history_declared}
use Rattle.declaration_typing.specs.Names.{new_name}
use Rattle.declaration_typing.proofs.PositionLemmas.{held, AreAt, key-at}
use Rattle.declaration_typing.proofs.StateLemmas.{AreOther, IsFree, free-name, free-in}

-- ---- the names of the view and of its relvars

record AreFree (s : State) (names : Name × Name × Name) : Type 0 where
  pub view : IsFree s names.0
  pub since : IsFree s names.1
  pub during : IsFree s names.2
  pub second : bytes_eq names.0 names.1 ≡ false
  pub third : bytes_eq names.0 names.2 ≡ false
  pub both : bytes_eq names.1 names.2 ≡ false

relvars-free : (s : State) (v b d : Word) → IfOk (relvars_named s v b d) (AreFree s)
relvars-free s v b d =
    then-sound (IsFree s) (AreFree s) (new_name s v) _ (free-name s v) (λ view one.
    then-sound (IsFree s) (AreFree s) (new_name s b) _ (free-name s b) (λ since two.
    then-sound (λ (_ : Unit {0}). IsTrue (not (bytes_eq view since))) (AreFree s) (check b.place E11 (not (bytes_eq view since))) _ (held b.place E11 (not (bytes_eq view since))) (λ _ second.
    then-sound (IsFree s) (AreFree s) (new_name s d) _ (free-name s d) (λ during three.
    then-sound (λ (_ : Unit {0}). IsTrue (not (bytes_eq view during || bytes_eq since during))) (AreFree s) (check d.place E11 (not (bytes_eq view during || bytes_eq since during))) _
    (held d.place E11 (not (bytes_eq view during || bytes_eq since during))) (λ _ third.
    let parts = or_parts (bytes_eq view during) (bytes_eq since during) (not-true (bytes_eq view during || bytes_eq since during) third) in
    record { view = one; since = two; during = three; second = not-true (bytes_eq view since) second; third = parts.0; both = parts.1 })))))

-- ---- the facts

record AreFacts (s : State) (facts : Heading × List ℕ) : Type 0 where
  pub declared : IsTrue (is_declared (sizes_of s.ordinals) facts.0)
  pub few : length facts.0 ≤ most_attributes - 2
  pub key : AreDifferent facts.0 facts.1

facts-are : (s : State) (h : HeadingP) (key : KeyP) → IfOk (heading_typed s.ordinals h) (λ to. IsTrue (is_declared (sizes_of s.ordinals) to)) → IfOk (facts_typed s.ordinals h key) (AreFacts s)
facts-are s h (syntax.Key at (syntax.Names brace words)) headed =
    then-sound (λ to. IsTrue (is_declared (sizes_of s.ordinals) to)) (AreFacts s) (heading_typed s.ordinals h) _ headed (λ heading declared.
    then-sound (λ (_ : Unit {0}). IsTrue (nat_le (length heading) (most_attributes - 2))) (AreFacts s) (check (brace_of h) E17 (nat_le (length heading) (most_attributes - 2))) _
    (held (brace_of h) E17 (nat_le (length heading) (most_attributes - 2))) (λ _ few.
    then-sound (AreAt heading [] words) (AreFacts s) (names_typed heading (syntax.Names brace words)) _ (key-at heading words)
    (λ key here. record { declared = declared; few = leb-true (length heading) (most_attributes - 2) few; key = here.different })))

-- ---- the attributes beside them

pub new-attribute : (h : Heading) (w : Word) → IfOk (new_attribute h w) (λ name. has_name h name ≡ false)
new-attribute h w =
    then-sound (λ (_ : Name). Unit {0}) (λ (name : Name). has_name h name ≡ false) (name_typed w) _ (any-given (name_typed w)) (λ name _. by-test name (has_name h name) refl)
  where
    by-test : (name : Name) (b : Bool) → has_name h name ≡ b → IfOk (if b then refused w.place E15 else Ok name) (λ (n : Name). has_name h n ≡ false)
    by-test name true e = tt
    by-test name false e = e

record AreBeside (heading : Heading) (names : Name × Name) : Type 0 where
  pub point : has_name heading names.0 ≡ false
  pub span : has_name heading names.1 ≡ false
  pub apart : bytes_eq names.0 names.1 ≡ false

attributes-beside : (heading : Heading) (p i : Word) → IfOk (attributes_named heading p i) (AreBeside heading)
attributes-beside heading p i =
    then-sound (λ name. has_name heading name ≡ false) (AreBeside heading) (new_attribute heading p) _ (new-attribute heading p) (λ point one.
    then-sound (λ name. has_name heading name ≡ false) (AreBeside heading) (new_attribute heading i) _ (new-attribute heading i) (λ span two.
    then-sound (λ (_ : Unit {0}). IsTrue (not (bytes_eq point span))) (AreBeside heading) (check i.place E15 (not (bytes_eq point span))) _ (held i.place E15 (not (bytes_eq point span)))
    (λ _ apart. record { point = one; span = two; apart = not-true (bytes_eq point span) apart })))

-- ---- all

-- what is declared can be: room, names and kinds
pub record IsHistoryOf (s : State) (h : HistoryData) : Type 0 where
  pub few : length h.heading ≤ most_attributes - 2
  pub point : has_name h.heading h.point ≡ false
  pub span : has_name h.heading h.span ≡ false
  pub apart : bytes_eq h.point h.span ≡ false
  pub key : AreDifferent h.heading h.key
  pub since : bytes_eq h.view h.since ≡ false
  pub during : bytes_eq h.view h.during ≡ false
  pub both : bytes_eq h.since h.during ≡ false
  pub declared : IsTrue (is_declared (sizes_of s.ordinals) h.heading)
  pub over : IsTrue (is_type (sizes_of s.ordinals) h.over)
  pub free_view : AreOther h.view (all_names s)
  pub free_since : AreOther h.since (all_names s)
  pub free_during : AreOther h.during (all_names s)

module _ (s : State) (place : Place) (v : Word) (h : HeadingP) (key : KeyP) (b p d i : Word) (t : PointP) where
  -- where headings and point types are typed of kinds there are
  pub history-kept : IfOk (heading_typed s.ordinals h) (λ to. IsTrue (is_declared (sizes_of s.ordinals) to)) → IfOk (point_type s.ordinals t) (λ over. IsTrue (is_type (sizes_of s.ordinals) over))
      → IfOk (history_declared s place v h key b p d i t) (IsHistoryOf s)
  unfolding history_declared
  history-kept headed typed =
      then-sound (AreFree s) (IsHistoryOf s) (relvars_named s v b d) _ (relvars-free s v b d) (λ names free.
      then-sound (AreFacts s) (IsHistoryOf s) (facts_typed s.ordinals h key) _ (facts-are s h key headed) (λ facts are.
      then-sound (λ over. IsTrue (is_type (sizes_of s.ordinals) over)) (IsHistoryOf s) (point_type s.ordinals t) _ typed (λ over there.
      then-sound (AreBeside facts.0) (IsHistoryOf s) (attributes_named facts.0 p i) _ (attributes-beside facts.0 p i) (λ ends beside.
      then-sound (λ (_ : Unit {0}). Unit {0}) (IsHistoryOf s) (room_for_three s v.place) _ (any-given (room_for_three s v.place)) (λ _ _.
      record {
        few = are.few;
        point = beside.point;
        span = beside.span;
        apart = beside.apart;
        key = are.key;
        since = free.second;
        during = free.third;
        both = free.both;
        declared = are.declared;
        over = there;
        free_view = free-in s names.0 free.view;
        free_since = free-in s names.1 free.since;
        free_during = free-in s names.2 free.during;
      })))))
