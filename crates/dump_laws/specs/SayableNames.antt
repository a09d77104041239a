-- Names that can be said again: words that are not reserved, and no longer than a name may be.
--     AreSayableSaid      those that a declaration says
--     IsSayableType, IsSayableRelvar, HasSayableNames      those of a state
use Rattle.std.specs.Prelude.{◌≡◌, true}
use Rattle.std.specs.List.{All}
use Rattle.value_core.specs.declared.kind.Kind.{Kind}
use Rattle.value_core.specs.declared.list.OrdinalNames.{OrdinalNames}
use Rattle.value_core.specs.Lengths.{IsNameLength}
use Rattle.value_core.specs.Values.{Name, Heading}
use Rattle.tree_core.specs.Relvars.{State, PlainRelvar, base, view, log}
use Rattle.since_during.specs.Histories.{since_heading, during_heading}
use Rattle.text_laws.specs.Sayable.{is_sayable}
use Rattle.typing_laws.specs.Saying.{Said, said_ordinal, said_base, said_view, said_stored, said_history, said_rule}

abbrev pub IsSayable : Name → Type 0
IsSayable name = (is_sayable name ≡ true) × IsNameLength name

-- of each attribute
abbrev pub AreSayableIn : Heading → Type 0
AreSayableIn heading = All (λ (a : Name × Kind). IsSayable a.0) heading

abbrev pub AreSayableSaid : Said → Type 0
AreSayableSaid (said_ordinal name names) = IsSayable name × All IsSayable names
AreSayableSaid (said_base name heading typed) = IsSayable name × AreSayableIn heading
AreSayableSaid (said_view name t) = IsSayable name
AreSayableSaid (said_stored name t) = IsSayable name
AreSayableSaid (said_history made) =
    IsSayable made.since × IsSayable made.during × IsSayable made.view × AreSayableIn (since_heading made) × AreSayableIn (during_heading made)
AreSayableSaid (said_rule name t) = IsSayable name

-- ---- of a state

abbrev pub IsSayableType : OrdinalNames → Type 0
IsSayableType o = IsSayable o.name × All IsSayable o.values

-- a relvar's name and those of its attributes, and the name of a view; a log stands in no text
abbrev pub IsSayableRelvar : Name → PlainRelvar → Type 0
IsSayableRelvar name (base value constraints) = IsSayable name × AreSayableIn value.heading
IsSayableRelvar name (view t kind) = IsSayable name
IsSayableRelvar name (log of side last value) = Unit {0}

pub record HasSayableNames (w : State) : Type 0 where
  pub ordinals : All IsSayableType w.ordinals
  pub relvars : All (λ (e : Name × PlainRelvar). IsSayableRelvar e.0 e.1) w.relvars
