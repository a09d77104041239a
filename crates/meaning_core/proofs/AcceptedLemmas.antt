-- What an accepted statement keeps of a state.
--     made-counted      it is well made, however many statements were accepted
--     bare-turned      its relvars differ in the rows of logs alone
--     made-turned      it is well made with its logs turned
use Rattle.std.proofs.Common.{◌≡◌, ℤ, [], ◌∷◌, map, refl}
use Rattle.tree_core.specs.Relvars.{PlainRelvar, base, view, log, Entries, State}
use Rattle.meaning_core.specs.Declarations.{counted}
use Rattle.meaning_core.specs.Logs.{turned_relvar, turned_logs}
use Rattle.meaning_core.specs.WellMade.{IsWellMade}
use Rattle.meaning_core.proofs.RowlessLemmas.{bare, bare_all, bare-keeps}

pub made-counted : (s : State) (n : ℤ) → IsWellMade s → IsWellMade (record s { accepted = n })
made-counted s n made = record {
  few = made.few;
  ordinals = made.ordinals;
  different = made.different;
  relvars = made.relvars;
  few_rules = made.few_rules;
  rules = made.rules;
  apart = made.apart;
}

bare-one : (all : Entries) (r : PlainRelvar) → bare (turned_relvar all r) ≡ bare r
bare-one all (base value constraints) = refl
bare-one all (view t kind) = refl
bare-one all (log of side last value) = refl

pub bare-turned : (entries : Entries) → bare_all (turned_logs entries) ≡ bare_all entries
bare-turned entries = from entries
  where
    from : (es : Entries) → bare_all (map (λ r. (r.0, turned_relvar entries r.1)) es) ≡ bare_all es
    from [] = refl
    from (r ∷ es) = λ i. (r.0, bare-one entries r.1 i) ∷ from es i

pub made-turned : (s : State) → IsWellMade s → IsWellMade (counted s)
made-turned s made = made-counted (record s { relvars = turned_logs s.relvars }) (counted s).accepted (bare-keeps s (turned_logs s.relvars) (bare-turned s.relvars) made)
