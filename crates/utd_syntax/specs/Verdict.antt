-- The first refusal of a text, under limits.
use Rattle.std.specs.Prelude.{ℕ, ◌+◌, List, [], ◌∷◌, ◌++◌, Bool, false, if◌then◌else◌}
use Rattle.point_core.specs.declared.fault.Place.{Place}
use Rattle.point_core.specs.declared.fault.Code.{Code}
use Rattle.point_core.specs.declared.fault.Code.TheVariants.{E01, E05, E06}
use Rattle.utd_syntax.specs.declared.terminal.Terminal.{Terminal}
use Rattle.utd_syntax.specs.declared.terminal.Terminal.TheVariants.{Finish}
use Rattle.utd_syntax.specs.Pieces.{Piece, first, place_of}
use Rattle.utd_syntax.specs.Table.{Load, Symbol, Shut, Taking, Operator, Separator, Opens, OperatorOpens, Turn, Never, Ends, Takes, turn}

-- the tokens are a whole text, or are refused at this place
pub data Verdict : Type 0 where
  Whole : Verdict
  Refused : Code → Place → Verdict

-- Where the next token stands: behind the end of the text; where it cannot stand; or it is taken, with the forms to
-- come and the load so far.
pub data Reach : Type 0 where
  Over Stuck : Reach
  Reaches : Taking → List Symbol → Load → Reach

-- the load outside a level that ends here
abbrev pub outside : Symbol → Load → Load
outside (Shut outer) load = outer
outside _ load = load

abbrev pub at_form : Turn → List Symbol → Load → Reach → Reach
at_form Never stack load beyond = Stuck
at_form Ends stack load beyond = beyond
at_form (Takes how more) stack load beyond = Reaches how (more ++ stack) load

-- the forms that end before the token are passed
unfoldable pub reach : List Symbol → Load → Terminal → List ℕ → Terminal → Reach
reach [] load x b behind = Over
reach (s ∷ stack) load x b behind = at_form (turn s x b behind) stack load (reach stack (outside s load) x b behind)

abbrev pub counted : Load → Load
counted load = record load { operators = load.operators + 1 }

abbrev pub opened : Load → Load
opened load = record { levels = load.levels + 1; outside = load.operators; operators = load.operators }

-- behind a comma the operators of its level count anew
abbrev pub load_after : Taking → Load → Load
load_after Operator load = counted load
load_after Separator load = record load { operators = load.outside }
load_after (Opens inner) load = opened load
load_after (OperatorOpens inner) load = opened (counted load)
load_after how load = load

-- a level is closed behind the forms that stand in it
abbrev pub stack_after : Taking → Load → List Symbol → List Symbol
stack_after (Opens inner) load stack = inner ++ (Shut load ∷ stack)
stack_after (OperatorOpens inner) load stack = inner ++ (Shut (counted load) ∷ stack)
stack_after how load stack = stack

-- what refuses a token that the forms allow
pub record Limits : Type 0 where
  pub too_deep : Taking → Load → Bool
  pub out_of_range : Taking → Terminal → List ℕ → Bool

-- nothing: what is left is the grammar
abbrev pub no_limits : Limits
no_limits = record { too_deep = λ _ _. false; out_of_range = λ _ _ _. false }

abbrev pub taken : Limits → Reach → Piece → (List Symbol → Load → Verdict) → Verdict
taken by Over t goes_on = Refused E01 t.place
taken by Stuck t goes_on = Refused E01 t.place
taken by (Reaches how stack load) t goes_on =
    if by.too_deep how load then Refused E05 t.place else (
    if by.out_of_range how t.terminal t.bytes then Refused E06 t.place else
    goes_on (stack_after how load stack) (load_after how load))

abbrev pub ended : Reach → Verdict
ended Over = Whole
ended Stuck = Refused E01 (place_of [])
ended (Reaches how stack load) = Refused E01 (place_of [])

-- the verdict on the tokens under these limits, where these forms are to come
unfoldable pub verdict : Limits → List Piece → List Symbol → Load → Verdict
verdict by [] stack load = ended (reach stack load Finish [] Finish)
verdict by (t ∷ ts) stack load = taken by (reach stack load t.terminal t.bytes (first ts)) t (verdict by ts)

-- before the first token nothing is open
abbrev pub at_start : Load
at_start = record { levels = 0; outside = 0; operators = 0 }
