-- What the parser keeps while it reads: the forms to come, and the load.
use Rattle.std.specs.Prelude.{◌≡◌, ℕ, List, [], ◌∷◌, ◌++◌, Bool, Option, Some, None, Result, Ok, Err, if◌then◌else◌}
use Rattle.point_core.specs.declared.fault.Place.{Place}
use Rattle.point_core.specs.declared.fault.Code.{Code}
use Rattle.point_core.specs.declared.fault.Code.TheVariants.{E05, E06}
use Rattle.value_core.specs.declared.refuse.Refuse.{Refuse}
use Rattle.value_core.specs.declared.refuse.Refuse.TheVariants.{Plain, At, Broken, Memory}
use Rattle.utd_syntax.specs.declared.terminal.Terminal.{Terminal}
use Rattle.utd_syntax.specs.Pieces.{Piece}
use Rattle.utd_syntax.specs.Plain.{StatementP}
use Rattle.utd_syntax.specs.Written.{Spells, of_statement}
use Rattle.utd_syntax.specs.Table as table
use Rattle.utd_syntax.specs.Verdict as verdict
use Rattle.utd_syntax.specs.Verdict.{Verdict, Whole, Refused, reach}
use Rattle.utd_ranges.specs.Limits.{limits}
use Rattle.utd_parser.specs.Forms.{forms_of, taking_of}
use Rattle.utd_parser.specs.declared.stack.Load.{Load}
use Rattle.utd_parser.specs.declared.stack.Frame.{Frame}
use Rattle.utd_parser.specs.declared.stack.Frame.TheVariants.{Forms, Level}
use Rattle.utd_parser.specs.declared.stack.Stack.{Stack}
use Rattle.utd_parser.specs.declared.stack.Passing.{Passing}
use Rattle.utd_parser.specs.declared.stack.Passing.TheVariants as passings
use Rattle.utd_parser.specs.declared.stack.Reach.{Reach}
use Rattle.utd_parser.specs.declared.stack.Reach.TheVariants as reaches

abbrev pub load_of : Load → table.Load
load_of l = record { levels = l.levels; outside = l.outside; operators = l.operators }

-- the forms of one frame, and those of all of them, of which the last stands innermost
abbrev pub symbols_in : Frame → List table.Symbol
symbols_in (Forms forms) = forms_of forms.now
symbols_in (Level outer forms) = table.Shut (load_of outer) ∷ forms_of forms.now

abbrev pub above : List table.Symbol → List Frame → List table.Symbol
above base [] = base
above base (f ∷ fs) = above (symbols_in f ++ base) fs

abbrev pub stack_of : List Frame → List table.Symbol
stack_of frames = above [] frames

-- the next forms, and those behind them
abbrev pub symbols_of : Stack → List table.Symbol
symbols_of s = forms_of s.next.now ++ stack_of s.frames.items

-- past the next forms of the old stack, under its load, a token is taken as over the new stack under the load there
abbrev pub Leaves : Stack → Load → Stack → Load → Type 0
Leaves old load new after = (x : Terminal) (b : List ℕ) (behind : Terminal) → reach (stack_of old.frames.items) (load_of load) x b behind ≡ reach (symbols_of new) (load_of after) x b behind

-- what the forms of one frame do with a token, over those of the frames below
abbrev pub passed : Passing → List table.Symbol → table.Load → Terminal → List ℕ → Terminal → verdict.Reach
passed passings.Passed base load x b behind = reach base load x b behind
passed passings.Stuck base load x b behind = verdict.Stuck
passed (passings.Takes how next rest) base load x b behind = verdict.Reaches (taking_of how) (forms_of next.now ++ (forms_of rest.now ++ base)) load

-- where the next token stands, with the forms to come
abbrev pub reach_of : Reach → List table.Symbol → verdict.Reach
reach_of reaches.Over stack = verdict.Over
reach_of reaches.Stuck stack = verdict.Stuck
reach_of (reaches.Reaches how load) stack = verdict.Reaches (taking_of how) stack (load_of load)

-- the verdict behind the first token; behind the end of the text nothing is refused
abbrev pub verdict_behind : List Piece → List table.Symbol → table.Load → Verdict
verdict_behind [] stack load = Whole
verdict_behind (t ∷ ts) stack load = verdict.verdict limits ts stack load

-- the code of a token that is too deep, or else out of its range
abbrev pub excess_of : Bool → Bool → Option Code
excess_of deep off = if deep then Some E05 else (if off then Some E06 else None)

-- the refusal is that of the verdict, unless memory ran out
abbrev pub Fails : Refuse → Verdict → Type 0
Fails (At fault) v = v ≡ Refused fault.code fault.place
Fails Memory v = Unit {0}
Fails (Plain code) v = ⊥
Fails (Broken code relvar number) v = ⊥

-- a step from one verdict to the next, or the refusal of the first
abbrev pub Comes : {A : Type 0} → Result A Refuse → Verdict → Verdict → Type 0
Comes (Ok x) old new = old ≡ new
Comes (Err e) old new = Fails e old

-- the refusal has this code and this place
abbrev pub RefusedAt : {A : Type 0} → Result A Refuse → Code → Place → Type 0
RefusedAt (Ok x) code place = ⊥
RefusedAt (Err (At fault)) code place = (fault.code ≡ code) × (fault.place ≡ place)
RefusedAt (Err e) code place = ⊥

-- one statement is written as these tokens, and no other
abbrev pub IsStatement : List Piece → Type 0
IsStatement ts = (x : StatementP) × Spells (of_statement x) ts [] × ((y : StatementP) → Spells (of_statement y) ts [] → y ≡ x)
