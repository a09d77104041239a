-- What a selector gives: the points from one to another, each end with it or without.
use Rattle.std.specs.Prelude.{ℤ, ◌≤ℤ◌, Bool, true, false, Option, Some, None, Result, Ok, Err, int_le, if◌then◌else◌}
use Rattle.interval_core.specs.declared.selector.Ends.{Ends}
use Rattle.interval_core.specs.declared.selector.Ends.TheVariants.{Closed, ClosedOpen, OpenClosed, Open}
use Rattle.interval_core.specs.declared.selector.SelectFault.{SelectFault}
use Rattle.interval_core.specs.declared.selector.SelectFault.TheVariants.{NoPoint, Empty}
use Rattle.interval_core.specs.Members.{Span}
use Rattle.interval_core.specs.Operators.{prior_number, next_number}

-- whether the begin is left out, and whether the end is
abbrev pub opens_after : Ends → Bool
opens_after Closed = false
opens_after ClosedOpen = false
opens_after OpenClosed = true
opens_after Open = true

abbrev pub stops_before : Ends → Bool
stops_before Closed = false
stops_before ClosedOpen = true
stops_before OpenClosed = false
stops_before Open = true

-- the first member, in a type with that last number; the last member, in a type with that first number
abbrev pub first_member : ℤ → Ends → ℤ → Option ℤ
first_member last ends b = if opens_after ends then next_number last b else Some b

abbrev pub last_member : ℤ → Ends → ℤ → Option ℤ
last_member first ends e = if stops_before ends then prior_number first e else Some e

-- the begin's bracket counts before the end's, and both before that no member is left
abbrev pub between : Option ℤ → Option ℤ → Result Span SelectFault
between None last = Err NoPoint
between (Some b) None = Err NoPoint
between (Some b) (Some e) = if int_le b e then Ok (b, e) else Err Empty

-- the selector's interval in a type with these first and last numbers, or why there is none
abbrev pub selected : ℤ → ℤ → Ends → ℤ → ℤ → Result Span SelectFault
selected first last ends b e = between (first_member last ends b) (last_member first ends e)

-- an interval whose ends are points of the type
abbrev pub IsRunIn : ℤ → ℤ → Span → Type 0
IsRunIn first last i = (first ≤ℤ i.0) × (i.0 ≤ℤ i.1) × (i.1 ≤ℤ last)
