-- Values as plain data.
use Rattle.std.specs.Prelude.{pos, if◌then◌else◌}
use Rattle.point_core.specs.Points.{line, number}
use Rattle.point_core.specs.declared.any_type.AnyPoint.{AnyPoint}
use Rattle.interval_core.specs.Members.{Span}
use Rattle.value_core.specs.declared.value.Value.{Value}
use Rattle.value_core.specs.declared.value.Value.TheVariants.{Truth, Char, Point, Span as SpanValue}
use Rattle.value_core.specs.Values.{Value as PlainValue, truth, text, point, interval, same_line}

-- the numbers of an interval's ends. Two points of different lines are the ends of no interval: they are read as a span without
-- members, so that no kind fits them
abbrev pub ends : AnyPoint × AnyPoint → Span
ends i = if same_line (line i.0) (line i.1) then (number i.0, number i.1) else (pos 1, pos 0)

-- a value as plain data
abbrev pub plain : Value → PlainValue
plain (Truth b) = truth b
plain (Char bytes) = text bytes
plain (Point p) = point (line p) (number p)
plain (SpanValue i) = interval (line i.0) (ends i)
