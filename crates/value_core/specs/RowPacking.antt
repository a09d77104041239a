-- Unpacking and packing the rows of a relation, on attribute positions.
use Rattle.std.specs.Prelude.{ℕ, List, map}
use Rattle.interval_core.specs.Packing.{Side, unpack, pack}
use Rattle.value_core.specs.Attributes.{span_of, put_span, value_at}
use Rattle.value_core.specs.Values.{Row, row_cmp}

-- the interval attribute at a position
abbrev pub attribute : ℕ → Side Row
attribute i = record { of = λ x. span_of (value_at x i); put = λ x j. put_span x i j }

abbrev pub unpacked : List ℕ → List Row → List Row
unpacked commalist rows = unpack row_cmp (map attribute commalist) rows

abbrev pub packed : List ℕ → List Row → List Row
packed commalist rows = pack row_cmp (map attribute commalist) rows
