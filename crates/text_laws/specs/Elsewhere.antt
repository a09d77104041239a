-- The places of a text that begins elsewhere.
--     shift      where a place of a text lies once the text begins at another place
--     moved_token      a token with its place moved
use Rattle.std.specs.Prelude.{◌+◌, ◌-◌, ◌==◌, if◌then◌else◌}
use Rattle.point_core.specs.declared.fault.Place.{Place}
use Rattle.utd_lexer.specs.declared.token.Token.{Token}

-- a place of a text that began at p, once the text begins at q: lines move alike, columns only in the first line
abbrev pub shift : Place → Place → Place → Place
shift p q r =
    if r.line == p.line then record { line = q.line; column = q.column + (r.column - p.column) }
    else record { line = q.line + (r.line - p.line); column = r.column }

abbrev pub moved_token : (Place → Place) → Token → Token
moved_token f t = record { kind = t.kind; place = f t.place; bytes = t.bytes }
