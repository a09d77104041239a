-- Tokens and marks whose places are moved.
--     moved_piece      the token at the other place, with its bytes
--     moved_mark      what a moved tree says of one token
use Rattle.point_core.specs.declared.fault.Place.{Place}
use Rattle.utd_syntax.specs.Pieces.{Piece}
use Rattle.utd_syntax.specs.Written.{Mark, fixed, at, spelled, worded, apart}

abbrev pub moved_piece : (Place → Place) → Piece → Piece
moved_piece f t = record { terminal = t.terminal; place = f t.place; bytes = t.bytes }

abbrev pub moved_mark : (Place → Place) → Mark → Mark
moved_mark f (fixed x) = fixed x
moved_mark f (at x p) = at x (f p)
moved_mark f (spelled x p bytes) = spelled x (f p) bytes
moved_mark f (worded bytes) = worded bytes
moved_mark f (apart x p barred) = apart x (f p) barred
