use Rattle.std.proofs.Common.{sym, ◌∙◌}
use Rattle.utd_lexer.proofs.AsciiLemmas.{lacks-any, first-fits, rest-fits, behind-first}
use Rattle.utd_lexer.proofs.reading.place_behind.Goals as goal

pub next_place-place-requires : goal.next_place-place-requires
next_place-place-requires c = first-fits c.args.start c.args.bytes.now c.in-Some.rest.now c.in-Some.first.now c.in-Some.ensures.cases.0 c.requires

pub place_over_lines-requires : goal.place_over_lines-requires
place_over_lines-requires c = rest-fits c.args.start c.next_place-place.result c.args.bytes.now c.in-Some.rest.now c.in-Some.first.now c.in-Some.ensures.cases.0 c.next_place-place.ensures c.requires

pub returns-then-contains : goal.returns-then-contains
returns-then-contains c = behind-first c.args.start c.next_place-place.result c.place_over_lines.result c.args.bytes.now c.in-Some.rest.now c.in-Some.first.now c.in-Some.ensures.cases.0 c.next_place-place.ensures c.place_over_lines.ensures

pub place_in_line-requires : goal.place_in_line-requires
place_in_line-requires c = record {
  fits = rest-fits c.args.start c.next_place-place.result c.args.bytes.now c.in-Some.rest.now c.in-Some.first.now c.in-Some.ensures.cases.0 c.next_place-place.ensures c.requires;
  line = lacks-any c.in-Some.rest.now (sym c.contains.ensures.value ∙ c.if-contains.false);
}

pub returns-else-contains : goal.returns-else-contains
returns-else-contains c = behind-first c.args.start c.next_place-place.result c.place_in_line.result c.args.bytes.now c.in-Some.rest.now c.in-Some.first.now c.in-Some.ensures.cases.0 c.next_place-place.ensures c.place_in_line.ensures
