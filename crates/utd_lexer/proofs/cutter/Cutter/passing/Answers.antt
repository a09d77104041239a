use Rattle.utd_lexer.proofs.StayLemmas.{text-front, plain-front}
use Rattle.utd_lexer.proofs.cutter.Cutter.passing.Goals as goal

pub returns-in-Text : goal.returns-in-Text
returns-in-Text c =
    let h = text-front c.args.self.now c.args.bytes.now c.unquoted_bytes.result c.in-Text.is c.unquoted_bytes.ensures in
    record { within = h.0; pass = h.1 }

pub returns-else-self : goal.returns-else-self
returns-else-self c =
    let h = plain-front c.args.self.now c.args.bytes.now c.plain_bytes.result c.in-Between.is c.if-self.false c.plain_bytes.ensures in
    record { within = h.0; pass = h.1 }
