-- A token of ASCII at the front of bytes.
use Rattle.std.proofs.Common.{ℕ, List, [], ◌∷◌, ◌++◌, map, sym, ◌∙◌, ap, subst}
use Rattle.std.specs.Str.{chars, IsAscii}
use Rattle.std.proofs.lemmas.Str.{IsUtf8-append, IsUtf8-from_ascii, encodes-IsAscii}
use Rattle.utd_lexer.specs.declared.token.TokenKind.{TokenKind}
use Rattle.utd_lexer.specs.Tokens.{Lexed, token, past, spelling, token_at, IsToken}
use Rattle.plain_rows.specs.Lexemes.{Begins, lexeme_of}
use Rattle.plain_rows.proofs.BeginLemmas.{chars-ascii}

pub begins-token : (k : TokenKind) (v rest : List ℕ) → IsAscii (spelling k v) → IsAscii v → IsToken k v (chars rest) → Begins (spelling k v ++ rest) ((k, v) ∷ []) rest
begins-token k v rest small bare h = record {
  goes_on = λ ls r p.
      let q = r (past p (spelling k v)) in (
        token_at p k v ∷ q.0,
        (
          IsUtf8-append (spelling k v) rest (IsUtf8-from_ascii (spelling k v) small) q.1.0,
          subst (λ z. Lexed p z (token_at p k v ∷ q.0)) (sym (chars-ascii (spelling k v) rest small)) (token p k v (chars rest) q.0 h q.1.1),
        ),
        ap (λ b. (k, b) ∷ map lexeme_of q.0) (encodes-IsAscii v bare) ∙ ap (λ l. (k, v) ∷ l) q.2,
      );
}
