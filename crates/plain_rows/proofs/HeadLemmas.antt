-- Names with commas between them, and heads under USING.
use Rattle.std.proofs.Common.{◌≡◌, ℕ, List, [], ◌∷◌, ◌++◌, map, Ok, refl, sym, ◌∙◌, ap, subst}
use Rattle.utd_lexer.specs.declared.token.TokenKind.TheVariants.{Word}
use Rattle.utd_syntax.specs.declared.word.Word.{Word as WordTree}
use Rattle.utd_syntax.specs.declared.parts.NameList.{NameList}
use Rattle.utd_syntax.specs.Read.{read_list}
use Rattle.value_core.specs.Values.{Name, Heading}
use Rattle.meaning_core.specs.Meanings.{positions_of}
use Rattle.node_typing.specs.Lists.{list_checked}
use Rattle.plain_rows.specs.Heads.{names_in, list_names, BeginsWithNames, HasNames, IsListing}
use Rattle.plain_rows.specs.Lexemes.{Lexeme, Begins}
use Rattle.plain_rows.specs.Names.{AllNames, IsNameWord}
use Rattle.plain_rows.specs.Tuples.{comma, followed, lone, listed, using_word, open_bracket, close_bracket, using_list}
use Rattle.plain_rows.specs.Written.{colon}
use Rattle.plain_rows.proofs.BeginLemmas.{begins-nothing, begins-then}
use Rattle.plain_rows.proofs.MoreLemmas.{followed-snoc}

-- ---- one more

names-snoc : (words : List WordTree) (w : WordTree) → names_in (words ++ w ∷ []) ≡ names_in words ++ w.bytes.list.items ∷ []
names-snoc [] w = refl
names-snoc (v ∷ words) w = ap (λ (z : List Name). v.bytes.list.items ∷ z) (names-snoc words w)

lone-snoc : (names : List Name) (n : Name) → map lone (names ++ n ∷ []) ≡ map lone names ++ lone n ∷ []
lone-snoc [] n = refl
lone-snoc (m ∷ names) n = ap (λ (z : List (List Lexeme)). lone m ∷ z) (lone-snoc names n)

all-snoc : (names : List Name) (n : Name) → AllNames names → IsNameWord n → AllNames (names ++ n ∷ [])
all-snoc [] n h one = (one, tt)
all-snoc (m ∷ names) n h one = (h.0, all-snoc names n h.1 one)

pub names-one : (text : List ℕ) (words : List WordTree) (w : WordTree) → words ≡ w ∷ [] → HasNames text w.bytes.list.items (names_in words) text
names-one text words w e = record { others = []; held = ap names_in e; begins = begins-nothing text; named = tt }

pub names-next : (text : List ℕ) (first : Name) (words now : List WordTree) (w : WordTree) (rest behind : List ℕ) → now ≡ words ++ w ∷ [] → HasNames text first (names_in words) rest
    → Begins rest (comma ∷ (Word, w.bytes.list.items) ∷ []) behind → IsNameWord w.bytes.list.items → HasNames text first (names_in now) behind
names-next text first words now w rest behind pushed h step one =
    let n : Name = w.bytes.list.items in
    let same : followed (map lone (h.others ++ n ∷ [])) ≡ followed (map lone h.others) ++ (comma ∷ lone n) = ap followed (lone-snoc h.others n) ∙ followed-snoc (map lone h.others) (lone n) in
    record {
      others = h.others ++ n ∷ [];
      held = ap names_in pushed ∙ (names-snoc words w ∙ ap (λ (z : List Name). z ++ n ∷ []) h.held);
      begins = subst (λ z. Begins text z behind) (sym same) (begins-then text rest behind (followed (map lone h.others)) (comma ∷ lone n) h.begins step);
      named = all-snoc h.others n h.named one;
    }

-- ---- all of them

pub begins-names : (text more rest : List ℕ) (first : Name) (names : List Name) → Begins text ((Word, first) ∷ []) more → IsNameWord first → HasNames more first names rest → BeginsWithNames text names rest
begins-names text more rest first names b one h = record {
  begins = subst (λ z. Begins text (listed z) rest) (sym h.held) (begins-then text more rest (lone first) (followed (map lone h.others)) b h.begins);
  named = subst AllNames (sym h.held) (one, h.named);
}

pub begins-list : (text opened behind rest : List ℕ) (names : List Name) → Begins text (using_word ∷ open_bracket ∷ []) opened → BeginsWithNames opened names behind → Begins behind (close_bracket ∷ colon ∷ []) rest
    → Begins text (using_list names) rest
begins-list text opened behind rest names opens h closes =
    begins-then text opened rest (using_word ∷ open_bracket ∷ []) (listed names ++ close_bracket ∷ colon ∷ []) opens (begins-then opened behind rest (listed names) (close_bracket ∷ colon ∷ []) h.begins closes)

-- ---- where they stand

pub listing : (heading : Heading) (commalist : List ℕ) (list : NameList) → list_checked heading heading (read_list list) ≡ Ok (list_names list) → commalist ≡ positions_of heading (list_names list) → IsListing heading commalist (list_names list)
listing heading commalist list fine at = record { list = read_list list; same = refl; is = record { is_fine = fine; at = at } }
