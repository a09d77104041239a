-- Written by tools/grammar; change it there.
-- What the parts of relations and statements say of the next token, where a statement goes on.
use Rattle.std.proofs.Common.{◌≡◌, ℕ, List, [], ◌∷◌, ◌++◌, Option, Some, refl, sym, ◌∙◌, ap}
use Rattle.utd_syntax.specs.declared.terminal.Terminal.{Terminal}
use Rattle.utd_syntax.specs.declared.terminal.Terminal.TheVariants as t
use Rattle.point_core.specs.declared.fault.Place.{Place}
use Rattle.utd_syntax.specs.declared.words.AggregateWord.{AggregateWord}
use Rattle.utd_syntax.specs.Pieces.{Piece, first, place_of, bytes_of}
use Rattle.utd_builder.specs.Building.{behind}
use Rattle.utd_syntax.specs.Plain.{StatementP, Word, AggregateP, AttributeP, ElementP, RenamingP, SetItemP, TupleP, AggregateOf, Headed, NoCondition, NoPortion, Onto, PointKind}
use Rattle.utd_syntax.specs.Table.{Symbol, Just, TheName, InParens, ThePoint, TheKind, TheAttribute, MoreAttributes, InHeading, TheHeading, MoreNames, InNames, InList, TheNames, TheList, TheSomeNames, TheParenName, TheElement, MoreElements, InElements, TheElements, TheSomeElements, TheTuple, MoreTuples, InTuples, TheTuples, TheLiteral, AfterRelation, TheSetItem, MoreSetItems, TheSets, EmptyParens, TheAggregateForm, TheAggregate, MoreAggregates, TheAggregates, TheRenaming, MoreRenamings, TheRenamings, ThePortion, MaybePortion, MaybeWhere, InProjection}
use Rattle.utd_syntax.proofs.Reader.{Go, read, read_at}
use Rattle.utd_syntax.proofs.FormEnds.{Halts, Starts_point, MoreAttributes-end, MoreNames-end, MoreElements-end, MoreTuples-end, MoreSetItems-end, MoreAggregates-end, MoreRenamings-end, MaybePortion-end, MaybeWhere-end}
use Rattle.utd_syntax.proofs.FirstTokens.{kind-as-point}
use Rattle.utd_builder.specs.Choices.{aggregate_word_at}
use Rattle.utd_syntax.specs.Read.{read_aggregate, read_aggregate_list, read_attribute, read_attribute_list, read_element, read_element_list, read_name, read_name_list, read_renaming, read_renaming_list, read_set_item, read_set_item_list, read_tuple, read_tuple_list}
use Rattle.utd_syntax.specs.declared.word.Word.{Word as WordTree}
use Rattle.utd_syntax.specs.declared.parts.Attribute.{Attribute as AttributeTree}
use Rattle.utd_syntax.specs.declared.parts.Element.{Element as ElementTree}
use Rattle.utd_syntax.specs.declared.parts.Tuple.{Tuple as TupleTree}
use Rattle.utd_syntax.specs.declared.parts.SetItem.{SetItem as SetItemTree}
use Rattle.utd_syntax.specs.declared.parts.Aggregate.{Aggregate as AggregateTree}
use Rattle.utd_syntax.specs.declared.parts.Renaming.{Renaming as RenamingTree}
use Rattle.utd_builder.proofs.Steps.{at, differs}

halts-MoreAttributes : (x : Terminal) → (x ≡ t.Comma → ⊥) → Halts MoreAttributes x
halts-MoreAttributes t.Comma n0 = absurd (n0 refl)
halts-MoreAttributes _ n0 = refl

pub done-MoreAttributes : (ts : List Piece) (stack : List Symbol) (k : Go (MoreAttributes ∷ stack)) (s : StatementP) → ((first ts) ≡ t.Comma → ⊥) → read ts (MoreAttributes ∷ stack) k ≡ Some s → read ts stack (λ v. k ([], v)) ≡ Some s
done-MoreAttributes ts stack k s n0 h = sym (MoreAttributes-end ts stack k (halts-MoreAttributes (first ts) n0)) ∙ h

halts-MoreNames : (x : Terminal) → (x ≡ t.Comma → ⊥) → Halts MoreNames x
halts-MoreNames t.Comma n0 = absurd (n0 refl)
halts-MoreNames _ n0 = refl

pub done-MoreNames : (ts : List Piece) (stack : List Symbol) (k : Go (MoreNames ∷ stack)) (s : StatementP) → ((first ts) ≡ t.Comma → ⊥) → read ts (MoreNames ∷ stack) k ≡ Some s → read ts stack (λ v. k ([], v)) ≡ Some s
done-MoreNames ts stack k s n0 h = sym (MoreNames-end ts stack k (halts-MoreNames (first ts) n0)) ∙ h

halts-MoreElements : (x : Terminal) → (x ≡ t.Comma → ⊥) → Halts MoreElements x
halts-MoreElements t.Comma n0 = absurd (n0 refl)
halts-MoreElements _ n0 = refl

pub done-MoreElements : (ts : List Piece) (stack : List Symbol) (k : Go (MoreElements ∷ stack)) (s : StatementP) → ((first ts) ≡ t.Comma → ⊥) → read ts (MoreElements ∷ stack) k ≡ Some s → read ts stack (λ v. k ([], v)) ≡ Some s
done-MoreElements ts stack k s n0 h = sym (MoreElements-end ts stack k (halts-MoreElements (first ts) n0)) ∙ h

halts-MoreTuples : (x : Terminal) → (x ≡ t.Comma → ⊥) → Halts MoreTuples x
halts-MoreTuples t.Comma n0 = absurd (n0 refl)
halts-MoreTuples _ n0 = refl

pub done-MoreTuples : (ts : List Piece) (stack : List Symbol) (k : Go (MoreTuples ∷ stack)) (s : StatementP) → ((first ts) ≡ t.Comma → ⊥) → read ts (MoreTuples ∷ stack) k ≡ Some s → read ts stack (λ v. k ([], v)) ≡ Some s
done-MoreTuples ts stack k s n0 h = sym (MoreTuples-end ts stack k (halts-MoreTuples (first ts) n0)) ∙ h

halts-MoreSetItems : (x : Terminal) → (x ≡ t.Comma → ⊥) → Halts MoreSetItems x
halts-MoreSetItems t.Comma n0 = absurd (n0 refl)
halts-MoreSetItems _ n0 = refl

pub done-MoreSetItems : (ts : List Piece) (stack : List Symbol) (k : Go (MoreSetItems ∷ stack)) (s : StatementP) → ((first ts) ≡ t.Comma → ⊥) → read ts (MoreSetItems ∷ stack) k ≡ Some s → read ts stack (λ v. k ([], v)) ≡ Some s
done-MoreSetItems ts stack k s n0 h = sym (MoreSetItems-end ts stack k (halts-MoreSetItems (first ts) n0)) ∙ h

halts-MoreAggregates : (x : Terminal) → (x ≡ t.Comma → ⊥) → Halts MoreAggregates x
halts-MoreAggregates t.Comma n0 = absurd (n0 refl)
halts-MoreAggregates _ n0 = refl

pub done-MoreAggregates : (ts : List Piece) (stack : List Symbol) (k : Go (MoreAggregates ∷ stack)) (s : StatementP) → ((first ts) ≡ t.Comma → ⊥) → read ts (MoreAggregates ∷ stack) k ≡ Some s → read ts stack (λ v. k ([], v)) ≡ Some s
done-MoreAggregates ts stack k s n0 h = sym (MoreAggregates-end ts stack k (halts-MoreAggregates (first ts) n0)) ∙ h

halts-MoreRenamings : (x : Terminal) → (x ≡ t.Comma → ⊥) → Halts MoreRenamings x
halts-MoreRenamings t.Comma n0 = absurd (n0 refl)
halts-MoreRenamings _ n0 = refl

pub done-MoreRenamings : (ts : List Piece) (stack : List Symbol) (k : Go (MoreRenamings ∷ stack)) (s : StatementP) → ((first ts) ≡ t.Comma → ⊥) → read ts (MoreRenamings ∷ stack) k ≡ Some s → read ts stack (λ v. k ([], v)) ≡ Some s
done-MoreRenamings ts stack k s n0 h = sym (MoreRenamings-end ts stack k (halts-MoreRenamings (first ts) n0)) ∙ h

halts-MaybePortion : (x : Terminal) → (x ≡ t.Portion → ⊥) → Halts MaybePortion x
halts-MaybePortion t.Portion n0 = absurd (n0 refl)
halts-MaybePortion _ n0 = refl

pub done-MaybePortion : (ts : List Piece) (stack : List Symbol) (k : Go (MaybePortion ∷ stack)) (s : StatementP) → ((first ts) ≡ t.Portion → ⊥) → read ts (MaybePortion ∷ stack) k ≡ Some s → read ts stack (λ v. k (NoPortion, v)) ≡ Some s
done-MaybePortion ts stack k s n0 h = sym (MaybePortion-end ts stack k (halts-MaybePortion (first ts) n0)) ∙ h

halts-MaybeWhere : (x : Terminal) → (x ≡ t.Where → ⊥) → Halts MaybeWhere x
halts-MaybeWhere t.Where n0 = absurd (n0 refl)
halts-MaybeWhere _ n0 = refl

pub done-MaybeWhere : (ts : List Piece) (stack : List Symbol) (k : Go (MaybeWhere ∷ stack)) (s : StatementP) → ((first ts) ≡ t.Where → ⊥) → read ts (MaybeWhere ∷ stack) k ≡ Some s → read ts stack (λ v. k (NoCondition, v)) ≡ Some s
done-MaybeWhere ts stack k s n0 h = sym (MaybeWhere-end ts stack k (halts-MaybeWhere (first ts) n0)) ∙ h

starts-kind-point : (x n : Terminal) (p : Place) (b : List ℕ) (next : (st : List Symbol) → Go st → Option StatementP) (stack : List Symbol) (k : Go (TheKind ∷ stack)) (s : StatementP) → (x ≡ t.Boolean → ⊥) → (x ≡ t.Char → ⊥) → (x ≡ t.Interval → ⊥) → read_at x n p b next (TheKind ∷ stack) k ≡ Some s → Starts_point x
starts-kind-point t.Boolean n p b next stack k s n0 n1 n2 h = absurd (n0 refl)
starts-kind-point t.Char n p b next stack k s n0 n1 n2 h = absurd (n1 refl)
starts-kind-point t.Interval n p b next stack k s n0 n1 n2 h = absurd (n2 refl)
starts-kind-point t.Integer n p b next stack k s n0 n1 n2 h = tt
starts-kind-point t.Date n p b next stack k s n0 n1 n2 h = tt
starts-kind-point t.Moment n p b next stack k s n0 n1 n2 h = tt
starts-kind-point t.Name n p b next stack k s n0 n1 n2 h = tt
starts-kind-point _ n p b next stack k s n0 n1 n2 h = differs h

pub kind-to-point : (ts : List Piece) (stack : List Symbol) (k : Go (TheKind ∷ stack)) (s : StatementP) → ((first ts) ≡ t.Boolean → ⊥) → ((first ts) ≡ t.Char → ⊥) → ((first ts) ≡ t.Interval → ⊥) → read ts (TheKind ∷ stack) k ≡ Some s → read ts (ThePoint ∷ stack) (λ v. k (PointKind v.0, v.1)) ≡ Some s
kind-to-point [] stack k s n0 n1 n2 h = differs h
kind-to-point (x ∷ ts) stack k s n0 n1 n2 h = sym (kind-as-point (x ∷ ts) stack k (starts-kind-point x.terminal (first ts) x.place x.bytes (read ts) stack k s n0 n1 n2 h)) ∙ h

is-TheAttribute : (x n : Terminal) (p : Place) (b : List ℕ) (next : (st : List Symbol) → Go st → Option StatementP) (stack : List Symbol) (k : Go (TheAttribute ∷ stack)) (s : StatementP) → read_at x n p b next (TheAttribute ∷ stack) k ≡ Some s → x ≡ t.Name
is-TheAttribute t.Name n p b next stack k s h = refl
is-TheAttribute _ n p b next stack k s h = differs h

must-TheAttribute : (ts : List Piece) (stack : List Symbol) (k : Go (TheAttribute ∷ stack)) (s : StatementP) → read ts (TheAttribute ∷ stack) k ≡ Some s → first ts ≡ t.Name
must-TheAttribute [] stack k s h = differs h
must-TheAttribute (x ∷ ts) stack k s h = is-TheAttribute x.terminal (first ts) x.place x.bytes (read ts) stack k s h

pub step-TheAttribute : (p : Place) (b : List ℕ) (old new : List Piece) (stack : List Symbol) (k : Go (TheAttribute ∷ stack)) (s : StatementP) → p ≡ place_of old → b ≡ bytes_of old → new ≡ behind old → read old (TheAttribute ∷ stack) k ≡ Some s → read_at t.Name (first new) p b (read new) (TheAttribute ∷ stack) k ≡ Some s
step-TheAttribute p b old new stack k s hp hb hn h = at t.Name p b old new (TheAttribute ∷ stack) k s (must-TheAttribute old stack k s h) refl hp hb hn h

is-TheElement : (x n : Terminal) (p : Place) (b : List ℕ) (next : (st : List Symbol) → Go st → Option StatementP) (stack : List Symbol) (k : Go (TheElement ∷ stack)) (s : StatementP) → read_at x n p b next (TheElement ∷ stack) k ≡ Some s → x ≡ t.Name
is-TheElement t.Name n p b next stack k s h = refl
is-TheElement _ n p b next stack k s h = differs h

must-TheElement : (ts : List Piece) (stack : List Symbol) (k : Go (TheElement ∷ stack)) (s : StatementP) → read ts (TheElement ∷ stack) k ≡ Some s → first ts ≡ t.Name
must-TheElement [] stack k s h = differs h
must-TheElement (x ∷ ts) stack k s h = is-TheElement x.terminal (first ts) x.place x.bytes (read ts) stack k s h

pub step-TheElement : (p : Place) (b : List ℕ) (old new : List Piece) (stack : List Symbol) (k : Go (TheElement ∷ stack)) (s : StatementP) → p ≡ place_of old → b ≡ bytes_of old → new ≡ behind old → read old (TheElement ∷ stack) k ≡ Some s → read_at t.Name (first new) p b (read new) (TheElement ∷ stack) k ≡ Some s
step-TheElement p b old new stack k s hp hb hn h = at t.Name p b old new (TheElement ∷ stack) k s (must-TheElement old stack k s h) refl hp hb hn h

is-TheTuple : (x n : Terminal) (p : Place) (b : List ℕ) (next : (st : List Symbol) → Go st → Option StatementP) (stack : List Symbol) (k : Go (TheTuple ∷ stack)) (s : StatementP) → read_at x n p b next (TheTuple ∷ stack) k ≡ Some s → x ≡ t.Tuple
is-TheTuple t.Tuple n p b next stack k s h = refl
is-TheTuple _ n p b next stack k s h = differs h

must-TheTuple : (ts : List Piece) (stack : List Symbol) (k : Go (TheTuple ∷ stack)) (s : StatementP) → read ts (TheTuple ∷ stack) k ≡ Some s → first ts ≡ t.Tuple
must-TheTuple [] stack k s h = differs h
must-TheTuple (x ∷ ts) stack k s h = is-TheTuple x.terminal (first ts) x.place x.bytes (read ts) stack k s h

pub step-TheTuple : (p : Place) (b : List ℕ) (old new : List Piece) (stack : List Symbol) (k : Go (TheTuple ∷ stack)) (s : StatementP) → p ≡ place_of old → b ≡ bytes_of old → new ≡ behind old → read old (TheTuple ∷ stack) k ≡ Some s → read_at t.Tuple (first new) p b (read new) (TheTuple ∷ stack) k ≡ Some s
step-TheTuple p b old new stack k s hp hb hn h = at t.Tuple p b old new (TheTuple ∷ stack) k s (must-TheTuple old stack k s h) refl hp hb hn h

is-TheSetItem : (x n : Terminal) (p : Place) (b : List ℕ) (next : (st : List Symbol) → Go st → Option StatementP) (stack : List Symbol) (k : Go (TheSetItem ∷ stack)) (s : StatementP) → read_at x n p b next (TheSetItem ∷ stack) k ≡ Some s → x ≡ t.Name
is-TheSetItem t.Name n p b next stack k s h = refl
is-TheSetItem _ n p b next stack k s h = differs h

must-TheSetItem : (ts : List Piece) (stack : List Symbol) (k : Go (TheSetItem ∷ stack)) (s : StatementP) → read ts (TheSetItem ∷ stack) k ≡ Some s → first ts ≡ t.Name
must-TheSetItem [] stack k s h = differs h
must-TheSetItem (x ∷ ts) stack k s h = is-TheSetItem x.terminal (first ts) x.place x.bytes (read ts) stack k s h

pub step-TheSetItem : (p : Place) (b : List ℕ) (old new : List Piece) (stack : List Symbol) (k : Go (TheSetItem ∷ stack)) (s : StatementP) → p ≡ place_of old → b ≡ bytes_of old → new ≡ behind old → read old (TheSetItem ∷ stack) k ≡ Some s → read_at t.Name (first new) p b (read new) (TheSetItem ∷ stack) k ≡ Some s
step-TheSetItem p b old new stack k s hp hb hn h = at t.Name p b old new (TheSetItem ∷ stack) k s (must-TheSetItem old stack k s h) refl hp hb hn h

is-TheAggregate : (x n : Terminal) (p : Place) (b : List ℕ) (next : (st : List Symbol) → Go st → Option StatementP) (stack : List Symbol) (k : Go (TheAggregate ∷ stack)) (s : StatementP) → read_at x n p b next (TheAggregate ∷ stack) k ≡ Some s → x ≡ t.Name
is-TheAggregate t.Name n p b next stack k s h = refl
is-TheAggregate _ n p b next stack k s h = differs h

must-TheAggregate : (ts : List Piece) (stack : List Symbol) (k : Go (TheAggregate ∷ stack)) (s : StatementP) → read ts (TheAggregate ∷ stack) k ≡ Some s → first ts ≡ t.Name
must-TheAggregate [] stack k s h = differs h
must-TheAggregate (x ∷ ts) stack k s h = is-TheAggregate x.terminal (first ts) x.place x.bytes (read ts) stack k s h

pub step-TheAggregate : (p : Place) (b : List ℕ) (old new : List Piece) (stack : List Symbol) (k : Go (TheAggregate ∷ stack)) (s : StatementP) → p ≡ place_of old → b ≡ bytes_of old → new ≡ behind old → read old (TheAggregate ∷ stack) k ≡ Some s → read_at t.Name (first new) p b (read new) (TheAggregate ∷ stack) k ≡ Some s
step-TheAggregate p b old new stack k s hp hb hn h = at t.Name p b old new (TheAggregate ∷ stack) k s (must-TheAggregate old stack k s h) refl hp hb hn h

is-TheRenaming : (x n : Terminal) (p : Place) (b : List ℕ) (next : (st : List Symbol) → Go st → Option StatementP) (stack : List Symbol) (k : Go (TheRenaming ∷ stack)) (s : StatementP) → read_at x n p b next (TheRenaming ∷ stack) k ≡ Some s → x ≡ t.Name
is-TheRenaming t.Name n p b next stack k s h = refl
is-TheRenaming _ n p b next stack k s h = differs h

must-TheRenaming : (ts : List Piece) (stack : List Symbol) (k : Go (TheRenaming ∷ stack)) (s : StatementP) → read ts (TheRenaming ∷ stack) k ≡ Some s → first ts ≡ t.Name
must-TheRenaming [] stack k s h = differs h
must-TheRenaming (x ∷ ts) stack k s h = is-TheRenaming x.terminal (first ts) x.place x.bytes (read ts) stack k s h

pub step-TheRenaming : (p : Place) (b : List ℕ) (old new : List Piece) (stack : List Symbol) (k : Go (TheRenaming ∷ stack)) (s : StatementP) → p ≡ place_of old → b ≡ bytes_of old → new ≡ behind old → read old (TheRenaming ∷ stack) k ≡ Some s → read_at t.Name (first new) p b (read new) (TheRenaming ∷ stack) k ≡ Some s
step-TheRenaming p b old new stack k s hp hb hn h = at t.Name p b old new (TheRenaming ∷ stack) k s (must-TheRenaming old stack k s h) refl hp hb hn h

is-EmptyParens : (x n : Terminal) (p : Place) (b : List ℕ) (next : (st : List Symbol) → Go st → Option StatementP) (stack : List Symbol) (k : Go (EmptyParens ∷ stack)) (s : StatementP) → read_at x n p b next (EmptyParens ∷ stack) k ≡ Some s → x ≡ t.Open
is-EmptyParens t.Open n p b next stack k s h = refl
is-EmptyParens _ n p b next stack k s h = differs h

must-EmptyParens : (ts : List Piece) (stack : List Symbol) (k : Go (EmptyParens ∷ stack)) (s : StatementP) → read ts (EmptyParens ∷ stack) k ≡ Some s → first ts ≡ t.Open
must-EmptyParens [] stack k s h = differs h
must-EmptyParens (x ∷ ts) stack k s h = is-EmptyParens x.terminal (first ts) x.place x.bytes (read ts) stack k s h

pub step-EmptyParens : (p : Place) (b : List ℕ) (old new : List Piece) (stack : List Symbol) (k : Go (EmptyParens ∷ stack)) (s : StatementP) → p ≡ place_of old → b ≡ bytes_of old → new ≡ behind old → read old (EmptyParens ∷ stack) k ≡ Some s → read_at t.Open (first new) p b (read new) (EmptyParens ∷ stack) k ≡ Some s
step-EmptyParens p b old new stack k s hp hb hn h = at t.Open p b old new (EmptyParens ∷ stack) k s (must-EmptyParens old stack k s h) refl hp hb hn h

is-InHeading : (x n : Terminal) (p : Place) (b : List ℕ) (next : (st : List Symbol) → Go st → Option StatementP) (stack : List Symbol) (k : Go (InHeading ∷ stack)) (s : StatementP) → (x ≡ t.Name → ⊥) → read_at x n p b next (InHeading ∷ stack) k ≡ Some s → x ≡ t.CloseBrace
is-InHeading t.CloseBrace n p b next stack k s n0 h = refl
is-InHeading t.Name n p b next stack k s n0 h = absurd (n0 refl)
is-InHeading _ n p b next stack k s n0 h = differs h

must-InHeading : (ts : List Piece) (stack : List Symbol) (k : Go (InHeading ∷ stack)) (s : StatementP) → ((first ts) ≡ t.Name → ⊥) → read ts (InHeading ∷ stack) k ≡ Some s → first ts ≡ t.CloseBrace
must-InHeading [] stack k s n0 h = differs h
must-InHeading (x ∷ ts) stack k s n0 h = is-InHeading x.terminal (first ts) x.place x.bytes (read ts) stack k s n0 h

pub step-InHeading : (p : Place) (b : List ℕ) (old new : List Piece) (stack : List Symbol) (k : Go (InHeading ∷ stack)) (s : StatementP) → ((first old) ≡ t.Name → ⊥) → p ≡ place_of old → b ≡ bytes_of old → new ≡ behind old → read old (InHeading ∷ stack) k ≡ Some s → read_at t.CloseBrace (first new) p b (read new) (InHeading ∷ stack) k ≡ Some s
step-InHeading p b old new stack k s n0 hp hb hn h = at t.CloseBrace p b old new (InHeading ∷ stack) k s (must-InHeading old stack k s n0 h) refl hp hb hn h

is-InNames : (x n : Terminal) (p : Place) (b : List ℕ) (next : (st : List Symbol) → Go st → Option StatementP) (stack : List Symbol) (k : Go (InNames ∷ stack)) (s : StatementP) → (x ≡ t.Name → ⊥) → read_at x n p b next (InNames ∷ stack) k ≡ Some s → x ≡ t.CloseBrace
is-InNames t.CloseBrace n p b next stack k s n0 h = refl
is-InNames t.Name n p b next stack k s n0 h = absurd (n0 refl)
is-InNames _ n p b next stack k s n0 h = differs h

must-InNames : (ts : List Piece) (stack : List Symbol) (k : Go (InNames ∷ stack)) (s : StatementP) → ((first ts) ≡ t.Name → ⊥) → read ts (InNames ∷ stack) k ≡ Some s → first ts ≡ t.CloseBrace
must-InNames [] stack k s n0 h = differs h
must-InNames (x ∷ ts) stack k s n0 h = is-InNames x.terminal (first ts) x.place x.bytes (read ts) stack k s n0 h

pub step-InNames : (p : Place) (b : List ℕ) (old new : List Piece) (stack : List Symbol) (k : Go (InNames ∷ stack)) (s : StatementP) → ((first old) ≡ t.Name → ⊥) → p ≡ place_of old → b ≡ bytes_of old → new ≡ behind old → read old (InNames ∷ stack) k ≡ Some s → read_at t.CloseBrace (first new) p b (read new) (InNames ∷ stack) k ≡ Some s
step-InNames p b old new stack k s n0 hp hb hn h = at t.CloseBrace p b old new (InNames ∷ stack) k s (must-InNames old stack k s n0 h) refl hp hb hn h

is-InList : (x n : Terminal) (p : Place) (b : List ℕ) (next : (st : List Symbol) → Go st → Option StatementP) (stack : List Symbol) (k : Go (InList ∷ stack)) (s : StatementP) → (x ≡ t.Name → ⊥) → read_at x n p b next (InList ∷ stack) k ≡ Some s → x ≡ t.Close
is-InList t.Close n p b next stack k s n0 h = refl
is-InList t.Name n p b next stack k s n0 h = absurd (n0 refl)
is-InList _ n p b next stack k s n0 h = differs h

must-InList : (ts : List Piece) (stack : List Symbol) (k : Go (InList ∷ stack)) (s : StatementP) → ((first ts) ≡ t.Name → ⊥) → read ts (InList ∷ stack) k ≡ Some s → first ts ≡ t.Close
must-InList [] stack k s n0 h = differs h
must-InList (x ∷ ts) stack k s n0 h = is-InList x.terminal (first ts) x.place x.bytes (read ts) stack k s n0 h

pub step-InList : (p : Place) (b : List ℕ) (old new : List Piece) (stack : List Symbol) (k : Go (InList ∷ stack)) (s : StatementP) → ((first old) ≡ t.Name → ⊥) → p ≡ place_of old → b ≡ bytes_of old → new ≡ behind old → read old (InList ∷ stack) k ≡ Some s → read_at t.Close (first new) p b (read new) (InList ∷ stack) k ≡ Some s
step-InList p b old new stack k s n0 hp hb hn h = at t.Close p b old new (InList ∷ stack) k s (must-InList old stack k s n0 h) refl hp hb hn h

is-InElements : (x n : Terminal) (p : Place) (b : List ℕ) (next : (st : List Symbol) → Go st → Option StatementP) (stack : List Symbol) (k : Go (InElements ∷ stack)) (s : StatementP) → (x ≡ t.Name → ⊥) → read_at x n p b next (InElements ∷ stack) k ≡ Some s → x ≡ t.CloseBrace
is-InElements t.CloseBrace n p b next stack k s n0 h = refl
is-InElements t.Name n p b next stack k s n0 h = absurd (n0 refl)
is-InElements _ n p b next stack k s n0 h = differs h

must-InElements : (ts : List Piece) (stack : List Symbol) (k : Go (InElements ∷ stack)) (s : StatementP) → ((first ts) ≡ t.Name → ⊥) → read ts (InElements ∷ stack) k ≡ Some s → first ts ≡ t.CloseBrace
must-InElements [] stack k s n0 h = differs h
must-InElements (x ∷ ts) stack k s n0 h = is-InElements x.terminal (first ts) x.place x.bytes (read ts) stack k s n0 h

pub step-InElements : (p : Place) (b : List ℕ) (old new : List Piece) (stack : List Symbol) (k : Go (InElements ∷ stack)) (s : StatementP) → ((first old) ≡ t.Name → ⊥) → p ≡ place_of old → b ≡ bytes_of old → new ≡ behind old → read old (InElements ∷ stack) k ≡ Some s → read_at t.CloseBrace (first new) p b (read new) (InElements ∷ stack) k ≡ Some s
step-InElements p b old new stack k s n0 hp hb hn h = at t.CloseBrace p b old new (InElements ∷ stack) k s (must-InElements old stack k s n0 h) refl hp hb hn h

is-InTuples : (x n : Terminal) (p : Place) (b : List ℕ) (next : (st : List Symbol) → Go st → Option StatementP) (stack : List Symbol) (k : Go (InTuples ∷ stack)) (s : StatementP) → (x ≡ t.Tuple → ⊥) → read_at x n p b next (InTuples ∷ stack) k ≡ Some s → x ≡ t.CloseBrace
is-InTuples t.CloseBrace n p b next stack k s n0 h = refl
is-InTuples t.Tuple n p b next stack k s n0 h = absurd (n0 refl)
is-InTuples _ n p b next stack k s n0 h = differs h

must-InTuples : (ts : List Piece) (stack : List Symbol) (k : Go (InTuples ∷ stack)) (s : StatementP) → ((first ts) ≡ t.Tuple → ⊥) → read ts (InTuples ∷ stack) k ≡ Some s → first ts ≡ t.CloseBrace
must-InTuples [] stack k s n0 h = differs h
must-InTuples (x ∷ ts) stack k s n0 h = is-InTuples x.terminal (first ts) x.place x.bytes (read ts) stack k s n0 h

pub step-InTuples : (p : Place) (b : List ℕ) (old new : List Piece) (stack : List Symbol) (k : Go (InTuples ∷ stack)) (s : StatementP) → ((first old) ≡ t.Tuple → ⊥) → p ≡ place_of old → b ≡ bytes_of old → new ≡ behind old → read old (InTuples ∷ stack) k ≡ Some s → read_at t.CloseBrace (first new) p b (read new) (InTuples ∷ stack) k ≡ Some s
step-InTuples p b old new stack k s n0 hp hb hn h = at t.CloseBrace p b old new (InTuples ∷ stack) k s (must-InTuples old stack k s n0 h) refl hp hb hn h

is-TheHeading : (x n : Terminal) (p : Place) (b : List ℕ) (next : (st : List Symbol) → Go st → Option StatementP) (stack : List Symbol) (k : Go (TheHeading ∷ stack)) (s : StatementP) → read_at x n p b next (TheHeading ∷ stack) k ≡ Some s → x ≡ t.OpenBrace
is-TheHeading t.OpenBrace n p b next stack k s h = refl
is-TheHeading _ n p b next stack k s h = differs h

must-TheHeading : (ts : List Piece) (stack : List Symbol) (k : Go (TheHeading ∷ stack)) (s : StatementP) → read ts (TheHeading ∷ stack) k ≡ Some s → first ts ≡ t.OpenBrace
must-TheHeading [] stack k s h = differs h
must-TheHeading (x ∷ ts) stack k s h = is-TheHeading x.terminal (first ts) x.place x.bytes (read ts) stack k s h

pub step-TheHeading : (p : Place) (b : List ℕ) (old new : List Piece) (stack : List Symbol) (k : Go (TheHeading ∷ stack)) (s : StatementP) → p ≡ place_of old → b ≡ bytes_of old → new ≡ behind old → read old (TheHeading ∷ stack) k ≡ Some s → read_at t.OpenBrace (first new) p b (read new) (TheHeading ∷ stack) k ≡ Some s
step-TheHeading p b old new stack k s hp hb hn h = at t.OpenBrace p b old new (TheHeading ∷ stack) k s (must-TheHeading old stack k s h) refl hp hb hn h

is-TheNames : (x n : Terminal) (p : Place) (b : List ℕ) (next : (st : List Symbol) → Go st → Option StatementP) (stack : List Symbol) (k : Go (TheNames ∷ stack)) (s : StatementP) → read_at x n p b next (TheNames ∷ stack) k ≡ Some s → x ≡ t.OpenBrace
is-TheNames t.OpenBrace n p b next stack k s h = refl
is-TheNames _ n p b next stack k s h = differs h

must-TheNames : (ts : List Piece) (stack : List Symbol) (k : Go (TheNames ∷ stack)) (s : StatementP) → read ts (TheNames ∷ stack) k ≡ Some s → first ts ≡ t.OpenBrace
must-TheNames [] stack k s h = differs h
must-TheNames (x ∷ ts) stack k s h = is-TheNames x.terminal (first ts) x.place x.bytes (read ts) stack k s h

pub step-TheNames : (p : Place) (b : List ℕ) (old new : List Piece) (stack : List Symbol) (k : Go (TheNames ∷ stack)) (s : StatementP) → p ≡ place_of old → b ≡ bytes_of old → new ≡ behind old → read old (TheNames ∷ stack) k ≡ Some s → read_at t.OpenBrace (first new) p b (read new) (TheNames ∷ stack) k ≡ Some s
step-TheNames p b old new stack k s hp hb hn h = at t.OpenBrace p b old new (TheNames ∷ stack) k s (must-TheNames old stack k s h) refl hp hb hn h

is-TheList : (x n : Terminal) (p : Place) (b : List ℕ) (next : (st : List Symbol) → Go st → Option StatementP) (stack : List Symbol) (k : Go (TheList ∷ stack)) (s : StatementP) → read_at x n p b next (TheList ∷ stack) k ≡ Some s → x ≡ t.Open
is-TheList t.Open n p b next stack k s h = refl
is-TheList _ n p b next stack k s h = differs h

must-TheList : (ts : List Piece) (stack : List Symbol) (k : Go (TheList ∷ stack)) (s : StatementP) → read ts (TheList ∷ stack) k ≡ Some s → first ts ≡ t.Open
must-TheList [] stack k s h = differs h
must-TheList (x ∷ ts) stack k s h = is-TheList x.terminal (first ts) x.place x.bytes (read ts) stack k s h

pub step-TheList : (p : Place) (b : List ℕ) (old new : List Piece) (stack : List Symbol) (k : Go (TheList ∷ stack)) (s : StatementP) → p ≡ place_of old → b ≡ bytes_of old → new ≡ behind old → read old (TheList ∷ stack) k ≡ Some s → read_at t.Open (first new) p b (read new) (TheList ∷ stack) k ≡ Some s
step-TheList p b old new stack k s hp hb hn h = at t.Open p b old new (TheList ∷ stack) k s (must-TheList old stack k s h) refl hp hb hn h

is-TheElements : (x n : Terminal) (p : Place) (b : List ℕ) (next : (st : List Symbol) → Go st → Option StatementP) (stack : List Symbol) (k : Go (TheElements ∷ stack)) (s : StatementP) → read_at x n p b next (TheElements ∷ stack) k ≡ Some s → x ≡ t.OpenBrace
is-TheElements t.OpenBrace n p b next stack k s h = refl
is-TheElements _ n p b next stack k s h = differs h

must-TheElements : (ts : List Piece) (stack : List Symbol) (k : Go (TheElements ∷ stack)) (s : StatementP) → read ts (TheElements ∷ stack) k ≡ Some s → first ts ≡ t.OpenBrace
must-TheElements [] stack k s h = differs h
must-TheElements (x ∷ ts) stack k s h = is-TheElements x.terminal (first ts) x.place x.bytes (read ts) stack k s h

pub step-TheElements : (p : Place) (b : List ℕ) (old new : List Piece) (stack : List Symbol) (k : Go (TheElements ∷ stack)) (s : StatementP) → p ≡ place_of old → b ≡ bytes_of old → new ≡ behind old → read old (TheElements ∷ stack) k ≡ Some s → read_at t.OpenBrace (first new) p b (read new) (TheElements ∷ stack) k ≡ Some s
step-TheElements p b old new stack k s hp hb hn h = at t.OpenBrace p b old new (TheElements ∷ stack) k s (must-TheElements old stack k s h) refl hp hb hn h

is-TheSomeNames : (x n : Terminal) (p : Place) (b : List ℕ) (next : (st : List Symbol) → Go st → Option StatementP) (stack : List Symbol) (k : Go (TheSomeNames ∷ stack)) (s : StatementP) → read_at x n p b next (TheSomeNames ∷ stack) k ≡ Some s → x ≡ t.OpenBrace
is-TheSomeNames t.OpenBrace n p b next stack k s h = refl
is-TheSomeNames _ n p b next stack k s h = differs h

must-TheSomeNames : (ts : List Piece) (stack : List Symbol) (k : Go (TheSomeNames ∷ stack)) (s : StatementP) → read ts (TheSomeNames ∷ stack) k ≡ Some s → first ts ≡ t.OpenBrace
must-TheSomeNames [] stack k s h = differs h
must-TheSomeNames (x ∷ ts) stack k s h = is-TheSomeNames x.terminal (first ts) x.place x.bytes (read ts) stack k s h

pub step-TheSomeNames : (p : Place) (b : List ℕ) (old new : List Piece) (stack : List Symbol) (k : Go (TheSomeNames ∷ stack)) (s : StatementP) → p ≡ place_of old → b ≡ bytes_of old → new ≡ behind old → read old (TheSomeNames ∷ stack) k ≡ Some s → read_at t.OpenBrace (first new) p b (read new) (TheSomeNames ∷ stack) k ≡ Some s
step-TheSomeNames p b old new stack k s hp hb hn h = at t.OpenBrace p b old new (TheSomeNames ∷ stack) k s (must-TheSomeNames old stack k s h) refl hp hb hn h

is-TheSomeElements : (x n : Terminal) (p : Place) (b : List ℕ) (next : (st : List Symbol) → Go st → Option StatementP) (stack : List Symbol) (k : Go (TheSomeElements ∷ stack)) (s : StatementP) → read_at x n p b next (TheSomeElements ∷ stack) k ≡ Some s → x ≡ t.OpenBrace
is-TheSomeElements t.OpenBrace n p b next stack k s h = refl
is-TheSomeElements _ n p b next stack k s h = differs h

must-TheSomeElements : (ts : List Piece) (stack : List Symbol) (k : Go (TheSomeElements ∷ stack)) (s : StatementP) → read ts (TheSomeElements ∷ stack) k ≡ Some s → first ts ≡ t.OpenBrace
must-TheSomeElements [] stack k s h = differs h
must-TheSomeElements (x ∷ ts) stack k s h = is-TheSomeElements x.terminal (first ts) x.place x.bytes (read ts) stack k s h

pub step-TheSomeElements : (p : Place) (b : List ℕ) (old new : List Piece) (stack : List Symbol) (k : Go (TheSomeElements ∷ stack)) (s : StatementP) → p ≡ place_of old → b ≡ bytes_of old → new ≡ behind old → read old (TheSomeElements ∷ stack) k ≡ Some s → read_at t.OpenBrace (first new) p b (read new) (TheSomeElements ∷ stack) k ≡ Some s
step-TheSomeElements p b old new stack k s hp hb hn h = at t.OpenBrace p b old new (TheSomeElements ∷ stack) k s (must-TheSomeElements old stack k s h) refl hp hb hn h

is-TheSets : (x n : Terminal) (p : Place) (b : List ℕ) (next : (st : List Symbol) → Go st → Option StatementP) (stack : List Symbol) (k : Go (TheSets ∷ stack)) (s : StatementP) → read_at x n p b next (TheSets ∷ stack) k ≡ Some s → x ≡ t.OpenBrace
is-TheSets t.OpenBrace n p b next stack k s h = refl
is-TheSets _ n p b next stack k s h = differs h

must-TheSets : (ts : List Piece) (stack : List Symbol) (k : Go (TheSets ∷ stack)) (s : StatementP) → read ts (TheSets ∷ stack) k ≡ Some s → first ts ≡ t.OpenBrace
must-TheSets [] stack k s h = differs h
must-TheSets (x ∷ ts) stack k s h = is-TheSets x.terminal (first ts) x.place x.bytes (read ts) stack k s h

pub step-TheSets : (p : Place) (b : List ℕ) (old new : List Piece) (stack : List Symbol) (k : Go (TheSets ∷ stack)) (s : StatementP) → p ≡ place_of old → b ≡ bytes_of old → new ≡ behind old → read old (TheSets ∷ stack) k ≡ Some s → read_at t.OpenBrace (first new) p b (read new) (TheSets ∷ stack) k ≡ Some s
step-TheSets p b old new stack k s hp hb hn h = at t.OpenBrace p b old new (TheSets ∷ stack) k s (must-TheSets old stack k s h) refl hp hb hn h

is-TheAggregates : (x n : Terminal) (p : Place) (b : List ℕ) (next : (st : List Symbol) → Go st → Option StatementP) (stack : List Symbol) (k : Go (TheAggregates ∷ stack)) (s : StatementP) → read_at x n p b next (TheAggregates ∷ stack) k ≡ Some s → x ≡ t.OpenBrace
is-TheAggregates t.OpenBrace n p b next stack k s h = refl
is-TheAggregates _ n p b next stack k s h = differs h

must-TheAggregates : (ts : List Piece) (stack : List Symbol) (k : Go (TheAggregates ∷ stack)) (s : StatementP) → read ts (TheAggregates ∷ stack) k ≡ Some s → first ts ≡ t.OpenBrace
must-TheAggregates [] stack k s h = differs h
must-TheAggregates (x ∷ ts) stack k s h = is-TheAggregates x.terminal (first ts) x.place x.bytes (read ts) stack k s h

pub step-TheAggregates : (p : Place) (b : List ℕ) (old new : List Piece) (stack : List Symbol) (k : Go (TheAggregates ∷ stack)) (s : StatementP) → p ≡ place_of old → b ≡ bytes_of old → new ≡ behind old → read old (TheAggregates ∷ stack) k ≡ Some s → read_at t.OpenBrace (first new) p b (read new) (TheAggregates ∷ stack) k ≡ Some s
step-TheAggregates p b old new stack k s hp hb hn h = at t.OpenBrace p b old new (TheAggregates ∷ stack) k s (must-TheAggregates old stack k s h) refl hp hb hn h

is-TheRenamings : (x n : Terminal) (p : Place) (b : List ℕ) (next : (st : List Symbol) → Go st → Option StatementP) (stack : List Symbol) (k : Go (TheRenamings ∷ stack)) (s : StatementP) → read_at x n p b next (TheRenamings ∷ stack) k ≡ Some s → x ≡ t.OpenBrace
is-TheRenamings t.OpenBrace n p b next stack k s h = refl
is-TheRenamings _ n p b next stack k s h = differs h

must-TheRenamings : (ts : List Piece) (stack : List Symbol) (k : Go (TheRenamings ∷ stack)) (s : StatementP) → read ts (TheRenamings ∷ stack) k ≡ Some s → first ts ≡ t.OpenBrace
must-TheRenamings [] stack k s h = differs h
must-TheRenamings (x ∷ ts) stack k s h = is-TheRenamings x.terminal (first ts) x.place x.bytes (read ts) stack k s h

pub step-TheRenamings : (p : Place) (b : List ℕ) (old new : List Piece) (stack : List Symbol) (k : Go (TheRenamings ∷ stack)) (s : StatementP) → p ≡ place_of old → b ≡ bytes_of old → new ≡ behind old → read old (TheRenamings ∷ stack) k ≡ Some s → read_at t.OpenBrace (first new) p b (read new) (TheRenamings ∷ stack) k ≡ Some s
step-TheRenamings p b old new stack k s hp hb hn h = at t.OpenBrace p b old new (TheRenamings ∷ stack) k s (must-TheRenamings old stack k s h) refl hp hb hn h

is-TheLiteral : (x n : Terminal) (p : Place) (b : List ℕ) (next : (st : List Symbol) → Go st → Option StatementP) (stack : List Symbol) (k : Go (TheLiteral ∷ stack)) (s : StatementP) → read_at x n p b next (TheLiteral ∷ stack) k ≡ Some s → x ≡ t.Relation
is-TheLiteral t.Relation n p b next stack k s h = refl
is-TheLiteral _ n p b next stack k s h = differs h

must-TheLiteral : (ts : List Piece) (stack : List Symbol) (k : Go (TheLiteral ∷ stack)) (s : StatementP) → read ts (TheLiteral ∷ stack) k ≡ Some s → first ts ≡ t.Relation
must-TheLiteral [] stack k s h = differs h
must-TheLiteral (x ∷ ts) stack k s h = is-TheLiteral x.terminal (first ts) x.place x.bytes (read ts) stack k s h

pub step-TheLiteral : (p : Place) (b : List ℕ) (old new : List Piece) (stack : List Symbol) (k : Go (TheLiteral ∷ stack)) (s : StatementP) → p ≡ place_of old → b ≡ bytes_of old → new ≡ behind old → read old (TheLiteral ∷ stack) k ≡ Some s → read_at t.Relation (first new) p b (read new) (TheLiteral ∷ stack) k ≡ Some s
step-TheLiteral p b old new stack k s hp hb hn h = at t.Relation p b old new (TheLiteral ∷ stack) k s (must-TheLiteral old stack k s h) refl hp hb hn h

is-AfterRelation : (x n : Terminal) (p : Place) (b : List ℕ) (next : (st : List Symbol) → Go st → Option StatementP) (stack : List Symbol) (k : Go (AfterRelation ∷ stack)) (s : StatementP) → read_at x n p b next (AfterRelation ∷ stack) k ≡ Some s → x ≡ t.OpenBrace
is-AfterRelation t.OpenBrace n p b next stack k s h = refl
is-AfterRelation _ n p b next stack k s h = differs h

must-AfterRelation : (ts : List Piece) (stack : List Symbol) (k : Go (AfterRelation ∷ stack)) (s : StatementP) → read ts (AfterRelation ∷ stack) k ≡ Some s → first ts ≡ t.OpenBrace
must-AfterRelation [] stack k s h = differs h
must-AfterRelation (x ∷ ts) stack k s h = is-AfterRelation x.terminal (first ts) x.place x.bytes (read ts) stack k s h

pub step-AfterRelation : (p : Place) (b : List ℕ) (old new : List Piece) (stack : List Symbol) (k : Go (AfterRelation ∷ stack)) (s : StatementP) → p ≡ place_of old → b ≡ bytes_of old → new ≡ behind old → read old (AfterRelation ∷ stack) k ≡ Some s → read_at t.OpenBrace (first new) p b (read new) (AfterRelation ∷ stack) k ≡ Some s
step-AfterRelation p b old new stack k s hp hb hn h = at t.OpenBrace p b old new (AfterRelation ∷ stack) k s (must-AfterRelation old stack k s h) refl hp hb hn h

is-TheTuples : (x n : Terminal) (p : Place) (b : List ℕ) (next : (st : List Symbol) → Go st → Option StatementP) (stack : List Symbol) (k : Go (TheTuples ∷ stack)) (s : StatementP) → read_at x n p b next (TheTuples ∷ stack) k ≡ Some s → x ≡ t.OpenBrace
is-TheTuples t.OpenBrace n p b next stack k s h = refl
is-TheTuples _ n p b next stack k s h = differs h

must-TheTuples : (ts : List Piece) (stack : List Symbol) (k : Go (TheTuples ∷ stack)) (s : StatementP) → read ts (TheTuples ∷ stack) k ≡ Some s → first ts ≡ t.OpenBrace
must-TheTuples [] stack k s h = differs h
must-TheTuples (x ∷ ts) stack k s h = is-TheTuples x.terminal (first ts) x.place x.bytes (read ts) stack k s h

pub step-TheTuples : (p : Place) (b : List ℕ) (old new : List Piece) (stack : List Symbol) (k : Go (TheTuples ∷ stack)) (s : StatementP) → p ≡ place_of old → b ≡ bytes_of old → new ≡ behind old → read old (TheTuples ∷ stack) k ≡ Some s → read_at t.OpenBrace (first new) p b (read new) (TheTuples ∷ stack) k ≡ Some s
step-TheTuples p b old new stack k s hp hb hn h = at t.OpenBrace p b old new (TheTuples ∷ stack) k s (must-TheTuples old stack k s h) refl hp hb hn h

is-ThePortion : (x n : Terminal) (p : Place) (b : List ℕ) (next : (st : List Symbol) → Go st → Option StatementP) (stack : List Symbol) (k : Go (ThePortion ∷ stack)) (s : StatementP) → read_at x n p b next (ThePortion ∷ stack) k ≡ Some s → x ≡ t.Portion
is-ThePortion t.Portion n p b next stack k s h = refl
is-ThePortion _ n p b next stack k s h = differs h

must-ThePortion : (ts : List Piece) (stack : List Symbol) (k : Go (ThePortion ∷ stack)) (s : StatementP) → read ts (ThePortion ∷ stack) k ≡ Some s → first ts ≡ t.Portion
must-ThePortion [] stack k s h = differs h
must-ThePortion (x ∷ ts) stack k s h = is-ThePortion x.terminal (first ts) x.place x.bytes (read ts) stack k s h

pub step-ThePortion : (p : Place) (b : List ℕ) (old new : List Piece) (stack : List Symbol) (k : Go (ThePortion ∷ stack)) (s : StatementP) → p ≡ place_of old → b ≡ bytes_of old → new ≡ behind old → read old (ThePortion ∷ stack) k ≡ Some s → read_at t.Portion (first new) p b (read new) (ThePortion ∷ stack) k ≡ Some s
step-ThePortion p b old new stack k s hp hb hn h = at t.Portion p b old new (ThePortion ∷ stack) k s (must-ThePortion old stack k s h) refl hp hb hn h

is-TheParenName : (x n : Terminal) (p : Place) (b : List ℕ) (next : (st : List Symbol) → Go st → Option StatementP) (stack : List Symbol) (k : Go (TheParenName ∷ stack)) (s : StatementP) → read_at x n p b next (TheParenName ∷ stack) k ≡ Some s → x ≡ t.Open
is-TheParenName t.Open n p b next stack k s h = refl
is-TheParenName _ n p b next stack k s h = differs h

must-TheParenName : (ts : List Piece) (stack : List Symbol) (k : Go (TheParenName ∷ stack)) (s : StatementP) → read ts (TheParenName ∷ stack) k ≡ Some s → first ts ≡ t.Open
must-TheParenName [] stack k s h = differs h
must-TheParenName (x ∷ ts) stack k s h = is-TheParenName x.terminal (first ts) x.place x.bytes (read ts) stack k s h

pub step-TheParenName : (p : Place) (b : List ℕ) (old new : List Piece) (stack : List Symbol) (k : Go (TheParenName ∷ stack)) (s : StatementP) → p ≡ place_of old → b ≡ bytes_of old → new ≡ behind old → read old (TheParenName ∷ stack) k ≡ Some s → read_at t.Open (first new) p b (read new) (TheParenName ∷ stack) k ≡ Some s
step-TheParenName p b old new stack k s hp hb hn h = at t.Open p b old new (TheParenName ∷ stack) k s (must-TheParenName old stack k s h) refl hp hb hn h

pub push-words : (xs : List WordTree) (x : WordTree) (v : List Word) → read_name_list xs ++ (read_name x ∷ v) ≡ read_name_list (xs ++ x ∷ []) ++ v
push-words [] x v = refl
push-words (y ∷ xs) x v = ap (λ z. read_name y ∷ z) (push-words xs x v)

pub push-attributes : (xs : List AttributeTree) (x : AttributeTree) (v : List AttributeP) → read_attribute_list xs ++ (read_attribute x ∷ v) ≡ read_attribute_list (xs ++ x ∷ []) ++ v
push-attributes [] x v = refl
push-attributes (y ∷ xs) x v = ap (λ z. read_attribute y ∷ z) (push-attributes xs x v)

pub push-elements : (xs : List ElementTree) (x : ElementTree) (v : List ElementP) → read_element_list xs ++ (read_element x ∷ v) ≡ read_element_list (xs ++ x ∷ []) ++ v
push-elements [] x v = refl
push-elements (y ∷ xs) x v = ap (λ z. read_element y ∷ z) (push-elements xs x v)

pub push-tuples : (xs : List TupleTree) (x : TupleTree) (v : List TupleP) → read_tuple_list xs ++ (read_tuple x ∷ v) ≡ read_tuple_list (xs ++ x ∷ []) ++ v
push-tuples [] x v = refl
push-tuples (y ∷ xs) x v = ap (λ z. read_tuple y ∷ z) (push-tuples xs x v)

pub push-set_items : (xs : List SetItemTree) (x : SetItemTree) (v : List SetItemP) → read_set_item_list xs ++ (read_set_item x ∷ v) ≡ read_set_item_list (xs ++ x ∷ []) ++ v
push-set_items [] x v = refl
push-set_items (y ∷ xs) x v = ap (λ z. read_set_item y ∷ z) (push-set_items xs x v)

pub push-aggregates : (xs : List AggregateTree) (x : AggregateTree) (v : List AggregateP) → read_aggregate_list xs ++ (read_aggregate x ∷ v) ≡ read_aggregate_list (xs ++ x ∷ []) ++ v
push-aggregates [] x v = refl
push-aggregates (y ∷ xs) x v = ap (λ z. read_aggregate y ∷ z) (push-aggregates xs x v)

pub push-renamings : (xs : List RenamingTree) (x : RenamingTree) (v : List RenamingP) → read_renaming_list xs ++ (read_renaming x ∷ v) ≡ read_renaming_list (xs ++ x ∷ []) ++ v
push-renamings [] x v = refl
push-renamings (y ∷ xs) x v = ap (λ z. read_renaming y ∷ z) (push-renamings xs x v)

pub first-InHeading : (ts : List Piece) (stack : List Symbol) (k : Go (InHeading ∷ stack)) (s : StatementP) → first ts ≡ t.Name → read ts (InHeading ∷ stack) k ≡ Some s → read ts (TheAttribute ∷ MoreAttributes ∷ Just t.CloseBrace ∷ stack) (λ v. k (v.0 ∷ v.1.0, v.1.1.1)) ≡ Some s
first-InHeading [] stack k s is h = differs h
first-InHeading (o ∷ ts) stack k s is h = let g : read_at t.Name (first ts) o.place o.bytes (read ts) (InHeading ∷ stack) k ≡ Some s = sym (ap (λ z. read_at z (first ts) o.place o.bytes (read ts) (InHeading ∷ stack) k) is) ∙ h in ap (λ z. read_at z (first ts) o.place o.bytes (read ts) (TheAttribute ∷ MoreAttributes ∷ Just t.CloseBrace ∷ stack) (λ v. k (v.0 ∷ v.1.0, v.1.1.1))) is ∙ g

pub first-InNames : (ts : List Piece) (stack : List Symbol) (k : Go (InNames ∷ stack)) (s : StatementP) → first ts ≡ t.Name → read ts (InNames ∷ stack) k ≡ Some s → read ts (TheName ∷ MoreNames ∷ Just t.CloseBrace ∷ stack) (λ v. k (v.0 ∷ v.1.0, v.1.1.1)) ≡ Some s
first-InNames [] stack k s is h = differs h
first-InNames (o ∷ ts) stack k s is h = let g : read_at t.Name (first ts) o.place o.bytes (read ts) (InNames ∷ stack) k ≡ Some s = sym (ap (λ z. read_at z (first ts) o.place o.bytes (read ts) (InNames ∷ stack) k) is) ∙ h in ap (λ z. read_at z (first ts) o.place o.bytes (read ts) (TheName ∷ MoreNames ∷ Just t.CloseBrace ∷ stack) (λ v. k (v.0 ∷ v.1.0, v.1.1.1))) is ∙ g

pub first-InList : (ts : List Piece) (stack : List Symbol) (k : Go (InList ∷ stack)) (s : StatementP) → first ts ≡ t.Name → read ts (InList ∷ stack) k ≡ Some s → read ts (TheName ∷ MoreNames ∷ Just t.Close ∷ stack) (λ v. k (v.0 ∷ v.1.0, v.1.1.1)) ≡ Some s
first-InList [] stack k s is h = differs h
first-InList (o ∷ ts) stack k s is h = let g : read_at t.Name (first ts) o.place o.bytes (read ts) (InList ∷ stack) k ≡ Some s = sym (ap (λ z. read_at z (first ts) o.place o.bytes (read ts) (InList ∷ stack) k) is) ∙ h in ap (λ z. read_at z (first ts) o.place o.bytes (read ts) (TheName ∷ MoreNames ∷ Just t.Close ∷ stack) (λ v. k (v.0 ∷ v.1.0, v.1.1.1))) is ∙ g

pub first-InElements : (ts : List Piece) (stack : List Symbol) (k : Go (InElements ∷ stack)) (s : StatementP) → first ts ≡ t.Name → read ts (InElements ∷ stack) k ≡ Some s → read ts (TheElement ∷ MoreElements ∷ Just t.CloseBrace ∷ stack) (λ v. k (v.0 ∷ v.1.0, v.1.1.1)) ≡ Some s
first-InElements [] stack k s is h = differs h
first-InElements (o ∷ ts) stack k s is h = let g : read_at t.Name (first ts) o.place o.bytes (read ts) (InElements ∷ stack) k ≡ Some s = sym (ap (λ z. read_at z (first ts) o.place o.bytes (read ts) (InElements ∷ stack) k) is) ∙ h in ap (λ z. read_at z (first ts) o.place o.bytes (read ts) (TheElement ∷ MoreElements ∷ Just t.CloseBrace ∷ stack) (λ v. k (v.0 ∷ v.1.0, v.1.1.1))) is ∙ g

pub first-InTuples : (ts : List Piece) (stack : List Symbol) (k : Go (InTuples ∷ stack)) (s : StatementP) → first ts ≡ t.Tuple → read ts (InTuples ∷ stack) k ≡ Some s → read ts (TheTuple ∷ MoreTuples ∷ Just t.CloseBrace ∷ stack) (λ v. k (v.0 ∷ v.1.0, v.1.1.1)) ≡ Some s
first-InTuples [] stack k s is h = differs h
first-InTuples (o ∷ ts) stack k s is h = let g : read_at t.Tuple (first ts) o.place o.bytes (read ts) (InTuples ∷ stack) k ≡ Some s = sym (ap (λ z. read_at z (first ts) o.place o.bytes (read ts) (InTuples ∷ stack) k) is) ∙ h in ap (λ z. read_at z (first ts) o.place o.bytes (read ts) (TheTuple ∷ MoreTuples ∷ Just t.CloseBrace ∷ stack) (λ v. k (v.0 ∷ v.1.0, v.1.1.1))) is ∙ g

is-aggregate_of : (x n : Terminal) (p : Place) (b : List ℕ) (next : (st : List Symbol) → Go st → Option StatementP) (stack : List Symbol) (k : Go (TheAggregateForm ∷ stack)) (s : StatementP) → (x ≡ t.Count → ⊥) → read_at x n p b next (TheAggregateForm ∷ stack) k ≡ Some s → next (InParens ∷ stack) (λ v. k (AggregateOf p (aggregate_word_at x) v.0, v.1)) ≡ Some s
is-aggregate_of t.Count n p b next stack k s n0 h = absurd (n0 refl)
is-aggregate_of t.Sum n p b next stack k s n0 h = h
is-aggregate_of t.Min n p b next stack k s n0 h = h
is-aggregate_of t.Max n p b next stack k s n0 h = h
is-aggregate_of _ n p b next stack k s n0 h = differs h

pub aggregate-of : (w : AggregateWord) (p : Place) (old new : List Piece) (stack : List Symbol) (k : Go (TheAggregateForm ∷ stack)) (s : StatementP) → w ≡ aggregate_word_at (first old) → (first old ≡ t.Count → ⊥) → p ≡ place_of old → new ≡ behind old → read old (TheAggregateForm ∷ stack) k ≡ Some s → read new (InParens ∷ stack) (λ v. k (AggregateOf p w v.0, v.1)) ≡ Some s
aggregate-of w p [] new stack k s e n0 hp hn h = differs h
aggregate-of w p (o ∷ ts) new stack k s e n0 hp hn h = ap (λ z. read new (InParens ∷ stack) (λ v. k (AggregateOf p z v.0, v.1))) e ∙ ap (λ z. read new (InParens ∷ stack) (λ v. k (AggregateOf z (aggregate_word_at o.terminal) v.0, v.1))) hp ∙ ap (λ z. read z (InParens ∷ stack) (λ v. k (AggregateOf o.place (aggregate_word_at o.terminal) v.0, v.1))) hn ∙ is-aggregate_of o.terminal (first ts) o.place o.bytes (read ts) stack k s n0 h

headed-at : (n : Terminal) (p : Place) (b : List ℕ) (next : (st : List Symbol) → Go st → Option StatementP) (stack : List Symbol) (k : Go (AfterRelation ∷ stack)) (s : StatementP) → (n ≡ t.Tuple → ⊥) → read_at t.OpenBrace n p b next (AfterRelation ∷ stack) k ≡ Some s → read_at t.OpenBrace n p b next (TheHeading ∷ TheTuples ∷ stack) (λ v. k ((λ q. Headed q v.0 v.1.0), v.1.1)) ≡ Some s
headed-at t.Tuple p b next stack k s n0 h = absurd (n0 refl)
headed-at _ p b next stack k s n0 h = h

pub headed : (old new : List Piece) (stack : List Symbol) (k : Go (AfterRelation ∷ stack)) (s : StatementP) → (first new ≡ t.Tuple → ⊥) → new ≡ behind old → read old (AfterRelation ∷ stack) k ≡ Some s → read old (TheHeading ∷ TheTuples ∷ stack) (λ v. k ((λ q. Headed q v.0 v.1.0), v.1.1)) ≡ Some s
headed [] new stack k s n0 hn h = differs h
headed (o ∷ ts) new stack k s n0 hn h = let is = is-AfterRelation o.terminal (first ts) o.place o.bytes (read ts) stack k s h in ap (λ z. read_at z (first ts) o.place o.bytes (read ts) (TheHeading ∷ TheTuples ∷ stack) (λ v. k ((λ q. Headed q v.0 v.1.0), v.1.1))) is ∙ headed-at (first ts) o.place o.bytes (read ts) stack k s (λ e. n0 (ap first hn ∙ e)) (sym (ap (λ z. read_at z (first ts) o.place o.bytes (read ts) (AfterRelation ∷ stack) k) is) ∙ h)

is-onto : (x n : Terminal) (p : Place) (b : List ℕ) (next : (st : List Symbol) → Go st → Option StatementP) (stack : List Symbol) (k : Go (InProjection ∷ stack)) (s : StatementP) → (x ≡ t.All → ⊥) → read_at x n p b next (InProjection ∷ stack) k ≡ Some s → read_at x n p b next (InNames ∷ stack) (λ v. k ((λ q. Onto q v.0), v.1)) ≡ Some s
is-onto t.All n p b next stack k s n0 h = absurd (n0 refl)
is-onto t.Name n p b next stack k s n0 h = h
is-onto t.CloseBrace n p b next stack k s n0 h = h
is-onto _ n p b next stack k s n0 h = differs h

pub onto : (ts : List Piece) (stack : List Symbol) (k : Go (InProjection ∷ stack)) (s : StatementP) → (first ts ≡ t.All → ⊥) → read ts (InProjection ∷ stack) k ≡ Some s → read ts (InNames ∷ stack) (λ v. k ((λ q. Onto q v.0), v.1)) ≡ Some s
onto [] stack k s n0 h = differs h
onto (o ∷ ts) stack k s n0 h = is-onto o.terminal (first ts) o.place o.bytes (read ts) stack k s n0 h
