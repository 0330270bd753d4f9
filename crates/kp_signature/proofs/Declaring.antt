-- What the sentences declare, once one more stands after the others.
use Rattle.std.proofs.Common.{◌≡◌, refl, sym, ap, subst, ◌∙◌, ℕ, List, [], ◌∷◌, ◌++◌, map, length, String, Global}
use Rattle.std.proofs.lemmas.List.{append_assoc, append-nil, map-append, length-map}
use Rattle.kp_kore.specs.Syntax.{Text, KoreSentence, import_sentence, sort_sentence, symbol_sentence, alias_sentence, axiom_sentence, claim_sentence}
use Rattle.indexmap.specs.IndexMap.{IndexMap}
use Rattle.kp_signature.specs.Names.{Indexes}
use Rattle.kp_signature.specs.Table.{IsTableOf}
use Rattle.kp_signature.specs.Pairs.{subsort_view}
use Rattle.kp_signature.specs.declared.table.DeclarationTable.{DeclarationTable}
use Rattle.kp_kore.specs.View.{sort_sentence_view, symbol_sentence_view, alias_sentence_view}
use Rattle.kp_kore.specs.Signature.{sorts_in, symbols_in, aliases_in, subsorts_in, subsorts_among}

pub sorts_in-append : (ss ts : List KoreSentence) → sorts_in (ss ++ ts) ≡ sorts_in ss ++ sorts_in ts
sorts_in-append [] ts = refl
sorts_in-append (import_sentence n a ∷ ss) ts = sorts_in-append ss ts
sorts_in-append (sort_sentence d ∷ ss) ts = ap (λ l. d ∷ l) (sorts_in-append ss ts)
sorts_in-append (symbol_sentence d ∷ ss) ts = sorts_in-append ss ts
sorts_in-append (alias_sentence d ∷ ss) ts = sorts_in-append ss ts
sorts_in-append (axiom_sentence a ∷ ss) ts = sorts_in-append ss ts
sorts_in-append (claim_sentence a ∷ ss) ts = sorts_in-append ss ts

pub symbols_in-append : (ss ts : List KoreSentence) → symbols_in (ss ++ ts) ≡ symbols_in ss ++ symbols_in ts
symbols_in-append [] ts = refl
symbols_in-append (import_sentence n a ∷ ss) ts = symbols_in-append ss ts
symbols_in-append (sort_sentence d ∷ ss) ts = symbols_in-append ss ts
symbols_in-append (symbol_sentence d ∷ ss) ts = ap (λ l. d ∷ l) (symbols_in-append ss ts)
symbols_in-append (alias_sentence d ∷ ss) ts = symbols_in-append ss ts
symbols_in-append (axiom_sentence a ∷ ss) ts = symbols_in-append ss ts
symbols_in-append (claim_sentence a ∷ ss) ts = symbols_in-append ss ts

pub aliases_in-append : (ss ts : List KoreSentence) → aliases_in (ss ++ ts) ≡ aliases_in ss ++ aliases_in ts
aliases_in-append [] ts = refl
aliases_in-append (import_sentence n a ∷ ss) ts = aliases_in-append ss ts
aliases_in-append (sort_sentence d ∷ ss) ts = aliases_in-append ss ts
aliases_in-append (symbol_sentence d ∷ ss) ts = aliases_in-append ss ts
aliases_in-append (alias_sentence d ∷ ss) ts = ap (λ l. d ∷ l) (aliases_in-append ss ts)
aliases_in-append (axiom_sentence a ∷ ss) ts = aliases_in-append ss ts
aliases_in-append (claim_sentence a ∷ ss) ts = aliases_in-append ss ts

pub subsorts_in-append : (ss ts : List KoreSentence) → subsorts_in (ss ++ ts) ≡ subsorts_in ss ++ subsorts_in ts
subsorts_in-append [] ts = refl
subsorts_in-append (import_sentence n a ∷ ss) ts = subsorts_in-append ss ts
subsorts_in-append (sort_sentence d ∷ ss) ts = subsorts_in-append ss ts
subsorts_in-append (symbol_sentence d ∷ ss) ts = subsorts_in-append ss ts
subsorts_in-append (alias_sentence d ∷ ss) ts = subsorts_in-append ss ts
subsorts_in-append (axiom_sentence a ∷ ss) ts = ap (λ l. subsorts_among a.attributes ++ l) (subsorts_in-append ss ts) ∙ sym (append_assoc (subsorts_among a.attributes) (subsorts_in ss) (subsorts_in ts))
subsorts_in-append (claim_sentence a ∷ ss) ts = subsorts_in-append ss ts

-- a list that no more was pushed to
pub kept : {A B : Type 0} (f : A → B) (items : List A) (old all : List B) → map f items ≡ old → all ≡ old ++ [] → map f items ≡ all
kept f items old all e h = e ∙ sym (h ∙ append-nil old)

pub kept_places : {B S : Type 0} (name : B → Text) (places : IndexMap (String Global) ℕ S) (old all : List B) → Indexes (map name old) places → all ≡ old ++ [] → Indexes (map name all) places
kept_places name places old all i h = subst (λ l. Indexes (map name l) places) (sym (h ∙ append-nil old)) i

-- and one that one more was pushed to
pub pushed : {A B : Type 0} (f : A → B) (items new : List A) (x : A) (old all : List B) (y : B) → map f items ≡ old → new ≡ items ++ x ∷ [] → f x ≡ y → all ≡ old ++ y ∷ [] → map f new ≡ all
pushed f items new x old all y e is same h = ap (map f) is ∙ map-append f items (x ∷ []) ∙ ap (λ l. l ++ f x ∷ []) e ∙ ap (λ z. old ++ z ∷ []) same ∙ sym h

pub pushed_places : {A B S : Type 0} (f : A → B) (items : List A) (name : B → Text) (before after : IndexMap (String Global) ℕ S) (old all : List B) (y : B) (place : ℕ) →
    ((names : List Text) → Indexes names before → place ≡ length names → Indexes (names ++ name y ∷ []) after) →
    Indexes (map name old) before → place ≡ length items → map f items ≡ old → all ≡ old ++ y ∷ [] → Indexes (map name all) after
pushed_places f items name before after old all y place step i e m h =
    subst (λ l. Indexes l after) (sym (ap (map name) h ∙ map-append name old (y ∷ [])))
    (step (map name old) i (e ∙ sym (length-map items f) ∙ ap length m ∙ sym (length-map old name)))

-- a sentence that declares nothing
pub nothing_more : (t : DeclarationTable) (ss : List KoreSentence) (s : KoreSentence) → sorts_in (s ∷ []) ≡ [] → symbols_in (s ∷ []) ≡ [] → aliases_in (s ∷ []) ≡ [] → subsorts_in (s ∷ []) ≡ [] →
    IsTableOf t ss → IsTableOf t (ss ++ s ∷ [])
nothing_more t ss s a b c d is = record {
  sorts = kept sort_sentence_view t.sorts.items (sorts_in ss) (sorts_in (ss ++ s ∷ [])) is.sorts (sorts_in-append ss (s ∷ []) ∙ ap (λ l. sorts_in ss ++ l) a);
  symbols = kept symbol_sentence_view t.symbols.items (symbols_in ss) (symbols_in (ss ++ s ∷ [])) is.symbols (symbols_in-append ss (s ∷ []) ∙ ap (λ l. symbols_in ss ++ l) b);
  aliases = kept alias_sentence_view t.aliases.items (aliases_in ss) (aliases_in (ss ++ s ∷ [])) is.aliases (aliases_in-append ss (s ∷ []) ∙ ap (λ l. aliases_in ss ++ l) c);
  subsorts = kept subsort_view t.subsorts.items (subsorts_in ss) (subsorts_in (ss ++ s ∷ [])) is.subsorts (subsorts_in-append ss (s ∷ []) ∙ ap (λ l. subsorts_in ss ++ l) d);
  sort_places = kept_places (λ d. d.name) t.sort_places (sorts_in ss) (sorts_in (ss ++ s ∷ [])) is.sort_places (sorts_in-append ss (s ∷ []) ∙ ap (λ l. sorts_in ss ++ l) a);
  symbol_places = kept_places (λ d. d.name) t.symbol_places (symbols_in ss) (symbols_in (ss ++ s ∷ [])) is.symbol_places (symbols_in-append ss (s ∷ []) ∙ ap (λ l. symbols_in ss ++ l) b);
  alias_places = kept_places (λ d. d.name) t.alias_places (aliases_in ss) (aliases_in (ss ++ s ∷ [])) is.alias_places (aliases_in-append ss (s ∷ []) ∙ ap (λ l. aliases_in ss ++ l) c);
}
