-- Imports among sentences, one sentence further.
use Rattle.std.proofs.Common.{◌≡◌, refl, sym, ap, ◌∙◌, ℕ, suc, ◌<◌, ◌≤◌, ◌+◌, List, [], ◌∷◌, ◌++◌, length, map, take, get_or, String, Global, arith}
use Rattle.std.specs.List.{AllByRecursion}
use Rattle.std.proofs.Math.Seq.{take-suc}
use Rattle.std.proofs.lemmas.List.{append-nil, append_assoc, map-append, take_all}
use Rattle.indexmap.specs.IndexMap.{IndexMap}
use Rattle.kp_kore.specs.Syntax.{Text, KoreSentence, import_sentence, sort_sentence, symbol_sentence, alias_sentence, axiom_sentence, claim_sentence}
use Rattle.kp_kore.specs.View.{sentence_view}
use Rattle.kp_kore.specs.declared.sentence.Sentence.{Sentence}
use Rattle.kp_kore.specs.Theory.{imports_in}
use Rattle.kp_imports.specs.Walks.{import_names, IsNameDone, ArePassed}
use Rattle.kp_imports.specs.declared.imports.Mark.{Mark}
use Rattle.kp_imports.proofs.Collect.{all_append}

pub imports_in-append : (ss ts : List KoreSentence) → imports_in (ss ++ ts) ≡ imports_in ss ++ imports_in ts
imports_in-append [] ts = refl
imports_in-append (import_sentence n a ∷ ss) ts = ap (λ l. n ∷ l) (imports_in-append ss ts)
imports_in-append (sort_sentence d ∷ ss) ts = imports_in-append ss ts
imports_in-append (symbol_sentence d ∷ ss) ts = imports_in-append ss ts
imports_in-append (alias_sentence d ∷ ss) ts = imports_in-append ss ts
imports_in-append (axiom_sentence a ∷ ss) ts = imports_in-append ss ts
imports_in-append (claim_sentence a ∷ ss) ts = imports_in-append ss ts

-- the imports up to the next sentence
pub one_further : (ss : List Sentence) (i : ℕ) (s : Sentence) (own : List Text) → i < length ss → s ≡ get_or ss i s → imports_in (sentence_view s ∷ []) ≡ own →
    import_names (take (i + 1) ss) ≡ import_names (take i ss) ++ own
one_further ss i s own h e is =
    let more : i + 1 ≡ suc i = omega arith in
    ap (λ k. import_names (take k ss)) more
    ∙ ap import_names (take-suc ss i s h)
    ∙ ap imports_in (map-append sentence_view (take i ss) (get_or ss i s ∷ []))
    ∙ imports_in-append (map sentence_view (take i ss)) (sentence_view (get_or ss i s) ∷ [])
    ∙ ap (λ t. import_names (take i ss) ++ imports_in (sentence_view t ∷ [])) (sym e)
    ∙ ap (λ l. import_names (take i ss) ++ l) is

pub none_passed : {S : Type 0} (places : IndexMap (String Global) ℕ S) (marks : List Mark) (before : List Text) → ArePassed places marks before before
none_passed places marks before = record { names = []; are = sym (append-nil before); all_done = tt }

pub more_passed : {S : Type 0} (places : IndexMap (String Global) ℕ S) (marks : List Mark) (before after own then : List Text) → ArePassed places marks before after → then ≡ after ++ own → AllByRecursion (IsNameDone places marks) own → ArePassed places marks before then
more_passed places marks before after own then h e all = record {
  names = h.names ++ own;
  are = e ∙ ap (λ l. l ++ own) h.are ∙ append_assoc before h.names own;
  all_done = all_append (IsNameDone places marks) h.names own h.all_done all;
}

pub nothing_passed : {S : Type 0} (places : IndexMap (String Global) ℕ S) (marks : List Mark) (before after then : List Text) → ArePassed places marks before after → then ≡ after ++ [] → ArePassed places marks before then
nothing_passed places marks before after then h e = record { names = h.names; are = e ∙ append-nil after ∙ h.are; all_done = h.all_done }

pub all_taken : (ss : List Sentence) (i : ℕ) → length ss ≤ i → import_names (take i ss) ≡ import_names ss
all_taken ss i h = ap import_names (take_all i ss h)

-- one sentence more, which imports what another does
pub import_added : (ss after : List Sentence) (t : Sentence) (s : KoreSentence) (own : List Text) → after ≡ ss ++ t ∷ [] → imports_in (sentence_view t ∷ []) ≡ own → imports_in (s ∷ []) ≡ own →
    imports_in (map sentence_view after) ≡ imports_in (map sentence_view ss) ++ imports_in (s ∷ [])
import_added ss after t s own e here there =
    ap (λ l. imports_in (map sentence_view l)) e
    ∙ ap imports_in (map-append sentence_view ss (t ∷ []))
    ∙ imports_in-append (map sentence_view ss) (sentence_view t ∷ [])
    ∙ ap (λ l. imports_in (map sentence_view ss) ++ l) (here ∙ sym there)
