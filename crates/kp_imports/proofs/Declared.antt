-- Names that sentences declare, one sentence or one module further.
use Rattle.std.proofs.Common.{◌≡◌, sym, ap, ◌∙◌, ℕ, suc, ◌<◌, ◌+◌, List, [], ◌∷◌, ◌++◌, length, map, take, get_or, Bor, String, Global, string_bytes, arith}
use Rattle.std.proofs.Math.Seq.{take-suc}
use Rattle.std.proofs.lemmas.List.{append-nil, append_assoc, map-append}
use Rattle.std.proofs.lemmas.Grind.{flat_map-append}
use Rattle.kp_kore.specs.Syntax.{Text, KoreSentence}
use Rattle.kp_kore.specs.Signature.{sorts_in, symbols_in}
use Rattle.kp_kore.specs.View.{sentence_view}
use Rattle.kp_kore.specs.declared.sentence.Module.{Module}
use Rattle.kp_kore.specs.declared.sentence.Sentence.{Sentence}
use Rattle.kp_signature.specs.Table.{sort_names, symbol_names}
use Rattle.kp_signature.specs.View.{sentences_of}
use Rattle.kp_signature.proofs.Declaring.{sorts_in-append, symbols_in-append}
use Rattle.kp_imports.specs.Names.{texts_of}

abbrev pub Appends : (List KoreSentence → List Text) → Type 0
Appends f = (ss ts : List KoreSentence) → f (ss ++ ts) ≡ f ss ++ f ts

pub sorts_append : Appends (λ ss. sort_names (sorts_in ss))
sorts_append ss ts = ap sort_names (sorts_in-append ss ts) ∙ map-append (λ d. d.name) (sorts_in ss) (sorts_in ts)

pub symbols_append : Appends (λ ss. symbol_names (symbols_in ss))
symbols_append ss ts = ap symbol_names (symbols_in-append ss ts) ∙ map-append (λ d. d.name) (symbols_in ss) (symbols_in ts)

-- one sentence further
pub next_sentence : (f : List KoreSentence → List Text) → Appends f → (ss : List Sentence) (i : ℕ) (s : Sentence) (own : List Text) → i < length ss → s ≡ get_or ss i s → f (sentence_view s ∷ []) ≡ own →
    (before : List Text) (names new : List Text) → names ≡ before ++ f (map sentence_view (take i ss)) → new ≡ names ++ own → new ≡ before ++ f (map sentence_view (take (i + 1) ss))
next_sentence f law ss i s own h e is before names new was more =
    let step : i + 1 ≡ suc i = omega arith in
    let all : f (map sentence_view (take (i + 1) ss)) ≡ f (map sentence_view (take i ss)) ++ own =
    ap (λ k. f (map sentence_view (take k ss))) step
    ∙ ap (λ l. f (map sentence_view l)) (take-suc ss i s h)
    ∙ ap f (map-append sentence_view (take i ss) (get_or ss i s ∷ []))
    ∙ law (map sentence_view (take i ss)) (sentence_view (get_or ss i s) ∷ [])
    ∙ ap (λ t. f (map sentence_view (take i ss)) ++ f (sentence_view t ∷ [])) (sym e)
    ∙ ap (λ l. f (map sentence_view (take i ss)) ++ l) is in
    more ∙ ap (λ l. l ++ own) was ∙ append_assoc before (f (map sentence_view (take i ss))) own ∙ ap (λ l. before ++ l) (sym all)

-- one module further
pub next_module : (f : List KoreSentence → List Text) → Appends f → (ms : List (Bor Module)) (i : ℕ) (m : Bor Module) → i < length ms → m ≡ get_or ms i m →
    (names new : List Text) (ss : List Sentence) → names ≡ f (sentences_of (take i ms)) → ss ≡ m.now.sentences.items → new ≡ names ++ f (map sentence_view ss) → new ≡ f (sentences_of (take (i + 1) ms))
next_module f law ms i m h e names new ss was is more =
    let step : i + 1 ≡ suc i = omega arith in
    let own : Bor Module → List KoreSentence = λ x. map sentence_view x.now.sentences.items in
    more ∙ ap (λ l. l ++ f (map sentence_view ss)) was
    ∙ ap (λ l. f (sentences_of (take i ms)) ++ f (map sentence_view l)) is
    ∙ ap (λ x. f (sentences_of (take i ms)) ++ f (own x)) e
    ∙ sym (law (sentences_of (take i ms)) (own (get_or ms i m)))
    ∙ ap (λ l. f (sentences_of (take i ms) ++ l)) (sym (append-nil (own (get_or ms i m))))
    ∙ ap f (sym (flat_map-append own (take i ms) (get_or ms i m ∷ [])))
    ∙ ap (λ l. f (sentences_of l)) (sym (take-suc ms i m h))
    ∙ sym (ap (λ k. f (sentences_of (take k ms))) step)

pub texts_push : (names new : List (Bor (String Global))) (n : Bor (String Global)) → new ≡ names ++ n ∷ [] → texts_of new ≡ texts_of names ++ string_bytes n.now ∷ []
texts_push names new n e = ap texts_of e ∙ map-append (λ x. string_bytes x.now) names (n ∷ [])
