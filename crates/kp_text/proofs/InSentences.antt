-- What may come next in names, sentences and modules.
use Rattle.std.proofs.Common.{◌≡◌, ℕ, true, false, bytes_eq, List, ◌∷◌, [], ◌++◌, refl, ◌∙◌, Some, None}
use Rattle.kp_kore.specs.Syntax.{Text, KoreSentence}
use Rattle.kp_text.specs.Tokens.{KoreToken, identifier, mark, lexeme, lexed, between}
use Rattle.kp_text.specs.Next.{Place, goes, refused, by_mark, by_name, by_sentence, a_name, a_word, names, more_names, sentences, faulty}
use Rattle.kp_text.specs.Reads.{run_text, IsSeparated}
use Rattle.kp_text.specs.Sentences.{sentence_step, word_place}
use Rattle.kp_text.specs.declared.tail.Tail.{Tail}
use Rattle.kp_text.specs.declared.sentences.SentenceWord.{SentenceWord}
use Rattle.kp_text.specs.declared.fault.FaultKind.TheVariants as kind
use Rattle.kp_text.proofs.Characters.{unequal}
use Rattle.kp_text.proofs.Marks.{other_step}

pub names_are_none : (tail : Tail) (text rest : List ℕ) (left : ℕ) (k : List Text → Place) → lexed tail text between ≡ lexeme left (mark 125) (lexed tail rest between) → run_text tail text (names k) ≡ run_text tail rest (k [])
names_are_none tail text rest left k h = rw h refl

pub names_begin : (tail : Tail) (text rest : List ℕ) (left : ℕ) (x : Text) (k : List Text → Place) → lexed tail text between ≡ lexeme left (identifier x) (lexed tail rest between) → run_text tail text (names k) ≡ run_text tail rest (more_names (x ∷ []) k)
names_begin tail text rest left x k h = rw h refl

pub names_refused : (tail : Tail) (text rest : List ℕ) (left c : ℕ) (k : List Text → Place) → lexed tail text between ≡ lexeme left (mark c) (lexed tail rest between) → (c ≡ 125 → ⊥) → run_text tail text (names k) ≡ faulty left kind.Token
names_refused tail text rest left c k h other = rw (h, unequal c 125 other) refl

pub names_close : (tail : Tail) (text rest : List ℕ) (left : ℕ) (xs : List Text) (k : List Text → Place) → lexed tail text between ≡ lexeme left (mark 125) (lexed tail rest between) → run_text tail text (more_names xs k) ≡ run_text tail rest (k xs)
names_close tail text rest left xs k h = rw h refl

pub names_go_on : (tail : Tail) (text rest : List ℕ) (left : ℕ) (xs : List Text) (k : List Text → Place) → lexed tail text between ≡ lexeme left (mark 44) (lexed tail rest between) → run_text tail text (more_names xs k) ≡ run_text tail rest (a_name (λ x. more_names (xs ++ x ∷ []) k))
names_go_on tail text rest left xs k h = rw h refl

pub names_separated : (xs : List Text) (k : List Text → Place) → IsSeparated 125 (more_names xs k)
names_separated xs k = record {
  ends = refl;
  others = λ t h j. other_step 125 t (goes 0 (k xs)) (by_mark 44 t (goes 0 (a_name (λ x. more_names (xs ++ x ∷ []) k))) refused) h ∙ other_step 44 t (goes 0 (a_name (λ x. more_names (xs ++ x ∷ []) k))) refused j;
}

-- sentences, by their word
pub sentence_begins : (tail : Tail) (text rest : List ℕ) (left : ℕ) (t : KoreToken) (w : SentenceWord) (so_far : List KoreSentence) (k : List KoreSentence → Place) → lexed tail text between ≡ lexeme left t (lexed tail rest between) → ((so_far : List KoreSentence) (k : List KoreSentence → Place) → by_name t (by_sentence so_far k) ≡ sentence_step so_far k (Some w)) → run_text tail text (sentences so_far k) ≡ run_text tail rest (word_place so_far k w)
sentence_begins tail text rest left t w so_far k is begin = rw (is, begin so_far k) refl

pub sentence_refused : (tail : Tail) (text rest : List ℕ) (left : ℕ) (t : KoreToken) (so_far : List KoreSentence) (k : List KoreSentence → Place) → lexed tail text between ≡ lexeme left t (lexed tail rest between) → ((so_far : List KoreSentence) (k : List KoreSentence → Place) → by_name t (by_sentence so_far k) ≡ sentence_step so_far k None) → run_text tail text (sentences so_far k) ≡ faulty left kind.Token
sentence_refused tail text rest left t so_far k is begin = rw (is, begin so_far k) refl

-- a word
pub word_leads : (tail : Tail) (text rest : List ℕ) (left : ℕ) (x w : Text) (g : Place) → lexed tail text between ≡ lexeme left (identifier x) (lexed tail rest between) → bytes_eq x w ≡ true → run_text tail text (a_word w g) ≡ run_text tail rest g
word_leads tail text rest left x w g is h = rw (is, h) refl

pub word_refused : (tail : Tail) (text rest : List ℕ) (left : ℕ) (x w : Text) (g : Place) → lexed tail text between ≡ lexeme left (identifier x) (lexed tail rest between) → bytes_eq x w ≡ false → run_text tail text (a_word w g) ≡ faulty left kind.Token
word_refused tail text rest left x w g is h = rw (is, h) refl
