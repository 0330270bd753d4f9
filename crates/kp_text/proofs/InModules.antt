-- What may come next in modules, the end, and what is told of it.
use Rattle.std.proofs.Common.{◌≡◌, ℕ, false, bytes_eq, codes, List, ◌∷◌, [], ◌++◌, refl, Some}
use Rattle.std.specs.Borrow.{Bor}
use Rattle.kp_kore.specs.Syntax.{Text, KoreModule}
use Rattle.kp_text.specs.Tokens.{identifier, finished, lexeme, lexed, lexemes, utf8_front, utf8_tail, between}
use Rattle.kp_text.specs.Next.{Place, Answer, run, answered, done, after_module, more_modules, faulty}
use Rattle.kp_text.specs.Reads.{run_text}
use Rattle.kp_text.specs.Starts.{IsModuleAhead}
use Rattle.kp_text.specs.declared.tail.Tail.{Tail}
use Rattle.kp_text.specs.declared.fault.FaultKind.TheVariants as kind

pub modules_go_on : (tail : Tail) (text : List ℕ) (rest : Bor (List ℕ)) (ms : List KoreModule) (answer : List KoreModule → Answer) → IsModuleAhead tail text (Some rest) → run_text tail text (more_modules ms answer) ≡ run_text tail rest.now (after_module (λ m. more_modules (ms ++ m ∷ []) answer))
modules_go_on tail text rest ms answer h = rw (h.0.2, h.0.3) refl

pub modules_end : (tail : Tail) (text : List ℕ) (ms : List KoreModule) (answer : List KoreModule → Answer) → lexed tail text between ≡ finished → run_text tail text (more_modules ms answer) ≡ answered (answer ms)
modules_end tail text ms answer h = rw h refl

pub modules_refused : (tail : Tail) (text rest : List ℕ) (left : ℕ) (x : Text) (ms : List KoreModule) (answer : List KoreModule → Answer) → lexed tail text between ≡ lexeme left (identifier x) (lexed tail rest between) → bytes_eq x (codes "module") ≡ false → run_text tail text (more_modules ms answer) ≡ faulty left kind.Token
modules_refused tail text rest left x ms answer is h = rw (is, h) refl

pub end_answers : (tail : Tail) (text : List ℕ) (a : Answer) → lexed tail text between ≡ finished → run_text tail text (done a) ≡ answered a
end_answers tail text a h = rw h refl

pub same_run : (bytes text : List ℕ) (tail : Tail) (g : Place) → text ≡ utf8_front bytes → tail ≡ utf8_tail bytes → run (lexemes bytes) g ≡ run_text tail text g
same_run bytes text tail g is e = rw (is, e) refl
