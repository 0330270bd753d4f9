-- Tokens that are expected, and others.
use Rattle.std.proofs.Common.{◌≡◌, ℕ, ◌≤◌, true, false, eqb, leb, List, refl, arith}
use Rattle.std.proofs.lemmas.Bool.Decides.{nat_tests}
use Rattle.kp_text.specs.Tokens.{KoreToken, identifier, backslashed, string_token, mark, defined_as, lexeme, lexed, between}
use Rattle.kp_text.specs.Next.{Place, Step, by_mark, faulty}
use Rattle.kp_text.specs.Reads.{run_text, is_that_mark, IsSeparated}
use Rattle.kp_text.specs.declared.tail.Tail.{Tail}
use Rattle.kp_text.specs.declared.fault.FaultKind.TheVariants as kind
use Rattle.kp_text.proofs.Characters.{equal}

pub le_test : (n m : ℕ) → n ≤ m → leb n m ≡ true
le_test n m h = grind (arith, nat_tests)

pub same_mark : (c : ℕ) → eqb c c ≡ true
same_mark c = equal c c refl

-- a token that isn't the mark leaves the other step
pub other_step : (c : ℕ) (t : KoreToken) (s o : Step) → is_that_mark c t ≡ false → by_mark c t s o ≡ o
other_step c (mark d) s o h = rw h refl
other_step c (identifier x) s o h = refl
other_step c (backslashed x) s o h = refl
other_step c (string_token x) s o h = refl
other_step c defined_as s o h = refl

-- a token that a list refuses
pub refuses : (tail : Tail) (text rest : List ℕ) (left close : ℕ) (t : KoreToken) (g : Place) → lexed tail text between ≡ lexeme left t (lexed tail rest between) → is_that_mark close t ≡ false → is_that_mark 44 t ≡ false → IsSeparated close g → run_text tail text g ≡ faulty left kind.Token
refuses tail text rest left close t g is h j list = rw (is, list.others t h j) refl
