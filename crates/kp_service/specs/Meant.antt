-- What is served to a request: the theory of the module that it names, at a book.
-- Source: the K Haskell backend's JSON-RPC documentation (the module of a request, add-module).
use Rattle.std.specs.Prelude.{◌≡◌, List, [], ◌∷◌, Option, Some, None}
use Rattle.kp_kore.specs.Syntax.{Text}
use Rattle.kp_kore.specs.Theory.{NumberedAxiom, IsTheoryOfAxioms}
use Rattle.kp_book.specs.Books.{Opening, Registration, meaning_in}
use Rattle.kp_methods.specs.ServedTheory.{ServedTheory}

-- the module that a request names, main where it names none
abbrev pub module_asked : Opening → Option Text → Text
module_asked o None = o.main
module_asked o (Some name) = name

-- the request names a module that nothing binds
abbrev pub IsUnbound : Opening → List Registration → Option Text → Text → Type 0
IsUnbound o book asked name = (asked ≡ Some name) × (meaning_in o book name ≡ None)

-- what is served where this module is asked: the theory of the axioms that its name means at the book
pub record IsServedAt (o : Opening) (book : List Registration) (asked : Option Text) (s : ServedTheory) : Type 0 where
  pub axioms : List NumberedAxiom
  pub bound : meaning_in o book (module_asked o asked) ≡ Some axioms
  pub means : IsTheoryOfAxioms o.signature axioms s.theory
  pub main_is : s.main ≡ module_asked o asked
  pub names_are : s.names ≡ module_asked o asked ∷ []
