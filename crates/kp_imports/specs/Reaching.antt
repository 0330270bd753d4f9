-- Names in the order in which a walk leaves them.
use Rattle.std.specs.Prelude.{◌≡◌, ℕ, ◌≤◌, Bool, true, if◌then◌else◌, List, [], ◌∷◌, ◌++◌, length}
use Rattle.std.specs.List.{AllByRecursion, list_any}
use Rattle.std.specs.Str.{bytes_eq}
use Rattle.kp_kore.specs.Syntax.{Text, KoreModule}
use Rattle.kp_kore.specs.Theory.{imports_in, sentences_of, module_named, names_reached}

abbrev pub has : Text → List Text → Bool
has n names = list_any (bytes_eq n) names

-- the names behind others, each where it stands first
abbrev pub collect : List Text → List Text → List Text
collect done [] = done
collect done (x ∷ xs) = if has x done then collect done xs else collect (done ++ x ∷ []) xs

-- what a module of this name imports
abbrev pub imports_of : List KoreModule → Text → List Text
imports_of ms n = imports_in (sentences_of (module_named ms n))

abbrev pub AllIn : List Text → List Text → Type 0
AllIn done names = AllByRecursion (λ n. has n done ≡ true) names

-- the imports of each name are among the names
abbrev pub IsClosed : List KoreModule → List Text → Type 0
IsClosed ms done = (n : Text) → has n done ≡ true → AllIn done (imports_of ms n)

-- no chain of imports from one of the names is longer than they are many
abbrev pub IsSettled : List KoreModule → List Text → Type 0
IsSettled ms done = (n : Text) → has n done ≡ true → (k : ℕ) → length done ≤ k → names_reached k ms n ≡ names_reached (length done) ms n
