-- What \and and \or mean, by how many members they have.
use Rattle.std.proofs.Common.{◌≡◌, ◌≤◌, List, ◌∷◌, [], map, length, refl, arith}
use Rattle.kp_kore.specs.Syntax.{KoreSort, KorePattern, top, bottom, conjunction, disjunction}
use Rattle.kp_kore.specs.View.{patterns_of}
use Rattle.kp_text.specs.Grammar.{variadic_meaning}
use Rattle.kp_text.specs.declared.keyword.Variadic.{Variadic}
use Rattle.kp_text.specs.declared.keyword.Variadic.TheVariants.{And, Or}

abbrev pub of_many_meaning : Variadic → KoreSort → List KorePattern → KorePattern
of_many_meaning And s ps = conjunction s (patterns_of ps)
of_many_meaning Or s ps = disjunction s (patterns_of ps)

abbrev pub of_none_meaning : Variadic → KoreSort → KorePattern
of_none_meaning And s = top s
of_none_meaning Or s = bottom s

pub of_many : {A : Type 0} (v : Variadic) (s : KoreSort) (f : A → KorePattern) (xs : List A) → 2 ≤ length xs → variadic_meaning v s (map f xs) ≡ of_many_meaning v s (map f xs)
of_many v s f [] h = absurd (omega arith)
of_many v s f (x ∷ []) h = absurd (omega arith)
of_many And s f (x ∷ (y ∷ xs)) h = refl
of_many Or s f (x ∷ (y ∷ xs)) h = refl

pub none_or : {A : Type 0} (v : Variadic) (s : KoreSort) (f : A → KorePattern) (xs : List A) → length xs ≡ 0 → variadic_meaning v s (map f xs) ≡ of_none_meaning v s
none_or And s f [] h = refl
none_or Or s f [] h = refl
none_or v s f (x ∷ xs) h = absurd (omega arith)

pub one_only : {A : Type 0} (v : Variadic) (s : KoreSort) (f : A → KorePattern) (x : A) → variadic_meaning v s (map f (x ∷ [])) ≡ f x
one_only And s f x = refl
one_only Or s f x = refl
