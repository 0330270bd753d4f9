-- Where a pattern stands, what is written at its node, and which sorts are known and below which.
-- Source: the K framework's Kore language (sorts, symbols with sort parameters, binders that bind by name).
use Rattle.std.specs.Prelude.{ℕ, ◌+◌, Bool, false, List, [], ◌∷◌, ◌++◌, length, Option, Some, None, if◌then◌else◌, ◌==◌, codes}
use Rattle.std.specs.Str.{bytes_eq}
use Rattle.kp_kore.specs.Syntax.{Text, KoreSort, sort_of, sort_variable, KoreSorts, no_sorts, next_sort, KorePattern, variable, set_variable, application, string_literal, literal, top, bottom, negation, next, conjunction, disjunction, implication, equivalence, rewriting, exists, forall, ceil, floor, equals, membership, mu, nu, SymbolDeclaration, SortDeclaration, AliasDeclaration}
use Rattle.kp_kore.specs.Parts.{SortedName, sort_list, free_variables}
use Rattle.kp_kore.specs.Signature.{KoreSignature, sort_declared, symbol_declared, alias_declared}
use Rattle.kp_kore.specs.Sorting.{result_sort, all_at_arguments}

-- ---- sorts

-- the first that is there
abbrev pub earlier : {A : Type 0} → Option A → Option A → Option A
earlier (Some a) later = Some a
earlier None later = later

-- whether a sort's name is declared, with as many parameters as it has arguments
abbrev pub is_known : KoreSignature → Text → KoreSorts → Bool
is_known g n ss = takes_as_many (sort_declared g (sort_of n ss))
  where
    takes_as_many : Option SortDeclaration → Bool
    takes_as_many (Some d) = length d.parameters == length (sort_list ss)
    takes_as_many None = false

-- the first sort that isn't known, from the outermost: the sort, else one among its arguments; no sort variable is known
abbrev mutual
  pub unknown_sort_in : KoreSignature → KoreSort → Option KoreSort
  unknown_sort_in g (sort_of n ss) = if is_known g n ss then unknown_sort_among g ss else Some (sort_of n ss)
  unknown_sort_in g (sort_variable n) = Some (sort_variable n)

  pub unknown_sort_among : KoreSignature → KoreSorts → Option KoreSort
  unknown_sort_among g no_sorts = None
  unknown_sort_among g (next_sort s ss) = earlier (unknown_sort_in g s) (unknown_sort_among g ss)

-- ---- what is written at a node

-- the sort of a text that stands as a pattern; no definition declares it
abbrev pub text_sort : KoreSort
text_sort = sort_of (codes "#String") no_sorts

-- the sorts that are written at a node
abbrev pub sorts_at : KorePattern → KoreSorts
sorts_at (variable x s) = next_sort s no_sorts
sorts_at (set_variable x s) = next_sort s no_sorts
sorts_at (application f ss ps) = ss
sorts_at (string_literal t) = next_sort text_sort no_sorts
sorts_at (literal s t) = next_sort s no_sorts
sorts_at (top s) = next_sort s no_sorts
sorts_at (bottom s) = next_sort s no_sorts
sorts_at (negation s p) = next_sort s no_sorts
sorts_at (next s p) = next_sort s no_sorts
sorts_at (conjunction s ps) = next_sort s no_sorts
sorts_at (disjunction s ps) = next_sort s no_sorts
sorts_at (implication s p q) = next_sort s no_sorts
sorts_at (equivalence s p q) = next_sort s no_sorts
sorts_at (rewriting s p q) = next_sort s no_sorts
sorts_at (exists s x t p) = next_sort s (next_sort t no_sorts)
sorts_at (forall s x t p) = next_sort s (next_sort t no_sorts)
sorts_at (ceil a s p) = next_sort a (next_sort s no_sorts)
sorts_at (floor a s p) = next_sort a (next_sort s no_sorts)
sorts_at (equals a s p q) = next_sort a (next_sort s no_sorts)
sorts_at (membership a s p q) = next_sort a (next_sort s no_sorts)
sorts_at (mu x s p) = next_sort s no_sorts
sorts_at (nu x s p) = next_sort s no_sorts

-- the sort that a pattern has; none is that of a symbol that isn't declared
abbrev pub own_sort : KoreSignature → KorePattern → Option KoreSort
own_sort g (variable x s) = Some s
own_sort g (set_variable x s) = Some s
own_sort g (application f ss ps) = result_sort g f ss
own_sort g (string_literal t) = Some text_sort
own_sort g (literal s t) = Some s
own_sort g (top s) = Some s
own_sort g (bottom s) = Some s
own_sort g (negation s p) = Some s
own_sort g (next s p) = Some s
own_sort g (conjunction s ps) = Some s
own_sort g (disjunction s ps) = Some s
own_sort g (implication s p q) = Some s
own_sort g (equivalence s p q) = Some s
own_sort g (rewriting s p q) = Some s
own_sort g (exists s x t p) = Some s
own_sort g (forall s x t p) = Some s
own_sort g (ceil a s p) = Some s
own_sort g (floor a s p) = Some s
own_sort g (equals a s p q) = Some s
own_sort g (membership a s p q) = Some s
own_sort g (mu x s p) = Some s
own_sort g (nu x s p) = Some s

-- what a symbol, or else an alias, takes: its sort parameters and the sorts of its arguments
pub record Profile : Type 0 where
  pub parameters : List Text
  pub arguments : KoreSorts

abbrev pub profile_of : KoreSignature → Text → Option Profile
profile_of g f = of_either (symbol_declared g f) (alias_declared g f)
  where
    of_either : Option SymbolDeclaration → Option AliasDeclaration → Option Profile
    of_either (Some d) a = Some (record { parameters = d.parameters; arguments = d.arguments })
    of_either None (Some a) = Some (record { parameters = a.parameters; arguments = a.arguments })
    of_either None None = None

-- the sorts of the places of a symbol's arguments
abbrev pub argument_sorts : KoreSignature → Text → KoreSorts → KoreSorts
argument_sorts g f ss = of_profile (profile_of g f)
  where
    of_profile : Option Profile → KoreSorts
    of_profile (Some k) = all_at_arguments k.parameters ss k.arguments
    of_profile None = no_sorts

-- ---- places

-- the sort that the place wants (none at the top), how deep it lies in its term (the term itself at 1), and the
-- variables in scope there, the one that counts first
pub record Place : Type 0 where
  pub wanted : Option KoreSort
  pub depth : ℕ
  pub scope : List SortedName

abbrev pub the_top : Place
the_top = record { wanted = None; depth = 1; scope = [] }

-- the place of an argument of an application
abbrev pub argument_at : Place → KoreSort → Place
argument_at c s = record { wanted = Some s; depth = c.depth + 1; scope = c.scope }

-- the place of a part of any other pattern: a term begins there anew
abbrev pub part_at : Place → KoreSort → Place
part_at c s = record { wanted = Some s; depth = 1; scope = c.scope }

-- the same, to the right of p
abbrev pub after : KorePattern → Place → Place
after p c = record { wanted = c.wanted; depth = c.depth; scope = c.scope ++ free_variables p }

-- the same, under a binder of x, which hides an outer variable of its name
abbrev pub under_binder : Text → KoreSort → Place → Place
under_binder x s c = record { wanted = c.wanted; depth = c.depth; scope = record { name = x; sort = s } ∷ c.scope }

-- the sort of a name in scope
abbrev pub sort_in_scope : Text → List SortedName → Option KoreSort
sort_in_scope x [] = None
sort_in_scope x (v ∷ vs) = if bytes_eq v.name x then Some v.sort else sort_in_scope x vs
