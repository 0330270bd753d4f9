-- A predicate whose negations stand at its literals alone, and the clauses that say the same.
-- Source: negation normal form and conjunctive normal form, of any kind of literals.
use Rattle.std.specs.Prelude.{ℕ, ◌+◌, ◌*◌, Bool, true, false, not, ◌&&◌, nat_le, List, [], ◌∷◌, ◌++◌, length, map, if◌then◌else◌, ⊤}
use Rattle.std.specs.List.{AllByRecursion, filter, flat_map, list_any}

mutual
  pub data Formula (L : Type 0) : Type 0 where
    fact : L → Formula L
    all_of : Formulas L → Formula L
    one_of : Formulas L → Formula L

  pub data Formulas (L : Type 0) : Type 0 where
    no_formulas : Formulas L
    next_formula : Formula L → Formulas L → Formulas L

-- what a formula says, where P says which literals are true; one_of is classical: not all members are false
abbrev mutual
  pub Holds : {L : Type 0} → (L → Type 0) → Formula L → Type 0
  Holds P (fact l) = P l
  Holds P (all_of fs) = AllHold P fs
  Holds P (one_of fs) = ¬ NoneHold P fs

  pub AllHold : {L : Type 0} → (L → Type 0) → Formulas L → Type 0
  AllHold P no_formulas = ⊤
  AllHold P (next_formula f fs) = Holds P f × AllHold P fs

  pub NoneHold : {L : Type 0} → (L → Type 0) → Formulas L → Type 0
  NoneHold P no_formulas = ⊤
  NoneHold P (next_formula f fs) = ¬ Holds P f × NoneHold P fs

-- a clause is true where not all of its literals are false
abbrev pub NotAllFalse : {L : Type 0} → (L → Type 0) → List L → Type 0
NotAllFalse P c = ¬ AllByRecursion (λ l. ¬ P l) c

-- ---- distribution, where repeats are told by a test of literals

-- the clauses of one literal after the other are the same
abbrev pub clauses_same : {L : Type 0} → (L → L → Bool) → List L → List L → Bool
clauses_same test [] [] = true
clauses_same test (l ∷ c) (m ∷ d) = test l m && clauses_same test c d
clauses_same test c d = false

-- the literals of both clauses, those of the second that aren't in the first behind it
abbrev pub joined : {L : Type 0} → (L → L → Bool) → List L → List L → List L
joined test c d = c ++ filter (λ l. not (list_any (test l) c)) d

-- clauses are compared as long as those that were kept hold no more literals than this
abbrev pub most_compared : ℕ
most_compared = 4096

-- each clause unless it is among those kept before it
abbrev pub kept_once_after : {L : Type 0} → (L → L → Bool) → List (List L) → ℕ → List (List L) → List (List L)
kept_once_after test before n [] = []
kept_once_after test before n (c ∷ cs) =
    if nat_le n most_compared && list_any (clauses_same test c) before then kept_once_after test before n cs
    else c ∷ kept_once_after test (c ∷ before) (n + length c) cs

abbrev pub kept_once : {L : Type 0} → (L → L → Bool) → List (List L) → List (List L)
kept_once test cs = kept_once_after test [] 0 cs

-- each clause of the one list with each of the other
abbrev pub crossed : {L : Type 0} → (L → L → Bool) → List (List L) → List (List L) → List (List L)
crossed test cs ds = flat_map (λ c. map (joined test c) ds) cs

-- the clauses of a formula: those of all members, or one of each member in every choice
abbrev mutual
  pub formula_clauses : {L : Type 0} → (L → L → Bool) → Formula L → List (List L)
  formula_clauses test (fact l) = (l ∷ []) ∷ []
  formula_clauses test (all_of fs) = joined_clauses test fs
  formula_clauses test (one_of fs) = crossed_clauses test fs

  pub joined_clauses : {L : Type 0} → (L → L → Bool) → Formulas L → List (List L)
  joined_clauses test no_formulas = []
  joined_clauses test (next_formula f fs) = formula_clauses test f ++ joined_clauses test fs

  pub crossed_clauses : {L : Type 0} → (L → L → Bool) → Formulas L → List (List L)
  crossed_clauses test no_formulas = [] ∷ []
  crossed_clauses test (next_formula f fs) = kept_once test (crossed test (formula_clauses test f) (crossed_clauses test fs))

-- ---- how many clauses and literals that makes, repeats included

pub record Size : Type 0 where
  pub clauses : ℕ
  pub literals : ℕ

abbrev pub together : Size → Size → Size
together m n = record { clauses = m.clauses + n.clauses; literals = m.literals + n.literals }

abbrev pub each_with_each : Size → Size → Size
each_with_each m n = record { clauses = m.clauses * n.clauses; literals = m.literals * n.clauses + n.literals * m.clauses }

abbrev mutual
  pub size_of : {L : Type 0} → Formula L → Size
  size_of (fact l) = record { clauses = 1; literals = 1 }
  size_of (all_of fs) = size_of_all fs
  size_of (one_of fs) = size_of_one fs

  pub size_of_all : {L : Type 0} → Formulas L → Size
  size_of_all no_formulas = record { clauses = 0; literals = 0 }
  size_of_all (next_formula f fs) = together (size_of f) (size_of_all fs)

  pub size_of_one : {L : Type 0} → Formulas L → Size
  size_of_one no_formulas = record { clauses = 1; literals = 0 }
  size_of_one (next_formula f fs) = each_with_each (size_of f) (size_of_one fs)
