-- The first wide call among the parts of terms, one after another.
use Rattle.std.proofs.Common.{◌≡◌, refl, sym, ap, ◌∙◌, ℕ, ◌+◌, ◌<◌, ◌≤◌, List, [], ◌∷◌, ◌++◌, map, length, get_or, Option, Some, None}
use Rattle.std.specs.List.{flat_map}
use Rattle.kp_kore.specs.Signature.{KoreSignature}
use Rattle.kp_kore.specs.Syntax.{Text}
use Rattle.kp_symbolic.specs.Terms.{SymbolicTerm, headed}
use Rattle.kp_symbolic.specs.States.{SymbolicState}
use Rattle.kp_symbolic.specs.Sources.{parts_of, all_parts_of, atom_parts, clause_parts}
use Rattle.kp_symbolic.specs.View.{term_view, terms_of, replaced_view, literal_view, clause_view, clauses_view}
use Rattle.kp_symbolic.specs.declared.term.Term.{Term}
use Rattle.kp_symbolic.specs.declared.atom.Replaced.{Replaced}
use Rattle.kp_symbolic.specs.declared.clause.Literal.{Literal}
use Rattle.kp_symbolic.specs.declared.clause.Clause.{Clause}
use Rattle.kp_limits.specs.Wide.{WideCall, wide_call, first_of, first_wide_among, first_wide}
use Rattle.kp_limits.proofs.FirstAlong.{IsFirst, Left, here, later, none, seen_flat}

first_behind : (a b c : Option WideCall) → first_of (first_of a b) c ≡ first_of a (first_of b c)
first_behind (Some x) b c = refl
first_behind None b c = refl

pub first_either : (g : KoreSignature) (ts us : List SymbolicTerm) → first_wide_among g (ts ++ us) ≡ first_of (first_wide_among g ts) (first_wide_among g us)
first_either g [] us = refl
first_either g (t ∷ ts) us = ap (first_of (wide_call g t)) (first_either g ts us) ∙ sym (first_behind (wide_call g t) (first_wide_among g ts) (first_wide_among g us))

wide_first : (g : KoreSignature) → IsFirst (first_wide_among g)
wide_first g = record { either = first_of; joined = first_either g; answered = λ c o. refl; passed = λ o. refl }

-- ---- terms

abbrev pub TermsLeft : KoreSignature → List Term → ℕ → Type 0
TermsLeft g ts i = Left (first_wide_among g) (λ t. parts_of (term_view t)) ts i

all_parts : (ts : List Term) → flat_map (λ t. parts_of (term_view t)) ts ≡ all_parts_of (terms_of (map term_view ts))
all_parts [] = refl
all_parts (t ∷ ts) = ap (λ us. parts_of (term_view t) ++ us) (all_parts ts)

pub terms_here : (g : KoreSignature) (ts : List Term) (i : ℕ) (t : Term) (c : WideCall) → i < length ts → t ≡ get_or ts i t → Some c ≡ first_wide_among g (parts_of (term_view t)) → TermsLeft g ts i → Some c ≡ first_wide_among g (all_parts_of (terms_of (map term_view ts)))
terms_here g ts i t c h e is left = here (first_wide_among g) (wide_first g) (λ u. parts_of (term_view u)) ts i t c h e is left ∙ ap (first_wide_among g) (all_parts ts)

pub terms_later : (g : KoreSignature) (ts : List Term) (i : ℕ) (t : Term) → i < length ts → t ≡ get_or ts i t → None ≡ first_wide_among g (parts_of (term_view t)) → TermsLeft g ts i → TermsLeft g ts (i + 1)
terms_later g ts i t h e is left = later (first_wide_among g) (wide_first g) (λ u. parts_of (term_view u)) ts i t h e is left

pub terms_none : (g : KoreSignature) (ts : List Term) (i : ℕ) → length ts ≤ i → TermsLeft g ts i → None ≡ first_wide_among g (all_parts_of (terms_of (map term_view ts)))
terms_none g ts i h left = none (first_wide_among g) (λ t. parts_of (term_view t)) ts i refl h left ∙ ap (first_wide_among g) (all_parts ts)

-- ---- terms in a predicate

abbrev pub ReplacedLeft : KoreSignature → List Replaced → ℕ → Type 0
ReplacedLeft g rs i = Left (first_wide_among g) (λ r. parts_of (replaced_view r).term) rs i

pub replaced_here : (g : KoreSignature) (rs : List Replaced) (i : ℕ) (r : Replaced) (c : WideCall) → i < length rs → r ≡ get_or rs i r → Some c ≡ first_wide_among g (parts_of (term_view r.term)) → ReplacedLeft g rs i → Some c ≡ first_wide_among g (flat_map (λ q. parts_of q.term) (map replaced_view rs))
replaced_here g rs i r c h e is left = here (first_wide_among g) (wide_first g) (λ q. parts_of (replaced_view q).term) rs i r c h e is left ∙ ap (first_wide_among g) (seen_flat (λ q. parts_of q.term) replaced_view rs)

pub replaced_later : (g : KoreSignature) (rs : List Replaced) (i : ℕ) (r : Replaced) → i < length rs → r ≡ get_or rs i r → None ≡ first_wide_among g (parts_of (term_view r.term)) → ReplacedLeft g rs i → ReplacedLeft g rs (i + 1)
replaced_later g rs i r h e is left = later (first_wide_among g) (wide_first g) (λ q. parts_of (replaced_view q).term) rs i r h e is left

pub replaced_none : (g : KoreSignature) (rs : List Replaced) (i : ℕ) → length rs ≤ i → ReplacedLeft g rs i → None ≡ first_wide_among g (flat_map (λ q. parts_of q.term) (map replaced_view rs))
replaced_none g rs i h left = none (first_wide_among g) (λ q. parts_of (replaced_view q).term) rs i refl h left ∙ ap (first_wide_among g) (seen_flat (λ q. parts_of q.term) replaced_view rs)

-- ---- literals

abbrev pub LiteralsLeft : KoreSignature → List Literal → ℕ → Type 0
LiteralsLeft g ls i = Left (first_wide_among g) (λ l. atom_parts (literal_view l).atom) ls i

pub literals_here : (g : KoreSignature) (ls : List Literal) (i : ℕ) (l : Literal) (c : WideCall) → i < length ls → l ≡ get_or ls i l → Some c ≡ first_wide_among g (atom_parts (literal_view l).atom) → LiteralsLeft g ls i → Some c ≡ first_wide_among g (flat_map (λ m. atom_parts m.atom) (map literal_view ls))
literals_here g ls i l c h e is left = here (first_wide_among g) (wide_first g) (λ m. atom_parts (literal_view m).atom) ls i l c h e is left ∙ ap (first_wide_among g) (seen_flat (λ m. atom_parts m.atom) literal_view ls)

pub literals_later : (g : KoreSignature) (ls : List Literal) (i : ℕ) (l : Literal) → i < length ls → l ≡ get_or ls i l → None ≡ first_wide_among g (atom_parts (literal_view l).atom) → LiteralsLeft g ls i → LiteralsLeft g ls (i + 1)
literals_later g ls i l h e is left = later (first_wide_among g) (wide_first g) (λ m. atom_parts (literal_view m).atom) ls i l h e is left

pub literals_none : (g : KoreSignature) (ls : List Literal) (i : ℕ) → length ls ≤ i → LiteralsLeft g ls i → None ≡ first_wide_among g (flat_map (λ m. atom_parts m.atom) (map literal_view ls))
literals_none g ls i h left = none (first_wide_among g) (λ m. atom_parts (literal_view m).atom) ls i refl h left ∙ ap (first_wide_among g) (seen_flat (λ m. atom_parts m.atom) literal_view ls)

-- ---- clauses

abbrev pub ClausesLeft : KoreSignature → List Clause → ℕ → Type 0
ClausesLeft g cs i = Left (first_wide_among g) (λ c. flat_map (λ m. atom_parts m.atom) (clause_view c)) cs i

pub clauses_here : (g : KoreSignature) (cs : List Clause) (i : ℕ) (d : Clause) (c : WideCall) → i < length cs → d ≡ get_or cs i d → Some c ≡ first_wide_among g (flat_map (λ m. atom_parts m.atom) (clause_view d)) → ClausesLeft g cs i → Some c ≡ first_wide_among g (clause_parts (clauses_view cs))
clauses_here g cs i d c h e is left = here (first_wide_among g) (wide_first g) (λ k. flat_map (λ m. atom_parts m.atom) (clause_view k)) cs i d c h e is left ∙ ap (first_wide_among g) (seen_flat (λ k. flat_map (λ m. atom_parts m.atom) k) clause_view cs)

pub clauses_later : (g : KoreSignature) (cs : List Clause) (i : ℕ) (d : Clause) → i < length cs → d ≡ get_or cs i d → None ≡ first_wide_among g (flat_map (λ m. atom_parts m.atom) (clause_view d)) → ClausesLeft g cs i → ClausesLeft g cs (i + 1)
clauses_later g cs i d h e is left = later (first_wide_among g) (wide_first g) (λ k. flat_map (λ m. atom_parts m.atom) (clause_view k)) cs i d h e is left

pub clauses_none : (g : KoreSignature) (cs : List Clause) (i : ℕ) → length cs ≤ i → ClausesLeft g cs i → None ≡ first_wide_among g (clause_parts (clauses_view cs))
clauses_none g cs i h left = none (first_wide_among g) (λ k. flat_map (λ m. atom_parts m.atom) (clause_view k)) cs i refl h left ∙ ap (first_wide_among g) (seen_flat (λ k. flat_map (λ m. atom_parts m.atom) k) clause_view cs)

-- ---- an atom's sides, and a state's term and clauses

pub sides_are : (g : KoreSignature) (t u : SymbolicTerm) → first_of (first_wide_among g (parts_of t)) (first_wide_among g (parts_of u)) ≡ first_wide_among g (parts_of t ++ parts_of u)
sides_are g t u = sym (first_either g (parts_of t) (parts_of u))

in_either : (g : KoreSignature) (s : SymbolicState) → first_of (first_wide_among g (parts_of s.term)) (first_wide_among g (clause_parts s.clauses)) ≡ first_wide g s
in_either g s = sym (first_either g (parts_of s.term) (clause_parts s.clauses))

pub in_the_term : (g : KoreSignature) (s : SymbolicState) (c : WideCall) → Some c ≡ first_wide_among g (parts_of s.term) → Some c ≡ first_wide g s
in_the_term g s c is = ap (λ o. first_of o (first_wide_among g (clause_parts s.clauses))) is ∙ in_either g s

pub in_the_clauses : (g : KoreSignature) (s : SymbolicState) (o : Option WideCall) → None ≡ first_wide_among g (parts_of s.term) → o ≡ first_wide_among g (clause_parts s.clauses) → o ≡ first_wide g s
in_the_clauses g s o none is = is ∙ ap (λ p. first_of p (first_wide_among g (clause_parts s.clauses))) none ∙ in_either g s

-- ---- calls

pub not_two : (g : KoreSignature) (f : Text) (ts : List Term) → (length ts ≡ 2 → ⊥) → None ≡ wide_call g (headed f (terms_of (map term_view ts)))
not_two g f [] n = refl
not_two g f (t ∷ []) n = refl
not_two g f (t ∷ u ∷ []) n = absurd (n refl)
not_two g f (t ∷ u ∷ w ∷ ts) n = refl
