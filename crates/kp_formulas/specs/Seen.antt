-- The parts of how a term is opened.
use Rattle.std.specs.Prelude.{Bool, true, false, not, ◌&&◌, List, [], ◌∷◌, Option, Some, None, map}
use Rattle.kp_kore.specs.Syntax.{Text}
use Rattle.kp_kore.specs.Hooks.{Connective, both, either, implies, same as same_truth, other}
use Rattle.kp_kore.specs.Signature.{KoreSignature}
use Rattle.kp_kore.specs.Value.{Value, truth, constructed, Values, no_values, next_value}
use Rattle.kp_symbolic.specs.Terms.{SymbolicTerm, known, headed, SymbolicTerms, no_terms}
use Rattle.kp_compile.specs.Spelled.{places_of}
use Rattle.kp_symbolic.specs.View.{term_view, terms_of}
use Rattle.kp_symbolic.specs.Formulas.{Formula}
use Rattle.kp_symbolic.specs.States.{Literal}
use Rattle.kp_symbolic.specs.Opening.{all_if, pair, Seen, seen, Seens, asked, opened_agreement, opened_sides, sorts_of_members, opened_members, seen_term, seen_terms}
use Rattle.kp_symbolic.specs.declared.term.Term.{Term}

-- how the code's term is opened
abbrev pub seen_of : KoreSignature → Term → Seen
seen_of g t = seen_term g (term_view t)

-- how each of the code's terms is opened
abbrev pub all_seen_of : KoreSignature → List Term → Seens
all_seen_of g ts = seen_terms g (terms_of (map term_view ts))

-- the formula of a Boolean expression, where this literal is kept if it isn't opened
abbrev pub told : Bool → Bool → Formula Literal → Seen → Formula Literal
told alone b kept (seen t p c ms) = p alone b kept

-- the constructor, if there is one, and the members
abbrev pub constructor_seen : Seen → Option Text
constructor_seen (seen t p c ms) = c

abbrev pub members_seen : Seen → Seens
members_seen (seen t p c ms) = ms

-- the members of a value, and of a term, as terms
abbrev pub known_terms : Values → List SymbolicTerm
known_terms no_values = []
known_terms (next_value u us) = known u ∷ known_terms us

abbrev pub known_members : Value → List SymbolicTerm
known_members (constructed c us) = known_terms us
known_members _ = []

abbrev pub members_in : SymbolicTerm → SymbolicTerms
members_in (known u) = terms_of (known_members u)
members_in (headed f ts) = ts
members_in _ = no_terms

abbrev pub both_known : SymbolicTerm → SymbolicTerm → Bool
both_known (known u) (known w) = true
both_known _ _ = false

-- the truth value that a term is known to be
abbrev pub truth_in : Value → Option Bool
truth_in (truth a) = Some a
truth_in _ = None

abbrev pub truth_known : SymbolicTerm → Option Bool
truth_known (known u) = truth_in u
truth_known _ = None

-- a Boolean function of two Boolean expressions, with a sign
abbrev pub connected_by : KoreSignature → Connective → Bool → Bool → Seen → Seen → Formula Literal
connected_by g both alone b m n = all_if b (pair (asked g (alone && b) b m) (asked g (alone && b) b n))
connected_by g either alone b m n = all_if (not b) (pair (asked g (alone && not b) b m) (asked g (alone && not b) b n))
connected_by g implies alone b m n = all_if (not b) (pair (asked g (alone && not b) (not b) m) (asked g (alone && not b) b n))
connected_by g same_truth alone b m n = opened_agreement g b m n
connected_by g other alone b m n = opened_agreement g (not b) m n

-- an equality of two terms that aren't the same, of another sort than the truth sort
abbrev pub opened_constructed : KoreSignature → Bool → Bool → Formula Literal → SymbolicTerm → SymbolicTerm → Formula Literal
opened_constructed g alone b kept t u = opened_sides g b kept t u (constructor_seen (seen_term g t)) (constructor_seen (seen_term g u)) (opened_members g (alone && b) b (sorts_of_members g (constructor_seen (seen_term g t))) (members_seen (seen_term g t)) (members_seen (seen_term g u)))

-- the members at the places of a constructor are equal, or aren't: all equalities, or one of their opposites
abbrev pub opened_listed : KoreSignature → Bool → Bool → Text → Seens → Seens → Formula Literal
opened_listed g alone b c ms ns = all_if b (opened_members g alone b (places_of g c) ms ns)
