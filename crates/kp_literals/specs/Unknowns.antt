-- The unknowns of what literals say: the variables of which a number, a truth value or a token is asked.
-- Source: satisfiability of clauses; the division is this project's.
use Rattle.std.specs.Prelude.{◌≡◌, true, List, [], ◌∷◌, ◌++◌, Option, Some, None, IfSome, ⊤, Vec}
use Rattle.std.specs.List.{AllByRecursion, flat_map}
use Rattle.std.specs.Option.{option_map}
use Rattle.std.specs.declared.alloc.Global.{Global}
use Rattle.kp_kore.specs.Parts.{SortedName}
use Rattle.kp_kore.specs.Signature.{KoreSignature, has_only_numbers, has_only_truths}
use Rattle.kp_ground.specs.View.{value_view}
use Rattle.kp_kore.specs.Value.{Value, token}
use Rattle.kp_symbolic.specs.States.{atom_variables}
use Rattle.kp_symbolic.specs.WellFormed.{AreAtHand}
use Rattle.kp_symbolic.specs.Plain.{has_only_tokens}
use Rattle.kp_symbolic.specs.View.{variable_view, literal_view}
use Rattle.kp_literals.specs.declared.form.LiteralForm.{LiteralForm}
use Rattle.kp_literals.specs.declared.form.LiteralForm.TheVariants.{Compares, Truth, Equates, Asks, Gives}
use Rattle.kp_literals.specs.declared.form.WholePart.{WholePart}
use Rattle.kp_literals.specs.declared.form.TokenPart.{TokenPart}
use Rattle.kp_literals.specs.declared.form.TokenPart.TheVariants.{Unknown, Known}
use Rattle.kp_literals.specs.declared.reading.ReadLiteral.{ReadLiteral}

abbrev pub if_there : Option SortedName → List SortedName
if_there (Some x) = x ∷ []
if_there None = []

abbrev pub side_variables : WholePart → List SortedName
side_variables m = if_there (option_map (λ x. variable_view x.now) m.variable)

abbrev pub token_variables : TokenPart → List SortedName
token_variables (Unknown x) = variable_view x.now ∷ []
token_variables (Known u) = []

-- the variables of which a number, a truth value or a token is asked
abbrev pub unknowns_of : LiteralForm → List SortedName
unknowns_of (Compares c m n) = side_variables m ++ side_variables n
unknowns_of (Truth x b) = variable_view x.now ∷ []
unknowns_of (Equates b p q) = token_variables p ++ token_variables q
unknowns_of (Asks x test b) = []
unknowns_of (Gives x t) = []

abbrev pub unknowns_said : Option LiteralForm → List SortedName
unknowns_said (Some f) = unknowns_of f
unknowns_said None = []

abbrev pub unknowns_in : List ReadLiteral → List SortedName
unknowns_in c = flat_map (λ l. unknowns_said l.form) c

abbrev pub all_unknowns : List (Vec ReadLiteral Global) → List SortedName
all_unknowns cs = flat_map (λ c. unknowns_in c.items) cs

-- ---- kinds

-- each is of whole numbers alone
abbrev pub AreNumbers : KoreSignature → List SortedName → Type 0
AreNumbers g xs = AllByRecursion (λ x. has_only_numbers g x.sort ≡ true) xs

abbrev pub IsTokenValue : Value → Type 0
IsTokenValue (token s t) = ⊤
IsTokenValue u = ⊥

abbrev pub IsTokenPart : KoreSignature → TokenPart → Type 0
IsTokenPart g (Unknown x) = has_only_tokens g (variable_view x.now).sort ≡ true
IsTokenPart g (Known u) = IsTokenValue (value_view u.now)

-- each is of the sort that is asked of it
abbrev pub IsOfKind : KoreSignature → LiteralForm → Type 0
IsOfKind g (Compares c m n) = AreNumbers g (side_variables m ++ side_variables n)
IsOfKind g (Truth x b) = has_only_truths g (variable_view x.now).sort ≡ true
IsOfKind g (Equates b p q) = IsTokenPart g p × IsTokenPart g q
IsOfKind g (Asks x test b) = ⊤
IsOfKind g (Gives x t) = ⊤

abbrev pub IsSaidOfKind : KoreSignature → Option LiteralForm → Type 0
IsSaidOfKind g (Some f) = IsOfKind g f
IsSaidOfKind g None = ⊤

abbrev pub AreSaidOfKind : KoreSignature → List ReadLiteral → Type 0
AreSaidOfKind g c = AllByRecursion (λ l. IsSaidOfKind g l.form) c

-- ---- unknowns among variables

-- where something is said, its unknowns are these variables
abbrev pub IsSaidOf : List SortedName → Option LiteralForm → Type 0
IsSaidOf xs o = IfSome o (λ f. unknowns_of f ≡ xs)

-- each unknown of what is said is of its kind, and one of these variables
pub record IsSaidAmong (g : KoreSignature) (xs : List SortedName) (o : Option LiteralForm) : Type 0 where
  pub kinds : IsSaidOfKind g o
  pub variables : AreAtHand (unknowns_said o) xs

-- so of what a literal says, among the variables of the literal
abbrev pub IsReadOfKind : KoreSignature → ReadLiteral → Type 0
IsReadOfKind g l = IsSaidAmong g (atom_variables (literal_view l.literal.now).atom) l.form

abbrev pub IsClauseOfKind : KoreSignature → List ReadLiteral → Type 0
IsClauseOfKind g c = AllByRecursion (IsReadOfKind g) c

abbrev pub AreReadOfKind : KoreSignature → List (Vec ReadLiteral Global) → Type 0
AreReadOfKind g cs = AllByRecursion (λ c. IsClauseOfKind g c.items) cs
