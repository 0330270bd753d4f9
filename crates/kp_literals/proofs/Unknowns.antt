-- The kinds of unknowns, clause by clause, and which variables they are.
use Rattle.std.proofs.Common.{◌≡◌, sym, subst, Bool, List, [], ◌∷◌, ◌++◌, map, Option, Some, None}
use Rattle.std.specs.Prelude.{Vec}
use Rattle.std.specs.List.{AllByRecursion, Contains, filter}
use Rattle.std.specs.declared.alloc.Global.{Global}
use Rattle.kp_kore.specs.Parts.{SortedName}
use Rattle.kp_kore.specs.Signature.{KoreSignature}
use Rattle.kp_kore.proofs.ListLemmas.{all_append, all_left, all_right, all_map, all_filter, all_mapped}
use Rattle.kp_kore.proofs.TurnLemmas.{of_member}
use Rattle.kp_symbolic.specs.States.{Literal, atom_variables, clause_variables, SymbolicState}
use Rattle.kp_symbolic.specs.WellFormed.{AreAtHand}
use Rattle.kp_symbolic.specs.Plain as model
use Rattle.kp_symbolic.specs.Plain.{form_of, own_form, read_clause, read_from, read_clauses}
use Rattle.kp_literals.specs.Readings.{read_view, clauses_view}
use Rattle.kp_literals.specs.Unknowns.{unknowns_said, unknowns_in, all_unknowns, IsSaidOfKind, AreSaidOfKind, IsSaidAmong, IsReadOfKind, IsClauseOfKind, AreReadOfKind}
use Rattle.kp_literals.specs.declared.form.LiteralForm.{LiteralForm}
use Rattle.kp_literals.specs.declared.form.LiteralForm.TheVariants.{Compares, Truth, Equates, Asks, Gives}
use Rattle.kp_literals.specs.declared.reading.ReadLiteral.{ReadLiteral}
use Rattle.kp_literals.specs.Own.{IsSetApart}
use Rattle.kp_literals.specs.Parts.{clauses_of}

-- what asks for no unknown
pub apart_among : (g : KoreSignature) (xs : List SortedName) (o : Option LiteralForm) → IsSetApart o → IsSaidAmong g xs o
apart_among g xs (Some (Compares c m n)) h = absurd h
apart_among g xs (Some (Truth x b)) h = absurd h
apart_among g xs (Some (Equates b p q)) h = absurd h
apart_among g xs (Some (Asks x test b)) h = record { kinds = tt; variables = tt }
apart_among g xs (Some (Gives x t)) h = record { kinds = tt; variables = tt }
apart_among g xs None h = record { kinds = tt; variables = tt }

pub one_more : {X : Type 0} (P : X → Type 0) (xs : List X) (x : X) → AllByRecursion P xs → P x → AllByRecursion P (xs ++ x ∷ [])
one_more P xs x a h = all_append P xs (x ∷ []) a (h, tt)

-- ---- for callers

pub said_of_kind : (g : KoreSignature) (cs : List (Vec ReadLiteral Global)) → AreReadOfKind g cs → AllByRecursion (λ c. AreSaidOfKind g c.items) cs
said_of_kind g cs h = all_map (λ (c : Vec ReadLiteral Global). IsClauseOfKind g c.items) (λ c. AreSaidOfKind g c.items) cs (λ c k. all_map (IsReadOfKind g) (λ l. IsSaidOfKind g l.form) c.items (λ l r. r.kinds) k) h

unmapped : {X Y : Type 0} (f : X → Y) (P : Y → Type 0) (xs : List X) → AllByRecursion P (map f xs) → AllByRecursion (λ x. P (f x)) xs
unmapped f P [] h = tt
unmapped f P (x ∷ xs) h = (h.0, unmapped f P xs h.1)

-- some of the clauses
pub some_of_kind : (g : KoreSignature) (test : List ReadLiteral → Bool) (cs ds : List (Vec ReadLiteral Global)) → clauses_of ds ≡ filter test (clauses_of cs) → AreReadOfKind g cs → AreReadOfKind g ds
some_of_kind g test cs ds e h = unmapped (λ (c : Vec ReadLiteral Global). c.items) (IsClauseOfKind g) ds
    (subst (AllByRecursion (IsClauseOfKind g)) (sym e) (all_filter (IsClauseOfKind g) test (clauses_of cs) (all_mapped (λ (c : Vec ReadLiteral Global). c.items) (IsClauseOfKind g) cs h)))

-- the literal's variables are at hand
abbrev IsKnown : List SortedName → model.ReadLiteral → Type 0
IsKnown hand r = AreAtHand (atom_variables r.literal.atom) hand

each_known : (g : KoreSignature) (hand : List SortedName) (c : List Literal) → AreAtHand (clause_variables c) hand → AllByRecursion (IsKnown hand) (map (λ l. record { literal = l; form = form_of g l }) c)
each_known g hand [] h = tt
each_known g hand (l ∷ c) h = (all_left (Contains hand) (atom_variables l.atom) (clause_variables c) h, each_known g hand c (all_right (Contains hand) (atom_variables l.atom) (clause_variables c) h))

clause_known : (g : KoreSignature) (s : SymbolicState) (hand : List SortedName) (others : List (List Literal)) (c : List Literal) → AreAtHand (clause_variables c) hand → AllByRecursion (IsKnown hand) (read_clause g s others c)
clause_known g s hand others [] h = tt
clause_known g s hand others (l ∷ []) h = (all_left (Contains hand) (atom_variables l.atom) [] h, tt)
clause_known g s hand others (l ∷ m ∷ c) h = each_known g hand (l ∷ m ∷ c) h

all_known : (g : KoreSignature) (s : SymbolicState) (hand : List SortedName) (before after : List (List Literal)) → AllByRecursion (λ c. AreAtHand (clause_variables c) hand) after → AllByRecursion (AllByRecursion (IsKnown hand)) (read_from g s before after)
all_known g s hand before [] h = tt
all_known g s hand before (c ∷ after) h = (clause_known g s hand (before ++ after) c h.0, all_known g s hand (before ++ c ∷ []) after h.1)

at_hand_in : (g : KoreSignature) (hand : List SortedName) (c : List ReadLiteral) → IsClauseOfKind g c → AllByRecursion (IsKnown hand) (map read_view c) → AllByRecursion (Contains hand) (unknowns_in c)
at_hand_in g hand [] k h = tt
at_hand_in g hand (l ∷ c) k h = all_append (Contains hand) (unknowns_said l.form) (unknowns_in c)
    (all_map (Contains (atom_variables (read_view l).literal.atom)) (Contains hand) (unknowns_said l.form) (λ x m. of_member (Contains hand) (atom_variables (read_view l).literal.atom) x h.0 m) k.0.variables)
    (at_hand_in g hand c k.1 h.1)

all_at_hand : (g : KoreSignature) (hand : List SortedName) (cs : List (Vec ReadLiteral Global)) → AreReadOfKind g cs → AllByRecursion (AllByRecursion (IsKnown hand)) (clauses_view cs) → AllByRecursion (Contains hand) (all_unknowns cs)
all_at_hand g hand [] k h = tt
all_at_hand g hand (c ∷ cs) k h = all_append (Contains hand) (unknowns_in c.items) (all_unknowns cs) (at_hand_in g hand c.items k.0 h.0) (all_at_hand g hand cs k.1 h.1)

-- the unknowns of a state's clauses, or of some of them, are at hand
pub unknowns_at_hand : (g : KoreSignature) (s : SymbolicState) (test : List model.ReadLiteral → Bool) (cs : List (Vec ReadLiteral Global)) → AllByRecursion (λ c. AreAtHand (clause_variables c) s.variables) s.clauses →
    clauses_view cs ≡ filter test (read_clauses g s) → AreReadOfKind g cs → AllByRecursion (Contains s.variables) (all_unknowns cs)
unknowns_at_hand g s test cs h e k =
    all_at_hand g s.variables cs k (subst (AllByRecursion (AllByRecursion (IsKnown s.variables))) (sym e) (all_filter (AllByRecursion (IsKnown s.variables)) test (read_clauses g s) (all_known g s s.variables [] s.clauses h)))
