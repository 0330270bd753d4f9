-- The names that clauses ask of are those of variables at hand, each of a sort of one head.
use Rattle.std.proofs.Common.{◌≡◌, refl, sym, ap, ◌∙◌, true, List, [], ◌∷◌, map, Option, Some, None}
use Rattle.std.specs.Prelude.{Vec, string_bytes}
use Rattle.std.specs.Borrow.{Bor}
use Rattle.std.specs.List.{AllByRecursion, Contains, flat_map}
use Rattle.std.specs.Option.{option_map}
use Rattle.std.specs.declared.alloc.Global.{Global}
use Rattle.kp_kore.specs.Syntax.{KoreSort}
use Rattle.kp_kore.specs.Parts.{SortedName}
use Rattle.kp_kore.specs.Signature.{KoreSignature, has_only_numbers, has_only_truths}
use Rattle.kp_kore.specs.Value.{HasSort, head_of}
use Rattle.kp_kore.specs.Instance.{Valuation, GivesSorts}
use Rattle.kp_kore.proofs.ListLemmas.{all_append, all_left, all_right}
use Rattle.kp_signature.proofs.NumberLemmas.{only_numbers, only_truths}
use Rattle.kp_symbolic.specs.Plain.{has_only_tokens}
use Rattle.kp_symbolic.specs.Weights.{name_in}
use Rattle.kp_symbolic.specs.View.{variable_view}
use Rattle.kp_symbolic.specs.declared.variable.Variable.{Variable}
use Rattle.kp_literals.specs.Forms.{whole_part_view, token_part_view, form_view}
use Rattle.kp_literals.specs.Readings.{read_view, clauses_view}
use Rattle.kp_literals.specs.declared.form.LiteralForm.{LiteralForm}
use Rattle.kp_literals.specs.declared.form.LiteralForm.TheVariants.{Compares, Truth, Equates, Asks, Gives}
use Rattle.kp_literals.specs.declared.form.TokenPart.{TokenPart}
use Rattle.kp_literals.specs.declared.form.TokenPart.TheVariants.{Unknown, Known}
use Rattle.kp_literals.specs.declared.reading.ReadLiteral.{ReadLiteral}
use Rattle.kp_literals.specs.Unknowns.{if_there, side_variables, token_variables, unknowns_said, unknowns_in, all_unknowns, IsTokenPart, IsSaidOfKind, AreSaidOfKind}
use Rattle.kp_clause_demands.proofs.TokenSorts.{only_tokens}
use Rattle.kp_satisfiability.proofs.Joined.{side_names, token_names, names_said, names_in, HasOneHead, IsPlaced}

-- ---- sorts of one head

numbers_one_head : (g : KoreSignature) (s : KoreSort) → has_only_numbers g s ≡ true → HasOneHead g s
numbers_one_head g s e u w h k = ap head_of (only_numbers g s u e h).1 ∙ sym (ap head_of (only_numbers g s w e k).1)

truths_one_head : (g : KoreSignature) (s : KoreSort) → has_only_truths g s ≡ true → HasOneHead g s
truths_one_head g s e u w h k = ap head_of (only_truths g s u e h).1 ∙ sym (ap head_of (only_truths g s w e k).1)

tokens_one_head : (g : KoreSignature) (s : KoreSort) → has_only_tokens g s ≡ true → HasOneHead g s
tokens_one_head g s e u w h k = let o = only_tokens g s e in ap head_of (o.values u h).1 ∙ sym (ap head_of (o.values w k).1)

-- ---- forms

-- the variable is at hand, and has a value of its sort
abbrev At : KoreSignature → List SortedName → Valuation → SortedName → Type 0
At g hand v x = Contains hand x × HasSort g x.sort (v x.name)

side_placed : (g : KoreSignature) (hand : List SortedName) (v : Valuation) (o : Option (Bor Variable)) → AllByRecursion (λ x. has_only_numbers g x.sort ≡ true) (if_there (option_map (λ x. variable_view x.now) o)) → AllByRecursion (At g hand v) (if_there (option_map (λ x. variable_view x.now) o)) → AllByRecursion (IsPlaced g hand v) (name_in (option_map (λ x. string_bytes x.now.name) o))
side_placed g hand v (Some x) kind at = (record { variable = variable_view x.now; at_hand = at.0.0; named = refl; sorted = at.0.1; one_head = numbers_one_head g (variable_view x.now).sort kind.0 }, tt)
side_placed g hand v None kind at = tt

token_placed : (g : KoreSignature) (hand : List SortedName) (v : Valuation) (p : TokenPart) → IsTokenPart g p → AllByRecursion (At g hand v) (token_variables p) → AllByRecursion (IsPlaced g hand v) (token_names (token_part_view p))
token_placed g hand v (Unknown x) kind at = (record { variable = variable_view x.now; at_hand = at.0.0; named = refl; sorted = at.0.1; one_head = tokens_one_head g (variable_view x.now).sort kind }, tt)
token_placed g hand v (Known u) kind at = tt

said_placed : (g : KoreSignature) (hand : List SortedName) (v : Valuation) (o : Option LiteralForm) → IsSaidOfKind g o → AllByRecursion (At g hand v) (unknowns_said o) → AllByRecursion (IsPlaced g hand v) (names_said (option_map form_view o))
said_placed g hand v (Some (Compares c m n)) kind at =
    let Kind = λ (x : SortedName). has_only_numbers g x.sort ≡ true in
    all_append (IsPlaced g hand v) (side_names (whole_part_view m)) (side_names (whole_part_view n))
    (side_placed g hand v m.variable (all_left Kind (side_variables m) (side_variables n) kind) (all_left (At g hand v) (side_variables m) (side_variables n) at))
    (side_placed g hand v n.variable (all_right Kind (side_variables m) (side_variables n) kind) (all_right (At g hand v) (side_variables m) (side_variables n) at))
said_placed g hand v (Some (Truth x b)) kind at = (record { variable = variable_view x.now; at_hand = at.0.0; named = refl; sorted = at.0.1; one_head = truths_one_head g (variable_view x.now).sort kind }, tt)
said_placed g hand v (Some (Equates b p q)) kind at =
    all_append (IsPlaced g hand v) (token_names (token_part_view p)) (token_names (token_part_view q))
    (token_placed g hand v p kind.0 (all_left (At g hand v) (token_variables p) (token_variables q) at))
    (token_placed g hand v q kind.1 (all_right (At g hand v) (token_variables p) (token_variables q) at))
said_placed g hand v (Some (Asks x test b)) kind at = tt
said_placed g hand v (Some (Gives x t)) kind at = tt
said_placed g hand v None kind at = tt

clause_placed : (g : KoreSignature) (hand : List SortedName) (v : Valuation) (c : List ReadLiteral) → AreSaidOfKind g c → AllByRecursion (At g hand v) (unknowns_in c) → AllByRecursion (IsPlaced g hand v) (flat_map (λ l. names_said l.form) (map read_view c))
clause_placed g hand v [] kind at = tt
clause_placed g hand v (l ∷ c) kind at =
    all_append (IsPlaced g hand v) (names_said (option_map form_view l.form)) (flat_map (λ l. names_said l.form) (map read_view c))
    (said_placed g hand v l.form kind.0 (all_left (At g hand v) (unknowns_said l.form) (unknowns_in c) at))
    (clause_placed g hand v c kind.1 (all_right (At g hand v) (unknowns_said l.form) (unknowns_in c) at))

paired : (g : KoreSignature) (hand : List SortedName) (v : Valuation) (xs : List SortedName) → AllByRecursion (Contains hand) xs → GivesSorts g v xs → AllByRecursion (At g hand v) xs
paired g hand v [] at h = tt
paired g hand v (x ∷ xs) at h = ((at.0, h.0), paired g hand v xs at.1 h.1)

all_placed : (g : KoreSignature) (hand : List SortedName) (v : Valuation) (cs : List (Vec ReadLiteral Global)) → AllByRecursion (λ c. AreSaidOfKind g c.items) cs → AllByRecursion (At g hand v) (all_unknowns cs) → AllByRecursion (IsPlaced g hand v) (names_in (clauses_view cs))
all_placed g hand v [] kind at = tt
all_placed g hand v (c ∷ cs) kind at =
    all_append (IsPlaced g hand v) (flat_map (λ l. names_said l.form) (map read_view c.items)) (names_in (clauses_view cs))
    (clause_placed g hand v c.items kind.0 (all_left (At g hand v) (unknowns_in c.items) (all_unknowns cs) at))
    (all_placed g hand v cs kind.1 (all_right (At g hand v) (unknowns_in c.items) (all_unknowns cs) at))

pub are_placed : (g : KoreSignature) (hand : List SortedName) (v : Valuation) (cs : List (Vec ReadLiteral Global)) → AllByRecursion (λ c. AreSaidOfKind g c.items) cs → AllByRecursion (Contains hand) (all_unknowns cs) → GivesSorts g v (all_unknowns cs) → AllByRecursion (IsPlaced g hand v) (names_in (clauses_view cs))
are_placed g hand v cs kind at gives = all_placed g hand v cs kind (paired g hand v (all_unknowns cs) at gives)
