-- The ways for what clauses say to hold, as demands on numbered unknowns.
-- Source: difference constraints, truth values and equality logic.
use Rattle.std.specs.Prelude.{◌≡◌, ℕ, Bool, true, false, not, ◌&&◌, List, [], ◌∷◌, map, Option, Some, None, Vec, is_some, if◌then◌else◌, ⊤, length}
use Rattle.std.specs.List.{AllByRecursion, flat_map}
use Rattle.std.specs.declared.alloc.Global.{Global}
use Rattle.kp_kore.specs.Signature.{KoreSignature}
use Rattle.kp_kore.specs.Hooks.{Comparison}
use Rattle.kp_kore.specs.HookView.{comparison_view}
use Rattle.kp_kore.specs.Interpretation.{compared}
use Rattle.std.specs.Str.{bytes_eq}
use Rattle.std.specs.Prelude.{string_bytes}
use Rattle.kp_demands.specs.Demands.{Assignment, IsMetBy, HasWay, Sizes, IsSized, choices_of}
use Rattle.kp_demands.specs.Tabled.{AreSizesOf}
use Rattle.kp_demands.specs.declared.tables.Tables.{Tables}
use Rattle.kp_demands.specs.declared.demand.Demand.{Demand}
use Rattle.kp_demands.specs.declared.demand.Demand.TheVariants as demand
use Rattle.kp_clause_demands.specs.Comparing.{ways_of, AreNear}
use Rattle.kp_clause_demands.specs.declared.comparing.ComparedPart.{ComparedPart}
use Rattle.kp_literals.specs.Forms.{whole_part_view, token_part_view}
use Rattle.kp_symbolic.specs.declared.variable.Variable.{Variable}
use Rattle.kp_literals.specs.declared.form.LiteralForm.{LiteralForm}
use Rattle.kp_literals.specs.declared.form.LiteralForm.TheVariants.{Compares, Truth, Equates, Asks, Gives}
use Rattle.kp_literals.specs.declared.form.WholePart.{WholePart}
use Rattle.kp_literals.specs.declared.form.TokenPart.{TokenPart}
use Rattle.kp_literals.specs.declared.reading.ReadLiteral.{ReadLiteral}
use Rattle.kp_clause_demands.specs.Kinds.{are_alike}
use Rattle.kp_clause_demands.specs.Numbers.{texts, place_by, parts_same, whole_number}
use Rattle.kp_clause_demands.specs.declared.clause_demands.AskedDemands.{AskedDemands}
use Rattle.kp_clause_demands.specs.declared.unknowns.Unknowns.{Unknowns}

-- one way without demands where it holds, else none
abbrev pub decided : Bool → List (List Demand)
decided b = if b then [] ∷ [] else []

abbrev pub part_of : Unknowns → WholePart → ComparedPart
part_of u m = record { place = whole_number (texts u.wholes.items) (whole_part_view m).variable; constant = m.constant }

abbrev pub is_constant : WholePart → Bool
is_constant m = not (is_some m.variable)

abbrev pub are_constants : WholePart → WholePart → Bool
are_constants m n = is_constant m && is_constant n

abbrev pub truth_number : Unknowns → Variable → ℕ
truth_number u x = place_by bytes_eq (texts u.truths.items) (string_bytes x.name)

abbrev pub token_number : Unknowns → TokenPart → ℕ
token_number u p = place_by parts_same (map token_part_view u.tokens.items) (token_part_view p)

abbrev pub equating : Bool → ℕ → ℕ → Demand
equating true x y = demand.Same x y
equating false x y = demand.Apart x y

-- the ways for a comparison to hold; of two constants it is decided
abbrev pub comparing : Unknowns → Comparison → WholePart → WholePart → List (List Demand)
comparing u c m n = if are_constants m n then decided (compared c m.constant n.constant) else ways_of c (part_of u m) (part_of u n)

-- the ways for two tokens to be equal, or to differ; tokens of two sorts differ
abbrev pub token_ways : KoreSignature → Unknowns → Bool → TokenPart → TokenPart → List (List Demand)
token_ways g u b p q = if are_alike g p q then (equating b (token_number u p) (token_number u q) ∷ []) ∷ [] else decided (not b)

-- the ways for a form to hold: heads and solved equations ask nothing of unknowns
abbrev pub form_ways : KoreSignature → Unknowns → LiteralForm → List (List Demand)
form_ways g u (Compares c m n) = comparing u (comparison_view c) m n
form_ways g u (Truth x b) = (demand.Truth (truth_number u x.now) b ∷ []) ∷ []
form_ways g u (Equates b p q) = token_ways g u b p q
form_ways g u (Asks x test b) = decided true
form_ways g u (Gives x t) = decided true

-- a literal that isn't decided has none
abbrev pub said_ways : KoreSignature → Unknowns → Option LiteralForm → List (List Demand)
said_ways g u (Some f) = form_ways g u f
said_ways g u None = []

abbrev pub clause_ways : KoreSignature → Unknowns → List ReadLiteral → List (List Demand)
clause_ways g u c = flat_map (λ l. said_ways g u l.form) c

-- the constants of a comparison are near, where it has a variable
abbrev pub AreSidesNear : Unknowns → WholePart → WholePart → Type 0
AreSidesNear u m n = are_constants m n ≡ false → AreNear (part_of u m) (part_of u n) × AreNear (part_of u n) (part_of u m)

abbrev pub IsNear : Unknowns → LiteralForm → Type 0
IsNear u (Compares c m n) = AreSidesNear u m n
IsNear u f = ⊤

abbrev pub IsSaidNear : Unknowns → Option LiteralForm → Type 0
IsSaidNear u (Some f) = IsNear u f
IsSaidNear u None = ⊤

abbrev pub AreNearIn : Unknowns → List ReadLiteral → Type 0
AreNearIn u c = AllByRecursion (λ l. IsSaidNear u l.form) c

abbrev pub items_of_ways : List (Vec Demand Global) → List (List Demand)
items_of_ways ways = map (λ w. w.items) ways

-- ---- what is asked by all clauses

abbrev pub IsAskedMet : Assignment → AskedDemands → Type 0
IsAskedMet a x = AllByRecursion (IsMetBy a) x.demands.items × AllByRecursion (HasWay a) (choices_of x.choices.items)

abbrev pub AreWaysSized : Sizes → List (List Demand) → Type 0
AreWaysSized s = AllByRecursion (AllByRecursion (IsSized s))

abbrev pub IsAskedSized : Sizes → AskedDemands → Type 0
IsAskedSized s x = AllByRecursion (IsSized s) x.demands.items × AllByRecursion (AreWaysSized s) (choices_of x.choices.items)

-- each clause has a way whose demands are met
abbrev pub HasWays : KoreSignature → Assignment → Unknowns → List (Vec ReadLiteral Global) → Type 0
HasWays g a u cs = AllByRecursion (λ c. HasWay a (clause_ways g u c.items)) cs

-- the demands of all ways are of the sizes
abbrev pub HasSizedWays : KoreSignature → Sizes → Unknowns → List (Vec ReadLiteral Global) → Type 0
HasSizedWays g s u cs = AllByRecursion (λ c. AreWaysSized s (clause_ways g u c.items)) cs

-- the tables have room for as many unknowns
abbrev pub HasRoomFor : Unknowns → Tables → Type 0
HasRoomFor u t = (s : Sizes) → s.wholes ≡ length u.wholes.items → s.truths ≡ length u.truths.items → s.classes ≡ length u.tokens.items → AreSizesOf s t
