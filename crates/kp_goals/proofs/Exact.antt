-- An instance of a part is one of the consequent's body where the goals are true, and else isn't.
use Rattle.std.specs.Prelude.{List, [], ◌∷◌, ◌++◌}
use Rattle.std.specs.List.{AllByRecursion, Contains}
use Rattle.std.proofs.Common.{sym, subst}
use Rattle.kp_kore.specs.Syntax.{KorePattern}
use Rattle.kp_kore.specs.Parts.{SortedName}
use Rattle.kp_kore.specs.Signature.{KoreSignature}
use Rattle.kp_kore.specs.Value.{Value, HasSort}
use Rattle.kp_kore.specs.Instance.{Valuation, GivesSorts, AgreesOn, AgreesOff}
use Rattle.kp_kore.specs.Rules.{top_binders}
use Rattle.kp_kore.specs.Implied.{Chooses}
use Rattle.kp_symbolic.specs.Terms.{Replaced}
use Rattle.kp_symbolic.specs.States.{Literal, IsClauseTrue, AreTrue, SymbolicState, IsStateInstance}
use Rattle.kp_case_laws.specs.Parts.{DependsOnHand}
use Rattle.kp_goals.specs.Exact.{ArePut, IsExact, AreClear, ClauseDepends, CanBePut, HasBody}
use Rattle.kp_kore.proofs.TurnLemmas.{of_member}
use Rattle.kp_goals.proofs.Core.{given_both}

-- ---- values of the bound variables leave those at hand

pub same_on : (c : KorePattern) (w x : Valuation) (hand : List SortedName) → AgreesOff (top_binders c) w x → AreClear c hand → AgreesOn hand w x
same_on c w x [] off clear = tt
same_on c w x (y ∷ ys) off clear = (off y.name clear.0, same_on c w x ys off clear.1)

pub back_on : (w x : Valuation) (hand : List SortedName) → AgreesOn hand w x → AgreesOn hand x w
back_on w x [] h = tt
back_on w x (y ∷ ys) h = (sym h.0, back_on w x ys h.1)

sorts_on : (g : KoreSignature) (w x : Valuation) (hand : List SortedName) → AgreesOn hand w x → GivesSorts g w hand → GivesSorts g x hand
sorts_on g w x [] h s = tt
sorts_on g w x (y ∷ ys) h s = (subst (HasSort g y.sort) (sym h.0) s.0, sorts_on g w x ys h.1 s.1)

pub all_sorts : (g : KoreSignature) (c : KorePattern) (w x : Valuation) (hand : List SortedName) → Chooses g c w x → AreClear c hand → GivesSorts g w hand → GivesSorts g x (hand ++ top_binders c)
all_sorts g c w x hand chooses clear s = given_both g x hand (top_binders c) (sorts_on g w x hand (same_on c w x hand chooses.agrees clear) s) chooses.sorts

-- ---- goals

pub goals_on : (g : KoreSignature) (hand : List SortedName) (v w : Valuation) (cs : List (List Literal)) → AllByRecursion (ClauseDepends g hand) cs → AgreesOn hand v w → AreTrue g v cs → AreTrue g w cs
goals_on g hand v w [] d on h = tt
goals_on g hand v w (c ∷ cs) d on h = (d.0 v w on h.0, goals_on g hand v w cs d.1 on h.1)

-- where the goals, which speak of the variables at hand alone, are true, the instance is one of the body
pub bodied : (g : KoreSignature) (c : KorePattern) (s : SymbolicState) (put : List Replaced) (goals : List (List Literal)) (w : Valuation) (u : Value) → IsExact g c s put goals → DependsOnHand g s →
    AreClear c s.variables → CanBePut g c s put → AllByRecursion (ClauseDepends g s.variables) goals → GivesSorts g w s.variables → IsStateInstance g w s u → AreTrue g w goals → HasBody g c w u
bodied g c s put goals w u exact depends clear can on sorts met holds =
    let x : (x : Valuation) × Chooses g c w x × ArePut g x put = can w sorts in
    let agree : AgreesOn s.variables w x.0 = same_on c w x.0 s.variables x.1.agrees clear in
    (x.0, x.1, (exact.says x.0 u (all_sorts g c w x.0 s.variables x.1 clear sorts) (depends w x.0 u agree met) x.2).0 (goals_on g s.variables w x.0 goals on agree holds))

-- where a goal that speaks of the variables at hand alone is false, it is none
pub refuted : (g : KoreSignature) (c : KorePattern) (s : SymbolicState) (put : List Replaced) (goals : List (List Literal)) (goal : List Literal) (w : Valuation) (u : Value) → IsExact g c s put goals →
    DependsOnHand g s → AreClear c s.variables → Contains goals goal → ClauseDepends g s.variables goal → GivesSorts g w s.variables → IsStateInstance g w s u → ¬ IsClauseTrue g w goal → ¬ HasBody g c w u
refuted g c s put goals goal w u exact depends clear among on sorts met fails b =
    let agree : AgreesOn s.variables w b.0 = same_on c w b.0 s.variables b.1.agrees clear in
    let given : GivesSorts g b.0 (s.variables ++ top_binders c) = all_sorts g c w b.0 s.variables b.1 clear sorts in
    let here : IsStateInstance g b.0 s u = depends w b.0 u agree met in
    let all : AreTrue g b.0 goals = (exact.says b.0 u given here (exact.gives b.0 u given here b.2)).1 b.2 in
    fails (on b.0 w (back_on w b.0 s.variables agree) (of_member (IsClauseTrue g b.0) goals goal all among))
