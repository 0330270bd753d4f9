-- Names of variables with their sorts, and left sides that stand for the same with each name at a sort of what its sorts share.
-- Source: the K framework's Kore language (sorts of variables).
use Rattle.std.specs.Prelude.{◌≡◌, ◌↔◌, List}
use Rattle.std.specs.List.{AllByRecursion}
use Rattle.kp_kore.specs.Syntax.{Text, KoreSort}
use Rattle.kp_kore.specs.Parts.{SortedName}
use Rattle.kp_kore.specs.Signature.{KoreSignature}
use Rattle.kp_kore.specs.Value.{Value, Values, HasSort}
use Rattle.kp_kore.specs.Instance.{Valuation, GivesSorts}
use Rattle.kp_rules.specs.Skeletons.{Form, Forms, Admits, AdmitAll}

-- each variable of the name has the sort
abbrev pub HasOnly : Text → KoreSort → List SortedName → Type 0
HasOnly name sort xs = AllByRecursion (λ y. y.name ≡ name → y.sort ≡ sort) xs

-- each variable has the sort of those of its name among the others
abbrev pub HaveOnlySortsOf : List SortedName → List SortedName → Type 0
HaveOnlySortsOf others xs = AllByRecursion (λ x. HasOnly x.name x.sort others) xs

-- ---- a sort of what sorts share

-- the value has each sort of the name
abbrev pub HasEachOf : KoreSignature → Text → List SortedName → Value → Type 0
HasEachOf g name xs u = AllByRecursion (λ y. y.name ≡ name → HasSort g y.sort u) xs

-- exactly the values of the sort that have each sort of the name
abbrev pub IsLowest : KoreSignature → Text → KoreSort → List SortedName → KoreSort → Type 0
IsLowest g name sort xs low = (u : Value) → HasSort g low u ↔ (HasSort g sort u × HasEachOf g name xs u)

-- the one form stands for nothing that the other doesn't stand for; and for all of it, where these variables have values of their
-- sorts
abbrev pub IsLowered : KoreSignature → List SortedName → Form → Form → Type 0
IsLowered g xs form low = (v : Valuation) (u : Value) → (Admits g v low u → Admits g v form u) × (GivesSorts g v xs → Admits g v form u → Admits g v low u)

abbrev pub AreLowered : KoreSignature → List SortedName → Forms → Forms → Type 0
AreLowered g xs forms lows = (v : Valuation) (us : Values) → (AdmitAll g v lows us → AdmitAll g v forms us) × (GivesSorts g v xs → AdmitAll g v forms us → AdmitAll g v lows us)
