-- Which values a skeleton stands for.
use Rattle.std.specs.Prelude.{◌≡◌, ◌↔◌, ℕ, List, [], ◌∷◌, map, Option, Some, None, true, false, ⊤, string_bytes}
use Rattle.kp_kore.specs.Syntax.{Text, KoreSort, sort_of, sort_variable, KorePattern, KorePatterns}
use Rattle.kp_kore.specs.Signature.{KoreSignature, IsHeadOf}
use Rattle.kp_kore.specs.View.{sort_view}
use Rattle.kp_kore.specs.Value.{Value, Values, no_values, next_value, HasSort, head_of}
use Rattle.kp_kore.specs.Instance.{Valuation, literal_value}
use Rattle.kp_kore.specs.Foreign.{IsConstructedBy, MayBe, MayBeAll, MayBeOnly, writes_value}
use Rattle.kp_ground.specs.Solves.{Solves}
use Rattle.kp_ground.specs.View.{value_view}
use Rattle.kp_ground.specs.declared.binding.Binding.{Binding}
use Rattle.kp_rules.specs.declared.skeleton.Skeleton.{Skeleton, fold-Skeleton}
use Rattle.kp_rules.specs.declared.skeleton.Skeleton.TheOpen.{Skeleton-F}

mutual
  pub data Form : Type 0 where
    anything nothing : Form
    any_of : KoreSort → Form
    one_of : Text → KoreSort → Form
    fixed : Value → Form
    built : Text → Forms → Form

  pub data Forms : Type 0 where
    no_forms : Forms
    next_form : Form → Forms → Forms

abbrev pub forms_of : List Form → Forms
forms_of [] = no_forms
forms_of (k ∷ ks) = next_form k (forms_of ks)

-- one level, with each argument already seen as its form
abbrev pub skeleton_step : Skeleton-F Form → Form
skeleton_step Skeleton-F.Anything = anything
skeleton_step Skeleton-F.Nothing = nothing
skeleton_step (Skeleton-F.Any s) = any_of (sort_view s)
skeleton_step (Skeleton-F.Variable x s) = one_of (string_bytes x.value) (sort_view s)
skeleton_step (Skeleton-F.Fixed u) = fixed (value_view u)
skeleton_step (Skeleton-F.Built c ks) = built (string_bytes c.value) (forms_of ks.items)

abbrev pub skeleton_view : Skeleton → Form
skeleton_view = fold-Skeleton Form skeleton_step

-- the value may stand for the form under a valuation
abbrev mutual
  pub Admits : KoreSignature → Valuation → Form → Value → Type 0
  Admits g v anything u = ⊤
  Admits g v nothing u = ⊥
  Admits g v (any_of s) u = HasSort g s u
  Admits g v (one_of x s) u = (u ≡ v x) × HasSort g s u
  Admits g v (fixed w) u = u ≡ w
  Admits g v (built f ks) u = IsConstructedBy f (AdmitAll g v ks) u

  pub AdmitAll : KoreSignature → Valuation → Forms → Values → Type 0
  AdmitAll g v no_forms no_values = ⊤
  AdmitAll g v (next_form k ks) (next_value u us) = Admits g v k u × AdmitAll g v ks us
  AdmitAll g v no_forms (next_value u us) = ⊥
  AdmitAll g v (next_form k ks) no_values = ⊥

-- the value may stand for the skeleton
abbrev pub IsAdmitted : KoreSignature → Skeleton → Value → Type 0
IsAdmitted g k u = (v : Valuation) × Admits g v (skeleton_view k) u

-- ---- forms of parts of left terms

-- any value of the sort; of a sort variable, any value
abbrev pub any_form : KoreSort → Form
any_form (sort_of n ss) = any_of (sort_of n ss)
any_form (sort_variable n) = anything

abbrev pub maybe_form : Option KoreSort → Form
maybe_form (Some s) = any_form s
maybe_form None = anything

-- the value that a literal of the sort writes, where it writes one
abbrev pub Writes : KoreSignature → KoreSort → Text → Option Value → Type 0
Writes g s text (Some u) = (writes_value g s text ≡ true) × (u ≡ literal_value g s text)
Writes g s text None = writes_value g s text ≡ false

-- the form stands for the same values as the part of a left term, at so many levels
abbrev pub StandsFor : KoreSignature → ℕ → KorePattern → Form → Type 0
StandsFor g n p k = (v : Valuation) (u : Value) → Admits g v k u ↔ MayBe g v n p u

-- the same of lists, and of the first of a list
abbrev pub StandForAll : KoreSignature → ℕ → KorePatterns → List Skeleton → Type 0
StandForAll g n ps ks = (v : Valuation) (us : Values) → AdmitAll g v (forms_of (map skeleton_view ks)) us ↔ MayBeAll g v n ps us

abbrev pub StandsForFirst : KoreSignature → ℕ → KorePatterns → Form → Type 0
StandsForFirst g n ps k = (v : Valuation) (u : Value) → Admits g v k u ↔ MayBeOnly g v n ps u

-- ---- as the code tests it: a value's sort by its head

abbrev mutual
  pub Shows : KoreSignature → Valuation → Form → Value → Type 0
  Shows g v anything u = ⊤
  Shows g v nothing u = ⊥
  Shows g v (any_of s) u = IsHeadOf g s (head_of u)
  Shows g v (one_of x s) u = (v x ≡ u) × IsHeadOf g s (head_of u)
  Shows g v (fixed w) u = w ≡ u
  Shows g v (built f ks) u = IsConstructedBy f (ShowAll g v ks) u

  pub ShowAll : KoreSignature → Valuation → Forms → Values → Type 0
  ShowAll g v no_forms no_values = ⊤
  ShowAll g v (next_form k ks) (next_value u us) = Shows g v k u × ShowAll g v ks us
  ShowAll g v no_forms (next_value u us) = ⊥
  ShowAll g v (next_form k ks) no_values = ⊥

-- some valuation gives each bound variable its value
abbrev pub IsSolvable : List Binding → Type 0
IsSolvable bindings = (v : Valuation) × Solves v bindings
