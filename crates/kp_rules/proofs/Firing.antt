-- Where a rule fires, from its match, its tests and its condition.
use Rattle.std.proofs.Common.{◌≡◌, refl, sym, ap, subst, ◌∙◌, ℕ, ◌+◌, ◌<◌, Bool, true, false, ◌↔◌, List, [], length, get_or, drop}
use Rattle.std.specs.Prelude.{⊤, Option, Some, None, Ok, Err, Vec, MatchOption, IfSome}
use Rattle.std.specs.declared.alloc.Global.{Global}
use Rattle.std.specs.List.{AllByRecursion}
use Rattle.std.proofs.lemmas.List.{drop_more}
use Rattle.kp_kore.specs.Signature.{KoreSignature}
use Rattle.kp_kore.specs.Value as model
use Rattle.kp_kore.specs.Instance.{Valuation}
use Rattle.kp_ground.specs.Slots.{left_variables}
use Rattle.kp_ground.specs.Solves.{Solves, bound_names}
use Rattle.kp_ground.specs.Matches.{IsSolvable}
use Rattle.kp_ground.specs.Conditions.{condition_holds, condition_narrow}
use Rattle.kp_ground.specs.ConditionView.{condition_view, GivesTruth}
use Rattle.kp_ground.specs.declared.binding.Binding.{Binding}
use Rattle.kp_ground.specs.declared.left_side.CompiledLeft.{CompiledLeft}
use Rattle.kp_ground.specs.declared.evaluate.EvaluationError.{EvaluationError}
use Rattle.kp_ground.specs.declared.evaluate.EvaluationError.TheVariants.{Memory, Number}
use Rattle.kp_rules.specs.declared.rule.Rewrite.{Rewrite}
use Rattle.kp_rules.specs.declared.rule.SortTest.{SortTest}
use Rattle.kp_rules.specs.Heads.{HasHead, FiresAs, Meets, FindsFiring, IsWide, Binds, PassAs}

-- all of a list pass exactly where what is left of it does
abbrev pub Rests : KoreSignature → List Binding → List SortTest → ℕ → Type 0
Rests g bindings tests i = (v : Valuation) → Solves v bindings → AllByRecursion (HasHead g v) tests ↔ AllByRecursion (HasHead g v) (drop i tests)

next : (g : KoreSignature) (tests : List SortTest) (i : ℕ) (t : SortTest) (v : Valuation) → i < length tests →
    AllByRecursion (HasHead g v) tests ↔ AllByRecursion (HasHead g v) (drop i tests) →
    AllByRecursion (HasHead g v) tests ↔ (HasHead g v (get_or tests i t) × AllByRecursion (HasHead g v) (drop (i + 1) tests))
next g tests i t v h k = subst (λ ts. AllByRecursion (HasHead g v) tests ↔ AllByRecursion (HasHead g v) ts) (drop_more tests i t h) k

pub one_passes : (g : KoreSignature) (bindings : List Binding) (tests : List SortTest) (i : ℕ) (t : SortTest) (b : Bool) → i < length tests → t ≡ get_or tests i t → b ≡ true →
    ((v : Valuation) → Solves v bindings → (b ≡ true) ↔ HasHead g v t) → Rests g bindings tests i → Rests g bindings tests (i + 1)
one_passes g bindings tests i t b h e so p k = λ v s.
    let n : AllByRecursion (HasHead g v) tests ↔ (HasHead g v (get_or tests i t) × AllByRecursion (HasHead g v) (drop (i + 1) tests)) = next g tests i t v h (k v s) in (
      (λ a. (n.0 a).1),
      (λ r. n.1 (subst (HasHead g v) e ((p v s).0 so), r)),
    )

pub one_fails : (g : KoreSignature) (bindings : List Binding) (tests : List SortTest) (i : ℕ) (t : SortTest) (b : Bool) → i < length tests → t ≡ get_or tests i t → b ≡ false →
    ((v : Valuation) → Solves v bindings → (b ≡ true) ↔ HasHead g v t) → Rests g bindings tests i →
    (v : Valuation) → Solves v bindings → (false ≡ true) ↔ AllByRecursion (HasHead g v) tests
one_fails g bindings tests i t b h e so p k = λ v s.
    let n : AllByRecursion (HasHead g v) tests ↔ (HasHead g v (get_or tests i t) × AllByRecursion (HasHead g v) (drop (i + 1) tests)) = next g tests i t v h (k v s) in (
      (λ f. absurd (cc)),
      (λ a. sym so ∙ (p v s).1 (subst (HasHead g v) (sym e) (n.0 a).0)),
    )

pub all_passed : (g : KoreSignature) (bindings : List Binding) (tests : List SortTest) (i : ℕ) → drop i tests ≡ [] → Rests g bindings tests i →
    (v : Valuation) → Solves v bindings → (true ≡ true) ↔ AllByRecursion (HasHead g v) tests
all_passed g bindings tests i e k = λ v s.
    let n : AllByRecursion (HasHead g v) tests ↔ ⊤ = subst (λ ts. AllByRecursion (HasHead g v) tests ↔ AllByRecursion (HasHead g v) ts) e (k v s) in
    ((λ _. n.1 tt), (λ _. refl))

pub none_fires : (g : KoreSignature) (r : Rewrite) (bindings : List Binding) (u : model.Value) (passed : Bool) → passed ≡ false → Binds r bindings u → PassAs g r bindings passed →
    (v : Valuation) → ¬ FiresAs g r u v
none_fires g r bindings u passed e binds pass = λ v f.
    let s : Solves v bindings = (binds v).1 f.0.matches in
    let t : passed ≡ true = (pass v s).1 f.0.tests in
    absurd (cc)

pub fires_kept : (g : KoreSignature) (r : Rewrite) (bindings : List Binding) (u : model.Value) (passed holds : Bool) (o : Option (Vec Binding Global)) → passed ≡ true →
    GivesTruth (Ok holds) bindings (condition_view r.condition) → MatchOption o (holds ≡ false) (λ kept. (kept.items ≡ bindings) × (holds ≡ true)) →
    Binds r bindings u → PassAs g r bindings passed → FindsFiring (Ok o) g r u
fires_kept g r bindings u passed holds None e gives failed binds pass = λ v f.
    let s : Solves v bindings = (binds v).1 f.0.matches in
    let same : holds ≡ condition_holds v (condition_view r.condition) = (gives v s).0 in
    let is : condition_holds v (condition_view r.condition) ≡ true = f.1 in
    absurd (cc)
fires_kept g r bindings u passed holds (Some kept) e gives so binds pass = λ v. (
  (λ k. let s : Solves v bindings = subst (Solves v) so.0 k in
      (record { matches = (binds v).0 s; tests = (pass v s).0 e }, sym (gives v s).0 ∙ so.1)),
  (λ f. subst (Solves v) (sym so.0) ((binds v).1 f.0.matches)),
)

pub fires_not_told : (g : KoreSignature) (r : Rewrite) (bindings : List Binding) (u : model.Value) (e : EvaluationError) →
    GivesTruth (Err e) bindings (condition_view r.condition) → Binds r bindings u → FindsFiring (Err e) g r u
fires_not_told g r bindings u Memory gives binds = tt
fires_not_told g r bindings u Number gives binds = λ v m. gives v ((binds v).1 m.matches)

-- what is kept has the names of the bindings
pub kept_bound : (l : CompiledLeft) (bindings : List Binding) (holds : Bool) (o : Option (Vec Binding Global)) → MatchOption o (holds ≡ false) (λ kept. (kept.items ≡ bindings) × (holds ≡ true)) →
    bound_names bindings ≡ left_variables l → IfSome o (λ new. bound_names new.items ≡ left_variables l)
kept_bound l bindings holds None kept e = tt
kept_bound l bindings holds (Some new) kept e = ap bound_names kept.0 ∙ e

-- ---- numbers beyond 128 bits

pub none_meets : (g : KoreSignature) (r : Rewrite) (bindings : List Binding) (u : model.Value) (passed : Bool) → passed ≡ false → Binds r bindings u → PassAs g r bindings passed →
    (v : Valuation) → ¬ Meets g r v u
none_meets g r bindings u passed e binds pass = λ v m.
    let s : Solves v bindings = (binds v).1 m.matches in
    let t : passed ≡ true = (pass v s).1 m.tests in
    absurd (cc)

pub narrow_told : (g : KoreSignature) (r : Rewrite) (bindings : List Binding) (u : model.Value) (holds : Bool) →
    GivesTruth (Ok holds) bindings (condition_view r.condition) → Binds r bindings u →
    (v : Valuation) → Meets g r v u → condition_narrow v (condition_view r.condition) ≡ true
narrow_told g r bindings u holds gives binds = λ v m. (gives v ((binds v).1 m.matches)).1

pub wide_told : (g : KoreSignature) (r : Rewrite) (bindings : List Binding) (u : model.Value) (passed : Bool) (e : EvaluationError) → passed ≡ true →
    GivesTruth (Err e) bindings (condition_view r.condition) → Binds r bindings u → PassAs g r bindings passed → IsSolvable bindings → e ≡ Number → IsWide g r u
wide_told g r bindings u passed e so gives binds pass solvable is =
    let number : GivesTruth (Err Number) bindings (condition_view r.condition) = subst (λ x. GivesTruth (Err x) bindings (condition_view r.condition)) is gives in
    record {
      valuation = solvable.0;
      meets = record { matches = (binds solvable.0).0 solvable.1; tests = (pass solvable.0 solvable.1).0 so };
      wide = number solvable.0 solvable.1;
    }
