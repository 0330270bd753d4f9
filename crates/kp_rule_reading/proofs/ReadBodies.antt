-- From what is read of a rewrite axiom to its rule's body.
use Rattle.std.proofs.Common.{◌≡◌, refl, sym, ap, ◌∙◌, subst, ℕ, Bool, true, false, not, List, [], ◌∷◌, Option, Some, None, Bor, ◌↔◌, inl, inr}
use Rattle.std.specs.Prelude.{IsTrue, min, unwrap_or, Result, Ok, Err, OnOk}
use Rattle.std.specs.Bool.{Decides}
use Rattle.std.specs.List.{AllByRecursion}
use Rattle.kp_kore.specs.Syntax.{KoreSort, KorePattern, Statement, rewriting}
use Rattle.kp_kore.specs.Parts.{free_variables, subpatterns}
use Rattle.kp_kore.specs.Signature.{KoreSignature}
use Rattle.kp_kore.specs.Sorting.{sort_of_term}
use Rattle.kp_kore.specs.View.{view}
use Rattle.kp_kore.specs.declared.pattern.Pattern.{Pattern}
use Rattle.kp_kore.specs.Value.{HasSort}
use Rattle.kp_kore.specs.Instance.{Valuation, instance, GivesSorts, is_named, IsTrueUnder}
use Rattle.kp_kore.specs.Rules as model
use Rattle.kp_kore.specs.Foreign.{IsRead, Reads, none_within, has_foreign_head, applies_undeclared, is_read_priority}
use Rattle.kp_signature.specs.Places.{Place, the_top}
use Rattle.kp_signature.specs.Faults.{fault_view}
use Rattle.kp_signature.specs.Verify.{VerifyFault, FailsWith, first_fault}
use Rattle.kp_signature.specs.declared.error.VerifyError.{VerifyError}
use Rattle.kp_compile.specs.Verified.{misapplies_injection}
use Rattle.kp_rules.specs.Bodies.{IsBodyOf, IsReadAs, IsRewriteOf, IsVerifiedLeft, IsConstrained, HasFault, IsFaulty}
use Rattle.kp_rule_reading.specs.Priorities.{Tells}
use Rattle.kp_rule_reading.specs.ReadRules.{IsStatementRead, IsReadBody, IsMadeOf, IsSound, IsShapeRead, IsLeftSideRead, is_plain_by, rule_error}
use Rattle.kp_rule_reading.specs.declared.read.RuleError.TheVariants.{Fault}
use Rattle.kp_rules.specs.Shapes.{seen}
use Rattle.kp_rule_reading.specs.declared.priority.Priority.{Priority}
use Rattle.kp_rules.specs.declared.rule.RuleBody.{RuleBody}
use Rattle.kp_rules.specs.declared.rule.RuleBody.TheVariants.{Rewrite}
use Rattle.kp_rules.specs.declared.rule.Rewrite as code
use Rattle.kp_rules.specs.declared.shape.Shape.{Shape}
use Rattle.kp_rule_reading.proofs.ReadParts.{is_read, statement_read, side_read}
use Rattle.kp_rule_reading.proofs.Declared.{none_foreign}
use Rattle.kp_rules.specs.LeftSides.{IsLeftSide, IsOverLeft}
use Rattle.kp_rules.specs.Sides.{AreSidesOf}
use Rattle.kp_rules.specs.VerifiedSides.{AreVerifiedSides}
use Rattle.kp_rules.specs.declared.sides.ReadSides.{ReadSides}
use Rattle.kp_rule_reading.specs.LeftForms.{AreMadeSides}
use Rattle.kp_rule_reading.proofs.LeftForms.{is_left_side}
use Rattle.kp_rule_reading.proofs.Constrained.{is_constrained}
use Rattle.kp_rule_reading.proofs.LeftTerms.{left_is, constrained_is_term, left_passes}
use Rattle.kp_rule_reading.proofs.PlainRules.{plain, is_plain}
use Rattle.kp_rule_reading.proofs.SideVariables.{verified_sides}
use Rattle.kp_rule_reading.proofs.VerifiedSides.{sound, right_has_sort}

-- ---- the condition, one predicate by one

abbrev AreTrue : KoreSignature → Valuation → List (Bor Pattern) → Type 0
AreTrue g v = AllByRecursion (λ p. IsTrueUnder g v (view p.now))

true_seen : (g : KoreSignature) (v : Valuation) (ps : List (Bor Pattern)) → AreTrue g v ps ↔ AllByRecursion (IsTrueUnder g v) (seen ps)
true_seen g v [] = (λ h. h, λ h. h)
true_seen g v (p ∷ ps) = let rest = true_seen g v ps in (λ h. (h.0, rest.0 h.1), λ h. (h.0, rest.1 h.1))

pub decides_seen : (g : KoreSignature) (v : Valuation) (ps : List (Bor Pattern)) (b : Bool) → Decides b (AreTrue g v ps) → Decides b (AllByRecursion (IsTrueUnder g v) (seen ps))
decides_seen g v ps b d = let e = true_seen g v ps in (λ h. e.0 (d.0 h), λ h. d.1 (e.1 h))

-- ---- a rewrite

opposite : (b : Bool) → not b ≡ false → b ≡ true
opposite true h = refl
opposite false h = absurd (cc)

rewrite_is : (g : KoreSignature) (s : KoreSort) (r : KorePattern) (m : model.Rewrite) (w : code.Rewrite) → IsConstrained m → IsMadeOf g s m w → IsVerifiedLeft g m.left → AreSidesOf g m w.sides → AreVerifiedSides g m →
    m.new_variables ≡ model.new_variables_of m.left r → w.chooses ≡ not (is_plain_by (λ y. is_named y (free_variables m.left)) r m.ensured) →
    sort_of_term g m.right ≡ Some s →
    ((v : Valuation) → GivesSorts g v (free_variables m.left) → m.new_variables ≡ [] → HasSort g s (instance g v m.right)) → IsRewriteOf g m w
rewrite_is g s r m w constrained h left sides verified new e right sorted = record {
  left = h.left;
  tests = h.tests left;
  condition = h.condition;
  right = h.right;
  right_narrow = h.right_narrow;
  condition_narrow = h.condition_narrow;
  right_sort = subst (λ t. sort_of_term g m.right ≡ Some t) (sym h.right_sort) right;
  plain = λ f. plain m r new (opposite (is_plain_by (λ y. is_named y (free_variables m.left)) r m.ensured) (sym e ∙ f));
  chooses = λ t p. let so : is_plain_by (λ y. is_named y (free_variables m.left)) r m.ensured ≡ true = is_plain m r new p in
      let f : w.chooses ≡ false = e ∙ ap not so in absurd (cc);
  choice = h.choice;
  sides = sides;
  verified = verified;
  constrained = constrained;
  sorted = λ v gives none. subst (λ t. HasSort g t (instance g v m.right)) (sym h.right_sort) (sorted v gives none);
}

verified_left : (g : KoreSignature) (a : Statement) (s : KoreSort) (l r : KorePattern) (m : model.Rewrite) → a.pattern ≡ rewriting s l r → model.rewrite_of (rewriting s l r) ≡ Some m →
    IsRead g a.parameters a.attributes a.pattern m → none_within (applies_undeclared g) a.pattern ≡ true → (c : Place) × (first_fault g c m.left ≡ None) → IsVerifiedLeft g m.left
verified_left g a s l r m e shape h declared place =
    let is : model.constrained_term l ≡ Some m.left = left_is s l r m shape in (
      constrained_is_term l m.left is,
      left_passes (λ q. not (has_foreign_head g q)) s l r m.left is (subst (λ p. IsTrue (none_within (has_foreign_head g) p)) e (none_foreign g (subpatterns a.pattern) h.no_foreign_symbol declared)),
      h.left_uninterpreted,
      place,
    )

-- the sides that are made are the rule's
sides_are : (g : KoreSignature) (m : model.Rewrite) (w : ReadSides) → IsVerifiedLeft g m.left → none_within (misapplies_injection g) m.left ≡ true → IsOverLeft m → AreMadeSides g m w → AreSidesOf g m w
sides_are g m w verified injections over made = record {
  left = subst (IsLeftSide g m) (sym made.left) (is_left_side g m (record { term = verified.0; known = verified.1; uninterpreted = verified.2; injections = injections }));
  form = made.left;
  over_left = over;
  condition = made.condition;
  right = made.right;
  ensured = made.ensured;
  new_variables = made.new_variables;
}

pub rewrite_body : (g : KoreSignature) (a : Statement) (s : KoreSort) (l r : KorePattern) (m : model.Rewrite) (w : code.Rewrite) → a.pattern ≡ rewriting s l r →
    (first_fault g the_top (rewriting s l r) ≡ None → model.rewrite_of (rewriting s l r) ≡ Some m → (c : Place) × (first_fault g c m.left ≡ None)) →
    (first_fault g the_top (rewriting s l r) ≡ None → model.rewrite_of (rewriting s l r) ≡ Some m → IsTrue (none_within (has_foreign_head g) (rewriting s l r)) → (v : Valuation) → GivesSorts g v (free_variables m.left) → m.new_variables ≡ [] → HasSort g s (instance g v m.right)) →
    IsStatementRead g a → model.rewrite_of (rewriting s l r) ≡ Some m → IsLeftSideRead g m.left m.condition → first_fault g the_top a.pattern ≡ None → none_within (misapplies_injection g) a.pattern ≡ true → none_within (applies_undeclared g) a.pattern ≡ true →
    m.new_variables ≡ model.new_variables_of m.left r → IsMadeOf g s m w → w.chooses ≡ not (is_plain_by (λ y. is_named y (free_variables m.left)) r m.ensured) → IsReadBody g a (Rewrite w)
rewrite_body g a s l r m w e place sorted statement shape side fault injections declared new made chooses =
    let read : IsRead g a.parameters a.attributes a.pattern m = is_read g a m statement (ap model.rewrite_of e ∙ shape) side in
    let none : first_fault g the_top (rewriting s l r) ≡ None = subst (λ p. first_fault g the_top p ≡ None) e fault in
    let own : IsTrue (none_within (has_foreign_head g) (rewriting s l r)) = subst (λ p. IsTrue (none_within (has_foreign_head g) p)) e (none_foreign g (subpatterns a.pattern) read.no_foreign_symbol declared) in
    let left : IsVerifiedLeft g m.left = verified_left g a s l r m e shape read declared (place none shape) in
    let passes : none_within (misapplies_injection g) m.left ≡ true = left_passes (λ q. not (misapplies_injection g q)) s l r m.left (left_is s l r m shape) (subst (λ p. none_within (misapplies_injection g) p ≡ true) e injections) in
    record {
      meant = model.rewrite m;
      reads = read;
      is_body = rewrite_is g s r m w (is_constrained s l r m shape) made left (sides_are g m w.sides left passes read.condition_variables made.sides) (verified_sides g a s l r m e read fault injections declared) new chooses (right_has_sort g a s l r m e read fault injections declared) (sorted none shape own);
    }

-- ---- faults

pub faulty : (g : KoreSignature) (a : Statement) (m : model.Rewrite) → IsStatementRead g a → model.rewrite_of a.pattern ≡ Some m → IsLeftSideRead g m.left m.condition → HasFault g a.pattern → IsFaulty g a
faulty g a m statement shape side fault = record { rule = m; read = is_read g a m statement shape side; has = fault }

pub sound_where_read : (g : KoreSignature) (a : Statement) (s : KoreSort) (l r : KorePattern) (m : model.Rewrite) → a.pattern ≡ rewriting s l r → IsStatementRead g a → model.rewrite_of (rewriting s l r) ≡ Some m →
    IsLeftSideRead g m.left m.condition → first_fault g the_top a.pattern ≡ None → none_within (misapplies_injection g) a.pattern ≡ true → none_within (applies_undeclared g) a.pattern ≡ true → IsSound g m
sound_where_read g a s l r m e statement shape side fault injections declared = sound g a s l r m e (is_read g a m statement (ap model.rewrite_of e ∙ shape) side) fault injections declared

pub no_fault : (g : KoreSignature) (a : Statement) → first_fault g the_top a.pattern ≡ None → none_within (misapplies_injection g) a.pattern ≡ true → none_within (applies_undeclared g) a.pattern ≡ true → ¬ IsFaulty g a
no_fault g a none injections declared h = elim h.has [
  | inl f ↦ absurd (cc (sym none ∙ f.1))
  | inr more ↦ elim more [ inl e ↦ absurd (cc (sym injections ∙ e)) | inr e ↦ absurd (cc (sym declared ∙ e)) ]
]

pub not_faulty : (g : KoreSignature) (a : Statement) → ((m : model.Rewrite) → ¬ IsRead g a.parameters a.attributes a.pattern m) → ¬ IsFaulty g a
not_faulty g a none h = none h.rule h.read

-- what is so is so at an answer too
pub at_ok : {T E : Type 0} (r : Result T E) (P : Type 0) → P → OnOk r P
at_ok (Ok x) P h = h
at_ok (Err e) P h = tt

-- ---- a foreign rule

abbrev left_of : KoreSort → KorePattern → model.RuleBody
left_of s l = model.foreign_rule (record { sort = s; term = model.constrained_term l })

pub foreign_by_statement : (g : KoreSignature) (a : Statement) (s : KoreSort) (l r : KorePattern) (b : RuleBody) → a.pattern ≡ rewriting s l r → ¬ IsStatementRead g a → IsBodyOf g (left_of s l) b → IsReadBody g a b
foreign_by_statement g a s l r b e refused body = record {
  meant = left_of s l;
  reads = (ap model.foreign_left e, λ m h. refused (statement_read g a m h));
  is_body = body;
}

pub shape_told : (g : KoreSignature) (p r : KorePattern) (o : Option Shape) (shape : Shape) → o ≡ Some shape → IsShapeRead g p r o → IsShapeRead g p r (Some shape)
shape_told g p r o shape e h = subst (IsShapeRead g p r) e h

pub unread_by_shape : (g : KoreSignature) (a : Statement) (s : KoreSort) (l r : KorePattern) (o : Option Shape) → a.pattern ≡ rewriting s l r → o ≡ None → IsShapeRead g (rewriting s l r) r o →
    (m : model.Rewrite) → ¬ IsRead g a.parameters a.attributes a.pattern m
unread_by_shape g a s l r o e none told = λ m h.
    let refused : IsShapeRead g (rewriting s l r) r None = subst (IsShapeRead g (rewriting s l r) r) none told in
    refused m (ap model.rewrite_of (sym e) ∙ h.shape) (side_read g a m h)

pub foreign_by_shape : (g : KoreSignature) (a : Statement) (s : KoreSort) (l r : KorePattern) (b : RuleBody) (o : Option Shape) → a.pattern ≡ rewriting s l r → o ≡ None → IsShapeRead g (rewriting s l r) r o →
    IsBodyOf g (left_of s l) b → IsReadBody g a b
foreign_by_shape g a s l r b o e none told body = record {
  meant = left_of s l;
  reads = (ap model.foreign_left e, unread_by_shape g a s l r o e none told);
  is_body = body;
}

-- ---- with its priority

no_rewrite : (g : KoreSignature) (l : model.ForeignLeft) (b : RuleBody) (w : code.Rewrite) → b ≡ Rewrite w → ¬ IsBodyOf g (model.foreign_rule l) b
no_rewrite g l b w e h = subst (IsBodyOf g (model.foreign_rule l)) e h

pub read_as : (g : KoreSignature) (a : Statement) (p : Priority) (n : ℕ) (b : RuleBody) → Tells p (model.priority_of a.attributes) →
    ((stated : Option ℕ) → Tells p stated → IsTrue (is_read_priority stated) → stated ≡ Some n) →
    ((stated : Option ℕ) → Tells p stated → min (unwrap_or stated model.usual_priority) model.most_priority ≡ n) → IsReadBody g a b → IsReadAs g a n b
read_as g a p n b tells number kept h = record {
  meant = h.meant;
  reads = h.reads;
  is_body = h.is_body;
  is_priority = λ w e. number (model.priority_of a.attributes) tells (by h.meant h.reads h.is_body w e);
  is_foreign_priority = λ k e. kept (model.priority_of a.attributes) tells;
}
  where
    by : (meant : model.RuleBody) → Reads g a.parameters a.attributes a.pattern meant → IsBodyOf g meant b → (w : code.Rewrite) → b ≡ Rewrite w → IsTrue (is_read_priority (model.priority_of a.attributes))
    by (model.rewrite m) read body w e = read.priority
    by (model.foreign_rule l) read body w e = absurd (no_rewrite g l b w e body)

-- what the error of a verification says, where it says that there is a fault
pub fault_had : (g : KoreSignature) (p : KorePattern) (e : VerifyError) → ((f : VerifyFault) → fault_view e ≡ Some f → FailsWith g p f) → rule_error (fault_view e) ≡ Fault → HasFault g p
fault_had g p e told = by (fault_view e) told
  where
    by : (o : Option VerifyFault) → ((f : VerifyFault) → o ≡ Some f → FailsWith g p f) → rule_error o ≡ Fault → HasFault g p
    by (Some f) had is = inl (f, had f refl)
    by None had is = absurd (cc)
