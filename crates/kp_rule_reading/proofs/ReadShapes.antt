-- What is read of a rewrite's sides.
use Rattle.std.proofs.Common.{◌≡◌, sym, ap, subst, ◌∙◌, Bool, true, false, ◌&&◌, not, List, Option, Some, None, String}
use Rattle.std.specs.Prelude.{Result, Ok, Err, IfOk, MatchBool}
use Rattle.std.specs.List.{list_all}
use Rattle.std.specs.Option.{option_map}
use Rattle.std.specs.declared.alloc.Global.{Global}
use Rattle.indexmap.specs.IndexSet.{IndexSet, contains_text}
use Rattle.kp_kore.specs.Syntax.{Text, KorePattern}
use Rattle.kp_kore.specs.Parts.{SortedName, free_variables}
use Rattle.kp_kore.specs.Signature.{KoreSignature}
use Rattle.kp_kore.specs.View.{view}
use Rattle.kp_kore.specs.Instance.{is_named}
use Rattle.kp_kore.specs.Rules.{Rewrite, rewrite_of}
use Rattle.kp_kore.specs.Foreign.{LoneVariableSplits}
use Rattle.kp_rule_reading.specs.ReadRules.{Names, IsShapeRead, IsLeftSideRead, is_left_read, is_predicate_read, is_side_read, is_binder, is_top_pattern, is_plain_by}
use Rattle.kp_rules.specs.Shapes.{seen, rewrite_seen}
use Rattle.kp_rules.specs.declared.shape.Shape.{Shape}
use Rattle.kp_rule_reading.proofs.NameSets.{same_names, same_predicates}

names_same : {S : Type 0} (names : IndexSet (String Global) S) (xs ys : List SortedName) → Names names xs → xs ≡ ys → (y : Text) → contains_text names y ≡ is_named y ys
names_same names xs ys n e y = n y ∙ ap (is_named y) e

pub side_read_from : {S : Type 0} (g : KoreSignature) (names : IndexSet (String Global) S) (left : KorePattern) (xs : List SortedName) (cs : List KorePattern) (b : Bool) →
    is_left_read g left ≡ true → Names names xs → xs ≡ free_variables left → b ≡ list_all (is_predicate_read (contains_text names)) cs → b ≡ is_side_read g left cs
side_read_from g names left xs cs b so n e h =
    h ∙ same_predicates (contains_text names) (λ y. is_named y (free_variables left)) cs (names_same names xs (free_variables left) n e)
    ∙ sym (ap (λ a. a && list_all (is_predicate_read (λ y. is_named y (free_variables left))) cs) so)

pub plain_same : {S : Type 0} (names : IndexSet (String Global) S) (xs ys : List SortedName) (r : KorePattern) (ensured : List KorePattern) → Names names xs → xs ≡ ys →
    is_plain_by (contains_text names) r ensured ≡ is_plain_by (λ y. is_named y ys) r ensured
plain_same names xs ys r ensured n e =
    ap (λ b. not (is_binder r) && (list_all is_top_pattern ensured && b)) (same_names (contains_text names) (λ y. is_named y ys) r (names_same names xs ys n e))

-- ---- the left side

pub side_refused : (g : KoreSignature) (left : KorePattern) (condition : List KorePattern) → is_side_read g left condition ≡ false → ¬ IsLeftSideRead g left condition
side_refused g left condition refused side = let so = side.side in absurd (cc)

lone_told : (g : KoreSignature) (left : KorePattern) (condition : List KorePattern) → is_side_read g left condition ≡ true → (b : Bool) →
    MatchBool b (LoneVariableSplits g left) (¬ LoneVariableSplits g left) → MatchBool b (IsLeftSideRead g left condition) (¬ IsLeftSideRead g left condition)
lone_told g left condition so true h = record { side = so; lone_variable = h }
lone_told g left condition so false h = λ side. h side.lone_variable

pub side_by_lone : {E : Type 0} (g : KoreSignature) (left : KorePattern) (condition : List KorePattern) → is_side_read g left condition ≡ true → (r : Result Bool E) →
    IfOk r (λ b. MatchBool b (LoneVariableSplits g left) (¬ LoneVariableSplits g left)) → IfOk r (λ b. MatchBool b (IsLeftSideRead g left condition) (¬ IsLeftSideRead g left condition))
side_by_lone g left condition so (Ok b) h = lone_told g left condition so b h
side_by_lone g left condition so (Err e) h = tt

-- ---- the shape

side_maybe : KoreSignature → Option Rewrite → Type 0
side_maybe g (Some m) = IsLeftSideRead g m.left m.condition
side_maybe g None = ⊥

pub shape_refused : (g : KoreSignature) (p r : KorePattern) (o : Option Shape) (shape : Shape) → o ≡ Some shape → option_map (rewrite_seen r) o ≡ rewrite_of p →
    (¬ IsLeftSideRead g (view shape.left.term.now) (seen shape.left.predicates.items)) → IsShapeRead g p r None
unfolding side_maybe
shape_refused g p r o shape e told bad = λ m h side. bad (subst (side_maybe g) (sym (sym (ap (option_map (rewrite_seen r)) e) ∙ told ∙ h)) side)

pub shape_read : (g : KoreSignature) (p r : KorePattern) (o : Option Shape) (shape : Shape) → o ≡ Some shape → option_map (rewrite_seen r) o ≡ rewrite_of p →
    IsLeftSideRead g (view shape.left.term.now) (seen shape.left.predicates.items) → IsShapeRead g p r (Some shape)
shape_read g p r o shape e told so = (sym told ∙ ap (option_map (rewrite_seen r)) e, so)

pub no_shape : (g : KoreSignature) (p r : KorePattern) (o : Option Shape) → o ≡ None → option_map (rewrite_seen r) o ≡ rewrite_of p → IsShapeRead g p r None
no_shape g p r o e told = λ m h. let n : None ≡ Some m = sym (ap (option_map (rewrite_seen r)) e) ∙ told ∙ h in absurd (cc)
