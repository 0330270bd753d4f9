-- What the right term of a rule that fires reads is bound, and so are the depths of it.
use Rattle.std.proofs.Common.{◌≡◌, sym, subst, Bool, true, false, ◌&&◌, ◌||◌, List, []}
use Rattle.std.specs.Prelude.{Result, Ok, Err, IfOk}
use Rattle.std.specs.Option.{is_some}
use Rattle.kp_kore.specs.Signature.{KoreSignature}
use Rattle.kp_kore.specs.Syntax.{Text}
use Rattle.kp_kore.specs.Value as model
use Rattle.kp_kore.specs.Instance.{Valuation}
use Rattle.kp_ground.specs.LeftView.{left_view}
use Rattle.kp_ground.specs.Slots.{is_numbered, left_places, left_variables, term_reads}
use Rattle.kp_ground.specs.Solves.{bound_names}
use Rattle.kp_ground.specs.Terms.{left_value, term_value}
use Rattle.kp_ground.specs.TermView.{term_view}
use Rattle.kp_ground.proofs.SlotLemmas.{first_so}
use Rattle.kp_run.specs.View.{AreDepthsOf, AreDepthsUnder}
use Rattle.kp_run.specs.declared.depths.Depths.{Depths}
use Rattle.kp_run.specs.declared.firing.GroundFiring.{GroundFiring}

last_so : (a b c : Bool) → a ≡ false → (a && b) || c ≡ true → c ≡ true
last_so true b c e h = absurd (cc)
last_so false b c e h = h

reads_left : (f : GroundFiring) → f.rewrite.now.chooses ≡ false → term_reads (left_variables f.rewrite.now.left) f.rewrite.now.right ≡ true
reads_left f plain =
    last_so f.rewrite.now.chooses (is_some f.rewrite.now.choice) (term_reads (left_variables f.rewrite.now.left) f.rewrite.now.right) plain f.rewrite.now.right_bound

pub right_reads : (f : GroundFiring) → f.rewrite.now.chooses ≡ false → term_reads (bound_names f.bindings.items) f.rewrite.now.right ≡ true
right_reads f plain = subst (λ xs. term_reads xs f.rewrite.now.right ≡ true) (sym f.bound) (reads_left f plain)

left_numbered : (f : GroundFiring) → is_numbered [] (left_places f.rewrite.now.left) ≡ true
left_numbered f = first_so (is_numbered [] (left_places f.rewrite.now.left)) _ f.rewrite.now.left_bound

-- the depths before a step give those after it
pub depths_follow : {E : Type 0} (g : KoreSignature) (f : GroundFiring) (r : Result Depths E) (u : model.Value) (before : Depths) (bound same : List Depths) → f.rewrite.now.chooses ≡ false → same ≡ bound →
    ((h : KoreSignature) (v : Valuation) → is_numbered [] (left_places f.rewrite.now.left) ≡ true → AreDepthsOf h (left_value v (left_view f.rewrite.now.left)) before → AreDepthsUnder h v (left_variables f.rewrite.now.left) bound) →
    IfOk r (λ d. (v : Valuation) (xs : List Text) → AreDepthsUnder g v xs same → term_reads xs f.rewrite.now.right ≡ true → u ≡ term_value v (term_view f.rewrite.now.right) → AreDepthsOf g u d) →
    IfOk r (λ d. (v : Valuation) → AreDepthsOf g (left_value v (left_view f.rewrite.now.left)) before → u ≡ term_value v (term_view f.rewrite.now.right) → AreDepthsOf g u d)
depths_follow g f (Ok d) u before bound same plain e binds right = λ v told is.
    right v (left_variables f.rewrite.now.left) (subst (AreDepthsUnder g v (left_variables f.rewrite.now.left)) (sym e) (binds g v (left_numbered f) told)) (reads_left f plain) is
depths_follow g f (Err x) u before bound same plain e binds right = tt
