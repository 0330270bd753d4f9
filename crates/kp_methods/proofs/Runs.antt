-- A run from a ground state, whose end is spelled, is what a reply has to say.
use Rattle.std.proofs.Common.{◌≡◌, Bool, true, false, not, ◌&&◌, List, [], ◌∷◌, IsTrue, refl, sym, ◌∙◌}
use Rattle.std.specs.List.{AllByRecursion, list_all}
use Rattle.kp_kore.specs.Syntax.{KorePattern, variable, set_variable, application, string_literal, literal, top, bottom, negation, next, conjunction, disjunction, implication, equivalence, rewriting, exists, forall, ceil, floor, equals, membership, mu, nu}
use Rattle.kp_kore.specs.Parts.{is_term, free_variables, subpatterns}
use Rattle.kp_kore.specs.Signature.{KoreSignature, meaning_of}
use Rattle.kp_ground.specs.View.{value_view}
use Rattle.kp_kore.specs.Value.{Value}
use Rattle.kp_kore.specs.Instance.{Valuation, instance}
use Rattle.kp_kore.specs.Foreign.{none_within, has_interpreted_head, is_interpretation}
use Rattle.kp_kore.specs.Theory.{Theory}
use Rattle.kp_kore.specs.Replies.{IsComputed, are_literals, is_open_call, is_wide_value}
use Rattle.kp_kore.specs.Executions.{Options, listed_in, IsRightExecuted}
use Rattle.kp_kore.proofs.InstanceLemmas.{one_instance}
use Rattle.kp_run.proofs.Runs.{run_is_told}
use Rattle.kp_run.specs.Runs.{IsRunOf, IsOnlyInstance, reason_of}
use Rattle.kp_compile.specs.Spelled.{IsSpellingOf}
use Rattle.kp_run.specs.declared.run.GroundRun.{GroundRun}

-- a ground term's only instance is its value
only_instance : (t : Theory) (s : KorePattern) (c : Value) → IsTrue (is_term s) → ((v : Valuation) → instance t.signature v s ≡ c) → IsOnlyInstance t s c
only_instance t s c term means v u =
    let one = one_instance t.signature v s u term in
    ((λ i. one.0 i ∙ means v), (λ e. one.1 (e ∙ sym (means v))))

-- without interpreted heads there is no open call
closed_call : (i l : Bool) → not i ≡ true → (i && l) ≡ true → ⊥
closed_call true l n o = absurd (cc n)
closed_call false l n o = absurd (cc o)

no_open_call : (g : KoreSignature) (p : KorePattern) → not (has_interpreted_head g p) ≡ true → is_open_call g p ≡ true → ⊥
no_open_call g (application f ss ps) n o = closed_call (is_interpretation (meaning_of g f)) (are_literals ps) n o
no_open_call g (variable x s) n o = absurd (cc o)
no_open_call g (set_variable x s) n o = absurd (cc o)
no_open_call g (string_literal t) n o = absurd (cc o)
no_open_call g (literal s t) n o = absurd (cc o)
no_open_call g (top s) n o = absurd (cc o)
no_open_call g (bottom s) n o = absurd (cc o)
no_open_call g (negation s q) n o = absurd (cc o)
no_open_call g (next s q) n o = absurd (cc o)
no_open_call g (conjunction s qs) n o = absurd (cc o)
no_open_call g (disjunction s qs) n o = absurd (cc o)
no_open_call g (implication s q r) n o = absurd (cc o)
no_open_call g (equivalence s q r) n o = absurd (cc o)
no_open_call g (rewriting s q r) n o = absurd (cc o)
no_open_call g (exists s x t q) n o = absurd (cc o)
no_open_call g (forall s x t q) n o = absurd (cc o)
no_open_call g (ceil a s q) n o = absurd (cc o)
no_open_call g (floor a s q) n o = absurd (cc o)
no_open_call g (equals a s q r) n o = absurd (cc o)
no_open_call g (membership a s q r) n o = absurd (cc o)
no_open_call g (mu x s q) n o = absurd (cc o)
no_open_call g (nu x s q) n o = absurd (cc o)

both : (a b : Bool) → (a && b) ≡ true → (a ≡ true) × (b ≡ true)
both true b e = (refl, e)
both false b e = absurd (cc e)

none_open : (g : KoreSignature) (ps : List KorePattern) → list_all (λ q. not (has_interpreted_head g q)) ps ≡ true
    → AllByRecursion (λ q. is_open_call g q ≡ true → (v : Valuation) → IsTrue (is_wide_value (instance g v q))) ps
none_open g [] h = tt
none_open g (p ∷ ps) h =
    let two = both (not (has_interpreted_head g p)) (list_all (λ q. not (has_interpreted_head g q)) ps) h in
    ((λ o v. absurd (no_open_call g p two.0 o)), none_open g ps two.1)

computed : (g : KoreSignature) (p : KorePattern) → IsTrue (none_within (has_interpreted_head g) p) → IsComputed g p
computed g p h = none_open g (subpatterns p) h

pub run_is_right : (t : Theory) (o : Options) (s s' : KorePattern) (c : Value) (e : GroundRun) → IsRunOf t c o.bound e → listed_in o ≡ [] →
    IsTrue (is_term s) → free_variables s ≡ [] → ((v : Valuation) → instance t.signature v s ≡ c) → IsSpellingOf t.signature (value_view e.state.value) s' →
    IsRightExecuted t o s (record { depth = e.depth; reason = reason_of e.stop; state = s' })
run_is_right t o s s' c e run unlisted term closed means spelling =
    run_is_told t o s s' c e run unlisted
    (only_instance t s c term means)
    (only_instance t s' (value_view e.state.value) spelling.term spelling.meant)
    closed spelling.closed (computed t.signature s' spelling.computed)
