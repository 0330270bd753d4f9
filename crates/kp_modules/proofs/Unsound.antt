-- The first fault of a module that is added.
use Rattle.std.proofs.Common.{◌≡◌, refl, sym, ap, subst, ◌∙◌, ℕ, zero, suc, ◌+◌, ◌<◌, false, true, List, [], ◌∷◌, ◌++◌, length, map, take, drop, get_or, Option, Some, None, unwrap_or, MatchOption, Result, Ok, Err, IsErr, IsErrAnd, IfErr, inl, inr, arith}
use Rattle.std.specs.List.{AllByRecursion}
use Rattle.std.proofs.Math.Seq.{take-suc}
use Rattle.std.proofs.lemmas.List.{map-append}
use Rattle.kp_kore.specs.Syntax.{Text, Statement, KorePattern, KoreModule}
use Rattle.kp_kore.specs.Signature.{KoreSignature}
use Rattle.kp_kore.specs.View.{sentence_view}
use Rattle.kp_kore.specs.declared.sentence.Sentence.{Sentence}
use Rattle.kp_signature.specs.Verify.{VerifyFault, FailsWith}
use Rattle.kp_kore.specs.Theory.{rewrite_axioms_from}
use Rattle.kp_rules.specs.Bodies.{IsFaulty}
use Rattle.kp_modules.specs.Axioms.{axiom_view, axioms_view}
use Rattle.kp_modules.specs.Extending.{AreAllSound, ExtendFault, IsExtendFault, IsFirstDeclaration, IsFirstUnsound, IsUnsound, declaration, extend_fault, is_declaration, rule_fault}
use Rattle.kp_modules.specs.declared.axioms.RewriteAxiom.{RewriteAxiom}
use Rattle.kp_modules.specs.declared.extend_error.ExtendError.{ExtendError}
use Rattle.kp_modules.specs.declared.extend_error.ExtendError.TheVariants.{Memory, RuleFault}
use Rattle.kp_imports.proofs.Collect.{all_append}
use Rattle.kp_modules.proofs.Firsts.{parted}
use Rattle.kp_modules.proofs.Ruled.{axioms_more}

-- what is said of an error holds of the one that a step hands on
pub handed : {X : Type 0} (r : Result X ExtendError) (P : ExtendError → Type 0) (e : ExtendError) → IsErr r × IsErrAnd r (λ y. y ≡ e) → P e → IfErr r P
handed (Ok x) P e h p = tt
handed (Err y) P e h p = subst P (sym h.1) p

-- ---- axioms

pub one_more_all_sound : (g : KoreSignature) (axioms : List RewriteAxiom) (i : ℕ) (a : RewriteAxiom) → i < length axioms → a ≡ get_or axioms i a → AreAllSound g (axioms_view (take i axioms)) → ¬ IsUnsound g (axiom_view a).axiom_of →
    AreAllSound g (axioms_view (take (i + 1) axioms))
one_more_all_sound g axioms i a h e old own = subst (AreAllSound g) (sym (axioms_more axioms i a h e)) (all_append (λ x. ¬ IsUnsound g x.axiom_of) (axioms_view (take i axioms)) (axiom_view a ∷ []) old (own, tt))

pub first_unsound : (g : KoreSignature) (axioms : List RewriteAxiom) (i : ℕ) (a : RewriteAxiom) → i < length axioms → a ≡ get_or axioms i a → AreAllSound g (axioms_view (take i axioms)) → IsUnsound g (axiom_view a).axiom_of →
    IsFirstUnsound g (axioms_view axioms) (axiom_view a).number
first_unsound g axioms i a h e old own = record {
  before = axioms_view (take i axioms);
  rewriting = axiom_view a;
  after = axioms_view (drop (suc i) axioms);
  are = parted axioms i a h ∙ ap (λ x. axioms_view (take i axioms) ++ axiom_view x ∷ axioms_view (drop (suc i) axioms)) (sym e);
  sound = old;
  number = refl;
  unsound = own;
}

-- neither a verify fault nor another
pub is_sound : (g : KoreSignature) (a : Statement) → ((f : VerifyFault) → ¬ FailsWith g a.pattern f) → ¬ IsFaulty g a → ¬ IsUnsound g a
is_sound g a h k (inl f) = h f.0 f.1
is_sound g a h k (inr f) = k f

pub by_verify : (g : KoreSignature) (a : Statement) → ((f : VerifyFault) × FailsWith g a.pattern f) → IsUnsound g a
by_verify g a h = inl h

pub by_rule : (g : KoreSignature) (a : Statement) → IsFaulty g a → IsUnsound g a
by_rule g a h = inr h

-- what the error of a verification says
pub told_by_verify : (g : KoreSignature) (p : KorePattern) (n : ℕ) (e : ExtendError) (o : Option VerifyFault) → MatchOption o (e ≡ Memory) (λ f. e ≡ RuleFault n) → ((v : VerifyFault) → o ≡ Some v → FailsWith g p v) →
    (f : ExtendFault) → extend_fault e ≡ Some f → (f ≡ rule_fault n) × ((v : VerifyFault) × FailsWith g p v)
told_by_verify g p n e None h k f t = absurd (none_some (sym (ap extend_fault h) ∙ t))
  where
    none_some : None ≡ Some f → ⊥
    none_some i = absurd (cc)
told_by_verify g p n e (Some v) h k f t = (sym (ap (λ o. unwrap_or o f) (sym (ap extend_fault h) ∙ t)), (v, k v refl))

-- ---- sentences

sentences_further : (ss : List Sentence) (i : ℕ) (s : Sentence) → i < length ss → s ≡ get_or ss i s → map sentence_view (take (i + 1) ss) ≡ map sentence_view (take i ss) ++ sentence_view s ∷ []
sentences_further ss i s h e =
    let more : i + 1 ≡ suc i = omega arith in
    ap (λ k. map sentence_view (take k ss)) more ∙ ap (map sentence_view) (take-suc ss i s h) ∙ map-append sentence_view (take i ss) (get_or ss i s ∷ []) ∙ ap (λ t. map sentence_view (take i ss) ++ sentence_view t ∷ []) (sym e)

pub one_more_plain : (ss : List Sentence) (i : ℕ) (s : Sentence) → i < length ss → s ≡ get_or ss i s → AllByRecursion (λ t. is_declaration t ≡ false) (map sentence_view (take i ss)) → is_declaration (sentence_view s) ≡ false →
    AllByRecursion (λ t. is_declaration t ≡ false) (map sentence_view (take (i + 1) ss))
one_more_plain ss i s h e old own = subst (AllByRecursion (λ t. is_declaration t ≡ false)) (sym (sentences_further ss i s h e)) (all_append (λ t. is_declaration t ≡ false) (map sentence_view (take i ss)) (sentence_view s ∷ []) old (own, tt))

pub sentences_parted : (ss : List Sentence) (i : ℕ) (d : Sentence) → i < length ss → map sentence_view ss ≡ map sentence_view (take i ss) ++ sentence_view (get_or ss i d) ∷ map sentence_view (drop (suc i) ss)
sentences_parted [] i d h = absurd (omega (arith, h))
sentences_parted (a ∷ rest) zero d h = refl
sentences_parted (a ∷ rest) (suc i) d h = ap (λ l. sentence_view a ∷ l) (sentences_parted rest i d (omega arith))

taken : (ss : List Sentence) (i : ℕ) → i < length ss → length (map sentence_view (take i ss)) ≡ i
taken [] zero h = absurd (omega arith)
taken [] (suc i) h = absurd (omega arith)
taken (a ∷ rest) zero h = refl
taken (a ∷ rest) (suc i) h = ap suc (taken rest i (omega arith))

pub first_declaration : (ss : List Sentence) (i : ℕ) (s : Sentence) → i < length ss → s ≡ get_or ss i s → AllByRecursion (λ t. is_declaration t ≡ false) (map sentence_view (take i ss)) → is_declaration (sentence_view s) ≡ true →
    IsFirstDeclaration (map sentence_view ss) (i + 1)
first_declaration ss i s h e old own = record {
  before = map sentence_view (take i ss);
  declaration = sentence_view s;
  after = map sentence_view (drop (suc i) ss);
  are = sentences_parted ss i s h ∙ ap (λ t. map sentence_view (take i ss) ++ sentence_view t ∷ map sentence_view (drop (suc i) ss)) (sym e);
  passed = old;
  declares = own;
  number = let more : i + 1 ≡ suc i = omega arith in more ∙ ap suc (sym (taken ss i h));
}

-- ---- the module's fault

pub of_axioms : (g : KoreSignature) (id : Text) (m : KoreModule) (f : ExtendFault) → (i : ℕ) × (f ≡ rule_fault i) × IsFirstUnsound g (rewrite_axioms_from id 1 m.sentences) i → IsExtendFault g id m f
of_axioms g id m f h = subst (IsExtendFault g id m) (sym h.1) h.2

pub of_sentences : (g : KoreSignature) (id : Text) (m : KoreModule) (f : ExtendFault) → AreAllSound g (rewrite_axioms_from id 1 m.sentences) → (i : ℕ) × (f ≡ declaration i) × IsFirstDeclaration m.sentences i → IsExtendFault g id m f
of_sentences g id m f sound h = subst (IsExtendFault g id m) (sym h.1) (sound, h.2)
