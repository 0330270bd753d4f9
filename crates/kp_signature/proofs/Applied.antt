-- The rules of an application, each by what the code tests.
use Rattle.std.proofs.Common.{◌≡◌, refl, sym, ap, ◌∙◌, suc, Bool, true, false, not, ◌&&◌, ◌||◌, List, [], ◌∷◌, length, get_or, Option, Some, None, IsTrue, ◌↔◌}
use Rattle.std.specs.Prelude.{◌==◌}
use Rattle.std.proofs.lemmas.Bool.Decides.{Decides-eqb}
use Rattle.kp_kore.specs.Syntax.{Text, KoreSort, KoreSorts, no_sorts, next_sort, KorePatterns, application, SymbolDeclaration}
use Rattle.kp_kore.specs.Parts.{sort_list, pattern_list}
use Rattle.kp_kore.specs.Signature.{KoreSignature, symbol_declared, is_injection, IsBelow, is_below}
use Rattle.kp_kore.specs.Sorting.{all_at_arguments}
use Rattle.kp_kore.specs.declared.sort.Sort.{Sort}
use Rattle.kp_kore.specs.View.{sort_view, sorts_view}
use Rattle.kp_signature.specs.Nodes.{two_sorts, injects}
use Rattle.kp_signature.specs.Places.{Profile, profile_of}
use Rattle.kp_signature.specs.Verify.{VerifyFault, fault_unless, symbol_fault, injection_fault, sort_differs, wrong_number, unknown_symbol}
use Rattle.kp_signature.proofs.Below.{is_below-Decides}

abbrev pub of_profile : KoreSorts → KorePatterns → Text → Option Profile → Option VerifyFault
of_profile ss ps f (Some k) = fault_unless ((length k.parameters == length (sort_list ss)) && (length (sort_list k.arguments) == length (pattern_list ps))) (wrong_number f)
of_profile ss ps f None = Some (unknown_symbol f)

pub right_number : (g : KoreSignature) (f : Text) (ss : KoreSorts) (ps : KorePatterns) (k : Profile) → Some k ≡ profile_of g f →
    length k.parameters ≡ length (sort_list ss) → length (sort_list k.arguments) ≡ length (pattern_list ps) → symbol_fault g (application f ss ps) ≡ None
right_number g f ss ps k is e h = ap (of_profile ss ps f) (sym is) ∙ ap (λ b. fault_unless (b && (length (sort_list k.arguments) == length (pattern_list ps))) (wrong_number f)) ((Decides-eqb (length k.parameters) (length (sort_list ss))).1 e)
    ∙ ap (λ b. fault_unless b (wrong_number f)) ((Decides-eqb (length (sort_list k.arguments)) (length (pattern_list ps))).1 h)

is_false : (b : Bool) → (b ≡ true → ⊥) → b ≡ false
is_false true n = absurd (n refl)
is_false false n = refl

pub other_number : (g : KoreSignature) (f : Text) (ss : KoreSorts) (ps : KorePatterns) (k : Profile) → Some k ≡ profile_of g f →
    (length (sort_list k.arguments) ≡ length (pattern_list ps) → ⊥) → symbol_fault g (application f ss ps) ≡ Some (wrong_number f)
other_number g f ss ps k is n = ap (of_profile ss ps f) (sym is) ∙ by (length k.parameters == length (sort_list ss)) (length (sort_list k.arguments) == length (pattern_list ps))
    (is_false (length (sort_list k.arguments) == length (pattern_list ps)) (λ h. n ((Decides-eqb (length (sort_list k.arguments)) (length (pattern_list ps))).0 h)))
  where
    by : (a b : Bool) → b ≡ false → fault_unless (a && b) (wrong_number f) ≡ Some (wrong_number f)
    by true b e = ap (λ t. fault_unless t (wrong_number f)) e
    by false b e = refl

abbrev pub of_declared : KoreSignature → KoreSort → KoreSort → Option SymbolDeclaration → Option VerifyFault
of_declared g a b (Some d) = fault_unless (not (is_injection d) || is_below g.subsorts a b) (sort_differs b a)
of_declared g a b None = None

abbrev injects_by : Option SymbolDeclaration → Bool
injects_by (Some d) = is_injection d
injects_by None = false

pub upwards : (g : KoreSignature) (f : Text) (a b : KoreSort) (ps : KorePatterns) (r : Bool) → IsTrue r ↔ IsBelow g.subsorts a b → r ≡ true → injection_fault g (application f (two_sorts a b) ps) ≡ None
upwards g f a b ps r h e = by (symbol_declared g f)
  where
    test : (n : Bool) → fault_unless (n || is_below g.subsorts a b) (sort_differs b a) ≡ None
    test true = refl
    test false = ap (λ t. fault_unless t (sort_differs b a)) ((is_below-Decides g.subsorts a b).1 (h.0 e))

    by : (o : Option SymbolDeclaration) → of_declared g a b o ≡ None
    by (Some d) = test (not (is_injection d))
    by None = refl

pub downwards : (g : KoreSignature) (f : Text) (a b : KoreSort) (ps : KorePatterns) (r : Bool) → IsTrue r ↔ IsBelow g.subsorts a b → r ≡ false → injects g f ≡ true →
    injection_fault g (application f (two_sorts a b) ps) ≡ Some (sort_differs b a)
downwards g f a b ps r h e inj = by (symbol_declared g f) inj
  where
    test : (i : Bool) → i ≡ true → fault_unless (not i || is_below g.subsorts a b) (sort_differs b a) ≡ Some (sort_differs b a)
    test false q = absurd (cc)
    test true q = ap (λ t. fault_unless t (sort_differs b a)) (is_false (is_below g.subsorts a b) (λ t. absurd (cc (h.1 ((is_below-Decides g.subsorts a b).0 t), e))))

    by : (o : Option SymbolDeclaration) → injects_by o ≡ true → of_declared g a b o ≡ Some (sort_differs b a)
    by (Some d) q = test (is_injection d) q
    by None q = absurd (cc)

pub not_two : (g : KoreSignature) (f : Text) (ss : List Sort) (ps : KorePatterns) → (length ss ≡ 2 → ⊥) → injection_fault g (application f (sorts_view ss) ps) ≡ None
not_two g f [] ps n = refl
not_two g f (a ∷ []) ps n = refl
not_two g f (a ∷ b ∷ []) ps n = absurd (n refl)
not_two g f (a ∷ b ∷ c ∷ cs) ps n = refl

pub just_two : (ss : List Sort) (a b : Sort) → length ss ≡ 2 → a ≡ get_or ss 0 a → b ≡ get_or ss 1 b → two_sorts (sort_view a) (sort_view b) ≡ sorts_view ss
just_two [] a b h p q = absurd (cc)
just_two (x ∷ []) a b h p q = absurd (cc)
just_two (x ∷ y ∷ z ∷ zs) a b h p q = absurd (cc)
just_two (x ∷ y ∷ []) a b h p q = ap (λ s. two_sorts (sort_view s) (sort_view b)) p ∙ ap (λ s. two_sorts (sort_view x) (sort_view s)) q

pub as_many : (ns : List Text) (ss l : KoreSorts) → length (sort_list (all_at_arguments ns ss l)) ≡ length (sort_list l)
as_many ns ss no_sorts = refl
as_many ns ss (next_sort s l) = ap suc (as_many ns ss l)
