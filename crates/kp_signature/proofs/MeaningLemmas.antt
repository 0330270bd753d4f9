-- What a symbol's meaning says of its declaration.
use Rattle.std.proofs.Common.{◌≡◌, refl, ap, subst, ◌∙◌, Bool, true, false, not, ◌&&◌, cond, List, [], ◌∷◌, length, Option, Some, None}
use Rattle.std.specs.Prelude.{◌==◌, codes}
use Rattle.std.specs.Option.{option_and_then}
use Rattle.std.specs.Str.{bytes_eq}
use Rattle.std.proofs.lemmas.Bool.Decides.{Decides-eqb}
use Rattle.kp_kore.specs.Syntax.{Text, SymbolDeclaration}
use Rattle.kp_kore.specs.Attributes.{text_of, has_mark}
use Rattle.kp_kore.specs.Hooks.{Hook, hook_named}
use Rattle.kp_kore.specs.Signature.{KoreSignature, SymbolMeaning, injection, construction, interpretation, foreign, symbol_meaning, goes_across, is_identity, is_constructor, is_plain, has_equations, fits_hook, fitting_hook}
use Rattle.kp_kore.proofs.InstanceLemmas.{first_true}
use Rattle.kp_signature.proofs.SortLemmas.{same_inside}

abbrev pub hooked : Option Hook → SymbolMeaning
hooked (Some h) = interpretation h
hooked None = foreign

abbrev pub meaning_by_tests : Bool → Bool → Bool → Option Hook → SymbolMeaning
meaning_by_tests i c p o = cond i injection (cond c construction (cond p (hooked o) foreign))

pub an_injection : (i c p : Bool) (o : Option Hook) → meaning_by_tests i c p o ≡ injection → i ≡ true
an_injection true c p o e = refl
an_injection false true p o e = absurd (cc)
an_injection false false true (Some h) e = absurd (cc)
an_injection false false true None e = absurd (cc)
an_injection false false false o e = absurd (cc)

pub a_construction : (i c p : Bool) (o : Option Hook) → meaning_by_tests i c p o ≡ construction → c ≡ true
a_construction true c p o e = absurd (cc)
a_construction false true p o e = refl
a_construction false false true (Some h) e = absurd (cc)
a_construction false false true None e = absurd (cc)
a_construction false false false o e = absurd (cc)

pub an_interpretation : (i c p : Bool) (o : Option Hook) (h : Hook) → meaning_by_tests i c p o ≡ interpretation h → (p ≡ true) × (o ≡ Some h)
an_interpretation true c p o h e = absurd (cc)
an_interpretation false true p o h e = absurd (cc)
an_interpretation false false true (Some k) h e = (refl, cc)
an_interpretation false false true None h e = absurd (cc)
an_interpretation false false false o h e = absurd (cc)

abbrev keep_fitting : KoreSignature → SymbolDeclaration → Hook → Option Hook
keep_fitting g d k = cond (fits_hook g k d.arguments d.result) (Some k) None

pub it_fits : (g : KoreSignature) (d : SymbolDeclaration) (h : Hook) → fitting_hook g d ≡ Some h → fits_hook g h d.arguments d.result ≡ true
it_fits g d h e = by (option_and_then hook_named (text_of (codes "hook") d.attributes)) e
  where
    kept : (k : Hook) (b : Bool) → fits_hook g k d.arguments d.result ≡ b → cond b (Some k) None ≡ Some h → fits_hook g h d.arguments d.result ≡ true
    kept k true t e = subst (λ x. fits_hook g x d.arguments d.result ≡ true) (same_inside k h e) t
    kept k false t e = absurd (cc)

    by : (o : Option Hook) → option_and_then (keep_fitting g d) o ≡ Some h → fits_hook g h d.arguments d.result ≡ true
    by (Some k) e = kept k (fits_hook g k d.arguments d.result) refl e
    by None e = absurd (cc)

none_of_them : (ns : List Text) → length ns ≡ 0 → ns ≡ []
none_of_them [] e = refl
none_of_them (n ∷ ns) e = absurd (cc)

pub no_parameters : (d : SymbolDeclaration) → is_plain d ≡ true → d.parameters ≡ []
no_parameters d e = none_of_them d.parameters ((Decides-eqb (length d.parameters) 0).0 (first_true (length d.parameters == 0) _ e))

pub constructor_is_plain : (d : SymbolDeclaration) → is_constructor d ≡ true → is_plain d ≡ true
constructor_is_plain d c = let mark = has_mark (codes "constructor") d.attributes in first_true (is_plain d) mark (first_true (is_plain d && mark) (not (has_equations d)) c)

-- ---- constructors

no_second : (b c : Bool) → (b && false) && c ≡ false
no_second true c = refl
no_second false c = refl

-- a constructor has no sort parameters, so it isn't inj
pub constructor_is_no_inj : (d : SymbolDeclaration) → is_constructor d ≡ true → is_identity d ≡ false
constructor_is_no_inj d c =
    ap (λ ns. (bytes_eq d.name (codes "inj") && (length ns == 2)) && goes_across d.parameters d.arguments d.result) (no_parameters d (constructor_is_plain d c))
    ∙ no_second (bytes_eq d.name (codes "inj")) (goes_across d.parameters d.arguments d.result)

by_two_tests : (i c : Bool) (m : SymbolMeaning) → i ≡ false → c ≡ true → cond i injection (cond c construction m) ≡ construction
by_two_tests true c m e f = absurd (cc)
by_two_tests false true m e f = refl
by_two_tests false false m e f = absurd (cc)

pub constructor_constructs : (g : KoreSignature) (d : SymbolDeclaration) → is_constructor d ≡ true → symbol_meaning g d ≡ construction
constructor_constructs g d c = by_two_tests (is_identity d) (is_constructor d) _ (constructor_is_no_inj d c) c

pub makes_what_it_means : (g : KoreSignature) (d : SymbolDeclaration) → symbol_meaning g d ≡ construction → is_constructor d ≡ true
makes_what_it_means g d m = a_construction (is_identity d) (is_constructor d) (is_plain d) (fitting_hook g d) m
