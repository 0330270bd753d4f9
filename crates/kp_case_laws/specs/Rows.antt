-- What a part of a left side asks, and how the value of a term is made.
-- Source: K's Kore language (constructors are without confusion); this project.
use Rattle.std.specs.Prelude.{◌≡◌, List, ⊤}
use Rattle.kp_kore.specs.Syntax.{Text, KoreSort}
use Rattle.kp_kore.specs.Parts.{SortedName}
use Rattle.kp_kore.specs.Signature.{KoreSignature, SymbolMeaning, construction, interpretation, meaning_of, Head, integers, constructor_of}
use Rattle.kp_kore.specs.Value.{Value, constructed, HasSort, head_of}
use Rattle.kp_kore.specs.Instance.{Valuation, GivesSorts}
use Rattle.kp_symbolic.specs.Terms.{SymbolicTerm, unknown, offset, known, headed, SymbolicTerms, no_terms, next_term, term_instance, term_instances}
use Rattle.kp_symbolic.specs.Opening.{head_of_call}
use Rattle.kp_rules.specs.Skeletons.{Form, fixed, built, Forms, Admits}
use Rattle.kp_case_laws.specs.Courses.{all_fixed, IsTermOf}

-- the form asks a constructor and its members; of a value, these are values
abbrev pub HasMembers : Form → Text → Forms → Type 0
HasMembers (built d ks) c fs = (d ≡ c) × (ks ≡ fs)
HasMembers (fixed (constructed d us)) c fs = (d ≡ c) × (all_fixed us ≡ fs)
HasMembers form c fs = ⊥

-- the form stands for values of the sort alone
abbrev pub AsksSort : KoreSignature → Form → KoreSort → Type 0
AsksSort g form s = (r : Valuation) (u : Value) → Admits g r form u → HasSort g s u

-- under each valuation of the variables, the term's value is the constructor's, with these terms' values
abbrev pub IsMadeOf : KoreSignature → List SortedName → SymbolicTerm → Text → SymbolicTerms → Type 0
IsMadeOf g hand t c ts = (w : Valuation) → GivesSorts g w hand → term_instance g w t ≡ constructed c (term_instances g w ts)

abbrev pub AreTermsOf : KoreSignature → List SortedName → SymbolicTerms → Type 0
AreTermsOf g hand no_terms = ⊤
AreTermsOf g hand (next_term t ts) = IsTermOf g hand t × AreTermsOf g hand ts

-- the head of each value of a symbol's application
abbrev pub IsHeadOfSymbol : Text → SymbolMeaning → Head → Type 0
IsHeadOfSymbol f construction h = constructor_of f ≡ h
IsHeadOfSymbol f (interpretation k) h = head_of_call k ≡ h
IsHeadOfSymbol f m h = ⊥

-- the term is no variable, and this is the head of each of its values
abbrev pub IsOfHead : KoreSignature → SymbolicTerm → Head → Type 0
IsOfHead g (unknown x) h = ⊥
IsOfHead g (offset x c) h = integers ≡ h
IsOfHead g (known u) h = head_of u ≡ h
IsOfHead g (headed f ts) h = IsHeadOfSymbol f (meaning_of g f) h
