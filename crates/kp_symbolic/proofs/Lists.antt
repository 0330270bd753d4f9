-- Lists of terms that are seen as the same are the same, one by one.
use Rattle.std.proofs.Common.{◌≡◌, List, [], ◌∷◌, refl, sym, ap, ◌∙◌}
use Rattle.kp_symbolic.specs.Terms.{SymbolicTerm, SymbolicTerms, no_terms, next_term}
use Rattle.kp_symbolic.specs.View.{terms_of}

pub term_list : SymbolicTerms → List SymbolicTerm
term_list no_terms = []
term_list (next_term t ts) = t ∷ term_list ts

pub list_of_terms : (ts : List SymbolicTerm) → term_list (terms_of ts) ≡ ts
unfolding term_list
list_of_terms [] = refl
list_of_terms (t ∷ ts) = ap (λ l. t ∷ l) (list_of_terms ts)

pub same_terms : (ts us : List SymbolicTerm) → terms_of ts ≡ terms_of us → ts ≡ us
same_terms ts us e = sym (list_of_terms ts) ∙ ap term_list e ∙ list_of_terms us
