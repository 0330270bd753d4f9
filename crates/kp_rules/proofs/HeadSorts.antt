-- Sorts of values whose heads are known.
use Rattle.std.proofs.Common.{◌≡◌, ◌↔◌, sym, ◌∙◌, subst, ap}
use Rattle.std.specs.Prelude.{Some}
use Rattle.kp_kore.specs.Syntax.{Text, KoreSort, KoreSorts, SymbolDeclaration}
use Rattle.kp_kore.specs.Signature.{KoreSignature, IsHeadOf, symbol_declared}
use Rattle.kp_kore.specs.Value.{Value, whole, truth, token, constructed, Values, head_of, ArgumentSorts, HasSort, HaveSorts}
use Rattle.kp_kore.specs.Sorted.{IsSorted}

-- the head of a value of a sort is among the sort's heads
pub head_by_sort : (g : KoreSignature) (s : KoreSort) (u : Value) → HasSort g s u → IsHeadOf g s (head_of u)
head_by_sort g s (whole n) h = h
head_by_sort g s (truth b) h = h
head_by_sort g s (token t x) h = h
head_by_sort g s (constructed c us) h = h.0

-- a value of some sort whose head is among another sort's heads has that sort too
pub sorted_by_head : (g : KoreSignature) (s t : KoreSort) (u : Value) → HasSort g s u → IsHeadOf g t (head_of u) → HasSort g t u
sorted_by_head g s t (whole n) h k = k
sorted_by_head g s t (truth b) h k = k
sorted_by_head g s t (token r x) h k = k
sorted_by_head g s t (constructed c us) h k = (k, h.1, h.2, h.3)

pub sort_by_head : (g : KoreSignature) (s t : KoreSort) (u : Value) → HasSort g s u → IsHeadOf g t (head_of u) ↔ HasSort g t u
sort_by_head g s t u h = ((λ k. sorted_by_head g s t u h k), (λ k. head_by_sort g t u k))

-- the arguments of a sorted constructed value have sorts
pub arguments_have_sorts : (g : KoreSignature) (s : KoreSort) (c : Text) (us : Values) → HasSort g s (constructed c us) → (ss : KoreSorts) × ArgumentSorts g c ss × HaveSorts g ss us
arguments_have_sorts g s c us h = (h.1, h.2, h.3)

some_inside : (a b : SymbolDeclaration) → Some a ≡ Some b → a ≡ b
some_inside a b e = cc

-- the arguments of a sorted constructed value have the sorts that the constructor declares
pub arguments_sorted : (g : KoreSignature) (s : KoreSort) (c : Text) (us : Values) (d : SymbolDeclaration) → symbol_declared g c ≡ Some d → HasSort g s (constructed c us) → HaveSorts g d.arguments us
arguments_sorted g s c us d e h =
    let same : h.2.0 ≡ d = some_inside _ _ (sym h.2.1 ∙ e) in
    subst (λ ss. HaveSorts g ss us) (sym h.2.2 ∙ ap (λ x. x.arguments) same) h.3

-- what follows whichever sort the value has
pub by_some_sort : (g : KoreSignature) (u : Value) (P : Type 0) → ((s : KoreSort) → HasSort g s u → P) → IsSorted g u → P
by_some_sort g u P f h = f h.0 h.1
