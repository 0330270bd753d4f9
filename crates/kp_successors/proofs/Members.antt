-- Members of lists, and tests that decide the same.
use Rattle.std.proofs.Common.{◌≡◌, refl, sym, ap, ◌∙◌, Bool, true, false, ◌↔◌, List, [], ◌∷◌, ◌++◌, map, inl, inr}
use Rattle.std.proofs.lemmas.List.{append_assoc, map-append}
use Rattle.std.specs.Prelude.{IsTrue}
use Rattle.std.specs.Bool.{Decides}
use Rattle.kp_kore.specs.Parts.{SortedName}
use Rattle.kp_kore.specs.View.{sorted_variable_view}
use Rattle.kp_kore.specs.declared.pattern_free.SortedVariable.{SortedVariable}
use Rattle.kp_kore.specs.Steps.{AnyByRecursion}

pub any_last : {X : Type 0} (P : X → Type 0) (xs : List X) (x : X) → P x → AnyByRecursion P (xs ++ x ∷ [])
any_last P [] x p = inl p
any_last P (y ∷ xs) x p = inr (any_last P xs x p)

pub any_weaker : {X : Type 0} (P Q : X → Type 0) (xs : List X) → ((x : X) → P x → Q x) → AnyByRecursion P xs → AnyByRecursion Q xs
any_weaker P Q [] f a = absurd a
any_weaker P Q (x ∷ xs) f (inl a) = inl (f x a)
any_weaker P Q (x ∷ xs) f (inr a) = inr (any_weaker P Q xs f a)

-- two tests that decide the same
pub same_decision : (a b : Bool) (P : Type 0) → (IsTrue a ↔ P) → Decides b P → a ≡ b
same_decision true true P e d = refl
same_decision false false P e d = refl
same_decision true false P e d = let k : false ≡ true = d.1 (e.0 refl) in absurd (cc)
same_decision false true P e d = let k : false ≡ true = e.1 (d.0 refl) in absurd (cc)

-- ---- a list that is taken one by one

pub taken_along : (found' found : List SortedVariable) (x : SortedVariable) (old rest : List SortedVariable) (whole : List SortedName) → found' ≡ found ++ x ∷ [] → old ≡ x ∷ rest →
    map sorted_variable_view found ++ map sorted_variable_view old ≡ whole → map sorted_variable_view found' ++ map sorted_variable_view rest ≡ whole
taken_along found' found x old rest whole p o h =
    ap (λ l. map sorted_variable_view l ++ map sorted_variable_view rest) p
    ∙ ap (λ l. l ++ map sorted_variable_view rest) (map-append sorted_variable_view found (x ∷ []))
    ∙ append_assoc (map sorted_variable_view found) (sorted_variable_view x ∷ []) (map sorted_variable_view rest)
    ∙ ap (λ l. map sorted_variable_view found ++ map sorted_variable_view l) (sym o)
    ∙ h
