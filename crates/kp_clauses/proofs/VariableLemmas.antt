-- Variables that are shared, one by one.
use Rattle.std.proofs.Common.{◌≡◌, sym, ◌∙◌, ap, List, [], ◌∷◌, ◌++◌, map}
use Rattle.std.specs.declared.alloc.Global.{Global}
use Rattle.std.specs.declared.sync.Arc.{Arc}
use Rattle.std.proofs.lemmas.List.{append_assoc, map-append}
use Rattle.kp_kore.specs.Parts.{SortedName}
use Rattle.kp_kore.specs.View.{sorted_variable_view}
use Rattle.kp_kore.specs.declared.pattern_free.SortedVariable.{SortedVariable}
use Rattle.kp_symbolic.specs.View.{variable_view, variables_view}
use Rattle.kp_symbolic.specs.declared.variable.Variable.{Variable}

pub taken_along : (new found : List (Arc Variable Global)) (x : Arc Variable Global) (y : SortedVariable) (old rest : List SortedVariable) (whole : List SortedName) → new ≡ found ++ x ∷ [] → variable_view x.value ≡ sorted_variable_view y → old ≡ y ∷ rest →
    variables_view found ++ map sorted_variable_view old ≡ whole → variables_view new ++ map sorted_variable_view rest ≡ whole
taken_along new found x y old rest whole p e o h =
    ap (λ l. variables_view l ++ map sorted_variable_view rest) p
    ∙ ap (λ l. l ++ map sorted_variable_view rest) (map-append (λ z. variable_view z.value) found (x ∷ []))
    ∙ append_assoc (variables_view found) (variable_view x.value ∷ []) (map sorted_variable_view rest)
    ∙ ap (λ z. variables_view found ++ z ∷ map sorted_variable_view rest) e
    ∙ ap (λ l. variables_view found ++ map sorted_variable_view l) (sym o)
    ∙ h
