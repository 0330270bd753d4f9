-- Which meanings of the model the code's are.
use Rattle.std.specs.Prelude.{List, map}
use Rattle.std.specs.Borrow.{Bor}
use Rattle.kp_kore.specs.Syntax.{Text}
use Rattle.kp_kore.specs.Hooks as model
use Rattle.kp_kore.specs.Signature.{SymbolMeaning, injection, construction, interpretation, foreign}
use Rattle.kp_kore.specs.HookView.{hook_view}
use Rattle.kp_signature.specs.declared.function.Function.{Function}
use Rattle.kp_signature.specs.declared.function.Function.TheVariants.{Two, Negation}
use Rattle.kp_signature.specs.declared.meaning.Meaning.{Meaning}
use Rattle.kp_signature.specs.declared.meaning.Meaning.TheVariants.{Injection, Constructor, Interpreted, Foreign}

abbrev pub function_view : Function → model.Hook
function_view (Two h) = hook_view h
function_view Negation = model.truth_negation

abbrev pub meaning_view : Meaning → SymbolMeaning
meaning_view Injection = injection
meaning_view Constructor = construction
meaning_view (Interpreted f) = interpretation (function_view f)
meaning_view Foreign = foreign

-- rows of a table of hooks: names with the functions that they stand for
abbrev pub row_view : Bor Text × Function → Text × model.Hook
row_view r = (r.0.now, function_view r.1)

abbrev pub rows_view : List (Bor Text × Function) → List (Text × model.Hook)
rows_view = map row_view
