-- Which functions of the model the code's are.
use Rattle.kp_kore.specs.Hooks as model
use Rattle.kp_kore.specs.declared.hook.Arithmetic.{Arithmetic}
use Rattle.kp_kore.specs.declared.hook.Arithmetic.TheVariants.{Addition, Subtraction, Multiplication}
use Rattle.kp_kore.specs.declared.hook.Comparison.{Comparison}
use Rattle.kp_kore.specs.declared.hook.Comparison.TheVariants as comparison
use Rattle.kp_kore.specs.declared.hook.Connective.{Connective}
use Rattle.kp_kore.specs.declared.hook.Connective.TheVariants.{Both, Either, Implies, Same, Other}
use Rattle.kp_kore.specs.declared.hook.Hook.{Hook}
use Rattle.kp_kore.specs.declared.hook.Hook.TheVariants as hook

abbrev pub arithmetic_view : Arithmetic → model.Arithmetic
arithmetic_view Addition = model.addition
arithmetic_view Subtraction = model.subtraction
arithmetic_view Multiplication = model.multiplication

abbrev pub comparison_view : Comparison → model.Comparison
comparison_view comparison.Equal = model.equal
comparison_view comparison.Different = model.different
comparison_view comparison.Less = model.less
comparison_view comparison.AtMost = model.at_most
comparison_view comparison.Greater = model.greater
comparison_view comparison.AtLeast = model.at_least

abbrev pub connective_view : Connective → model.Connective
connective_view Both = model.both
connective_view Either = model.either
connective_view Implies = model.implies
connective_view Same = model.same
connective_view Other = model.other

abbrev pub hook_view : Hook → model.Hook
hook_view (hook.Arithmetic a) = model.whole_arithmetic (arithmetic_view a)
hook_view (hook.Comparison c) = model.whole_comparison (comparison_view c)
hook_view (hook.Connective c) = model.truth_connective (connective_view c)
hook_view hook.Equal = model.values_equal
hook_view hook.Different = model.values_different
