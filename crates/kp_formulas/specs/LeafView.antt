-- Which heads, bound variables and questions for heads of kp_kore and kp_symbolic the code's are.
use Rattle.std.specs.Prelude.{string_bytes}
use Rattle.kp_kore.specs.Parts.{SortedName}
use Rattle.kp_kore.specs.Signature as model
use Rattle.kp_kore.specs.View.{view, sort_view}
use Rattle.kp_symbolic.specs.Opening as opening
use Rattle.kp_symbolic.specs.View.{test_view}
use Rattle.kp_formulas.specs.declared.head.LeafHead.{LeafHead}
use Rattle.kp_formulas.specs.declared.head.LeafHead.TheVariants.{Integers, Booleans, Tokens, Constructor}
use Rattle.kp_formulas.specs.declared.bound_variables.BoundVariable.{BoundVariable}
use Rattle.kp_formulas.specs.declared.question.HeadQuestion.{HeadQuestion}

abbrev pub head_view : LeafHead → model.Head
head_view Integers = model.integers
head_view Booleans = model.booleans
head_view (Tokens s) = model.tokens (sort_view s.now)
head_view (Constructor f) = model.constructor_of f.now

abbrev pub bound_view : BoundVariable → SortedName
bound_view x = record { name = string_bytes x.name.now; sort = sort_view x.sort.now }

abbrev pub question_view : HeadQuestion → opening.HeadQuestion
question_view q = record { subject = view q.subject.now; test = test_view q.test }
