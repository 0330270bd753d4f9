-- Which sides and forms of kp_symbolic the code's are.
use Rattle.std.specs.Prelude.{Bool, Option, Some, None, string_bytes}
use Rattle.std.specs.Option.{option_map}
use Rattle.kp_kore.specs.View.{sort_view}
use Rattle.kp_kore.specs.HookView.{comparison_view}
use Rattle.kp_ground.specs.View.{value_view}
use Rattle.kp_kore.specs.Value.{Value, whole, truth, token}
use Rattle.kp_symbolic.specs.Terms.{SymbolicTerm, known}
use Rattle.kp_symbolic.specs.States as states
use Rattle.kp_symbolic.specs.Plain as model
use Rattle.kp_symbolic.specs.View.{variable_view, term_view}
use Rattle.kp_literals.specs.declared.form.WholePart.{WholePart}
use Rattle.kp_literals.specs.declared.form.TokenPart.{TokenPart}
use Rattle.kp_literals.specs.declared.form.TokenPart.TheVariants as part
use Rattle.kp_literals.specs.declared.form.LiteralForm.{LiteralForm}
use Rattle.kp_literals.specs.declared.form.LiteralForm.TheVariants.{Compares, Truth, Equates, Asks, Gives}
use Rattle.kp_literals.specs.declared.form.AskedHeads.{AskedHeads}
use Rattle.kp_literals.specs.declared.form.AskedHeads.TheVariants as asked

abbrev pub whole_part_view : WholePart → model.WholePart
whole_part_view m = record { variable = option_map (λ x. string_bytes x.now.name) m.variable; constant = m.constant }

abbrev pub token_part_view : TokenPart → model.TokenPart
token_part_view (part.Unknown x) = model.some_token (string_bytes x.now.name)
token_part_view (part.Known u) = model.one_token (value_view u.now)

abbrev pub asked_view : AskedHeads → states.HeadTest
asked_view (asked.Constructor f) = states.one_head f.now
asked_view (asked.Sort s) = states.head_of_sort (sort_view s.now)

abbrev pub form_view : LiteralForm → model.Form
form_view (Compares c m n) = model.compares (comparison_view c) (whole_part_view m) (whole_part_view n)
form_view (Truth x b) = model.is_truth (string_bytes x.now.name) b
form_view (Equates b p q) = model.equates b (token_part_view p) (token_part_view q)
form_view (Asks x test b) = model.asks (variable_view x.now) (asked_view test) b
form_view (Gives x t) = model.gives (record { variable = variable_view x.now; term = term_view t.now })

-- a value as a side
abbrev pub number_said : Value → Option model.WholePart
number_said (whole n) = Some (record { variable = None; constant = n })
number_said _ = None

abbrev pub token_said : Value → Option model.TokenPart
token_said (token s t) = Some (model.one_token (token s t))
token_said _ = None

abbrev pub truth_known : SymbolicTerm → Option Bool
truth_known (known (truth b)) = Some b
truth_known _ = None
