-- Which terms the code's terms are.
use Rattle.std.specs.Prelude.{List, [], ◌∷◌, string_bytes}
use Rattle.kp_ground.specs.Terms.{RuleTerm, bound, fixed, built, call, opposite, RuleTerms, no_terms, next_term}
use Rattle.kp_ground.specs.View.{value_view}
use Rattle.kp_kore.specs.HookView.{hook_view}
use Rattle.kp_ground.specs.declared.term.CompiledTerm.{CompiledTerm, fold-CompiledTerm}
use Rattle.kp_ground.specs.declared.term.CompiledTerm.TheOpen.{CompiledTerm-F}

abbrev pub terms_of : List RuleTerm → RuleTerms
terms_of [] = no_terms
terms_of (t ∷ ts) = next_term t (terms_of ts)

-- one level, with each argument already seen as its term
abbrev pub term_step : CompiledTerm-F RuleTerm → RuleTerm
term_step (CompiledTerm-F.Variable x i) = bound (string_bytes x)
term_step (CompiledTerm-F.Fixed u) = fixed (value_view u)
term_step (CompiledTerm-F.Built c ts) = built (string_bytes c.value) (terms_of ts.items)
term_step (CompiledTerm-F.Call h t s) = call (hook_view h) t.value s.value
term_step (CompiledTerm-F.Opposite t) = opposite t.value

abbrev pub term_view : CompiledTerm → RuleTerm
term_view = fold-CompiledTerm RuleTerm term_step
