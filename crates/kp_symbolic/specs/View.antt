-- Which terms, literals, clauses and states of kp_symbolic the code's are.
use Rattle.std.specs.Prelude.{List, [], ◌∷◌, map, string_bytes}
use Rattle.std.specs.declared.alloc.Global.{Global}
use Rattle.std.specs.declared.sync.Arc.{Arc}
use Rattle.kp_kore.specs.Parts.{SortedName}
use Rattle.kp_kore.specs.View.{view, sort_view}
use Rattle.kp_ground.specs.View.{value_view}
use Rattle.kp_symbolic.specs.Terms as model
use Rattle.kp_symbolic.specs.States as states
use Rattle.kp_symbolic.specs.declared.variable.Variable.{Variable}
use Rattle.kp_symbolic.specs.declared.term.Term.{Term, fold-Term}
use Rattle.kp_symbolic.specs.declared.term.Term.TheOpen.{Term-F}
use Rattle.kp_symbolic.specs.declared.atom.HeadTest.{HeadTest}
use Rattle.kp_symbolic.specs.declared.atom.HeadTest.TheVariants.{Constructor, Sort}
use Rattle.kp_symbolic.specs.declared.atom.Replaced.{Replaced}
use Rattle.kp_symbolic.specs.declared.atom.Atom.{Atom}
use Rattle.kp_symbolic.specs.declared.atom.Atom.TheVariants.{Same, Head, Quoted}
use Rattle.kp_symbolic.specs.declared.clause.Literal.{Literal}
use Rattle.kp_symbolic.specs.declared.clause.Clause.{Clause}
use Rattle.kp_symbolic.specs.declared.state.State.{State}

abbrev pub variable_view : Variable → SortedName
variable_view x = record { name = string_bytes x.name; sort = sort_view x.sort }

abbrev pub terms_of : List model.SymbolicTerm → model.SymbolicTerms
terms_of [] = model.no_terms
terms_of (t ∷ ts) = model.next_term t (terms_of ts)

-- one level, with each argument already seen as its term
abbrev pub term_step : Term-F model.SymbolicTerm → model.SymbolicTerm
term_step (Term-F.Unknown x) = model.unknown (variable_view x.value)
term_step (Term-F.Offset x c) = model.offset (variable_view x.value) c
term_step (Term-F.Known u) = model.known (value_view u)
term_step (Term-F.Headed f ts) = model.headed (string_bytes f.value) (terms_of ts.value.items)

abbrev pub term_view : Term → model.SymbolicTerm
term_view = fold-Term model.SymbolicTerm term_step

abbrev pub test_view : HeadTest → states.HeadTest
test_view (Constructor f) = states.one_head (string_bytes f.value)
test_view (Sort s) = states.head_of_sort (sort_view s.value)

abbrev pub replaced_view : Replaced → model.Replaced
replaced_view r = record { name = string_bytes r.name.value; term = term_view r.term }

abbrev pub atom_view : Atom → states.Atom
atom_view (Same s t u) = states.same (sort_view s.value) (term_view t) (term_view u)
atom_view (Head x test) = states.has_head (variable_view x.value) (test_view test)
atom_view (Quoted p rs) = states.quoted (view p.value) (map replaced_view rs.value.items)

abbrev pub literal_view : Literal → states.Literal
literal_view l = record { holds = l.holds; atom = atom_view l.atom }

abbrev pub clause_view : Clause → List states.Literal
clause_view c = map literal_view c.literals.value.items

abbrev pub clauses_view : List Clause → List (List states.Literal)
clauses_view cs = map clause_view cs

abbrev pub variables_view : List (Arc Variable Global) → List SortedName
variables_view xs = map (λ x. variable_view x.value) xs

abbrev pub state_view : State → states.SymbolicState
state_view s = record { term = term_view s.term; sort = sort_view s.sort.value; clauses = clauses_view s.clauses.items; variables = variables_view s.variables.items }
