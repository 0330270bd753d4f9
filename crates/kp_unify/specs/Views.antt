-- Which parts, courses and met parts of kp_case_laws the code's are.
use Rattle.std.specs.Prelude.{List, map}
use Rattle.kp_kore.specs.Syntax.{Text}
use Rattle.kp_kore.specs.Signature.{KoreSignature}
use Rattle.kp_kore.specs.View.{sort_view}
use Rattle.kp_names.specs.Met.{Lists}
use Rattle.kp_heads.specs.Made.{IsHeadTableOf}
use Rattle.kp_symbolic.specs.Languages.{language_view}
use Rattle.kp_symbolic.specs.View.{term_view, replaced_view, clauses_view, state_view}
use Rattle.kp_case_laws.specs.Parts.{StatePart}
use Rattle.kp_case_laws.specs.Cases as cases
use Rattle.kp_case_laws.specs.Courses as model
use Rattle.kp_unify.specs.Forms.{form_view}
use Rattle.kp_unify.specs.Narrowed.{NumberedPart}
use Rattle.kp_unify.specs.Way.{Stage}
use Rattle.kp_unify.specs.declared.part.Part.{Part}
use Rattle.kp_unify.specs.declared.part.MetPart.{MetPart}
use Rattle.kp_unify.specs.declared.part.Setting.{Setting}
use Rattle.kp_unify.specs.declared.course.Pair.{Pair}
use Rattle.kp_unify.specs.declared.course.Equality.{Equality}
use Rattle.kp_unify.specs.declared.course.Course.{Course}

abbrev pub part_view : Part → StatePart
part_view p = record { state = state_view p.state; added = clauses_view p.added.items }

abbrev pub numbered_view : Part → NumberedPart
numbered_view p = record { part = part_view p; next = p.next }

abbrev pub met_view : MetPart → cases.MetPart
met_view m = record { part = part_view m.part; equations = clauses_view m.equations.items; bindings = map replaced_view m.bindings.items }

abbrev pub pair_view : Pair → model.FormPair
pair_view q = record { form = form_view q.form; term = term_view q.term }

abbrev pub equality_view : Equality → model.Equality
equality_view e = record { sort = sort_view e.sort.value; left = term_view e.left; right = term_view e.right }

abbrev pub course_view : Course → model.Course
course_view k = record {
  part = part_view k.part;
  equalities = map equality_view k.equalities.items;
  bindings = map replaced_view k.bindings.items;
  pairs = map pair_view k.pairs.items;
}

abbrev pub stage_view : Course → Stage
stage_view k = record { course = course_view k; next = k.part.next; apart = map numbered_view k.apart.items }

abbrev pub signature_of : Setting → KoreSignature
signature_of s = language_view s.language.now

-- the table is that of the signature's heads
abbrev pub HasItsTable : Setting → Type 0
HasItsTable s = IsHeadTableOf (signature_of s) s.table.now

-- and these are the names that were met
pub record IsSetting (used : List Text) (s : Setting) : Type 0 where
  pub lists : Lists used s.met.now
  pub heads : HasItsTable s
