-- Rewrite axioms as a theory sees them.
use Rattle.std.specs.Prelude.{ℕ, List, [], ◌∷◌, map, string_bytes, if◌then◌else◌}
use Rattle.kp_kore.specs.Syntax.{Text, Statement}
use Rattle.kp_kore.specs.View.{axiom_sentence_view}
use Rattle.kp_kore.specs.Rules.{is_rewriting}
use Rattle.kp_kore.specs.Theory.{NumberedAxiom}
use Rattle.kp_modules.specs.declared.axioms.RewriteAxiom.{RewriteAxiom}

abbrev pub axiom_view : RewriteAxiom → NumberedAxiom
axiom_view a = record { key = string_bytes a.module.now; number = a.number; axiom_of = axiom_sentence_view a.axiom.now }

abbrev pub axioms_view : List RewriteAxiom → List NumberedAxiom
axioms_view = map axiom_view

-- the axiom of this number in the module of this name
abbrev pub axiom_at : Text → ℕ → Statement → NumberedAxiom
axiom_at key n a = record { key = key; number = n; axiom_of = a }

-- the axiom, where it is a rewrite axiom
abbrev pub if_rewriting : NumberedAxiom → List NumberedAxiom
if_rewriting a = if is_rewriting a.axiom_of.pattern then a ∷ [] else []
