-- The fault that is met in a pattern, a module, modules or a definition is the first fault by the grammar.
use Rattle.std.proofs.Common.{◌≡◌, ℕ, List, [], refl, sym, ap, subst, ◌∙◌, ◌⊎◌, inl, inr}
use Rattle.kp_kore.specs.Syntax.{KorePattern, KoreModule, KoreDefinition}
use Rattle.kp_text.specs.Tokens.{lexemes}
use Rattle.kp_text.specs.Grammar.{Leveled, first_level, meaning, module_meaning, modules_meaning, definition_meaning}
use Rattle.kp_text.specs.Spelling.{IsPatternText, IsModuleText, IsModulesText, IsDefinitionText, FirstFault, IsFaultOf, offset, HasTokens, SpellsPattern, SpellsModule, SpellsModules, SpellsDefinition}
use Rattle.kp_text.specs.Next.{Answer, pattern_answer, module_answer, modules_answer, definition_answer, Place, done, Outcome, answered, faulty, run}
use Rattle.kp_text.specs.declared.fault.FaultKind.{FaultKind}
use Rattle.kp_text.specs.declared.fault.TextFault.{TextFault}
use Rattle.kp_text.proofs.Completes.{Completes}
use Rattle.kp_text.proofs.CompletePatterns.{pattern_completes}
use Rattle.kp_text.proofs.CompleteModules.{module_place, modules_place, definition_place, module_text_completes, spelled_module_runs, spelled_modules_run, spelled_definition_runs, modules_text_completes, definition_text_completes}
use Rattle.kp_text.proofs.Runs.{pattern_place, spelled_pattern_runs}
use Rattle.kp_text.proofs.SoundPlaces.{answers, completes_written}
use Rattle.kp_text.proofs.Spells.{written_pattern, written_module, written_modules, written_definition}
use Rattle.kp_text.proofs.Faults.{first_fault, first_fault_is_met}

-- a text completes the place where it begins, and what completes that place is a text
whole_pattern : (ls : List Leveled) → IsPatternText ls → (a : Answer) × Completes ls pattern_place a
whole_pattern ls (w, is) = (pattern_answer (meaning w), subst (λ ms. Completes ms pattern_place (pattern_answer (meaning w))) is (pattern_completes w first_level (λ p. done (pattern_answer p)) [] (pattern_answer (meaning w)) (λ p. refl) refl))

a_pattern_text : (ls : List Leveled) (a : Answer) → Completes ls pattern_place a → IsPatternText ls
a_pattern_text ls a go =
    let w = written_pattern ls a (completes_written ls pattern_place a go) in
    (w.0, sym w.1)

whole_module : (ls : List Leveled) → IsModuleText ls → (a : Answer) × Completes ls module_place a
whole_module ls (w, is) = (module_answer (module_meaning w), subst (λ ms. Completes ms module_place (module_answer (module_meaning w))) is (module_text_completes w))

a_module_text : (ls : List Leveled) (a : Answer) → Completes ls module_place a → IsModuleText ls
a_module_text ls a go =
    let w = written_module ls a (completes_written ls module_place a go) in
    (w.0, sym w.1)

whole_modules : (ls : List Leveled) → IsModulesText ls → (a : Answer) × Completes ls modules_place a
whole_modules ls (w, is) = (modules_answer (modules_meaning w), subst (λ ms. Completes ms modules_place (modules_answer (modules_meaning w))) is (modules_text_completes w))

a_modules_text : (ls : List Leveled) (a : Answer) → Completes ls modules_place a → IsModulesText ls
a_modules_text ls a go =
    let w = written_modules ls a (completes_written ls modules_place a go) in
    (w.0, sym w.1)

whole_definition : (ls : List Leveled) → IsDefinitionText ls → (a : Answer) × Completes ls definition_place a
whole_definition ls (w, is) = (definition_answer (definition_meaning w), subst (λ ms. Completes ms definition_place (definition_answer (definition_meaning w))) is (definition_text_completes w))

a_definition_text : (ls : List Leveled) (a : Answer) → Completes ls definition_place a → IsDefinitionText ls
a_definition_text ls a go =
    let w = written_definition ls a (completes_written ls definition_place a go) in
    (w.0, sym w.1)

-- the fault of bytes that are read, by its offset
placed : (Texts : List Leveled → Type 0) (bytes : List ℕ) (left : ℕ) (k : FaultKind) → FirstFault Texts [] (lexemes bytes) left k → IsFaultOf Texts bytes (record { at = offset bytes left k; kind = k })
placed Texts bytes left k first = (left, first, refl)

pub pattern_fault : (bytes : List ℕ) (left : ℕ) (k : FaultKind) → run (lexemes bytes) pattern_place ≡ faulty left k → IsFaultOf IsPatternText bytes (record { at = offset bytes left k; kind = k })
pattern_fault bytes left k e = placed IsPatternText bytes left k (first_fault IsPatternText pattern_place whole_pattern a_pattern_text (lexemes bytes) left k e)

pub module_fault : (bytes : List ℕ) (left : ℕ) (k : FaultKind) → run (lexemes bytes) module_place ≡ faulty left k → IsFaultOf IsModuleText bytes (record { at = offset bytes left k; kind = k })
module_fault bytes left k e = placed IsModuleText bytes left k (first_fault IsModuleText module_place whole_module a_module_text (lexemes bytes) left k e)

pub modules_fault : (bytes : List ℕ) (left : ℕ) (k : FaultKind) → run (lexemes bytes) modules_place ≡ faulty left k → IsFaultOf IsModulesText bytes (record { at = offset bytes left k; kind = k })
modules_fault bytes left k e = placed IsModulesText bytes left k (first_fault IsModulesText modules_place whole_modules a_modules_text (lexemes bytes) left k e)

pub definition_fault : (bytes : List ℕ) (left : ℕ) (k : FaultKind) → run (lexemes bytes) definition_place ≡ faulty left k → IsFaultOf IsDefinitionText bytes (record { at = offset bytes left k; kind = k })
definition_fault bytes left k e = placed IsDefinitionText bytes left k (first_fault IsDefinitionText definition_place whole_definition a_definition_text (lexemes bytes) left k e)

-- a fault of the bytes is met when they are read
fault_is_met : (Texts : List Leveled → Type 0) (start : Place) → ((ls : List Leveled) → Texts ls → (a : Answer) × Completes ls start a) → ((ls : List Leveled) (a : Answer) → Completes ls start a → Texts ls) → (bytes : List ℕ) (f : TextFault) → IsFaultOf Texts bytes f → (left : ℕ) × (run (lexemes bytes) start ≡ faulty left f.kind) × (f.at ≡ offset bytes left f.kind)
fault_is_met Texts start complete sound bytes f is = (is.0, first_fault_is_met Texts start complete sound (lexemes bytes) is.0 f.kind is.1, is.2)

left_of : (m n : ℕ) (j k : FaultKind) → faulty m j ≡ faulty n k → m ≡ n
left_of m n j k e = cc

kind_of : (m n : ℕ) (j k : FaultKind) → faulty m j ≡ faulty n k → j ≡ k
kind_of m n j k e = cc

same_made : (at by : ℕ) (j k : FaultKind) → at ≡ by → j ≡ k → ◌≡◌ {A = TextFault} (record { at = at; kind = j }) (record { at = by; kind = k })
same_made at by j k e f = cc

same_fault : (bytes : List ℕ) (o : Outcome) (f g : TextFault) → (left : ℕ) × (o ≡ faulty left f.kind) × (f.at ≡ offset bytes left f.kind) → (left : ℕ) × (o ≡ faulty left g.kind) × (g.at ≡ offset bytes left g.kind) → f ≡ g
same_fault bytes o f g one other =
    let met = sym one.1 ∙ other.1 in
    let alike = kind_of one.0 other.0 f.kind g.kind met in
    same_made f.at g.at f.kind g.kind (one.2 ∙ ap (λ n. offset bytes n f.kind) (left_of one.0 other.0 f.kind g.kind met) ∙ ap (λ k. offset bytes other.0 k) alike ∙ sym other.2) alike

not_an_answer : (o : Outcome) (a : Answer) (left : ℕ) (k : FaultKind) → o ≡ answered a → o ≡ faulty left k → ⊥
not_an_answer o a left k e f = cc

pub one_pattern_fault : (bytes : List ℕ) (f g : TextFault) → IsFaultOf IsPatternText bytes f → IsFaultOf IsPatternText bytes g → f ≡ g
one_pattern_fault bytes f g one other = same_fault bytes (run (lexemes bytes) pattern_place) f g (fault_is_met IsPatternText pattern_place whole_pattern a_pattern_text bytes f one) (fault_is_met IsPatternText pattern_place whole_pattern a_pattern_text bytes g other)

pub not_pattern_and_fault : (bytes : List ℕ) (v : KorePattern) (f : TextFault) → SpellsPattern bytes v → IsFaultOf IsPatternText bytes f → ⊥
not_pattern_and_fault bytes v f spells is =
    let met = fault_is_met IsPatternText pattern_place whole_pattern a_pattern_text bytes f is in
    not_an_answer (run (lexemes bytes) pattern_place) (pattern_answer v) met.0 f.kind (spelled_pattern_runs bytes v spells) met.1

pattern_or : (bytes : List ℕ) (o : Outcome) → run (lexemes bytes) pattern_place ≡ o → ((v : KorePattern) × SpellsPattern bytes v) ⊎ ((f : TextFault) × IsFaultOf IsPatternText bytes f)
pattern_or bytes (answered a) e =
    let read = answers (lexemes bytes) pattern_place a e in
    let w = written_pattern read.0 a (completes_written read.0 pattern_place a read.3) in
    inl (meaning w.0, (w.0, subst (λ ls. HasTokens bytes ls) w.1 (record { tokens = read.1; shallow = read.2 }), refl))
pattern_or bytes (faulty left k) e = inr (record { at = offset bytes left k; kind = k }, pattern_fault bytes left k e)

pub pattern_or_fault : (bytes : List ℕ) → ((v : KorePattern) × SpellsPattern bytes v) ⊎ ((f : TextFault) × IsFaultOf IsPatternText bytes f)
pattern_or_fault bytes = pattern_or bytes (run (lexemes bytes) pattern_place) refl

pub one_module_fault : (bytes : List ℕ) (f g : TextFault) → IsFaultOf IsModuleText bytes f → IsFaultOf IsModuleText bytes g → f ≡ g
one_module_fault bytes f g one other = same_fault bytes (run (lexemes bytes) module_place) f g (fault_is_met IsModuleText module_place whole_module a_module_text bytes f one) (fault_is_met IsModuleText module_place whole_module a_module_text bytes g other)

pub not_module_and_fault : (bytes : List ℕ) (v : KoreModule) (f : TextFault) → SpellsModule bytes v → IsFaultOf IsModuleText bytes f → ⊥
not_module_and_fault bytes v f spells is =
    let met = fault_is_met IsModuleText module_place whole_module a_module_text bytes f is in
    not_an_answer (run (lexemes bytes) module_place) (module_answer v) met.0 f.kind (spelled_module_runs bytes v spells) met.1

module_or : (bytes : List ℕ) (o : Outcome) → run (lexemes bytes) module_place ≡ o → ((v : KoreModule) × SpellsModule bytes v) ⊎ ((f : TextFault) × IsFaultOf IsModuleText bytes f)
module_or bytes (answered a) e =
    let read = answers (lexemes bytes) module_place a e in
    let w = written_module read.0 a (completes_written read.0 module_place a read.3) in
    inl (module_meaning w.0, (w.0, subst (λ ls. HasTokens bytes ls) w.1 (record { tokens = read.1; shallow = read.2 }), refl))
module_or bytes (faulty left k) e = inr (record { at = offset bytes left k; kind = k }, module_fault bytes left k e)

pub module_or_fault : (bytes : List ℕ) → ((v : KoreModule) × SpellsModule bytes v) ⊎ ((f : TextFault) × IsFaultOf IsModuleText bytes f)
module_or_fault bytes = module_or bytes (run (lexemes bytes) module_place) refl

pub one_modules_fault : (bytes : List ℕ) (f g : TextFault) → IsFaultOf IsModulesText bytes f → IsFaultOf IsModulesText bytes g → f ≡ g
one_modules_fault bytes f g one other = same_fault bytes (run (lexemes bytes) modules_place) f g (fault_is_met IsModulesText modules_place whole_modules a_modules_text bytes f one) (fault_is_met IsModulesText modules_place whole_modules a_modules_text bytes g other)

pub not_modules_and_fault : (bytes : List ℕ) (v : List KoreModule) (f : TextFault) → SpellsModules bytes v → IsFaultOf IsModulesText bytes f → ⊥
not_modules_and_fault bytes v f spells is =
    let met = fault_is_met IsModulesText modules_place whole_modules a_modules_text bytes f is in
    not_an_answer (run (lexemes bytes) modules_place) (modules_answer v) met.0 f.kind (spelled_modules_run bytes v spells) met.1

modules_or : (bytes : List ℕ) (o : Outcome) → run (lexemes bytes) modules_place ≡ o → ((v : List KoreModule) × SpellsModules bytes v) ⊎ ((f : TextFault) × IsFaultOf IsModulesText bytes f)
modules_or bytes (answered a) e =
    let read = answers (lexemes bytes) modules_place a e in
    let w = written_modules read.0 a (completes_written read.0 modules_place a read.3) in
    inl (modules_meaning w.0, (w.0, subst (λ ls. HasTokens bytes ls) w.1 (record { tokens = read.1; shallow = read.2 }), refl))
modules_or bytes (faulty left k) e = inr (record { at = offset bytes left k; kind = k }, modules_fault bytes left k e)

pub modules_or_fault : (bytes : List ℕ) → ((v : List KoreModule) × SpellsModules bytes v) ⊎ ((f : TextFault) × IsFaultOf IsModulesText bytes f)
modules_or_fault bytes = modules_or bytes (run (lexemes bytes) modules_place) refl

pub one_definition_fault : (bytes : List ℕ) (f g : TextFault) → IsFaultOf IsDefinitionText bytes f → IsFaultOf IsDefinitionText bytes g → f ≡ g
one_definition_fault bytes f g one other = same_fault bytes (run (lexemes bytes) definition_place) f g (fault_is_met IsDefinitionText definition_place whole_definition a_definition_text bytes f one) (fault_is_met IsDefinitionText definition_place whole_definition a_definition_text bytes g other)

pub not_definition_and_fault : (bytes : List ℕ) (v : KoreDefinition) (f : TextFault) → SpellsDefinition bytes v → IsFaultOf IsDefinitionText bytes f → ⊥
not_definition_and_fault bytes v f spells is =
    let met = fault_is_met IsDefinitionText definition_place whole_definition a_definition_text bytes f is in
    not_an_answer (run (lexemes bytes) definition_place) (definition_answer v) met.0 f.kind (spelled_definition_runs bytes v spells) met.1

definition_or : (bytes : List ℕ) (o : Outcome) → run (lexemes bytes) definition_place ≡ o → ((v : KoreDefinition) × SpellsDefinition bytes v) ⊎ ((f : TextFault) × IsFaultOf IsDefinitionText bytes f)
definition_or bytes (answered a) e =
    let read = answers (lexemes bytes) definition_place a e in
    let w = written_definition read.0 a (completes_written read.0 definition_place a read.3) in
    inl (definition_meaning w.0, (w.0, subst (λ ls. HasTokens bytes ls) w.1 (record { tokens = read.1; shallow = read.2 }), refl))
definition_or bytes (faulty left k) e = inr (record { at = offset bytes left k; kind = k }, definition_fault bytes left k e)

pub definition_or_fault : (bytes : List ℕ) → ((v : KoreDefinition) × SpellsDefinition bytes v) ⊎ ((f : TextFault) × IsFaultOf IsDefinitionText bytes f)
definition_or_fault bytes = definition_or bytes (run (lexemes bytes) definition_place) refl
