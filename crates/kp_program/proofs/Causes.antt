-- From what the code tells to the causes of its endings.
use Rattle.std.proofs.Common.{◌≡◌, ◌<◌, ◌≤◌, ◌⊎◌, ℕ, List, Option, Some, None, IfSome, IfOk, IfErr, Result, Ok, Err, String, string_bytes, Global, refl, sym, ap, subst, ◌∙◌, inl, inr, arith}
use Rattle.std.specs.declared.alloc.AllocError.{AllocError}
use Rattle.kp_kore.specs.Syntax.{Text, KoreDefinition}
use Rattle.kp_io.specs.Outside.{Names, HoldsMore, Rose, load_limit}
use Rattle.kp_text.specs.Spelling.{SpellsDefinition}
use Rattle.kp_text.proofs.CompleteModules.{one_definition}
use Rattle.kp_text.proofs.FirstFaults.{not_definition_and_fault}
use Rattle.kp_imports.specs.Faults.{HasNoFault, IsFirstFault}
use Rattle.kp_program.specs.Faults.{too_long, in_text, in_modules, in_claims, IsFileFault, IsFaultless}
use Rattle.kp_program.specs.Statuses.{Ending, memory, exit_status, line_of, IsCause, Tells}
use Rattle.kp_program.specs.Troubles.{EndsAs, IsFileAbsent, IsFaulty, IsLate, ending_of}
use Rattle.kp_command.specs.Words.{NamesDefinition}
use Rattle.kp_program.specs.declared.trouble.Trouble.{Trouble}
use Rattle.kp_program.specs.declared.trouble.Trouble.TheVariants as trouble
use Rattle.kp_kore.specs.Theory.{Theory, IsTheoryOf, modules_reached}
use Rattle.kp_imports.specs.Names.{names_of}
use Rattle.kp_imports.specs.Reaching.{has}
use Rattle.kp_modules.specs.Openings as openings
use Rattle.kp_modules.specs.Tables.{RunsTable, does_reach, main_of}
use Rattle.kp_modules.specs.declared.table.ModuleTable.{ModuleTable}
use Rattle.kp_program.specs.Inputs.{IsTableOf}
use Rattle.kp_program.proofs.Served.{some_longer}
use Rattle.std.specs.Prelude.{length}

-- ---- files

-- a file that spells a definition without a fault has none
pub faultless_file : (file main : List ℕ) (d : KoreDefinition) → length file ≤ load_limit → SpellsDefinition file d → HasNoFault d main → IsFaultless file main
faultless_file file main d fits spells none too_long long = absurd (omega arith)
faultless_file file main d fits spells none (in_text f) at = not_definition_and_fault file d f spells at.1
faultless_file file main d fits spells none (in_claims f) at = absurd at
faultless_file file main d fits spells none (in_modules f) at =
    none f (subst (λ (x : KoreDefinition). IsFirstFault x main f) (one_definition file at.1 d at.2 spells) at.3).is_fault

pub table_is : (file main : List ℕ) (d : KoreDefinition) (table : ModuleTable) → length file ≤ load_limit → SpellsDefinition file d → ((t : Theory) × IsTheoryOf d main t × RunsTable t table) → main_of table ≡ main
    → ((n : Text) → does_reach table n ≡ has n (names_of (modules_reached d main))) → openings.IsTableOf (openings.opening_of d main) table → HasNoFault d main → IsTableOf file main table
table_is file main d table fits spells theory main_is reaches opens none = record {
  faultless = faultless_file file main d fits spells none;
  definition = d;
  spells = spells;
  setting = record { theory = theory.0; main = main; names = names_of (modules_reached d main) };
  is_setting = record { means = theory.1; main_is = refl; names_are = refl };
  is_table = record { runs = theory.2; main_is = main_is; reaches = reaches };
  opens = opens;
}

pub faulty_cause : (names : Option Names) (words : List (List ℕ)) (failed : Type 0) (name main file : List ℕ) (t : Trouble) →
    IfSome names (λ held. held name ≡ Some file) → NamesDefinition words name main → IsFaulty file name main t → IsCause names words failed (ending_of t)
faulty_cause names words failed name main file (trouble.File n f) there named wrong = inl (record {
  main = main;
  named = subst (λ (x : List ℕ). NamesDefinition words x main) (sym wrong.0) named;
  file = file;
  there = subst (λ (x : List ℕ). IfSome names (λ held. held x ≡ Some file)) (sym wrong.0) there;
  fault = wrong.1;
})
faulty_cause names words failed name main file (trouble.NoFile n) there named wrong = absurd wrong
faulty_cause names words failed name main file trouble.Outside there named wrong = absurd wrong
faulty_cause names words failed name main file trouble.Memory there named wrong = tt

held_longer : (o : Option (List ℕ)) → HoldsMore load_limit o → (file : List ℕ) × (o ≡ Some file) × (load_limit < length file)
held_longer None more = absurd more
held_longer (Some bytes) more = (bytes, refl, more)

pub long_file : (names : Option Names) (name : List ℕ) → IfSome names (λ held. HoldsMore load_limit (held name)) → (file : List ℕ) × IfSome names (λ held. held name ≡ Some file) × (load_limit < length file)
long_file None name more = let r = some_longer load_limit in (r.0, tt, r.1)
long_file (Some held) name more = held_longer (held name) more

pub too_long_cause : (names : Option Names) (words : List (List ℕ)) (failed : Type 0) (name main : List ℕ) (t : Trouble) →
    IfSome names (λ held. HoldsMore load_limit (held name)) → NamesDefinition words name main → ((file any : List ℕ) → IsFileFault file any too_long → IsFaulty file name any t) → IsCause names words failed (ending_of t)
too_long_cause names words failed name main t more named told =
    let l = long_file names name more in
    faulty_cause names words failed name main l.0 t l.1 named (told l.0 main l.2)

-- ---- late

pub late_cause : (names : Option Names) (words : List (List ℕ)) (a b : Type 0) (t : Trouble) → (a → b) → IsLate a t → IsCause names words b (ending_of t)
late_cause names words a b (trouble.File n f) h late = absurd late
late_cause names words a b (trouble.NoFile n) h late = absurd late
late_cause names words a b trouble.Outside h late = h late
late_cause names words a b trouble.Memory h late = tt

pub late_status : (failed : Type 0) (t : Trouble) → IsLate failed t → exit_status (ending_of t) ≤ 5 → ⊥
late_status failed (trouble.File n f) late low = late
late_status failed (trouble.NoFile n) late low = late
late_status failed trouble.Outside late low = absurd (omega arith)
late_status failed trouble.Memory late low = absurd (omega arith)

-- ---- lines

pub ends_as : (e : Ending) (failed : Type 0) (before after : Option (List ℕ)) (line : Result (String Global) AllocError) (status : ℕ) →
    IfOk line (λ made. string_bytes made ≡ line_of e) → IfOk line (λ made. (status ≡ exit_status e) × Tells failed before after (string_bytes made))
    → IfErr line (λ _. (status ≡ 7) × Tells failed before after (line_of memory)) → EndsAs e failed before after status
ends_as e failed before after (Ok made) status is told lost = inl (told.0, subst (λ (x : List ℕ). Tells failed before after x) is told.1)
ends_as e failed before after (Err x) status is told lost = inr lost

-- the same of the trouble that it is, whose ending has another name
pub ends_at : (t u : Trouble) (e : Ending) → t ≡ u → e ≡ ending_of u → (failed : Type 0) (before after : Option (List ℕ)) (status : ℕ) → EndsAs e failed before after status → EndsAs (ending_of t) failed before after status
ends_at t u e same is failed before after status ends = subst (λ (x : Ending). EndsAs x failed before after status) (is ∙ ap ending_of (sym same)) ends

-- there is no file of this name
pub absent_cause : (names : Option Names) (words : List (List ℕ)) (failed : Type 0) (name main : List ℕ) (t : Trouble) →
    IfSome names (λ held. held name ≡ None) → NamesDefinition words name main → IsFileAbsent name t → IsCause names words failed (ending_of t)
absent_cause names words failed name main (trouble.File n f) nowhere named told = absurd told
absent_cause names words failed name main (trouble.NoFile n) nowhere named told = inl (
  main,
  subst (λ (x : List ℕ). NamesDefinition words x main) (sym told) named,
  subst (λ (x : List ℕ). IfSome names (λ held. held x ≡ None)) (sym told) nowhere,
)
absent_cause names words failed name main trouble.Outside nowhere named told = absurd told
absent_cause names words failed name main trouble.Memory nowhere named told = tt

-- a count that rose after it hadn't fallen
pub rose_before : (a b c : ℕ) (B : Type 0) → a ≤ b → Rose b c ⊎ B → Rose a c ⊎ B
rose_before a b c B l (inl (inl r)) = inl (inl (omega arith))
rose_before a b c B l (inl (inr r)) = inl (inr r)
rose_before a b c B l (inr o) = inr o
