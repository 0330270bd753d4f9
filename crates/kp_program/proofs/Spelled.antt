-- Words, causes and statuses.
use Rattle.std.proofs.Common.{◌≡◌, ◌≤◌, ◌⊎◌, ℕ, List, Option, Some, None, IfSome, inl, inr, refl, sym, ap, subst, ◌∙◌, arith, codes, string_bytes, flat_map}
use Rattle.kp_kore.specs.Syntax.{KoreModule, KoreDefinition}
use Rattle.kp_kore.specs.Signature.{KoreSignature, signature_of}
use Rattle.kp_io.specs.Outside.{Names}
use Rattle.kp_kore.specs.Theory.{modules_reached}
use Rattle.kp_text.specs.Spelling.{SpellsDefinition}
use Rattle.kp_text.proofs.CompleteModules.{one_definition}
use Rattle.kp_command.specs.Commands.{IsCommand, prove_view}
use Rattle.kp_program.specs.Does.{BeginsWords}
use Rattle.kp_program.specs.Proofs.{Proved}
use Rattle.kp_program.specs.Served.{BreaksFile, GainsFront}
use Rattle.kp_command.specs.declared.command.Command.{Command}
use Rattle.kp_command.specs.declared.command.Command.TheVariants as command
use Rattle.kp_program.specs.Faults.{FileFault, IsFileFault, IsClaimsFault}
use Rattle.kp_program.specs.Loaded.{IsLoaded}
use Rattle.kp_program.specs.Statuses.{Ending, usage, memory, exit_status, IsCause, IsEnded, IsFaultyDefinition, AreClaimsOf, AreFaultyClaims, IsNowhere, IsServable, IsProvable, IsPossible, Tells}
use Rattle.kp_program.specs.Troubles.{EndsAs, file_fault_view, ending_of}
use Rattle.kp_command.specs.Words.{ProveWords, AreFaultless, SpellsStdio, SpellsProve, SpellsSome, NamesDefinition}
use Rattle.kp_command.proofs.OneCommand.{not_both, same_command, same_files}
use Rattle.kp_program.specs.declared.trouble.Trouble.{Trouble}
use Rattle.kp_program.specs.declared.trouble.Trouble.TheVariants as trouble

-- ---- words

-- the definition that they name
named_by_stdio : (words : List (List ℕ)) (d e m n : List ℕ) → NamesDefinition words d m → SpellsStdio words e n → (d ≡ e) × (m ≡ n)
named_by_stdio words d e m n (inl s) r = same_command words d e m n s r
named_by_stdio words d e m n (inr (c, s, is, main)) r = absurd (not_both words e n c r s)

named_by_prove : (words : List (List ℕ)) (d m : List ℕ) (c : ProveWords) → NamesDefinition words d m → SpellsProve words c → (d ≡ c.definition) × (m ≡ c.main)
named_by_prove words d m c (inl s) r = absurd (not_both words d m c s r)
named_by_prove words d m c (inr (b, s, is, main)) r = let same = same_files words b c s r in (sym is ∙ same.definition, sym main ∙ same.main)

-- a command's words are spelled
pub command_spells : (words : List (List ℕ)) (c : Command) → IsCommand words c → SpellsSome words
command_spells words (command.Stdio c) is = inl (c.definition.now, c.module_name.now, is)
command_spells words (command.Prove c) is = inr (prove_view c, is)

-- what was served in part is what the words say in part
pub begins_serving : (names : Option Names) (left left_after held held_after : Option (List ℕ)) (Same : Type 0) (words : List (List ℕ)) (name main : List ℕ) → SpellsStdio words name main →
    Same ⊎ BreaksFile names left left_after held held_after name main → Same ⊎ BeginsWords names left left_after held held_after words
begins_serving names left left_after held held_after Same words name main spelled (inl same) = inl same
begins_serving names left left_after held held_after Same words name main spelled (inr broken) = inr (inl (name, main, spelled, broken))

-- of a report a front was written
pub begins_proving : (names : Option Names) (left left_after held held_after : Option (List ℕ)) (words : List (List ℕ)) (c : ProveWords) → SpellsProve words c → left_after ≡ left →
    (held_after ≡ held) ⊎ ((status : ℕ) × Proved names (GainsFront held held_after) c status) → ((left_after ≡ left) × (held_after ≡ held)) ⊎ BeginsWords names left left_after held held_after words
begins_proving names left left_after held held_after words c spelled unread (inl same) = inl (unread, same)
begins_proving names left left_after held held_after words c spelled unread (inr (status, proved)) = inr (inr (inl (status, (c, spelled, proved))))

-- no count but those that a proof has to do with
pub without_input : (a b c : Type 0) → a ⊎ c → a ⊎ (b ⊎ c)
without_input a b c (inl x) = inl x
without_input a b c (inr x) = inr (inr x)

-- ---- statuses

pub usage_is_told : (names : Option Names) (words : List (List ℕ)) (failed untold : Type 0) (before after : Option (List ℕ)) (status : ℕ) →
    ¬ AreFaultless words → status ≡ 3 → Tells untold before after (codes "kprove: usage\n") → IsEnded names words failed before after untold status
usage_is_told names words failed untold before after status none is told = record { ending = usage; status_is = is; because = none; told = told }

pub trouble_is_told : (names : Option Names) (words : List (List ℕ)) (failed untold : Type 0) (before after : Option (List ℕ)) (status : ℕ) (t : Trouble) →
    IsCause names words failed (ending_of t) → EndsAs (ending_of t) untold before after status → IsEnded names words failed before after untold status
trouble_is_told names words failed untold before after status t because (inl x) = record { ending = ending_of t; status_is = x.0; because = because; told = x.1 }
trouble_is_told names words failed untold before after status t because (inr x) = record { ending = memory; status_is = x.0; because = tt; told = x.1 }

-- no trouble has the status of words that are no command, or of an input that was served
above_usage : (t : Trouble) → 4 ≤ exit_status (ending_of t)
above_usage (trouble.File name fault) = omega arith
above_usage (trouble.NoFile name) = omega arith
above_usage trouble.Outside = omega arith
above_usage trouble.Memory = omega arith

pub trouble_is_above : (untold : Type 0) (before after : Option (List ℕ)) (status : ℕ) (t : Trouble) → EndsAs (ending_of t) untold before after status → 4 ≤ status
trouble_is_above untold before after status t (inl x) = let a = above_usage t in let e = x.0 in omega arith
trouble_is_above untold before after status t (inr x) = let e = x.0 in omega arith

-- a status below that of want of memory is the trouble's own
pub own_status : (e : Ending) (untold : Type 0) (before after : Option (List ℕ)) (status : ℕ) → EndsAs e untold before after status → status ≤ 5 → exit_status e ≤ 5
own_status e untold before after status (inl x) low = let s = x.0 in omega arith
own_status e untold before after status (inr x) low = let s = x.0 in absurd (omega arith)

-- ---- where the program can't end so

out_of_memory : (e : Ending) (untold : Type 0) (before after : Option (List ℕ)) (status : ℕ) → EndsAs e untold before after status → exit_status e ≡ 7 → status ≡ 7
out_of_memory e untold before after status (inl x) is = x.0 ∙ is
out_of_memory e untold before after status (inr x) is = x.0

-- a name holds one file
one_file : (held : Names) (n m : List ℕ) (x y : Option (List ℕ)) → n ≡ m → held n ≡ x → held m ≡ y → x ≡ y
one_file held n m x y same there too = sym there ∙ (ap held same ∙ too)

-- where the input can be served, neither file has a fault
no_fault_to_serve : (words : List (List ℕ)) (held : Names) (s : IsServable words held) (name : List ℕ) (f : FileFault) → IsFaultyDefinition (Some held) words name f ⊎ AreFaultyClaims (Some held) words name f → ⊥
no_fault_to_serve words held s name f (inl d) =
    let same = named_by_stdio words name s.name d.main s.main d.named s.spells in
    let both : d.file ≡ s.file = cc (one_file held name s.name (Some d.file) (Some s.file) same.0 d.there s.there) in
    s.faultless f (subst (λ (x : List ℕ). IsFileFault x s.main f) both (subst (λ (m : List ℕ). IsFileFault d.file m f) same.1 d.fault))
no_fault_to_serve words held s name f (inr c) = not_both words s.name s.main c.claims.command s.spells c.claims.spells

is_there_to_serve : (words : List (List ℕ)) (held : Names) (s : IsServable words held) (name : List ℕ) →
    ((main : List ℕ) × NamesDefinition words name main × IsNowhere (Some held) name) ⊎ (AreClaimsOf (Some held) words name × IsNowhere (Some held) name) → ⊥
is_there_to_serve words held s name (inl (main, named, nowhere)) =
    let same = named_by_stdio words name s.name main s.main named s.spells in
    absurd (cc (one_file held name s.name None (Some s.file) same.0 nowhere s.there))
is_there_to_serve words held s name (inr (claims, nowhere)) = not_both words s.name s.main claims.command s.spells claims.spells

-- one definition has one signature
same_signature : (held : Names) (n o m p : List ℕ) → n ≡ o → m ≡ p → (a : IsLoaded (Some held) n m) (b : IsLoaded (Some held) o p) → a.setting.theory.signature ≡ b.setting.theory.signature
same_signature held n o m p same main a b =
    let both : a.file ≡ b.file = cc (one_file held n o (Some a.file) (Some b.file) same a.there b.there) in
    let one : a.definition ≡ b.definition = one_definition b.file a.definition b.definition (subst (λ (x : List ℕ). SpellsDefinition x a.definition) both a.spells) b.spells in
    a.is_setting.means.signature ∙ (ap (λ (x : KoreDefinition). signature_of (flat_map (λ (k : KoreModule). k.sentences) (modules_reached x m))) one
    ∙ ap (λ (x : List ℕ). signature_of (flat_map (λ (k : KoreModule). k.sentences) (modules_reached b.definition x))) main) ∙ sym b.is_setting.means.signature

no_fault_to_prove : (words : List (List ℕ)) (held : Names) (p : IsProvable words held) (name : List ℕ) (f : FileFault) → IsFaultyDefinition (Some held) words name f ⊎ AreFaultyClaims (Some held) words name f → ⊥
no_fault_to_prove words held p name f (inl d) =
    let same = named_by_prove words name d.main p.command d.named p.spells in
    let both : d.file ≡ p.loaded.file = cc (one_file held name p.command.definition (Some d.file) (Some p.loaded.file) same.0 d.there p.loaded.there) in
    p.loaded.faultless f (subst (λ (x : List ℕ). IsFileFault x p.command.main f) both (subst (λ (m : List ℕ). IsFileFault d.file m f) same.1 d.fault))
no_fault_to_prove words held p name f (inr c) =
    let same = same_files words c.claims.command p.command c.claims.spells p.spells in
    let both : c.file ≡ p.file = cc (one_file held name p.command.claims (Some c.file) (Some p.file) (sym c.claims.named ∙ same.claims) c.there p.there) in
    let one = same_signature held c.claims.command.definition p.command.definition c.claims.command.main p.command.main same.definition same.main c.claims.loaded p.loaded in
    p.faultless f (subst (λ (g : KoreSignature). IsClaimsFault g p.file f) one (subst (λ (x : List ℕ). IsClaimsFault c.claims.loaded.setting.theory.signature x f) both c.fault))

is_there_to_prove : (words : List (List ℕ)) (held : Names) (p : IsProvable words held) (name : List ℕ) →
    ((main : List ℕ) × NamesDefinition words name main × IsNowhere (Some held) name) ⊎ (AreClaimsOf (Some held) words name × IsNowhere (Some held) name) → ⊥
is_there_to_prove words held p name (inl (main, named, nowhere)) =
    let same = named_by_prove words name main p.command named p.spells in
    absurd (cc (one_file held name p.command.definition None (Some p.loaded.file) same.0 nowhere p.loaded.there))
is_there_to_prove words held p name (inr (claims, nowhere)) =
    let same = same_files words claims.command p.command claims.spells p.spells in
    absurd (cc (one_file held name p.command.claims None (Some p.file) (sym claims.named ∙ same.claims) nowhere p.there))

no_fault : (words : List (List ℕ)) (held : Names) → IsPossible words held → (name : List ℕ) (f : FileFault) → IsFaultyDefinition (Some held) words name f ⊎ AreFaultyClaims (Some held) words name f → ⊥
no_fault words held (inl s) name f because = no_fault_to_serve words held s name f because
no_fault words held (inr p) name f because = no_fault_to_prove words held p name f because

is_there : (words : List (List ℕ)) (held : Names) → IsPossible words held → (name : List ℕ) →
    ((main : List ℕ) × NamesDefinition words name main × IsNowhere (Some held) name) ⊎ (AreClaimsOf (Some held) words name × IsNowhere (Some held) name) → ⊥
is_there words held (inl s) name because = is_there_to_serve words held s name because
is_there words held (inr p) name because = is_there_to_prove words held p name because

only_memory : (words : List (List ℕ)) (held : Names) (failed untold : Type 0) (before after : Option (List ℕ)) (status : ℕ) (t : Trouble) →
    IsPossible words held → ¬ failed → IsCause (Some held) words failed (ending_of t) → EndsAs (ending_of t) untold before after status → status ≡ 7
only_memory words held failed untold before after status (trouble.File name fault) s calm because ends = absurd (no_fault words held s (string_bytes name) (file_fault_view fault) because)
only_memory words held failed untold before after status (trouble.NoFile name) s calm because ends = absurd (is_there words held s (string_bytes name) because)
only_memory words held failed untold before after status trouble.Outside s calm because ends = absurd (calm because)
only_memory words held failed untold before after status trouble.Memory s calm because ends = out_of_memory (ending_of trouble.Memory) untold before after status ends refl

pub only_memory_at : (names : Option Names) (words : List (List ℕ)) (failed untold : Type 0) (before after : Option (List ℕ)) (status : ℕ) (t : Trouble) →
    IsCause names words failed (ending_of t) → EndsAs (ending_of t) untold before after status → IfSome names (λ held. IsPossible words held → ¬ failed → (status ≤ 2) ⊎ (status ≡ 7))
only_memory_at None words failed untold before after status t because ends = tt
only_memory_at (Some held) words failed untold before after status t because ends = λ s calm. inr (only_memory words held failed untold before after status t s calm because ends)

-- what a command says is done
pub done_at : (names : Option Names) (words : List (List ℕ)) (failed : Type 0) (status : ℕ) → status ≤ 2 → IfSome names (λ held. IsPossible words held → ¬ failed → (status ≤ 2) ⊎ (status ≡ 7))
done_at None words failed status low = tt
done_at (Some held) words failed status low = λ s calm. inl low

-- words with a fault
pub possible_spells : (words : List (List ℕ)) (held : Names) → IsPossible words held → AreFaultless words
possible_spells words held (inl s) = s.spells.0
possible_spells words held (inr p) = p.spells.0

pub spelled_faultless : (words : List (List ℕ)) → SpellsSome words → AreFaultless words
spelled_faultless words (inl s) = s.2.0
spelled_faultless words (inr s) = s.1.0

-- ---- causes

pub cause_weaker : (names : Option Names) (words : List (List ℕ)) (a b : Type 0) (t : Trouble) → (a → b) → IsCause names words a (ending_of t) → IsCause names words b (ending_of t)
cause_weaker names words a b (trouble.File name fault) h c = c
cause_weaker names words a b (trouble.NoFile name) h c = c
cause_weaker names words a b trouble.Outside h c = h c
cause_weaker names words a b trouble.Memory h c = tt
