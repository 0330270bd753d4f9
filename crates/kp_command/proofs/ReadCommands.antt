-- From what clap's matches tell to the command that is read.
use Rattle.std.proofs.Common.{◌≡◌, ◌≢◌, ◌∙◌, ◌≤◌, sym, ap, ap₂, subst, refl, inl, inr, ℕ, List, [], true, Option, Some, None, IfSome, Result, Ok}
use Rattle.std.specs.Prelude.{option_map, Box}
use Rattle.std.specs.Borrow.{Bor}
use Rattle.std.specs.Box.{box_value}
use Rattle.std.specs.Str.Parse.{IsNumeral, digits_value, without_leading_plus}
use Rattle.clap.specs.Faults.{fault_of, is_simple_and_free}
use Rattle.clap.specs.Kinds.{HasKind, IsAmong, Kinds}
use Rattle.clap.specs.Matches.{ReadsOne, first_value, one_text}
use Rattle.clap.specs.Simple.{App, HasMatchesOf, is_simple, subcommand_of, subcommand_rows, subcommand_rows_of}
use Rattle.clap.specs.Values.{kind_of}
use Rattle.clap.specs.Walk.{Row, Text, first_of, one_of, rows_of}
use Rattle.clap.specs.declared.error.Error.{Error}
use Rattle.clap.specs.declared.error.kind.ErrorKind.{ErrorKind}
use Rattle.clap.specs.declared.error.kind.ErrorKind.TheVariants as kind
use Rattle.clap.specs.declared.parser.matches.ArgMatches.{ArgMatches}
use Rattle.clap.specs.declared.parser.matches.ArgMatches.TheViews.{out-SubCommand}
use Rattle.clap.specs.declared.parser.matches.Found.{Found}
use Rattle.clap.specs.declared.parser.matches.SubCommand.{SubCommand}
use Rattle.clap.proofs.WalkLemmas.{both, first_value-rows, one_text-rows}
use Rattle.kp_command.specs.Commands.{IsCommand, IsReadAs}
use Rattle.kp_command.specs.Described.{whole_app}
use Rattle.kp_command.specs.Words.{AreFaultless, Read, WritesDepth}
use Rattle.kp_command.specs.declared.command.Command.{Command}
use Rattle.kp_command.specs.declared.command.Command.TheVariants as command
use Rattle.kp_command.proofs.WrittenWords.{simple}

-- the name and the rows of a subcommand, together
pub named_rows : {Z : Type 0} (o : Option (Box SubCommand Z)) (name : Text) (rows : List Row) → Some name ≡ option_map (λ b. (out-SubCommand (box_value b)).name.now) o → Some rows ≡ option_map (λ p. p.1) (subcommand_rows o)
    → Some (name, rows) ≡ subcommand_rows o
named_rows None name rows e f = absurd (cc)
named_rows (Some b) name rows e f = ap₂ (λ n r. Some (n, r)) (cc) (cc)

-- what is read of faultless words is what they spell
pub spelled : (words : List Text) (read : Read) (c : Command) → AreFaultless words → read ≡ subcommand_of whole_app words → IsReadAs read c → IsCommand words c
spelled words read (command.Stdio c) faultless is of = (faultless, subst (λ r. IsReadAs r (command.Stdio c)) is of)
spelled words read (command.Prove c) faultless is of = (faultless, subst (λ r. IsReadAs r (command.Prove c)) is of)

simple_alone : is_simple whole_app ≡ true
simple_alone = (both _ _ simple).0

-- the same of a parse of the program's command line
pub parsed : (app : App) (words : List Text) (m : ArgMatches) (c : Command) → app ≡ whole_app → fault_of app words ≡ [] → HasMatchesOf app words m → IsReadAs (subcommand_rows_of m) c → IsCommand words c
parsed app words m c is none has of =
    spelled words (subcommand_rows_of m) c (subst (λ a. fault_of a words ≡ []) is none) (subst (λ a. subcommand_rows_of m ≡ subcommand_of a words) is (has (subst (λ a. is_simple a ≡ true) (sym is) simple_alone)).1) of

pub free_app : (app : App) → app ≡ whole_app → is_simple_and_free app ≡ true
free_app app is = ap is_simple_and_free is ∙ simple

-- the kinds of a parse of the program's command line are those of its description
pub kind_of_whole : (app : App) (words : List Text) (e : Error) → app ≡ whole_app → (is_simple_and_free app ≡ true → HasKind (fault_of app words) e) → HasKind (fault_of whole_app words) e
kind_of_whole app words e is kinds = subst (λ a. HasKind (fault_of a words) e) is (kinds (free_app app is))

-- a kind that is neither want of memory nor a call for help
pub other_kind : (kinds : Kinds) (e : Error) (k : ErrorKind) → kind_of e ≡ k → (k ≢ kind.OutOfMemory) → (k ≢ kind.DisplayHelp) → HasKind kinds e → (found : ErrorKind) × IsAmong found kinds × (found ≢ kind.DisplayHelp)
other_kind kinds e k is not_memory not_help (inl memory) = absurd (not_memory (sym is ∙ memory))
other_kind kinds e k is not_memory not_help (inr among) = (k, subst (λ x. IsAmong x kinds) is among, not_help)

pub help_kind : (kinds : Kinds) (e : Error) → kind_of e ≡ kind.DisplayHelp → HasKind kinds e → IsAmong kind.DisplayHelp kinds
help_kind kinds e is (inl memory) = let bad : kind.DisplayHelp ≡ kind.OutOfMemory = sym is ∙ memory in absurd (cc)
help_kind kinds e is (inr among) = subst (λ x. IsAmong x kinds) is among

-- a number that was read of the text of an id
pub number_read : {E : Type 0} (G : List ℕ → Result ℕ E → Type 0) (f : Found) (id : Text) (r : Option ℕ) (n : ℕ)
    → (one_text f id ≡ None → r ≡ None) → ((t : Text) → one_text f id ≡ Some t → ReadsOne G t r)
    → ((t : Text) → G t (Ok n) → IsNumeral 10 (without_leading_plus t) × (digits_value 10 (without_leading_plus t) ≡ n)) → r ≡ Some n → 1 ≤ n → n ≤ 10000
    → (number : Text) × (one_of id (rows_of f) ≡ Some number) × WritesDepth number n
number_read G f id r n none value reads is least most = go (one_text f id) refl
  where
    go : (o : Option Text) → one_text f id ≡ o → (number : Text) × (one_of id (rows_of f) ≡ Some number) × WritesDepth number n
    go None e = let bad : Some n ≡ None = sym is ∙ none e in absurd (cc)
    go (Some t) e =
        let told = reads t (subst (ReadsOne G t) is (value t e)) in
        (t, sym (one_text-rows f id) ∙ e, record { digits = told.0; value = told.1; least = least; most = most })

-- a value that was found is the first of its row
pub first_read : (f : Found) (id : Text) (o : Option (Bor Text)) → option_map (λ s. s.now) o ≡ first_value f id → IfSome o (λ s. first_of id (rows_of f) ≡ Some s.now)
first_read f id None e = tt
first_read f id (Some s) e = sym (e ∙ first_value-rows f id)

-- both, where the words are parsed
pub words_command : (app : App) (words : List Text) (m : ArgMatches) (o : Option Command) → app ≡ whole_app → fault_of app words ≡ [] → HasMatchesOf app words m → IfSome o (IsReadAs (subcommand_rows_of m)) → IfSome o (IsCommand words)
words_command app words m None is none has of = tt
words_command app words m (Some c) is none has of = parsed app words m c is none has of
