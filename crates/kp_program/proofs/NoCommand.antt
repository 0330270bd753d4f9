-- Words that are no command: how the program ends, and what the output got.
use Rattle.std.proofs.Common.{◌≡◌, ◌≤◌, ◌⊎◌, ◌∙◌, ℕ, List, Option, Some, None, IfSome, Result, Ok, Err, OnErr, OnOk, inl, inr, sym, subst, length, arith, codes}
use Rattle.std.proofs.Math.Seq.{take-length}
use Rattle.std.specs.Io.KnownBytes.{Appends}
use Rattle.kp_io.specs.Outside.{Names}
use Rattle.kp_command.specs.Words.{AreFaultless, AskHelp}
use Rattle.kp_program.proofs.WordFaults.{help_is_fault}
use Rattle.kp_program.specs.Does.{MayBegin}
use Rattle.kp_program.specs.Served.{GainsFront}
use Rattle.kp_program.specs.Statuses.{Ending, usage, faulty, no_file, outside, memory, IsCause, IsEnded, IsPossible, IsRefusedAs, Tells, exit_status}
use Rattle.kp_program.specs.Troubles.{EndsAs, IsLate, ending_of}
use Rattle.kp_program.specs.declared.trouble.Trouble.{Trouble}
use Rattle.kp_program.specs.declared.trouble.Trouble.TheVariants as trouble
use Rattle.kp_program.proofs.Spelled.{possible_spells}

-- ---- endings

-- an ending with another cause for a failure
cause_failed : (names : Option Names) (words : List (List ℕ)) (a b : Type 0) (e : Ending) → (a → b) → IsCause names words a e → IsCause names words b e
cause_failed names words a b usage h c = c
cause_failed names words a b (faulty name f) h c = c
cause_failed names words a b (no_file name) h c = c
cause_failed names words a b outside h c = h c
cause_failed names words a b memory h c = tt

pub ended_failed : (names : Option Names) (words : List (List ℕ)) (a b untold : Type 0) (before after : Option (List ℕ)) (status : ℕ) → (a → b) → IsEnded names words a before after untold status → IsEnded names words b before after untold status
ended_failed names words a b untold before after status h e = record { ending = e.ending; status_is = e.status_is; because = cause_failed names words a b e.ending h e.because; told = e.told }

-- memory ran out
pub memory_is_told : (names : Option Names) (words : List (List ℕ)) (failed untold : Type 0) (before after : Option (List ℕ)) (status : ℕ) →
    status ≡ 7 → Tells untold before after (codes "kprove: memory\n") → IsEnded names words failed before after untold status
memory_is_told names words failed untold before after status is told = record { ending = memory; status_is = is; because = tt; told = told }

-- help couldn't be written
pub late_is_refused : (words : List (List ℕ)) (failed untold : Type 0) (before after : Option (List ℕ)) (status : ℕ) (t : Trouble) →
    IsLate failed t → EndsAs (ending_of t) untold before after status → AskHelp words → IsRefusedAs words status
late_is_refused words failed untold before after status (trouble.File name f) late e ask = absurd late
late_is_refused words failed untold before after status (trouble.NoFile name) late e ask = absurd late
late_is_refused words failed untold before after status trouble.Outside late (inl x) ask = inr (inr (x.0, ask))
late_is_refused words failed untold before after status trouble.Outside late (inr x) ask = inr (inl x.0)
late_is_refused words failed untold before after status trouble.Memory late (inl x) ask = inr (inl x.0)
late_is_refused words failed untold before after status trouble.Memory late (inr x) ask = inr (inl x.0)

-- ---- the output

-- all of a text is a front of it
whole_gained : (before after : Option (List ℕ)) (text : List ℕ) → Appends before after text → GainsFront before after text
whole_gained before after text all = (length text, subst (Appends before after) (sym (take-length text)) all)

module _ {X E : Type 0} where
  pub gained_at_all : (r : Result X E) (before after : Option (List ℕ)) (text : List ℕ) → OnOk r (Appends before after text) → OnErr r (GainsFront before after text) → GainsFront before after text
  gained_at_all (Ok x) before after text all front = whole_gained before after text all
  gained_at_all (Err e) before after text all front = front

-- ---- the whole program

pub refused_above : (words : List (List ℕ)) (status : ℕ) → IsRefusedAs words status → 3 ≤ status
refused_above words status (inl is) = omega arith
refused_above words status (inr (inl is)) = omega arith
refused_above words status (inr (inr (is, ask))) = omega arith

-- status 3 has its cause
pub fault_at_usage : (names : Option Names) (words : List (List ℕ)) (failed : Type 0) (before after : Option (List ℕ)) (untold : Type 0) (status : ℕ) → IsEnded names words failed before after untold status → status ≡ 3 → ¬ AreFaultless words
fault_at_usage names words failed before after untold status e three = go e.ending (sym e.status_is ∙ three) e.because
  where
    go : (x : Ending) → exit_status x ≡ 3 → IsCause names words failed x → ¬ AreFaultless words
    go usage s c = c
    go (faulty name f) s c = absurd (omega arith)
    go (no_file name) s c = absurd (omega arith)
    go outside s c = absurd (omega arith)
    go memory s c = absurd (omega arith)

-- words that spell a command whose files have no fault are refused for want of memory alone
pub refused_complete : (names : Option Names) (words : List (List ℕ)) (failed : Type 0) (status : ℕ) → (status ≡ 3 → ¬ AreFaultless words) → IsRefusedAs words status
    → IfSome names (λ held. IsPossible words held → ¬ failed → (status ≤ 2) ⊎ (status ≡ 7))
refused_complete None words failed status three refused = tt
refused_complete (Some held) words failed status three (inl is) = λ possible calm. absurd (three is (possible_spells words held possible))
refused_complete (Some held) words failed status three (inr (inl is)) = λ possible calm. inr is
refused_complete (Some held) words failed status three (inr (inr (is, ask))) = λ possible calm. absurd (help_is_fault words ask (possible_spells words held possible))

-- what the output got is nothing, or help
abbrev pub MayHelp : List (List ℕ) → Option (List ℕ) → Option (List ℕ) → Type 0
MayHelp words held held_after = (held_after ≡ held) ⊎ (AskHelp words × (text : List ℕ) × GainsFront held held_after text)

pub kept_or_help : (words : List (List ℕ)) (held held_after : Option (List ℕ)) → MayHelp words held held_after → (held_after ≡ held) ⊎ AskHelp words
kept_or_help words held held_after (inl same) = inl same
kept_or_help words held held_after (inr (ask, text, front)) = inr ask

pub help_begins : (names : Option Names) (left left_after held held_after : Option (List ℕ)) (words : List (List ℕ)) → left_after ≡ left → MayHelp words held held_after → MayBegin names left left_after held held_after words
help_begins names left left_after held held_after words unread (inl same) = inl (unread, same)
help_begins names left left_after held held_after words unread (inr (ask, text, front)) = inr (inr (inr (ask, unread, (text, front))))
