-- From the end of a connection to what is served.
use Rattle.std.proofs.Common.{◌≡◌, ◌⊎◌, zero, suc, ◌<◌, ℕ, List, [], ◌∷◌, length, Option, Some, IfSome, subst, sym, inl, inr, arith}
use Rattle.kp_io.specs.Outside.{Names}
use Rattle.kp_book.specs.Books.{Opening, Seen}
use Rattle.kp_modules.specs.Openings.{opening_of}
use Rattle.kp_modules.specs.declared.table.ModuleTable.{ModuleTable}
use Rattle.kp_registry.specs.declared.book.Registry.{Registry}
use Rattle.kp_registry.specs.Registries.{IsPassOf, seats_of}
use Rattle.kp_history.specs.Passes.{seen}
use Rattle.kp_history.specs.Views.{times}
use Rattle.kp_additions.specs.Served.{HasSeenAt, Pass, nothing_seen}
use Rattle.kp_additions.proofs.Later.{long_as}
use Rattle.kp_conn.specs.Conversations.{IsBroken, IsServed, Sees, ended, truncated, too_long, spent, not_read, not_written, out_of_memory}
use Rattle.kp_conn.specs.declared.served.Served.{Served}
use Rattle.kp_conn.specs.declared.served.Served.TheVariants as served
use Rattle.kp_service.specs.Alone.{AreAllOwn}
use Rattle.kp_service.specs.Answers.{IsAnswer, IsBegun}
use Rattle.kp_program.specs.Inputs.{IsTableOf}
use Rattle.kp_program.specs.Served.{BreaksFile, BreaksOff, IsWhole, OverFile, ServesInput}
use Rattle.kp_program.specs.Troubles.{IsLate}
use Rattle.kp_program.specs.declared.trouble.Trouble.{Trouble}
use Rattle.kp_program.specs.declared.trouble.Trouble.TheVariants as trouble

-- bytes that are longer stand for those that aren't told
pub some_longer : (n : ℕ) → (xs : List ℕ) × (n < length xs)
some_longer zero = (0 ∷ [], omega arith)
some_longer (suc n) = let r = some_longer n in let l : n < length r.0 = r.1 in (0 ∷ r.0, omega arith)

-- ---- the input

-- how a connection breaks off
abbrev pub IsCut : Served → Type 0
IsCut end = (end ≡ served.ReadFault) ⊎ ((end ≡ served.WriteFault) ⊎ (end ≡ served.Memory))

not_both : (end : Served) → IsWhole end → IsCut end → ⊥
not_both end whole (inl e) = subst IsWhole e whole
not_both end whole (inr (inl e)) = subst IsWhole e whole
not_both end whole (inr (inr e)) = subst IsWhole e whole

-- what a pass of a registry sees behind an empty book
abbrev pub SeesServed : Registry → Pass → Opening → Option (List ℕ) → Option (List ℕ) → Option (List ℕ) → Option (List ℕ) → Served → Type 0
SeesServed registry pass o left left_after held held_after end = Sees (HasSeenAt registry pass o) nothing_seen (λ after. IsServed (IsAnswer o) (IsBegun o) nothing_seen left left_after held held_after after end)

-- where one pass is all that there may be, each entry that it has seen is its own
all_own : (registry : Registry) (pass : Pass) (o : Opening) (s : Seen) → IsPassOf registry pass → seats_of registry ≡ 1 → HasSeenAt registry pass o s → AreAllOwn s
all_own registry pass o s is one has x some within =
    let long : length (seen pass) ≡ length s.book = long_as o.signature s.book (seen pass) has.seen in
    subst (λ l. times x l ≡ 1) (sym has.own) (is.pass.all (omega (arith, is.pass.few, one)) x some (omega (arith, within, long)))

pub serves_input : (registry : Registry) (pass : Pass) (o : Opening) (left left_after held held_after : Option (List ℕ)) (end : Served) → IsPassOf registry pass → seats_of registry ≡ 1 → IsWhole end →
    SeesServed registry pass o left left_after held held_after end → ServesInput o left left_after held held_after
serves_input registry pass o left left_after held held_after end is one whole s = record { end = end; whole = whole; seen = s.after; legal = s.seen.legal; all_own = all_own registry pass o s.after is one s.seen; served = s.holds }

is_broken : (o : Opening) (left left_after held held_after : Option (List ℕ)) (book : Seen) (end : Served) → IsCut end →
    IsServed (IsAnswer o) (IsBegun o) nothing_seen left left_after held held_after book end → IsBroken (IsAnswer o) (IsBegun o) nothing_seen left left_after held held_after book
is_broken o left left_after held held_after book end cut (ended n h) = absurd (not_both end tt cut)
is_broken o left left_after held held_after book end cut (truncated h) = absurd (not_both end tt cut)
is_broken o left left_after held held_after book end cut (too_long h) = absurd (not_both end tt cut)
is_broken o left left_after held held_after book end cut (spent h) = absurd (not_both end tt cut)
is_broken o left left_after held held_after book end cut (not_read b) = b
is_broken o left left_after held held_after book end cut (not_written b) = b
is_broken o left left_after held held_after book end cut (out_of_memory b) = b

pub breaks_off : (registry : Registry) (pass : Pass) (o : Opening) (left left_after held held_after : Option (List ℕ)) (end : Served) → IsPassOf registry pass → seats_of registry ≡ 1 → IsCut end →
    SeesServed registry pass o left left_after held held_after end → BreaksOff o left left_after held held_after
breaks_off registry pass o left left_after held held_after end is one cut s =
    record { seen = s.after; legal = s.seen.legal; all_own = all_own registry pass o s.after is one s.seen; broken = is_broken o left left_after held held_after s.after end cut s.holds }

-- a fault of the connection is one of the input or of the output
pub late_end : (end : Served) (a b : Type 0) (t : Trouble) → (end ≡ served.ReadFault → a) → (end ≡ served.WriteFault → b) → IsLate ((end ≡ served.ReadFault) ⊎ (end ≡ served.WriteFault)) t → IsLate (a ⊎ b) t
late_end end a b (trouble.File n f) read write late = late
late_end end a b (trouble.NoFile n) read write late = late
late_end end a b trouble.Outside read write (inl e) = inl (read e)
late_end end a b trouble.Outside read write (inr e) = inr (write e)
late_end end a b trouble.Memory read write late = tt

-- ---- the file

pub over_file : (names : Option Names) (name main file : List ℕ) (table : ModuleTable) (Holds : Opening → Type 0) →
    IfSome names (λ held. held name ≡ Some file) → (is : IsTableOf file main table) → Holds (opening_of is.definition main) → OverFile names name main Holds
over_file names name main file table Holds there is holds = record { file = file; there = there; faultless = is.faultless; definition = is.definition; spells = is.spells; holds = holds }

pub breaks_file : (names : Option Names) (left left_after held held_after : Option (List ℕ)) (Same : Type 0) (name main file : List ℕ) (table : ModuleTable) →
    IfSome names (λ held. held name ≡ Some file) → (is : IsTableOf file main table) → Same ⊎ BreaksOff (opening_of is.definition main) left left_after held held_after →
    Same ⊎ BreaksFile names left left_after held held_after name main
breaks_file names left left_after held held_after Same name main file table there is (inl same) = inl same
breaks_file names left left_after held held_after Same name main file table there is (inr broken) = inr (over_file names name main file table (λ o. BreaksOff o left left_after held held_after) there is broken)
