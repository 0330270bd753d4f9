-- What a pass over a registry has seen.
use Rattle.std.specs.Prelude.{◌≡◌, List, []}
use mathlib.Core.List.{IsPrefix}
use Rattle.kp_book.specs.Books.{Opening, Registration, Seen}
use Rattle.kp_history.specs.Passes.{Keeps, positions, seen as entries_seen}
use Rattle.kp_history.specs.declared.pass.HistoryPass.{HistoryPass}
use Rattle.kp_modules.specs.Openings.{IsTableOf}
use Rattle.kp_modules.specs.declared.table.ModuleTable.{ModuleTable}
use Rattle.kp_registry.specs.Legal.{IsLegal}
use Rattle.kp_registry.specs.Passes.{HasSeen}
use Rattle.kp_registry.specs.Registries.{table_of}
use Rattle.kp_registry.specs.declared.book.Registry.{Registry}
use Rattle.kp_registry.specs.declared.seen.Book.{Book}
use Rattle.kp_registry.specs.declared.seen.Entry.{Entry}

-- a pass of a registry
abbrev pub Pass : Type 0
Pass = HistoryPass Book Entry ModuleTable

-- nothing was seen
abbrev pub nothing_seen : Seen
nothing_seen = record { book = []; own = [] }

-- over an opening of the registry's table the pass has seen this book, which is legal, and has these entries of its own
pub record HasSeenAt (registry : Registry) (pass : Pass) (o : Opening) (s : Seen) : Type 0 where
  pub table : IsTableOf o (table_of registry)
  pub seen : HasSeen o.signature s.book (entries_seen pass)
  pub legal : IsLegal o s.book
  pub own : s.own ≡ positions pass

-- this holds at every opening and book that the pass has seen
abbrev pub AtEachBookSeen : Registry → Pass → (Opening → List Registration → Type 0) → Type 0
AtEachBookSeen registry pass Holds = (o : Opening) (s : Seen) → HasSeenAt registry pass o s → Holds o s.book

-- the pass has seen what it had seen, perhaps more, and has entered nothing
pub record HasLooked (before after : Pass) : Type 0 where
  pub grows : IsPrefix (entries_seen before) (entries_seen after)
  pub keeps : Keeps before after
