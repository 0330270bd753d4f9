-- A registry, and its passes.
use Rattle.std.specs.Prelude.{◌≡◌, ◌<◌, ◌++◌, ◌∷◌, ℕ, [], length}
use Rattle.std.specs.List.{AllByRecursion}
use Rattle.kp_history.specs.Passes.{IsPass, positions, seen}
use Rattle.kp_history.specs.declared.pass.HistoryPass.{HistoryPass}
use Rattle.kp_modules.specs.declared.table.ModuleTable.{ModuleTable}
use Rattle.kp_registry.specs.Passes.{HasLegalBook}
use Rattle.kp_registry.specs.declared.book.Registry.{Registry}
use Rattle.kp_registry.specs.declared.seen.Book.{Book}
use Rattle.kp_registry.specs.declared.seen.Entry.{Entry}

-- the table that the registry was begun with
abbrev pub table_of : Registry → ModuleTable
table_of r = r.history.terms.about

-- how many passes it may have at once
abbrev pub seats_of : Registry → ℕ
seats_of r = r.history.terms.seats

-- the pass is one of this registry, and what it has seen is a legal book
pub record IsPassOf (r : Registry) (p : HistoryPass Book Entry ModuleTable) : Type 0 where
  pub pass : IsPass r.history p
  pub legal : HasLegalBook (table_of r) (seen p)

-- it has one position more, that of the last entry that it has seen, which is greater than those that it had
pub record HasGained (before after : HistoryPass Book Entry ModuleTable) : Type 0 where
  pub own : positions after ≡ positions before ++ length (seen after) ∷ []
  pub above : AllByRecursion (λ p. p < length (seen after)) (positions before)
  pub spare : after.spare ≡ before.spare
