-- When a module may be registered, and what a refusal tells.
-- Source: the K Haskell backend's JSON-RPC documentation (add-module, name-as-id, the error of a duplicate module).
use Rattle.std.specs.Prelude.{◌≡◌, ◌<◌, ℕ, true, false, List, length, ⊤, Option, Some, None, string_bytes}
use Rattle.std.specs.Option.{option_map}
use Rattle.kp_kore.specs.Syntax.{Text}
use Rattle.kp_book.specs.Books.{Opening, Registration, IsDuplicate, most_entries}
use Rattle.kp_registry.specs.declared.book.RegisterFault.{RegisterFault}
use Rattle.kp_registry.specs.declared.book.RegisterFault.TheVariants.{Duplicate, Many}
use Rattle.kp_registry.specs.declared.seen.Entry.{Entry}

-- neither the opening nor an entry binds the name to another text
abbrev pub IsFree : Opening → List Registration → List ℕ → Text → Type 0
IsFree o book text name = (n : ℕ) → ¬ IsDuplicate o book text name n

-- the same of an own name, where one is to be bound
abbrev pub IsAlsoFree : Opening → List Registration → List ℕ → Option Text → Type 0
IsAlsoFree o book text (Some name) = IsFree o book text name
IsAlsoFree o book text None = ⊤

-- an own name is to be bound, and this entry, or with 0 the opening, binds it to another text
abbrev pub IsAlsoDuplicate : Opening → List Registration → List ℕ → Option Text → ℕ → Type 0
IsAlsoDuplicate o book text (Some name) n = IsDuplicate o book text name n
IsAlsoDuplicate o book text None n = ⊥

-- the number is that of the first binder, to another text; there is none without one
abbrev pub TellsDuplicate : Opening → List Registration → List ℕ → Text → Option ℕ → Type 0
TellsDuplicate o book text name (Some n) = IsDuplicate o book text name n
TellsDuplicate o book text name None = IsFree o book text name

-- the same of an own name, where one is to be bound
abbrev pub TellsAlsoDuplicate : Opening → List Registration → List ℕ → Option Text → Option ℕ → Type 0
TellsAlsoDuplicate o book text own (Some n) = IsAlsoDuplicate o book text own n
TellsAlsoDuplicate o book text own None = IsAlsoFree o book text own

-- the own name of an entry
abbrev pub own_name_of : Entry → Option Text
own_name_of e = option_map string_bytes e.also

-- the id comes before the own name, and names before room
abbrev pub IsRefused : Opening → List Registration → Entry → RegisterFault → Type 0
IsRefused o book e (Duplicate n true) = IsDuplicate o book e.text.items e.id n
IsRefused o book e (Duplicate n false) = IsFree o book e.text.items e.id × IsAlsoDuplicate o book e.text.items (own_name_of e) n
IsRefused o book e Many = IsFree o book e.text.items e.id × IsAlsoFree o book e.text.items (own_name_of e) × (length book ≡ most_entries)

-- its names are bound to no other text, and there is room
pub record IsWelcome (o : Opening) (book : List Registration) (e : Entry) : Type 0 where
  pub id : IsFree o book e.text.items e.id
  pub own : IsAlsoFree o book e.text.items (own_name_of e)
  pub room : length book < most_entries

abbrev pub TellsFault : Opening → List Registration → Entry → Option RegisterFault → Type 0
TellsFault o book e (Some fault) = IsRefused o book e fault
TellsFault o book e None = IsWelcome o book e
