-- What a pass has seen of the book, and the book's table of names.
-- Source: the K Haskell backend's JSON-RPC documentation (add-module, name-as-id).
use Rattle.std.specs.Prelude.{◌≡◌, ◌≤◌, ◌*◌, ℕ, suc, Bool, true, false, ◌||◌, List, [], ◌∷◌, length, map, ⊤, Option, Some, None, if◌then◌else◌, string_bytes}
use Rattle.std.specs.Option.{option_map, option_or}
use Rattle.std.specs.List.{AllByRecursion, AllZip}
use Rattle.std.specs.Str.{bytes_eq}
use Rattle.std.specs.Ordering.{nat_cmp}
use Rattle.std.specs.declared.cmp.Ordering.{Ordering}
use Rattle.std.specs.declared.cmp.Ordering.TheVariants.{Less}
use Rattle.std.specs.Cmp.Lexicographic.{slice_cmp}
use Rattle.std.specs.Vec.{vec_capacity}
use Rattle.kp_kore.specs.Syntax.{Text}
use Rattle.kp_kore.specs.Signature.{KoreSignature}
use Rattle.kp_kore.specs.Theory.{NumberedAxiom}
use Rattle.kp_rule_sets.specs.declared.rule_set.RuleSet.{RuleSet}
use Rattle.kp_book.specs.Books.{Opening, Registration, meaning_in, most_entries}
use Rattle.kp_modules.specs.Made.{IsSetOf}
use Rattle.kp_modules.specs.Openings.{IsTableOf}
use Rattle.kp_modules.specs.declared.table.ModuleTable.{ModuleTable}
use Rattle.kp_registry.specs.Legal.{IsExtension, IsLegal}
use Rattle.kp_registry.specs.declared.seen.NameBinding.{NameBinding}
use Rattle.kp_registry.specs.declared.seen.Entry.{Entry}
use Rattle.kp_registry.specs.declared.seen.Book.{Book}
use Rattle.kp_registry.specs.declared.seen.Ready.{Ready}

-- ---- what was seen

-- the entry is the registration, its rule set made of the registration's axioms
pub record IsEntryOf (g : KoreSignature) (r : Registration) (e : Entry) : Type 0 where
  pub text : e.text.items ≡ r.text
  pub id : e.id ≡ r.id
  pub also : option_map string_bytes e.also ≡ r.also
  pub rules : IsSetOf g r.axioms e.rules.value

-- the entries are the registrations of this book, one by one
abbrev pub HasSeen : KoreSignature → List Registration → List Entry → Type 0
HasSeen g book es = AllZip (IsEntryOf g) book es

-- this holds at each opening whose table this is and each book of these entries over it
abbrev pub AtEachSeenBy : ModuleTable → List Entry → (Opening → List Registration → Type 0) → Type 0
AtEachSeenBy t es Holds = (o : Opening) (book : List Registration) → IsTableOf o t → HasSeen o.signature book es → Holds o book

-- over each opening whose table this is, the entries are those of a legal book
abbrev pub HasLegalBook : ModuleTable → List Entry → Type 0
HasLegalBook t es = (o : Opening) → IsTableOf o t → (book : List Registration) × HasSeen o.signature book es × IsLegal o book

-- at each legal book of these entries, over each opening whose table this is, the entry is a registration that extends it
abbrev pub Extends : ModuleTable → List Entry → Entry → Type 0
Extends t es e = (o : Opening) (book : List Registration) → IsTableOf o t → HasSeen o.signature book es → IsLegal o book → (r : Registration) × IsEntryOf o.signature r e × IsExtension o book r

-- what a name means at this book is a rule set made of its axioms; it means nothing where there is none
abbrev pub MeansAt : Opening → List Registration → Text → Option RuleSet → Type 0
MeansAt o book name (Some rules) = (axioms : List NumberedAxiom) × (meaning_in o book name ≡ Some axioms) × IsSetOf o.signature axioms rules
MeansAt o book name None = meaning_in o book name ≡ None

-- the own name, where it is asked for
abbrev pub own_name_asked : Bool → Text → Option Text
own_name_asked true name = Some name
own_name_asked false name = None

-- ---- the table of names

-- the id or the own name
abbrev pub is_either : Text → Text → Option Text → Bool
is_either name id (Some own) = bytes_eq name id || bytes_eq name own
is_either name id None = bytes_eq name id

abbrev pub binds_name : Text → Entry → Bool
binds_name name e = is_either name e.id (option_map string_bytes e.also)

-- the place of the first entry that binds the name
abbrev pub first_binding : List Entry → Text → Option ℕ
first_binding [] name = None
first_binding (e ∷ rest) name = if binds_name name e then Some 0 else option_map suc (first_binding rest name)

abbrev pub name_of : NameBinding → Text
name_of b = string_bytes b.name

-- what the table tells of a name
abbrev pub place_named : List NameBinding → Text → Option ℕ
place_named [] name = None
place_named (b ∷ rest) name = if bytes_eq name (name_of b) then Some b.place else place_named rest name

-- what the table tells of a name once another is bound too, unless that was bound before
abbrev pub told_then : Option ℕ → Text → ℕ → Text → Option ℕ
told_then told bound place name = option_or told (if bytes_eq name bound then Some place else None)

-- the order of bytes
abbrev pub compare : Text → Text → Ordering
compare = slice_cmp nat_cmp

abbrev pub AreBelow : Text → List Text → Type 0
AreBelow name = AllByRecursion (λ y. compare y name ≡ Less)

abbrev pub AreAbove : Text → List Text → Type 0
AreAbove name = AllByRecursion (λ y. compare name y ≡ Less)

-- the names rise by their bytes
abbrev pub IsRising : List Text → Type 0
IsRising [] = ⊤
IsRising (x ∷ xs) = AllByRecursion (λ y. compare x y ≡ Less) xs × IsRising xs

-- there is room for all entries that a book may have and for their names, and the table tells of each name the first
-- entry that binds it
pub record IsSound (b : Book) : Type 0 where
  pub few : length b.entries.items ≤ most_entries
  pub room : most_entries ≤ vec_capacity b.entries
  pub names_few : length b.names.items ≤ 2 * length b.entries.items
  pub names_room : 2 * most_entries ≤ vec_capacity b.names
  pub rising : IsRising (map name_of b.names.items)
  pub told : (name : Text) → place_named b.names.items name ≡ first_binding b.entries.items name

-- it holds the names that its entry binds
pub record IsReady (r : Ready) : Type 0 where
  pub id : string_bytes r.id_name ≡ r.entry.id
  pub own : option_map string_bytes r.own_name ≡ option_map string_bytes r.entry.also
