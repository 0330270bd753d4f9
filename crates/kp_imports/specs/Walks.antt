-- Where a walk over modules stands.
use Rattle.std.specs.Prelude.{◌≡◌, ℕ, ◌+◌, ◌*◌, ◌<◌, ◌≤◌, Bool, true, false, List, [], ◌∷◌, ◌++◌, length, map, take, ⊤, Option, Some, None, count_by, slice_get, slice_index_or, String}
use Rattle.std.specs.List.{AllByRecursion, Contains, flat_map}
use Rattle.std.specs.Str.{bytes_eq}
use Rattle.std.specs.declared.alloc.Global.{Global}
use Rattle.indexmap.specs.IndexMap.{IndexMap, get_by_text}
use Rattle.kp_kore.specs.Syntax.{Text, KoreModule}
use Rattle.kp_kore.specs.View.{module_view, sentence_view}
use Rattle.kp_kore.specs.declared.sentence.Module.{Module}
use Rattle.kp_kore.specs.declared.sentence.Sentence.{Sentence}
use Rattle.kp_kore.specs.Theory.{imports_in, module_named, names_reached}
use Rattle.kp_signature.specs.Names.{Indexes, first_place}
use Rattle.kp_imports.specs.Faults.{Leads}
use Rattle.kp_imports.specs.Names.{module_names}
use Rattle.kp_imports.specs.Reaching.{has, collect, imports_of, IsClosed, IsSettled}
use Rattle.kp_imports.specs.declared.imports.Import.{Import}
use Rattle.kp_imports.specs.declared.imports.Mark.{Mark}
use Rattle.kp_imports.specs.declared.imports.Mark.TheVariants as mark
use Rattle.kp_imports.specs.declared.walk.Parent.{Parent}
use Rattle.kp_imports.specs.declared.walk.ImportWalk.{ImportWalk}

abbrev pub is_unseen : Mark → Bool
is_unseen mark.Unseen = true
is_unseen mark.Open = false
is_unseen mark.Done = false

abbrev pub is_done : Mark → Bool
is_done mark.Unseen = false
is_done mark.Open = false
is_done mark.Done = true

abbrev pub is_open : Mark → Bool
is_open mark.Unseen = false
is_open mark.Open = true
is_open mark.Done = false

abbrev pub unseen_in : List Mark → ℕ
unseen_in = count_by is_unseen

-- how many modules are to be entered or left at most
abbrev pub work_left : ImportWalk → ℕ
work_left w = 2 * unseen_in w.marks.items + length w.parents.items

-- the places of a walk are below the number of marks
pub record IsWithin (w : ImportWalk) : Type 0 where
  pub current : w.current < length w.marks.items
  pub parents : AllByRecursion (λ p. p.place < length w.marks.items) w.parents.items
  pub finished : AllByRecursion (λ p. p < length w.marks.items) w.done.items

-- ---- imports among sentences

abbrev pub import_names : List Sentence → List Text
import_names ss = imports_in (map sentence_view ss)

-- the name's module is done
pub record IsNameDone {S : Type 0} (places : IndexMap (String Global) ℕ S) (marks : List Mark) (n : Text) : Type 0 where
  pub place : ℕ
  pub found : get_by_text places n ≡ Some place
  pub finished : (d : Mark) → is_done (slice_index_or marks place d) ≡ true

-- the modules of the imports from one sentence on up to another are done
pub record ArePassed {S : Type 0} (places : IndexMap (String Global) ℕ S) (marks : List Mark) (before after : List Text) : Type 0 where
  pub names : List Text
  pub are : after ≡ before ++ names
  pub all_done : AllByRecursion (IsNameDone places marks) names

-- the import's name, behind imports whose modules are done
pub record IsNext {S : Type 0} (places : IndexMap (String Global) ℕ S) (marks : List Mark) (ss : List Sentence) (from : ℕ) (i : Import) : Type 0 where
  pub name : Text
  pub passed : List Text
  pub are : import_names (take i.from ss) ≡ passed ++ name ∷ []
  pub rest : ArePassed places marks (import_names (take from ss)) passed
  pub found : get_by_text places name ≡ Some i.place

-- ---- what is noted

-- each place that isn't unseen is among these
abbrev pub AreNoted : List Mark → List ℕ → Type 0
AreNoted marks found = (p : ℕ) → is_unseen (slice_index_or marks p mark.Unseen) ≡ false → Contains found p

-- more places are noted behind those that were there
pub record NotedMore (marks : List Mark) (before after : List ℕ) : Type 0 where
  pub more : List ℕ
  pub is : after ≡ before ++ more
  pub noted : AreNoted marks after

-- the name's place is among these
pub record IsNameNoted {S : Type 0} (places : IndexMap (String Global) ℕ S) (found : List ℕ) (n : Text) : Type 0 where
  pub place : ℕ
  pub at : get_by_text places n ≡ Some place
  pub among : Contains found place

-- ---- the walk

abbrev pub sentences_in : Option Module → List Sentence
sentences_in (Some m) = m.sentences.items
sentences_in None = []

abbrev pub sentences_at : List Module → ℕ → List Sentence
sentences_at rows place = sentences_in (slice_get rows place)

abbrev pub reached_by : List Module → List Text → List Text
reached_by rows = flat_map (names_reached (length rows) (map module_view rows))

abbrev pub backwards : List Parent → List Parent
backwards [] = []
backwards (f ∷ fs) = backwards fs ++ f ∷ []

-- the module of this name is imported by the parent, which has this name, behind imports that reach the rest
pub record IsImportedBy (rows : List Module) (parent : Parent) (above name : Text) (before : List Text) (Further : List Text → Type 0) : Type 0 where
  pub passed : List Text
  pub rest : List Text
  pub imports : import_names (take parent.from (sentences_at rows parent.place)) ≡ passed ++ name ∷ []
  pub are : before ≡ rest ++ reached_by rows passed
  pub at : first_place above (module_names rows) ≡ Some parent.place
  pub further : Further rest

-- the open modules from the innermost one to main, and what the imports before them reach
abbrev pub AreOpen : List Module → Text → List Parent → List Text → Text → List Text → Type 0
AreOpen rows main [] [] name before = (name ≡ main) × (before ≡ [])
AreOpen rows main [] (x ∷ xs) name before = ⊥
AreOpen rows main (f ∷ fs) [] name before = ⊥
AreOpen rows main (f ∷ fs) (x ∷ xs) name before = IsImportedBy rows f x name before (AreOpen rows main fs xs x)

abbrev pub AreDistinct : List Text → Type 0
AreDistinct [] = ⊤
AreDistinct (x ∷ xs) = AllByRecursion (λ y. bytes_eq x y ≡ false) xs × AreDistinct xs

abbrev pub HasMark : List Module → List Mark → Mark → Text → Type 0
HasMark rows marks m n = (p : ℕ) (d : Mark) → first_place n (module_names rows) ≡ Some p → slice_index_or marks p d ≡ m

-- no chain of imports leads from one of the names back to it
abbrev pub IsAcyclic : List KoreModule → List Text → Type 0
IsAcyclic ms names = (a next : Text) → has a names ≡ true → has next (imports_of ms a) ≡ true → Leads ms next a → ⊥

-- the names are those of modules, no more than there are, their imports are among them, and no chain of imports leads back
pub record IsLaidOut (ms : List KoreModule) (names : List Text) : Type 0 where
  pub named : AllByRecursion (λ n. ¬ (module_named ms n ≡ None)) names
  pub room : length names ≤ length ms
  pub closed : IsClosed ms names
  pub settled : IsSettled ms names
  pub acyclic : IsAcyclic ms names

-- the walk from main has left the modules of these places, in order, and stands in the open ones
pub record IsOnWay (rows : List Module) (main : Text) (parents : List Parent) (current from : ℕ) (done : List ℕ) (marks : List Mark) : Type 0 where
  pub name : Text
  pub above : List Text
  pub before : List Text
  pub names : List Text
  pub at : first_place name (module_names rows) ≡ Some current
  pub opens : AreOpen rows main (backwards parents) above name before
  pub distinct : AreDistinct (name ∷ above)
  pub open_marks : AllByRecursion (HasMark rows marks mark.Open) (name ∷ above)
  pub tell : (n : Text) (p : ℕ) (d : Mark) → first_place n (module_names rows) ≡ Some p → is_done (slice_index_or marks p d) ≡ has n names
  pub only : (n : Text) (p : ℕ) (d : Mark) → first_place n (module_names rows) ≡ Some p → is_open (slice_index_or marks p d) ≡ true → has n (name ∷ above) ≡ true
  pub places : map (λ n. first_place n (module_names rows)) names ≡ map Some done
  pub order : names ≡ collect [] (before ++ reached_by rows (import_names (take from (sentences_at rows current))))
  pub closed : IsClosed (map module_view rows) names
  pub settled : IsSettled (map module_view rows) names
  pub acyclic : IsAcyclic (map module_view rows) names
  pub len : length marks ≡ length rows
  pub room : length names + (unseen_in marks + length parents) < length rows

-- the walk has left main
pub record IsOver (rows : List Module) (main : Text) (done : List ℕ) : Type 0 where
  pub places : map (λ n. first_place n (module_names rows)) (names_reached (length rows) (map module_view rows) main) ≡ map Some done
  pub there : has main (names_reached (length rows) (map module_view rows) main) ≡ true
  pub closed : IsClosed (map module_view rows) (names_reached (length rows) (map module_view rows) main)
  pub acyclic : IsAcyclic (map module_view rows) (names_reached (length rows) (map module_view rows) main)
  pub settled : IsSettled (map module_view rows) (names_reached (length rows) (map module_view rows) main)
  pub room : length (names_reached (length rows) (map module_view rows) main) ≤ length rows

abbrev pub IsWalkOf : List Module → Text → ImportWalk → Type 0
IsWalkOf rows main w = IsOnWay rows main w.parents.items w.current w.from w.done.items w.marks.items

-- the walk comes to an import that isn't done
pub record ComesTo (rows : List Module) (main : Text) (w : ImportWalk) (i : Import) : Type 0 where
  pub way : IsWalkOf rows main w
  pub name : Text
  pub passed : List Text
  pub more : List Text
  pub are : import_names (take i.from (sentences_at rows w.current)) ≡ passed ++ name ∷ []
  pub is : passed ≡ import_names (take w.from (sentences_at rows w.current)) ++ more
  pub all_done : AllByRecursion (λ n. has n way.names ≡ true) more
  pub found : first_place name (module_names rows) ≡ Some i.place

-- all further imports of the open module are done
pub record ComesToEnd (rows : List Module) (main : Text) (w : ImportWalk) : Type 0 where
  pub way : IsWalkOf rows main w
  pub more : List Text
  pub is : import_names (sentences_at rows w.current) ≡ import_names (take w.from (sentences_at rows w.current)) ++ more
  pub all_done : AllByRecursion (λ n. has n way.names ≡ true) more

-- ---- places that main reaches

-- a module of this place is reached
pub record IsReachedPlace (rows : List Module) (main : Text) (place : ℕ) : Type 0 where
  pub name : Text
  pub reached : Leads (map module_view rows) main name
  pub at : first_place name (module_names rows) ≡ Some place

-- the sentences are those of a module that is reached
pub record Stands {S : Type 0} (rows : List Module) (main : Text) (places : IndexMap (String Global) ℕ S) (ss : List Sentence) : Type 0 where
  pub name : Text
  pub reached : Leads (map module_view rows) main name
  pub imports : imports_of (map module_view rows) name ≡ import_names ss
  pub indexes : Indexes (module_names rows) places
