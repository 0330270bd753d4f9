-- Names of modules, and names that stand twice.
use Rattle.std.specs.Prelude.{◌≡◌, ℕ, ◌<◌, ◌≤◌, true, List, ◌∷◌, ◌++◌, map, Some, count_by, string_bytes}
use Rattle.std.specs.Borrow.{Bor}
use Rattle.std.specs.Option.{is_some}
use Rattle.std.specs.List.{list_any}
use Rattle.std.specs.Str.{bytes_eq}
use Rattle.std.specs.declared.alloc.Global.{Global}
use Rattle.std.specs.Prelude.{String}
use Rattle.indexmap.specs.IndexMap.{IndexMap, get_by_text}
use Rattle.kp_kore.specs.Syntax.{Text, KoreModule}
use Rattle.kp_kore.specs.View.{module_view}
use Rattle.kp_kore.specs.declared.sentence.Module.{Module}

abbrev pub names_of : List KoreModule → List Text
names_of = map (λ m. m.name)

abbrev pub module_names : List Module → List Text
module_names ms = names_of (map module_view ms)

-- each name stands at most once
abbrev pub AreOnce : List Text → Type 0
AreOnce names = (n : Text) → count_by (bytes_eq n) names ≤ 1

-- the name is the first that stands a second time
pub record IsFirstRepeated (n : Text) (names : List Text) : Type 0 where
  pub before : List Text
  pub after : List Text
  pub are : names ≡ before ++ n ∷ after
  pub once : AreOnce before
  pub again : list_any (bytes_eq n) before ≡ true

abbrev pub texts_of : List (Bor (String Global)) → List Text
texts_of = map (λ n. string_bytes n.now)

-- the map has these names
abbrev pub Lists : {V S : Type 0} → List Text → IndexMap (String Global) V S → Type 0
Lists names met = (n : Text) → is_some (get_by_text met n) ≡ list_any (bytes_eq n) names

-- each place in the map is below a number
abbrev pub PlacesAreBelow : {S : Type 0} → IndexMap (String Global) ℕ S → ℕ → Type 0
PlacesAreBelow places count = (n : Text) (p : ℕ) → get_by_text places n ≡ Some p → p < count
