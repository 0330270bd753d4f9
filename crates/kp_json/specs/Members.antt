-- Members of JSON objects. Other members than those that are named are read past.
-- Source: JSON (RFC 8259), as serde_json keeps it: of two members of one name the last stays.
use Rattle.std.specs.Prelude.{◌≡◌, ℕ, Bool, false, ◌&&◌, ◌||◌, ◌==◌, List, [], ◌∷◌, Some, None}
use Rattle.std.specs.Char.{is_ascii_alphabetic, is_ascii_digit}
use Rattle.std.specs.List.{list_all}
use Rattle.serde_json.specs.Data.{Data, string, object, Members, no_members, put}
use Rattle.serde_json.specs.Find.{get_member}
use Rattle.kp_kore.specs.Syntax.{Text}

-- the object has this member, with a text, or hasn't it
abbrev pub Has : Members → Text → Data → Type 0
Has o name d = get_member name o ≡ Some d

abbrev pub HasText : Members → Text → Text → Type 0
HasText o name text = Has o name (string text)

abbrev pub Lacks : Members → Text → Type 0
Lacks o name = get_member name o ≡ None

-- a letter, and then letters, digits, ' and -
abbrev pub is_identifier_byte : ℕ → Bool
is_identifier_byte b = (is_ascii_alphabetic b || is_ascii_digit b) || ((b == 39) || (b == 45))

abbrev pub is_identifier : Text → Bool
is_identifier [] = false
is_identifier (b ∷ bs) = is_ascii_alphabetic b && list_all is_identifier_byte bs

-- the object with these members, in the order of their names
abbrev pub members_of : List (Text × Data) → Members
members_of [] = no_members
members_of (m ∷ ms) = put m.0 m.1 (members_of ms)

abbrev pub object_of : List (Text × Data) → Data
object_of ms = object (members_of ms)
