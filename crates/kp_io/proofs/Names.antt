-- A map that was updated at a name stores the bytes there, and the other names stay.
use Rattle.std.proofs.Common.{◌≡◌, ℕ, List, Option, Some, Bool, true, false, if◌then◌else◌, option_map, String, string_bytes, Vec, Global, refl, sym, ap, ◌∙◌}
use Rattle.std.specs.BTreeMap as tree
use Rattle.std.specs.BTreeMap.{BTreeMap}
use Rattle.std.specs.Cmp.Lexicographic.{slice_cmp}
use Rattle.std.specs.Ordering.{nat_cmp}
use Rattle.std.specs.String.{string_cmp}
use Rattle.std.specs.Str.{bytes_eq}
use Rattle.std.proofs.lemmas.Map.Text.{btree_map_updates_text}
use Rattle.std.proofs.lemmas.Slice.Eq.{bytes_eq-Decides}
use Rattle.std.proofs.lemmas.Bool.{false_from_ne_true}
use Rattle.kp_io.specs.Outside.{Stores, OthersStay}
use Rattle.kp_io.specs.Files.{map_names}

through_choice : (b : Bool) (v : Vec ℕ Global) (o : Option (Vec ℕ Global)) →
    option_map (λ bytes. bytes.items) (if b then Some v else o) ≡ (if b then Some v.items else option_map (λ bytes. bytes.items) o)
through_choice true v o = refl
through_choice false v o = refl

pub stores_updated : (m n : BTreeMap (String Global) (Vec ℕ Global)) (key : String Global) (name bytes : List ℕ) (v : Vec ℕ Global) →
    tree.UpdatesBy string_cmp (λ k. slice_cmp nat_cmp (string_bytes key) (string_bytes k)) m n (Some v) →
    string_bytes key ≡ name → v.items ≡ bytes → Stores (Some (map_names m)) (Some (map_names n)) name bytes
stores_updated m n key name bytes v h is holds x =
    ap (λ o. option_map (λ bytes. bytes.items) o) (btree_map_updates_text (string_bytes key) m n (Some v) h x)
    ∙ through_choice (bytes_eq (string_bytes key) x) v (tree.get_by_text m x)
    ∙ ap (λ k. if bytes_eq k x then Some v.items else map_names m x) is
    ∙ ap (λ b. if bytes_eq name x then Some b else map_names m x) holds

pub others_updated : (m n : BTreeMap (String Global) (Vec ℕ Global)) (name bytes : List ℕ) →
    Stores (Some (map_names m)) (Some (map_names n)) name bytes → OthersStay (Some (map_names m)) (Some (map_names n)) name
others_updated m n name bytes h x other =
    h x ∙ ap (λ b. if b then Some bytes else map_names m x) (false_from_ne_true (bytes_eq name x) (λ e. other (sym ((bytes_eq-Decides name x).0 e))))
