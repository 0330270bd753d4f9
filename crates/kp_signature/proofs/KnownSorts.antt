-- Whether a sort is known, by the test of its name.
use Rattle.std.proofs.Common.{◌≡◌, refl, sym, ap, ◌∙◌, ℕ, nat_eq, true, false, cond, List, map, length, Some}
use Rattle.std.specs.List.{find}
use Rattle.std.specs.Str.{bytes_eq}
use Rattle.std.proofs.lemmas.List.{length-map}
use Rattle.kp_kore.specs.Syntax.{Text, KoreSort, sort_of, KoreSorts, SortDeclaration}
use Rattle.kp_kore.specs.Parts.{sort_list}
use Rattle.kp_kore.specs.Signature.{KoreSignature}
use Rattle.kp_kore.specs.declared.sort.Sort.{Sort}
use Rattle.kp_kore.specs.View.{sort_view, sorts_view}
use Rattle.kp_kore.proofs.Views.{list_of_sorts}
use Rattle.kp_signature.specs.Places.{is_known, unknown_sort_in, unknown_sort_among}

pub number_of_sorts : (ss : List Sort) → length (sort_list (sorts_view ss)) ≡ length ss
number_of_sorts ss = ap length (list_of_sorts (map sort_view ss)) ∙ length-map ss sort_view

pub known_outside : (g : KoreSignature) (s : KoreSort) (n : Text) (ss : KoreSorts) → s ≡ sort_of n ss → true ≡ is_known g n ss → unknown_sort_among g ss ≡ unknown_sort_in g s
known_outside g s n ss is h = ap (λ b. cond b (unknown_sort_among g ss) (Some (sort_of n ss))) h ∙ ap (unknown_sort_in g) (sym is)

pub unknown_outside : (g : KoreSignature) (s : KoreSort) (n : Text) (ss : KoreSorts) → s ≡ sort_of n ss → false ≡ is_known g n ss → Some s ≡ unknown_sort_in g s
unknown_outside g s n ss is h = ap Some is ∙ ap (λ b. cond b (unknown_sort_among g ss) (Some (sort_of n ss))) h ∙ ap (unknown_sort_in g) (sym is)

-- a sort whose name is declared, by its numbers of arguments and parameters
pub known_by_number : (g : KoreSignature) (n : Text) (ss : KoreSorts) (d : SortDeclaration) (parameters arguments : ℕ) → find (λ e. bytes_eq e.name n) g.sorts ≡ Some d →
    parameters ≡ length d.parameters → length (sort_list ss) ≡ arguments → nat_eq parameters arguments ≡ is_known g n ss
known_by_number g n ss d parameters arguments is long many = rw long (rw (sym many) (rw is refl))
