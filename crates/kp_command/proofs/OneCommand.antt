-- Words spell at most one command.
use Rattle.std.proofs.Common.{◌≡◌, ◌∙◌, sym, ap, List, [], Bool, true, false, Some, None, codes}
use Rattle.std.specs.Str.{bytes_eq}
use Rattle.clap.specs.Walk.{Row, Text, first_of}
use Rattle.kp_command.specs.Words.{ProveWords, Read, SpellsProve, SpellsStdio}

abbrev rows_in : Read → List Row
rows_in None = []
rows_in (Some p) = p.1

abbrev is_stdio : Read → Bool
is_stdio None = false
is_stdio (Some p) = bytes_eq p.0 (codes "stdio")

two_names : (read : Read) (xs ys : List Row) → read ≡ Some (codes "stdio", xs) → read ≡ Some (codes "prove", ys) → ⊥
two_names read xs ys e f = let bad : true ≡ false = ap is_stdio (sym e ∙ f) in absurd (cc)

same_rows : (read : Read) (name : Text) (xs ys : List Row) → read ≡ Some (name, xs) → read ≡ Some (name, ys) → xs ≡ ys
same_rows read name xs ys e f = ap rows_in (sym e ∙ f)

same_value : (id : Text) (xs ys : List Row) (x y : Text) → xs ≡ ys → first_of id xs ≡ Some x → first_of id ys ≡ Some y → x ≡ y
same_value id xs ys x y same e f = let told = sym e ∙ (ap (first_of id) same ∙ f) in cc

pub same_command : (words : List Text) (d e m n : Text) → SpellsStdio words d m → SpellsStdio words e n → (d ≡ e) × (m ≡ n)
same_command words d e m n s r =
    let same = same_rows _ _ s.1.0 r.1.0 s.1.1 r.1.1 in
    (same_value _ _ _ _ _ same s.1.2.definition_is r.1.2.definition_is, same_value _ _ _ _ _ same s.1.2.main_is r.1.2.main_is)

pub record SameFiles (c d : ProveWords) : Type 0 where
  pub definition : c.definition ≡ d.definition
  pub main : c.main ≡ d.main
  pub claims : c.claims ≡ d.claims

pub same_files : (words : List Text) (c d : ProveWords) → SpellsProve words c → SpellsProve words d → SameFiles c d
same_files words c d s r =
    let same = same_rows _ _ s.1.0 r.1.0 s.1.1 r.1.1 in
    record {
      definition = same_value _ _ _ _ _ same s.1.2.definition_is r.1.2.definition_is;
      main = same_value _ _ _ _ _ same s.1.2.main_is r.1.2.main_is;
      claims = same_value _ _ _ _ _ same s.1.2.claims_is r.1.2.claims_is;
    }

pub not_both : (words : List Text) (d m : Text) (c : ProveWords) → SpellsStdio words d m → SpellsProve words c → ⊥
not_both words d m c s r = two_names _ _ _ s.1.1 r.1.1
