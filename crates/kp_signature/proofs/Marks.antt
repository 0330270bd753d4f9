-- What attributes of other numbers of sorts and arguments mark, and those of the right numbers.
use Rattle.std.proofs.Common.{◌≡◌, refl, ap, ◌<◌, Bool, true, false, cond, ◌&&◌, List, [], ◌∷◌, length, get_or, Option, None, sym, ◌∙◌, arith}
use Rattle.std.specs.Str.{bytes_eq}
use Rattle.kp_kore.specs.Syntax.{Text, KoreSort, sort_of, no_sorts, KorePattern, KorePatterns, application, string_literal, no_patterns, next_pattern}
use Rattle.kp_kore.specs.Attributes.{is_mark, marked_text, sorts_equal}
use Rattle.kp_kore.specs.declared.sort.Sort.{Sort}
use Rattle.kp_kore.specs.declared.pattern.Pattern.{Pattern}
use Rattle.kp_kore.specs.View.{view, sorts_view, patterns_view}
use Rattle.kp_signature.specs.Texts.{text_literal}

none_below : 0 < 0 → ⊥
none_below h = omega arith

pub no_mark_with_sorts : (name n : Text) (ss : List Sort) (ps : List Pattern) → 0 < length ss → false ≡ is_mark name (application n (sorts_view ss) (patterns_view ps))
no_mark_with_sorts name n [] ps h = absurd (none_below h)
no_mark_with_sorts name n (s ∷ ss) ps h = refl

pub no_mark_with_arguments : (name n : Text) (ss : List Sort) (ps : List Pattern) → 0 < length ps → false ≡ is_mark name (application n (sorts_view ss) (patterns_view ps))
no_mark_with_arguments name n ss [] h = absurd (none_below h)
no_mark_with_arguments name n [] (p ∷ ps) h = refl
no_mark_with_arguments name n (s ∷ ss) (p ∷ ps) h = refl

pub mark_by_name : (name n : Text) (ss : List Sort) (ps : List Pattern) → length ss ≡ 0 → length ps ≡ 0 → bytes_eq n name ≡ is_mark name (application n (sorts_view ss) (patterns_view ps))
mark_by_name name n [] [] h k = refl
mark_by_name name n (s ∷ ss) ps h k = absurd (cc)
mark_by_name name n [] (p ∷ ps) h k = absurd (cc)

pub no_text_with_sorts : (name n : Text) (ss : List Sort) (ps : List Pattern) → 0 < length ss → None ≡ marked_text name (application n (sorts_view ss) (patterns_view ps))
no_text_with_sorts name n [] ps h = absurd (none_below h)
no_text_with_sorts name n (s ∷ ss) ps h = refl

two_arguments : (name n : Text) (p q : KorePattern) (ps : KorePatterns) → None ≡ marked_text name (application n no_sorts (next_pattern p (next_pattern q ps)))
two_arguments name n (string_literal t) q ps = refl
two_arguments name n _ q ps = refl

pub no_text_of_others : (name n : Text) (ss : List Sort) (ps : List Pattern) → (length ps ≡ 1 → ⊥) → None ≡ marked_text name (application n (sorts_view ss) (patterns_view ps))
no_text_of_others name n (s ∷ ss) ps h = refl
no_text_of_others name n [] [] h = refl
no_text_of_others name n [] (p ∷ []) h = absurd (h refl)
no_text_of_others name n [] (p ∷ q ∷ ps) h = two_arguments name n (view p) (view q) (patterns_view ps)

neither : (b : Bool) (o : Option Text) → o ≡ cond b o o
neither true o = refl
neither false o = refl

one_argument : (name n : Text) (p : KorePattern) → marked_text name (application n no_sorts (next_pattern p no_patterns)) ≡ cond (bytes_eq n name) (text_literal p) None
one_argument name n (string_literal t) = refl
one_argument name n _ = neither (bytes_eq n name) None

pub text_by_name : (name n : Text) (ss : List Sort) (ps : List Pattern) (p : Pattern) (b : Bool) → length ss ≡ 0 → length ps ≡ 1 → p ≡ get_or ps 0 p → bytes_eq n name ≡ b →
    marked_text name (application n (sorts_view ss) (patterns_view ps)) ≡ cond b (text_literal (view p)) None
text_by_name name n (s ∷ ss) ps p b h k is e = absurd (cc)
text_by_name name n [] [] p b h k is e = absurd (cc)
text_by_name name n [] (q ∷ r ∷ ps) p b h k is e = absurd (cc)
text_by_name name n [] (q ∷ []) p b h k is e = one_argument name n (view q) ∙ ap (λ t. cond t (text_literal (view q)) None) e ∙ ap (λ v. cond b (text_literal (view v)) None) (sym is)

-- whether a sort is the one of a name, by the number of its arguments
pub no_plain_sort : (wanted n : Text) (ss : List Sort) (s : KoreSort) → s ≡ sort_of n (sorts_view ss) → 0 < length ss → false ≡ sorts_equal (sort_of wanted no_sorts) s
no_plain_sort wanted n [] s is h = absurd (none_below h)
no_plain_sort wanted n (t ∷ ts) s is h = sym (either (bytes_eq wanted n)) ∙ ap (sorts_equal (sort_of wanted no_sorts)) (sym is)
  where
    either : (b : Bool) → b && false ≡ false
    either true = refl
    either false = refl

pub plain_sort_by_name : (wanted n : Text) (ss : List Sort) (s : KoreSort) → s ≡ sort_of n (sorts_view ss) → length ss ≡ 0 → bytes_eq wanted n ≡ sorts_equal (sort_of wanted no_sorts) s
plain_sort_by_name wanted n [] s is h = sym (either (bytes_eq wanted n)) ∙ ap (sorts_equal (sort_of wanted no_sorts)) (sym is)
  where
    either : (b : Bool) → b && true ≡ b
    either true = refl
    either false = refl
plain_sort_by_name wanted n (t ∷ ts) s is h = absurd (cc)
