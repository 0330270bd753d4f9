-- The text of sorts grows by one sort at its end.
use Rattle.std.proofs.Common.{ℕ, ◌≡◌, ◌<◌, ◌+◌, refl, ap, ◌∙◌, sym, map, take, arith, get_or, ◌++◌, List, [], ◌∷◌, length}
use Rattle.std.proofs.lemmas.List.{append_assoc, length-map, length-take-le, map_push, take_more}
use Rattle.kp_kore.specs.Syntax.{Text, KoreSort}
use Rattle.kp_kore.specs.View.{sort_view, sorts_of, sorts_view}
use Rattle.kp_kore.specs.declared.sort.Sort.{Sort}
use Rattle.kp_signature.specs.Texts.{comma_before}
use Rattle.kp_signature.specs.Verify.{sort_text, sorts_text}

text_grows : (ss : List KoreSort) (s : KoreSort) → sorts_text (sorts_of (ss ++ s ∷ [])) ≡ sorts_text (sorts_of ss) ++ comma_before (length ss) ++ sort_text s
text_grows [] s = refl
text_grows (a ∷ []) s = sym (append_assoc (sort_text a) (44 ∷ []) (sort_text s))
text_grows (a ∷ b ∷ ss) s =
    ap (λ t. sort_text a ++ 44 ∷ t) (text_grows (b ∷ ss) s) ∙
    ap (λ t. sort_text a ++ 44 ∷ t) (append_assoc (sorts_text (sorts_of (b ∷ ss))) (44 ∷ []) (sort_text s)) ∙
    sym (append_assoc (sort_text a) (44 ∷ sorts_text (sorts_of (b ∷ ss))) (44 ∷ sort_text s)) ∙
    sym (append_assoc (sort_text a ++ 44 ∷ sorts_text (sorts_of (b ∷ ss))) (44 ∷ []) (sort_text s))

taken_grows : (sorts : List Sort) (i : ℕ) (s : Sort) → i < length sorts → s ≡ get_or sorts i s →
    sorts_text (sorts_view (take (i + 1) sorts)) ≡ sorts_text (sorts_view (take i sorts)) ++ comma_before i ++ sort_text (sort_view s)
taken_grows sorts i s within there =
    ap (λ l. sorts_text (sorts_view l)) (take_more sorts i s within ∙ ap (λ a. take i sorts ++ a ∷ []) (sym there)) ∙
    ap (λ l. sorts_text (sorts_of l)) (map_push sort_view (take i sorts) s) ∙
    text_grows (map sort_view (take i sorts)) (sort_view s) ∙
    ap (λ n. sorts_text (sorts_view (take i sorts)) ++ comma_before n ++ sort_text (sort_view s)) (length-map (take i sorts) sort_view ∙ length-take-le i sorts (omega arith))

joins_four : (a b c d : Text) → a ++ b ++ c ++ d ≡ a ++ (b ++ c ++ d)
joins_four a b c d = append_assoc (a ++ b) c d ∙ append_assoc a b (c ++ d) ∙ ap (λ t. a ++ t) (sym (append_assoc b c d))

-- a turn of the loop: a comma where one is due, then the sort at the place
pub turn : (old before marked after : Text) (sorts : List Sort) (i : ℕ) (s : Sort) → i < length sorts → s ≡ get_or sorts i s →
    before ≡ old ++ sorts_text (sorts_view (take i sorts)) → marked ≡ before ++ comma_before i → after ≡ marked ++ sort_text (sort_view s) →
    after ≡ old ++ sorts_text (sorts_view (take (i + 1) sorts))
turn old before marked after sorts i s within there was comma added =
    added ∙ ap (λ t. t ++ sort_text (sort_view s)) (comma ∙ ap (λ t. t ++ comma_before i) was) ∙
    joins_four old (sorts_text (sorts_view (take i sorts))) (comma_before i) (sort_text (sort_view s)) ∙
    ap (λ t. old ++ t) (sym (taken_grows sorts i s within there))
