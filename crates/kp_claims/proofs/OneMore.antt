-- One more sentence, and lists of claims.
use Rattle.std.proofs.Common.{◌≡◌, sym, ap, subst, ◌∙◌, ℕ, suc, ◌+◌, ◌<◌, List, [], ◌∷◌, ◌++◌, length, take, drop, get_or, Bor, Result, Ok, Err, arith}
use Rattle.std.specs.Prelude.{IsErr, IsErrAnd, IfErr}
use Rattle.std.specs.List.{AllZip}
use Rattle.std.proofs.Math.Seq.{take-suc}
use Rattle.std.proofs.lemmas.List.{map-append, take-append-drop, append-nil, append_assoc}
use Rattle.kp_kore.specs.Syntax.{KoreSentence}
use Rattle.kp_kore.specs.View.{sentence_view}
use Rattle.kp_kore.specs.declared.sentence.Sentence.{Sentence}
use Rattle.kp_claims.specs.Faults.{label_at, labels_of}
use Rattle.kp_claims.specs.Sentences.{seen}
use Rattle.kp_claims.specs.declared.fault.ClaimError.{ClaimError}

-- ---- sentences seen

pub seen_more : (ss : List (Bor Sentence)) (i : ℕ) (d : Bor Sentence) → i < length ss → d ≡ get_or ss i d → seen (take (i + 1) ss) ≡ seen (take i ss) ++ sentence_view d.now ∷ []
seen_more ss i d h read =
    let more : i + 1 ≡ suc i = omega arith in
    ap (λ k. seen (take k ss)) more ∙ ap seen (take-suc ss i d h) ∙ map-append (λ s. sentence_view s.now) (take i ss) (get_or ss i d ∷ []) ∙ ap (λ s. seen (take i ss) ++ sentence_view s.now ∷ []) (sym read)

pub seen_split : (ss : List (Bor Sentence)) (i : ℕ) (d : Bor Sentence) → i < length ss → d ≡ get_or ss i d → seen ss ≡ seen (take i ss) ++ sentence_view d.now ∷ seen (drop (i + 1) ss)
seen_split ss i d h read =
    ap seen (sym (take-append-drop (i + 1) ss))
    ∙ map-append (λ s. sentence_view s.now) (take (i + 1) ss) (drop (i + 1) ss)
    ∙ ap (λ l. l ++ seen (drop (i + 1) ss)) (seen_more ss i d h read)
    ∙ append_assoc (seen (take i ss)) (sentence_view d.now ∷ []) (seen (drop (i + 1) ss))

-- ---- labels and lists

pub labels_more : (ss : List KoreSentence) (s : KoreSentence) → labels_of (ss ++ s ∷ []) ≡ labels_of ss ++ label_at s
labels_more [] s = append-nil (label_at s)
labels_more (x ∷ xs) s = ap (λ l. label_at x ++ l) (labels_more xs s) ∙ sym (append_assoc (label_at x) (labels_of xs) (label_at s))

pub zip_push : {A B : Type 0} (R : A → B → Type 0) (xs : List A) (ys : List B) (x : A) (y : B) → AllZip R xs ys → R x y → AllZip R (xs ++ x ∷ []) (ys ++ y ∷ [])
zip_push R [] [] x y h r = (r, tt)
zip_push R [] (b ∷ ys) x y h r = absurd h
zip_push R (a ∷ xs) [] x y h r = absurd h
zip_push R (a ∷ xs) (b ∷ ys) x y h r = (h.0, zip_push R xs ys x y h.1 r)

-- ---- errors that are handed on

pub exit : {X : Type 0} (r : Result X ClaimError) (P : ClaimError → Type 0) (e : ClaimError) → IsErr r × IsErrAnd r (λ y. y ≡ e) → P e → IfErr r P
exit (Ok x) P e h p = tt
exit (Err y) P e h p = subst P (sym h.1) p
