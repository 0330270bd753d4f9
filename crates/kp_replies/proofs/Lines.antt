-- A line tells nothing where its text doesn't.
use Rattle.std.proofs.Common.{◌≡◌, ℕ, List, [], ◌∷◌, ◌++◌, Option, Some, None, refl, sym, ap, ◌∙◌, subst}
use Rattle.std.specs.Prelude.{Result, Ok, Err, IfOk, IfNone}
use Rattle.std.specs.declared.alloc.AllocError.{AllocError}
use Rattle.kp_replies.specs.Read.{Method, ServerReply}
use Rattle.kp_replies.specs.Replies.{IsFrameReply, IsReplyOf}
use Rattle.kp_replies.specs.declared.told.ServerReply.{ServerReply as CodeReply}

never_empty : (ys : List ℕ) → [] ≡ ys ++ 10 ∷ [] → ⊥
never_empty [] e = cc e
never_empty (y ∷ ys) e = cc e

pub same_front : (xs ys : List ℕ) → xs ++ 10 ∷ [] ≡ ys ++ 10 ∷ [] → xs ≡ ys
same_front [] [] e = refl
same_front [] (y ∷ ys) e = let tail : [] ≡ ys ++ 10 ∷ [] = cc e in absurd (never_empty ys tail)
same_front (x ∷ xs) [] e = let tail : xs ++ 10 ∷ [] ≡ [] = cc e in absurd (never_empty xs (sym tail))
same_front (x ∷ xs) (y ∷ ys) e =
    let head : x ≡ y = cc e in
    let tail : xs ++ 10 ∷ [] ≡ ys ++ 10 ∷ [] = cc e in
    ap (λ z. z ∷ xs) head ∙ ap (λ l. y ∷ l) (same_front xs ys tail)

no_line : (method : Method) (line text : List ℕ) → line ≡ text ++ 10 ∷ [] → ((r : ServerReply) → ¬ IsFrameReply method text r) → (r : ServerReply) → ¬ IsReplyOf method line r
no_line method line text is none r (other, is_too, tells) = none r (subst (λ t. IsFrameReply method t r) (same_front other text (sym is_too ∙ is)) tells)

pub line_none : (method : Method) (line text : List ℕ) (r : Result (Option CodeReply) AllocError) → line ≡ text ++ 10 ∷ [] → IfOk r (λ o. IfNone o ((reply : ServerReply) → ¬ IsFrameReply method text reply))
    → IfOk r (λ o. IfNone o ((reply : ServerReply) → ¬ IsReplyOf method line reply))
line_none method line text (Ok None) is none = no_line method line text is none
line_none method line text (Ok (Some reply)) is none = tt
line_none method line text (Err w) is none = tt
