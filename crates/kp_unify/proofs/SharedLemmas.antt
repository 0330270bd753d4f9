-- The heads of a sort, gone through for one that another sort has and some value.
use Rattle.std.proofs.Common.{◌≡◌, refl, sym, subst, ◌∙◌, true, false, List, [], ◌∷◌}
use Rattle.kp_kore.specs.Syntax.{KoreSort}
use Rattle.kp_kore.specs.Signature.{KoreSignature, Head, is_head, heads_of, IsHeadOf}
use Rattle.kp_kore.specs.Value.{HasSort, head_of}
use Rattle.kp_signature.proofs.HeadLemmas.{is_head-Decides}
use Rattle.kp_heads.specs.Heads.{IsLive}
use Rattle.kp_sort_heads.specs.Live.{Passed}
use Rattle.kp_sort_heads.proofs.SearchLemmas.{HasPassed, none_passed, one_passed, next_is_head, all_passed}
use Rattle.kp_symbolic.proofs.HeadLemmas.{head_from_sort}
use Rattle.kp_symbolic.proofs.HeadQuestions.{sort_from_head}
use Rattle.kp_unify.specs.Heads.{ShareValues}

true_false : true ≡ false → ⊥
true_false e = cc

-- a head that the second sort has, and some value
abbrev IsShared : KoreSignature → KoreSort → Head → Type 0
IsShared g b k = IsHeadOf g b k × IsLive g k

-- none of those before is shared
abbrev pub IsSearched : KoreSignature → KoreSort → KoreSort → List Head → Type 0
IsSearched g a b left = HasPassed g a (IsShared g b) left

live_of : (g : KoreSignature) (b : KoreSort) (k : Head) → IsShared g b k → IsLive g k
live_of g b k m = m.1

pub searched_none : (g : KoreSignature) (a b : KoreSort) (left : List Head) → left ≡ heads_of g a → IsSearched g a b left
searched_none g a b left e = none_passed g a (IsShared g b) left e

pub searched_more : (g : KoreSignature) (a b : KoreSort) (before after : List Head) (h : Head) → IsSearched g a b before → Passed g before (h ∷ after) → is_head g b h ≡ false → IsSearched g a b after
searched_more g a b before after h s p e = one_passed g a (IsShared g b) before after h (live_of g b) s p (λ m. true_false (sym ((is_head-Decides g b h).1 m.0) ∙ e))

pub found : (g : KoreSignature) (a b : KoreSort) (before after : List Head) (h : Head) → IsSearched g a b before → Passed g before (h ∷ after) → IsLive g h → is_head g b h ≡ true → ShareValues g a b
found g a b before after h s p live e =
    let own = next_is_head g a (IsShared g b) before after h s p in
    let at : (t : KoreSort) → is_head g t h ≡ true → HasSort g t live.0 = λ t f. sort_from_head g live.1.0 t live.0 live.1.1 (subst (λ k. IsHeadOf g t k) (sym live.2) ((is_head-Decides g t h).0 f)) in
    (live.0, at a own, at b e)

pub found_none : (g : KoreSignature) (a b : KoreSort) (before : List Head) → IsSearched g a b before → Passed g before [] → ShareValues g a b → ⊥
found_none g a b before s p v = all_passed g a (IsShared g b) before (head_of v.0) (live_of g b) s p (head_from_sort g a v.0 v.1) (head_from_sort g b v.0 v.2, (v.0, (a, v.1), refl))
