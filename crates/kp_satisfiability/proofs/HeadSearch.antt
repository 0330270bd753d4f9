-- The heads of a sort, gone through for one that may be a variable's.
use Rattle.std.proofs.Common.{◌≡◌, sym, ◌∙◌, true, false, List, [], ◌∷◌}
use Rattle.kp_kore.specs.Parts.{SortedName}
use Rattle.kp_kore.specs.Signature.{KoreSignature, Head, heads_of}
use Rattle.kp_signature.proofs.HeadLemmas.{is_head-Decides}
use Rattle.kp_heads.specs.Heads.{IsLive}
use Rattle.kp_sort_heads.specs.Live.{Passed}
use Rattle.kp_sort_heads.proofs.SearchLemmas.{HasPassed, none_passed, one_passed, next_is_head, all_passed}
use Rattle.kp_symbolic.specs.Plain.{ReadLiteral}
use Rattle.kp_satisfiability.specs.Heads.{agrees_with_all, MayBe, HasHead}

pub true_false : true ≡ false → ⊥
true_false e = cc

-- none of those before may be the variable's
abbrev pub IsSearched : KoreSignature → SortedName → List (List ReadLiteral) → List Head → Type 0
IsSearched g x cs left = HasPassed g x.sort (MayBe g x cs) left

live_of : (g : KoreSignature) (x : SortedName) (cs : List (List ReadLiteral)) (k : Head) → MayBe g x cs k → IsLive g k
live_of g x cs k m = m.live

pub searched_none : (g : KoreSignature) (x : SortedName) (cs : List (List ReadLiteral)) (left : List Head) → left ≡ heads_of g x.sort → IsSearched g x cs left
searched_none g x cs left e = none_passed g x.sort (MayBe g x cs) left e

pub searched_more : (g : KoreSignature) (x : SortedName) (cs : List (List ReadLiteral)) (before after : List Head) (h : Head) → IsSearched g x cs before → Passed g before (h ∷ after) → agrees_with_all g h x.name cs ≡ false → IsSearched g x cs after
searched_more g x cs before after h s p e = one_passed g x.sort (MayBe g x cs) before after h (live_of g x cs) s p (λ m. true_false (sym m.agrees ∙ e))

pub found : (g : KoreSignature) (x : SortedName) (cs : List (List ReadLiteral)) (before after : List Head) (h : Head) → IsSearched g x cs before → Passed g before (h ∷ after) → IsLive g h → agrees_with_all g h x.name cs ≡ true → HasHead g cs x
found g x cs before after h s p live e = (h, record { head = next_is_head g x.sort (MayBe g x cs) before after h s p; live = live; agrees = e })

pub found_none : (g : KoreSignature) (x : SortedName) (cs : List (List ReadLiteral)) (before : List Head) → IsSearched g x cs before → Passed g before [] → HasHead g cs x → ⊥
found_none g x cs before s p h = all_passed g x.sort (MayBe g x cs) before h.0 (live_of g x cs) s p ((is_head-Decides g x.sort h.0).0 h.1.head) h.1
