-- The claim at a place of a claims file's list.
use Rattle.std.proofs.Common.{◌≡◌, ◌∙◌, ap, ℕ, zero, suc, ◌<◌, Some, List, [], ◌∷◌, length, slice_get, get_or, arith}
use Rattle.kp_kore.specs.ClaimView.{claim_view}
use Rattle.kp_claim_sentences.specs.Claims.{StatedClaim}
use Rattle.kp_claim_sentences.specs.Items.{item_view, items_view}
use Rattle.kp_claim_sentences.specs.declared.item.FiledClaim.{FiledClaim}

pub claim_at : (items : List FiledClaim) (n : ℕ) (x : FiledClaim) (i : StatedClaim) → n < length items → x ≡ get_or items n x → slice_get (items_view items) n ≡ Some i → claim_view x.claim ≡ i.claim.claim
claim_at [] n x i l same at = absurd (omega arith)
claim_at (y ∷ ys) zero x i l same at =
    let is : item_view y ≡ i = cc in
    ap (λ (z : FiledClaim). claim_view z.claim) same ∙ ap (λ (z : StatedClaim). z.claim.claim) is
claim_at (y ∷ ys) (suc k) x i l same at = claim_at ys k x i (omega arith) same at
