-- Claims at places, one by one.
use Rattle.std.proofs.Common.{◌≡◌, refl, ap, ◌∙◌, ℕ, ◌+◌, ◌<◌, List, ◌∷◌, length, get_or, drop, Some}
use Rattle.std.specs.Prelude.{slice_get}
use Rattle.std.proofs.lemmas.List.{drop_more}
use Rattle.kp_claim_sentences.specs.Items.{sorted_view}
use Rattle.kp_claim_files.specs.Modules.{claims_at}
use Rattle.kp_claim_sentences.specs.declared.item.FiledClaim.{FiledClaim}

one_claim : (items : List FiledClaim) (p : ℕ) (ps : List ℕ) (item : FiledClaim) → slice_get items p ≡ Some item → claims_at items (p ∷ ps) ≡ sorted_view item ∷ claims_at items ps
one_claim items p ps item e = rw e refl

pub claims_on : (items : List FiledClaim) (places : List ℕ) (i : ℕ) (item : FiledClaim) → i < length places → slice_get items (get_or places i 0) ≡ Some item →
    claims_at items (drop i places) ≡ sorted_view item ∷ claims_at items (drop (i + 1) places)
claims_on items places i item h e = ap (claims_at items) (drop_more places i 0 h) ∙ one_claim items (get_or places i 0) (drop (i + 1) places) item e
