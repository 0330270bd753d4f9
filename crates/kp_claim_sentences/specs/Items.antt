-- What the code's claims stand for.
use Rattle.std.specs.Prelude.{List, map, string_bytes}
use Rattle.kp_kore.specs.View.{view, sort_view, names_view}
use Rattle.kp_kore.specs.ClaimView.{claim_view}
use Rattle.kp_kore.specs.ClaimModules.{SortedClaim}
use Rattle.kp_claim_sentences.specs.Claims.{StatedClaim}
use Rattle.kp_claim_sentences.specs.declared.item.FiledClaim.{FiledClaim}

abbrev pub sorted_view : FiledClaim → SortedClaim
sorted_view i = record { sort = sort_view i.sort; claim = claim_view i.claim }

abbrev pub item_view : FiledClaim → StatedClaim
item_view i = record { label = string_bytes i.label; pattern = view i.pattern; claim = sorted_view i; circular = i.circular; depends = names_view i.depends.items }

abbrev pub items_view : List FiledClaim → List StatedClaim
items_view = map item_view
