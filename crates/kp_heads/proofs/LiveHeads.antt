-- For callers: a live head of a sort is the head of a value of that sort, and each value of a sort has such a head.
use Rattle.std.proofs.Common.{◌≡◌, refl, sym, subst}
use Rattle.kp_kore.specs.Syntax.{KoreSort}
use Rattle.kp_kore.specs.Signature.{KoreSignature, Head, IsHeadOf}
use Rattle.kp_kore.specs.Value.{Value, whole, truth, token, constructed, HasSort, head_of}
use Rattle.kp_heads.specs.Heads.{IsLive}

head_among : (g : KoreSignature) (s : KoreSort) (u : Value) → HasSort g s u → IsHeadOf g s (head_of u)
head_among g s (whole n) h = h
head_among g s (truth b) h = h
head_among g s (token t x) h = h
head_among g s (constructed c us) h = h.0

sort_by_head : (g : KoreSignature) (s t : KoreSort) (u : Value) → HasSort g s u → IsHeadOf g t (head_of u) → HasSort g t u
sort_by_head g s t (whole n) h k = k
sort_by_head g s t (truth b) h k = k
sort_by_head g s t (token r x) h k = k
sort_by_head g s t (constructed c us) h k = (k, h.1, h.2, h.3)

pub live_head_has : (g : KoreSignature) (s : KoreSort) (h : Head) → IsHeadOf g s h → IsLive g h → (u : Value) × HasSort g s u × (head_of u ≡ h)
live_head_has g s h is live = (live.0, sort_by_head g live.1.0 s live.0 live.1.1 (subst (IsHeadOf g s) (sym live.2) is), live.2)

pub head_is_live : (g : KoreSignature) (s : KoreSort) (u : Value) → HasSort g s u → IsHeadOf g s (head_of u) × IsLive g (head_of u)
head_is_live g s u h = (head_among g s u h, (u, (s, h), refl))
