-- A value of a sort has each sort above.
use Rattle.kp_kore.specs.Syntax.{KoreSort}
use Rattle.kp_kore.specs.Signature.{KoreSignature, IsBelow, Head, IsHeadOf, integers, booleans, tokens, constructor_of}
use Rattle.kp_signature.proofs.Below.{onwards}
use Rattle.kp_kore.specs.Value.{Value, whole, truth, token, constructed, HasSort}

head_above : (g : KoreSignature) (a b : KoreSort) (h : Head) → IsBelow g.subsorts a b → IsHeadOf g a h → IsHeadOf g b h
head_above g a b h up k = (k.0, k.1, onwards g.subsorts k.0 a b k.2 up)

pub has_sort_above : (g : KoreSignature) (a b : KoreSort) (u : Value) → IsBelow g.subsorts a b → HasSort g a u → HasSort g b u
has_sort_above g a b (whole n) up k = head_above g a b integers up k
has_sort_above g a b (truth n) up k = head_above g a b booleans up k
has_sort_above g a b (token s x) up k = head_above g a b (tokens s) up k
has_sort_above g a b (constructed c us) up k = (head_above g a b (constructor_of c) up k.0, k.1, k.2, k.3)
