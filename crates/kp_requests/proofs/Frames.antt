-- Bytes ask one thing: what the JSON value asks that they are the text of.
use Rattle.std.proofs.Common.{◌≡◌, ℕ, nat_eq, List, [], ◌∷◌, length, Bool, false, Option, Some, None, refl, sym, ap, ◌∙◌, subst}
use Rattle.std.specs.Prelude.{Result, Ok, Err, IfOk, IfSome, IfNone}
use Rattle.std.specs.declared.alloc.AllocError.{AllocError}
use Rattle.serde_json.specs.Data.{Data}
use Rattle.serde_json.specs.View.{view, items_view}
use Rattle.serde_json.specs.declared.value.Value.{Value}
use Rattle.kp_rpc.specs.Frame.{IsFrame}
use Rattle.kp_requests.specs.Requests.{Call, Frame, batch}
use Rattle.kp_requests.specs.Calls.{read_calls, read_batch, read_frame}
use Rattle.kp_requests.specs.Frames.{IsJson, Asks, no_json, json}
use Rattle.kp_requests.specs.View.{parsed_view}
use Rattle.kp_requests.specs.declared.frame.Parsed.{Parsed}

one_tree : (d e : Data) → Some d ≡ Some e → d ≡ e
one_tree d e same = cc same

pub asks_of : (bytes : List ℕ) (d : Data) (f : Frame) → IsJson bytes d → Asks bytes f → f ≡ read_frame d
asks_of bytes d _ is (no_json none) = absurd (none d is)
asks_of bytes d _ is (json e other) = ap read_frame (one_tree e d (sym other.reads ∙ is.reads))

pub frame_asks : (bytes : List ℕ) (d : Data) → IsFrame bytes d → Asks bytes (read_frame d)
frame_asks bytes d frame = json d (record { fits = frame.fits; utf8 = frame.utf8; reads = frame.reads })

pub one_frame : (bytes : List ℕ) (f g : Frame) → Asks bytes f → Asks bytes g → f ≡ g
one_frame bytes _ _ (no_json none) (no_json also) = refl
one_frame bytes _ _ (no_json none) (json d is) = absurd (none d is)
one_frame bytes _ g (json d is) other = sym (asks_of bytes d g is other)

-- ---- for the code's answers

pub all_ask : (bytes : List ℕ) (d : Data) (r : Result Parsed AllocError) → IsJson bytes d → IfOk r (λ p. parsed_view p ≡ read_frame d) → IfOk r (λ p. Asks bytes (parsed_view p))
all_ask bytes d (Ok p) is e = subst (Asks bytes) (sym e) (json d is)
all_ask bytes d (Err w) is e = tt

pub found_in : (bytes : List ℕ) (o : Option Value) (v : Value) → o ≡ Some v → IfSome o (λ w. IsJson bytes (view w)) → IsJson bytes (view v)
found_in bytes None v is h = absurd (cc is)
found_in bytes (Some w) v is h = let same : w ≡ v = cc is in subst (λ x. IsJson bytes (view x)) same h

pub none_in : (bytes : List ℕ) (o : Option Value) → o ≡ None → IfNone o ((d : Data) → ¬ IsJson bytes d) → (d : Data) → ¬ IsJson bytes d
none_in bytes None is h = h
none_in bytes (Some w) is h = absurd (cc is)

pub full_batch : (vs : List Value) (cs : List Call) (is_empty : Bool) → is_empty ≡ nat_eq (length vs) 0 → is_empty ≡ false → cs ≡ read_calls (items_view vs) → batch cs ≡ read_batch (items_view vs)
full_batch [] cs b is isnt e = absurd (cc (sym is ∙ isnt))
full_batch (v ∷ vs) cs b is isnt e = ap batch e
