-- What a question comes to, from its text and its reply.
use Rattle.std.proofs.Common.{◌≡◌, refl, ◌<◌, ℕ, pos, negsuc, Option, Some, None, List, [], ◌∷◌, option_map, Vec, Global, arith}
use Rattle.serde_json.specs.Data.{Data}
use Rattle.serde_json.specs.Written.{compact_text}
use Rattle.kp_rpc.specs.Questions.{Question, question_tree}
use Rattle.kp_replies.specs.Read.{Method, ServerReply}
use Rattle.kp_replies.specs.Replies.{IsReplyOf}
use Rattle.kp_replies.specs.View.{reply_view}
use Rattle.kp_replies.specs.declared.told.ServerReply.{ServerReply as RustReply}
use Rattle.kp_client.specs.Links.{Exchange, LinkState, Makes, IsTextOf}
use Rattle.kp_client.specs.Answers.{IsHeard}
use Rattle.kp_client.specs.Rounds.{undecided_code}
use Rattle.kp_client.specs.declared.hear.Heard.{Heard}
use Rattle.kp_client.specs.declared.hear.Heard.TheVariants as heard
use Rattle.kp_client.proofs.Made.{makes_none}

no_tree : (o : Option Data) → None ≡ option_map compact_text o → o ≡ None
no_tree None e = refl
no_tree (Some d) e = absurd (cc)

text_of_tree : (o : Option Data) (bytes : List ℕ) → Some bytes ≡ option_map compact_text o → (d : Data) × (o ≡ Some d) × (bytes ≡ compact_text d)
text_of_tree None bytes e = absurd (cc)
text_of_tree (Some d) bytes e = (d, refl, cc)

pub text_is : (q : Question) (bytes : List ℕ) → Some bytes ≡ option_map compact_text (question_tree q) → IsTextOf q bytes
text_is q bytes e = text_of_tree (question_tree q) bytes e

-- the exchanges that a question comes to, and what it comes to by them
abbrev pub Hears : LinkState → LinkState → Method → Question → Heard → Type 0
Hears a b m q h = (es : List Exchange) × Makes a b es × IsHeard m q es h

pub unasked : (a : LinkState) (m : Method) (q : Question) → None ≡ option_map compact_text (question_tree q) → Hears a a m q heard.Unasked
unasked a m q e = ([], makes_none a, (no_tree (question_tree q) e, refl))

pub told : (a b : LinkState) (m : Method) (q : Question) (frame : List ℕ) (line : Vec ℕ Global) (r : RustReply) → Some frame ≡ option_map compact_text (question_tree q) → IsReplyOf m line.items (reply_view r) → Makes a b (record { frame = frame; reply = line.items } ∷ []) → Hears a b m q (heard.Told r line)
told a b m q frame line r e tells makes = (record { frame = frame; reply = line.items } ∷ [], makes, (frame, text_is q frame e, tells, refl))

pub nothing : (a b : LinkState) (m : Method) (q : Question) (frame line : List ℕ) → Some frame ≡ option_map compact_text (question_tree q) → ((r : ServerReply) → ¬ IsReplyOf m line r) → Makes a b (record { frame = frame; reply = line } ∷ []) → Hears a b m q heard.Nothing
nothing a b m q frame line e none makes = (record { frame = frame; reply = line } ∷ [], makes, (record { frame = frame; reply = line }, text_is q frame e, none, refl))

-- ---- codes

pub unread_is_no_five : negsuc 32699 ≡ undecided_code → ⊥
unread_is_no_five e = absurd (cc)

five_of : (a b : ℕ) → pos a ≡ pos b → a ≡ b
five_of a b e = cc

none_less : (a b : ℕ) → a ≡ b → a < b → ⊥
none_less a b e l = omega arith

pub vain_is_no_five : pos 1 ≡ undecided_code → ⊥
vain_is_no_five e = none_less 1 5 (five_of 1 5 e) (omega arith)
