-- From what the service tells of an answer to what a link keeps and tells.
use Rattle.std.proofs.Common.{◌≡◌, refl, ℕ, List, [], ◌∷◌, ◌++◌, Option, Some, None}
use Rattle.std.specs.Prelude.{Result, Ok, Err, IfOk, Vec}
use Rattle.std.specs.Option.{option_map}
use Rattle.std.specs.declared.alloc.AllocError.{AllocError}
use Rattle.std.specs.declared.alloc.Global.{Global}
use Rattle.kp_book.specs.Books.{Opening}
use Rattle.kp_modules.specs.Openings.{IsTableOf}
use Rattle.kp_history.specs.Passes.{positions}
use Rattle.kp_additions.specs.Served.{HasSeenAt, Pass}
use Rattle.kp_conn.specs.Conversations.{ForEachSeen}
use Rattle.kp_service.specs.Answers.{IsAnswer}
use Rattle.kp_service.specs.declared.service.Service.{Service}
use Rattle.kp_program.specs.LocalTold.{IsAnsweredBy, IsPassOver, table_of}
use Rattle.kp_program.specs.Proofs.{IsRepliedBy}

-- an answer of the service: a text, or none
abbrev pub Text : Type 0
Text = Option (Vec ℕ Global)

abbrev pub Told : Service → Pass → Pass → List ℕ → Result Text AllocError → Type 0
Told service before after frame r =
    IfOk r (λ reply. ForEachSeen (HasSeenAt service.registry before) (HasSeenAt service.registry after) (λ o seen. IsAnswer o seen frame (option_map (λ line. line.items) reply)))

-- a frame is answered at the book that was seen
pub answered_so : (service : Service) (before after : Pass) (frame : List ℕ) (r : Result Text AllocError) → IsPassOver service before → Told service before after frame r →
    (o : Opening) → IsTableOf o (table_of service) → IfOk r (λ reply. IsAnsweredBy o frame (option_map (λ text. text.items) reply))
answered_so service before after frame (Ok reply) p told o is =
    let b = p.is_pass.legal o is in
    let s = told o (record { book = b.0; own = positions before }) (record { table = is; seen = b.1; legal = b.2; own = refl }) in
    record { before = record { book = b.0; own = positions before }; legal = b.2; after = s.after; answer = s.holds }
answered_so service before after frame (Err e) p told o is = tt

-- ---- lines

pub replied_with : (o : Opening) (frame text : List ℕ) (r : Result (Vec ℕ Global) AllocError) → IsAnsweredBy o frame (Some text) → IfOk r (λ line. line.items ≡ text ++ 10 ∷ []) →
    IfOk r (λ line. IsRepliedBy o (record { frame = frame; reply = line.items }))
replied_with o frame text (Ok line) a is = record { before = a.before; legal = a.legal; reply = Some text; after = a.after; answer = a.answer; line = is }
replied_with o frame text (Err e) a is = tt

pub replied_not : (o : Opening) (frame line : List ℕ) → line ≡ [] → IsAnsweredBy o frame None → IsRepliedBy o (record { frame = frame; reply = line })
replied_not o frame line none a = record { before = a.before; legal = a.legal; reply = None; after = a.after; answer = a.answer; line = none }
