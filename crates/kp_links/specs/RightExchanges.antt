-- When a reply over a link is right for its question, and when a link serves an opening.
-- Source: the K Haskell backend's JSON-RPC documentation (execute, implies, add-module); JSON-RPC 2.0.
use Rattle.std.specs.Prelude.{◌≡◌, ◌<◌, ℕ, suc, List, [], ◌∷◌, ◌++◌, length, Option, Some, None}
use Rattle.serde_json.specs.Data.{Data}
use Rattle.serde_json.specs.Written.{compact_text}
use Rattle.kp_kore.specs.Syntax.{Text, KorePattern}
use Rattle.kp_kore.specs.Theory.{Theory, NumberedAxiom, IsTheoryOfAxioms}
use Rattle.kp_kore.specs.Onward.{Leads, Passes}
use Rattle.kp_kore.specs.Executions.{Executed, IsRightExecuted, listed_in}
use Rattle.kp_kore.specs.Implied.{Implied, IsRightImplied}
use Rattle.kp_book.specs.Books.{Opening, Registration, Seen, Grows, meaning_in}
use Rattle.kp_results.specs.Results.{ExecutedParts, IsPatternOf, IsResultOf}
use Rattle.kp_rpc.specs.Request.{RequestId, ExecuteRequest, ImpliesRequest, bound_of}
use Rattle.kp_rpc.specs.Questions.{Question, to_execute, to_imply, to_add, question_tree, IsAskable}
use Rattle.kp_replies.specs.Read.{UnfinishedParts, execute, executed, unfinished, implies, implied, add_module, added}
use Rattle.kp_replies.specs.Replies.{IsReplyOf}
use Rattle.kp_replies.specs.RightReplies.{asked_options}
use Rattle.kp_registry.specs.Legal.{IsLegal}
use Rattle.kp_links.specs.Links.{Exchange, LinkState}

-- the bytes are the text of the question
abbrev pub IsTextOf : Question → List ℕ → Type 0
IsTextOf q bytes = (d : Data) × (question_tree q ≡ Some d) × (bytes ≡ compact_text d)

-- ---- the theory that is asked

-- the module that a question names, main where it names none
abbrev pub module_asked : Opening → Option Text → Text
module_asked o None = o.main
module_asked o (Some name) = name

-- the theory of the module that is asked, at this book
pub record IsAskedAt (o : Opening) (book : List Registration) (asked : Option Text) (t : Theory) : Type 0 where
  pub axioms : List NumberedAxiom
  pub bound : meaning_in o book (module_asked o asked) ≡ Some axioms
  pub means : IsTheoryOfAxioms o.signature axioms t

-- the module that is asked means some theory at a book between these two, and this holds of it
abbrev pub AtAskedBook : Opening → Seen → Seen → Option Text → (Theory → Type 0) → Type 0
AtAskedBook o before after asked Right =
    (book : List Registration) × Grows before.book book × Grows book after.book × (t : Theory) × IsAskedAt o book asked t × Right t

-- ---- right results

-- the result of execute is right for the theory and the request, at whatever sorts the conjunctions of its states are
-- written
abbrev pub IsRightRun : Theory → ExecuteRequest → ExecutedParts → Type 0
IsRightRun t q x = (meant : Executed) → IsResultOf x meant → IsRightExecuted t (asked_options q.options) q.state meant

-- the run came to this state below its bound, and passed no final configuration and no turn of a rule to stop at
abbrev pub IsRightFront : Theory → ExecuteRequest → UnfinishedParts → Type 0
IsRightFront t q u = (u.depth < bound_of q.options) × ((s : KorePattern) → IsPatternOf u.state s →
    Leads t q.state s u.depth × Passes t (listed_in (asked_options q.options)) q.state u.depth)

-- Where the frame is a question's text and the reply tells a result, it is right: that of execute, in the theory of the
-- module that was asked; that of implies; and of add-module the id of the module that was entered, which has this text.
pub record IsRightExchange (o : Opening) (before : Seen) (e : Exchange) (r : Option Registration) (after : Seen) : Type 0 where
  pub run : (q : ExecuteRequest) (x : ExecutedParts) → IsAskable (to_execute q) → IsTextOf (to_execute q) e.frame → IsReplyOf execute e.reply (executed x) →
      AtAskedBook o before after q.options.module_name (λ t. IsRightRun t q x)
  pub front : (q : ExecuteRequest) (u : UnfinishedParts) → IsAskable (to_execute q) → IsTextOf (to_execute q) e.frame → IsReplyOf execute e.reply (unfinished u) →
      AtAskedBook o before after q.options.module_name (λ t. IsRightFront t q u)
  pub implication : (q : ImpliesRequest) (x : Implied) → IsAskable (to_imply q) → IsTextOf (to_imply q) e.frame → IsReplyOf implies e.reply (implied x) →
      IsRightImplied o.signature q.antecedent q.consequent x
  pub addition : (i : RequestId) (text id : Text) → IsAskable (to_add i text) → IsTextOf (to_add i text) e.frame → IsReplyOf add_module e.reply (added id) →
      (n : Registration) × (r ≡ Some n) × (n.text ≡ text) × (n.id ≡ id)

-- ---- links that serve

-- The book only grows. A module that was entered is the last of the book that is seen then, and one of the own; where
-- none was, there are no more own ones.
abbrev pub Enters : Seen → Option Registration → Seen → Type 0
Enters before None after = Grows before.book after.book × (after.own ≡ before.own)
Enters before (Some n) after =
    (others : List Registration) × Grows before.book others × (after.book ≡ others ++ n ∷ []) × (after.own ≡ before.own ++ suc (length others) ∷ [])

-- the exchange is right, the book is still legal, and what is seen is told
pub record IsServed (o : Opening) (before : Seen) (e : Exchange) (r : Option Registration) (after : Seen) : Type 0 where
  pub right : IsRightExchange o before e r after
  pub legal : IsLegal o after.book
  pub enters : Enters before r after

-- the link serves the opening: from a legal book on, each exchange that it meets is served
abbrev pub Serves : LinkState → Opening → Type 0
Serves a o = (before after : Seen) (e : Exchange) (r : Option Registration) → a.meets o before e r after → IsLegal o before.book → IsServed o before e r after
