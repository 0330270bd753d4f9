-- Which reply is right at a book: nothing binds the module that is asked, or the reply is right over what is served of it.
-- Source: the K Haskell backend's JSON-RPC documentation (the module of a request).
use Rattle.std.specs.Prelude.{List, Option}
use Rattle.serde_json.specs.Data.{Data}
use Rattle.kp_kore.specs.Syntax.{Text}
use Rattle.kp_rpc.specs.Request.{RequestId}
use Rattle.kp_rpc.specs.Reply.{no_module, error_reply}
use Rattle.kp_book.specs.Books.{Opening, Registration}
use Rattle.kp_methods.specs.ServedTheory.{ServedTheory}
use Rattle.kp_service.specs.Meant.{IsUnbound, IsServedAt}

-- nothing binds the module that is asked; or the reply is right over what is served of it
pub data IsReplyIn (o : Opening) (book : List Registration) (asked : Option Text) (id : RequestId) (RightOver : ServedTheory → Data → Type 0) : Data → Type 0 where
  no_such_module : (name : Text) → IsUnbound o book asked name → IsReplyIn o book asked id RightOver (error_reply id (no_module name))
  in_module : (s : ServedTheory) (reply : Data) → IsServedAt o book asked s → RightOver s reply → IsReplyIn o book asked id RightOver reply
