-- What is told between an answer and the line of its reply; for private clauses.
-- Source: this project.
use Rattle.std.specs.Prelude.{◌≡◌, ℕ, Option, Vec}
use Rattle.std.specs.Option.{option_map}
use Rattle.std.specs.declared.alloc.Global.{Global}
use Rattle.serde_json.specs.Data.{Data}
use Rattle.kp_rpc.specs.Reply.{reply_bytes}

-- the line is that of the reply; there is none of none
abbrev pub IsLineOf : Option (Vec ℕ Global) → Option Data → Type 0
IsLineOf line reply = option_map (λ (b : Vec ℕ Global). b.items) line ≡ option_map reply_bytes reply
