-- What a link in the same process tells, and what its service and its pass are.
-- Source: this project.
use Rattle.std.specs.Prelude.{ℕ, List, Option, None}
use Rattle.kp_kore.specs.Theory.{Theory}
use Rattle.kp_book.specs.Books.{Opening, Seen}
use Rattle.kp_modules.specs.Openings.{IsTableOf}
use Rattle.kp_modules.specs.declared.table.ModuleTable.{ModuleTable}
use Rattle.kp_registry.specs.Legal.{IsLegal}
use Rattle.kp_registry.specs.Registries.{IsPassOf, table_of as registry_table}
use Rattle.kp_additions.specs.Served.{Pass}
use Rattle.kp_client.specs.Links.{Exchange, LinkState}
use Rattle.kp_service.specs.Answers.{IsAnswer}
use Rattle.kp_service.specs.Ready.{IsReadyFor}
use Rattle.kp_service.specs.declared.service.Service.{Service}
use Rattle.kp_program.specs.Proofs.{IsMainTheory, IsRepliedBy}

-- the table is that of the opening, whose main module has this theory
pub record IsTheoryOver (table : ModuleTable) (o : Opening) (t : Theory) : Type 0 where
  pub opens : IsTableOf o table
  pub main : IsMainTheory o t

-- the table that a service answers over
abbrev pub table_of : Service → ModuleTable
table_of service = registry_table service.registry

-- what was looked up is that of the service's signature
abbrev pub IsReadyService : Service → Type 0
IsReadyService service = IsReadyFor service.registry service.prepared

-- the pass is one of the service
pub record IsPassOver (service : Service) (pass : Pass) : Type 0 where
  pub is_pass : IsPassOf service.registry pass
  pub ready : IsReadyService service

-- the service over this opening answers a frame with this text, or not at all, at some book that was seen
pub record IsAnsweredBy (o : Opening) (frame : List ℕ) (reply : Option (List ℕ)) : Type 0 where
  pub before : Seen
  pub legal : IsLegal o before.book
  pub after : Seen
  pub answer : IsAnswer o before frame reply after

-- each exchange is that of the service over each opening that the table is of; neither the exchanges nor the replies to come are told, and none fails
abbrev pub state_over : ModuleTable → LinkState
state_over table = record { meets = λ e. (o : Opening) → IsTableOf o table → IsRepliedBy o e; exchanges = None; replies = None; faults = 0 }

-- what each exchange of the link meets is that the service over this opening replies so; its main module has this theory
pub record IsLinkOver (table : ModuleTable) (o : Opening) (t : Theory) : Type 0 where
  pub replied : (e : Exchange) → (state_over table).meets e → IsRepliedBy o e
  pub main : IsMainTheory o t
