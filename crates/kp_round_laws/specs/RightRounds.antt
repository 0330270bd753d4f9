-- Rounds and proofs whose exchanges are right.
-- Source: pyk's APRProver; All-Path Reachability Logic.
use Rattle.std.specs.Prelude.{◌≡◌, ◌<◌, ◌^◌, true, List, Option, Some}
use Rattle.kp_kore.specs.Syntax.{Text}
use Rattle.kp_kore.specs.Theory.{Theory}
use Rattle.kp_book.specs.Books.{Opening, Registration, Seen, Grows}
use Rattle.kp_registry.specs.Legal.{IsLegal}
use Rattle.kp_graph.specs.Tree.{ProofNode}
use Rattle.kp_links.specs.Links.{Exchange, Chain}
use Rattle.kp_links.specs.RightExchanges.{IsRightExchange, IsServed}
use Rattle.kp_rounds.specs.Jobs.{ProofJob, AddedModules}
use Rattle.kp_rounds.specs.Rounds.{RoundEnd, goes_on, ends, Proves, ProofOutcome}
use Rattle.kp_rounds.specs.Sound.{IsMainTheory, IsSoundClaim, IsSoundJob, MeanModules}

-- the exchange is right, and was made at a book that begins with this one
pub record IsRightFrom (o : Opening) (book : List Registration) (e : Exchange) : Type 0 where
  pub before : Seen
  pub entered : Option Registration
  pub after : Seen
  pub grown : Grows book before.book
  pub right : IsRightExchange o before e entered after

-- the circularity's module was added where it is wanted
abbrev pub HasCircularity : ProofJob → AddedModules → Type 0
HasCircularity job modules = job.circular ≡ true → (id : Text) × (modules.circularity ≡ Some id)

-- what stands while the rounds are played: the added modules mean their claims as rules, from this book on
pub record Stands (o : Opening) (t : Theory) (job : ProofJob) (modules : AddedModules) (book : List Registration) : Type 0 where
  pub main : IsMainTheory o t
  pub claim : IsSoundClaim job.claim
  pub means : MeanModules o book t job modules
  pub set : HasCircularity job modules
  pub fits : job.depth < 2 ^ 64

-- the tree that a round leaves
abbrev pub end_tree : RoundEnd → List ProofNode
end_tree (goes_on tree) = tree
end_tree (ends tree outcome) = tree

-- a whole proof of a sound job, from a legal book on, whose exchanges are served
pub record IsServedProof (o : Opening) (t : Theory) (job : ProofJob) (tree : List ProofNode) (outcome : ProofOutcome) : Type 0 where
  pub main : IsMainTheory o t
  pub sound : IsSoundJob o job
  pub before : Seen
  pub after : Seen
  pub legal : IsLegal o before.book
  pub exchanges : List Exchange
  pub entered : List Exchange
  pub chain : Chain (IsServed o) before exchanges entered after
  pub proves : Proves job exchanges tree outcome
