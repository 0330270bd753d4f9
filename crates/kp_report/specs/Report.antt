-- The report of proofs: one line for each claim, in order.
-- Source: this project.
use Rattle.std.specs.Prelude.{◌≡◌, ℕ, ℤ, Bool, true, not, ◌==◌, List, [], ◌∷◌, ◌++◌, codes}
use Rattle.std.specs.List.{list_all}
use Rattle.std.specs.Fmt.{decimal, signed_decimal}
use Rattle.kp_kore.specs.Syntax.{Text}
use Rattle.kp_kore.specs.Causes.{foreign}
use Rattle.kp_graph.specs.Tree.{HeldBy, reply, rounds, nodes}
use Rattle.kp_results.specs.Results.{Ending, vacuous, depth_bound, stuck, branching, cut_point, terminal, aborted, ExecutedParts}
use Rattle.kp_replies.specs.Read.{execute, executed, UnfinishedParts, unfinished, failed, ServerReply}
use Rattle.kp_replies.specs.Replies.{IsReplyOf}
use Rattle.kp_client.specs.Rounds.{ProofOutcome, passed, failed_at, pending_at, refused_with}

-- why the run of a node's steps is no further: a foreign rule aborts it, or it is at its bound
abbrev pub run_why : Ending → Text
run_why (aborted (foreign id)) = codes "foreign " ++ id
run_why depth_bound = codes "bound"
run_why stuck = codes "undecided"
run_why vacuous = codes "undecided"
run_why branching = codes "undecided"
run_why (cut_point id) = codes "undecided"
run_why (terminal id) = codes "undecided"

-- by the run that a reply tells; a run that is aborted by what isn't decided, an error, and what is no reply, leave undecided
pub data IsReplyWhy (line : List ℕ) : Text → Type 0 where
  by_run : (x : ExecutedParts) → IsReplyOf execute line (executed x) → IsReplyWhy line (run_why x.ending)
  by_unfinished : (x : UnfinishedParts) → IsReplyOf execute line (unfinished x) → IsReplyWhy line (codes "undecided")
  by_error : (code : ℤ) → IsReplyOf execute line (failed code) → IsReplyWhy line (codes "undecided")
  by_nothing : ((r : ServerReply) → ¬ IsReplyOf execute line r) → IsReplyWhy line (codes "undecided")

abbrev pub IsWhy : HeldBy → Text → Type 0
IsWhy (reply line) why = IsReplyWhy line why
IsWhy rounds why = why ≡ codes "rounds"
IsWhy nodes why = why ≡ codes "nodes"

-- `passed L`, `failed L node N`, `pending L node N WHY`, `refused L code C`, and a line feed
abbrev pub IsLine : Text → ProofOutcome → List ℕ → Type 0
IsLine label passed line = line ≡ codes "passed " ++ label ++ codes "\n"
IsLine label (failed_at n) line = line ≡ codes "failed " ++ label ++ codes " node " ++ decimal n ++ codes "\n"
IsLine label (pending_at n by) line = (why : Text) × IsWhy by why × (line ≡ codes "pending " ++ label ++ codes " node " ++ decimal n ++ codes " " ++ why ++ codes "\n")
IsLine label (refused_with code) line = line ≡ codes "refused " ++ label ++ codes " code " ++ signed_decimal code ++ codes "\n"

-- a claim's label, and how its proof ended
pub record ReportLine : Type 0 where
  pub label : Text
  pub outcome : ProofOutcome

-- the lines behind one another
pub data IsReport : List ReportLine → List ℕ → Type 0 where
  no_lines : IsReport [] []
  one_line : (l : ReportLine) (ls : List ReportLine) (line more : List ℕ) → IsLine l.label l.outcome line → IsReport ls more → IsReport (l ∷ ls) (line ++ more)

-- ---- the lines of bytes

-- no line feed stands in the text
abbrev pub is_one_line : List ℕ → Bool
is_one_line = list_all (λ c. not (c == 10))

-- the bytes have this line: it stands before the first line feed, or it is one of the lines behind that
pub data HasLine (line : List ℕ) : List ℕ → Type 0 where
  first_line : (after : List ℕ) → is_one_line line ≡ true → HasLine line (line ++ 10 ∷ after)
  later_line : (before after : List ℕ) → is_one_line before ≡ true → HasLine line after → HasLine line (before ++ 10 ∷ after)
