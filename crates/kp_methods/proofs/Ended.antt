-- From what was read of a request, and the end of its run, to its reply.
use Rattle.std.proofs.Common.{◌≡◌, ℕ, true, List, [], ◌∷◌, ◌++◌, Option, Some, None, Vec, refl, sym, ap, subst, ◌∙◌}
use Rattle.std.specs.Option.{option_map}
use Rattle.std.specs.declared.alloc.Global.{Global}
use Rattle.serde_json.specs.Data.{Data}
use Rattle.kp_kore.specs.Syntax.{Text, KoreSort, KorePattern}
use Rattle.kp_kore.specs.Signature.{KoreSignature}
use Rattle.kp_ground.specs.View.{value_view}
use Rattle.kp_kore.specs.Value.{Value, HasSort, truth}
use Rattle.kp_kore.specs.Instance.{Valuation, instance}
use Rattle.kp_kore.specs.Executions.{Executed}
use Rattle.kp_kore.specs.Theory.{Theory}
use Rattle.kp_rpc.specs.Request.{RequestId}
use Rattle.kp_rpc.specs.Reply.{result_reply, reply_bytes}
use Rattle.kp_results.specs.Results.{IsReasonOf}
use Rattle.kp_run.specs.Runs.{IsRunOf, reason_of}
use Rattle.kp_compile.specs.Spelled.{IsSpellingOf}
use Rattle.kp_run.specs.declared.run.GroundRun.{GroundRun}
use Rattle.kp_run.specs.declared.run.GroundEnding.{GroundEnding}
use Rattle.kp_run.specs.declared.run.GroundEnding.TheVariants.{Stuck, DepthBound, ForeignRule}
use Rattle.kp_methods.specs.Normal.{TellsFirst}
use Rattle.kp_methods.specs.Ends.{ending_of}

pub tells_first : (t : Theory) (c : Value) (bound : ℕ) (end : GroundRun) → IsRunOf t c bound end → TellsFirst t (ending_of end.stop) (value_view end.state.value)
tells_first t c bound end run = by_stop end.stop refl
  where
    by_stop : (stop : GroundEnding) → end.stop ≡ stop → TellsFirst t (ending_of stop) (value_view end.state.value)
    by_stop Stuck is = tt
    by_stop DepthBound is = tt
    by_stop (ForeignRule id) is = (run.foreign id is).1

-- ---- results

some_valuation : Valuation
some_valuation x = truth true

-- the value of a ground state is the only one that it has under every valuation
pub same_value : (g : KoreSignature) (p : KorePattern) (c d : Value) → ((v : Valuation) → instance g v p ≡ c) → ((v : Valuation) → instance g v p ≡ d) → c ≡ d
same_value g p c d one two = sym (one some_valuation) ∙ two some_valuation

pub both_empty : (xs ys : List Text) → xs ≡ [] → ys ≡ [] → xs ++ ys ≡ []
both_empty [] [] a b = refl
both_empty [] (y ∷ ys) a b = absurd (cc b)
both_empty (x ∷ xs) ys a b = absurd (cc a)

-- the end of a run, with its state spelled so
abbrev pub ended : GroundRun → KorePattern → Executed
ended end p = record { depth = end.depth; reason = reason_of end.stop; state = p }

pub reason_meant : (stop : GroundEnding) → IsReasonOf (ending_of stop) [] (reason_of stop)
reason_meant Stuck = (refl, refl)
reason_meant DepthBound = (refl, refl)
reason_meant (ForeignRule id) = (refl, refl)

-- ---- states

pub spelled_at : (g h : KoreSignature) → g ≡ h → (s : KoreSort) (u : Value) (p : KorePattern) → (HasSort g s u → IsSpellingOf g u p) → HasSort h s u → IsSpellingOf h u p
spelled_at g h same s u p f = subst (λ (k : KoreSignature). HasSort k s u → IsSpellingOf k u p) same f

-- ---- lines

pub has_tree_of : (o : Option (Vec ℕ Global)) (line : Vec ℕ Global) (id : RequestId) (r : Option Data) → o ≡ Some line →
    option_map (λ (b : Vec ℕ Global). b.items) o ≡ option_map (λ (x : Data). reply_bytes (result_reply id x)) r → (tree : Data) × (r ≡ Some tree) × (line.items ≡ reply_bytes (result_reply id tree))
has_tree_of o line id None is e =
    let none : Some line.items ≡ None = sym (ap (option_map (λ (b : Vec ℕ Global). b.items)) is) ∙ e in
    absurd (cc none)
has_tree_of o line id (Some tree) is e =
    let some : Some line.items ≡ Some (reply_bytes (result_reply id tree)) = sym (ap (option_map (λ (b : Vec ℕ Global). b.items)) is) ∙ e in
    (tree, refl, cc some)
