-- What is read of the text of a tree, if anything, is the tree: a deeper reader would read it, and each text has one
-- reading at any depth.
use Rattle.std.proofs.Common.{◌≡◌, ℕ, List, [], ◌∷◌, Option, Some, None, option_and_then, refl, sym, ap, ◌∙◌, arith, append-nil}
use Rattle.json.specs.Lex.{tokens}
use Rattle.json.specs.Token.{Token}
use Rattle.json.specs.Json as json
use Rattle.json.specs.Tree as tree
use Rattle.json.specs.Tree.{json_tokens}
use Rattle.json.proofs.Found.{one_reading}
use Rattle.json.proofs.Printed.Tokens.{tokens-print}
use Rattle.json.proofs.Printed.Trees.{value-json_tokens, ArePrintable-json_tokens}
use Rattle.serde_json.specs.Data.{Data}
use Rattle.serde_json.specs.Read.{read, max_depth, of_json}
use Rattle.serde_json.specs.Written.{outline, compact_text}
use Rattle.serde_json.proofs.Texts.{print-outline}
use Rattle.kp_rpc.proofs.ReadBack.{Back}

-- a value, and nothing after it
abbrev pub alone : json.Json → json.Json × List Token
alone j = (j, [])

-- a reading of the whole text
pub record Whole (o : Option (json.Json × List Token)) (e : Data) : Type 0 where
  pub value : json.Json
  pub last : o ≡ Some (alone value)
  pub is : of_json value ≡ Some e

pub whole : (o : Option (json.Json × List Token)) (e : Data) → option_and_then of_json (option_and_then (λ p. json.if_last p.0 p.1) o) ≡ Some e → Whole o e
whole None e h = absurd (cc h)
whole (Some (j, [])) e h = record { value = j; last = refl; is = h }
whole (Some (j, t ∷ ts)) e h = absurd (cc h)

one_value : (i j : json.Json) → Some (alone i) ≡ Some (alone j) → i ≡ j
one_value i j e = let same : alone i ≡ alone j = cc e in ap (λ p. p.0) same

one_tree : (d e : Data) → Some d ≡ Some e → d ≡ e
one_tree d e same = cc same

pub compact_reads : (d e : Data) → Back d → read (compact_text d) ≡ Some e → e ≡ d
compact_reads d e b h =
    let j : json.Json = outline d in
    let deep : ℕ = tree.depth j in
    let same : tokens (compact_text d) ≡ json_tokens j = ap tokens (sym (print-outline d)) ∙ tokens-print (json_tokens j) (ArePrintable-json_tokens j b.numbers) in
    let found = whole (json.value max_depth (tokens (compact_text d))) e h in
    let shallow : json.value max_depth (json_tokens j) ≡ Some (alone found.value) = ap (json.value max_depth) (sym same) ∙ found.last in
    let deeper : json.value deep (json_tokens j) ≡ Some (alone j) = ap (json.value deep) (sym (append-nil (json_tokens j))) ∙ value-json_tokens j deep [] (omega arith) in
    let is : found.value ≡ j = one_value found.value j (one_reading max_depth deep (json_tokens j) (alone found.value) (alone j) shallow deeper) in
    one_tree e d (sym found.is ∙ ap of_json is ∙ b.is)
