-- The text that is written of a tree is read as that tree, where it nests no deeper than a frame may: of patterns, ids and
-- replies with a result.
use Rattle.std.proofs.Common.{◌≡◌, ℕ, suc, max, ◌^◌, ◌<◌, ◌≤◌, [], Option, Some, None, option_map, option_and_then, pos, negsuc, refl, sym, ap, ap₂, ◌∙◌, subst, arith, append-nil}
use Rattle.json.specs.Lex.{tokens}
use Rattle.json.specs.Json as json
use Rattle.json.specs.Tree as tree
use Rattle.json.specs.Tree.{json_tokens, HasNumbers, ItemsHaveNumbers}
use Rattle.json.proofs.Printed.Tokens.{tokens-print}
use Rattle.json.proofs.Printed.Trees.{value-json_tokens, ArePrintable-json_tokens}
use Rattle.json.proofs.Printed.Decimals.{IsNumber-decimal, IsNumber-signed_decimal}
use Rattle.serde_json.specs.Data.{Data, unsigned, negative, float, null, boolean, number, string, array, object, Items, no_items, item, Members, no_members, member, depth, items_depth, members_depth}
use Rattle.serde_json.specs.Read.{read, max_depth, of_json, of_items}
use Rattle.serde_json.specs.Written.{outline, items_outline, members_outline, compact_text}
use Rattle.serde_json.proofs.Texts.{print-outline}
use Rattle.serde_json.proofs.Numbers.{number_of-decimal, number_of-negative}
use Rattle.kp_kore.specs.Syntax.{KoreSort, sort_of, sort_variable, KoreSorts, no_sorts, next_sort, KorePattern, KorePatterns, variable, application, literal, top, bottom, negation, conjunction, disjunction, implication, equivalence, rewriting, exists, forall, ceil, floor, equals, membership, no_patterns, next_pattern}
use Rattle.kp_json.specs.Written.{sort_tree, sort_trees, one_part, one_list, first_and_rest, two_parts, of_two_or_more, pattern_tree, pattern_trees, wrapped, wrapped_pattern}
use Rattle.kp_rpc.specs.Request.{RequestId, IsReadId, id_text, id_number, id_null, id_tree}
use Rattle.kp_rpc.specs.Reply.{result_reply}

-- ---- any tree

-- the tree is what JSON makes of its outline
pub record Back (d : Data) : Type 0 where
  pub numbers : HasNumbers (outline d)
  pub is : of_json (outline d) ≡ Some d

pub record ItemsBack (ds : Items) : Type 0 where
  pub numbers : ItemsHaveNumbers (items_outline ds)
  pub is : of_items (items_outline ds) ≡ Some ds

mutual
  depth_kept : (d : Data) → tree.depth (outline d) ≡ depth d
  depth_kept null = refl
  depth_kept (boolean b) = refl
  depth_kept (number n) = refl
  depth_kept (string s) = refl
  depth_kept (array ds) = ap suc (items_depth_kept ds)
  depth_kept (object ms) = ap suc (members_depth_kept ms)

  items_depth_kept : (ds : Items) → tree.items_depth (items_outline ds) ≡ items_depth ds
  items_depth_kept no_items = refl
  items_depth_kept (item d ds) = ap₂ max (depth_kept d) (items_depth_kept ds)

  members_depth_kept : (ms : Members) → tree.members_depth (members_outline ms) ≡ members_depth ms
  members_depth_kept no_members = refl
  members_depth_kept (member k d ms) = ap₂ max (depth_kept d) (members_depth_kept ms)

pub read_compact : (d : Data) → Back d → depth d ≤ max_depth → read (compact_text d) ≡ Some d
read_compact d b shallow =
    let j : json.Json = outline d in
    let same : tokens (compact_text d) ≡ json_tokens j = ap tokens (sym (print-outline d)) ∙ tokens-print (json_tokens j) (ArePrintable-json_tokens j b.numbers) in
    let fits : tree.depth j ≤ max_depth = subst (λ n. n ≤ max_depth) (sym (depth_kept d)) shallow in
    ap (λ o. option_and_then of_json (option_and_then (λ p. json.if_last p.0 p.1) o)) (ap (json.value max_depth) (same ∙ sym (append-nil (json_tokens j))) ∙ value-json_tokens j max_depth [] fits) ∙ b.is

pub number_back : (n : ℕ) → n < 2 ^ 64 → Back (number (unsigned n))
number_back n h = record { numbers = IsNumber-decimal n h; is = ap (option_map number) (number_of-decimal n h) }

pub negative_back : (n : ℕ) → n < 2 ^ 63 → Back (number (negative (negsuc n)))
negative_back n h = record { numbers = IsNumber-signed_decimal (negsuc n) h; is = ap (option_map number) (number_of-negative n h) }

-- ---- sorts

mutual
  sort_back : (s : KoreSort) → Back (sort_tree s)
  sort_back (sort_of name ss) = let h = sorts_back ss in record { numbers = (h.numbers, (tt, (tt, tt))); is = rw h.is refl }
  sort_back (sort_variable name) = record { numbers = (tt, (tt, tt)); is = refl }

  sorts_back : (ss : KoreSorts) → ItemsBack (sort_trees ss)
  sorts_back no_sorts = record { numbers = tt; is = refl }
  sorts_back (next_sort s ss) = let h = sort_back s in let k = sorts_back ss in record { numbers = (h.numbers, k.numbers); is = rw (h.is, k.is) refl }

-- ---- patterns

-- a tree, where there is one, is what JSON makes of its outline
abbrev pub IsBack : Option Data → Type 0
IsBack None = Unit {0}
IsBack (Some d) = Back d

abbrev AreBack : Option Items → Type 0
AreBack None = Unit {0}
AreBack (Some ds) = ItemsBack ds

pub one_back : (make : Data → Data) (x : Option Data) → ((d : Data) → Back d → Back (make d)) → IsBack x → IsBack (one_part make x)
one_back make None keeps h = tt
one_back make (Some d) keeps h = keeps d h

list_back : (make : Items → Data) (x : Option Items) → ((ds : Items) → ItemsBack ds → Back (make ds)) → AreBack x → IsBack (one_list make x)
list_back make None keeps h = tt
list_back make (Some ds) keeps h = keeps ds h

pub two_back : (make : Data → Data → Data) (x y : Option Data) → ((d e : Data) → Back d → Back e → Back (make d e)) → IsBack x → IsBack y → IsBack (two_parts make x y)
two_back make None y keeps h k = tt
two_back make (Some d) None keeps h k = tt
two_back make (Some d) (Some e) keeps h k = keeps d e h k

two_or_more_back : (ps : KorePatterns) (x : Option Items) → AreBack x → AreBack (of_two_or_more ps x)
two_or_more_back no_patterns x h = tt
two_or_more_back (next_pattern p no_patterns) x h = tt
two_or_more_back (next_pattern p (next_pattern q ps)) x h = h

rest_back : (x : Option Data) (y : Option Items) → IsBack x → AreBack y → AreBack (first_and_rest x y)
rest_back None y h k = tt
rest_back (Some d) None h k = tt
rest_back (Some d) (Some ds) h k = record { numbers = (h.numbers, k.numbers); is = rw (h.is, k.is) refl }

mutual
  pattern_back : (p : KorePattern) → IsBack (pattern_tree p)
  pattern_back (variable x s) = let s = sort_back s in record { numbers = (tt, (s.numbers, (tt, tt))); is = rw s.is refl }
  pattern_back (application f ss ps) = let s = sorts_back ss in list_back _ (pattern_trees ps) (λ ds h. record { numbers = (h.numbers, (tt, (s.numbers, (tt, tt)))); is = rw (h.is, s.is) refl }) (patterns_back ps)
  pattern_back (literal s text) = let s = sort_back s in record { numbers = (s.numbers, (tt, (tt, tt))); is = rw s.is refl }
  pattern_back (top s) = let s = sort_back s in record { numbers = (s.numbers, (tt, tt)); is = rw s.is refl }
  pattern_back (bottom s) = let s = sort_back s in record { numbers = (s.numbers, (tt, tt)); is = rw s.is refl }
  pattern_back (negation s p) = let s = sort_back s in one_back _ (pattern_tree p) (λ d h. record { numbers = (h.numbers, (s.numbers, (tt, tt))); is = rw (h.is, s.is) refl }) (pattern_back p)
  pattern_back (conjunction s ps) = let s = sort_back s in list_back _ (of_two_or_more ps (pattern_trees ps)) (λ ds h. record { numbers = (h.numbers, (s.numbers, (tt, tt))); is = rw (h.is, s.is) refl }) (two_or_more_back ps (pattern_trees ps) (patterns_back ps))
  pattern_back (disjunction s ps) = let s = sort_back s in list_back _ (of_two_or_more ps (pattern_trees ps)) (λ ds h. record { numbers = (h.numbers, (s.numbers, (tt, tt))); is = rw (h.is, s.is) refl }) (two_or_more_back ps (pattern_trees ps) (patterns_back ps))
  pattern_back (implication s p q) = let s = sort_back s in two_back _ (pattern_tree p) (pattern_tree q) (λ d e h k. record { numbers = (h.numbers, (k.numbers, (s.numbers, (tt, tt)))); is = rw (h.is, k.is, s.is) refl }) (pattern_back p) (pattern_back q)
  pattern_back (equivalence s p q) = let s = sort_back s in two_back _ (pattern_tree p) (pattern_tree q) (λ d e h k. record { numbers = (h.numbers, (k.numbers, (s.numbers, (tt, tt)))); is = rw (h.is, k.is, s.is) refl }) (pattern_back p) (pattern_back q)
  pattern_back (rewriting s p q) = let s = sort_back s in two_back _ (pattern_tree p) (pattern_tree q) (λ d e h k. record { numbers = (k.numbers, (s.numbers, (h.numbers, (tt, tt)))); is = rw (h.is, k.is, s.is) refl }) (pattern_back p) (pattern_back q)
  pattern_back (exists s x t p) = let s = sort_back s in let t = sort_back t in one_back _ (pattern_tree p) (λ d h. record { numbers = (h.numbers, (s.numbers, (tt, (tt, (t.numbers, tt))))); is = rw (h.is, s.is, t.is) refl }) (pattern_back p)
  pattern_back (forall s x t p) = let s = sort_back s in let t = sort_back t in one_back _ (pattern_tree p) (λ d h. record { numbers = (h.numbers, (s.numbers, (tt, (tt, (t.numbers, tt))))); is = rw (h.is, s.is, t.is) refl }) (pattern_back p)
  pattern_back (ceil a s p) = let a = sort_back a in let s = sort_back s in one_back _ (pattern_tree p) (λ d h. record { numbers = (h.numbers, (a.numbers, (s.numbers, (tt, tt)))); is = rw (h.is, a.is, s.is) refl }) (pattern_back p)
  pattern_back (floor a s p) = let a = sort_back a in let s = sort_back s in one_back _ (pattern_tree p) (λ d h. record { numbers = (h.numbers, (a.numbers, (s.numbers, (tt, tt)))); is = rw (h.is, a.is, s.is) refl }) (pattern_back p)
  pattern_back (equals a s p q) = let a = sort_back a in let s = sort_back s in two_back _ (pattern_tree p) (pattern_tree q) (λ d e h k. record { numbers = (a.numbers, (h.numbers, (k.numbers, (s.numbers, (tt, tt))))); is = rw (h.is, k.is, a.is, s.is) refl }) (pattern_back p) (pattern_back q)
  pattern_back (membership a s p q) = let a = sort_back a in let s = sort_back s in two_back _ (pattern_tree p) (pattern_tree q) (λ d e h k. record { numbers = (a.numbers, (h.numbers, (k.numbers, (s.numbers, (tt, tt))))); is = rw (h.is, k.is, a.is, s.is) refl }) (pattern_back p) (pattern_back q)
  pattern_back _ = tt

  patterns_back : (ps : KorePatterns) → AreBack (pattern_trees ps)
  patterns_back no_patterns = record { numbers = tt; is = refl }
  patterns_back (next_pattern p ps) = rest_back (pattern_tree p) (pattern_trees ps) (pattern_back p) (patterns_back ps)

one_fits : 1 < 2 ^ 64
one_fits = omega arith

pub wrapped_back : (p : KorePattern) → IsBack (wrapped_pattern p)
wrapped_back p =
    let version = number_back 1 one_fits in
    one_back wrapped (pattern_tree p) (λ d h. record { numbers = (tt, (h.numbers, (version.numbers, tt))); is = rw (h.is, version.is) refl }) (pattern_back p)

pub plain_back : (x : Option Data) (d : Data) → IsBack x → x ≡ Some d → Back d
plain_back None d h e = absurd (cc e)
plain_back (Some t) d h e = let same : t ≡ d = cc e in subst Back same h

-- ---- replies

pub id_back : (id : RequestId) → IsReadId id → Back (id_tree id)
id_back (id_text t) h = record { numbers = tt; is = refl }
id_back (id_number (unsigned n)) h = number_back n h
id_back (id_number (negative (pos n))) h = absurd h
id_back (id_number (negative (negsuc n))) h = negative_back n h
id_back (id_number (float x)) h = absurd h
id_back id_null h = record { numbers = tt; is = refl }

pub reply_back : (id : RequestId) (result : Data) → IsReadId id → Back result → Back (result_reply id result)
reply_back id result lawful h = let i = id_back id lawful in record { numbers = (i.numbers, (tt, (h.numbers, tt))); is = rw (i.is, h.is) refl }
