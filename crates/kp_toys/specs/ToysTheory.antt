-- The signature and the rules that the example definition means for its main module TOYS.
use Rattle.std.specs.Prelude.{List, [], ◌∷◌, ◌++◌, codes}
use Rattle.kp_kore.specs.Syntax.{Text, KorePattern, variable, equals}
use Rattle.kp_kore.specs.Signature.{KoreSignature, signature_of}
use Rattle.kp_kore.specs.Rules.{rewrite, foreign_rule, RewriteRule, usual_priority}
use Rattle.kp_kore.specs.Theory.{Theory}
use Rattle.kp_toys.specs.Toys.{sort_int, sort_bool, sort_s, call, integer, always, n, injected, basic, toys_sentences}
use Rattle.std.specs.Prelude.{Some}

abbrev pub toys_signature : KoreSignature
toys_signature = signature_of (basic.sentences ++ toys_sentences)

-- the condition that a test is true
abbrev pub when_true : KorePattern → List KorePattern
when_true test = equals sort_bool sort_s test always ∷ []

-- a rule without new variables and without ensured condition
abbrev pub plain_rule : Text → KorePattern → List KorePattern → KorePattern → RewriteRule
plain_rule id left condition right = record {
  id = id;
  priority = usual_priority;
  body = rewrite (record { left = left; condition = condition; new_variables = []; right = right; ensured = [] });
}

abbrev pub count_of : KorePattern → KorePattern
count_of p = call (codes "Lblcount") (p ∷ [])

abbrev pub done : KorePattern
done = call (codes "Lbldone") []

abbrev pub vg : KorePattern
vg = call (codes "Lblvg") []

abbrev pub vh_of : KorePattern → KorePattern
vh_of p = call (codes "Lblvh") (p ∷ [])

-- Y:SortInt{}, new in the rule from vg
abbrev pub y : KorePattern
y = variable (codes "Y") sort_int

abbrev pub dec_rule : RewriteRule
dec_rule = plain_rule (codes "TOYS.dec") (count_of n) (when_true (call (codes "Lblgt") (n ∷ integer (codes "0") ∷ []))) (count_of (call (codes "Lblsub") (n ∷ integer (codes "1") ∷ [])))

abbrev pub stop_rule : RewriteRule
stop_rule = plain_rule (codes "TOYS.stop") (count_of n) (when_true (call (codes "Lbleq") (n ∷ integer (codes "0") ∷ []))) done

abbrev pub pick_rule : RewriteRule
pick_rule = plain_rule (codes "TOYS.pick") (call (codes "Lblpick") (call (codes "Lblpa") [] ∷ [])) [] done

abbrev pub num_rule : RewriteRule
num_rule = plain_rule (codes "TOYS.num") (call (codes "Lblnum") (injected n ∷ [])) [] done

abbrev pub sq_rule : RewriteRule
sq_rule = plain_rule (codes "TOYS.sq") (call (codes "Lblsq") (n ∷ [])) (when_true (call (codes "Lbllt") (call (codes "Lblmul") (n ∷ n ∷ []) ∷ integer (codes "0") ∷ []))) done

abbrev pub up_rule : RewriteRule
up_rule = plain_rule (codes "TOYS.up") (call (codes "Lblup") (n ∷ [])) [] (call (codes "Lblup") (call (codes "Lbladd") (n ∷ integer (codes "1") ∷ []) ∷ []))

abbrev pub odd_rule : RewriteRule
odd_rule = record {
  id = codes "TOYS.odd";
  priority = usual_priority;
  body = foreign_rule (record { sort = sort_s; term = Some (call (codes "Lblodd") (n ∷ [])) });
}

abbrev pub spin_rule : RewriteRule
spin_rule = plain_rule (codes "TOYS.spin") (call (codes "Lblloop") []) [] (call (codes "Lblloop") [])

abbrev pub van_rule : RewriteRule
van_rule = plain_rule (codes "TOYS.van") (call (codes "Lblvf") (n ∷ [])) [] vg

abbrev pub back_rule : RewriteRule
back_rule = record {
  id = codes "TOYS.back";
  priority = usual_priority;
  body = rewrite (record { left = vg; condition = []; new_variables = record { name = codes "Y"; sort = sort_int } ∷ []; right = vh_of y; ensured = [] });
}

abbrev pub toys : Theory
toys = record {
  signature = toys_signature;
  rules = dec_rule ∷ stop_rule ∷ pick_rule ∷ num_rule ∷ sq_rule ∷ up_rule ∷ odd_rule ∷ spin_rule ∷ van_rule ∷ back_rule ∷ [];
}
