-- Words that are written plainly spell their command.
use Rattle.std.proofs.Common.{◌≡◌, ◌≤◌, ◌<◌, ◌^◌, refl, sym, ap, subst, ◌∙◌, ℕ, List, [], ◌∷◌, true, false, codes, Some, inl, inr, arith}
use Rattle.std.specs.Prelude.{if◌then◌else◌}
use Rattle.std.specs.Str.Parse.{IsNumeral, without_leading_plus}
use Rattle.std.specs.Char.{digit_value}
use Rattle.clap.specs.Walk.{Text, Row, Walk, first_of, one_of, walk_from, nothing_held, finished, rows_after}
use Rattle.clap.specs.Kinds.{Kinds, or_else, value_kinds}
use Rattle.clap.specs.Simple.{Shape, built_leaf, subcommand_of, built}
use Rattle.clap.specs.Values.{refused_kind}
use Rattle.clap.specs.ValueTests.{accepts}
use Rattle.clap.specs.Faults.{is_simple_and_free}
use Rattle.clap.specs.declared.builder.value_parser.ValueParser.TheVariants as parser
use Rattle.clap.proofs.OnLiterals.{clap_on_literals}
use Rattle.clap.proofs.ValueTestLemmas.{Accepts-accepts}
use Rattle.kp_command.specs.Described.{stdio_app, prove_app, whole_app}
use Rattle.kp_command.specs.Words.{AreFaultless, AreOfProve, ProveWords, SpellsStdio, SpellsProve, SpellsSome, AreWritten, WritesDepth, WritesStdio, WritesProve, IsValue, prove_words}
use Rattle.kp_command.proofs.Walks.{AllPlain, IsNamed, IsPlain, Piece, written, given, goes, words_of, pieces_walked, pieces_fault, level_by, level_is, walk_is, plain_of, command_faultless, command_rows}

pub simple : is_simple_and_free whole_app ≡ true
unfolding clap_on_literals
simple = refl

-- the commands as clap builds them
abbrev stdio_built : Shape
stdio_built = built_leaf stdio_app.top

abbrev prove_built : Shape
prove_built = built_leaf prove_app.top

stdio_named : IsNamed (built whole_app) (codes "stdio") stdio_built
unfolding clap_on_literals
stdio_named = record { met = refl; turn = refl; found = refl; settles = refl; defaults = refl; checked = refl }

prove_named : IsNamed (built whole_app) (codes "prove") prove_built
unfolding clap_on_literals
prove_named = record { met = refl; turn = refl; found = refl; settles = refl; defaults = refl; checked = refl }

-- what is found behind a command's name
abbrev rows_by : Shape → List Piece → List Row
rows_by s ps = finished s.rules (pieces_walked s.rules (walk_from nothing_held) ps).held

abbrev fault_by : Shape → List Piece → Kinds
fault_by s ps = level_by s (pieces_fault s (walk_from nothing_held) ps) (pieces_walked s.rules (walk_from nothing_held) ps).held

rows_are : (s : Shape) (ps : List Piece) → AllPlain ps → goes s.rules (walk_from nothing_held) ps ≡ true → rows_after s.rules [] (words_of ps) ≡ rows_by s ps
rows_are s ps plain open' = ap (λ (w : Walk). finished s.rules w.held) (walk_is s.rules (walk_from nothing_held) ps plain open')

-- words that are a command's name and these behind it have no fault
faultless : (s : Shape) (program name : Text) (ps : List Piece) → IsNamed (built whole_app) name s → AllPlain ps → goes s.rules (walk_from nothing_held) ps ≡ true → fault_by s ps ≡ []
    → AreFaultless (program ∷ name ∷ words_of ps)
faultless s program name ps named plain open' none = command_faultless (built whole_app) name s (words_of ps) named (level_is s ps plain open' ∙ none)

read_is : (s : Shape) (program name : Text) (ps : List Piece) → IsNamed (built whole_app) name s → AllPlain ps → goes s.rules (walk_from nothing_held) ps ≡ true
    → subcommand_of whole_app (program ∷ name ∷ words_of ps) ≡ Some (s.name, rows_by s ps)
read_is s program name ps named plain open' = command_rows (built whole_app) name s (words_of ps) named ∙ ap (λ rows. Some (s.name, rows)) (rows_are s ps plain open')

-- ---- stdio

abbrev stdio_pieces : Text → Text → List Piece
stdio_pieces d m = given d ∷ written (codes "--module") ∷ given m ∷ []

stdio_goes : (d m : Text) → goes stdio_built.rules (walk_from nothing_held) (stdio_pieces d m) ≡ true
unfolding clap_on_literals
stdio_goes d m = refl

stdio_fault : (d m : Text) → fault_by stdio_built (stdio_pieces d m) ≡ []
unfolding clap_on_literals
stdio_fault d m = refl

stdio_definition : (d m : Text) → first_of (codes "definition") (rows_by stdio_built (stdio_pieces d m)) ≡ Some d
unfolding clap_on_literals
stdio_definition d m = refl

stdio_main : (d m : Text) → first_of (codes "module") (rows_by stdio_built (stdio_pieces d m)) ≡ Some m
unfolding clap_on_literals
stdio_main d m = refl

pub written_stdio : (words : List Text) (d m : Text) → WritesStdio words d m → SpellsStdio words d m
written_stdio words d m w =
    let plain : AllPlain (stdio_pieces d m) = (plain_of d w.definition_is, (plain_of m w.main_is, tt)) in
    subst (λ ws. SpellsStdio ws d m) (sym w.written) (
      faultless stdio_built w.program (codes "stdio") (stdio_pieces d m) stdio_named plain (stdio_goes d m) (stdio_fault d m),
      (
        rows_by stdio_built (stdio_pieces d m),
        read_is stdio_built w.program (codes "stdio") (stdio_pieces d m) stdio_named plain (stdio_goes d m),
        record { definition_is = stdio_definition d m; main_is = stdio_main d m },
      ),
    )

-- ---- prove

abbrev prove_pieces : Text → Text → Text → List Piece → List Piece
prove_pieces d m c more = given d ∷ written (codes "--module") ∷ given m ∷ written (codes "--claims") ∷ given c ∷ more

abbrev depth_pieces : Text → List Piece
depth_pieces n = written (codes "--max-depth") ∷ given n ∷ []

plain_goes : (d m c : Text) → goes prove_built.rules (walk_from nothing_held) (prove_pieces d m c []) ≡ true
unfolding clap_on_literals
plain_goes d m c = refl

plain_fault : (d m c : Text) → fault_by prove_built (prove_pieces d m c []) ≡ []
unfolding clap_on_literals
plain_fault d m c = refl

plain_rows : (d m c : Text) → AreOfProve (rows_by prove_built (prove_pieces d m c [])) (record { definition = d; main = m; claims = c; depth = 1 })
unfolding clap_on_literals
plain_rows d m c = record {
  definition_is = refl;
  main_is = refl;
  claims_is = refl;
  number = codes "1";
  number_is = refl;
  depth_is = record { digits = (omega arith, (omega arith, tt)); value = refl; least = omega arith; most = omega arith };
}

depth_goes : (d m c n : Text) → goes prove_built.rules (walk_from nothing_held) (prove_pieces d m c (depth_pieces n)) ≡ true
unfolding clap_on_literals
depth_goes d m c n = refl

depth_fault_is : (d m c n : Text) → fault_by prove_built (prove_pieces d m c (depth_pieces n)) ≡ or_else (or_else (value_kinds false (parser.Unsigned 1 10000) n) []) []
unfolding clap_on_literals
depth_fault_is d m c n = refl

depth_fault : (d m c n : Text) → accepts false (parser.Unsigned 1 10000) n ≡ true → fault_by prove_built (prove_pieces d m c (depth_pieces n)) ≡ []
depth_fault d m c n ok = depth_fault_is d m c n ∙ ap (λ b. or_else (or_else (if b then [] else refused_kind (parser.Unsigned 1 10000) ∷ []) []) []) ok

depth_definition : (d m c n : Text) → first_of (codes "definition") (rows_by prove_built (prove_pieces d m c (depth_pieces n))) ≡ Some d
unfolding clap_on_literals
depth_definition d m c n = refl

depth_main : (d m c n : Text) → first_of (codes "module") (rows_by prove_built (prove_pieces d m c (depth_pieces n))) ≡ Some m
unfolding clap_on_literals
depth_main d m c n = refl

depth_claims : (d m c n : Text) → first_of (codes "claims") (rows_by prove_built (prove_pieces d m c (depth_pieces n))) ≡ Some c
unfolding clap_on_literals
depth_claims d m c n = refl

depth_number : (d m c n : Text) → one_of (codes "max-depth") (rows_by prove_built (prove_pieces d m c (depth_pieces n))) ≡ Some n
unfolding clap_on_literals
depth_number d m c n = refl

-- a number from 1 to 10,000 is no option, and passes
depth_passes : (n : Text) (k : ℕ) → WritesDepth n k → accepts false (parser.Unsigned 1 10000) n ≡ true
depth_passes n k w =
    Accepts-accepts false (parser.Unsigned 1 10000) n (w.digits, rw w.value (small k w.most), rw w.value w.least, rw w.value w.most)
  where
    small : (k : ℕ) → k ≤ 10000 → k < 2 ^ 64
    small k l = omega arith

depth_is_value : (n : Text) (k : ℕ) → WritesDepth n k → IsValue n
depth_is_value [] k w = tt
depth_is_value (x ∷ rest) k w = λ hyphen.
    let same : without_leading_plus (x ∷ rest) ≡ x ∷ rest = rw hyphen refl in
    let digit = (subst (IsNumeral 10) same w.digits).1.0 in
    absurd (no_digit x hyphen digit)
  where
    no_digit : (x : ℕ) → x ≡ 45 → digit_value x < 10 → ⊥
    no_digit x e d = let bad : digit_value 45 < 10 = subst (λ y. digit_value y < 10) e d in absurd (omega arith)

prove_plain : (words : List Text) (c : ProveWords) (program : Text) → words ≡ prove_words program c [] → c.depth ≡ 1 → IsPlain c.definition → IsPlain c.main → IsPlain c.claims → SpellsProve words c
prove_plain words c program is one pd pm pc =
    let ps = prove_pieces c.definition c.main c.claims [] in
    let plain : AllPlain ps = (pd, (pm, (pc, tt))) in
    let rows = plain_rows c.definition c.main c.claims in
    subst (λ ws. SpellsProve ws c) (sym is) (
      faultless prove_built program (codes "prove") ps prove_named plain (plain_goes c.definition c.main c.claims) (plain_fault c.definition c.main c.claims),
      (
        rows_by prove_built ps,
        read_is prove_built program (codes "prove") ps prove_named plain (plain_goes c.definition c.main c.claims),
        record {
          definition_is = rows.definition_is;
          main_is = rows.main_is;
          claims_is = rows.claims_is;
          number = rows.number;
          number_is = rows.number_is;
          depth_is = subst (WritesDepth rows.number) (sym one) rows.depth_is;
        },
      ),
    )

prove_with_depth : (words : List Text) (c : ProveWords) (program n : Text) → words ≡ prove_words program c (codes "--max-depth" ∷ n ∷ []) → WritesDepth n c.depth → IsPlain c.definition → IsPlain c.main → IsPlain c.claims → SpellsProve words c
prove_with_depth words c program n is depth pd pm pc =
    let ps = prove_pieces c.definition c.main c.claims (depth_pieces n) in
    let plain : AllPlain ps = (pd, (pm, (pc, (plain_of n (depth_is_value n c.depth depth), tt)))) in
    let goes' = depth_goes c.definition c.main c.claims n in
    subst (λ ws. SpellsProve ws c) (sym is) (
      faultless prove_built program (codes "prove") ps prove_named plain goes' (depth_fault c.definition c.main c.claims n (depth_passes n c.depth depth)),
      (
        rows_by prove_built ps,
        read_is prove_built program (codes "prove") ps prove_named plain goes',
        record {
          definition_is = depth_definition c.definition c.main c.claims n;
          main_is = depth_main c.definition c.main c.claims n;
          claims_is = depth_claims c.definition c.main c.claims n;
          number = n;
          number_is = depth_number c.definition c.main c.claims n;
          depth_is = depth;
        },
      ),
    )

pub written_prove : (words : List Text) (c : ProveWords) → WritesProve words c → SpellsProve words c
written_prove words c w = elim w.depth_is [
  | inl none ↦ prove_plain words c w.program (w.written ∙ ap (prove_words w.program c) none.0) none.1 (plain_of _ w.definition_is) (plain_of _ w.main_is) (plain_of _ w.claims_is)
  | inr some ↦ prove_with_depth words c w.program some.0 (w.written ∙ ap (prove_words w.program c) some.1) some.2 (plain_of _ w.definition_is) (plain_of _ w.main_is) (plain_of _ w.claims_is)
]

pub written_some : (words : List Text) → AreWritten words → SpellsSome words
written_some words (inl (d, m, w)) = inl (d, m, written_stdio words d m w)
written_some words (inr (c, w)) = inr (c, written_prove words c w)
