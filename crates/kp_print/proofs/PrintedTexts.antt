-- What a text spells, the printed text spells.
use Rattle.std.proofs.Common.{ℕ, zero, suc, ◌≤◌, List, [], take, length, refl, sym, subst, inl, inr}
use Rattle.std.specs.Prelude.{IsUtf8}
use Rattle.std.specs.Str.{is_utf8}
use Rattle.std.specs.Str.Lossy.{valid_len_up_to, utf8_valid_len}
use Rattle.std.proofs.lemmas.List.{append-nil}
use Rattle.std.proofs.lemmas.Str.{IsUtf8-from_is_utf8, IsUtf8-nil}
use Rattle.kp_kore.specs.Syntax.{KorePattern, KoreModule}
use Rattle.kp_kore.specs.Parts.{nesting}
use Rattle.kp_text.specs.Tokens.{utf8_front}
use Rattle.kp_text.specs.Grammar.{Leveled, first_level, pattern_tokens, module_tokens}
use Rattle.kp_text.specs.Spelling.{HasTokens, SpellsPattern, SpellsModule}
use Rattle.kp_print.specs.Printed.{pattern_text, module_text}
use Rattle.kp_text.proofs.Fronts.{whole_front, whole_tail}
use Rattle.kp_print.proofs.ReadStrings.{test}
use Rattle.kp_print.proofs.ReadTokens.{Reads, ascii_utf8, nothing_reads}
use Rattle.kp_print.proofs.ReadPatterns.{whole_pattern_reads}
use Rattle.kp_print.proofs.ReadModules.{module_reads}
use Rattle.kp_print.proofs.SoundModules.{module_fine}
use Rattle.kp_print.proofs.SpellableModules.{IsWhole, IsSpellableModule, module_written, module_means}
use Rattle.kp_print.proofs.SoundTokens.{text_fine}
use Rattle.kp_print.proofs.SoundPatterns.{whole_pattern_fine}
use Rattle.kp_print.proofs.Spellable.{IsSpellable, written, written_means}

-- the longest front that is UTF-8
valid_front : (bs : List ℕ) (m : ℕ) → IsUtf8 (take (valid_len_up_to bs m) bs)
valid_front bs zero = IsUtf8-nil
valid_front bs (suc m) = elim (test (is_utf8 (take (suc m) bs))) [
  | inl h ↦ rw h (IsUtf8-from_is_utf8 (take (suc m) bs) h)
  | inr h ↦ rw h (valid_front bs m)
]

pub front_utf8 : (bs : List ℕ) → IsUtf8 (utf8_front bs)
unfolding utf8_valid_len
front_utf8 bs = valid_front bs (length bs)

pub has_tokens : (bytes : List ℕ) (ls : List Leveled) → Reads bytes ls → HasTokens bytes ls
has_tokens bytes ls r =
    let u = ascii_utf8 bytes r.ascii in
    record { tokens = rw (sym (whole_front bytes u), sym (whole_tail bytes u)) r.tokens; shallow = r.shallow }

-- patterns: what a text spells can be spelled, and then the printed text does
pub spelled_pattern : (bytes : List ℕ) (p : KorePattern) → SpellsPattern bytes p → IsWhole p
spelled_pattern bytes p spells =
    let fine = whole_pattern_fine spells.0 [] (text_fine bytes (pattern_tokens first_level spells.0 []) (front_utf8 bytes) spells.1) in
    record { spellable = subst IsSpellable spells.2 fine.0; shallow = subst (λ (q : KorePattern). nesting q ≤ 256) spells.2 fine.1 }

pub pattern_printed : (p : KorePattern) → IsWhole p → SpellsPattern (pattern_text p) p
pattern_printed p whole =
    let ls = pattern_tokens first_level (written p) [] in
    let reads : Reads (pattern_text p) ls = subst (λ (x : List ℕ). Reads x ls) (append-nil (pattern_text p)) (whole_pattern_reads p [] [] whole.spellable whole.shallow refl nothing_reads) in
    (written p, has_tokens (pattern_text p) ls reads, written_means p whole.spellable)

pub printed_pattern : (bytes : List ℕ) (p : KorePattern) → SpellsPattern bytes p → SpellsPattern (pattern_text p) p
printed_pattern bytes p spells = pattern_printed p (spelled_pattern bytes p spells)

-- modules
pub spelled_module : (bytes : List ℕ) (m : KoreModule) → SpellsModule bytes m → IsSpellableModule m
spelled_module bytes m spells = subst IsSpellableModule spells.2 (module_fine spells.0 (text_fine bytes (module_tokens spells.0 []) (front_utf8 bytes) spells.1))

pub module_printed : (m : KoreModule) → IsSpellableModule m → SpellsModule (module_text m) m
module_printed m ok =
    let ls = module_tokens (module_written m) [] in
    let reads : Reads (module_text m) ls = subst (λ (x : List ℕ). Reads x ls) (append-nil (module_text m)) (module_reads m [] [] ok nothing_reads) in
    (module_written m, has_tokens (module_text m) ls reads, module_means m ok)

pub printed_module : (bytes : List ℕ) (m : KoreModule) → SpellsModule bytes m → SpellsModule (module_text m) m
printed_module bytes m spells = module_printed m (spelled_module bytes m spells)
