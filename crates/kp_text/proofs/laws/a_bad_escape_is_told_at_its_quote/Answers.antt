use Rattle.std.proofs.Common.{ℕ, List, [], refl, rules, inl}
use Rattle.std.specs.Str.Lossy.{utf8_valid_len, utf8_error_len}
use Rattle.std.specs.Str.{is_utf8, chars}
use Rattle.std.specs.Char.{encode_utf8}
use Rattle.std.proofs.Common.{sym, take, drop}
use Rattle.std.proofs.lemmas.List.{take-append-drop}
use Rattle.kp_text.specs.Grammar.{written_literal, first_level, pattern_tokens, Leveled}
use Rattle.kp_text.specs.Spelling.{Begins, IsPatternText, tokens_of}
use Rattle.kp_text.specs.Examples.{sort_s}
use Rattle.kp_text.proofs.laws.a_bad_escape_is_told_at_its_quote.Goals as goal

-- \dv{S{}}("") goes on from each front
abbrev literal_text : List Leveled
literal_text = pattern_tokens first_level (written_literal sort_s []) []

abbrev front : (n : ℕ) → Begins IsPatternText (take n (tokens_of (pattern_tokens first_level (written_literal sort_s []) [])))
front n = record { whole = literal_text; more = drop n (tokens_of literal_text); is_text = (written_literal sort_s [], refl); front = sym (take-append-drop n (tokens_of literal_text)) }

pub returns : goal.returns
unfolding utf8_valid_len utf8_error_len is_utf8 chars encode_utf8
returns c = (
  6,
  inl (
    record { begins = front 1; shallow = search rules },
    inl (
      record { begins = front 2; shallow = search rules },
      inl (
        record { begins = front 3; shallow = search rules },
        inl (
          record { begins = front 4; shallow = search rules },
          inl (
            record { begins = front 5; shallow = search rules },
            inl (
              record { begins = front 6; shallow = search rules },
              inl (
                record { begins = front 7; shallow = search rules },
                inl ([], record { begins = front 8; shallow = search rules }, refl, refl),
              ),
            ),
          ),
        ),
      ),
    ),
  ),
  refl,
)
