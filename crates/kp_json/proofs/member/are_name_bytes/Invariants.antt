use Rattle.std.proofs.Common.{◌≡◌, drop}
use Rattle.std.specs.List.{list_all}
use Rattle.kp_json.specs.Members.{is_identifier_byte}
use Rattle.kp_json.proofs.member.are_name_bytes.Given as goal

abbrev pub invariant-loop-b : goal.invariant-loop-b
invariant-loop-b l = list_all is_identifier_byte (drop l.b-index l.text) ≡ list_all is_identifier_byte l.initial.text
