-- What a link in memory tells.
-- Source: this project.
use Rattle.std.specs.Prelude.{map, length, drop, Some, ⊤}
use Rattle.kp_client.specs.Links.{LinkState}
use Rattle.kp_client.specs.View.{exchanges_view}
use Rattle.kp_client.specs.declared.script.ScriptLink.{ScriptLink}

-- nothing of its exchanges but that each has the script's next line
abbrev pub script_state : ScriptLink → LinkState
script_state s = record {
  meets = λ e. ⊤;
  exchanges = Some (exchanges_view s.spoken.items);
  replies = Some (drop (length s.spoken.items) (map (λ line. line.items) s.script.items));
  faults = s.faults;
}
