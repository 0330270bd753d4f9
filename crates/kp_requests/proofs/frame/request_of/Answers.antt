use Rattle.serde_json.specs.View.{view}
use Rattle.kp_requests.specs.Frames.{no_json}
use Rattle.kp_requests.proofs.Frames.{all_ask, found_in, none_in}
use Rattle.kp_requests.proofs.frame.request_of.Goals as goal

pub returns-in-Some : goal.returns-in-Some
returns-in-Some c =
    all_ask c.args.bytes.now (view c.in-Some.value) c.parsed_of.result (found_in c.args.bytes.now c.in_ok-value.field-0 c.in-Some.value c.in-Some.is c.in_ok-value.ensures.found) c.parsed_of.ensures

pub returns-in-None : goal.returns-in-None
returns-in-None c = no_json (none_in c.args.bytes.now c.in_ok-value.field-0 c.in-None.is c.in_ok-value.ensures.none)
