use Rattle.std.proofs.Common.{refl, inl}
use Rattle.serde_json.specs.Data.{number, unsigned, object, no_items}
use Rattle.kp_json.specs.Trees.{wrapper, app, dv, patterns_end, patterns_more, sorts_end, sort_app}
use Rattle.kp_examples.specs.Requests.{state_members, count_two_members, two_members, int_tree}
use Rattle.kp_examples.proofs.requests.the_request_is_read.Goals as goal

pub returns-clause-spelled : goal.returns-clause-spelled
returns-clause-spelled c = record {
  is_request = record { version = refl; method_text = refl; has_id = (number (unsigned 1), refl, refl) };
  state = state_members;
  has_params = record {
    params = _;
    has_params = refl;
    has_state = refl;
    has_options = record { max_depth = inl refl; module_name = inl refl; cut_points = inl (inl refl, refl); terminals = inl (inl refl, refl) };
  };
  spells = wrapper state_members (object count_two_members) _ refl refl refl
      (app _ count_two_members _ no_items _ _ _ refl (record { text = refl; identifier = refl }) refl sorts_end refl
      (patterns_more _ (object two_members) no_items _ _
      (dv _ two_members _ _ refl
      (record { tree = int_tree; has = refl; spells = sort_app _ _ no_items _ refl (record { text = refl; identifier = refl }) refl sorts_end })
      refl)
      (patterns_end _)));
}
