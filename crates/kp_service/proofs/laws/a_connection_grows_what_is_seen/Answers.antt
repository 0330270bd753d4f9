use Rattle.kp_service.proofs.Talking.{begun_frames_grow, connection_grows, frames_grow}
use Rattle.kp_service.proofs.laws.a_connection_grows_what_is_seen.Goals as goal

pub returns-clause-frames : goal.returns-clause-frames
returns-clause-frames c = frames_grow

pub returns-clause-begun : goal.returns-clause-begun
returns-clause-begun c = begun_frames_grow

pub returns-clause-connection : goal.returns-clause-connection
returns-clause-connection c = connection_grows
