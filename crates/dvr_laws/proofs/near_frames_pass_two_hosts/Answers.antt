use Rattle.dvr_laws.proofs.NearPathsLaw.{two-hosts}
use Rattle.dvr_laws.proofs.near_frames_pass_two_hosts.Goals as goal

pub returns : goal.returns
returns c = two-hosts
