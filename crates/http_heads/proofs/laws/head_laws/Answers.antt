use Rattle.http_heads.proofs.Extends.{Decides-append, Takes-append}
use Rattle.http_heads.proofs.Unique.{one_decision, one_request, whole_waits_not}
use Rattle.http_heads.proofs.laws.head_laws.Goals as goal

pub returns : goal.returns
returns c = record {
  one = one_decision;
  stays = Decides-append;
  request = one_request;
  follows = Takes-append;
  waits = λ bytes rest a t w. whole_waits_not bytes a rest t w;
}
