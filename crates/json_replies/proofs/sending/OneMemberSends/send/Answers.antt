use Rattle.std.proofs.lemmas.Result.{on_ok_weaker}
use Rattle.json_replies.proofs.sending.OneMemberSends.send.Goals as goal

pub returns : goal.returns
returns g c =
    on_ok_weaker c.end_map.result (λ e. (
      g.S.Serializer.written c.begin_map.new.self,
      c.in_ok-begin_map.ensures,
      (
        g.S.Serializer.written c.key.new.self,
        g.S.Serializer.written c.send.new.out,
        c.in_ok-key.ensures,
        c.in_ok-send.ensures,
        e,
      ),
    )) c.end_map.ensures
