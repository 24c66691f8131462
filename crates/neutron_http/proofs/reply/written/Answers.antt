use Rattle.std.proofs.Common.{◌∙◌, sym, subst, arith}
use Rattle.neutron_http.specs.Replies.{IsWholeReply, fields_of, body_of}
use Rattle.neutron_http.proofs.ReplyHead.{whole_reply}
use Rattle.neutron_http.proofs.ReplyLines.{joined}
use Rattle.neutron_http.proofs.reply.written.Goals as goal

pub returns-clause-bytes : goal.returns-clause-bytes
returns-clause-bytes c = joined c.args.code c.args.close c.args.extra.now.allow c.args.body.now c.from_vec.result (c.from_vec.ensures ∙ c.in_ok-assembled.ensures)

pub returns-clause-whole : goal.returns-clause-whole
returns-clause-whole c = λ allowed. subst (λ b. IsWholeReply b c.args.code (fields_of c.args.code c.args.close c.args.extra.now.allow c.args.body.now) (body_of c.args.code c.args.body.now)) (sym (returns-clause-bytes c))
    (whole_reply c.args.code c.args.close c.args.extra.now.allow c.args.body.now c.requires (omega arith) allowed)
