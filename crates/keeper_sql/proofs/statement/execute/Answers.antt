use Rattle.keeper_sql.proofs.WholeLemmas.{executed, ran_inside}
use Rattle.keeper_sql.proofs.statement.execute.Goals as goal

pub returns-in_err-execute-clause-inside : goal.returns-in_err-execute-clause-inside
returns-in_err-execute-clause-inside g c =
    executed g.S.Store c.args.to.now.conn.now c.execute.new.self.conn.now _ _ c.execute.result
    (λ h. (c.execute.ensures.ended h).1) c.execute.ensures.runs c.execute.ensures.survives

pub returns-clause-inside : goal.returns-clause-inside
returns-clause-inside g c =
    executed g.S.Store c.args.to.now.conn.now c.execute.new.self.conn.now _ _ c.execute.result
    (λ h. (c.execute.ensures.ended h).1) c.execute.ensures.runs c.execute.ensures.survives

pub returns-clause-ran : goal.returns-clause-ran
returns-clause-ran g c =
    ran_inside g.S.Store c.args.to.now.conn.now c.execute.new.self.conn.now _ _ c.execute.result _
    c.in_ok-execute.was (λ h. (c.execute.ensures.ended h).0) c.execute.ensures.runs
