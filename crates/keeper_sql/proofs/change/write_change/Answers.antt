use Rattle.std.proofs.lemmas.Result.{err_from_is_err_and}
use Rattle.std.proofs.Common.{inr, refl, rules}
use Rattle.sqlite.proofs.InsideLemmas.{unchanged_keeps}
use Rattle.sqlite.proofs.StateLemmas.{survives_weaker}
use Rattle.keeper_sql.proofs.WholeLemmas.{commit_failed, whole_made, whole_same, whole_unbegun, whole_undone}
use Rattle.keeper_sql.proofs.change.write_change.Goals as goal

pub returns-then-not-is_autocommit : goal.returns-then-not-is_autocommit
returns-then-not-is_autocommit g c =
    record { whole = whole_unbegun g.S.Store _ c.args.conn.now _ }

pub returns-in_err-write_items : goal.returns-in_err-write_items
returns-in_err-write_items g c =
    let inside = rw c.transaction-to.ensures.begun at c.write_items.ensures.inside in
    let failed = err_from_is_err_and c.from_residual.result c.from_residual.ensures.1 in
    record {
      whole = whole_same g.S.Store _ c.args.conn.now c.drop-to.new.self.0 _ _ _ (search rules) failed.1
          (whole_undone g.S.Store _ c.args.conn.now c.write_items.new.to.conn.now _ inside
          (survives_weaker _ _ _ _ (λ _ db none. absurd none) c.drop-to.ensures.survives)
          failed.0 (λ clean. unchanged_keeps _ _ (inr (c.drop-to.ensures.undone clean))));
    }

pub returns-in_err-commit : goal.returns-in_err-commit
returns-in_err-commit g c =
    let inside = rw c.transaction-to.ensures.begun at c.write_items.ensures.inside in
    let failed = err_from_is_err_and c.from_residual-in_err-commit.result
    c.from_residual-in_err-commit.ensures.1 in
    record {
      whole = whole_same g.S.Store _ c.args.conn.now c.commit.new.self.0 _ _ _ (search rules) failed.1
          (whole_undone g.S.Store _ c.args.conn.now c.write_items.new.to.conn.now _ inside
          c.commit.ensures.survives failed.0
          (λ clean. commit_failed _ _ _ (c.in_err-commit.ensures.err clean)));
    }

pub returns : goal.returns
returns g c =
    let begins = c.transaction-to.ensures.begun in
    let inside = rw begins at c.write_items.ensures.inside in
    let runs = rw begins at c.in_ok-write_items.ensures.ran in
    record {
      whole = whole_same g.S.Store _ c.args.conn.now c.commit.new.self.0 _ _ _ (search rules) refl
          (whole_made g.S.Store _ c.args.conn.now c.write_items.new.to.conn.now _ inside
          c.commit.ensures.survives runs
          (λ clean. (c.in_ok-commit.ensures.ok clean).1.committed_is));
    }
