-- Calls inside a transaction, one after the other, and the transaction's end.
use Rattle.std.proofs.Common.{◌≡◌, ℕ, List, false, Result, Ok, Err, IsTrue, refl, sym, subst, ◌∙◌, inl, inr, arith}
use Rattle.std.proofs.lemmas.Bool.{cases_Bool}
use Rattle.sqlite.specs.Held.{Held, state}
use Rattle.sqlite.specs.Order.{Row}
use Rattle.sqlite.specs.State.{ExecutesInside, HasCleanDisk, KeepsCommit, State, Survives}
use Rattle.sqlite.specs.Steps.{FailsToCommit}
use Rattle.sqlite.specs.Store.{Ghosts}
use Rattle.sqlite.specs.declared.error.Error.{Error}
use Rattle.sqlite.specs.declared.error.Error.TheVariants.{SqliteFailure}
use Rattle.sqlite.specs.declared.error.ErrorCode.TheVariants.{TransactionState}
use Rattle.sqlite.proofs.Callers.{survives_begin}
use Rattle.sqlite.proofs.InsideLemmas.{inside_keeps, keeps_then, unchanged_keeps}
use Rattle.sqlite.proofs.StateLemmas.{survives_then, survives_weaker}
use Rattle.keeper_sql.specs.Whole.{CommitsNothing, IsWhole, Runs, RunsAll, begun}

pub commit_failed : (old new : State) (e : Error) → FailsToCommit old new e → KeepsCommit old new
commit_failed old new e (inl failed) = unchanged_keeps old new (inr failed.3)
commit_failed old new e (inr none) = unchanged_keeps old new (inl none.2)

keeps_itself : (s : State) → KeepsCommit s s
keeps_itself s = record { was_open = λ h. h; committed = λ _. refl }

survives_itself : (s : State) → Survives s s (λ _. ⊥)
survives_itself s = record {
  clean = omega arith;
  shield = λ h. h;
  counts = omega arith;
  limit = refl;
  closes = λ _ h. inl h;
  crash = λ _ db h. inl h;
}

module _ {S : Type 0} (g : Ghosts S) where
  pub nothing_yet : (h : Held S) → CommitsNothing g h h
  nothing_yet h = record {
    crash = survives_itself (state g h);
    committed = λ _. keeps_itself (state g h);
  }

  pub nothing_then : (a b c : Held S) → CommitsNothing g a b → CommitsNothing g b c
      → CommitsNothing g a c
  nothing_then a b c one two = record {
    crash = survives_then (state g a) (state g b) (state g c) _ _ _ (λ _ db none. none)
        (λ _ db none. none) one.crash two.crash;
    committed = λ clean. keeps_then (state g a) (state g b) (state g c)
        (one.committed (omega (arith, two.crash.clean))) (two.committed clean);
  }

  -- a statement in a transaction, or in one that a failure has ended
  pub executed : (old new : Held S) (sql : List ℕ) (params : Row) (result : Result ℕ Error)
      → (old.in_transaction ≡ false → new ≡ old)
      → (HasCleanDisk (state g new) → IsTrue old.in_transaction
      → ExecutesInside 0 sql params (state g old) (state g new) result)
      → Survives (state g old) (state g new) (λ _. ⊥) → CommitsNothing g old new
  executed old new sql params result ended runs crash = record {
    crash = crash;
    committed = λ clean. elim (cases_Bool old.in_transaction) [
      | inl within ↦ inside_keeps (state g old) (state g new) 0 false sql params result
          (runs clean within)
      | inr outside ↦ subst (λ h. KeepsCommit (state g old) (state g h)) (sym (ended outside))
          (keeps_itself (state g old))
    ];
  }

  -- a statement that didn't fail was run inside
  pub ran_inside : (old new : Held S) (sql : List ℕ) (params : Row) (result : Result ℕ Error)
      (count : ℕ) → result ≡ Ok count
      → (old.in_transaction ≡ false → result ≡ Err (SqliteFailure TransactionState))
      → (HasCleanDisk (state g new) → IsTrue old.in_transaction
      → ExecutesInside 0 sql params (state g old) (state g new) result)
      → Runs g old new
  ran_inside old new sql params result count is ended runs clean =
      elim (cases_Bool old.in_transaction) [
        | inl within ↦ (sql, params, count, rw is at (runs clean within))
        | inr outside ↦ absurd (let e = sym is ∙ ended outside in cc)
      ]

  -- no transaction was begun
  pub whole_unbegun : (n : ℕ) (h : Held S) {E : Type 0} (e : E) → IsWhole g n h h (Err e)
  whole_unbegun n h e = record {
    last = h;
    runs = tt;
    crash = survives_weaker (state g h) (state g h) _ _ (λ _ db none. absurd none)
        (survives_itself (state g h));
    ok = λ _. tt;
    err = λ _ _. refl;
  }

  pub whole_same : (n : ℕ) (old end new : Held S) {E : Type 0} (r s : Result (Unit {0}) E)
      → end ≡ new → r ≡ s → IsWhole g n old end s → IsWhole g n old new r
  whole_same n old end new r s same is h =
      subst (λ k. IsWhole g n old k r) same (subst (λ t. IsWhole g n old end t) (sym is) h)

  -- the same of other errors, and of equal counts and connections
  pub whole_with_ok : {E F : Type 0} (n m : ℕ) (was old new : Held S) → n ≡ m → was ≡ old
      → IsWhole {E = E} g n was new (Ok tt) → IsWhole {E = F} g m old new (Ok tt)
  whole_with_ok {E} {F} n m was old new count same h =
      subst (λ k. IsWhole {E = F} g k old new (Ok tt)) count
      (subst (λ k. IsWhole {E = F} g n k new (Ok tt)) same (record {
        last = h.last;
        runs = h.runs;
        crash = h.crash;
        ok = h.ok;
        err = λ _ _. tt;
      }))

  pub whole_with_err : {E F : Type 0} (n m : ℕ) (was old new : Held S) (e : E) (f : F) → n ≡ m
      → was ≡ old → IsWhole g n was new (Err e) → IsWhole g m old new (Err f)
  whole_with_err n m was old new e f count same h =
      subst (λ k. IsWhole g k old new (Err f)) count
      (subst (λ k. IsWhole g n k new (Err f)) same (record {
        last = h.last;
        runs = tt;
        crash = h.crash;
        ok = λ _. tt;
        err = h.err;
      }))

  module _ (n : ℕ) (old last new : Held S) (inside : CommitsNothing g (begun old) last)
      (crash : Survives (state g last) (state g new) (λ db. db ≡ (state g last).now.trees)) where
    survives : Survives (state g old) (state g new) (λ db. db ≡ (state g last).now.trees)
    survives = survives_then (state g old) (state g last) (state g new) _ _ _
        (λ _ db none. absurd none) (λ _ db is. is)
        (survives_begin g old (state g last) _ inside.crash) crash

    -- the changes are committed
    pub whole_made : {E : Type 0} → RunsAll g n (begun old) last
        → (HasCleanDisk (state g new) → (state g new).committed ≡ (state g last).now)
        → IsWhole {E = E} g n old new (Ok tt)
    whole_made runs made = record {
      last = last;
      runs = runs;
      crash = survives;
      ok = made;
      err = λ _ _. tt;
    }

    -- they are undone
    pub whole_undone : {E : Type 0} (e : E)
        → (HasCleanDisk (state g new) → KeepsCommit (state g last) (state g new))
        → IsWhole g n old new (Err e)
    whole_undone e kept = record {
      last = last;
      runs = tt;
      crash = survives;
      ok = λ _. tt;
      err = λ clean here. (kept clean).committed here
          ∙ (inside.committed (omega (arith, crash.clean))).committed
          ((kept clean).was_open here);
    }
