use Rattle.std.proofs.Common.{List, true, refl, sym, ap, subst, ◌∙◌}
use Rattle.std.specs.FinMap.{get-empty}
use Rattle.std.specs.Ordering.{nat_cmp}
use Rattle.co_base.specs.declared.written.Written.{Written}
use Rattle.co_state.proofs.Tables.{on_ok}
use Rattle.co_state.specs.declared.engine_state.Sets.{Sets}
use Rattle.co_state.specs.declared.engine_state.Operation.{Operation}
use Rattle.co_state.specs.Effects.{records_from}
use Rattle.co_state.specs.Keys.{writes_key}
use Rattle.co_state.specs.Table.{Table, no_entries, look, put}
use Rattle.co_engine.specs.Calls.{votes_of, vote_in}
use Rattle.co_engine.specs.declared.undecided.Undecided.{Undecided}
use Rattle.co_lock.specs.Locked.{IsLocked}
use Rattle.co_lock.specs.LockedState.{with_writes}
use Rattle.co_engine.specs.Undecided.{IsKept}
use Rattle.co_lock.proofs.Restoring.{alone, fits_laid}
use Rattle.co_engine.proofs.Rolling.{each_voted}
use Rattle.co_lock.proofs.engine.LockEngine.lay_vote.Goals as goal

pub returns : goal.returns
returns c = λ rows ps s free.
    let p = c.args.prepared.now in
    let old = c.args.self.now in
    let records = records_from rows in
    on_ok c.put.result
    (λ e. record {
      kind_is = refl;
      each = λ u. subst (λ (m : Table Undecided). IsKept (look m u) (look (no_entries {X = List Operation}) u) (look (put (votes_of ps) p.txn (vote_in p)) u))
          (sym (e ∙ ap (λ (sets : Sets). put old.roll p.txn (record { voted = true; sets = sets })) c.in_ok-copy.ensures))
          (each_voted old.roll no_entries (votes_of ps) p.txn (vote_in p) s.each (get-empty nat_cmp p.txn) u);
      place = with_writes s.place p.txn p.sets.writes;
      locked = subst (λ (ws : List Written). IsLocked c.lay_changes.new.place (with_writes s.place p.txn ws)) c.writes.ensures
          (c.in_ok-lay_changes.ensures s.place s.locked (λ q w. alone s.place records p ps s.fits free q (ap (λ ws. writes_key ws q) (sym c.writes.ensures) ∙ w)));
      fits = fits_laid s.place records p ps s.fits free;
    })
    c.put.ensures
