use Rattle.std.proofs.Common.{◌≡◌, ℕ, ◌-◌, List, [], length, drop, refl, sym, ap, subst, ◌∙◌, arith}
use Rattle.std.proofs.lemmas.List.{drop_all}
use Rattle.std.specs.FinMap.{get-empty}
use Rattle.std.specs.Ordering.{nat_cmp}
use Rattle.co_base.specs.declared.head.Kind.{Kind}
use Rattle.co_base.specs.declared.head.Kind.TheVariants.{Lock}
use Rattle.co_pairs.specs.declared.prepared.Prepared.{Prepared}
use Rattle.co_state.specs.Effects.{restored, records_from}
use Rattle.co_state.specs.Table.{look}
use Rattle.co_engine.specs.Calls.{votes_of}
use Rattle.co_lock.specs.LockedState.{of_records}
use Rattle.co_lock.specs.Standing.{StandsFor}
use Rattle.co_lock.proofs.Restoring.{fits_start, next_laid, next_free}
use Rattle.co_engine.proofs.Rolling.{kept_along, nothing_kept}
use Rattle.co_lock.proofs.engine.LockEngineEngine.restore.Goals as goal

pub loop-place-init : goal.loop-place-init
loop-place-init c =
    let records = records_from c.args.rows in
    let start : StandsFor (record { place = c.in_ok-of_rows.field-0; roll = c.new.result; nothing = c.new-2.result }) (restored Lock records (votes_of [])) = record {
      kind_is = refl;
      each = λ u. kept_along (sym (ap (λ m. look m u) c.new.ensures ∙ get-empty nat_cmp u)) (sym (get-empty nat_cmp u)) (sym (get-empty nat_cmp u)) nothing_kept;
      place = of_records records;
      locked = c.in_ok-of_rows.ensures;
      fits = fits_start records;
    } in
    record {
      within = omega arith;
      laid = subst (λ (ps : List Prepared). StandsFor (record { place = c.in_ok-of_rows.field-0; roll = c.new.result; nothing = c.new-2.result }) (restored Lock records (votes_of ps))) (sym (drop_all (length c.args.voted.now) c.args.voted.now (omega arith))) start;
    }

pub loop-place-preserved : goal.loop-place-preserved
loop-place-preserved c =
    let i = c.loop-place.invariant in
    let w = i.within in
    let t = c.loop-place-test.true in
    let voted = c.args.voted.now in
    let place = c.loop-place.place in
    let p = c.index-voted-place.result in
    record {
      within = omega (arith, w);
      laid = subst (λ (ps : List Prepared). StandsFor c.lay_vote.new.self (restored Lock (records_from c.args.rows) (votes_of ps)))
          (next_laid voted (place - 1) place p (omega (arith, w, t)) (omega (arith, t)) c.index-voted-place.is)
          (c.in_ok-lay_vote.ensures c.args.rows (drop place voted) i.laid (next_free voted (place - 1) place p c.requires.free (omega (arith, w, t)) (omega (arith, t)) c.index-voted-place.is));
    }

pub returns-clause-state : goal.returns-clause-state
returns-clause-state c =
    let f = c.loop-place-test.false in
    let none : c.loop-place.place ≡ 0 = omega (arith, f) in
    subst (λ (k : Kind). StandsFor c.loop-place.engine (restored k (records_from c.args.rows) (votes_of c.args.voted.now))) (sym c.requires.taken)
    (subst (λ (n : ℕ). StandsFor c.loop-place.engine (restored Lock (records_from c.args.rows) (votes_of (drop n c.args.voted.now)))) none c.loop-place.invariant.laid)
