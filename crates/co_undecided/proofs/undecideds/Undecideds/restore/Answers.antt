use Rattle.std.proofs.Common.{◌≡◌, true, [], ◌∷◌, drop, sym, ap, subst, ◌∙◌, arith}
use Rattle.std.specs.Prelude.{◌-◌, suc}
use Rattle.std.proofs.Math.Seq.{drop-cons, drop-length}
use Rattle.co_pairs.specs.Free.{are_free}
use Rattle.co_pairs.specs.Votes.{votes_of}
use Rattle.co_state.specs.Effects.{restored, records_from}
use Rattle.co_state.specs.Table.{look}
use Rattle.co_undecided.specs.Represented.{HaveEntered}
use Rattle.co_undecided.proofs.Restoring.{no_votes, votes_entries, none_active, none_asked, free_first, free_drop, nobody_there}
use Rattle.co_undecided.proofs.undecideds.Undecideds.restore.Goals as goal

pub loop-left-init : goal.loop-left-init
loop-left-init g c = record {
  entered = subst (HaveEntered c.new-index.result c.new-entries.result) (sym (drop-length c.args.voted.now)) (record {
    indexed = λ kind records. c.new-index.ensures (restored kind records (votes_of [])) (nobody_there kind records);
    entries = λ t. ap (λ es. look es t) c.new-entries.ensures ∙ no_votes t;
  });
  within = omega arith;
}

pub loop-left-preserved : goal.loop-left-preserved
loop-left-preserved g c =
    let last : suc (c.loop-left.left - 1) ≡ c.loop-left.left = omega (arith, c.loop-left-test.true) in
    let at = drop-cons c.args.voted.now (c.loop-left.left - 1) c.in-Some.vote.now (omega (arith, c.loop-left-test.true, c.loop-left.invariant.within)) in
    let lent = sym c.in-Some.ensures.lookup.1 in
    let rest = at ∙ ap (λ x. x ∷ drop (suc (c.loop-left.left - 1)) c.args.voted.now) lent ∙ ap (λ n. c.in-Some.vote.now ∷ drop n c.args.voted.now) last in
    let free = free_first c.in-Some.vote.now (drop c.loop-left.left c.args.voted.now)
    (subst (λ ps. are_free ps ≡ true) rest (free_drop (c.loop-left.left - 1) c.args.voted.now c.requires.free)) in
    record {
      entered = subst (HaveEntered c.enter.new.index c.enter.new.entries) (sym rest) (c.in_ok-enter-in-Some.ensures (drop c.loop-left.left c.args.voted.now) c.loop-left.invariant.entered free);
      within = omega (arith, c.loop-left.invariant.within);
    }

pub returns-clause-stands : goal.returns-clause-stands
returns-clause-stands g c =
    let none : c.loop-left.left ≡ 0 = omega (arith, c.loop-left-test.false) in
    let entered = subst (λ n. HaveEntered c.loop-left.index c.loop-left.entries (drop n c.args.voted.now)) none c.loop-left.invariant.entered in
    record {
      engine = c.in_ok-engine.ensures.state;
      index = entered.indexed c.args.kind (records_from c.args.rows);
      entries = votes_entries c.args.kind (records_from c.args.rows) c.loop-left.entries c.args.voted.now entered.entries;
      apart = λ u h. none_active u;
      marks = λ u h. none_asked u;
    }
