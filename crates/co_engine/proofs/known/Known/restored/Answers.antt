use Rattle.std.proofs.Common.{◌≡◌, ◌-◌, drop, ap, sym, ◌∙◌, subst, arith}
use Rattle.co_engine.specs.declared.known.Known.{Known}
use Rattle.co_engine.specs.Known.{IsKnown}
use Rattle.co_engine.specs.Calls.{votes_of}
use Rattle.co_pairs.specs.declared.prepared.Prepared.{Prepared}
use Rattle.co_state.specs.Effects.{restored}
use Rattle.co_state.specs.Table.{holds, put}
use Rattle.co_engine.proofs.Knowing.{voted_more, none_voted, known_restored}
use Rattle.co_engine.proofs.known.Known.restored.Goals as goal

pub loop-place-init : goal.loop-place-init
loop-place-init c = record {
  within = omega arith;
  same = λ t. ap (λ m. holds m t) c.new-voted.ensures ∙ none_voted c.args.prepared.now t;
}

pub loop-place-preserved : goal.loop-place-preserved
loop-place-preserved c =
    let w = c.loop-place.invariant.within in
    let l = c.loop-place-test.true in
    record {
      within = omega (arith, w);
      same = λ t.
          ap (λ m. holds m t) c.in_ok-insert.ensures.ok ∙ ap (λ (p : Prepared). holds (put c.loop-place.voted p.txn tt) t) (sym c.index-prepared-place.is)
          ∙ voted_more c.loop-place.voted c.args.prepared.now (c.loop-place.place - 1) c.loop-place.place c.index-prepared-place.result (omega (arith, w, l)) (omega (arith, l)) c.index-prepared-place.is c.loop-place.invariant.same t;
    }

pub returns : goal.returns
returns c = λ kind records.
    let z : c.loop-place.place ≡ 0 = omega (arith, c.loop-place-test.false) in
    subst (λ (known : Known). IsKnown known (restored kind records (votes_of c.args.prepared.now)))
    (λ i. record { active = sym c.new.ensures i; voted = c.loop-place.voted; installed = sym c.new-2.ensures i })
    (known_restored c.loop-place.voted c.args.prepared.now kind records (λ t. c.loop-place.invariant.same t ∙ ap (λ n. holds (votes_of (drop n c.args.prepared.now)) t) z))
