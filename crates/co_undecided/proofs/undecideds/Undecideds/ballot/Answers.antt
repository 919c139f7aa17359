use Rattle.std.proofs.Common.{◌≡◌, None, sym, ap, ◌∙◌}
use Rattle.std.specs.Prelude.{option_copied}
use Rattle.co_state.specs.StaleRead.{stale_key}
use Rattle.co_state.specs.Table.{look}
use Rattle.co_state.specs.VotingRule.{kept_count, holder_of}
use Rattle.co_vote.specs.Ballots.{verdict_on}
use Rattle.co_undecided.specs.Kept.{entry_at, kept_in}
use Rattle.co_undecided.proofs.Ballots.{is_active, own_sets, active_undecided, without_operations}
use Rattle.co_undecided.proofs.Standing.{not_held}
use Rattle.co_undecided.proofs.undecideds.Undecideds.ballot.Goals as goal

pub returns-then-kept-eq0 : goal.returns-then-kept-eq0
returns-then-kept-eq0 g c = λ b asked r unvoted.
    let idle = not_held (look b.voted c.args.t) unvoted in
    let zero : c.kept-kept.result ≡ 0 = c.if-kept-eq0.true in
    let none : kept_in (entry_at b asked c.args.t) ≡ 0 = ap kept_in (sym (r.entries c.args.t)) ∙ sym c.kept-kept.ensures.shown ∙ zero in
    c.ballot.ensures.rule ∙ ap (λ n. verdict_on n c.args.carried None None) zero ∙ without_operations b asked c.args.t idle c.args.carried none

pub returns : goal.returns
returns g c = λ b asked r unvoted.
    let t = c.args.t in
    let idle = not_held (look b.voted t) unvoted in
    let kept : c.kept-kept.result ≡ kept_count b t = c.kept-kept.ensures.counted b asked r in
    let active = is_active b asked t idle (λ e. c.if-kept-eq0.false (kept ∙ e)) in
    let stale = c.stale.ensures b r.engine active in
    let holder = c.holder-holder.ensures b r.index r.apart ∙ ap (holder_of b t) (c.sets.ensures b r.engine (active_undecided b t active) ∙ own_sets b t idle) in
    c.ballot-2.ensures.rule
    ∙ ap (λ n. verdict_on n c.args.carried (option_copied c.stale.result) c.holder-holder.result) kept
    ∙ ap (λ k. verdict_on (kept_count b t) c.args.carried k c.holder-holder.result) stale
    ∙ ap (verdict_on (kept_count b t) c.args.carried (stale_key b t)) holder
