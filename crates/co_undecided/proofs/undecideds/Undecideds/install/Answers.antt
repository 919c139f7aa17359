use Rattle.std.proofs.Common.{◌≡◌, None, sym, ap, ◌∙◌}
use Rattle.co_state.specs.Table.{look, without, holds}
use Rattle.co_undecided.specs.Kept.{entry_of}
use Rattle.co_state.specs.Effects.{after_install, install_vote}
use Rattle.co_undecided.proofs.Numbered.{gone, left}
use Rattle.co_undecided.proofs.Ballots.{voted_undecided, index_installed}
use Rattle.co_undecided.proofs.Entering.{taken}
use Rattle.co_undecided.proofs.Standing.{not_held, held, installed_apart}
use Rattle.co_undecided.proofs.undecideds.Undecideds.install.Goals as goal

pub returns-clause-stands : goal.returns-clause-stands
returns-clause-stands g c = λ b asked r is_voted inactive.
    let t = c.args.t in
    let vote = held (look b.voted t) is_voted in
    let idle = not_held (look b.active t) inactive in
    let votes : (after_install b t).voted ≡ without b.voted t = ap (λ v. (install_vote b t v).voted) vote.1 in
    let actives : (after_install b t).active ≡ b.active = ap (λ v. (install_vote b t v).active) vote.1 in
    record {
      engine = c.in_ok-install.ensures.state b r.engine is_voted;
      index = index_installed b t vote.0 c.forget.new.self vote.1 idle (c.forget.ensures b r.index (c.sets.ensures b r.engine (voted_undecided b t is_voted)));
      entries = λ u. ap (λ es. look es u) c.take.ensures ∙ taken b asked _ t r.entries (after_install b t) asked
          (ap (λ m. entry_of (look m t) (look (after_install b t).voted t) (look asked t)) actives ∙ ap (λ m. entry_of (look b.active t) (look m t) (look asked t)) votes
          ∙ ap (λ a. entry_of a (look (without b.voted t) t) (look asked t)) idle ∙ ap (λ v. entry_of None v (look asked t)) (gone b.voted t))
          (λ v n. ap (λ m. entry_of (look m v) (look (after_install b t).voted v) (look asked v)) actives ∙ ap (λ m. entry_of (look b.active v) (look m v) (look asked v)) votes
          ∙ ap (λ w. entry_of (look b.active v) w (look asked v)) (left b.voted t v n)) u;
      apart = λ u h. ap (λ m. look m u) actives ∙ installed_apart b.active b.voted asked r.apart r.marks t u (sym (ap (λ m. holds m u) votes) ∙ h);
      marks = λ u h. r.marks u (sym (ap (λ m. look m u) actives) ∙ h);
    }
