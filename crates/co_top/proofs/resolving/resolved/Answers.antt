use Rattle.std.proofs.Common.{◌≡◌, ◌∙◌, ℕ, List, Option, None, Some, Err, ◌<◌, refl, sym, ap, subst, length}
use Rattle.co_base.specs.declared.head.Kind.{Kind}
use Rattle.co_opening.specs.Rest.{IsFileOf}
use Rattle.co_outside.specs.Faults.{HasRisen}
use Rattle.co_outside.specs.Home.{HasFailed}
use Rattle.co_outside.specs.declared.spot.Spot.{Spot}
use Rattle.co_top.specs.Heads.{IsEnding}
use Rattle.co_top.specs.Replayed.{status_of}
use Rattle.co_top.specs.Resolving.{ResolvesAs, IsResolveEnd, Unfinished}
use Rattle.co_top.specs.Telling.{HasEnded}
use Rattle.co_top.specs.Views.{source_seen, sink_seen}
use Rattle.co_top.specs.declared.status.Status.{Status}
use Rattle.co_top.specs.declared.status.Status.TheVariants as status
use Rattle.co_top.proofs.Ending.{err_inner, ended_quiet, failed_as}
use Rattle.co_top.proofs.Plays.{err_is, not_err}
use Rattle.co_top.proofs.Resolves.{resolve_ends, resolve_refused, IsOfTurns, resolved_own, resolved_or_wanting, error_of, status_is}
use Rattle.co_top.proofs.resolving.resolved.Goals as goal

-- ---- the schedule was not done to its end

pub returns-in_err-ended-clause-resolves : goal.returns-in_err-ended-clause-resolves
returns-in_err-ended-clause-resolves g c =
    let e = c.in_err-ended.ensures in
    let why = c.in_err-ended.field-0.0 in
    let left = g.S.Source.left c.replay_to_end.new.source in
    let out = g.K.Sink.told c.replay_to_end.new.out in
    let resolves = λ (ended : Status).
    ResolvesAs g.H.Home.seen c.args.directory.now (source_seen (g.S.Source.left c.args.source.now) (g.S.Source.faults c.args.source.now)) (source_seen left (g.S.Source.faults c.replay_to_end.new.source))
    (sink_seen (g.K.Sink.told c.args.out.now) (g.K.Sink.faults c.args.out.now)) (sink_seen out (g.K.Sink.faults c.replay_to_end.new.out)) c.args.home.now c.replay_to_end.new.home ended in
    let other : why ≡ status.Done → ⊥ = λ is. subst IsEnding is e.own in
    let ended : resolves why =
    record {
      end = λ input held l t. Unfinished (e.end input held l t) other;
      others = e.others;
      refused = λ input held l t. resolve_refused g.H.Home.seen input left held out c.args.home.now c.replay_to_end.new.home why (Unfinished (e.end input held l t) other);
      complete = λ input held l t u.
          resolved_or_wanting g.H.Home.seen input left held out c.args.home.now c.replay_to_end.new.home _ _ _ _ _ _ why (λ is. e.read (ap Err is)) (λ is. e.write (ap Err is)) (λ spot is. (e.device spot (ap Err is)).count)
          (Unfinished (e.end input held l t) other) u;
      clean = e.clean;
      entered = λ is. absurd (other is);
      read = record { failed = λ is. e.read (ap Err is); quiet = λ none. e.quiet_source (λ is. none (err_inner _ _ _ refl is)) };
      write = record { failed = λ is. e.write (ap Err is); quiet = λ none. e.quiet_sink (λ is. none (err_inner _ _ _ refl is)) };
      device = record { failed = λ spot is. e.device spot (ap Err is); quiet = λ none. e.quiet_home (λ spot is. none spot (err_inner _ _ _ refl is)) };
    } in
    subst (λ o. resolves (status_of o)) (sym (err_is c.from_residual.result why c.from_residual.ensures)) ended

pub returns-in_err-ended-clause-own : goal.returns-in_err-ended-clause-own
returns-in_err-ended-clause-own g c = λ is.
    let why = c.in_err-ended.field-0.0 in
    subst IsEnding (sym (status_is c.from_residual.result why (err_is c.from_residual.result why c.from_residual.ensures)) ∙ is) c.in_err-ended.ensures.own

-- ---- it was, and the doubts took their turns

pub consult_all-told-requires-clause-asks : goal.consult_all-told-requires-clause-asks
consult_all-told-requires-clause-asks g c = let q = c.in_ok-ended.ensures.reached in (q.state, q.stands, q.reached refl, q.members)

pub returns-clause-own : goal.returns-clause-own
returns-clause-own g c = λ is.
    let q = c.in_ok-ended.ensures.reached in
    let resolved = c.consult_all-told.ensures.resolved q.state q.stands (q.reached refl) in
    subst IsOfTurns is
    (resolved_own q.state c.in_ok-ended.ended.number (g.K.Sink.told c.replay_to_end.new.out) (g.K.Sink.told c.consult_all-told.new.out) (g.H.Home.seen c.consult_all-told.new.home).file c.consult_all-told.result resolved)

pub returns-clause-resolves : goal.returns-clause-resolves
returns-clause-resolves g c =
    let q = c.in_ok-ended.ensures.reached in
    let before = c.in_ok-ended.ensures in
    let after = c.consult_all-told.ensures in
    let result = c.consult_all-told.result in
    let left = g.S.Source.left c.replay_to_end.new.source in
    let mid = g.K.Sink.told c.replay_to_end.new.out in
    let out = g.K.Sink.told c.consult_all-told.new.out in
    let old = g.H.Home.seen c.args.home.now in
    let between = g.H.Home.seen c.replay_to_end.new.home in
    let new = g.H.Home.seen c.consult_all-told.new.home in
    let resolved = after.resolved q.state q.stands (q.reached refl) in
    let rest = after.rest q.state q.stands in
    let quiet_home : between.faults ≡ old.faults = before.quiet_home (λ spot is. not_err _ _ is) in
    let quiet_sink : g.K.Sink.faults c.replay_to_end.new.out ≡ g.K.Sink.faults c.args.out.now = before.quiet_sink (λ is. not_err _ _ is) in
    let ended_new : HasEnded between new (status_of result) = after.ended in
    let differs : (spot : Spot) (at : ℕ) (kept read : Option ℕ) → result ≡ Err (status.Differs spot at kept read) → (old.file spot ≡ None) × (spot.part < 2) =
    λ spot at kept read is.
    let h : HasEnded between new (status.Differs spot at kept read) = subst (λ o. HasEnded between new (status_of o)) is ended_new in
    (q.told_still spot h.1, h.2) in
    let ends : (input held : List ℕ) → g.S.Source.left c.args.source.now ≡ Some input → g.K.Sink.told c.args.out.now ≡ Some held → IsResolveEnd g.H.Home.seen input left held out c.args.home.now c.consult_all-told.new.home (status_of result) =
    λ input held l t. resolve_ends g.H.Home.seen input left held c.args.home.now c.consult_all-told.new.home mid out q.state c.in_ok-ended.ended.number (q.run input held l t) (q.reached refl) result differs resolved in
    let no_read : status_of result ≡ status.Read → ⊥ = λ is. subst IsOfTurns is (resolved_own q.state c.in_ok-ended.ended.number mid out new.file result resolved) in
    let sink_failed : status_of result ≡ status.Write → HasRisen (g.K.Sink.faults c.args.out.now) (g.K.Sink.faults c.consult_all-told.new.out) =
    λ is. subst (λ n. HasRisen n (g.K.Sink.faults c.consult_all-told.new.out)) quiet_sink (after.failed (error_of result status.Write (λ w. let z : status.Write ≡ status.Done = w in cc) is)) in
    let device_failed : (spot : Spot) → status_of result ≡ status.Device spot → HasFailed spot old new =
    λ spot is. let f = failed_as between new old.faults (status_of result) spot quiet_home ended_new is in record { count = f.0; named = f.1 } in
    record {
      end = ends;
      others = λ input l s apart.
          let n = q.nodes input l in
          rest.files.others s
          (λ own. apart n.head n.text n.headed (subst (λ (ks : List Kind). IsFileOf (length ks) n.head.coords s) n.members (subst (λ k. IsFileOf (length q.state.kinds) k s) n.coordinators own)))
          ∙ before.others input l s apart;
      refused = λ input held l t. resolve_refused g.H.Home.seen input left held out c.args.home.now c.consult_all-told.new.home (status_of result) (ends input held l t);
      complete = λ input held l t u.
          resolved_or_wanting g.H.Home.seen input left held out c.args.home.now c.consult_all-told.new.home _ _ _ _ _ _ (status_of result) (λ is. absurd (no_read is)) sink_failed (λ spot is. (device_failed spot is).count) (ends input held l t) u;
      clean = λ is s was. after.clean is s (before.clean tt s was);
      entered = λ is. rest.directory ∙ before.entered;
      read = record { failed = λ is. absurd (no_read is); quiet = λ none. before.quiet_source (λ is. not_err _ _ is) };
      write = record { failed = sink_failed; quiet = λ none. after.quiet (λ is. none (status_is result status.Write is)) ∙ quiet_sink };
      device = record { failed = device_failed; quiet = λ none. ended_quiet between new (status_of result) ended_new none ∙ quiet_home };
    }
