use Rattle.std.proofs.Common.{◌≡◌, ◌∙◌, ℕ, Bool, List, refl, sym, subst}
use Rattle.co_outside.specs.Sink.{HasNoted}
use Rattle.co_top.specs.Checking.{ChecksAs}
use Rattle.co_top.specs.Command.{AsksResolve, AsksWaits, AsksTrial, AsksLook, AsksNothing}
use Rattle.co_top.specs.Ends.{note_of}
use Rattle.co_top.specs.Migrating.{MigratesAs}
use Rattle.co_top.specs.Ran.{IsRunEnd}
use Rattle.co_top.specs.Records.{WritesRecords}
use Rattle.co_top.specs.Resolving.{ResolvesAs}
use Rattle.co_top.specs.Running.{RunsAs}
use Rattle.co_top.specs.Trials.{TriesAs}
use Rattle.co_top.specs.Views.{source_seen, sink_seen}
use Rattle.co_top.specs.Following.{IsOfFollowed}
use Rattle.co_top.specs.Looking.{LooksAs, HasLooked, text_of_looked}
use Rattle.co_top.specs.Sights.{ask_for}
use Rattle.co_top.specs.Waiting.{WaitsAs, HasWaits, text_of_waits}
use Rattle.co_top.specs.declared.reader.Ask.{Ask}
use Rattle.co_top.specs.declared.status.Status.{Status}
use Rattle.co_top.specs.declared.status.Status.TheVariants as status
use Rattle.co_top.proofs.Completing.{done_or_wanting}
use Rattle.co_top.proofs.Headlines.{whole_run}
use Rattle.co_top.proofs.Judging.{exact_of as exact_check}
use Rattle.co_top.proofs.Migrations.{migrate_asked}
use Rattle.co_top.proofs.Recording.{exact_of}
use Rattle.co_top.proofs.Refusing.{refused_exactly}
use Rattle.co_top.proofs.FollowedWhole.{done_or_wanting as followed_done}
use Rattle.co_top.proofs.Asking.{run_asked, records_asked, resolve_asked, trial_asked, look_asked}
use Rattle.co_top.proofs.Trying.{not_usage}
use Rattle.co_top.proofs.top.run.Goals as goal

-- ---- a run

pub returns-in-Run-clause-run : goal.returns-in-Run-clause-run
returns-in-Run-clause-run g c = λ directory resume is.
    let e = c.replay-status.ensures in
    let left = g.S.Source.left c.replay-status.new.source in
    let out = g.K.Sink.told c.replay-status.new.out in
    let runs : Bool → List ℕ → Status → Type 0 = λ r d ended.
    RunsAs g.H.Home.seen r d (source_seen (g.S.Source.left c.args.source.now) (g.S.Source.faults c.args.source.now)) (source_seen left (g.S.Source.faults c.replay-status.new.source))
    (sink_seen (g.K.Sink.told c.args.out.now) (g.K.Sink.faults c.args.out.now)) (sink_seen out (g.K.Sink.faults c.replay-status.new.out)) c.args.home.now c.replay-status.new.home ended in
    let ran : runs c.in-Run.resume c.in-Run.directory.now c.replay-status.result =
    record {
      end = e.end;
      others = e.others;
      refused = λ input held l t. refused_exactly g.H.Home.seen c.in-Run.resume input left held out c.args.home.now c.replay-status.new.home c.replay-status.result (e.end input held l t);
      complete = λ input held l t free.
          done_or_wanting g.H.Home.seen c.in-Run.resume input left held out c.args.home.now c.replay-status.new.home _ _ _ _ _ _ c.replay-status.result e.read e.write (λ spot is. (e.device spot is).count) (e.end input held l t) free;
      clean = e.clean;
      entered = e.entered;
      read = record { failed = e.read; quiet = e.quiet_source };
      write = record { failed = e.write; quiet = e.quiet_sink };
      device = record { failed = e.device; quiet = e.quiet_home };
    } in
    let asked = run_asked (sym c.in-Run.ensures ∙ is) in
    subst (λ r. runs r directory c.told.result) asked.1 (subst (λ d. runs c.in-Run.resume d c.told.result) asked.0 (subst (λ s. runs c.in-Run.resume c.in-Run.directory.now s) (sym c.told.ensures.same) ran))

pub returns-in-Run-clause-headline : goal.returns-in-Run-clause-headline
returns-in-Run-clause-headline g c = λ directory input held resume is l t done r files whole.
    let left = g.S.Source.left c.replay-status.new.source in
    let out = g.K.Sink.told c.replay-status.new.out in
    let end = subst (λ r. IsRunEnd g.H.Home.seen r input left held out c.args.home.now c.replay-status.new.home c.replay-status.result) (run_asked (sym c.in-Run.ensures ∙ is)).1 (c.replay-status.ensures.end input held l t) in
    whole_run g.H.Home.seen resume input left held out c.args.home.now c.replay-status.new.home
    (subst (IsRunEnd g.H.Home.seen resume input left held out c.args.home.now c.replay-status.new.home) (sym c.told.ensures.same ∙ done) end) r files whole

-- ---- the records

pub returns-in-Records-clause-records : goal.returns-in-Records-clause-records
returns-in-Records-clause-records g c = λ directory is.
    let e = c.records-status.ensures in
    let writes : List ℕ → Status → Type 0 = λ d ended.
    WritesRecords d (sink_seen (g.K.Sink.told c.args.out.now) (g.K.Sink.faults c.args.out.now)) (sink_seen (g.K.Sink.told c.records-status.new.out) (g.K.Sink.faults c.records-status.new.out))
    (g.H.Home.seen c.args.home.now) (g.H.Home.seen c.records-status.new.home) ended in
    let wrote : writes c.in-Records.directory.now c.records-status.result =
    record {
      cause = e.cause;
      exact = λ told. exact_of (g.H.Home.seen c.args.home.now).file told c.records-status.result e.cause;
      durable = e.durable;
      files = e.files;
      entered = e.entered;
      write = record { failed = e.write; quiet = e.quiet_sink };
      device = record { failed = e.device; quiet = e.quiet_home };
    } in
    (refl, subst (λ d. writes d c.told-in-Records.result) (records_asked (sym c.in-Records.ensures ∙ is)) (subst (λ s. writes c.in-Records.directory.now s) (sym c.told-in-Records.ensures.same) wrote))

pub returns-in-Records-clause-noted : goal.returns-in-Records-clause-noted
returns-in-Records-clause-noted g c = λ held l.
    let old = c.args.notes.now in
    let notes = c.told-in-Records.new.notes in
    subst (λ (s : Status). HasNoted held (note_of s) (g.N.Sink.told notes) (g.N.Sink.faults old) (g.N.Sink.faults notes) (g.N.Sink.lacks old) (g.N.Sink.lacks notes))
    (sym c.told-in-Records.ensures.same) (c.told-in-Records.ensures.noted held l)

-- ---- doubts are resolved

pub returns-in-Resolve-clause-resolve : goal.returns-in-Resolve-clause-resolve
returns-in-Resolve-clause-resolve g c = λ directory is.
    let resolves : List ℕ → Status → Type 0 = λ d ended.
    ResolvesAs g.H.Home.seen d (source_seen (g.S.Source.left c.args.source.now) (g.S.Source.faults c.args.source.now)) (source_seen (g.S.Source.left c.resolve-status.new.source) (g.S.Source.faults c.resolve-status.new.source))
    (sink_seen (g.K.Sink.told c.args.out.now) (g.K.Sink.faults c.args.out.now)) (sink_seen (g.K.Sink.told c.resolve-status.new.out) (g.K.Sink.faults c.resolve-status.new.out)) c.args.home.now c.resolve-status.new.home ended in
    subst (λ d. resolves d c.told-in-Resolve.result) (resolve_asked (sym c.in-Resolve.ensures ∙ is)) (subst (λ s. resolves c.in-Resolve.directory.now s) (sym c.told-in-Resolve.ensures.same) c.resolve-status.ensures.resolves)

pub returns-in-Resolve-clause-usage : goal.returns-in-Resolve-clause-usage
returns-in-Resolve-clause-usage g c =
    let never : c.told-in-Resolve.result ≡ status.Usage → ⊥ = λ e. c.resolve-status.ensures.own (sym c.told-in-Resolve.ensures.same ∙ e) in (
      (
        λ e. absurd (never e),
        λ none. absurd (let z : AsksResolve c.in-Resolve.directory.now ≡ AsksNothing = sym c.in-Resolve.ensures ∙ none in cc),
      ),
      λ e. absurd (never e),
    )

pub returns-in-Resolve-clause-noted : goal.returns-in-Resolve-clause-noted
returns-in-Resolve-clause-noted g c = λ held is.
    subst
    (λ (s : Status).
    HasNoted held (note_of s) (g.N.Sink.told c.told-in-Resolve.new.notes) (g.N.Sink.faults c.args.notes.now) (g.N.Sink.faults c.told-in-Resolve.new.notes) (g.N.Sink.lacks c.args.notes.now)
    (g.N.Sink.lacks c.told-in-Resolve.new.notes))
    (sym c.told-in-Resolve.ensures.same) (c.told-in-Resolve.ensures.noted held is)

-- ---- logs are migrated

pub returns-in-Migrate-clause-migrate : goal.returns-in-Migrate-clause-migrate
returns-in-Migrate-clause-migrate g c = λ directory is.
    let e = c.migrate-status.ensures in
    let migrates : List ℕ → Status → Type 0 = λ d ended.
    MigratesAs d (sink_seen (g.K.Sink.told c.args.out.now) (g.K.Sink.faults c.args.out.now)) (sink_seen (g.K.Sink.told c.migrate-status.new.out) (g.K.Sink.faults c.migrate-status.new.out))
    (g.H.Home.seen c.args.home.now) (g.H.Home.seen c.migrate-status.new.home) ended in
    let migrated : migrates c.in-Migrate.directory.now c.migrate-status.result =
    record {
      end = e.end;
      own = e.own;
      told = e.told;
      entered = e.entered;
      clean = e.clean;
      write = record { failed = e.write; quiet = e.quiet_sink };
      device = record { failed = e.device; quiet = e.quiet_home };
    } in
    (refl, subst (λ d. migrates d c.told-in-Migrate.result) (migrate_asked (sym c.in-Migrate.ensures ∙ is)) (subst (λ s. migrates c.in-Migrate.directory.now s) (sym c.told-in-Migrate.ensures.same) migrated))

pub returns-in-Migrate-clause-noted : goal.returns-in-Migrate-clause-noted
returns-in-Migrate-clause-noted g c = λ held is.
    subst
    (λ (s : Status).
    HasNoted held (note_of s) (g.N.Sink.told c.told-in-Migrate.new.notes) (g.N.Sink.faults c.args.notes.now) (g.N.Sink.faults c.told-in-Migrate.new.notes) (g.N.Sink.lacks c.args.notes.now)
    (g.N.Sink.lacks c.told-in-Migrate.new.notes))
    (sym c.told-in-Migrate.ensures.same) (c.told-in-Migrate.ensures.noted held is)

-- ---- a transcript is judged

pub returns-in-Check-clause-check : goal.returns-in-Check-clause-check
returns-in-Check-clause-check g c = λ is.
    let e = c.check-status.ensures in
    let out = g.K.Sink.told c.check-status.new.out in
    let checks = λ (ended : Status).
    ChecksAs (source_seen (g.S.Source.left c.args.source.now) (g.S.Source.faults c.args.source.now)) (source_seen (g.S.Source.left c.check-status.new.source) (g.S.Source.faults c.check-status.new.source))
    (sink_seen (g.K.Sink.told c.args.out.now) (g.K.Sink.faults c.args.out.now)) (sink_seen out (g.K.Sink.faults c.check-status.new.out)) ended in
    let checked : checks c.check-status.result =
    record {
      end = e.end;
      judged = λ input held l t. exact_check input held out c.check-status.result (e.end input held l t);
      read = record { failed = e.read; quiet = e.quiet_source };
      write = record { failed = e.write; quiet = e.quiet_sink };
    } in
    (refl, subst checks (sym c.told-in-Check.ensures.same) checked)

-- ---- held votes

pub returns-in-Waits-clause-waits : goal.returns-in-Waits-clause-waits
returns-in-Waits-clause-waits g c = λ is.
    let e = c.waits-status.ensures in
    let waits = λ (ended : Status).
    WaitsAs (source_seen (g.S.Source.left c.args.source.now) (g.S.Source.faults c.args.source.now)) (source_seen (g.S.Source.left c.waits-status.new.source) (g.S.Source.faults c.waits-status.new.source))
    (sink_seen (g.K.Sink.told c.args.out.now) (g.K.Sink.faults c.args.out.now)) (sink_seen (g.K.Sink.told c.waits-status.new.out) (g.K.Sink.faults c.waits-status.new.out)) ended in
    let out = g.K.Sink.told c.waits-status.new.out in
    let waited : waits c.waits-status.result =
    record {
      end = e.end;
      complete = λ input held l t followed. followed_done input HasWaits text_of_waits held out _ _ _ _ followed c.waits-status.result e.read e.write (e.end input held l t);
      read = record { failed = e.read; quiet = e.quiet_source };
      write = record { failed = e.write; quiet = e.quiet_sink };
    } in
    (refl, subst waits (sym c.told-in-Waits.ensures.same) waited)

pub returns-in-Waits-clause-usage : goal.returns-in-Waits-clause-usage
returns-in-Waits-clause-usage g c =
    let never : c.told-in-Waits.result ≡ status.Usage → ⊥ = λ e. subst IsOfFollowed (sym c.told-in-Waits.ensures.same ∙ e) c.waits-status.ensures.own in (
      (
        λ e. absurd (never e),
        λ none. absurd (let z : AsksWaits ≡ AsksNothing = sym c.in-Waits.ensures ∙ none in cc),
      ),
      λ e. absurd (never e),
    )

-- ---- a reader

pub look-status-requires-clause-numbers : goal.look-status-requires-clause-numbers
look-status-requires-clause-numbers g c = let is = c.in-Look.ensures in (is.1, is.2)

pub returns-in-Look-clause-look : goal.returns-in-Look-clause-look
returns-in-Look-clause-look g c = λ ask is.
    let e = c.look-status.ensures in
    let out = g.K.Sink.told c.look-status.new.out in
    let asked : Ask = ask_for c.in-Look.member c.in-Look.line c.in-Look.low.now c.in-Look.high.now in
    let looks : Ask → Status → Type 0 = λ a ended.
    LooksAs a (source_seen (g.S.Source.left c.args.source.now) (g.S.Source.faults c.args.source.now)) (source_seen (g.S.Source.left c.look-status.new.source) (g.S.Source.faults c.look-status.new.source))
    (sink_seen (g.K.Sink.told c.args.out.now) (g.K.Sink.faults c.args.out.now)) (sink_seen (g.K.Sink.told c.look-status.new.out) (g.K.Sink.faults c.look-status.new.out)) ended in
    let looked : looks asked c.look-status.result =
    record {
      end = e.end;
      complete = λ input held l t followed. followed_done input (HasLooked asked) (text_of_looked asked) held out _ _ _ _ followed c.look-status.result e.read e.write (e.end input held l t);
      read = record { failed = e.read; quiet = e.quiet_source };
      write = record { failed = e.write; quiet = e.quiet_sink };
    } in
    (refl, subst (λ a. looks a c.told-in-Look.result) (look_asked (sym c.in-Look.ensures.0 ∙ is)) (subst (looks asked) (sym c.told-in-Look.ensures.same) looked))

pub returns-in-Look-clause-usage : goal.returns-in-Look-clause-usage
returns-in-Look-clause-usage g c =
    let never : c.told-in-Look.result ≡ status.Usage → ⊥ = λ e. subst IsOfFollowed (sym c.told-in-Look.ensures.same ∙ e) c.look-status.ensures.own in (
      (
        λ e. absurd (never e),
        λ none. absurd (let z : AsksLook (ask_for c.in-Look.member c.in-Look.line c.in-Look.low.now c.in-Look.high.now) ≡ AsksNothing = sym c.in-Look.ensures.0 ∙ none in cc),
      ),
      λ e. absurd (never e),
    )

-- ---- a trial

pub trial-status-requires : goal.trial-status-requires
trial-status-requires g c = (c.in-Trial.ensures.1, c.in-Trial.ensures.2)

pub returns-in-Trial-clause-usage : goal.returns-in-Trial-clause-usage
returns-in-Trial-clause-usage g c =
    let never : c.told-in-Trial.result ≡ status.Usage → ⊥ = λ e. not_usage c.trial-status.result c.trial-status.ensures.own (sym c.told-in-Trial.ensures.same ∙ e) in (
      (
        λ e. absurd (never e),
        λ none. absurd (let z : AsksTrial c.in-Trial.number c.in-Trial.events ≡ AsksNothing = sym c.in-Trial.ensures.0 ∙ none in cc),
      ),
      λ e. absurd (never e),
    )

pub returns-in-Trial-clause-trial : goal.returns-in-Trial-clause-trial
returns-in-Trial-clause-trial g c = λ number events is.
    let e = c.trial-status.ensures in
    let tries : ℕ → ℕ → Status → Type 0 = λ n m ended. TriesAs n m (sink_seen (g.K.Sink.told c.args.out.now) (g.K.Sink.faults c.args.out.now)) (sink_seen (g.K.Sink.told c.trial-status.new.out) (g.K.Sink.faults c.trial-status.new.out)) ended in
    let tried : tries c.in-Trial.number c.in-Trial.events c.trial-status.result = record { end = e.end; write = record { failed = e.write; quiet = e.quiet } } in
    let asked = trial_asked (sym c.in-Trial.ensures.0 ∙ is) in
    (refl, refl, subst (λ n. tries n events c.told-in-Trial.result) asked.0 (subst (λ m. tries c.in-Trial.number m c.told-in-Trial.result) asked.1 (subst (λ s. tries c.in-Trial.number c.in-Trial.events s) (sym c.told-in-Trial.ensures.same) tried)))
