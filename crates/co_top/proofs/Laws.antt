-- What the laws say of a run over logs that may be run: an event can be done in each of its states, and it keeps what is promised.
use Rattle.std.proofs.Common.{inl, inr, ℕ, Bool, List, [], ◌∷◌, length, Option, sym, subst, ◌∙◌}
use Rattle.std.specs.List.{AllByRecursion}
use Rattle.co_base.specs.declared.head.Head.{Head}
use Rattle.co_message.specs.declared.event.Event.{Event}
use Rattle.co_message.specs.declared.event.Event.TheVariants as event
use Rattle.co_outside.specs.declared.spot.Spot.{Spot}
use Rattle.co_outside.specs.Home.{File}
use Rattle.co_plain.specs.Federation.{Federation}
use Rattle.co_plain.specs.Opening.{Found, opened}
use Rattle.co_plain.specs.Runs.{run, lines}
use Rattle.co_plain.specs.declared.happening.Happening.{Happening}
use Rattle.co_replay.specs.Schedule.{HasLine}
use Rattle.co_schedule.specs.View.{IsEventFor}
use Rattle.co_law_base.proofs.Lookups.{is_nothing, look_none}
use Rattle.co_plain.specs.Premises.{AreOpenable, AreOwn, NamesOwnNode}
use Rattle.co_law_node.specs.WholeNodes.{AreWhole, AreWritable}
use Rattle.co_law_runs.proofs.Fitting.{Fit, run_fits}
use Rattle.co_law.proofs.EveryOrder.{every_transcript}
use Rattle.co_law.proofs.EveryRun.{every_acknowledged, every_agreement, every_read}
use Rattle.co_law.proofs.FreshLogs.{empty_openable}
use Rattle.co_law.proofs.GoingOn.{lines_true}
use Rattle.co_law.proofs.Readable.{readable}
use Rattle.co_law.proofs.WholeRuns.{are_whole}
use Rattle.co_law.proofs.WritableRuns.{are_writable}
use Rattle.co_opening.specs.Found.{MayRun}
use Rattle.co_top.specs.Played.{StaysReady}
use Rattle.co_top.specs.Ran.{Ran, start_of, IsSoundlyFound, KeepsPromises}

-- begins and operations name nodes of the head
names_own : (n k : ℕ) (e : Event) → IsEventFor n k e → NamesOwnNode n k e
names_own n k (event.Begin t c) h = h.1
names_own n k (event.Local t m) h = h.1
names_own n k (event.Read t m key) h = h.1
names_own n k (event.Write t m key value) h = h.1
names_own n k (event.Erase t m key) h = h.1
names_own n k (event.Scan t m span) h = h.1
names_own n k (event.Commit t) h = tt
names_own n k (event.Abort t) h = tt
names_own n k (event.Deliver note) h = tt
names_own n k (event.Vote t m) h = tt
names_own n k (event.Timer t at) h = tt
names_own n k (event.Ask t m) h = tt
names_own n k (event.Resend t c) h = tt
names_own n k (event.Crash at) h = tt
names_own n k (event.Restart at) h = tt
names_own n k (event.Arm at call leaves) h = tt
names_own n k (event.Checkpoint at) h = tt

pub all_own : (head : Head) (events : List Event) → AllByRecursion (HasLine head) events → AreOwn (length head.kinds) head.coords (lines events)
all_own head [] h = tt
all_own head (e ∷ es) h = (names_own (length head.kinds) head.coords e h.0.0, all_own head es h.1)

module _ (head : Head) (fm fc : ℕ → Found) (may : MayRun head.kinds head.coords fm fc) where
  abbrev pub s0 : Federation
  s0 = opened head.kinds head.coords fm fc

  module _ (hs : List Happening) (own : AreOwn (length head.kinds) head.coords hs) where
    pub fit_after : Fit (length head.kinds) head.coords s0 (run hs s0)
    fit_after = run_fits (length head.kinds) head.coords hs s0 (λ u other h. is_nothing (sym (look_none u) ∙ h)) own

    pub whole_after : AreWhole (length head.kinds) head.coords (run hs s0)
    whole_after = are_whole head.kinds head.coords fm fc hs head.some_coord may.own may.members_allowed may.coords_allowed own

    pub writable_after : AreWritable (length head.kinds) head.coords (run hs s0)
    writable_after =
        are_writable head.kinds head.coords fm fc hs head.some_coord head.coordinators head.members may.own may.members_allowed may.coords_allowed may.members_within
        may.coords_within own

  -- an event can be done in every state of the run
  pub ready : StaysReady head s0
  ready events valid =
      let z = run (lines events) s0 in
      let own = all_own head events valid in
      let f = fit_after (lines events) own in
      record {
        ready = record {
          whole = subst (λ ks. AreWhole (length ks) z.coordinators z) (sym f.kinds) (subst (λ c. AreWhole (length head.kinds) c z) (sym f.coordinators) (whole_after (lines events) own));
          writable = subst (λ ks. AreWritable (length ks) z.coordinators z) (sym f.kinds) (subst (λ c. AreWritable (length head.kinds) c z) (sym f.coordinators) (writable_after (lines events) own));
        };
        kinds = f.kinds;
        coordinators = f.coordinators;
      }

module _ {resume : Bool} {input : List ℕ} {file : Spot → Option File} (r : Ran resume input file) where
  pub openable : IsSoundlyFound r → AreOpenable r.head.kinds r.head.coords r.found_member r.found_coord
  openable (inl fresh) = let unused = r.unused fresh in empty_openable r.head.kinds r.head.coords r.found_member r.found_coord unused.members unused.coords
  openable (inr sound) = readable r.head.kinds r.head.coords r.found_member r.found_coord sound r.may.own r.may.members_allowed

  pub promised : IsSoundlyFound r → KeepsPromises r
  promised sound =
      let g = openable sound in
      let v = lines_true r.events (start_of r) in
      record {
        serial_reads = every_read r.head.kinds r.head.coords r.found_member r.found_coord (lines r.events) g v;
        acknowledged = every_acknowledged r.head.kinds r.head.coords r.found_member r.found_coord (lines r.events) g v;
        agreement = every_agreement r.head.kinds r.head.coords r.found_member r.found_coord (lines r.events) g v;
        ordered = every_transcript r.head.kinds r.head.coords r.found_member r.found_coord 2 r.events g;
      }
