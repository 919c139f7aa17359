-- The transcript of every run over fresh logs is told serially.
use Rattle.std.proofs.Common.{◌≡◌, ℕ, ◌+◌, List, [], length, refl, sym, ap, ◌∙◌, subst}
use Rattle.std.specs.List.{AllByRecursion}
use Rattle.std.proofs.lemmas.List.{append-nil}
use Rattle.co_base.specs.declared.head.Head.{Head}
use Rattle.co_message.specs.declared.event.Event.{Event}
use Rattle.co_state.specs.Table.{look, no_entries}
use Rattle.co_plain.specs.Decisions.{told_in}
use Rattle.co_plain.specs.Federation.{Federation}
use Rattle.co_plain.specs.Opening.{Found, opened}
use Rattle.co_plain.specs.Runs.{run, transcript, lines}
use Rattle.co_law_base.proofs.Lookups.{look_none}
use Rattle.co_plain.specs.Premises.{AreOpenable}
use Rattle.co_law.proofs.EveryRun.{every_acknowledged, every_read}
use Rattle.co_law.proofs.FreshLogs.{empty_openable}
use Rattle.co_law.proofs.GoingOn.{lines_true}
use Rattle.co_replay.specs.Schedule.{HasLine}
use Rattle.co_replay.specs.Transcript.{run_items}
use Rattle.co_check.specs.Account.{no_account, client_in}
use Rattle.co_check.specs.Shape.{read_from}
use Rattle.co_check.specs.declared.place.Place.TheVariants.{Behind}
use Rattle.co_law_check.specs.Told.{by_in, AreAlike, Tells, IsToldSerially}
use Rattle.co_law_check.proofs.Heads.{read_head}
use Rattle.co_law_check.proofs.Serially.{as_many, same_after, serially, starts_empty}
use Rattle.co_law_check.proofs.Transcripts.{read_events}

-- a federation that was opened has no session yet, and decided nothing
pub nothing_told : Tells no_account no_entries []
nothing_told =
    record {
      by = λ t. ap (λ o. (client_in o).by) (look_none t) ∙ sym (ap by_in (look_none t));
      told = λ t h. subst (λ o. AreAlike (client_in o).told (told_in (look no_entries t))) (sym (look_none t)) (subst (λ o. AreAlike [] (told_in o)) (sym (look_none t)) (refl, refl));
      settled = λ t. ap (λ o. (client_in o).decided) (look_none t);
      committed = tt;
    }

module _ (head : Head) (fm fc : ℕ → Found) (events : List Event) (fresh_members : (m : ℕ) → (fm m).records ≡ []) (fresh_coords : (c : ℕ) → (fc c).records ≡ []) (valid : AllByRecursion (HasLine head) events) where
  abbrev s0 : Federation
  s0 = opened head.kinds head.coords fm fc

  openable : AreOpenable head.kinds head.coords fm fc
  openable = empty_openable head.kinds head.coords fm fc fresh_members fresh_coords

  pub told_serially : IsToldSerially (run_items head fm fc events) s0 (run (lines events) s0)
  told_serially =
      let ack = every_acknowledged head.kinds head.coords fm fc (lines events) openable (lines_true events s0) in
      let reads = every_read head.kinds head.coords fm fc (lines events) openable (lines_true events s0) in
      let all = read_events head events 1 2 s0 no_account refl nothing_told valid ack.once in
      let start = starts_empty (λ m. (fm m).records) (λ c. (fc c).records) fresh_members fresh_coords in
      record {
        account = all.account;
        place = Behind head (1 + length events);
        shaped = read_head head fm fc fresh_members fresh_coords (transcript 2 events s0) ∙ ap (read_from _) (sym (append-nil (transcript 2 events s0))) ∙ all.reads [];
        whole = refl;
        serial = serially _ start all.account.committed (run (lines events) s0).decided all.tells.committed reads;
        count = as_many all.account.committed (run (lines events) s0).decided all.tells.committed;
        records = same_after _ start all.account.committed (run (lines events) s0).decided all.tells.committed;
      }
