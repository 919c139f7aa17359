-- The laws of every run.
use Rattle.std.proofs.Common.{ℕ, List, ap, ◌∙◌, subst}
use Rattle.co_base.specs.declared.head.Kind.{Kind}
use Rattle.co_serial.specs.SerialRun.{run_whole}
use Rattle.co_plain.specs.declared.happening.Happening.{Happening}
use Rattle.co_plain.specs.Opening.{Found, opened}
use Rattle.co_plain.specs.Runs.{run}
use Rattle.co_plain.specs.Decisions.{sites_of}
use Rattle.co_plain.specs.Promises.{SerialReads, LogsAlone, LogsStaySound, Acknowledged, MembersAgree}
use Rattle.co_plain.specs.Premises.{AreTrueVerdicts, AreOpenable}
use Rattle.co_law_base.proofs.Facts.{rest_of, serial_start, ReadSerially, Facts}
use Rattle.co_law_moves.proofs.Steps.{run_keeps}
use Rattle.co_law_moves.proofs.Start.{start_facts}
use Rattle.co_law_moves.proofs.Growing.{Grows, run_grows}
use Rattle.co_law_moves.proofs.Derived.{reads_at, logs_give, files_sound}
use Rattle.co_law_runs.proofs.Agreement.{members_agree, opened_works}
use Rattle.co_law.proofs.Acknowledging.{run_ack}
use Rattle.co_law_moves.proofs.KeptFrom.{same_serial}

module _ (kinds : List Kind) (coords : ℕ) (fm fc : ℕ → Found) (hs : List Happening) (g : AreOpenable kinds coords fm fc) (v : AreTrueVerdicts hs (opened kinds coords fm fc)) where
  facts : Facts (run hs (opened kinds coords fm fc))
  facts = run_keeps hs (opened kinds coords fm fc) (start_facts kinds coords fm fc g) v

  grows : Grows (opened kinds coords fm fc) (run hs (opened kinds coords fm fc))
  grows = run_grows hs (opened kinds coords fm fc)

  pub every_read : SerialReads (opened kinds coords fm fc) hs
  every_read later earlier d q =
      reads_at (serial_start (rest_of (run hs (opened kinds coords fm fc)))) later earlier d (subst (ReadSerially (serial_start (rest_of (run hs (opened kinds coords fm fc))))) q facts.serially)
      ∙ ap (λ all. run_whole all (sites_of d.told)) (same_serial (opened kinds coords fm fc) (run hs (opened kinds coords fm fc)) grows earlier)

  pub every_log : LogsAlone (opened kinds coords fm fc) hs
  every_log m =
      logs_give (run hs (opened kinds coords fm fc)) facts m
      ∙ ap (λ all. all m) (same_serial (opened kinds coords fm fc) (run hs (opened kinds coords fm fc)) grows (run hs (opened kinds coords fm fc)).decided)

  pub every_sound : LogsStaySound (opened kinds coords fm fc) hs
  every_sound = files_sound (run hs (opened kinds coords fm fc)) facts

  pub every_acknowledged : Acknowledged (opened kinds coords fm fc) hs
  every_acknowledged = record { decided = run_ack hs (opened kinds coords fm fc) (start_facts kinds coords fm fc g) v; once = facts.numbers.once }

  pub every_agreement : MembersAgree (opened kinds coords fm fc) hs
  every_agreement = members_agree hs (opened kinds coords fm fc) (start_facts kinds coords fm fc g) (opened_works kinds coords fm fc) v
