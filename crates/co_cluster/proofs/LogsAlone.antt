-- What the logs alone give, from what each of them tells.
use Rattle.std.proofs.Common.{◌≡◌, ℕ, zero, suc, ◌+◌, ◌≤◌, ◌<◌, List, [], ◌∷◌, ◌++◌, map, length, refl, ap, ◌∙◌, arith}
use Rattle.std.specs.FinMap.{entries, entries_sorted, get-entries}
use Rattle.std.specs.List.{AllByRecursion}
use Rattle.co_record.specs.declared.record.Record.{Record}
use Rattle.co_serial.specs.Records.{all_rows}
use Rattle.co_serial.specs.SerialRun.{AllRecords}
use Rattle.co_state.specs.Table.{no_entries}
use Rattle.co_state.specs.declared.engine_state.Vote.{Vote}
use Rattle.co_plain.specs.CoordView.{recovered_commits}
use Rattle.co_plain.specs.DurableRecords.{durable_in}
use Rattle.co_plain.specs.Federation.{Federation}
use Rattle.co_plain.specs.Invariants.{Stable}
use Rattle.co_plain.specs.MemberView.{Numbers, recovered_view}
use Rattle.co_recover.specs.declared.past.MemberPast.{MemberPast}
use Rattle.co_recover.specs.Recovered.{past_of_member}
use Rattle.co_serial.specs.declared.member_row.MemberRow.{MemberRow}
use Rattle.co_serial.specs.MemberRows.{numbered_rows, member_rows}
use Rattle.co_durable.specs.Laying.{durable_of_past, rows_from, durable_of_pasts}
use Rattle.co_durable.specs.Nodes.{numbered}
use Rattle.co_durable.proofs.Durables.{IsSeen, past_is_durable}
use Rattle.co_durable.proofs.Numbered.{front, numbered_front, numbered_at}
use Rattle.co_law_base.proofs.ImageRules.{EachEntry, each_entry}
use Rattle.co_cluster.specs.Conditions.{IsReady}

module _ (seen : List Numbers) (all : AllRecords) (past : ℕ → MemberPast) where
  rows_front : (p k : ℕ) → ((m : ℕ) → p < m → m ≤ p + k → durable_of_past seen (past m) ≡ all m) →
      rows_from (suc p) (map (λ one. all_rows (durable_of_past seen one)) (front past p k)) ≡ numbered_rows all (suc p) k
  rows_front p zero same = refl
  rows_front p (suc k) same =
      ap (λ rs. member_rows (suc p) (all_rows rs) ++ rows_from (suc (suc p)) (map (λ one. all_rows (durable_of_past seen one)) (front past (suc p) k))) (same (suc p) (omega arith) (omega arith))
      ∙ ap (λ (rows : List MemberRow). member_rows (suc p) (all_rows (all (suc p))) ++ rows) (rows_front (suc p) k (λ m low high. same m (omega (arith, low)) (omega (arith, high))))

module _ (s : Federation) where
  -- what the log of a member tells, and the commits in that of a coordinator
  abbrev pub past_at : ℕ → MemberPast
  past_at m = past_of_member (recovered_view (s.member m).log.stable)

  abbrev pub commits_at : ℕ → Numbers
  commits_at c = (recovered_commits (s.coord c).log.stable).seen

module _ (s : Federation) (ready : IsReady s) where
  abbrev seen : List Numbers
  seen = numbered (commits_at s) s.coordinators

  abbrev coord_log : ℕ → List Record
  coord_log c = (s.coord c).log.stable

  all_seen : (es : List (ℕ × Vote)) → EachEntry (λ t vote. IsSeen seen coord_log (t, vote)) es → AllByRecursion (IsSeen seen coord_log) es
  all_seen [] each = tt
  all_seen (e ∷ es) each = (each.0, all_seen es each.1)

  -- every vote names a coordinator of the federation
  member_alone : (m : ℕ) → durable_of_past seen (past_at s m) ≡ durable_in s m
  member_alone m =
      let v = recovered_view (s.member m).log.stable in
      past_is_durable seen coord_log (past_at s m) v refl
      (all_seen (entries v.voted)
      (each_entry (λ t vote. IsSeen seen coord_log (t, vote)) (entries v.voted) (entries_sorted v.voted)
      (λ t vote is.
      let own = (ready.whole.member m).voted Stable t vote (get-entries v.voted t ∙ is) in
      numbered_at (commits_at s) no_entries s.coordinators vote.coord own.0 own.1)))

  pub rows_alone : (pasts : List MemberPast) (commits : List Numbers) (rows : List MemberRow) → rows ≡ durable_of_pasts commits pasts → pasts ≡ numbered (past_at s) (length s.kinds) → commits ≡ seen →
      rows ≡ numbered_rows (durable_in s) 1 (length s.kinds)
  rows_alone pasts commits rows is pasts_are commits_are =
      is ∙ (λ i. durable_of_pasts (commits_are i) (pasts_are i))
      ∙ ap (λ (ps : List MemberPast). durable_of_pasts seen ps) (numbered_front (past_at s) (length s.kinds))
      ∙ rows_front seen (durable_in s) (past_at s) 0 (length s.kinds) (λ m low high. member_alone m)
