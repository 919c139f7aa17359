-- What a coordinator's changes keep of a whole one.
use Rattle.std.proofs.Common.{◌≡◌, ◌≢◌, ◌⊎◌, inl, inr, ℕ, Bool, true, false, ◌==◌, ◌≤◌, List, [], ◌∷◌, ◌++◌, length, Option, None, Some, refl, sym, ap, ◌∙◌, subst, arith}
use Rattle.std.specs.Option.{is_some}
use Rattle.std.specs.FinMap.{entries, entries_sorted, get-entries}
use Rattle.std.proofs.lemmas.Bool.{eqb-true, eqb-false, false_from_ne_true}
use Rattle.std.proofs.lemmas.List.{length-append}
use Rattle.co_base.specs.declared.node.Node.TheVariants as node
use Rattle.co_message.specs.declared.answer.Answer.{Answer}
use Rattle.co_message.specs.declared.message.Message.{Message}
use Rattle.co_record.specs.declared.record.Record.{Record}
use Rattle.co_record.specs.declared.record.Record.TheVariants as log
use Rattle.co_frame.specs.Gate.{batch_is_stable, closes_spare}
use Rattle.co_state.specs.Table.{Table, look, put, without}
use Rattle.co_plain.specs.declared.coord_state.CoordState.{CoordState}
use Rattle.co_plain.specs.declared.coord_state.Entry.{Entry}
use Rattle.co_plain.specs.declared.coord_state.Entry.TheVariants as entry
use Rattle.co_plain.specs.declared.log_state.LogState.{LogState}
use Rattle.co_base.specs.declared.leaves.Stop.{Stop}
use Rattle.co_plain.specs.declared.outcome.Outcome.{Outcome}
use Rattle.co_plain.specs.declared.outcome.Outcome.TheVariants.{Completes, StopsAt}
use Rattle.co_plain.specs.Numbers.{next_generation}
use Rattle.co_plain.specs.LogWrite.{outcome_of, with_batch, with_filled_spare, with_spare, generation_of}
use Rattle.co_plain.specs.CoordView.{recovered_commits, has_commit_of}
use Rattle.co_plain.specs.CoordStep.{with_table, table_from, coord_down, stopped_coord, coord_forced_by, force_coord}
use Rattle.co_plain.specs.CoordLog.{coord_spare, coord_stopped_fill, coord_fill_by, coord_close_by, coord_checkpoint_by, coord_checkpoint}
use Rattle.co_plain.specs.SoundLogs.{unended_in}
use Rattle.co_law_engine.proofs.YesTells.{in_some}
use Rattle.co_law_base.proofs.Lookups.{is_nothing, look_none, put_cases, put_here, put_there, without_cases, without_there}
use Rattle.co_law_base.proofs.Commits.{commit_cases, commit_here, commit_there, unended_seen, unended_some, from_cases, from_found, spare_cases, seen_cases, spare_found}
use Rattle.co_law_base.proofs.ImageRules.{EachEntry, each_entry}
use Rattle.co_law_node.specs.WholeCoords.{EndsAlone, FitsRecords}
use Rattle.co_law_node.proofs.AllowedCommits.{AllowedCommits, older_commits, unended_up, still_new, IsNewCommit, commits_allowed, more_commits}

-- a table beside records
pub record TableFits (members : ℕ) (rs : List Record) (table : Table Entry) : Type 0 where
  pub fits : (t : ℕ) (e : Entry) → look table t ≡ Some e → FitsRecords members rs t e
  pub tabled : (t : ℕ) (ms : List ℕ) → unended_in rs t ≡ Some ms → (acks : List ℕ) × (look table t ≡ Some (entry.Committed ms acks))

pub record WholeTable (members : ℕ) (y : CoordState) : Type 0 where
  pub allowed : AllowedCommits members (y.log.waiting ++ y.log.stable)
  pub headed : 1 ≤ length y.log.stable
  pub ends : EndsAlone y.log.waiting
  pub table : TableFits members (y.log.waiting ++ y.log.stable) y.table
  pub down : y.up ≡ false → y ≡ coord_down y.log

pub coord_runs : {A : Type 0} (y : CoordState) → y.up ≡ true → y.up ≡ false → A
coord_runs y u d = absurd (let z : true ≡ false = sym u ∙ d in cc)

-- who has no commit has none without end
pub none_unended : {A : Type 0} (rs : List Record) (t : ℕ) (ms : List ℕ) → has_commit_of rs t ≡ false → unended_in rs t ≡ Some ms → A
none_unended rs t ms h e = absurd (let z : true ≡ false = sym (unended_seen rs t ms e) ∙ h in cc)

module _ (members : ℕ) where
  -- the table that records tell
  pub fits_from : (rs : List Record) → TableFits members rs (table_from (entries (recovered_commits rs).unended))
  fits_from rs =
      record {
        fits = λ t e f. by t e (from_cases (recovered_commits rs).unended t e f);
        tabled = λ t ms h. ([], from_found (recovered_commits rs).unended t ms h);
      }
    where
      by : (t : ℕ) (e : Entry) → (ms : List ℕ) × (look (recovered_commits rs).unended t ≡ Some ms) × (entry.Committed ms [] ≡ e) → FitsRecords members rs t e
      by t e p = subst (FitsRecords members rs t) p.2 p.1

  module _ (rs : List Record) (table : Table Entry) (f : TableFits members rs table) where
    -- an entry is laid in
    pub fits_put : (t : ℕ) (e : Entry) → FitsRecords members rs t e →
        ((ms : List ℕ) → unended_in rs t ≡ Some ms → (acks : List ℕ) × (e ≡ entry.Committed ms acks)) → TableFits members rs (put table t e)
    fits_put t e new same =
        record {
          fits = λ u x h. by u x (put_cases table t e u x h);
          tabled = λ u ms h. there u ms h (t == u) refl;
        }
      where
        by : (u : ℕ) (x : Entry) → ((t ≡ u) × (e ≡ x)) ⊎ ((t ≢ u) × (look table u ≡ Some x)) → FitsRecords members rs u x
        by u x (inl p) = subst (λ k. FitsRecords members rs k x) p.0 (subst (FitsRecords members rs t) p.1 new)
        by u x (inr p) = f.fits u x p.1

        there : (u : ℕ) (ms : List ℕ) → unended_in rs u ≡ Some ms → (b : Bool) → (t == u) ≡ b → (acks : List ℕ) × (look (put table t e) u ≡ Some (entry.Committed ms acks))
        there u ms h true k =
            let is : t ≡ u = eqb-true t u k in
            let p = same ms (ap (unended_in rs) is ∙ h) in
            (p.0, ap (look (put table t e)) (sym is) ∙ put_here table t e ∙ ap Some p.1)
        there u ms h false k = let p = f.tabled u ms h in (p.0, put_there table t e u (eqb-false t u k) ∙ p.1)

    -- an entry is taken out that is not committed
    pub fits_without : (t : ℕ) → has_commit_of rs t ≡ false → TableFits members rs (without table t)
    fits_without t new =
        record {
          fits = λ u x h. f.fits u x (without_cases table t u x h).1;
          tabled = λ u ms h. let p = f.tabled u ms h in (p.0, without_there table t u (λ e. none_unended rs t ms new (ap (unended_in rs) e ∙ h)) ∙ p.1);
        }

    -- a commit has its end
    pub fits_end : (t : ℕ) → TableFits members (log.End t ∷ rs) (without table t)
    fits_end t =
        record {
          fits = λ u x h. let p = without_cases table t u x h in by u x p.0 (f.fits u x p.1);
          tabled = λ u ms h. let p = without_cases (recovered_commits rs).unended t u ms h in let q = f.tabled u ms p.1 in (q.0, without_there table t u p.0 ∙ q.1);
        }
      where
        by : (u : ℕ) (x : Entry) → t ≢ u → FitsRecords members rs u x → FitsRecords members (log.End t ∷ rs) u x
        by u entry.Idle n p = p
        by u (entry.Collecting parts yeses) n p = p
        by u (entry.Committed ms acks) n p = without_there (recovered_commits rs).unended t u n ∙ p

    -- entries of others beside one more commit
    still_fits : (t : ℕ) (ms : List ℕ) (u : ℕ) (x : Entry) → t ≢ u → FitsRecords members rs u x → FitsRecords members (log.Commit t ms ∷ rs) u x
    still_fits t ms u entry.Idle n p = still_new rs t ms u n p
    still_fits t ms u (entry.Collecting parts yeses) n p = (still_new rs t ms u n p.0, p.1)
    still_fits t ms u (entry.Committed ns acks) n p = commit_there rs t ms u n ∙ p

    -- a transaction without participants is decided
    pub fits_alone : (t : ℕ) → has_commit_of rs t ≡ false → TableFits members (log.Commit t [] ∷ rs) (without table t)
    fits_alone t new =
        record {
          fits = λ u x h. let p = without_cases table t u x h in still_fits t [] u x p.0 (f.fits u x p.1);
          tabled = λ u ms h. let p = f.tabled u ms h in (p.0, without_there table t u (λ e. none_unended rs t ms new (ap (unended_in rs) e ∙ h)) ∙ p.1);
        }

    -- a transaction with participants is decided
    pub fits_decided : (t : ℕ) (ms : List ℕ) → has_commit_of rs t ≡ false → ms ≢ [] → TableFits members (log.Commit t ms ∷ rs) (put table t (entry.Committed ms []))
    fits_decided t ms new some =
        record {
          fits = λ u x h. by u x (put_cases table t (entry.Committed ms []) u x h);
          tabled = λ u ns h. there u ns (commit_cases rs t ms u ns h);
        }
      where
        by : (u : ℕ) (x : Entry) → ((t ≡ u) × (entry.Committed ms [] ≡ x)) ⊎ ((t ≢ u) × (look table u ≡ Some x)) → FitsRecords members (log.Commit t ms ∷ rs) u x
        by u x (inl p) =
            subst (λ k. FitsRecords members (log.Commit t ms ∷ rs) k x) p.0
            (subst (FitsRecords members (log.Commit t ms ∷ rs) t) p.1 (commit_here rs t ms some))
        by u x (inr p) = still_fits t ms u x p.0 (f.fits u x p.1)

        there : (u : ℕ) (ns : List ℕ) → ((t ≡ u) × (ms ≡ ns) × (ms ≢ [])) ⊎ (unended_in rs u ≡ Some ns) →
            (acks : List ℕ) × (look (put table t (entry.Committed ms [])) u ≡ Some (entry.Committed ns acks))
        there u ns (inl p) =
            ([], ap (look (put table t (entry.Committed ms []))) (sym p.0) ∙ put_here table t (entry.Committed ms []) ∙ ap (λ k. Some (entry.Committed k [])) p.1)
        there u ns (inr h) =
            let p = f.tabled u ns h in
            (p.0, put_there table t (entry.Committed ms []) u (λ e. none_unended rs t ns new (ap (unended_in rs) e ∙ h)) ∙ p.1)

  -- a coordinator that is down rests on its stable records
  pub whole_coord_down : (l : LogState) → AllowedCommits members l.stable → 1 ≤ length l.stable → WholeTable members (coord_down l)
  whole_coord_down l a h = record { allowed = a; headed = h; ends = tt; table = fits_from l.stable; down = λ e. refl }

  module _ (y : CoordState) (w : WholeTable members y) where
    pub stable_commits : AllowedCommits members y.log.stable
    stable_commits = older_commits members y.log.waiting y.log.stable w.allowed

    -- the same table and records
    pub coord_alike : (up : Bool) (armed : Option Stop) (closed : Bool) →
        let z : CoordState = record {
          up = up;
          table = y.table;
          log = record { stable = y.log.stable; waiting = y.log.waiting; armed = armed; spare_closed = closed };
        } in
        (up ≡ false → z ≡ coord_down z.log) → WholeTable members z
    coord_alike up armed closed d = record { allowed = w.allowed; headed = w.headed; ends = w.ends; table = w.table; down = d }

    -- another table over the same records
    pub retabled : (table : Table Entry) → y.up ≡ true → TableFits members (y.log.waiting ++ y.log.stable) table → WholeTable members (with_table y table)
    retabled table u f = record { allowed = w.allowed; headed = w.headed; ends = w.ends; table = f; down = coord_runs y u }

-- What may be forced: the records are allowed behind those that stand and wait, and the next table fits them.
pub record ForcibleCommits (members : ℕ) (next : CoordState) (batch : List Record) : Type 0 where
  pub allowed : AllowedCommits members (batch ++ (next.log.waiting ++ next.log.stable))
  pub headed : 1 ≤ length next.log.stable
  pub up : next.up ≡ true
  pub table : TableFits members (batch ++ (next.log.waiting ++ next.log.stable)) next.table

pub coord_forces : (members c : ℕ) (next : CoordState) (batch : List Record) (a : Answer) (messages : List Message) → ForcibleCommits members next batch →
    WholeTable members (force_coord c next batch a messages).state
coord_forces members c next batch a messages f = by (outcome_of next.log.armed 4)
  where
    headed : 1 ≤ length (batch ++ (next.log.waiting ++ next.log.stable))
    headed =
        let h = f.headed in
        let e = length-append batch (next.log.waiting ++ next.log.stable) in
        let g = length-append next.log.waiting next.log.stable in
        omega (arith, h, e, g)

    stopped : (call : ℕ) (b : Bool) → WholeTable members (stopped_coord c next call b batch).state
    stopped call true = whole_coord_down members (with_batch next.log batch) f.allowed headed
    stopped call false =
        whole_coord_down members next.log (older_commits members next.log.waiting next.log.stable (older_commits members batch (next.log.waiting ++ next.log.stable) f.allowed)) f.headed

    by : (o : Outcome) → WholeTable members (coord_forced_by c next batch a messages o).state
    by Completes = record { allowed = f.allowed; headed = headed; ends = tt; table = f.table; down = coord_runs next f.up }
    by (StopsAt call leaves) = stopped call (batch_is_stable call leaves)

-- checkpoints
module _ (members c : ℕ) (y : CoordState) (w : WholeTable members y) where
  abbrev header : ℕ → List Record
  header generation = log.Header (node.Coord c) generation ∷ []

  -- an entry of the table
  abbrev IsTabled : ℕ → Entry → Type 0
  IsTabled t e = look y.table t ≡ Some e

  all_tabled : EachEntry IsTabled (entries y.table)
  all_tabled = each_entry IsTabled (entries y.table) (entries_sorted y.table) (λ u x g. get-entries y.table u ∙ g)

  no_commit : (generation t : ℕ) → has_commit_of (header generation) t ≡ false
  no_commit generation t = ap is_some (look_none t)

  spare_allowed : (generation : ℕ) → AllowedCommits members (coord_spare c y generation)
  spare_allowed generation =
      commits_allowed members (entries y.table) (header generation) (entries_sorted y.table) (omega arith) (refl, tt)
      (each_entry (IsNewCommit members (header generation)) (entries y.table) (entries_sorted y.table) (λ u x g. new u x (w.table.fits u x (get-entries y.table u ∙ g))))
    where
      new : (u : ℕ) (x : Entry) → FitsRecords members (y.log.waiting ++ y.log.stable) u x → IsNewCommit members (header generation) u x
      new u entry.Idle p = tt
      new u (entry.Collecting parts yeses) p = tt
      new u (entry.Committed ms acks) p = (no_commit generation u, unended_up members (y.log.waiting ++ y.log.stable) w.allowed u ms p)

  spare_headed : (generation : ℕ) → 1 ≤ length (coord_spare c y generation)
  spare_headed generation = let p = more_commits (entries y.table) (header generation) in omega (arith, p)

  spare_fits : (generation : ℕ) → TableFits members (coord_spare c y generation) y.table
  spare_fits generation =
      record {
        fits = λ t e h. by t e h (w.table.fits t e h);
        tabled = λ t ms h. there t ms (spare_cases IsTabled (entries y.table) (header generation) t ms all_tabled h);
      }
    where
      undecided : (t : ℕ) (e : Entry) → look y.table t ≡ Some e → ((ms acks : List ℕ) → e ≢ entry.Committed ms acks) → has_commit_of (coord_spare c y generation) t ≡ false
      undecided t e h n = false_from_ne_true _ (λ q. never (seen_cases IsTabled (entries y.table) (header generation) t all_tabled q))
        where
          never : (has_commit_of (header generation) t ≡ true) ⊎ ((ms acks : List ℕ) × (look y.table t ≡ Some (entry.Committed ms acks))) → ⊥
          never (inl k) = let z : true ≡ false = sym k ∙ no_commit generation t in cc
          never (inr p) = n p.0 p.1 (in_some (sym h ∙ p.2))

      by : (t : ℕ) (e : Entry) → look y.table t ≡ Some e → FitsRecords members (y.log.waiting ++ y.log.stable) t e → FitsRecords members (coord_spare c y generation) t e
      by t entry.Idle h p = undecided t entry.Idle h (λ ms acks k. absurd (let z : entry.Idle ≡ entry.Committed ms acks = k in cc))
      by t (entry.Collecting parts yeses) h p = (undecided t (entry.Collecting parts yeses) h (λ ms acks k. absurd (let z : entry.Collecting parts yeses ≡ entry.Committed ms acks = k in cc)), p.1)
      by t (entry.Committed ms acks) h p =
          spare_found (entries y.table) (header generation) t ms acks (entries_sorted y.table) (unended_some (y.log.waiting ++ y.log.stable) t ms p) (sym (get-entries y.table t) ∙ h)

      there : (t : ℕ) (ms : List ℕ) → (unended_in (header generation) t ≡ Some ms) ⊎ ((acks : List ℕ) × (look y.table t ≡ Some (entry.Committed ms acks))) →
          (acks : List ℕ) × (look y.table t ≡ Some (entry.Committed ms acks))
      there t ms (inl k) = is_nothing (sym (look_none t) ∙ k)
      there t ms (inr p) = p

  fills : (generation : ℕ) (o : Outcome) → y.up ≡ true → WholeTable members (coord_fill_by c y generation o).state
  fills generation Completes u =
      record { allowed = spare_allowed generation; headed = spare_headed generation; ends = tt; table = spare_fits generation; down = coord_runs y u }
  fills generation (StopsAt call leaves) u = by (batch_is_stable call leaves)
    where
      by : (b : Bool) → WholeTable members (coord_stopped_fill c y generation call b).state
      by true = whole_coord_down members (with_filled_spare y.log (coord_spare c y generation)) (spare_allowed generation) (spare_headed generation)
      by false = whole_coord_down members y.log (stable_commits members y w) w.headed

  closes : (o : Outcome) → y.up ≡ true → WholeTable members (coord_close_by y o).state
  closes Completes u = coord_alike members y w y.up None true (coord_runs y u)
  closes (StopsAt call leaves) u = whole_coord_down members (with_spare y.log (closes_spare leaves)) (stable_commits members y w) w.headed

  pub coord_checkpoints : y.up ≡ true → WholeTable members (coord_checkpoint c y).state
  coord_checkpoints u = by y.log.spare_closed
    where
      by : (b : Bool) → WholeTable members (coord_checkpoint_by c y b).state
      by false = closes (outcome_of y.log.armed 2) u
      by true = fills (next_generation (generation_of y.log.stable)) (outcome_of y.log.armed 4) u
