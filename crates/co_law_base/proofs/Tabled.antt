-- The facts of a coordinator's table under one entry laid in or taken out.
use Rattle.std.proofs.Common.{◌≡◌, ◌≢◌, ◌⊎◌, inl, inr, ℕ, List, Some, subst}
use Rattle.co_record.specs.declared.record.Record.{Record}
use Rattle.co_state.specs.Table.{Table, look, put, without}
use Rattle.co_plain.specs.declared.coord_state.Entry.{Entry}
use Rattle.co_plain.specs.declared.coord_state.Entry.TheVariants as entry
use Rattle.co_law_base.proofs.Lookups.{put_cases, without_cases}
use Rattle.co_law_base.proofs.Facts.{Rest, OpenEntry, CollectingEntry, CommittedEntry, CoordFacts}

abbrev pub EntryFits : Rest → ℕ → List Record → List Record → ℕ → Entry → Type 0
EntryFits r c stable waiting t entry.Idle = OpenEntry r c stable t
EntryFits r c stable waiting t (entry.Collecting parts yeses) = CollectingEntry r c stable t parts yeses
EntryFits r c stable waiting t (entry.Committed members acks) = CommittedEntry r c stable waiting t members acks

module _ (r : Rest) (c : ℕ) (stable waiting : List Record) where
  -- the facts of a table, entry by entry
  pub each_fits : (table : Table Entry) → CoordFacts r c table stable waiting → (t : ℕ) (e : Entry) → look table t ≡ Some e → EntryFits r c stable waiting t e
  each_fits table y t entry.Idle f = y.idle t f
  each_fits table y t (entry.Collecting parts yeses) f = y.collecting t parts yeses f
  each_fits table y t (entry.Committed members acks) f = y.committed t members acks f

  -- another table that fits
  pub fits_all : (table next : Table Entry) → CoordFacts r c table stable waiting → ((t : ℕ) (e : Entry) → look next t ≡ Some e → EntryFits r c stable waiting t e) → CoordFacts r c next stable waiting
  fits_all table next y h =
      record {
        idle = λ t f. h t entry.Idle f;
        collecting = λ t parts yeses f. h t (entry.Collecting parts yeses) f;
        committed = λ t members acks f. h t (entry.Committed members acks) f;
        known = y.known;
        unended_over = y.unended_over;
        unended_known = y.unended_known;
        ends = y.ends;
      }

  pub coord_put : (table : Table Entry) (t : ℕ) (e : Entry) → CoordFacts r c table stable waiting → EntryFits r c stable waiting t e → CoordFacts r c (put table t e) stable waiting
  coord_put table t e y fits = fits_all table (put table t e) y (λ u x f. by u x (put_cases table t e u x f))
    where
      by : (u : ℕ) (x : Entry) → ((t ≡ u) × (e ≡ x)) ⊎ ((t ≢ u) × (look table u ≡ Some x)) → EntryFits r c stable waiting u x
      by u x (inl p) = subst (λ k. EntryFits r c stable waiting k x) p.0 (subst (EntryFits r c stable waiting t) p.1 fits)
      by u x (inr p) = each_fits table y u x p.1

  pub coord_without : (table : Table Entry) (t : ℕ) → CoordFacts r c table stable waiting → CoordFacts r c (without table t) stable waiting
  coord_without table t y = fits_all table (without table t) y (λ u x f. each_fits table y u x (without_cases table t u x f).1)
