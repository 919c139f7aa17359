-- Records of a coordinator's log that are allowed where they stand, and what they tell.
use Rattle.std.proofs.Common.{◌≡◌, ◌≢◌, ◌⊎◌, inl, inr, ℕ, Bool, true, false, not, ◌&&◌, ◌≤◌, nat_le, T, List, [], ◌∷◌, ◌++◌, length, reverse, None, Some, refl, sym, ap, ◌∙◌, arith}
use Rattle.std.specs.Ordering.{nat_cmp}
use Rattle.std.specs.FinMap.Entries.{is_sorted, below_all}
use Rattle.std.proofs.lemmas.Bool.{and_parts, false_from_ne_true}
use Rattle.std.proofs.lemmas.Bool.Decides.{nat_tests}
use Rattle.co_record.specs.declared.record.Record.{Record}
use Rattle.co_record.specs.declared.record.Record.TheVariants as log
use Rattle.co_state.specs.Table.{holds}
use Rattle.co_plain.specs.declared.coord_state.Entry.{Entry}
use Rattle.co_plain.specs.declared.coord_state.Entry.TheVariants as entry
use Rattle.co_plain.specs.CoordView.{commits_with, recovered_commits, all_up_to, coord_allows, first_refused_commit, first_refused_at_coord, has_commit_of}
use Rattle.co_plain.specs.CoordLog.{commit_onto, commits_onto}
use Rattle.co_plain.specs.SoundLogs.{unended_in}
use Rattle.co_law_base.proofs.Lookups.{is_nothing, look_none, without_cases}
use Rattle.co_law_base.proofs.Commits.{commit_cases, holds_cases, both_T}
use Rattle.co_law_base.proofs.ImageRules.{EachEntry, each_entry, entry_has, below_found}
use Rattle.co_law_node.proofs.FirstRefused.{AllAllowed, older_allowed, all_from_none, none_from_all}

abbrev pub AllowedCommits : ℕ → List Record → Type 0
AllowedCommits members rs = AllAllowed (coord_allows members) recovered_commits rs

module _ (members : ℕ) where
  pub commits_from : (rs : List Record) → first_refused_at_coord members (reverse rs) ≡ None → AllowedCommits members rs
  commits_from =
      all_from_none (coord_allows members) commits_with (first_refused_commit members) recovered_commits (λ place v. refl) (λ place v r rs. refl) (λ r rs. refl)

  pub no_refused : (rs : List Record) → AllowedCommits members rs → first_refused_at_coord members (reverse rs) ≡ None
  no_refused =
      none_from_all (coord_allows members) commits_with (first_refused_commit members) recovered_commits (λ place v. refl) (λ place v r rs. refl) (λ r rs. refl)

  pub older_commits : (front rs : List Record) → AllowedCommits members (front ++ rs) → AllowedCommits members rs
  older_commits = older_allowed (coord_allows members) recovered_commits

  -- the participants of a commit without end are members
  pub unended_up : (rs : List Record) → AllowedCommits members rs → (t : ℕ) (ms : List ℕ) → unended_in rs t ≡ Some ms → all_up_to members ms ≡ true
  unended_up [] a t ms h = is_nothing (sym (look_none t) ∙ h)
  unended_up (log.Header x y ∷ rs) a t ms h = unended_up rs a.1 t ms h
  unended_up (log.Prepare x y z u v ∷ rs) a t ms h = unended_up rs a.1 t ms h
  unended_up (log.Abort x ∷ rs) a t ms h = unended_up rs a.1 t ms h
  unended_up (log.Checkpoint x y z ∷ rs) a t ms h = unended_up rs a.1 t ms h
  unended_up (log.End u ∷ rs) a t ms h = unended_up rs a.1 t ms (without_cases (recovered_commits rs).unended u t ms h).1
  unended_up (log.Commit u ns ∷ rs) a t ms h = by (unended_up rs a.1 t ms) (commit_cases rs u ns t ms h)
    where
      by : (unended_in rs t ≡ Some ms → all_up_to members ms ≡ true) → ((u ≡ t) × (ns ≡ ms) × (ns ≢ [])) ⊎ (unended_in rs t ≡ Some ms) → all_up_to members ms ≡ true
      by rest (inl p) = ap (all_up_to members) (sym p.1) ∙ (and_parts _ _ a.0).1
      by rest (inr k) = rest k

-- when a commit is allowed
three : (a b c : Bool) → a ≡ true → b ≡ false → c ≡ true → (a && not b && c) ≡ true
three a b c p q r = rw (p, q, r)

pub may_commit : (members place : ℕ) (rs : List Record) (t : ℕ) (ms : List ℕ) → 1 ≤ place → has_commit_of rs t ≡ false → all_up_to members ms ≡ true →
    (nat_le 1 place && not (holds (recovered_commits rs).seen t) && all_up_to members ms) ≡ true
may_commit members place rs t ms behind new up =
    three (nat_le 1 place) (holds (recovered_commits rs).seen t) (all_up_to members ms) (grind (arith, nat_tests, behind)) new up

-- a commit of another transaction
pub still_new : (rs : List Record) (t : ℕ) (ms : List ℕ) (u : ℕ) → t ≢ u → has_commit_of rs u ≡ false → has_commit_of (log.Commit t ms ∷ rs) u ≡ false
still_new rs t ms u n h = false_from_ne_true _ (λ q. by (holds_cases (recovered_commits rs).seen t u q))
  where
    by : (t ≡ u) ⊎ (has_commit_of rs u ≡ true) → ⊥
    by (inl e) = n e
    by (inr k) = let z : true ≡ false = sym k ∙ h in cc

-- Commits of a table, one after another, over records that have none of them.
abbrev pub IsNewCommit : ℕ → List Record → ℕ → Entry → Type 0
IsNewCommit members rs t entry.Idle = Unit {0}
IsNewCommit members rs t (entry.Collecting parts yeses) = Unit {0}
IsNewCommit members rs t (entry.Committed ms acks) = (has_commit_of rs t ≡ false) × (all_up_to members ms ≡ true)

pub commits_allowed : (members : ℕ) (es : List (ℕ × Entry)) (rs : List Record) → T (is_sorted nat_cmp es) → 1 ≤ length rs → AllowedCommits members rs →
    EachEntry (IsNewCommit members rs) es → AllowedCommits members (commits_onto rs es)
commits_allowed members [] rs s behind a h = a
commits_allowed members (e ∷ es) rs s behind a h = by (λ qs b c k. commits_allowed members es qs (both_T _ _ s).1 b c k) e.1 h.0
  where
    others : (ms : List ℕ) → EachEntry (IsNewCommit members (log.Commit e.0 ms ∷ rs)) es
    others ms =
        each_entry (IsNewCommit members (log.Commit e.0 ms ∷ rs)) es (both_T (below_all nat_cmp e.0 es) (is_sorted nat_cmp es) s).1
        (λ u x g. still u x (entry_has (IsNewCommit members rs) es h.1 u x g) (λ same. let above = below_found e.0 es u x (both_T (below_all nat_cmp e.0 es) (is_sorted nat_cmp es) s).0 g in absurd (omega (arith, same, above))))
      where
        still : (u : ℕ) (x : Entry) → IsNewCommit members rs u x → e.0 ≢ u → IsNewCommit members (log.Commit e.0 ms ∷ rs) u x
        still u entry.Idle p n = tt
        still u (entry.Collecting parts yeses) p n = tt
        still u (entry.Committed ns acks) p n = (still_new rs e.0 ms u n p.0, p.1)

    by : ((qs : List Record) → 1 ≤ length qs → AllowedCommits members qs → EachEntry (IsNewCommit members qs) es → AllowedCommits members (commits_onto qs es)) →
        (x : Entry) → IsNewCommit members rs e.0 x → AllowedCommits members (commits_onto (commit_onto rs e.0 x) es)
    by rest entry.Idle p = rest rs behind a h.1
    by rest (entry.Collecting parts yeses) p = rest rs behind a h.1
    by rest (entry.Committed ms acks) p = rest (log.Commit e.0 ms ∷ rs) (omega arith) (may_commit members (length rs) rs e.0 ms behind p.0 p.1, a) (others ms)

pub more_commits : (es : List (ℕ × Entry)) (rs : List Record) → length rs ≤ length (commits_onto rs es)
more_commits [] rs = omega arith
more_commits (e ∷ es) rs = by (more_commits es) e.1
  where
    by : ((qs : List Record) → length qs ≤ length (commits_onto qs es)) → (x : Entry) → length rs ≤ length (commits_onto (commit_onto rs e.0 x) es)
    by rest entry.Idle = rest rs
    by rest (entry.Collecting parts yeses) = rest rs
    by rest (entry.Committed ms acks) = let p = rest (log.Commit e.0 ms ∷ rs) in omega (arith, p)
