-- What each node keeps by itself, in a federation over any opened logs, and so in every state of its runs.
use Rattle.std.proofs.Common.{◌≡◌, ℕ, true, false, List, [], reverse, length, None, sym, ap, ◌∙◌, subst}
use Rattle.std.specs.Option.{is_some}
use Rattle.std.proofs.lemmas.Bool.{or_right}
use Rattle.co_base.specs.declared.head.Kind.{Kind}
use Rattle.co_base.specs.declared.node.Node.TheVariants as node
use Rattle.co_state.specs.Table.{look, holds, no_entries}
use Rattle.co_plain.specs.declared.happening.Happening.{Happening}
use Rattle.co_plain.specs.declared.member_view.MemberView.{MemberView}
use Rattle.co_plain.specs.declared.session.Session.{Session}
use Rattle.co_plain.specs.MemberView.{recovered_view, first_refused_at_member}
use Rattle.co_plain.specs.Opening.{Found, OnlyOwnLogs, used_numbers, opened}
use Rattle.co_plain.specs.Runs.{run}
use Rattle.co_plain.specs.Decisions.{asked_in}
use Rattle.co_plain.specs.CoordView.{has_commit_of}
use Rattle.co_plain.specs.Invariants.{Side, Memory, Stable, view, stands, VotedAreConflictFree}
use Rattle.co_law_base.proofs.Lookups.{is_nothing, look_none}
use Rattle.co_law_moves.specs.OwnFacts.{KeptByEach}
use Rattle.co_law_moves.proofs.Own.{OwnView, OwnMember, OwnFacts}
use Rattle.co_law_moves.proofs.KeptBySelf.{kept_by_each}
use Rattle.co_law_moves.proofs.Start.{made_view, coord_facts}
use Rattle.co_law_moves.proofs.OwnRuns.{own_run}
use Rattle.co_law.proofs.Readable.{tells_there, members_used, coords_used}

-- from what the records of the opened logs tell
module _ (kinds : List Kind) (coords : ℕ) (fm fc : ℕ → Found) (free : (m : ℕ) → VotedAreConflictFree (recovered_view (fm m).records))
    (apart : (m t : ℕ) → holds (recovered_view (fm m).records).committed t ≡ true → holds (recovered_view (fm m).records).voted t ≡ false)
    (members_used : (m t : ℕ) → stands (recovered_view (fm m).records) t ≡ true → holds (used_numbers (length kinds) coords fm fc) t ≡ true)
    (coords_used : (c t : ℕ) → has_commit_of (fc c).records t ≡ true → holds (used_numbers (length kinds) coords fm fc) t ≡ true) where
  nobody : {A : Type 0} (t : ℕ) → holds (no_entries {X = Session}) t ≡ true → A
  nobody t h = absurd (let z : false ≡ true = sym (ap is_some (look_none {X = Session} t)) ∙ h in cc)

  view_own : (m : ℕ) → OwnView no_entries (used_numbers (length kinds) coords fm fc) (recovered_view (fm m).records)
  view_own m =
      record {
        free = free m;
        over = λ t h. or_right (asked_in (look no_entries t)) (holds (used_numbers (length kinds) coords fm fc) t) (members_used m t h);
        apart = apart m;
        away = λ t h b. nobody t b;
      }

  both : (m : ℕ) (P : MemberView → Type 0) → P (recovered_view (fm m).records) → (side : Side) → P (view side ((opened kinds coords fm fc).member m))
  both m P p Memory = p
  both m P p Stable = subst P (sym (made_view (node.Member m) (fm m).records)) p

  member_own : (m : ℕ) → OwnMember no_entries (used_numbers (length kinds) coords fm fc) [] m ((opened kinds coords fm fc).member m)
  member_own m =
      record {
        views = both m (OwnView no_entries (used_numbers (length kinds) coords fm fc)) (view_own m);
        active = λ t os f. is_nothing (sym (look_none t) ∙ f);
        marked = λ t mark f. is_nothing (sym (look_none t) ∙ f);
        logged = made_view (node.Member m) (fm m).records;
        waiting = tt;
      }

  unsent : {A : Type 0} → false ≡ true → A
  unsent h = absurd (let z : false ≡ true = h in cc)

  pub own_start : OwnFacts (opened kinds coords fm fc)
  own_start =
      record {
        numbers =
            record {
              new = λ t h. nobody t h;
              decided_begun = λ t h. unsent h;
              once = tt;
              local_asked = λ t m session h. is_nothing (sym (look_none t) ∙ h);
              commit_used = coords_used;
            };
        members = member_own;
        coords = coord_facts kinds coords fm fc coords_used;
        ends = λ c. tt;
        sent = record { over = λ note h. unsent h; prepares = λ t c m n h. unsent h };
      }

module _ (kinds : List Kind) (coords : ℕ) (fm fc : ℕ → Found) (own : OnlyOwnLogs kinds coords fm fc) (allowed : (m : ℕ) → first_refused_at_member coords (reverse (fm m).records) ≡ None) where
  pub start_own : OwnFacts (opened kinds coords fm fc)
  start_own =
      own_start kinds coords fm fc (λ m. (tells_there kinds coords fm fc own allowed m).free) (λ m. (tells_there kinds coords fm fc own allowed m).apart)
      (members_used kinds coords fm fc own allowed) (coords_used kinds coords fm fc own allowed)

  pub each_keeps : (hs : List Happening) → KeptByEach (run hs (opened kinds coords fm fc))
  each_keeps hs = kept_by_each (run hs (opened kinds coords fm fc)) (own_run hs (opened kinds coords fm fc) start_own)
