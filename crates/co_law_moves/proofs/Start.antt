-- The facts of a federation over sound opened logs.
use Rattle.std.proofs.Common.{◌≡◌, ◌⊎◌, inl, inr, ℕ, Bool, true, false, List, [], ◌∷◌, length, Some, refl, sym, ap, ◌∙◌, subst}
use Rattle.std.specs.Option.{is_some}
use Rattle.std.proofs.lemmas.Bool.{or_cases, or_right, eq-eqb}
use Rattle.std.specs.FinMap.{entries}
use Rattle.co_base.specs.declared.head.Kind.{Kind}
use Rattle.co_base.specs.declared.node.Node.{Node}
use Rattle.co_base.specs.declared.node.Node.TheVariants as node
use Rattle.co_record.specs.declared.record.Record.{Record}
use Rattle.co_state.specs.declared.engine_state.Vote.{Vote}
use Rattle.co_state.specs.Table.{Table, look, holds, no_entries}
use Rattle.co_plain.specs.declared.coord_state.Entry.{Entry}
use Rattle.co_plain.specs.declared.coord_state.Entry.TheVariants as entry
use Rattle.co_plain.specs.declared.member_view.MemberView.{MemberView}
use Rattle.co_plain.specs.declared.session.Session.{Session}
use Rattle.co_plain.specs.MemberView.{recovered_view}
use Rattle.co_plain.specs.CoordView.{recovered_commits, has_commit_of}
use Rattle.co_plain.specs.CoordStep.{table_from}
use Rattle.co_plain.specs.Opening.{Found, made, used_numbers, opened}
use Rattle.co_plain.specs.Federation.{Federation}
use Rattle.co_plain.specs.Decisions.{votes_for}
use Rattle.co_plain.specs.SoundLogs.{unended_in, has_unended, ByVote, ByCommit}
use Rattle.co_plain.specs.Invariants.{Side, Memory, Stable, view, stands, takes_part_in}
use Rattle.co_law_base.proofs.Lookups.{is_nothing, look_none, holds_found, found_holds}
use Rattle.co_law_base.proofs.Commits.{lacks_at_first, unended_seen, unended_some, from_cases, from_found}
use Rattle.co_law_base.proofs.ImageRules.{IsImage}
use Rattle.co_law_base.proofs.Facts.{rest_of, asked, settled, Here, Before, alive, by_coord, settled_at, belongs, Begun, Voted, Named, InOpened, serial, ViewFacts, MemberFacts, CommittedEntry, CoordHas, Facts}
use Rattle.co_plain.specs.Premises.{AreOpenable}
use Rattle.co_law_moves.proofs.Laid.{laid_image}

pub made_view : (owner : Node) (rs : List Record) → recovered_view (made owner rs) ≡ recovered_view rs
made_view owner [] = refl
made_view owner (r ∷ rs) = refl

made_commits : (owner : Node) (rs : List Record) → recovered_commits (made owner rs) ≡ recovered_commits rs
made_commits owner [] = refl
made_commits owner (r ∷ rs) = refl

nobody : {A : Type 0} (t : ℕ) → holds (no_entries {X = Session}) t ≡ true → A
nobody t h = absurd (let z : false ≡ true = sym (ap is_some (look_none {X = Session} t)) ∙ h in cc)

-- The coordinators over opened logs, sound or not.
module _ (kinds : List Kind) (coords : ℕ) (fm fc : ℕ → Found) (used : (c t : ℕ) → has_commit_of (fc c).records t ≡ true → holds (used_numbers (length kinds) coords fm fc) t ≡ true) where
  pub coord_facts : (c : ℕ) → CoordHas (rest_of (opened kinds coords fm fc)) c ((opened kinds coords fm fc).coord c)
  coord_facts c =
      record {
        idle = λ t f. let p = from_cases unended t entry.Idle f in absurd (let z : entry.Committed p.0 [] ≡ entry.Idle = p.2 in cc);
        collecting = λ t parts yeses f. let p = from_cases unended t (entry.Collecting parts yeses) f in absurd (let z : entry.Committed p.0 [] ≡ entry.Collecting parts yeses = p.2 in cc);
        committed = λ t ms acks f. let p = from_cases unended t (entry.Committed ms acks) f in committed t ms acks p.0 p.1 p.2;
        known = λ t h. or_right _ _ (sym (ap (λ k. holds k.seen t) (made_commits (node.Coord c) (fc c).records)) ∙ h);
        unended_over = λ t ms h. or_right (asked (rest_of (opened kinds coords fm fc)) t) (holds (used_numbers (length kinds) coords fm fc) t) (used c t (unended_seen (fc c).records t ms (sym (ap (λ k. look k.unended t) (made_commits (node.Coord c) (fc c).records)) ∙ h)));
        unended_known = λ t ms h. inr (sym (ap (λ k. look k.unended t) (made_commits (node.Coord c) (fc c).records)) ∙ h);
        ends = refl;
      }
    where
      unended : Table (List ℕ)
      unended = (recovered_commits (fc c).records).unended

      fits : Entry → ℕ → Type 0
      fits entry.Idle t = Unit {0}
      fits (entry.Collecting parts yeses) t = Unit {0}
      fits (entry.Committed ms acks) t = CommittedEntry (rest_of (opened kinds coords fm fc)) c (made (node.Coord c) (fc c).records) [] t ms acks

      committed : (t : ℕ) (ms acks ns : List ℕ) → look (recovered_commits (fc c).records).unended t ≡ Some ns → entry.Committed ns [] ≡ entry.Committed ms acks →
          CommittedEntry (rest_of (opened kinds coords fm fc)) c (made (node.Coord c) (fc c).records) [] t ms acks
      committed t ms acks ns e q =
          let is : unended_in (made (node.Coord c) (fc c).records) t ≡ Some ns = ap (λ k. look k.unended t) (made_commits (node.Coord c) (fc c).records) ∙ e in
          subst (λ x. fits x t) q
          (record { recorded = is; logged = is; lacks = lacks_at_first ns (unended_some (fc c).records t ns e); acks_sent = λ m h. absurd (let z : false ≡ true = h in cc) })

module _ (kinds : List Kind) (coords : ℕ) (fm fc : ℕ → Found) (g : AreOpenable kinds coords fm fc) where
  abbrev pub s0 : Federation
  s0 = opened kinds coords fm fc

  abbrev pub v : ℕ → MemberView
  v m = recovered_view (fm m).records

  -- a vote whose coordinator has a commit has one without end
  has_open : (m t c : ℕ) → votes_for (look (v m).voted t) c ≡ true → (d : ℕ) → has_commit_of (fc d).records t ≡ true → (members : List ℕ) × (unended_in (fc c).records t ≡ Some members)
  has_open m t c h d k = by (has_unended (fc c).records t) refl
    where
      by : (b : Bool) → has_unended (fc c).records t ≡ b → (members : List ℕ) × (unended_in (fc c).records t ≡ Some members)
      by true e = holds_found (recovered_commits (fc c).records).unended t e
      by false e = absurd (let z : true ≡ false = sym k ∙ (g.sound.undecided t m c h e).undecided d in cc)

  own_vote : (m t : ℕ) (vote : Vote) → look (v m).voted t ≡ Some vote → votes_for (look (v m).voted t) vote.coord ≡ true
  own_vote m t vote e = ap (λ o. votes_for o vote.coord) e ∙ eq-eqb vote.coord vote.coord refl

  image : (m : ℕ) → IsImage (serial (rest_of (opened kinds coords fm fc)) m) (settled (rest_of (opened kinds coords fm fc))) (recovered_view (fm m).records)
  image m =
      laid_image (λ t vote. has_commit_of (fc vote.coord).records t) (settled (rest_of (opened kinds coords fm fc))) (recovered_view (fm m).records) (g.free m)
      (λ t vote f d. Before vote.coord d)
      (λ t vote f d. back t vote f d)
    where
      back : (t : ℕ) (vote : Vote) → look (v m).voted t ≡ Some vote → settled (rest_of (opened kinds coords fm fc)) t → has_commit_of (fc vote.coord).records t ≡ true
      back t vote f (Here h) = absurd (let z : false ≡ true = h in cc)
      back t vote f (Before d k) = let p = has_open m t vote.coord (own_vote m t vote f) d k in unended_seen (fc vote.coord).records t p.0 p.1

  -- a vote of a transaction that its coordinator has, or committed, is one of its participants
  has_it : (m t c : ℕ) → votes_for (look (v m).voted t) c ≡ true → alive (rest_of (opened kinds coords fm fc)) c t ≡ true → (members : List ℕ) × (unended_in (fc c).records t ≡ Some members)
  has_it m t c h a = by (or_cases (holds (table_from (entries (recovered_commits (fc c).records).unended)) t) (has_commit_of (fc c).records t) a)
    where
      by : (holds (table_from (entries (recovered_commits (fc c).records).unended)) t ≡ true) ⊎ (has_commit_of (fc c).records t ≡ true) → (members : List ℕ) × (unended_in (fc c).records t ≡ Some members)
      by (inr k) = has_open m t c h c k
      by (inl k) =
          let p = holds_found (table_from (entries (recovered_commits (fc c).records).unended)) t k in
          let q = from_cases (recovered_commits (fc c).records).unended t p.0 p.1 in
          (q.0, q.1)

  view_facts : (m : ℕ) → ViewFacts (rest_of (opened kinds coords fm fc)) m (recovered_view (fm m).records)
  view_facts m =
      record {
        free = g.free m;
        replay = λ t vote b f. nobody t b;
        image = image m;
        named = λ t c h. Voted m h;
        over = λ t h. or_right (asked (rest_of (opened kinds coords fm fc)) t) (holds (used_numbers (length kinds) coords fm fc) t) (g.members_used m t h);
        apart = g.apart m;
        done = tt;
        known = λ t h b. nobody t b;
        homed = λ t c h b. homed t c h b;
        held = λ t c h a. let p = has_it m t c h a in
            ap (λ o. takes_part_in o m) (from_found (recovered_commits (fc c).records).unended t p.0 p.1) ∙ g.sound.voters t c m p.0 p.1 h;
        works = λ t c h a. let p = has_it m t c h a in Named c p.0 p.1 (g.sound.voters t c m p.0 p.1 h);
      }
    where
      homed : (t c : ℕ) → holds (recovered_view (fm m).records).committed t ≡ true → belongs (rest_of (opened kinds coords fm fc)) t c → settled_at (rest_of (opened kinds coords fm fc)) c t ≡ true
      homed t c h (Begun b) = absurd (let z : false ≡ true = sym (ap (λ o. by_coord o c) (look_none t)) ∙ b in cc)
      homed t c h (Voted k b) = by (has_unended (fc c).records t) refl
        where
          by : (x : Bool) → has_unended (fc c).records t ≡ x → settled_at (rest_of (opened kinds coords fm fc)) c t ≡ true
          by true e = let p = holds_found (recovered_commits (fc c).records).unended t e in unended_seen (fc c).records t p.0 p.1
          by false e = absurd (let z : true ≡ false = sym h ∙ (g.sound.undecided t k c b e).uncommitted m in cc)

  both : (m : ℕ) (P : MemberView → Type 0) → P (recovered_view (fm m).records) → (side : Side) → P (view side ((opened kinds coords fm fc).member m))
  both m P p Memory = p
  both m P p Stable = subst P (sym (made_view (node.Member m) (fm m).records)) p

  member_facts : (m : ℕ) → MemberFacts (rest_of (opened kinds coords fm fc)) m ((opened kinds coords fm fc).member m)
  member_facts m =
      record {
        views = both m (ViewFacts (rest_of (opened kinds coords fm fc)) m) (view_facts m);
        active = λ t os f. is_nothing (sym (look_none t) ∙ f);
        marked = λ t mark f. is_nothing (sym (look_none t) ∙ f);
        logged = made_view (node.Member m) (fm m).records;
        waiting = tt;
      }

  from_made : (c t : ℕ) (members : List ℕ) → unended_in (made (node.Coord c) (fc c).records) t ≡ Some members → unended_in (fc c).records t ≡ Some members
  from_made c t members h = sym (ap (λ k. look k.unended t) (made_commits (node.Coord c) (fc c).records)) ∙ h

  unsent : {A : Type 0} → false ≡ true → A
  unsent h = absurd (let z : false ≡ true = h in cc)

  pub start_facts : Facts (opened kinds coords fm fc)
  start_facts =
      record {
        numbers =
            record {
              new = λ t h. nobody t h;
              decided_begun = λ t h. unsent h;
              once = tt;
              local = λ t m n session h. is_nothing (sym (look_none t) ∙ h);
              local_asked = λ t m session h. is_nothing (sym (look_none t) ∙ h);
              kept = tt;
              voted_used = g.members_used;
              commit_used = g.coords_used;
              one_vote = λ t m n c d h k. g.sound.one_coordinator t c d (ByVote m h) (ByVote n k);
              vote_commit = λ t m c d members h k. g.sound.one_coordinator t c d (ByVote m h) (ByCommit (found_holds (recovered_commits (fc d).records).unended t members k));
              one_commit = λ t c d ms ns h k. g.sound.one_coordinator t c d (ByCommit (found_holds (recovered_commits (fc c).records).unended t ms h)) (ByCommit (found_holds (recovered_commits (fc d).records).unended t ns k));
              one_home = λ t m c d h k. let p = has_open m t c h d k in unended_seen (fc c).records t p.0 p.1;
            };
        members = member_facts;
        coords = coord_facts kinds coords fm fc g.coords_used;
        sent =
            record {
              over = λ note h. unsent h;
              prepares_named = λ t c m n h. unsent h;
              prepares_count = λ t c m n h. unsent h;
              prepares_held = λ t c m n h. unsent h;
              votes_named = λ t m c b h. unsent h;
              yeses_stand = λ t m c side h. unsent h;
              asks_named = λ t m c h. unsent h;
              asks_held = λ t m c h. unsent h;
              asks_take = λ t m c h. unsent h;
              acks_stand = λ t m c side h. unsent h;
              commits = λ t c m h. unsent h;
              aborts = λ t c m h. unsent h;
            };
        records =
            record {
              unended = λ t c m ms side h k. both m (λ z. stands z t ≡ true) (g.sound.participants t c m ms (from_made c t ms h) k) side;
              taking = λ t c m ms h k. InOpened c ms (from_made c t ms h) k;
              opened_stand = λ t c m ms side h k. both m (λ z. stands z t ≡ true) (g.sound.participants t c m ms h k) side;
            };
        serially = tt;
      }
