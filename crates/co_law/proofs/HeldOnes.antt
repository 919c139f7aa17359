-- Who was asked about is held by its coordinator, as a participant of its entry and of its commit record.
use Rattle.std.proofs.Common.{◌≡◌, ◌⊎◌, inl, inr, ℕ, true, false, ◌||◌, ◌&&◌, ◌==◌, ◌≤◌, List, [], ◌∷◌, Option, None, Some, refl, sym, ap, ◌∙◌, subst}
use Rattle.std.specs.Option.{is_some}
use Rattle.std.proofs.lemmas.Bool.{or_cases, or_left, or_right, and_parts, eq-eqb}
use Rattle.co_state.specs.Table.{look, holds}
use Rattle.co_record.specs.declared.record.Record.TheVariants as log
use Rattle.co_plain.specs.declared.coord_state.Entry.{Entry}
use Rattle.co_plain.specs.declared.coord_state.Entry.TheVariants as entry
use Rattle.co_plain.specs.declared.session.Decided.{Decided}
use Rattle.co_plain.specs.CoordStep.{members_of}
use Rattle.co_plain.specs.Decisions.{is_decided, told_of}
use Rattle.co_plain.specs.Federation.{Federation}
use Rattle.co_plain.specs.Invariants.{Memory, view, stands, takes_part_in}
use Rattle.co_plain.specs.Numbers.{has_number}
use Rattle.co_plain.specs.Sessions.{count_at, parts_of}
use Rattle.co_plain.specs.SoundLogs.{unended_in, log_has_committed}
use Rattle.co_law_engine.proofs.YesTells.{in_some}
use Rattle.co_law_base.proofs.Carrying.{by_coord_begun}
use Rattle.co_law_base.proofs.Commits.{unended_seen}
use Rattle.co_law_base.proofs.Facts.{rest_of, by_coord, takes, ByTold, Named, Each, OpenEntry, Facts}
use Rattle.co_law_base.proofs.TwoViews.{committed_both}
use Rattle.co_law_base.proofs.Sending.{told_parts, part_member}
use Rattle.co_law_base.proofs.KeptTold.{told_begun}
use Rattle.co_law_moves.proofs.KeptFrom.{living, takes_is}
use Rattle.co_plain.specs.CoordInvariants.{IsOneOf, TookPartIn, IsHeldFor, AskedAreHeld}
use Rattle.co_law_runs.proofs.Working.{Working}
use Rattle.co_law.proofs.CommitRecords.{CommitRecords, one_seen, session_parts}

pub took_decided : (ds : List Decided) (t : ℕ) (members : List ℕ) → TookPartIn ds t members → is_decided ds t ≡ true
took_decided [] t members x = absurd x
took_decided (d ∷ ds) t members (inl x) = or_left _ _ (ap (λ n. n == t) x.0 ∙ eq-eqb t t refl)
took_decided (d ∷ ds) t members (inr x) = or_right _ _ (took_decided ds t members x)

module _ (s : Federation) (f : Facts s) (w : Working s) (r : CommitRecords s) where
  -- who takes part is named by the commit
  named : (t c m : ℕ) → takes (rest_of s) t m → (members : List ℕ) → unended_in (s.coord c).log.stable t ≡ Some members → has_number members m ≡ true
  named t c m (ByTold l) members e =
      let is : members ≡ members_of (parts_of (told_of s t)) = session_parts s f r c t members e (told_begun (look s.sessions t) m l) in
      ap (λ ms. has_number ms m) is ∙ part_member (parts_of (told_of s t)) m ∙ told_parts (told_of s t) m l
  named t c m (Named d ms h k) members e = by ((f.coords c).unended_known t members e)
    where
      by : ((by_coord (look s.sessions t) c && is_decided s.decided t) ≡ true) ⊎ (unended_in (s.opened_coord c) t ≡ Some members) → has_number members m ≡ true
      by (inl q) =
          let begun = by_coord_begun (look s.sessions t) c (and_parts (by_coord (look s.sessions t) c) (is_decided s.decided t) q).0 in
          absurd (let z : true ≡ false = sym (f.numbers.commit_used d t (unended_seen (s.opened_coord d) t ms h)) ∙ f.numbers.new t begun in cc)
      by (inr o) =
          let same : c ≡ d = f.numbers.one_commit t c d members ms o h in
          let is : members ≡ ms = in_some (sym o ∙ ap (λ i. unended_in (s.opened_coord i) t) same ∙ h) in
          ap (λ ns. has_number ns m) is ∙ k

  -- who is in the table undecided is committed nowhere
  open_apart : (t c m : ℕ) → OpenEntry (rest_of s) c (s.coord c).log.stable t → holds (s.member m).committed t ≡ true → ⊥
  open_apart t c m o h =
      let z : true ≡ false = sym (((f.members m).views Memory).known t h (by_coord_begun (look s.sessions t) c o.begun_there)) ∙ o.undecided in cc

  -- who stands at a member held operations there at its decision, so each record of it names the member
  stood : (t m : ℕ) → stands (view Memory (s.member m)) t ≡ true → (members : List ℕ) → TookPartIn s.decided t members → has_number members m ≡ true
  stood t m h members = by s.decided w.works
    where
      by : (ds : List Decided) → Each (λ d. (k : ℕ) → stands (view Memory (s.member k)) d.txn ≡ true → 1 ≤ count_at d.told k) ds → TookPartIn ds t members → has_number members m ≡ true
      by [] e x = absurd x
      by (d ∷ ds) e (inr x) = by ds e.1 x
      by (d ∷ ds) e (inl x) =
          let told : 1 ≤ count_at d.told m = e.0 m (ap (stands (view Memory (s.member m))) x.0 ∙ h) in
          ap (λ ms. has_number ms m) x.1 ∙ part_member (parts_of d.told) m ∙ told_parts d.told m told

  named_ever : (t c m : ℕ) → (takes_part_in (look (s.coord c).table t) m || holds (s.member m).committed t) ≡ true → (members : List ℕ) → holds s.sessions t ≡ true →
      IsOneOf (log.Commit t members) (s.coord c).log.stable → has_number members m ≡ true
  named_ever t c m h members begun i = by (r c t members i)
    where
      there : TookPartIn s.decided t members → (o : Option Entry) → look (s.coord c).table t ≡ o → takes_part_in o m ≡ true → stands (view Memory (s.member m)) t ≡ true
      there x None e k = absurd (let z : false ≡ true = k in cc)
      there x (Some entry.Idle) e k = absurd (let z : false ≡ true = k in cc)
      there x (Some (entry.Collecting parts yeses)) e k =
          absurd (let z : true ≡ false = sym (took_decided s.decided t members x) ∙ ((f.coords c).collecting t parts yeses e).still.undecided in cc)
      there x (Some (entry.Committed ms acks)) e k = f.records.unended t c m ms Memory ((f.coords c).committed t ms acks e).recorded k

      stands_there : TookPartIn s.decided t members → (takes_part_in (look (s.coord c).table t) m ≡ true) ⊎ (holds (s.member m).committed t ≡ true) → stands (view Memory (s.member m)) t ≡ true
      stands_there x (inl k) = there x (look (s.coord c).table t) refl k
      stands_there x (inr k) = or_right _ _ k

      by : TookPartIn s.decided t members ⊎ IsOneOf (log.Commit t members) (s.opened_coord c) → has_number members m ≡ true
      by (inl x) = stood t m (stands_there x (or_cases _ _ h)) members x
      by (inr o) = absurd (let z : true ≡ false = sym (f.numbers.commit_used c t (one_seen (s.opened_coord c) t members o)) ∙ f.numbers.new t begun in cc)

  held_for : (t c m : ℕ) → takes (rest_of s) t m → (takes_part_in (look (s.coord c).table t) m || holds (s.member m).committed t) ≡ true → IsHeldFor s t c m
  held_for t c m part h = record { takes = takes_is s t m part; held = by (or_cases _ _ h); participant = participant; recorded = named t c m part; named = named_ever t c m h }
    where
      in_table : (o : Option Entry) → takes_part_in o m ≡ true → is_some o ≡ true
      in_table None q = absurd (let z : false ≡ true = q in cc)
      in_table (Some e) q = refl

      by : (takes_part_in (look (s.coord c).table t) m ≡ true) ⊎ (holds (s.member m).committed t ≡ true) → (holds (s.coord c).table t || log_has_committed (s.member m).log.stable t) ≡ true
      by (inl q) = or_left _ _ (in_table (look (s.coord c).table t) q)
      by (inr q) = or_right _ _ (sym (ap (λ n. holds n t) (committed_both (rest_of s) m (s.member m) (f.members m))) ∙ q)

      participant : (e : Entry) → look (s.coord c).table t ≡ Some e → takes_part_in (Some e) m ≡ true
      participant e q = now (or_cases _ _ h) e q
        where
          now : (takes_part_in (look (s.coord c).table t) m ≡ true) ⊎ (holds (s.member m).committed t ≡ true) → (e : Entry) → look (s.coord c).table t ≡ Some e → takes_part_in (Some e) m ≡ true
          now (inl k) e q = ap (λ o. takes_part_in o m) (sym q) ∙ k
          now (inr k) entry.Idle q = absurd (open_apart t c m ((f.coords c).idle t q) k)
          now (inr k) (entry.Collecting parts yeses) q = absurd (open_apart t c m ((f.coords c).collecting t parts yeses q).still k)
          now (inr k) (entry.Committed members acks) q = named t c m part members ((f.coords c).committed t members acks q).recorded

  pub asked_held : AskedAreHeld s
  asked_held =
      record {
        prepared = λ t c m n h apart.
            let q = f.sent.prepares_count t c m n h in
            held_for t c m (ByTold (subst (λ k. 1 ≤ k) q.0 q.1)) (f.sent.prepares_held t c m n h (living s t c (f.sent.prepares_named t c m n h) apart));
        voted = λ t c m side h apart.
            let v = (f.members m).views side in
            let lives = living s t c (v.named t c h) apart in
            held_for t c m (v.works t c h lives) (or_left _ _ (v.held t c h lives));
        questioned = λ t m c h apart.
            let lives = living s t c (f.sent.asks_named t m c h) apart in
            held_for t c m (f.sent.asks_take t m c h lives) (f.sent.asks_held t m c h lives);
      }
