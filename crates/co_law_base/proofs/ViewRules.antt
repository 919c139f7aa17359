-- The views of a member under votes, aborts and installs: the voted ones stay free of conflicts, and replay.
use Rattle.std.proofs.Common.{◌≡◌, ◌≢◌, ◌⊎◌, inl, inr, ℕ, Bool, true, false, ◌||◌, List, Some, refl, sym, ap, ◌∙◌, subst}
use Rattle.co_serial.specs.Records.{Records, with_changes}
use Rattle.co_state.specs.declared.engine_state.Sets.{Sets}
use Rattle.co_state.specs.declared.engine_state.Vote.{Vote}
use Rattle.co_state.specs.Table.{look}
use Rattle.co_state.specs.Keys.{reads_meet, writes_meet}
use Rattle.co_state.specs.VotingRule.{voted_holds}
use Rattle.co_plain.specs.declared.member_view.MemberView.{MemberView}
use Rattle.co_plain.specs.declared.session.Told.{Told}
use Rattle.co_plain.specs.MemberView.{cast_in, forget_in, install_in, sets_conflict}
use Rattle.co_plain.specs.Invariants.{VotedAreConflictFree, VotedReplay, Replays, told_spans, told_changes}
use Rattle.co_law_engine.proofs.SetsMade.{meet_turned}
use Rattle.co_law_base.proofs.Lookups.{put_cases, without_cases}
use Rattle.co_law_base.proofs.ToldRuns.{replays_under}

three : (a b c : Bool) → a ≡ false → b ≡ false → c ≡ false → (a || b || c) ≡ false
three a b c p q r = rw (p, q, r)

pub three_parts : (a b c : Bool) → (a || b || c) ≡ false → (a ≡ false) × (b ≡ false) × (c ≡ false)
three_parts true b c h = absurd (let f : true ≡ false = h in cc)
three_parts false true c h = absurd (let f : true ≡ false = h in cc)
three_parts false false true h = absurd (let f : true ≡ false = h in cc)
three_parts false false false h = (refl, refl, refl)

-- who is not in the way of a vote is not in conflict with it
pub apart_ways : (own other : Sets) → voted_holds own other ≡ false → (sets_conflict own other ≡ false) × (sets_conflict other own ≡ false)
apart_ways own other h =
    let p = three_parts (reads_meet other.reads own.writes) (writes_meet other.writes own.writes) (reads_meet own.reads other.writes) h in (
      three (reads_meet own.reads other.writes) (reads_meet other.reads own.writes) (writes_meet own.writes other.writes) p.2 p.0 (meet_turned other.writes own.writes p.1),
      three (reads_meet other.reads own.writes) (reads_meet own.reads other.writes) (writes_meet other.writes own.writes) p.0 p.2 p.1,
    )

pub fewer_free : (v w : MemberView) → ((t : ℕ) (a : Vote) → look w.voted t ≡ Some a → look v.voted t ≡ Some a) → VotedAreConflictFree v → VotedAreConflictFree w
fewer_free v w h free = λ t u a b n f g. free t u a b n (h t a f) (h u b g)

pub forget_free : (v : MemberView) (t : ℕ) → VotedAreConflictFree v → VotedAreConflictFree (forget_in v t)
forget_free v t = fewer_free v (forget_in v t) (λ u a h. (without_cases v.voted t u a h).1)

pub install_free : (v : MemberView) (t : ℕ) (vote : Vote) → VotedAreConflictFree v → VotedAreConflictFree (install_in v t (Some vote))
install_free v t vote = fewer_free v (install_in v t (Some vote)) (λ u a h. (without_cases v.voted t u a h).1)

-- a vote that nothing was in the way of
pub cast_free : (v : MemberView) (t : ℕ) (vote : Vote) → VotedAreConflictFree v →
    ((u : ℕ) (other : Vote) → t ≢ u → look v.voted u ≡ Some other → voted_holds vote.sets other.sets ≡ false) → VotedAreConflictFree (cast_in v t vote)
cast_free v t vote free apart = λ x u a b n f g. by x u a b n (put_cases v.voted t vote x a f) (put_cases v.voted t vote u b g)
  where
    by : (x u : ℕ) (a b : Vote) → x ≢ u → ((t ≡ x) × (vote ≡ a)) ⊎ ((t ≢ x) × (look v.voted x ≡ Some a)) →
        ((t ≡ u) × (vote ≡ b)) ⊎ ((t ≢ u) × (look v.voted u ≡ Some b)) → sets_conflict a.sets b.sets ≡ false
    by x u a b n (inl p) (inl q) = absurd (n (sym p.0 ∙ q.0))
    by x u a b n (inl p) (inr q) = ap (λ z. sets_conflict z.sets b.sets) (sym p.1) ∙ (apart_ways vote.sets b.sets (apart u b q.0 q.1)).0
    by x u a b n (inr p) (inl q) = ap (λ z. sets_conflict a.sets z.sets) (sym q.1) ∙ (apart_ways vote.sets a.sets (apart x a p.0 p.1)).1
    by x u a b n (inr p) (inr q) = free x u a b n p.1 q.1

-- a vote replays on records
pub record Replayed (records : Records) (vote : Vote) (told : List Told) : Type 0 where
  pub replays : Replays records told
  pub reads : vote.sets.reads ≡ told_spans told
  pub writes : vote.sets.writes ≡ told_changes told

-- of every voted one of this run
abbrev pub AllReplay : MemberView → (ℕ → List Told) → (ℕ → Bool) → Type 0
AllReplay v told begun = (t : ℕ) (vote : Vote) → begun t ≡ true → look v.voted t ≡ Some vote → Replayed v.records vote (told t)

pub as_invariant : (v : MemberView) (told : ℕ → List Told) (begun : ℕ → Bool) → AllReplay v told begun → VotedReplay v told begun
as_invariant v told begun h =
    record {
      replays = λ t vote b f. (h t vote b f).replays;
      reads = λ t vote b f. (h t vote b f).reads;
      writes = λ t vote b f. (h t vote b f).writes;
    }

pub cast_replay : (v : MemberView) (t : ℕ) (vote : Vote) (told : ℕ → List Told) (begun : ℕ → Bool) → AllReplay v told begun →
    (begun t ≡ true → Replayed v.records vote (told t)) → AllReplay (cast_in v t vote) told begun
cast_replay v t vote told begun h new = λ u a b f. by u a b (put_cases v.voted t vote u a f)
  where
    by : (u : ℕ) (a : Vote) → begun u ≡ true → ((t ≡ u) × (vote ≡ a)) ⊎ ((t ≢ u) × (look v.voted u ≡ Some a)) → Replayed v.records a (told u)
    by u a b (inl p) = subst (λ k. Replayed v.records a (told k)) p.0 (subst (λ z. Replayed v.records z (told t)) p.1 (new (ap begun p.0 ∙ b)))
    by u a b (inr p) = h u a b p.1

pub forget_replay : (v : MemberView) (t : ℕ) (told : ℕ → List Told) (begun : ℕ → Bool) → AllReplay v told begun → AllReplay (forget_in v t) told begun
forget_replay v t told begun h = λ u a b f. h u a b (without_cases v.voted t u a f).1

-- the writes of an installed vote meet no read of another one
pub install_replay : (v : MemberView) (t : ℕ) (vote : Vote) (told : ℕ → List Told) (begun : ℕ → Bool) → VotedAreConflictFree v → look v.voted t ≡ Some vote →
    AllReplay v told begun → AllReplay (install_in v t (Some vote)) told begun
install_replay v t vote told begun free here h = λ u a b f. by u a b (without_cases v.voted t u a f)
  where
    by : (u : ℕ) (a : Vote) → begun u ≡ true → (t ≢ u) × (look v.voted u ≡ Some a) → Replayed (with_changes v.records vote.sets.writes) a (told u)
    by u a b p =
        let old = h u a b p.1 in
        let apart = three_parts (reads_meet vote.sets.reads a.sets.writes) (reads_meet a.sets.reads vote.sets.writes) (writes_meet vote.sets.writes a.sets.writes) (free t u vote a p.0 here p.1) in
        record {
          replays = replays_under (told u) v.records vote.sets.writes (ap (λ spans. reads_meet spans vote.sets.writes) (sym old.reads) ∙ apart.1) old.replays;
          reads = old.reads;
          writes = old.writes;
        }
