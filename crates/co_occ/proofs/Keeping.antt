-- What is kept of each transaction, against the state for which the engine stands.
use Rattle.std.proofs.Common.{◌≡◌, ℕ, List, Option, None, Some, refl, sym, ap, ◌∙◌, Bool, true, false, cond, is_some, true≢false}
use Rattle.std.specs.Option.{option_map}
use Rattle.co_state.specs.declared.engine_state.Operation.{Operation}
use Rattle.co_state.specs.declared.engine_state.Sets.{Sets}
use Rattle.co_state.specs.declared.engine_state.Vote.{Vote}
use Rattle.co_state.specs.Changes.{sets_of}
use Rattle.co_state.specs.EngineState.{operations_in, sets_in}
use Rattle.co_engine.specs.Undecided.{or_nothing}
use Rattle.co_occ.specs.declared.reads.Reads.{Reads}
use Rattle.co_occ.specs.Kept.{or_unread, reads_of}
use Rattle.co_occ.specs.Stands.{IsKept, active_sets, voted_sets}

none_mapped : {A B : Type 0} (f : A → B) (o : Option A) → option_map f o ≡ None → o ≡ None
none_mapped f None e = refl
none_mapped f (Some a) e = absurd (let g : Some (f a) ≡ None = e in cc)

-- what a transaction read and wrote is what is kept of it
pub sets_kept : (reads : Option Reads) (sets : Option Sets) (os : Option (List Operation)) (vote : Option Vote) → IsKept reads sets os vote → sets_in vote (operations_in os) ≡ or_nothing sets
sets_kept None sets None None k = ap or_nothing k.votes_are
sets_kept None sets None (Some v) k = ap or_nothing k.votes_are
sets_kept None sets (Some os) vote k = absurd (let f : Some (reads_of os) ≡ None = k.reads_are in cc)
sets_kept (Some reads) sets os (Some v) k = absurd (let f : Some v.sets ≡ None = k.votes_are in cc)
sets_kept (Some reads) sets None None k = absurd (let f : None ≡ Some reads = k.reads_are in cc)
sets_kept (Some reads) sets (Some os) None k = ap or_nothing k.sets_are

pub reads_kept : (reads : Option Reads) (os : Option (List Operation)) → option_map reads_of os ≡ reads → reads_of (operations_in os) ≡ or_unread reads
reads_kept reads None e = ap or_unread e
reads_kept reads (Some os) e = ap or_unread e

-- what is kept of one transaction, where what it is kept against is known by other names
pub kept_along : {reads reads' : Option Reads} {sets sets' : Option Sets} {os os' : Option (List Operation)} {vote vote' : Option Vote} → reads ≡ reads' → sets ≡ sets' → os ≡ os' → vote ≡ vote'
    → IsKept reads sets os vote → IsKept reads' sets' os' vote'
kept_along p q f g k = record {
  reads_are = ap (option_map reads_of) (sym f) ∙ k.reads_are ∙ p;
  sets_are = ap (option_map sets_of) (sym f) ∙ k.sets_are ∙ (λ i. active_sets (p i) (q i));
  votes_are = ap (option_map (λ v. v.sets)) (sym g) ∙ k.votes_are ∙ (λ i. voted_sets (p i) (q i));
}

pub kept_cond : (c : Bool) {reads reads' : Option Reads} {sets sets' : Option Sets} {os os' : Option (List Operation)} {vote vote' : Option Vote} → (c ≡ true → IsKept reads sets os vote)
    → (c ≡ false → IsKept reads' sets' os' vote') → IsKept (cond c reads reads') (cond c sets sets') (cond c os os') (cond c vote vote')
kept_cond true f g = f refl
kept_cond false f g = g refl

pub nothing_kept : IsKept None None None None
nothing_kept = record { reads_are = refl; sets_are = refl; votes_are = refl }

-- ---- votes
-- an active transaction votes
pub cast_kept : (reads : Option Reads) (sets : Option Sets) (os : Option (List Operation)) (vote : Option Vote) (coord count : ℕ) → IsKept reads sets os vote → is_some os ≡ true
    → IsKept None sets None (Some (record { coord = coord; count = count; sets = sets_of (operations_in os) }))
cast_kept reads sets None vote coord count k h = absurd (true≢false (sym h))
cast_kept None sets (Some os) vote coord count k h = absurd (let f : Some (reads_of os) ≡ None = k.reads_are in cc)
cast_kept (Some reads) sets (Some os) vote coord count k h = record { reads_are = refl; sets_are = refl; votes_are = k.sets_are }

-- a voted transaction is not active
pub voted_unread : (reads : Option Reads) (sets : Option Sets) (os : Option (List Operation)) (vote : Vote) → IsKept reads sets os (Some vote) → reads ≡ None
voted_unread None sets os vote k = refl
voted_unread (Some reads) sets os vote k = absurd (let f : Some vote.sets ≡ None = k.votes_are in cc)

pub not_active : (sets : Option Sets) (os : Option (List Operation)) (vote : Option Vote) → IsKept None sets os vote → os ≡ None
not_active sets os vote k = none_mapped reads_of os k.reads_are

-- one that is absent has not voted
pub absent_vote : (reads : Option Reads) (os : Option (List Operation)) (vote : Option Vote) → IsKept reads None os vote → is_some vote ≡ false
absent_vote reads os None k = refl
absent_vote None os (Some vote) k = absurd (let f : Some vote.sets ≡ None = k.votes_are in cc)
absent_vote (Some reads) os (Some vote) k = absurd (let f : Some vote.sets ≡ None = k.votes_are in cc)
