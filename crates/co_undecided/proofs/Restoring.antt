-- Voted transactions enter one by one, each with no conflict with those before.
use Rattle.std.proofs.Common.{◌≡◌, ◌≢◌, ℕ, Bool, true, false, ◌&&◌, ◌||◌, ◌==◌, not, drop, zero, suc, List, [], ◌∷◌, None, is_some, refl, sym, ap, ◌∙◌, arith}
use Rattle.std.proofs.lemmas.Bool.Decides.{nat_tests}
use Rattle.std.specs.FinMap.{get-empty}
use Rattle.std.specs.Ordering.{nat_cmp}
use Rattle.co_base.specs.declared.head.Kind.{Kind}
use Rattle.co_serial.specs.Records.{Records}
use Rattle.co_pairs.specs.declared.prepared.Prepared.{Prepared}
use Rattle.co_pairs.specs.Free.{clash, clashes_with, are_free}
use Rattle.co_pairs.specs.Votes.{vote_in, votes_of}
use Rattle.co_state.specs.declared.engine_state.Operation.{Operation}
use Rattle.co_state.specs.declared.engine_state.Vote.{Vote}
use Rattle.co_state.specs.Effects.{restored}
use Rattle.co_state.specs.EngineState.{is_undecided}
use Rattle.co_state.specs.Keys.{reads_meet, writes_meet}
use Rattle.co_state.specs.Table.{Table, no_entries, look, put}
use Rattle.co_plain.specs.declared.member_state.AskedMark.{AskedMark}
use Rattle.co_undecided.specs.declared.entry.Entry.{Entry}
use Rattle.co_undecided.specs.declared.entry.Entry.TheVariants.{Voted}
use Rattle.co_undecided.specs.Kept.{entry_at, entry_of}
use Rattle.co_undecided.proofs.Numbered.{here, there, by_number}

nothing : {X : Type 0} (t : ℕ) → look (no_entries {X = X}) t ≡ None
nothing t = get-empty nat_cmp t

-- ---- the entries
pub no_votes : (t : ℕ) → look (no_entries {X = Entry}) t ≡ entry_of None (look (votes_of []) t) None
no_votes t = nothing {X = Entry} t ∙ sym (ap (λ v. entry_of None v None) (nothing {X = Vote} t))

pub one_vote : (es : Table Entry) (p : Prepared) (ps : List Prepared) → ((t : ℕ) → look es t ≡ entry_of None (look (votes_of ps) t) None)
    → (t : ℕ) → look (put es p.txn (Voted p.coord p.count)) t ≡ entry_of None (look (votes_of (p ∷ ps)) t) None
one_vote es p ps so_far t = by_number (λ t. look (put es p.txn (Voted p.coord p.count)) t ≡ entry_of None (look (put (votes_of ps) p.txn (vote_in p)) t) None) p.txn t
    (here es p.txn (Voted p.coord p.count) ∙ sym (ap (λ v. entry_of None v None) (here (votes_of ps) p.txn (vote_in p))))
    (λ n. there es p.txn (Voted p.coord p.count) t n ∙ so_far t ∙ sym (ap (λ v. entry_of None v None) (there (votes_of ps) p.txn (vote_in p) t n)))

pub votes_entries : (kind : Kind) (records : Records) (es : Table Entry) (ps : List Prepared) → ((t : ℕ) → look es t ≡ entry_of None (look (votes_of ps) t) None)
    → (t : ℕ) → look es t ≡ entry_at (restored kind records (votes_of ps)) no_entries t
votes_entries kind records es ps all t =
    all t ∙ ap (λ a. entry_of a (look (votes_of ps) t) None) (sym (nothing {X = List Operation} t))
    ∙ ap (entry_of (look (no_entries {X = List Operation}) t) (look (votes_of ps) t)) (sym (nothing {X = AskedMark} t))

-- no transaction is active, and nothing is marked
pub none_active : (t : ℕ) → look (no_entries {X = List Operation}) t ≡ None
none_active t = nothing {X = List Operation} t

pub none_asked : (t : ℕ) → look (no_entries {X = AskedMark}) t ≡ None
none_asked t = nothing {X = AskedMark} t

-- ---- votes that are free
either : (a b : Bool) → (a || b) ≡ false → (a ≡ false) × (b ≡ false)
either true b e = absurd (let z : true ≡ false = e in cc)
either false b e = (refl, e)

free_parts : (a b : Bool) → (not a && b) ≡ true → (a ≡ false) × (b ≡ true)
free_parts true b e = absurd (let z : false ≡ true = e in cc)
free_parts false b e = (refl, e)

pub free_first : (p : Prepared) (ps : List Prepared) → are_free (p ∷ ps) ≡ true → clashes_with p ps ≡ false
free_first p ps e = (free_parts (clashes_with p ps) (are_free ps) e).0

-- those after the first few are free too
pub free_drop : (n : ℕ) (ps : List Prepared) → are_free ps ≡ true → are_free (drop n ps) ≡ true
free_drop zero ps e = e
free_drop (suc n) [] e = e
free_drop (suc n) (p ∷ ps) e = free_drop n ps (free_parts (clashes_with p ps) (are_free ps) e).1

other_number : (p q : Prepared) → clash p q ≡ false → p.txn ≢ q.txn
other_number p q e = λ (same : p.txn ≡ q.txn). grind (arith, nat_tests, number, same)
  where
    number : (p.txn == q.txn) ≡ false
    number =
        (either (p.txn == q.txn) (reads_meet p.sets.reads q.sets.writes)
        (either ((p.txn == q.txn) || reads_meet p.sets.reads q.sets.writes) (reads_meet q.sets.reads p.sets.writes)
        (either (((p.txn == q.txn) || reads_meet p.sets.reads q.sets.writes) || reads_meet q.sets.reads p.sets.writes) (writes_meet p.sets.writes q.sets.writes) e).0).0).0

no_vote : (p : Prepared) (ps : List Prepared) → clashes_with p ps ≡ false → look (votes_of ps) p.txn ≡ None
no_vote p [] clear = nothing {X = Vote} p.txn
no_vote p (q ∷ qs) clear =
    let it = either (clash p q) (clashes_with p qs) clear in
    there (votes_of qs) q.txn (vote_in q) p.txn (other_number p q it.0) ∙ no_vote p qs it.1

-- so none has the number of one that enters
pub not_there : (kind : Kind) (records : Records) (p : Prepared) (ps : List Prepared) → clashes_with p ps ≡ false → is_undecided (restored kind records (votes_of ps)) p.txn ≡ false
not_there kind records p ps clear =
    ap (λ o. is_some o || is_some (look (votes_of ps) p.txn)) (nothing {X = List Operation} p.txn) ∙ ap is_some (no_vote p ps clear)

pub nobody_there : (kind : Kind) (records : Records) (u : ℕ) → is_undecided (restored kind records (votes_of [])) u ≡ false
nobody_there kind records u = ap (λ o. is_some o || is_some (look (votes_of []) u)) (nothing {X = List Operation} u) ∙ ap is_some (nothing {X = Vote} u)
