-- The least transaction in the way of an operation, by what is kept of each.
use Rattle.std.proofs.Common.{◌≡◌, ℕ, Bool, true, false, not, ◌&&◌, List, if◌then◌else◌, None, Some, refl, sym, ap, ◌∙◌}
use Rattle.std.specs.Prelude.{◌==◌}
use Rattle.std.specs.Option.{option_map}
use Rattle.std.specs.FinMap.{entries}
use Rattle.co_base.specs.declared.op.Op.{Op}
use Rattle.co_base.specs.declared.op.Op.TheVariants.{Read, Write, Erase, Scan}
use Rattle.co_state.specs.declared.engine_state.Operation.{Operation}
use Rattle.co_state.specs.declared.engine_state.Sets.{Sets}
use Rattle.co_state.specs.declared.engine_state.Vote.{Vote}
use Rattle.co_state.specs.Changes.{sets_of}
use Rattle.co_state.specs.LockRule.{writes_block, active_blocks}
use Rattle.co_state.specs.Search.{sets_block}
use Rattle.co_state.specs.Table.{Table, look, first_in, least_where}
use Rattle.co_pairs.proofs.Picking.{passes, first-picked}
use Rattle.co_engine.specs.declared.undecided.Undecided.{Undecided}
use Rattle.co_engine.specs.Undecided.{active_sets, voted_sets}
use Rattle.co_engine.proofs.Keeping.{pick_active, pick_voted, pick_operations, pick_vote, actives_kept, voteds_kept}

flag_active : (voted a : Bool) (s : Sets) (test : Sets → Bool) → ((not voted && a) && test s) ≡ passes (λ x. a && test x) (if voted then None else Some s)
flag_active true a s test = refl
flag_active false a s test = refl

flag_voted : (voted a : Bool) (s : Sets) (test : Sets → Bool) → ((voted && a) && test s) ≡ passes (λ x. a && test x) (if voted then Some s else None)
flag_voted true a s test = refl
flag_voted false a s test = refl

blocks_alike : (os : List Operation) (op : Op) → sets_block (sets_of os) op ≡ active_blocks os op
blocks_alike os (Read key) = refl
blocks_alike os (Scan span) = refl
blocks_alike os (Write key value) = refl
blocks_alike os (Erase key) = refl

pub active_holder : (roll : Table Undecided) (active : Table (List Operation)) (t : ℕ) (op : Op) → ((u : ℕ) → option_map sets_of (look active u) ≡ active_sets (look roll u))
    → first_in (λ u e. not e.voted && not (u == t) && sets_block e.sets op) (entries roll) ≡ least_where (λ u os. not (u == t) && active_blocks os op) active
active_holder roll active t op is =
    ap (λ test. first_in test (entries roll)) (λ i u (e : Undecided). flag_active e.voted (not (u == t)) e.sets (λ s. sets_block s op) i)
    ∙ first-picked pick_active (λ u s. not (u == t) && sets_block s op) (entries roll)
    ∙ ap (first_in (λ u s. not (u == t) && sets_block s op)) (sym (actives_kept roll active is))
    ∙ sym (first-picked pick_operations (λ u s. not (u == t) && sets_block s op) (entries active))
    ∙ ap (λ test. first_in test (entries active)) (λ i u (os : List Operation). not (u == t) && blocks_alike os op i)

pub voted_holder : (roll : Table Undecided) (voted : Table Vote) (t : ℕ) (op : Op) → ((u : ℕ) → option_map (λ v. v.sets) (look voted u) ≡ voted_sets (look roll u))
    → first_in (λ u e. e.voted && not (u == t) && writes_block e.sets.writes op) (entries roll) ≡ least_where (λ u vote. not (u == t) && writes_block vote.sets.writes op) voted
voted_holder roll voted t op is =
    ap (λ test. first_in test (entries roll)) (λ i u (e : Undecided). flag_voted e.voted (not (u == t)) e.sets (λ s. writes_block s.writes op) i)
    ∙ first-picked pick_voted (λ u s. not (u == t) && writes_block s.writes op) (entries roll)
    ∙ ap (first_in (λ u s. not (u == t) && writes_block s.writes op)) (sym (voteds_kept roll voted is))
    ∙ sym (first-picked pick_vote (λ u s. not (u == t) && writes_block s.writes op) (entries voted))
