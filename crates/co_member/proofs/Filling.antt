-- What a filled spare has, newest first, is what a checkpoint puts into it, oldest first.
use Rattle.std.proofs.Common.{◌≡◌, ℕ, List, [], ◌∷◌, ◌++◌, map, reverse, refl, sym, ap, ◌∙◌, append_assoc}
use Rattle.std.specs.FinMap.{entries}
use mathlib.Core.List.{reverse-cons}
use Rattle.std.specs.List.{AllByRecursion}
use Rattle.std.specs.Prelude.{Some}
use Rattle.co_log.specs.Spare.{IsFillable}
use Rattle.co_record.specs.Spelling.{IsWritable}
use Rattle.co_plain.specs.Member.{prepare_record}
use Rattle.co_state.proofs.InOrder.{ordered-dumped_undos}
use Rattle.co_state.specs.Table.{Table, look}
use Rattle.co_undecided.proofs.Voting.{AreFound, all_found}
use Rattle.co_base.specs.declared.node.Node.TheVariants as node
use Rattle.co_pairs.specs.Votes.{prepared_of}
use Rattle.co_plain.specs.MemberLog.{member_spare, prepares_onto}
use Rattle.co_plain.specs.declared.member_state.MemberState.{MemberState}
use Rattle.co_record.specs.declared.record.Record.{Record}
use Rattle.co_record.specs.declared.record.Record.TheVariants as log
use Rattle.co_state.specs.declared.engine_state.Vote.{Vote}
use Rattle.co_member.specs.Checkpoint.{prepared, prepared_again, point_of, spare_items, MayFill}

-- the votes of a table, listed and prepared
pub prepared_alike : (es : List (ℕ × Vote)) → map prepared_again (map prepared_of es) ≡ map prepared es
prepared_alike [] = refl
prepared_alike (e ∷ es) = ap (λ (rs : List Record). prepared e ∷ rs) (prepared_alike es)

prepares_are : (records : List Record) (es : List (ℕ × Vote)) → prepares_onto records es ≡ reverse (map prepared es) ++ records
prepares_are records [] = refl
prepares_are records (e ∷ es) =
    prepares_are (prepared e ∷ records) es ∙ sym (append_assoc (reverse (map prepared es)) (prepared e ∷ []) records)
    ∙ ap (λ (rs : List Record). rs ++ records) (sym (reverse-cons (prepared e) (map prepared es)))

-- the records behind the header, newest first, and the header
pub spare_is : (m : ℕ) (x : MemberState) (generation : ℕ) → reverse (spare_items x) ++ log.Header (node.Member m) generation ∷ [] ≡ member_spare m x generation
spare_is m x generation =
    let point = point_of x in
    let votes = map prepared (entries x.engine.voted) in
    ap (λ (rs : List Record). rs ++ log.Header (node.Member m) generation ∷ []) (reverse-cons point votes)
    ∙ append_assoc (reverse votes) (point ∷ []) (log.Header (node.Member m) generation ∷ [])
    ∙ sym (prepares_are (point ∷ log.Header (node.Member m) generation ∷ []) (entries x.engine.voted))

-- ---- what is filled can be written

votes_fillable : (voted : Table Vote) → ((t : ℕ) (vote : Vote) → look voted t ≡ Some vote → IsWritable (prepare_record t vote.coord vote.count vote.sets)) → (es : List (ℕ × Vote)) → AreFound voted es → AllByRecursion IsFillable (map prepared es)
votes_fillable voted may [] are = tt
votes_fillable voted may (e ∷ es) are = (may e.0 e.1 are.0, votes_fillable voted may es are.1)

-- undos are in order in every state
pub fillable : (x : MemberState) → MayFill x → AllByRecursion IsFillable (spare_items x)
fillable x may = (ordered-dumped_undos x.engine.kind x.engine, votes_fillable x.engine.voted may (entries x.engine.voted) (all_found x.engine.voted))
