use Rattle.std.proofs.Common.{refl, sym, ap, subst, ◌∙◌}
use Rattle.co_plain.specs.MemberView.{numbers_from}
use Rattle.co_state.specs.declared.engine_state.EngineState.{EngineState}
use Rattle.co_state.specs.Table.{no_entries}
use Rattle.co_state.specs.Effects.{records_from, restored}
use Rattle.co_pairs.specs.Votes.{votes_of}
use Rattle.co_recover.specs.declared.past.MemberPast.{MemberPast}
use Rattle.co_undecided.specs.Represented.{Represents}
use Rattle.co_member.proofs.Restoring.{numbers_again, restored_view}
use Rattle.co_member.proofs.running.Running.restored.Goals as goal

pub returns-clause-stands : goal.returns-clause-stands
returns-clause-stands g c = λ l v is.
    let kind = c.args.kind in
    let rows = ap (λ (p : MemberPast). restored kind (records_from p.rows) (votes_of p.voted)) is in
    let votes = ap (λ ps. restored kind (records_from c.args.past.rows) (votes_of ps)) c.as_slice.ensures in
    record {
      undecided = subst (λ (b : EngineState). Represents g.E.Engine.stands_for c.in_ok-undecided.undecided b no_entries) (votes ∙ rows ∙ restored_view kind v) c.in_ok-undecided.ensures.stands;
      committed = sym (c.in_ok-committed.ensures ∙ ap (λ (p : MemberPast). numbers_from p.committed) is ∙ numbers_again v.committed);
      kind = refl;
    }
