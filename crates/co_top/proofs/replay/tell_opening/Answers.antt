use Rattle.std.proofs.Common.{List, ℕ, ◌++◌, sym, subst, ap, ◌∙◌}
use Rattle.co_top.specs.Replayed.{given_back, opening_text, IsOpeningTold}
use Rattle.co_top.specs.Telling.{IsTextPut}
use Rattle.co_top.proofs.Plays.{opening_put}
use Rattle.co_top.proofs.replay.tell_opening.Goals as goal

pub returns-clause-told : goal.returns-clause-told
returns-clause-told g c =
    subst (IsOpeningTold c.args.head c.args.items.now (g.K.Sink.told c.args.out.now) (g.K.Sink.told c.put-told.new.out))
    (ap (λ h. given_back h c.put-told.result) (sym c.in_ok-head.ensures.head) ∙ sym c.given_back.ensures)
    (opening_put c.args.head c.args.items.now (g.K.Sink.told c.args.out.now) (g.K.Sink.told c.put-told.new.out) c.put-told.result
    (subst (λ t. IsTextPut t (g.K.Sink.told c.args.out.now) (g.K.Sink.told c.put-told.new.out) c.put-told.result) (c.deref.ensures.value ∙ c.in_ok-head.ensures.text ∙ ap (λ (xs : List ℕ). xs ++ opening_text c.args.head c.args.items.now) c.new-text.ensures.items) c.put-told.ensures.put))
