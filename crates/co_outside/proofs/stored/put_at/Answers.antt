use Rattle.std.proofs.Common.{◌∙◌, ap, refl}
use Rattle.co_outside.specs.Stored.{is_of, bytes_at}
use Rattle.std.specs.List.{position}
use Rattle.co_outside.proofs.Files.{found, missing, pushed, pushed_others}
use Rattle.co_outside.proofs.stored.put_at.Goals as goal

pub returns-in-Some-clause-put : goal.returns-in-Some-clause-put
returns-in-Some-clause-put c =
    let there = (found c.args.spot c.args.files.now.items c.in-Some.place (c.in-Some.ensures ∙ ap (position (is_of c.args.spot)) c.deref.ensures.value)).1 in
    there.changed _ (ap (λ f. f.spot) c.index_mut.ensures.value ∙ there.its_spot c.index_mut.result.now)

pub returns-in-Some-clause-others : goal.returns-in-Some-clause-others
returns-in-Some-clause-others c =
    let there = (found c.args.spot c.args.files.now.items c.in-Some.place (c.in-Some.ensures ∙ ap (position (is_of c.args.spot)) c.deref.ensures.value)).1 in
    there.others _ (ap (λ f. f.spot) c.index_mut.ensures.value ∙ there.its_spot c.index_mut.result.now)

pub returns-in_ok-push-in-None-clause-put : goal.returns-in_ok-push-in-None-clause-put
returns-in_ok-push-in-None-clause-put c =
    let none = missing c.args.spot c.args.files.now.items (c.in-None.ensures ∙ ap (position (is_of c.args.spot)) c.deref.ensures.value) in
    ap (λ files. bytes_at files c.args.spot) c.in_ok-push-in-None.ensures.items ∙ pushed c.args.spot c.args.files.now.items _ refl none

pub returns-in_ok-push-in-None-clause-others : goal.returns-in_ok-push-in-None-clause-others
returns-in_ok-push-in-None-clause-others c s other =
    ap (λ files. bytes_at files s) c.in_ok-push-in-None.ensures.items ∙ pushed_others c.args.spot c.args.files.now.items _ refl s other
