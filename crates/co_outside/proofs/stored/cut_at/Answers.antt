use Rattle.std.proofs.Common.{◌∙◌, sym, ap, List, ℕ, take}
use Rattle.co_outside.proofs.Overlays.{take_none}
use Rattle.co_outside.proofs.Files.{found, missing, absent}
use Rattle.co_outside.proofs.stored.cut_at.Goals as goal

pub returns-in-Some-clause-cut : goal.returns-in-Some-clause-cut
returns-in-Some-clause-cut c =
    let there = (found c.args.spot c.args.files.now c.in-Some.place c.in-Some.ensures).1 in
    there.changed _ (there.its_spot c.index-files-place.result) ∙ c.truncate.ensures.items ∙ ap (λ (bytes : List ℕ). take c.args.len bytes) (there.bytes c.index-files-place.result)

pub returns-in-Some-clause-others : goal.returns-in-Some-clause-others
returns-in-Some-clause-others c =
    let there = (found c.args.spot c.args.files.now c.in-Some.place c.in-Some.ensures).1 in
    there.others _ (there.its_spot c.index-files-place.result)

pub returns-in_default-clause-cut : goal.returns-in_default-clause-cut
returns-in_default-clause-cut c =
    let none = absent c.args.spot c.args.files.now (missing c.args.spot c.args.files.now c.in_default.ensures) in
    none ∙ sym (ap (λ (bytes : List ℕ). take c.args.len bytes) none ∙ take_none c.args.len)
