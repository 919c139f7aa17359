use Rattle.std.proofs.Common.{length, ◌≤◌, ◌<◌, ap, ◌∙◌, arith, get_or, List}
use Rattle.std.proofs.lemmas.Bool.Decides.{nat_tests}
use Rattle.co_mv.specs.declared.version.Version.{Version}
use Rattle.co_mv.specs.Kept.{needed}
use Rattle.co_mv.specs.Versions.{stays}
use Rattle.co_mv.proofs.Ordering.{none_at, kept_at, gone_at}
use Rattle.co_mv.proofs.chain.forget.Goals as goal

pub returns-in_default : goal.returns-in_default
returns-in_default c =
    let keep = stays c.args.number (needed c.args.snapshots.now) in
    let l : length c.args.versions.now.items ≤ c.args.place = grind (arith, nat_tests, c.in_default.ensures.lookup.0, c.deref.ensures.value) in
    none_at keep c.args.versions.now.items c.args.place l

pub returns-then-not-stays : goal.returns-then-not-stays
returns-then-not-stays c =
    let keep = stays c.args.number (needed c.args.snapshots.now) in
    let within : c.args.place < length c.args.versions.now.items = grind (arith, nat_tests, c.in-Some.ensures.lookup.0, c.deref.ensures.value) in
    c.remove.ensures.items
    ∙ gone_at keep c.args.versions.now.items c.args.place c.in-Some.version.now c.in-Some.version.now within (c.in-Some.ensures.lookup.1 ∙ ap (λ (vs : List Version). get_or vs c.args.place c.in-Some.version.now) c.deref.ensures.value) c.if-not-stays.ensures

pub returns-else-not-stays : goal.returns-else-not-stays
returns-else-not-stays c =
    let keep = stays c.args.number (needed c.args.snapshots.now) in
    let within : c.args.place < length c.args.versions.now.items = grind (arith, nat_tests, c.in-Some.ensures.lookup.0, c.deref.ensures.value) in
    kept_at keep c.args.versions.now.items c.args.place c.in-Some.version.now c.in-Some.version.now within (c.in-Some.ensures.lookup.1 ∙ ap (λ (vs : List Version). get_or vs c.args.place c.in-Some.version.now) c.deref.ensures.value) c.if-not-stays.ensures
