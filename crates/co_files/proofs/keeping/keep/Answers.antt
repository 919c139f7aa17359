use Rattle.std.proofs.Common.{◌∙◌, ap}
use Rattle.co_files.specs.Folder.{calls_at}
use Rattle.co_files.proofs.Files.{missing, pushed, pushed_others}
use Rattle.co_files.proofs.keeping.keep.Goals as goal

pub returns-clause-kept : goal.returns-clause-kept
returns-clause-kept c =
    ap (λ files. calls_at files c.args.spot) c.in_ok-push.ensures.items ∙ pushed c.args.spot c.args.files.now.items _ c.requires.spot (missing c.args.spot c.args.files.now.items c.requires.none)

pub returns-clause-others : goal.returns-clause-others
returns-clause-others c s other =
    ap (λ files. calls_at files s) c.in_ok-push.ensures.items ∙ pushed_others c.args.spot c.args.files.now.items _ c.requires.spot s other
