use Rattle.std.proofs.Common.{◌≡◌, sym, ◌∙◌, add-one, suc, ◌+◌}
use Rattle.co_mv.specs.Chains.{rewritten_all}
use Rattle.co_mv.specs.Kept.{needed}
use Rattle.co_mv.specs.Versions.{is_kept}
use Rattle.co_state.specs.Table.{put}
use Rattle.co_mv.proofs.Archiving.{keeps_installed}
use Rattle.co_mv.proofs.Forgetting.{noted_put, noted_none}
use Rattle.co_mv.proofs.archive.Archive.install.Goals as goal

pub returns-in_ok-put-clause-keeps : goal.returns-in_ok-put-clause-keeps
returns-in_ok-put-clause-keeps c = λ base is txn k.
    let s = c.args.self.now.snapshots in
    let number : s.installs + 1 ≡ suc s.installs = add-one s.installs in
    keeps_installed c.args.self.now _ base is txn c.args.changes.now (λ i. record s { installs = number i })
    (c.in_ok-write_all.ensures ∙ (λ i. rewritten_all (is_kept (needed (record s { installs = number i }))) (number i) c.args.self.now.chains c.args.changes.now))
    (noted_put c.args.self.now _ (suc s.installs) c.args.changes.now c.in_ok-keys.keys (c.in_ok-put.ensures ∙ (λ i. put c.args.self.now.recents (number i) c.in_ok-keys.keys)) c.in_ok-keys.ensures (sym c.has_readers.ensures ∙ c.if-has_readers.true)) k

pub returns-else-has_readers-clause-keeps : goal.returns-else-has_readers-clause-keeps
returns-else-has_readers-clause-keeps c = λ base is txn k.
    let s = c.args.self.now.snapshots in
    let number : s.installs + 1 ≡ suc s.installs = add-one s.installs in
    keeps_installed c.args.self.now _ base is txn c.args.changes.now (λ i. record s { installs = number i })
    (c.in_ok-write_all.ensures ∙ (λ i. rewritten_all (is_kept (needed (record s { installs = number i }))) (number i) c.args.self.now.chains c.args.changes.now))
    (noted_none c.args.self.now (suc s.installs) c.args.changes.now (sym c.has_readers.ensures ∙ c.if-has_readers.false)) k
