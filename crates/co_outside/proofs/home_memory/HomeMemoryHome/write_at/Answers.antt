use Rattle.std.proofs.Common.{◌∙◌, ap, length, List, Bool}
use Rattle.co_outside.specs.declared.stored.Stored.{Stored}
use Rattle.co_outside.specs.Stored.{bytes_at, clean_at}
use Rattle.co_outside.specs.declared.home.HomeCall.TheVariants.{WriteAt}
use Rattle.co_outside.specs.HomeMemory.{memory_seen}
use Rattle.co_outside.proofs.Dues.{due_handed, due_other, ok_no_fault, memory_no_fault}
use Rattle.co_outside.proofs.TornFiles.{not_laid, at_error}
use Rattle.co_outside.proofs.home_memory.HomeMemoryHome.write_at.Goals as goal

pub returns-in_err-begin-clause-torn : goal.returns-in_err-begin-clause-torn
returns-in_err-begin-clause-torn c =
    let spot = c.args.spot in
    let same = ap (λ (files : List Stored). bytes_at files spot) c.begin.ensures.same.files in
    at_error c.from_residual.result _ (not_laid c.args.self.now.files.items c.begin.new.self.files.items c.args.self.now.clean c.begin.new.self.clean spot c.args.at (length c.args.piece.now) same (λ part. ap (λ (marks : List Bool). clean_at marks spot) c.begin.ensures.same.marks ∙ c.mark.ensures.marked part))

pub returns-in_err-lay_at-clause-torn : goal.returns-in_err-lay_at-clause-torn
returns-in_err-lay_at-clause-torn c =
    let spot = c.args.spot in
    let same = c.in_err-lay_at.ensures.stays ∙ ap (λ (files : List Stored). bytes_at files spot) c.begin.ensures.same.files in
    at_error c.from_residual-in_err-lay_at.result _ (not_laid c.args.self.now.files.items c.lay_at.new.files.items c.args.self.now.clean c.begin.new.self.clean spot c.args.at (length c.args.piece.now) same (λ part. ap (λ (marks : List Bool). clean_at marks spot) c.begin.ensures.same.marks ∙ c.mark.ensures.marked part))

pub returns-in_err-begin-clause-due : goal.returns-in_err-begin-clause-due
returns-in_err-begin-clause-due c = due_handed c.args.spot WriteAt (memory_seen c.args.self.now) (memory_seen c.begin.new.self) c.begin.result c.from_residual.result c.in_err-begin.field-0.0 c.in_err-begin.was c.from_residual.ensures.1 c.begin.ensures.due

pub returns-in_err-lay_at-clause-due : goal.returns-in_err-lay_at-clause-due
returns-in_err-lay_at-clause-due c =
    due_other c.args.spot WriteAt (memory_seen c.args.self.now) (memory_seen c.begin.new.self) c.begin.result c.from_residual-in_err-lay_at.result (ok_no_fault c.begin.result _ c.in_ok-begin.was) (memory_no_fault c.from_residual-in_err-lay_at.result c.from_residual-in_err-lay_at.ensures.1) c.begin.ensures.due
