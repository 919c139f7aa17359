use Rattle.std.proofs.Common.{ap, ◌≡◌, ◌∷◌, [], List, length, sym, refl, subst, inl, inr, ◌∙◌, slice_set, arith, ◌+◌}
use Rattle.std.specs.Prelude.{Err, reverse}
use Rattle.co_base.specs.declared.mark.Mark.{Mark}
use Rattle.co_base.specs.declared.node.Node.{Node}
use Rattle.co_record.specs.Format.{newest}
use Rattle.co_log.proofs.Answered.{fill_parts}
use Rattle.co_log.proofs.Spots.{spare_only}
use Rattle.co_log.specs.LogFile.{placed_from}
use Rattle.co_log.specs.Spare.{IsOverfull, filling}
use Rattle.co_node.specs.Answers.{IsAnswered}
use Rattle.co_node.specs.Writes.{filled_with}
use Rattle.co_node.proofs.Homes.{Wrote, fault_answered, filled_left, filled_wants, memory_answered, new_records, not_failed, old_records, told_of}
use Rattle.co_node.proofs.Opened.{left_before}
use Rattle.co_node.proofs.Sizes.{filled_is_overlong}
use Rattle.co_node.proofs.Spares.{fill_done, fill_ended}
use Rattle.co_node.proofs.Standing.{filled_newest, next_is}
use Rattle.co_node.proofs.spare.fill.Goals as goal

-- the one mark is put in its place
one_set : (marks : List Mark) (mark : Mark) → length marks ≡ 1 → slice_set marks 0 mark ≡ mark ∷ []
one_set [] mark one = absurd (omega (arith, one))
one_set (m ∷ []) mark one = refl
one_set (m ∷ n ∷ marks) mark one = absurd (omega (arith, one))

pub returns-in_err-marks-clause-answered : goal.returns-in_err-marks-clause-answered
returns-in_err-marks-clause-answered g c = λ owner l s.
    memory_answered owner c.args.log.now.spare.spot (IsOverfull c.args.log.now c.args.items.now) l.stable (filled_with owner l (reverse c.args.items.now)) c.args.log.now
    (g.H.Home.seen c.args.home.now) c.from_residual.result c.from_residual.ensures
    (left_before owner (g.H.Home.seen c.args.home.now) c.args.log.now l s c.requires.held c.lengths.ensures.within)

pub returns-in-Ok-clause-written : goal.returns-in-Ok-clause-written
returns-in-Ok-clause-written g c = λ owner l s.
    let closed = s.spare ∙ sym c.requires.stands.2.spare ∙ c.requires.stands.3 in
    fill_done owner c.args.log.now c.fill_spare.new.self l c.args.items.now _ _ c.in-Ok.mark c.of.result s closed (c.of.ensures ∙ one_set c.in_ok-marks.marks.items c.in-Ok.mark c.in_ok-marks.ensures) c.in-Ok.ensures.called

pub returns-in-Err-clause-written : goal.returns-in-Err-clause-written
returns-in-Err-clause-written g c = λ owner l s.
    let closed = s.spare ∙ sym c.requires.stands.2.spare ∙ c.requires.stands.3 in
    fill_ended owner c.args.log.now c.fill_spare.new.self l c.args.items.now _ _ c.in-Err.fault c.stopped.result s closed c.in-Err.ensures.called c.stopped.ensures

pub returns-in-Err-clause-answered : goal.returns-in-Err-clause-answered
returns-in-Err-clause-answered g c = λ owner l s.
    let log = c.args.log.now in
    let after = c.fill_spare.new.self in
    let old = g.H.Home.seen c.args.home.now in
    let new = g.H.Home.seen c.fill_spare.new.home in
    let did = c.in-Err.ensures.called in
    let items = c.args.items.now in
    let parts = fill_parts log after old new items (Err c.in-Err.fault) did.answered in
    let that = filled_with owner l (reverse items) in
    let wrote : Wrote log after log.spare.spot (IsOverfull log items) l.stable that old new (Err c.in-Err.fault) =
    record {
      spots = c.requires.held.spots;
      its = inr refl;
      parts = parts;
      overlong = filled_is_overlong owner log l items s;
      untouched = λ long. ap g.H.Home.seen (c.in-Err.ensures.untouched long).1;
      broken = λ is told.
          let files = told_of new.file log c.requires.held.spots told in
          let next = next_is owner log l s (λ last. not_failed log.spare.spot log.spare.spot c.in-Err.fault is (parts.refused (inr last))) in
          elim (filled_left log s.items items files.current.bytes files.spare.bytes c.in-Err.fault log.spare.spot is (did.current s.items s.ordered files.current files.spare files.is_current files.is_spare)) [
            | inl kept ↦ (s.items, old_records new.file log log.version log.generation s.items c.requires.held.spots did.short files kept, inl (sym s.stable))
            | inr filled ↦ (placed_from 5 (filling log items), new_records new.file log newest (log.generation + 1) (placed_from 5 (filling log items)) c.requires.held.spots did.short files filled, inr (filled_newest owner log l items s next))
          ];
      wanting = λ is told.
          let files = told_of new.file log c.requires.held.spots told in
          let kept = filled_wants log s.items items files.current.bytes files.spare.bytes c.in-Err.fault is (did.current s.items s.ordered files.current files.spare files.is_current files.is_spare) in
          (s.items, old_records new.file log log.version log.generation s.items c.requires.held.spots did.short files kept, inl (sym s.stable));
      short = did.short;
      rest = did.rest;
    } in
    subst (λ (n : Node). IsAnswered n log.spare.spot (IsOverfull log items) l.stable that after old new c.stopped.result) s.owned
    (fault_answered log after log.spare.spot (IsOverfull log items) l.stable that old new _ c.in-Err.fault c.stopped.result wrote c.stopped.ensures)

pub returns-in-Err-clause-rest : goal.returns-in-Err-clause-rest
returns-in-Err-clause-rest g c = spare_only c.args.log.now c.requires.held.spots (g.H.Home.seen c.args.home.now) (g.H.Home.seen c.fill_spare.new.home) c.in-Err.ensures.called.rest
