use Rattle.std.proofs.Common.{Some, ap, ◌∙◌}
use Rattle.co_state.specs.Table.{look}
use Rattle.co_undecided.specs.declared.entry.Entry.TheVariants.{Active}
use Rattle.co_undecided.specs.Kept.{changed}
use Rattle.co_undecided.proofs.Entering.{marked}
use Rattle.co_undecided.proofs.Standing.{not_held, held, marked_marks}
use Rattle.co_undecided.proofs.undecideds.Undecideds.mark.Goals as goal

pub returns-clause-stands : goal.returns-clause-stands
returns-clause-stands g c = λ b asked r active unvoted.
    let t = c.args.t in
    let idle = not_held (look b.voted t) unvoted in
    let os = held (look b.active t) active in
    record {
      engine = r.engine;
      index = r.index;
      entries = λ u. ap (λ es. look es u) c.change.ensures
          ∙ ap (λ n. look (changed c.args.self.now.entries t (Active n (Some c.args.mark)) (look c.args.self.now.entries t)) u) c.kept-kept.ensures.shown ∙ marked b asked _ t r.entries c.args.mark os.0 idle os.1 u;
      apart = r.apart;
      marks = marked_marks b.active b.voted asked r.apart r.marks t os.0 c.args.mark os.1;
    }
