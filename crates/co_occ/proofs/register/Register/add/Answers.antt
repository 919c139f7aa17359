use Rattle.co_occ.proofs.Registering.{knows_lost, knows_read, knows_taken}
use Rattle.co_occ.proofs.register.Register.add.Goals as goal

pub invariant_of-self : goal.invariant_of-self
invariant_of-self c = knows_taken c.self.inside.oldest c.remove.new.self c.self.inside.reads c.note_read.new.reads c.args.t c.self.invariant c.remove.ensures.rest c.in-Err.ensures.err

pub invariant_of-self-in-Ok-renumber : goal.invariant_of-self-in-Ok-renumber
invariant_of-self-in-Ok-renumber c =
    knows_read c.self.inside.oldest c.renumber.new.stamps c.self.inside.reads c.note_read.new.reads c.args.t _ c.in-Ok.oldest c.self.invariant
    c.in-Ok.ensures.oldest c.in-Ok-renumber.ensures.ok c.in-Ok.ensures.reads

pub invariant_of-self-in-Err-renumber : goal.invariant_of-self-in-Err-renumber
invariant_of-self-in-Err-renumber c =
    knows_lost c.self.inside.oldest c.renumber.new.stamps c.self.inside.reads c.note_read.new.reads c.remove-in-Err-renumber.new.self c.args.t _ c.self.invariant
    c.in-Err-renumber.ensures.err c.in-Ok.ensures.reads c.remove-in-Err-renumber.ensures.rest
