use Rattle.co_world.proofs.world.World.dump.Goals as goal

pub dump-requires-clause-up : goal.dump-requires-clause-up
dump-requires-clause-up g c = let w = c.requires.up in (w.0, w.1.cluster, w.2)

pub returns-clause-rows : goal.returns-clause-rows
returns-clause-rows g c = λ s r. c.dump.ensures.rows s r.cluster

pub returns-clause-undos : goal.returns-clause-undos
returns-clause-undos g c = λ s r. c.dump.ensures.undos s r.cluster
