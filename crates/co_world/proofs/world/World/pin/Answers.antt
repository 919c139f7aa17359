use Rattle.co_world.proofs.world.World.pin.Goals as goal
