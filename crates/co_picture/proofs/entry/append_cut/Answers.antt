use Rattle.co_picture.proofs.Texts.{long_front}
use Rattle.co_picture.proofs.entry.append_cut.Goals as goal

pub slice_bounds-shown-end : goal.slice_bounds-shown-end
slice_bounds-shown-end c = long_front 40 c.args.text.now c.if-most-text.true
